use Rattle.build_laws.proofs.Crashes.{crash_aside, crash_build, done_build, refused_aside}
use Rattle.build_laws.proofs.laws.crash_laws.Goals as goal

pub returns-clause-aside : goal.returns-clause-aside
returns-clause-aside g c changes last old new result content turn aside calm =
    crash_aside changes last _ _ aside result content turn calm

pub returns-clause-refused : goal.returns-clause-refused
returns-clause-refused g c changes last old new fail content now turn aside was is =
    refused_aside changes last _ _ aside fail content now turn was is

pub returns-clause-build : goal.returns-clause-build
returns-clause-build g c spell b sheets index old new result content turn unbuilt base puts last calm =
    crash_build spell b sheets index _ _ content unbuilt base puts last result turn calm

pub returns-clause-built : goal.returns-clause-built
returns-clause-built g c spell b sheets index old new v content now turn unbuilt base puts last was is =
    done_build spell b sheets index _ _ content unbuilt base puts last v now turn was is
