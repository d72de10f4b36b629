-- What contracts see of the objects that a command reads and writes.
use Rattle.std.specs.Prelude.{◌≡◌, ℕ, ◌≤◌, Bool, true, List}
use Rattle.fault_counts.specs.Counts.{Rose, IsCalm}
use Rattle.fault_counts.specs.Told.{Told, Puts, PutsPrefix}
pub use Rattle.mesh_soup.specs.Taken.{HasTaken}
use Rattle.oemm_io.specs.Whole.{StaysOpen}

-- a source: the bytes that it has left, if it tells them, and how often it has failed
pub record Input : Type 0 where
  pub left : Told
  pub faults : ℕ

abbrev pub input : Told → ℕ → Input
input left faults = record { left = left; faults = faults }

-- a sink: the bytes that it holds, if it tells them, how often it has failed, and whether it is finished
pub record Output : Type 0 where
  pub written : Told
  pub faults : ℕ
  pub finished : Bool

abbrev pub output : Told → ℕ → Bool → Output
output written faults finished = record { written = written; faults = faults; finished = finished }

pub record Outside : Type 0 where
  pub mesh : Input
  pub script : Input
  pub out : Output
  pub report : Output

-- an object has failed: its count of faults has risen, and has not fallen
pub record HasFailed (before now : ℕ) : Type 0 where
  pub kept : before ≤ now
  pub rose : Rose before now

-- the text was put, all of it and nothing else, the sink is finished, and it hasn't failed
pub record Wrote (before after : Output) (text : List ℕ) : Type 0 where
  pub whole : Puts before.written after.written text
  pub finished : after.finished ≡ true
  pub calm : after.faults ≡ before.faults

-- the sink failed, a prefix of the text was put, and the sink isn't finished unless it was before
pub record FailedIn (before after : Output) (text : List ℕ) : Type 0 where
  pub cause : HasFailed before.faults after.faults
  pub front : PutsPrefix before.written after.written text
  pub unfinished : StaysOpen before.finished after.finished

-- both sinks are as they were
pub record IsUnwritten (before after : Outside) : Type 0 where
  pub out : after.out ≡ before.out
  pub report : after.report ≡ before.report

-- nothing has failed, and no count of faults stands at its end
pub record AllCalm (before after : Outside) : Type 0 where
  pub mesh : IsCalm before.mesh.faults after.mesh.faults
  pub script : IsCalm before.script.faults after.script.faults
  pub out : IsCalm before.out.faults after.out.faults
  pub report : IsCalm before.report.faults after.report.faults
