use Rattle.face_rings.proofs.Fans.{distinct_in, fan_of, ring_of}
use Rattle.face_rings.proofs.laws.fan_laws.Goals as goal

pub returns-clause-path : goal.returns-clause-path
returns-clause-path c = fan_of

pub returns-clause-ring : goal.returns-clause-ring
returns-clause-ring c = λ ts v r distinct. ring_of ts v r (distinct_in r.names distinct)
