-- What is known of the system's sources and sinks, which tell no bytes.
use Rattle.std.specs.Prelude.{ℕ, ◌==◌, ◌&&◌, not, Bool, true, false, List, Result, Ok, Err}
use Rattle.fault_counts.specs.Counts.{next_count}

-- a file that is read: the bytes of its path, and how often it failed
pub record FileInput : Type 0 where
  pub path : List ℕ
  pub faults : ℕ

-- how often a sink failed, and whether it is finished
pub record SinkState : Type 0 where
  pub faults : ℕ
  pub finished : Bool

-- a file that is written: the bytes of its path, and its state as a sink
pub record FileOutput : Type 0 where
  pub path : List ℕ
  pub state : SinkState

-- a sink before its first call
abbrev pub fresh : SinkState
fresh = record { faults = 0; finished = false }

-- whether the system failed, or took none of these many bytes where there are some
abbrev pub takes_nothing : {E : Type 0} → Result ℕ E → ℕ → Bool
takes_nothing (Ok count) offered = count == 0 && not (offered == 0)
takes_nothing (Err e) offered = true

-- the sink after a put that took this many bytes
abbrev pub after_put : SinkState → ℕ → SinkState
after_put sink count = record sink { finished = sink.finished && count == 0 }

-- the sink after a failed call
abbrev pub after_fault : SinkState → SinkState
after_fault sink = record sink { faults = next_count sink.faults }
