-- A source and a sink over memory. Calls are counted from 1, and those whose numbers are listed fail.
use Rattle.std.specs.Prelude.{ℕ, ◌-◌, ◌==◌, ◌&&◌, ◌||◌, min, Bool, true, false, List, [], ◌++◌, length, drop}
use Rattle.std.specs.List.{list_any}
use Rattle.fault_counts.specs.Counts.{next_count}

-- a source: the bytes that are left, the numbers of the calls that fail, the greatest piece of one call,
-- the calls that were made, and how many of them failed
pub record MemoryInput : Type 0 where
  pub left : List ℕ
  pub failing : List ℕ
  pub piece : ℕ
  pub calls : ℕ
  pub faults : ℕ

-- a sink: the bytes that it holds, the room that is left, as for a source, and whether it is finished
pub record MemoryOutput : Type 0 where
  pub written : List ℕ
  pub room : ℕ
  pub failing : List ℕ
  pub piece : ℕ
  pub calls : ℕ
  pub faults : ℕ
  pub finished : Bool

-- a source of these bytes
abbrev pub new_input : List ℕ → List ℕ → ℕ → MemoryInput
new_input bytes failing piece =
    record { left = bytes; failing = failing; piece = piece; calls = 0; faults = 0 }

-- an empty sink
abbrev pub new_output : ℕ → List ℕ → ℕ → MemoryOutput
new_output room failing piece =
    record {
      written = [];
      room = room;
      failing = failing;
      piece = piece;
      calls = 0;
      faults = 0;
      finished = false;
    }

-- whether the call after these many calls is listed
abbrev pub is_next_listed : List ℕ → ℕ → Bool
is_next_listed failing calls = list_any (λ number. number == next_count calls) failing

-- how many bytes a take into a buffer of this length gives
abbrev pub taken_count : MemoryInput → ℕ → ℕ
taken_count source room = min room (min source.piece (length source.left))

-- the source after a take of these many bytes
abbrev pub after_take : MemoryInput → ℕ → MemoryInput
after_take source count =
    record source { left = drop count source.left; calls = next_count source.calls }

-- the source after a failed take
abbrev pub after_failed_take : MemoryInput → MemoryInput
after_failed_take source =
    record source { calls = next_count source.calls; faults = next_count source.faults }

-- whether the next put fails
abbrev pub is_put_failing : MemoryOutput → Bool
is_put_failing sink = is_next_listed sink.failing sink.calls || sink.room == 0

-- how many of these many bytes a put takes
abbrev pub put_count : MemoryOutput → ℕ → ℕ
put_count sink offered = min offered (min sink.piece sink.room)

-- the sink after a put of these bytes
abbrev pub after_put : MemoryOutput → List ℕ → MemoryOutput
after_put sink bytes =
    record sink {
      written = sink.written ++ bytes;
      room = sink.room - length bytes;
      calls = next_count sink.calls;
      finished = sink.finished && length bytes == 0;
    }

-- the sink after a finish
abbrev pub after_finish : MemoryOutput → MemoryOutput
after_finish sink = record sink { calls = next_count sink.calls; finished = true }

-- the sink after a failed call
abbrev pub after_failed_call : MemoryOutput → MemoryOutput
after_failed_call sink =
    record sink { calls = next_count sink.calls; faults = next_count sink.faults }
