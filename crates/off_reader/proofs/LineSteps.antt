-- What is left behind a line that was taken, and where none is left.
use Rattle.std.proofs.Common.{◌≡◌, ℕ, ◌+◌, true, false, List, [], length, Option, Some, None, IfSome, refl, arith}
use Rattle.std.specs.Option.{option_map}
use Rattle.fault_counts.specs.Told.{Told, IsAtEnd}
use Rattle.mesh_items.specs.declared.items.MeshFault.TheVariants.{Text}
use Rattle.mesh_items.specs.declared.items.MeshWhy.TheVariants.{Cut}
use Rattle.oemm_lines.specs.declared.parts.Line.{Line}
use Rattle.oemm_lines.specs.declared.parts.LineFault.{LineFault}
use Rattle.oemm_lines.specs.declared.parts.LineFault.TheVariants as line
use Rattle.oemm_lines.specs.Stream as stream
use Rattle.oemm_lines.specs.Stream.{Flow, Stream, left_with, left_of, end_of, flow_left, IsDrained, StaysPut, SaysFault}
use Rattle.mesh_items.specs.Results.{IsOfText}
use Rattle.mesh_items.specs.Faults.{fault_of}
use Rattle.off_reader.specs.Grammar.{Filled, has_words}
use Rattle.off_reader.specs.Reader.{filled_by, filled_left, led_by, with_line, ended_by}

-- a line was taken
pub filled_line : (size old_size : Option ℕ) (old new : Option Flow) (l : Line) → size ≡ old_size → old ≡ option_map (stream.line_then l) new → filled_by old_size old ≡ option_map (with_line l) (filled_by size new)
filled_line None old_size old new l same led = rw (← same) refl
filled_line (Some size) old_size old None l same led = rw (← same, led) refl
filled_line (Some size) old_size old (Some flow) l same led = rw (← same, led) refl

-- at the end all bytes were given
end_at : (at : ℕ) (ahead : List ℕ) (left : Told) → ahead ≡ [] → IsAtEnd left → IfSome (option_map (λ rest. at + length rest) (left_with ahead left)) (λ size. size ≡ at)
end_at at ahead None empty end = tt
end_at at ahead (Some rest) empty end = rw (empty, end) (omega arith)

cut_at : (at : ℕ) (size old_size : Option ℕ) (old new : Option Flow) → IfSome size (λ n. n ≡ at) → size ≡ old_size → IfSome old (λ f. f ≡ stream.nothing_more) → new ≡ old → filled_by old_size old ≡ option_map (λ f. ended_by (Text at Cut)) (filled_by size new)
cut_at at None old_size old new is same none stays = rw (← same) refl
cut_at at (Some size) old_size None new is same none stays = rw (← same, stays) refl
cut_at at (Some size) old_size (Some flow) new is same none stays = rw (← same, stays, none, is) refl

-- no line is left
pub filled_cut : {S : Type 0} (told : S → Told) (old new : Stream S) → IsDrained told new → end_of told new ≡ end_of told old → IfSome (flow_left told old) (λ f. f ≡ stream.nothing_more) → flow_left told new ≡ flow_left told old → filled_left told old ≡ option_map (λ f. ended_by (Text new.at Cut)) (filled_left told new)
filled_cut told old new drained same none stays =
    cut_at new.at (end_of told new) (end_of told old) (flow_left told old) (flow_left told new)
    (end_at new.at new.ahead (told new.source) drained.0 drained.1) same none stays

-- a fault of the lines
stopped_at : (size old_size : Option ℕ) (old new : Option Flow) (fault : LineFault) → size ≡ old_size → IfSome old (λ f. f ≡ stream.fault_alone fault) → new ≡ old → filled_by old_size old ≡ option_map (λ f. ended_by (fault_of fault)) (filled_by size new)
stopped_at None old_size old new fault same alone stays = rw (← same) refl
stopped_at (Some size) old_size None new fault same alone stays = rw (← same, stays) refl
stopped_at (Some size) old_size (Some flow) new fault same alone stays =
    rw (← same, stays, alone) refl

stopped_by : (size old_size : Option ℕ) (old new : Option Flow) (fault : LineFault) → size ≡ old_size → SaysFault old fault new → IsOfText (fault_of fault) → filled_by old_size old ≡ option_map (λ f. ended_by (fault_of fault)) (filled_by size new)
stopped_by size old_size old new line.Read same says text = absurd text
stopped_by size old_size old new (line.TooLong at) same says text = stopped_at size old_size old new (line.TooLong at) same says.0 says.1
stopped_by size old_size old new (line.Bytes taken) same says text = stopped_at size old_size old new (line.Bytes taken) same says.0 says.1
stopped_by size old_size old new line.Memory same says text = absurd text

-- the lines stop with a fault
pub filled_fault : {S : Type 0} (told : S → Told) (old new : Stream S) (fault : LineFault) → StaysPut told old new → SaysFault (flow_left told old) fault (flow_left told new) → IsOfText (fault_of fault) → filled_left told old ≡ option_map (λ f. ended_by (fault_of fault)) (filled_left told new)
filled_fault told old new fault stays says text =
    stopped_by (end_of told new) (end_of told old) (flow_left told old) (flow_left told new) fault
    (rw (stays.left, stays.place) refl) says text

-- a line with words is the first, and one without is none
pub skipped : (l : Line) (old new : Option Filled) → has_words l ≡ false → old ≡ option_map (with_line l) new → old ≡ new
skipped l old None blank led = led
skipped l old (Some f) blank led = rw led (rw blank refl)

pub first_filled : (l : Line) (old new : Option Filled) → has_words l ≡ true → old ≡ option_map (with_line l) new → old ≡ option_map (led_by l) new
first_filled l old None some led = led
first_filled l old (Some f) some led = rw led (rw some refl)
