-- How far a mesh was read, what was given up to there, and what is left.
use Rattle.std.specs.Prelude.{◌≡◌, ℕ, ◌+◌, ◌≤◌, [], ◌∷◌, if◌then◌else◌, Option, Some, None, Result, Ok, Err}
use Rattle.std.specs.Option.{option_map}
use Rattle.fault_counts.specs.Told.{Told}
use Rattle.mesh_items.specs.declared.items.Item.{Item}
use Rattle.mesh_items.specs.declared.items.Item.TheVariants.{Counts}
use Rattle.mesh_items.specs.declared.items.MeshFault.{MeshFault}
use Rattle.mesh_items.specs.Reading.{Reading, Given, Gives, IsComplete, item_then, fault_alone, nothing_more}
use Rattle.oemm_lines.specs.declared.parts.Line.{Line}
use Rattle.oemm_lines.specs.Stream.{Flow, Stream, end_of, flow_left}
use Rattle.mesh_items.specs.Results.{IsOfText}
use Rattle.mesh_items.specs.Progress.{AreLimited, given_by}
use Rattle.off_reader.specs.declared.progress.Progress.{Progress}
use Rattle.off_reader.specs.Grammar.{Filled, body_of, filled, from_counts, has_words, mesh_reading}

-- the lines with words that a stream has left, in a source of so many bytes, where both are told
abbrev pub filled_by : Option ℕ → Option Flow → Option Filled
filled_by None flow = None
filled_by (Some size) None = None
filled_by (Some size) (Some flow) = Some (filled size flow)

abbrev pub filled_left : {S : Type 0} → (S → Told) → Stream S → Option Filled
filled_left told s = filled_by (end_of told s) (flow_left told s)

-- a line with words before those that are left
abbrev pub led_by : Line → Filled → Filled
led_by line f = record { lines = line ∷ f.lines; end = f.end }

-- any line before them: one without words is none of them
abbrev pub with_line : Line → Filled → Filled
with_line line f = record f { lines = if has_words line then line ∷ f.lines else f.lines }

-- no line, and this fault
abbrev pub ended_by : MeshFault → Filled
ended_by fault = record { lines = []; end = fault }

-- what a function returned of what was to be read: a part of it, of which whole makes it with what is left, or the
-- fault in its place, where that is one of the text
abbrev pub Pops : {X Y : Type 0} → (X → Filled → Y) → (MeshFault → Y) → Option Y → Result X MeshFault → Option Filled → Type 0
Pops whole stopped old (Ok x) left = old ≡ option_map (whole x) left
Pops whole stopped old (Err fault) left = IsOfText fault → old ≡ option_map (λ f. stopped fault) left

-- a mesh from the line of its counts on
abbrev pub counts_at : Filled → Reading
counts_at f = from_counts f.end f.lines

-- the vertices and faces to come, behind so many of them
abbrev pub body_at : ℕ → ℕ → ℕ → Filled → Reading
body_at vertices faces done f = body_of vertices faces done f.end f.lines

-- the counts, and what stands behind them
abbrev pub counts_before : ℕ × ℕ → Filled → Reading
counts_before counts f = item_then (Counts counts.0 counts.1) (body_at counts.0 counts.1 0 f)

-- a vertex or a face, and what stands behind it
abbrev pub item_before : ℕ → ℕ → ℕ → Item → Filled → Reading
item_before vertices faces done item f = item_then item (body_at vertices faces (done + 1) f)

-- the reading of what is left, by the counts once they were read
abbrev pub rest_by : Option (ℕ × ℕ) → ℕ → Filled → Reading
rest_by None done f = mesh_reading f
rest_by (Some counts) done f = body_at counts.0 counts.1 done f

abbrev pub rest_of : Progress → Filled → Reading
rest_of p f = rest_by p.counts p.done f

-- what was given
abbrev pub given_of : Progress → Option MeshFault → Given
given_of p fault = given_by p.counts p.done fault

-- no more was read than the counts say
abbrev pub IsCounted : Option (ℕ × ℕ) → ℕ → Type 0
IsCounted None done = done ≡ 0
IsCounted (Some counts) done = AreLimited counts.0 counts.1 × (done ≤ counts.0 + counts.1)

-- an item and what stands behind it, or nothing
abbrev pub stepped_reading : Option (Item × Progress) → Filled → Reading
stepped_reading None f = nothing_more
stepped_reading (Some r) f = item_then r.0 (rest_of r.1 f)

-- the item may be given next, or all that was counted is given
abbrev pub GivesNext : Progress → Option (Item × Progress) → Type 0
GivesNext p None = IsComplete (given_of p None)
GivesNext p (Some r) = Gives (given_of p None) r.0 (given_of r.1 None) × IsCounted r.1.counts r.1.done

-- what is left behind a fault is that fault again
abbrev pub left_by : Option MeshFault → Reading → Reading
left_by None rest = rest
left_by (Some fault) rest = fault_alone fault

-- a reader: the lines that it reads, how far it has come, and the fault that was answered
pub record Reader (S : Type 0) : Type 0 where
  pub lines : Stream S
  pub progress : Progress
  pub fault : Option MeshFault

-- what it has still to give, where the source tells its bytes
abbrev pub reading_left : {S : Type 0} → (S → Told) → Reader S → Option Reading
reading_left told r = option_map (λ f. left_by r.fault (rest_of r.progress f)) (filled_left told r.lines)
