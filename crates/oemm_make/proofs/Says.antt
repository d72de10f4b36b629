-- What the lines of tasks and edits say.
use Rattle.std.proofs.Common.{◌≡◌, ℕ, ◌^◌, ◌<◌, ◌≤◌, true, false, ◌&&◌, List, [], ◌∷◌, ◌++◌, length, map, Option, Some, Result, Ok, ℤ, pos, negsuc, ◌≤ℤ◌, int_le, refl, ap, sym, ◌∙◌, arith, codes, lt-ltb, le-ltb, append_assoc}
use Rattle.std.specs.List.{AllByRecursion, flat_map}
use Rattle.std.specs.Fmt.{decimal, signed_decimal}
use Rattle.std.proofs.lemmas.Int.{ints}
use Rattle.std.proofs.lemmas.List.{map-append}
use Rattle.std.proofs.lemmas.List.Elements.{recursion_from_All}
use Rattle.std.proofs.lemmas.Grind.{flat_map-append}
use Rattle.oemm_limits.specs.declared.TheConstants.{LAST_LANE, MOST_COST}
use Rattle.oemm_octree.specs.declared.points.Point.{Point}
use Rattle.oemm_octree.specs.Octree.{on_grid, IsOnGrid}
use Rattle.mesh_data.specs.declared.edits.Edit.{Edit}
use Rattle.mesh_data.specs.declared.edits.Edit.TheVariants.{Move, Collapse, Flip, Simplify}
use Rattle.mesh_data.specs.declared.edits.Task.{Task}
use Rattle.oemm_lists.specs.TextLine.{line}
use Rattle.oemm_lines.specs.Numbers.{unsigned_of, integer_of}
use Rattle.oemm_lines.proofs.NumberLaws.{unsigned_of-decimal, integer_of-decimal}
use Rattle.commit_journal.specs.Text.{edit_line}
use Rattle.edit_script.specs.Line.{coordinate_of, point_of, name_of, most_of, triangles_of, is_box, task_within, task_says, move_says, collapse_says, flip_says, simplify_says, line_says}
use Rattle.edit_script.specs.Ranges.{IsBox, IsCostBound}
use Rattle.edit_script.specs.Tells.{telling}
use Rattle.edit_script.specs.declared.fault.ScriptWhy.{ScriptWhy}
use Rattle.edit_script.specs.declared.line.LineMeaning.{LineMeaning}
use Rattle.edit_script.specs.declared.line.LineMeaning.TheVariants.{TaskLine, EditLine}
use Rattle.oemm_make.specs.Fits.{FitsEdit, FitsTask}
use Rattle.oemm_make.specs.Text.{script_text, task_line, task_text}
use Rattle.oemm_make.proofs.Ink.{IsInked, inked_by_test, longer, name_inked, coordinate_inked, grid_small, bound_inked, bound_below, no_bound}
use Rattle.oemm_make.proofs.Lines.{IsWord, IsWritten}

-- the words of a task's line, and of an edit's
abbrev pub task_words : Task → List (List ℕ)
task_words task =
    codes "task" ∷ decimal task.lane
    ∷ signed_decimal task.low.x ∷ signed_decimal task.low.y ∷ signed_decimal task.low.z
    ∷ signed_decimal task.high.x ∷ signed_decimal task.high.y ∷ signed_decimal task.high.z ∷ []

abbrev pub edit_words : Edit → List (List ℕ)
edit_words (Move v to) = codes "move" ∷ decimal v ∷ signed_decimal to.x ∷ signed_decimal to.y ∷ signed_decimal to.z ∷ []
edit_words (Collapse u v max) = codes "collapse" ∷ decimal u ∷ decimal v ∷ signed_decimal max ∷ []
edit_words (Flip a b) = codes "flip" ∷ decimal a ∷ decimal b ∷ []
edit_words (Simplify max target) = codes "simplify" ∷ signed_decimal max ∷ decimal target ∷ []

-- those of a task's lines
abbrev pub lines_of : Task → List (List (List ℕ))
lines_of task = task_words task ∷ map edit_words task.edits

edit_line_is : (edit : Edit) → edit_line edit ≡ line (edit_words edit)
edit_line_is (Move v to) = refl
edit_line_is (Collapse u v max) = refl
edit_line_is (Flip a b) = refl
edit_line_is (Simplify max target) = refl

edit_lines_are : (edits : List Edit) → flat_map edit_line edits ≡ flat_map line (map edit_words edits)
edit_lines_are [] = refl
edit_lines_are (edit ∷ edits) =
    ap (λ (t : List ℕ). t ++ flat_map edit_line edits) (edit_line_is edit)
    ∙ ap (λ (t : List ℕ). line (edit_words edit) ++ t) (edit_lines_are edits)

pub text_is : (tasks : List Task) → script_text tasks ≡ flat_map line (flat_map lines_of tasks)
text_is [] = refl
text_is (task ∷ tasks) =
    ap (λ (t : List ℕ). (task_line task ++ t) ++ script_text tasks) (edit_lines_are task.edits)
    ∙ ap (λ (t : List ℕ). (task_line task ++ flat_map line (map edit_words task.edits)) ++ t) (text_is tasks)
    ∙ sym (flat_map-append line (lines_of task) (flat_map lines_of tasks))

-- ---- numbers

coordinate_found : (word : List ℕ) (n : ℤ) → integer_of word ≡ Some n → on_grid n ≡ true → coordinate_of word ≡ Some n
unfolding coordinate_of
coordinate_found word n found grid = rw (found, grid)

coordinate_read : (z : ℤ) → on_grid z ≡ true → coordinate_of (signed_decimal z) ≡ Some z
coordinate_read z grid =
    let small = grid_small z grid in
    coordinate_found (signed_decimal z) z (integer_of-decimal z (omega arith)) grid

point_found : (a b c : List ℕ) (p : Point) → coordinate_of a ≡ Some p.x → coordinate_of b ≡ Some p.y → coordinate_of c ≡ Some p.z → point_of a b c ≡ Some p
unfolding point_of
point_found a b c p x y z = rw (x, y, z)

point_read : (p : Point) → IsOnGrid p → point_of (signed_decimal p.x) (signed_decimal p.y) (signed_decimal p.z) ≡ Some p
point_read p grid =
    point_found (signed_decimal p.x) (signed_decimal p.y) (signed_decimal p.z) p
    (coordinate_read p.x grid.0) (coordinate_read p.y grid.1) (coordinate_read p.z grid.2)

name_found : (word : List ℕ) (n : ℕ) → unsigned_of word ≡ Some n → n < 2 ^ 32 → name_of word ≡ Some n
unfolding name_of
name_found word n found below = rw (found, lt-ltb n (2 ^ 32) below)

name_read : (n : ℕ) → n < 2 ^ 32 → name_of (decimal n) ≡ Some n
name_read n below = name_found (decimal n) n (unsigned_of-decimal n (omega arith)) below

most_found : (word : List ℕ) (n : ℕ) → unsigned_of word ≡ Some n → n ≤ MOST_COST → most_of word ≡ Some (pos n)
unfolding most_of
most_found word n found below = rw (found, le-ltb MOST_COST n below)

most_read : (max : ℤ) → IsCostBound max → most_of (signed_decimal max) ≡ Some max
most_read (pos n) bound =
    let below : n ≤ MOST_COST = bound_below n bound in
    most_found (decimal n) n (unsigned_of-decimal n (omega arith)) below
most_read (negsuc n) bound = absurd (no_bound n bound)

triangles_found : (word : List ℕ) (n : ℕ) → unsigned_of word ≡ Some n → n ≤ 2 ^ 24 → triangles_of word ≡ Some n
unfolding triangles_of
triangles_found word n found below = rw (found, le-ltb (2 ^ 24) n below)

triangles_read : (n : ℕ) → n ≤ 2 ^ 24 → triangles_of (decimal n) ≡ Some n
triangles_read n below = triangles_found (decimal n) n (unsigned_of-decimal n (omega arith)) below

-- ---- lines

pub le_true : (a b : ℤ) → a ≤ℤ b → int_le a b ≡ true
le_true a b le = grind (arith, ints)

box_holds : (low high : Point) → IsBox low high → is_box low high ≡ true
box_holds low high box = rw (le_true low.x high.x box.x, le_true low.y high.y box.y, le_true low.z high.z box.z)

within_holds : (lane : ℕ) (low high : Point) → lane ≤ LAST_LANE → IsBox low high → task_within lane low high ≡ Ok (TaskLine lane low high)
within_holds lane low high below box = rw (le-ltb LAST_LANE lane below, box_holds low high box)

task_told : (task : Task) → FitsTask task → line_says (task_words task) ≡ Ok (TaskLine task.lane task.low task.high)
unfolding line_says task_says
task_told task fits =
    let lane : task.lane ≤ 63 = fits.lane in
    rw (unsigned_of-decimal task.lane (omega arith), point_read task.low fits.low, point_read task.high fits.high)
    (within_holds task.lane task.low task.high fits.lane fits.box)

edit_told : (edit : Edit) → FitsEdit edit → line_says (edit_words edit) ≡ Ok (EditLine edit)
unfolding line_says move_says collapse_says flip_says simplify_says
edit_told (Move v to) fits = rw (name_read v fits.0, point_read to fits.1)
edit_told (Collapse u v max) fits = rw (name_read u fits.0, name_read v fits.1, most_read max fits.2)
edit_told (Flip a b) fits = rw (name_read a fits.0, name_read b fits.1)
edit_told (Simplify max target) fits = rw (most_read max fits.0, triangles_read target fits.1)

edits_told : (edits : List Edit) → AllByRecursion FitsEdit edits →
    map line_says (map edit_words edits) ≡ map (λ edit. Ok (EditLine edit)) edits
edits_told [] fits = refl
edits_told (edit ∷ edits) fits =
    ap (λ (m : Result LineMeaning ScriptWhy). m ∷ map line_says (map edit_words edits)) (edit_told edit fits.0)
    ∙ ap (λ (ms : List (Result LineMeaning ScriptWhy)). Ok (EditLine edit) ∷ ms) (edits_told edits fits.1)

lines_told : (task : Task) → FitsTask task → map line_says (lines_of task) ≡ telling task
lines_told task fits =
    ap (λ (m : Result LineMeaning ScriptWhy). m ∷ map line_says (map edit_words task.edits)) (task_told task fits)
    ∙ ap (λ (ms : List (Result LineMeaning ScriptWhy)). Ok (TaskLine task.lane task.low task.high) ∷ ms)
    (edits_told task.edits (recursion_from_All FitsEdit task.edits fits.each))

pub all_told : (tasks : List Task) → AllByRecursion FitsTask tasks → map line_says (flat_map lines_of tasks) ≡ flat_map telling tasks
all_told [] fits = refl
all_told (task ∷ tasks) fits =
    map-append line_says (lines_of task) (flat_map lines_of tasks)
    ∙ ap (λ (ms : List (Result LineMeaning ScriptWhy)). ms ++ map line_says (flat_map lines_of tasks)) (lines_told task fits.0)
    ∙ ap (λ (ms : List (Result LineMeaning ScriptWhy)). telling task ++ ms) (all_told tasks fits.1)

-- ---- ink

wide : (word : List ℕ) → IsInked 10 word → IsWord word
wide word inked = longer 10 40 word (omega arith) inked

task_written : (task : Task) → FitsTask task → IsWritten (task_words task)
task_written task fits =
    let lane : task.lane ≤ 63 = fits.lane in
    record {
      some = omega arith;
      few = omega arith;
      inked = (
        inked_by_test 40 (codes "task") refl,
        (
          wide (decimal task.lane) (name_inked task.lane (omega arith)),
          (
            wide (signed_decimal task.low.x) (coordinate_inked task.low.x fits.low.0),
            (
              wide (signed_decimal task.low.y) (coordinate_inked task.low.y fits.low.1),
              (
                wide (signed_decimal task.low.z) (coordinate_inked task.low.z fits.low.2),
                (
                  wide (signed_decimal task.high.x) (coordinate_inked task.high.x fits.high.0),
                  (
                    wide (signed_decimal task.high.y) (coordinate_inked task.high.y fits.high.1),
                    (wide (signed_decimal task.high.z) (coordinate_inked task.high.z fits.high.2), tt),
                  ),
                ),
              ),
            ),
          ),
        ),
      );
    }

edit_written : (edit : Edit) → FitsEdit edit → IsWritten (edit_words edit)
edit_written (Move v to) fits = record {
  some = omega arith;
  few = omega arith;
  inked = (
    inked_by_test 40 (codes "move") refl,
    (
      wide (decimal v) (name_inked v fits.0),
      (
        wide (signed_decimal to.x) (coordinate_inked to.x fits.1.0),
        (
          wide (signed_decimal to.y) (coordinate_inked to.y fits.1.1),
          (wide (signed_decimal to.z) (coordinate_inked to.z fits.1.2), tt),
        ),
      ),
    ),
  );
}
edit_written (Collapse u v max) fits = record {
  some = omega arith;
  few = omega arith;
  inked = (
    inked_by_test 40 (codes "collapse") refl,
    (
      wide (decimal u) (name_inked u fits.0),
      (wide (decimal v) (name_inked v fits.1), (bound_inked max fits.2, tt)),
    ),
  );
}
edit_written (Flip a b) fits = record {
  some = omega arith;
  few = omega arith;
  inked = (
    inked_by_test 40 (codes "flip") refl,
    (wide (decimal a) (name_inked a fits.0), (wide (decimal b) (name_inked b fits.1), tt)),
  );
}
edit_written (Simplify max target) fits = record {
  some = omega arith;
  few = omega arith;
  inked = (
    inked_by_test 40 (codes "simplify") refl,
    (bound_inked max fits.0, (wide (decimal target) (name_inked target (omega (arith, fits.1))), tt)),
  );
}

edits_written : (edits : List Edit) → AllByRecursion FitsEdit edits → AllByRecursion IsWritten (map edit_words edits)
edits_written [] fits = tt
edits_written (edit ∷ edits) fits = (edit_written edit fits.0, edits_written edits fits.1)

joined : (front rest : List (List (List ℕ))) → AllByRecursion IsWritten front → AllByRecursion IsWritten rest → AllByRecursion IsWritten (front ++ rest)
joined [] rest written more = more
joined (words ∷ front) rest written more = (written.0, joined front rest written.1 more)

pub all_written : (tasks : List Task) → AllByRecursion FitsTask tasks → AllByRecursion IsWritten (flat_map lines_of tasks)
all_written [] fits = tt
all_written (task ∷ tasks) fits =
    joined (lines_of task) (flat_map lines_of tasks)
    (task_written task fits.0, edits_written task.edits (recursion_from_All FitsEdit task.edits fits.0.each))
    (all_written tasks fits.1)
