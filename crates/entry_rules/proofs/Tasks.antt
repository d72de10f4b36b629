-- What an entry that has a spelling says is a task of the grid.
use Rattle.std.proofs.Common.{◌≡◌, ℕ, ◌≤◌, Bool, true, ◌&&◌, int_le, leb, ℤ, pos, nat_abs, ◌≤ℤ◌, FitsSigned, w16, List, [], ◌∷◌, ◌++◌, All, arith}
use Rattle.std.proofs.lemmas.Bool.{and_parts, leb-true}
use Rattle.std.proofs.lemmas.Int.{ints}
use Rattle.std.proofs.lemmas.List.Elements.{All-from_recursion}
use Rattle.std.specs.List.{AllByRecursion}
use Rattle.oemm_limits.specs.declared.TheConstants.{MOST_COST, MOST_ITEMS}
use Rattle.oemm_octree.specs.declared.points.Point.{Point}
use Rattle.oemm_octree.specs.Octree.{IsOnGrid, on_grid}
use Rattle.mesh_data.specs.declared.edits.Edit.{Edit}
use Rattle.mesh_data.specs.declared.edits.Edit.TheVariants.{Move, Collapse, Flip, Simplify}
use Rattle.sheet_data.specs.declared.index.NumberedEntry.{NumberedEntry}
use Rattle.byte_grammar.specs.Keeps.{Keeps}
use Rattle.geometry_bytes.specs.Geometry.{FitsPoint}
use Rattle.leaf_codec.specs.Edits.{FitsEdit, is_bound, is_edit}
use Rattle.leaf_codec.specs.Entries.{FitsEntry, KeepsEntryRules, is_box}
use Rattle.edit_script.specs.Ranges.{IsBox, IsCostBound, IsEdit}
use Rattle.entry_rules.specs.OnGrid.{IsEditOnGrid, IsTaskOnGrid}

on : (n : ℤ) → FitsSigned w16 n → on_grid n ≡ true
on n fits = grind (arith, ints)

point_on : (p : Point) → FitsPoint p → IsOnGrid p
point_on p fits = (on p.x fits.1.0, on p.y fits.1.1.0, on p.z fits.1.1.1)

least : (a b : ℤ) → int_le a b ≡ true → a ≤ℤ b
least a b test = grind (arith, ints)

box_of : (low high : Point) → is_box (low, high) ≡ true → IsBox low high
unfolding is_box
box_of low high test =
    let x = and_parts (int_le low.x high.x) (int_le low.y high.y && int_le low.z high.z) test in
    let y = and_parts (int_le low.y high.y) (int_le low.z high.z) x.1 in
    record { x = least low.x high.x x.0; y = least low.y high.y y.0; z = least low.z high.z y.1 }

bound_of : (z : ℤ) → is_bound z ≡ true → IsCostBound z
unfolding is_bound
bound_of z test =
    let parts = and_parts (int_le (pos 0) z) (leb (nat_abs z) MOST_COST) test in
    let low : pos 0 ≤ℤ z = least (pos 0) z parts.0 in
    let high = leb-true (nat_abs z) MOST_COST parts.1 in
    record { least = low; greatest = omega (arith, ints) }

edit_of : (e : Edit) → is_edit e ≡ true → IsEdit e
unfolding is_edit
edit_of (Move v to) test = tt
edit_of (Collapse u v max) test = bound_of max test
edit_of (Flip a b) test = tt
edit_of (Simplify max target) test =
    let parts = and_parts (is_bound max) (leb target MOST_ITEMS) test in
    (bound_of max parts.0, leb-true target MOST_ITEMS parts.1)

edits_of : (es before : List Edit) → Keeps (λ before k. is_edit k ≡ true) before es → AllByRecursion IsEdit es
edits_of [] before all = tt
edits_of (e ∷ es) before all = (edit_of e all.0, edits_of es (before ++ e ∷ []) all.1)

edit_on : (e : Edit) → FitsEdit e → IsEditOnGrid e
edit_on (Move v to) fits = point_on to fits.1
edit_on (Collapse u v max) fits = tt
edit_on (Flip a b) fits = tt
edit_on (Simplify max target) fits = tt

edits_on : (es : List Edit) → AllByRecursion FitsEdit es → AllByRecursion IsEditOnGrid es
edits_on [] all = tt
edits_on (e ∷ es) all = (edit_on e all.0, edits_on es all.1)

pub task_on : (n : NumberedEntry) → FitsEntry n → KeepsEntryRules n → IsTaskOnGrid n.entry.task
task_on n fits rules =
    let t = n.entry.task in
    record {
      ranges = record {
        lane = rules.lane;
        box = box_of t.low t.high rules.box;
        few = rules.edit_count;
        each = All-from_recursion IsEdit t.edits (edits_of t.edits [] rules.edits);
      };
      low = point_on t.low fits.low;
      high = point_on t.high fits.high;
      edits = All-from_recursion IsEditOnGrid t.edits (edits_on t.edits fits.edits);
    }
