-- The entries of tasks of the grid keep the rules of their spelling.
use Rattle.std.proofs.Common.{◌≡◌, ℕ, ◌+◌, ◌<◌, ◌≤◌, Bool, true, false, cond, not, ◌&&◌, int_le, leb, List, [], ◌∷◌, ◌++◌, length, All, Option, Some, None, get_or, slice_get, nat_abs, nat_lt, ℤ, pos, ◌≤ℤ◌, ap, sym, ◌∙◌, refl, subst, arith, append_assoc, length-append}
use Rattle.std.proofs.Math.Seq.{get_or-append_seam}
use Rattle.std.proofs.lemmas.Bool.{and_from, le-leb}
use Rattle.std.proofs.lemmas.Int.{ints}
use Rattle.std.proofs.lemmas.List.Elements.{All-from_recursion, recursion_from_All}
use Rattle.std.proofs.lemmas.Option.{slice_get-get_or}
use Rattle.std.specs.List.{AllByRecursion}
use Rattle.std.specs.List.Sorted.{IsStrictlyIncreasing}
use Rattle.std.specs.Option.{option_map_or}
use Rattle.oemm_limits.specs.declared.TheConstants.{MOST_COST, MOST_ITEMS}
use Rattle.oemm_octree.specs.declared.cells.Cell.{Cell}
use Rattle.oemm_octree.specs.declared.points.Point.{Point}
use Rattle.oemm_octree.specs.Leaves.{AreTiles}
use Rattle.oemm_octree.specs.Octree.{area_of, core_of, is_inside}
use Rattle.oemm_octree.proofs.CoreHomes.{core_below, core_some}
use Rattle.oemm_octree.proofs.Searches.{few_tiles}
use Rattle.mesh_data.specs.declared.edits.Edit.{Edit}
use Rattle.mesh_data.specs.declared.edits.Edit.TheVariants.{Move, Collapse, Flip, Simplify}
use Rattle.mesh_data.specs.declared.edits.Entry.{Entry}
use Rattle.mesh_data.specs.declared.edits.Reply.{Reply}
use Rattle.mesh_data.specs.declared.edits.Task.{Task}
use Rattle.mesh_data.specs.Edits.{after, verdict}
use Rattle.mesh_data.specs.Mesh.{Mesh}
use Rattle.mesh_data.specs.Work.{Did, do_task, play, wide_entry, work}
use Rattle.byte_grammar.specs.Keeps.{Keeps}
use Rattle.leaf_codec.specs.Edits.{is_bound, is_edit}
use Rattle.leaf_codec.specs.Entries.{KeepsEntryRules, is_box}
use Rattle.leaf_codec.specs.Replies.{is_reply, may_answer, reply_follows}
use Rattle.leaf_codec.specs.Sheets.{is_above, leaf_follows}
use Rattle.leaf_codec.specs.declared.formats.TheConstants.{MOST_UNITS}
use Rattle.edit_script.specs.Ranges.{IsBox, IsCostBound, IsEdit}
use Rattle.mesh_sheets.proofs.Climbing.{core_ascends}
use Rattle.sheet_data.specs.declared.index.NumberedEntry.{NumberedEntry}
use Rattle.sheet_forms.proofs.Counts.{below_of, few_climbing}
use Rattle.store_spelling.proofs.Parted.{above_parted, keeps_parted}
use Rattle.entry_rules.specs.OnGrid.{IsEditOnGrid, IsMeshOnGrid, IsTaskOnGrid}
use Rattle.entry_rules.proofs.Ready.{ready_edit, ready_task}
use Rattle.entry_rules.proofs.Verdicts.{verdict_good}

-- ---- what a script's ranges say

below : (a b : ℤ) → a ≤ℤ b → int_le a b ≡ true
below a b le = grind (arith, ints)

box_is : (low high : Point) → IsBox low high → is_box (low, high) ≡ true
unfolding is_box
box_is low high box =
    and_from _ _ (below low.x high.x box.x) (and_from _ _ (below low.y high.y box.y) (below low.z high.z box.z))

bound_is : (z : ℤ) → IsCostBound z → is_bound z ≡ true
unfolding is_bound
bound_is z h =
    let low = h.least in
    let high = h.greatest in
    and_from (int_le (pos 0) z) (leb (nat_abs z) MOST_COST) (below (pos 0) z low) (le-leb (nat_abs z) MOST_COST (omega (arith, ints)))

edit_is : (e : Edit) → IsEdit e → is_edit e ≡ true
unfolding is_edit
edit_is (Move v to) h = refl
edit_is (Collapse u v max) h = bound_is max h
edit_is (Flip a b) h = refl
edit_is (Simplify max target) h =
    and_from (is_bound max) (leb target MOST_ITEMS) (bound_is max h.0) (le-leb target MOST_ITEMS h.1)

edits_keep : (es before : List Edit) → AllByRecursion IsEdit es → Keeps (λ before k. is_edit k ≡ true) before es
edits_keep [] before all = tt
edits_keep (e ∷ es) before all = (edit_is e all.0, edits_keep es (before ++ e ∷ []) all.1)

-- ---- cores

core_keeps : (cells : List Cell) (low high : Point)
    → Keeps (λ before k. leaf_follows None before k ≡ true) [] (core_of cells low high)
unfolding leaf_follows
core_keeps cells low high =
    keeps_parted (λ before k. leaf_follows None before k ≡ true) (core_of cells low high) [] (λ front n rest is.
    and_from (is_above n front) true (above_parted front rest n (subst IsStrictlyIncreasing is (core_ascends cells low high)))
    refl)

few_in_core : (cells : List Cell) (low high : Point) → length (core_of cells low high) ≤ length cells
few_in_core cells low high =
    few_climbing (length cells) (core_of cells low high) (core_ascends cells low high)
    (below_of (length cells) (core_of cells low high) (core_below cells low high))

-- ---- replies

all_reply : (inside : Point → Bool) (es : List Edit) (m : Mesh) → length (work inside m es).replies ≡ length es
all_reply inside [] m = refl
all_reply inside (e ∷ es) m = omega (arith, all_reply inside es (after m e (verdict inside m e)))

replies_keep : (inside : Point → Bool) (all front es : List Edit) (before : List Reply) (m : Mesh) → all ≡ front ++ es
    → length before ≡ length front → AllByRecursion IsEditOnGrid es → IsMeshOnGrid m
    → Keeps (λ before r. reply_follows all before r ≡ true) before (work inside m es).replies
unfolding reply_follows
replies_keep inside all front [] before m is long on ready = tt
replies_keep inside all front (e ∷ es) before m is long on ready =
    let r = verdict inside m e in
    let good = verdict_good inside m e ready in
    let at : slice_get all (length before) ≡ Some e =
    (λ i. slice_get (is i) (long i)) ∙ slice_get-get_or (front ++ e ∷ es) (length front) e (omega (arith, length-append front (e ∷ es)))
    ∙ ap (λ (x : Edit). Some x) (get_or-append_seam front e es e) in
    let follows : (option_map_or (λ x. may_answer x r) (slice_get all (length before)) false && is_reply r) ≡ true =
    and_from _ (is_reply r) (ap (λ (o : Option Edit). option_map_or (λ x. may_answer x r) o false) at ∙ good.0) good.1 in (
      follows,
      replies_keep inside all (front ++ e ∷ []) es (before ++ r ∷ []) (after m e r) (is ∙ sym (append_assoc front (e ∷ []) es))
          (omega (arith, long, length-append before (r ∷ []), length-append front (e ∷ []))) on.1 (ready_edit inside m e on.0 ready),
    )

-- ---- entries

pub entry_keeps : (cells : List Cell) (limit : ℕ) (m : Mesh) (t : Task) (number : ℕ) → AreTiles cells → IsMeshOnGrid m
    → IsTaskOnGrid t → KeepsEntryRules (record { number = number; entry = (do_task cells limit m t).entry })
entry_keeps cells limit m t number tiles ready task =
    let core = core_of cells t.low t.high in
    let inside = is_inside (area_of cells core) in
    let worked = work inside m t.edits in
    let box = box_is t.low t.high task.ranges.box in
    let edits = edits_keep t.edits [] (recursion_from_All IsEdit t.edits task.ranges.each) in
    let some = core_some cells t.low t.high tiles task.low task.high
    (task.ranges.box.x, task.ranges.box.y, task.ranges.box.z) in
    elim (nat_lt limit (length core)) as (λ b.
    let d : Did = cond b (record { mesh = m; entry = wide_entry t }) (record {
      mesh = worked.mesh;
      entry = record { task = t; wide = false; replies = worked.replies; core = core };
    }) in
    let n : NumberedEntry = record { number = number; entry = d.entry } in
    KeepsEntryRules n) [
      | true ↦ record {
        lane = task.ranges.lane;
        box = box;
        least_core = omega arith;
        most_core = omega arith;
        edit_count = task.ranges.few;
        reply_count = refl;
        core = tt;
        edits = edits;
        replies = tt;
      }
      | false ↦ record {
        lane = task.ranges.lane;
        box = box;
        least_core = omega (arith, some);
        most_core = omega (arith, few_in_core cells t.low t.high, few_tiles cells tiles);
        edit_count = task.ranges.few;
        reply_count = all_reply inside t.edits m;
        core = core_keeps cells t.low t.high;
        edits = edits;
        replies = replies_keep inside t.edits [] t.edits [] m refl refl
            (recursion_from_All IsEditOnGrid t.edits task.edits) ready;
      }
    ]

abbrev Keep : Entry → Type 0
Keep e = (number : ℕ) → KeepsEntryRules (record { number = number; entry = e })

each_keeps : (cells : List Cell) (limit : ℕ) (ts : List Task) (m : Mesh) → AreTiles cells → IsMeshOnGrid m
    → AllByRecursion IsTaskOnGrid ts → AllByRecursion Keep (play cells limit m ts).journal
each_keeps cells limit [] m tiles ready tasks = tt
each_keeps cells limit (t ∷ ts) m tiles ready tasks = (
  (λ number. entry_keeps cells limit m t number tiles ready tasks.0),
  each_keeps cells limit ts (do_task cells limit m t).mesh tiles (ready_task cells limit m t ready tasks.0) tasks.1,
)

pub play_keeps : (cells : List Cell) (limit : ℕ) (m : Mesh) (ts : List Task) → AreTiles cells → IsMeshOnGrid m
    → All IsTaskOnGrid ts → All Keep (play cells limit m ts).journal
play_keeps cells limit m ts tiles ready tasks =
    All-from_recursion Keep (play cells limit m ts).journal
    (each_keeps cells limit ts m tiles ready (recursion_from_All IsTaskOnGrid ts tasks))
