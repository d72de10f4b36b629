-- The tasks of leaves make a script that fits.
use Rattle.std.proofs.Common.{◌≡◌, ℕ, zero, suc, ◌+◌, ◌-◌, ◌*◌, ◌%◌, ◌^◌, ◌<◌, ◌≤◌, min, true, ◌&&◌, cond, ◌==◌, List, [], ◌∷◌, ◌++◌, length, map, take, get_or, refl, ap, sym, subst, ◌∙◌, arith, append-nil, length-append, ℤ, pos, negsuc, ◌-ℤ◌, ◌≤ℤ◌, int_le, codes, Ok}
use Rattle.std.specs.List.{All, AllByRecursion, flat_map, range_with_len}
use Rattle.std.specs.List.Sorted.{IsStrictlyIncreasing}
use Rattle.std.specs.Fmt.{decimal, signed_decimal}
use Rattle.std.proofs.lemmas.Int.{ints}
use Rattle.std.proofs.lemmas.List.{take_more}
use Rattle.std.proofs.lemmas.List.Elements.{All-get_or, All-nil, All-push, recursion_from_All}
use Rattle.std.proofs.lemmas.List.FromFn.{get_or-map-range_with_len, length-map-range_with_len, map-range_with_len_more, take-map-range_with_len}
use Rattle.std.proofs.lemmas.List.Sums.{sum_by_push}
use Rattle.oemm_limits.specs.declared.TheConstants.{MOST_SCRIPT_BYTES}
use Rattle.oemm_lists.specs.TextLine.{line}
use Rattle.oemm_octree.specs.declared.cells.Cell.{Cell}
use Rattle.oemm_octree.specs.declared.points.Point.{Point}
use Rattle.oemm_octree.specs.Octree.{IsOnGrid, on_grid, root_cell}
use Rattle.oemm_octree.specs.Leaves.{AreBelow, AreTiles, IsPlaced}
use Rattle.oemm_octree.proofs.Each.{depths}
use Rattle.oemm_octree.proofs.Searches.{placed}
use Rattle.sheet_forms.proofs.Counts.{below_of}
use Rattle.mesh_data.specs.declared.edits.Edit.{Edit}
use Rattle.mesh_data.specs.declared.edits.Edit.TheVariants.{Simplify}
use Rattle.mesh_data.specs.declared.edits.Task.{Task}
use Rattle.commit_journal.specs.Text.{edit_line}
use Rattle.edit_script.specs.Grammar.{lane_count, script_of}
use Rattle.edit_script.specs.Ranges.{AreNumbered, IsBox, IsCostBound}
use Rattle.oemm_make.specs.Fits.{FitsEdit, FitsScript, FitsTask}
use Rattle.oemm_make.specs.Text.{script_text, task_line, task_text}
use Rattle.oemm_make.specs.Tiles.{cell_of, high_corner, high_end, in_lane, lane_of, low_corner, low_end, tile_at, tiles}
use Rattle.oemm_make.proofs.Ends.{part_below}
use Rattle.oemm_make.proofs.Ink.{bound_inked, coordinate_inked, name_inked}
use Rattle.oemm_make.proofs.Lanes.{few_leaves}
use Rattle.oemm_make.proofs.Lines.{body_size, line_length}
use Rattle.oemm_make.proofs.Says.{edit_words, le_true, task_words}
use Rattle.oemm_make.proofs.Texts.{text_read}

-- ---- boxes

between : (z : ℤ) → negsuc 32767 ≤ℤ z → z ≤ℤ pos 32767 → on_grid z ≡ true
between z low high = rw (le_true (negsuc 32767) z low, le_true z (pos 32767) high)

on_axis : (n : ℕ) → n < 65536 → on_grid (pos n -ℤ pos 32768) ≡ true
on_axis n below = between (pos n -ℤ pos 32768) (omega (arith, ints)) (omega (arith, ints))

low_on : (d p : ℕ) → d ≤ 6 → p < 2 ^ d → on_grid (low_end d p) ≡ true
unfolding low_end
low_on d p le inside = on_axis (p * 2 ^ (16 - d)) (part_below d p le inside)

high_on : (d p : ℕ) → on_grid (high_end d p) ≡ true
unfolding high_end
high_on d p = on_axis (min ((p + 1) * 2 ^ (16 - d)) 65535) (omega arith)

ordered : (a b : ℕ) → a ≤ b → (pos a -ℤ pos 32768) ≤ℤ (pos b -ℤ pos 32768)
ordered a b le = omega (arith, ints)

ends_ordered : (d p : ℕ) → d ≤ 6 → p < 2 ^ d → low_end d p ≤ℤ high_end d p
unfolding low_end high_end
ends_ordered d p le inside =
    let below : p * 2 ^ (16 - d) < 65536 = part_below d p le inside in
    ordered (p * 2 ^ (16 - d)) (min ((p + 1) * 2 ^ (16 - d)) 65535) (omega arith)

low_corner_on : (c : Cell) → c.depth ≤ 6 → IsPlaced c → IsOnGrid (low_corner c)
low_corner_on c le inside =
    (low_on c.depth c.x le inside.0, low_on c.depth c.y le inside.1, low_on c.depth c.z le inside.2)

high_corner_on : (c : Cell) → IsOnGrid (high_corner c)
high_corner_on c = (high_on c.depth c.x, high_on c.depth c.y, high_on c.depth c.z)

is_box : (c : Cell) → c.depth ≤ 6 → IsPlaced c → IsBox (low_corner c) (high_corner c)
is_box c le inside = record {
  x = ends_ordered c.depth c.x le inside.0;
  y = ends_ordered c.depth c.y le inside.1;
  z = ends_ordered c.depth c.z le inside.2;
}

-- ---- tasks

tile_fits : (cells : List Cell) (leaves : List ℕ) (edit : Edit) (place : ℕ) → AreTiles cells → AreBelow (length cells) leaves →
    FitsEdit edit → place < length leaves → FitsTask (tile_at cells leaves edit place)
tile_fits cells leaves edit place tiles below fits lt =
    let leaf : ℕ = get_or leaves place 0 in
    let there : get_or leaves place 0 < length cells = below_of (length cells) leaves below place lt in
    let deep : (cell_of cells (get_or leaves place 0)).depth ≤ 6
    = All-get_or (λ (c : Cell). c.depth ≤ 6) cells (get_or leaves place 0) root_cell there (depths cells tiles) in
    let inside : IsPlaced (cell_of cells (get_or leaves place 0))
    = All-get_or IsPlaced cells (get_or leaves place 0) root_cell there (placed cells tiles) in
    record {
      lane = omega arith;
      low = low_corner_on (cell_of cells (get_or leaves place 0)) deep inside;
      high = high_corner_on (cell_of cells (get_or leaves place 0));
      box = is_box (cell_of cells (get_or leaves place 0)) deep inside;
      few = omega arith;
      each = All-push FitsEdit [] edit (All-nil FitsEdit) fits;
    }

-- the tasks before a place, lane by lane
lanes_before : (cells : List Cell) (leaves : List ℕ) (edit : Edit) (lane k : ℕ) → k ≤ length leaves →
    lane_count lane (map (tile_at cells leaves edit) (range_with_len 0 k)) ≡ in_lane lane (take k leaves)
lanes_before cells leaves edit lane zero le = refl
lanes_before cells leaves edit lane (suc k) le =
    let f : ℕ → Task = tile_at cells leaves edit in
    let next : suc k ≡ k + 1 = omega arith in
    ap (λ (n : ℕ). lane_count lane (map (tile_at cells leaves edit) (range_with_len 0 n))) next
    ∙ ap (λ (ts : List Task). lane_count lane ts) (map-range_with_len_more (tile_at cells leaves edit) 0 k k (omega arith))
    ∙ sum_by_push (λ (t : Task). cond (t.lane == lane) 1 0) (map (tile_at cells leaves edit) (range_with_len 0 k)) (tile_at cells leaves edit k)
    ∙ ap (λ (n : ℕ). n + cond (lane_of (get_or leaves k 0) == lane) 1 0) (lanes_before cells leaves edit lane k (omega arith))
    ∙ sym (sum_by_push (λ (l : ℕ). cond (lane_of l == lane) 1 0) (take k leaves) (get_or leaves k 0))
    ∙ ap (λ (ls : List ℕ). in_lane lane ls) (sym (take_more leaves k 0 (omega arith)))
    ∙ ap (λ (n : ℕ). in_lane lane (take n leaves)) (sym next)

tiles_numbered : (cells : List Cell) (leaves : List ℕ) (edit : Edit) → AreNumbered (tiles cells leaves edit)
tiles_numbered cells leaves edit k d h =
    let f : ℕ → Task = tile_at cells leaves edit in
    let n : ℕ = length leaves in
    let lt : k < length leaves = omega (arith, length-map-range_with_len (tile_at cells leaves edit) 0 (length leaves)) in
    let here : get_or (tiles cells leaves edit) k d ≡ tile_at cells leaves edit k
    = get_or-map-range_with_len (tile_at cells leaves edit) 0 (length leaves) k k d lt (omega arith) in
    let front : take k (tiles cells leaves edit) ≡ map (tile_at cells leaves edit) (range_with_len 0 k)
    = take-map-range_with_len (tile_at cells leaves edit) 0 (length leaves) k (omega arith) in
    let lane : ℕ = lane_of (get_or leaves k 0) in
    ap (λ (t : Task). t.number) here
    ∙ sym (lanes_before cells leaves edit (lane_of (get_or leaves k 0)) k (omega arith))
    ∙ ap (λ (ts : List Task). lane_count (lane_of (get_or leaves k 0)) ts) (sym front)
    ∙ ap (λ (t : Task). lane_count t.lane (take k (tiles cells leaves edit))) (sym here)

pub tiles_fit : (cells : List Cell) (leaves : List ℕ) (edit : Edit) → AreTiles cells → IsStrictlyIncreasing leaves →
    AreBelow (length cells) leaves → FitsEdit edit → FitsScript (tiles cells leaves edit)
tiles_fit cells leaves edit tiling up below fits = record {
  few = omega (arith, few_leaves cells leaves tiling up below, length-map-range_with_len (tile_at cells leaves edit) 0 (length leaves));
  each = λ k d h.
      let lt : k < length leaves = omega (arith, length-map-range_with_len (tile_at cells leaves edit) 0 (length leaves)) in
      let here : get_or (tiles cells leaves edit) k d ≡ tile_at cells leaves edit k
      = get_or-map-range_with_len (tile_at cells leaves edit) 0 (length leaves) k k d lt (omega arith) in
      subst FitsTask (sym here) (tile_fits cells leaves edit k tiling below fits lt);
  numbered = tiles_numbered cells leaves edit;
}

-- ---- lengths

task_line_short : (task : Task) → FitsTask task → length (task_line task) ≤ 88
task_line_short task fits =
    let lane : task.lane ≤ 63 = fits.lane in
    omega (
      arith,
      line_length (task_words task) (omega arith),
      body_size (task_words task) (omega arith),
      (name_inked task.lane (omega arith)).short,
      (coordinate_inked task.low.x fits.low.0).short,
      (coordinate_inked task.low.y fits.low.1).short,
      (coordinate_inked task.low.z fits.low.2).short,
      (coordinate_inked task.high.x fits.high.0).short,
      (coordinate_inked task.high.y fits.high.1).short,
      (coordinate_inked task.high.z fits.high.2).short,
    )

simplify_short : (max : ℤ) (target : ℕ) → IsCostBound max → target ≤ 2 ^ 24 → length (edit_line (Simplify max target)) ≤ 61
simplify_short max target bound few =
    omega (
      arith,
      line_length (edit_words (Simplify max target)) (omega arith),
      body_size (edit_words (Simplify max target)) (omega arith),
      (bound_inked max bound).short,
      (name_inked target (omega arith)).short,
    )

one_short : (task : Task) (max : ℤ) (target : ℕ) → IsCostBound max → target ≤ 2 ^ 24 → FitsTask task →
    task.edits ≡ Simplify max target ∷ [] → length (task_text task) ≤ 149
one_short task max target bound few fits is =
    let edits : flat_map edit_line task.edits ≡ edit_line (Simplify max target)
    = ap (λ (es : List Edit). flat_map edit_line es) is ∙ append-nil (edit_line (Simplify max target)) in
    omega (
      arith,
      length-append (task_line task) (flat_map edit_line task.edits),
      ap (λ (t : List ℕ). length t) edits,
      task_line_short task fits,
      simplify_short max target bound few,
    )

-- the text of tasks, each of which is short
all_short : (f : ℕ → Task) (a n : ℕ) → ((k : ℕ) → k < a + n → length (task_text (f k)) ≤ 149) →
    length (script_text (map f (range_with_len a n))) ≤ 149 * n
all_short f a zero short = omega arith
all_short f a (suc n) short =
    let rest = all_short f (a + 1) n (λ k lt. short k (omega arith)) in
    omega (arith, rest, short a (omega arith), length-append (task_text (f a)) (script_text (map f (range_with_len (a + 1) n))))

pub tiles_short : (cells : List Cell) (leaves : List ℕ) (max : ℤ) (target : ℕ) → AreTiles cells → IsStrictlyIncreasing leaves →
    AreBelow (length cells) leaves → IsCostBound max → target ≤ 2 ^ 24 →
    length (script_text (tiles cells leaves (Simplify max target))) ≤ MOST_SCRIPT_BYTES
tiles_short cells leaves max target tiling up below bound few =
    let edit : Edit = Simplify max target in
    let each : (k : ℕ) → k < 0 + length leaves → length (task_text (tile_at cells leaves (Simplify max target) k)) ≤ 149
    = λ k lt. one_short (tile_at cells leaves (Simplify max target) k) max target bound few
    (tile_fits cells leaves (Simplify max target) k tiling below (bound, few) (omega arith)) refl in
    omega (arith, few_leaves cells leaves tiling up below, all_short (tile_at cells leaves (Simplify max target)) 0 (length leaves) each)

pub tiles_read : (cells : List Cell) (leaves : List ℕ) (max : ℤ) (target : ℕ) → AreTiles cells → IsStrictlyIncreasing leaves →
    AreBelow (length cells) leaves → IsCostBound max → target ≤ 2 ^ 24 →
    script_of (script_text (tiles cells leaves (Simplify max target))) ≡ Ok (tiles cells leaves (Simplify max target))
tiles_read cells leaves max target tiling up below bound few =
    text_read (tiles cells leaves (Simplify max target))
    (tiles_fit cells leaves (Simplify max target) tiling up below (bound, few))
    (tiles_short cells leaves max target tiling up below bound few)
