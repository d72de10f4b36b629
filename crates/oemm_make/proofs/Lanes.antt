-- The tasks of leaves, and how many of them each lane has.
use Rattle.std.proofs.Common.{◌≡◌, ◌≢◌, ℕ, zero, suc, ◌+◌, ◌%◌, ◌<◌, ◌≤◌, Bool, true, false, cond, ◌==◌, List, [], ◌∷◌, ◌++◌, length, map, take, set, get_or, refl, ap, sym, subst, ◌∙◌, arith, replicate}
use Rattle.std.specs.List.{range_with_len}
use Rattle.std.specs.Prelude.{slice_get, Some}
use Rattle.std.specs.List.Sorted.{IsStrictlyIncreasing}
use Rattle.std.proofs.lemmas.Bool.{eqb-true, eq-eqb}
use Rattle.std.proofs.lemmas.List.Elements.{All-get_or}
use Rattle.std.proofs.lemmas.List.{length-set, length-take, take_more, get_or-replicate, get_or-set_same, get_or-set_other}
use Rattle.std.proofs.lemmas.List.FromFn.{map-range_with_len_more}
use Rattle.std.proofs.lemmas.List.Sums.{sum_by_push, count_by-le-length}
use Rattle.std.proofs.lemmas.Option.{get_or_from_slice_get}
use Rattle.oemm_octree.specs.declared.cells.Cell.{Cell}
use Rattle.oemm_octree.specs.Octree.{root_cell}
use Rattle.oemm_octree.specs.Leaves.{AreBelow, AreTiles, IsPlaced}
use Rattle.oemm_octree.proofs.Searches.{few_tiles, placed}
use Rattle.sheet_forms.proofs.Counts.{below_of, few_climbing}
use Rattle.mesh_data.specs.declared.edits.Edit.{Edit}
use Rattle.mesh_data.specs.declared.edits.Task.{Task}
use Rattle.oemm_make.specs.Tiles.{cell_of, in_lane, lane_of, task_of, tile_at}

-- these are the numbers of the leaves in the lanes
pub record AreLanes (counts leaves : List ℕ) : Type 0 where
  pub whole : length counts ≡ 64
  pub each : (lane : ℕ) → lane < 64 → get_or counts lane 0 ≡ in_lane lane leaves

pub no_lanes : (leaves : List ℕ) → AreLanes (replicate 64 0) (take 0 leaves)
no_lanes leaves = record { whole = refl; each = λ lane below. get_or-replicate 64 lane 0 0 below }

true_is_not_false : true ≡ false → ⊥
true_is_not_false h = cc

count_at :
    (counts : List ℕ) (lane other before : ℕ) → lane < length counts → get_or counts other 0 ≡ before →
    get_or (set counts lane (get_or counts lane 0 + 1)) other 0 ≡ before + cond (lane == other) 1 0
count_at counts lane other before there e = by (lane == other) refl
  where
    by : (b : Bool) → (lane == other) ≡ b → get_or (set counts lane (get_or counts lane 0 + 1)) other 0 ≡ before + cond b 1 0
    by true t =
        let same : lane ≡ other = eqb-true lane other t in
        ap (λ (k : ℕ). get_or (set counts lane (get_or counts lane 0 + 1)) k 0) (sym same)
        ∙ get_or-set_same counts lane (get_or counts lane 0 + 1) 0 there
        ∙ ap (λ (k : ℕ). get_or counts k 0 + 1) same
        ∙ ap (λ (n : ℕ). n + 1) e
    by false t =
        let apart : other ≢ lane = λ same. true_is_not_false (sym (eq-eqb lane other (sym same)) ∙ t) in
        get_or-set_other counts lane other (get_or counts lane 0 + 1) 0 apart ∙ e ∙ omega arith

-- one leaf more
pub lanes_more :
    (counts leaves : List ℕ) (n leaf : ℕ) → n < length leaves → get_or leaves n leaf ≡ leaf →
    AreLanes counts (take n leaves) →
    AreLanes (set counts (leaf % 64) (get_or counts (leaf % 64) 0 + 1)) (take (n + 1) leaves)
lanes_more counts leaves n leaf lt is lanes =
    let size : length counts ≡ 64 = lanes.whole in
    let next : take (n + 1) leaves ≡ take n leaves ++ leaf ∷ []
    = take_more leaves n leaf lt ∙ ap (λ (l : ℕ). take n leaves ++ l ∷ []) is in
    record {
      whole = length-set counts (leaf % 64) (get_or counts (leaf % 64) 0 + 1) ∙ size;
      each = λ lane below.
          count_at counts (leaf % 64) lane (in_lane lane (take n leaves)) (omega arith) (lanes.each lane below)
          ∙ sym (sum_by_push (λ l. cond (lane_of l == lane) 1 0) (take n leaves) leaf)
          ∙ ap (λ (ls : List ℕ). in_lane lane ls) (sym next);
    }

-- a lane has no more than there are
pub lane_small :
    (counts leaves : List ℕ) (n lane : ℕ) → lane < 64 → AreLanes counts (take n leaves) → length leaves ≤ 262144 →
    get_or counts lane 0 ≤ 262144
lane_small counts leaves n lane below lanes few =
    omega (arith, lanes.each lane below, count_by-le-length (λ leaf. lane_of leaf == lane) (take n leaves), length-take n leaves)

-- one task more
pub tiles_more :
    (cells : List Cell) (leaves : List ℕ) (edit : Edit) (n leaf number : ℕ) (c : Cell) (counts : List ℕ) (tasks more : List Task) (task : Task) →
    get_or leaves n 0 ≡ leaf → slice_get cells leaf ≡ Some c → AreLanes counts (take n leaves) →
    number ≡ get_or counts (leaf % 64) 0 → task ≡ task_of c (leaf % 64) number edit →
    tasks ≡ map (tile_at cells leaves edit) (range_with_len 0 n) → more ≡ tasks ++ task ∷ [] →
    more ≡ map (tile_at cells leaves edit) (range_with_len 0 (n + 1))
tiles_more cells leaves edit n leaf number c counts tasks more task is there lanes count made before pushed =
    let cell : c ≡ cell_of cells leaf = sym (get_or_from_slice_get cells leaf c root_cell there) in
    let numbered : number ≡ in_lane (leaf % 64) (take n leaves) = count ∙ lanes.each (leaf % 64) (omega arith) in
    let one : task ≡ tile_at cells leaves edit n
    = made
    ∙ ap (λ (k : Cell). task_of k (leaf % 64) number edit) cell
    ∙ ap (λ (k : ℕ). task_of (cell_of cells leaf) (leaf % 64) k edit) numbered
    ∙ ap (λ (l : ℕ). task_of (cell_of cells l) (l % 64) (in_lane (l % 64) (take n leaves)) edit) (sym is) in
    pushed
    ∙ ap (λ (ts : List Task). ts ++ task ∷ []) before
    ∙ ap (λ (t : Task). map (tile_at cells leaves edit) (range_with_len 0 n) ++ t ∷ []) one
    ∙ sym (map-range_with_len_more (tile_at cells leaves edit) 0 n n (omega arith))

-- the places of a leaf's cell are those of its depth
pub placed_at : (cells : List Cell) (k : ℕ) (c : Cell) → AreTiles cells → k < length cells → slice_get cells k ≡ Some c → IsPlaced c
placed_at cells k c tiles lt at =
    subst IsPlaced (get_or_from_slice_get cells k c root_cell at) (All-get_or IsPlaced cells k root_cell lt (placed cells tiles))

-- leaves in ascending order are no more than an octree has
pub few_leaves : (cells : List Cell) (leaves : List ℕ) → AreTiles cells → IsStrictlyIncreasing leaves → AreBelow (length cells) leaves → length leaves ≤ 262144
few_leaves cells leaves tiles up below =
    omega (arith, few_climbing (length cells) leaves up (below_of (length cells) leaves below), few_tiles cells tiles)
