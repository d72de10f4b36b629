-- Where the names of a mesh that is cut live.
use Rattle.std.proofs.Common.{◌≡◌, ◌≢◌, ◌∙◌, ℕ, zero, suc, ◌+◌, ◌-◌, ◌<◌, ◌≤◌, Bool, true, false, cond, eqb, List, [], ◌∷◌, map, length, Option, Some, None, sym, ap, refl, subst, arith}
use Rattle.std.proofs.lemmas.Bool.{eq-eqb, ne_eqb}
use Rattle.std.specs.Cmp.{nat_cmp_total, unsigned_tied}
use Rattle.std.specs.FinMap as finite
use Rattle.std.specs.FinMap.Entries.{find}
use Rattle.std.specs.Option.{option_map, option_map_or}
use Rattle.std.specs.Ordering.{eq_by_cmp, nat_cmp}
use Rattle.std.specs.Prelude.{min, slice_index_or}
use Rattle.oemm_octree.specs.declared.cells.Cell.{Cell}
use Rattle.oemm_octree.specs.declared.points.Point.{Point}
use Rattle.oemm_octree.specs.Leaves.{home}
use Rattle.mesh_data.specs.declared.geometry.Tri.{Tri}
use Rattle.mesh_data.specs.declared.geometry.Vertex.{Vertex}
use Rattle.mesh_data.specs.declared.planes.Plane.{Plane}
use Rattle.mesh_data.specs.Mesh.{named_from, planes_at}
use Rattle.mesh_sheets.specs.Sheets.{keeper, leaf_of}
use Rattle.mesh_cutting.specs.Cuts.{Cut, keeper_at, leaf_at, mesh_in}

apart : (n i : ℕ) → eq_by_cmp nat_cmp (n + suc i) n ≡ false
apart n i = unsigned_tied (n + suc i) n ∙ ne_eqb (n + suc i) n (λ e. absurd (omega (arith, e)))

same : (n : ℕ) → eq_by_cmp nat_cmp (n + 0) n ≡ true
same n = unsigned_tied (n + 0) n ∙ eq-eqb (n + 0) n (omega arith)

-- the leaf of the i-th of the vertices that are named from n on
leaf_named : (cells : List Cell) (planes : ℕ → List Plane) (n : ℕ) (ps : List Point) (i d : ℕ)
    → option_map_or (home cells) (option_map (λ (x : Vertex). x.point) (find nat_cmp (n + i) (named_from planes n ps))) d
    ≡ slice_index_or (map (home cells) ps) i d
leaf_named cells planes n [] i d = refl
leaf_named cells planes n (p ∷ ps) zero d =
    ap (λ (b : Bool). option_map_or (home cells) (option_map (λ (x : Vertex). x.point)
    (cond b (Some (record { point = p; planes = planes n })) (find nat_cmp (n + 0) (named_from planes (n + 1) ps)))) d) (same n)
leaf_named cells planes n (p ∷ ps) (suc i) d =
    let next : n + suc i ≡ (n + 1) + i = omega arith in
    ap (λ (b : Bool). option_map_or (home cells) (option_map (λ (x : Vertex). x.point)
    (cond b (Some (record { point = p; planes = planes n })) (find nat_cmp (n + suc i) (named_from planes (n + 1) ps)))) d) (apart n i)
    ∙ ap (λ (v : ℕ). option_map_or (home cells) (option_map (λ (x : Vertex). x.point)
    (find nat_cmp v (named_from planes (n + 1) ps))) d) next
    ∙ leaf_named cells planes (n + 1) ps i d

-- the leaf of a vertex is that of its name
pub leaf_is : (c : Cut) (v : ℕ) → leaf_of c.cells (mesh_in c) v ≡ leaf_at c.cells c.points v
leaf_is c v =
    ap (λ (o : Option Vertex). option_map_or (home c.cells) (option_map (λ (x : Vertex). x.point) o) (length c.cells))
    (finite.get-from_entries nat_cmp_total (named_from (planes_at c.points c.tris) 0 c.points) v)
    ∙ ap (λ (w : ℕ). option_map_or (home c.cells) (option_map (λ (x : Vertex). x.point)
    (find nat_cmp w (named_from (planes_at c.points c.tris) 0 c.points))) (length c.cells)) (omega arith)
    ∙ leaf_named c.cells (planes_at c.points c.tris) 0 c.points v (length c.cells)

pub keeper_is : (c : Cut) (t : Tri) → keeper c.cells (mesh_in c) t ≡ keeper_at c.cells c.points t
keeper_is c t = λ i. min (leaf_is c t.a i) (min (leaf_is c t.b i) (leaf_is c t.c i))
