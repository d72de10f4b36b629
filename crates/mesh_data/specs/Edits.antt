-- What an edit answers, and what it makes of the mesh. An area is the test of the points that lie in it.
use Rattle.std.specs.Prelude.{ℕ, Bool, true, false, not, ◌&&◌, ◌==◌, min, max, ℤ, int_le, List, [], ◌∷◌, ◌++◌, map, filter, Option, Some, None, if◌then◌else◌, ◌≡◌, zero, suc, ◌<◌, ◌≤◌, ◌⊎◌, nat_le, flat_map, filter_map, count_by}
use Rattle.std.specs.List.{list_all, find}
use Rattle.std.specs.Option.{option_map_or, is_none}
use Rattle.std.specs.FinMap as finite
use Rattle.std.specs.Ordering.{nat_cmp, int_cmp, ordering_then, is_le}
use Rattle.std.specs.declared.cmp.Ordering.{Ordering}
use Rattle.oemm_octree.specs.declared.points.Point.{Point}
use Rattle.mesh_data.specs.declared.geometry.Tri.{Tri}
use Rattle.mesh_data.specs.declared.planes.Plane.{Plane}
use Rattle.mesh_data.specs.declared.edits.Edit.{Edit}
use Rattle.mesh_data.specs.declared.edits.Edit.TheVariants.{Move, Collapse, Flip, Simplify}
use Rattle.mesh_data.specs.declared.edits.Step.{Step}
use Rattle.mesh_data.specs.declared.edits.Reply.{Reply}
use Rattle.mesh_data.specs.declared.edits.Reply.TheVariants.{Unheld, Frozen, Same, Apart, Border, Link, Closed, Folds, Dear, Edge, Outside, Done, DoneAt, Simplified}
use Rattle.oemm_lists.specs.Ascending.{in_order}
use Rattle.mesh_data.specs.Links.{has_both, are_neighbours, opposites, link_violation, is_closed_by_three}
use Rattle.mesh_data.specs.Mesh.{Mesh, origin, point_of, planes_of, names_of, with_vertex}
use Rattle.mesh_data.specs.Planes.{plane_of, folds, squares}
use Rattle.mesh_data.specs.Rings.{has_closed_ring}
use Rattle.mesh_data.specs.Triangles.{corners, has_corner, neighbours, tri_cmp, turned}

-- the reply of the first line whose test holds, else the last one
abbrev pub first_line : List (Bool × Reply) → Reply → Reply
first_line [] last = last
first_line (line ∷ lines) last = if line.0 then line.1 else first_line lines last

-- a line whose test is that there is something, which its reply tells
abbrev pub if_any : {A : Type 0} → (A → Reply) → Option A → Bool × Reply
if_any reply None = (false, Done)
if_any reply (Some x) = (true, reply x)

-- the mesh has the vertex, in the area
abbrev pub is_held : (Point → Bool) → Mesh → ℕ → Bool
is_held inside m v = option_map_or inside (point_of m v) false

-- the vertex and all its neighbours are held
abbrev pub is_free : (Point → Bool) → Mesh → ℕ → Bool
is_free inside m v = is_held inside m v && list_all (is_held inside m) (neighbours v m.tris)

-- what a move of v answers
abbrev pub move_verdict : (Point → Bool) → Mesh → ℕ → Point → Reply
move_verdict inside m v to = first_line (
    (not (is_held inside m v), Unheld v)
    ∷ (not (is_free inside m v), Frozen v)
    ∷ (not (inside to), Outside)
    ∷ []) Done

-- the first lines of an edit of two vertices
abbrev pub pair_lines : (Point → Bool) → Mesh → ℕ → ℕ → List (Bool × Reply)
pair_lines inside m u v =
    (not (is_held inside m u), Unheld u)
    ∷ (not (is_held inside m v), Unheld v)
    ∷ (u == v, Same)
    ∷ (not (is_free inside m u), Frozen u)
    ∷ (not (is_free inside m v), Frozen v)
    ∷ (not (are_neighbours m.tris u v), Apart)
    ∷ []

-- the point of a vertex, and the origin where the mesh lacks it
abbrev pub point_or_origin : Mesh → ℕ → Point
point_or_origin m v = option_map_or (λ p. p) (point_of m v) origin

-- the planes of a vertex, and none where the mesh lacks it
abbrev pub planes_or_none : Mesh → ℕ → List Plane
planes_or_none m v = option_map_or (λ planes. planes) (planes_of m v) []

-- the plane in which a triangle of the mesh lies
abbrev pub plane_in : Mesh → Tri → Plane
plane_in m t = plane_of (point_or_origin m t.a) (point_or_origin m t.b) (point_or_origin m t.c)

-- v in the place of u
abbrev pub renamed : ℕ → ℕ → ℕ → ℕ
renamed u v w = if w == u then v else w

-- the triangle with v in the place of u
abbrev pub substituted : ℕ → ℕ → Tri → Tri
substituted u v t = record { a = renamed u v t.a; b = renamed u v t.b; c = renamed u v t.c }

-- the triangle has u and not v, and folds where v is put for u
abbrev pub folds_with : Mesh → ℕ → ℕ → Tri → Bool
folds_with m u v t = has_corner u t && not (has_corner v t) && folds (plane_in m t) (plane_in m (substituted u v t))

-- what it costs to collapse u onto v: the squared distances of v from the planes of both, where planes aren't normalised
-- (Garland and Heckbert, 1997)
abbrev pub cost : Mesh → ℕ → ℕ → ℤ
cost m u v = squares (planes_or_none m u ++ planes_or_none m v) (point_or_origin m v)

-- what a collapse of u onto v answers that has this price
abbrev pub collapse_verdict_by : ℤ → (Point → Bool) → Mesh → ℕ → ℕ → ℤ → Reply
collapse_verdict_by price inside m u v most = first_line (pair_lines inside m u v ++ (
    (not (has_closed_ring m.tris u), Border)
    ∷ if_any Link (link_violation m.tris u v)
    ∷ (is_closed_by_three m.tris u && is_closed_by_three m.tris v, Closed)
    ∷ if_any Folds (find (folds_with m u v) m.tris)
    ∷ (not (int_le price most), Dear price)
    ∷ [])) (DoneAt price)

-- what a collapse of u onto v answers
abbrev pub collapse_verdict : (Point → Bool) → Mesh → ℕ → ℕ → ℤ → Reply
collapse_verdict inside m u v most = collapse_verdict_by (cost m u v) inside m u v most

-- the line of a flip that refuses an edge which is there already
abbrev pub edge_line : List Tri → Option (ℕ × ℕ) → Bool × Reply
edge_line ts None = (false, Done)
edge_line ts (Some ends) = (are_neighbours ts ends.0 ends.1, Edge (min ends.0 ends.1) (max ends.0 ends.1))

-- what a flip of the edge of a and b answers
abbrev pub flip_verdict : (Point → Bool) → Mesh → ℕ → ℕ → Reply
flip_verdict inside m a b = first_line (pair_lines inside m a b ++ (
    (is_none (opposites m.tris a b), Border)
    ∷ edge_line m.tris (opposites m.tris a b)
    ∷ [])) Done

-- the mesh with v at another point
abbrev pub moved : Mesh → ℕ → Point → Mesh
moved m v to = with_vertex m v (λ x. record x { point = to })

-- the triangles without those that have u and v, and with v for u in the others
unfoldable pub collapsed_tris : ℕ → ℕ → List Tri → List Tri
collapsed_tris u v ts = in_order tri_cmp (map (λ t. turned (substituted u v t)) (filter (λ t. not (has_both u v t)) ts))

-- the mesh with u collapsed onto v, which takes over the planes of u
abbrev pub collapsed : Mesh → ℕ → ℕ → Mesh
collapsed m u v = record {
  vertices = finite.remove (with_vertex m v (λ x. record x { planes = x.planes ++ planes_or_none m u })).vertices u;
  tris = collapsed_tris u v m.tris;
}

-- the triangles with the two at the edge of a and b turned to the edge of c and d
unfoldable pub flipped_tris : ℕ → ℕ → ℕ → ℕ → List Tri → List Tri
flipped_tris a b c d ts =
    in_order tri_cmp (turned (record { a = a; b = d; c = c }) ∷ turned (record { a = d; b = b; c = c }) ∷ filter (λ t. not (has_both a b t)) ts)

-- the mesh with the edge of a and b flipped, if it has a triangle in both directions
abbrev pub flipped : Mesh → ℕ → ℕ → Mesh
flipped m a b =
    option_map_or (λ ends. record { vertices = m.vertices; tris = flipped_tris a b ends.0 ends.1 m.tris }) (opposites m.tris a b) m

-- the collapse of u onto v with its cost, if its verdict is done
abbrev pub done_step : ℕ → ℕ → Reply → Option Step
done_step u v (DoneAt cost_of) = Some (record { u = u; v = v; cost = cost_of })
done_step u v _ = None

-- the collapses that are done now, among all pairs of names
abbrev pub done_steps : (Point → Bool) → Mesh → ℤ → List Step
done_steps inside m most =
    flat_map (λ u. filter_map (λ v. done_step u v (collapse_verdict inside m u v most)) (names_of m)) (names_of m)

-- steps by their costs, then by their first, then by their second name
abbrev pub step_cmp : Step → Step → Ordering
step_cmp s t = ordering_then (int_cmp s.cost t.cost) (ordering_then (nat_cmp s.u t.u) (nat_cmp s.v t.v))

-- the least of these steps, if there are any
abbrev pub least_step : List Step → Option Step
least_step [] = None
least_step (s ∷ ss) = Some (option_map_or (λ t. if is_le (step_cmp s t) then s else t) (least_step ss) s)

-- how many triangles have all three vertices held
abbrev pub whole_count : (Point → Bool) → Mesh → ℕ
whole_count inside m = count_by (λ t. list_all (is_held inside m) (corners t)) m.tris

-- a mesh, and the steps that led to it
pub record Simplification : Type 0 where
  pub mesh : Mesh
  pub steps : List Step

-- So many steps at most, each the least collapse that is done at its moment, as long as more triangles than the target
-- have all three vertices held, and as long as a collapse is done.
unfoldable pub simplified_within : ℕ → (Point → Bool) → Mesh → ℤ → ℕ → Simplification
simplified_within zero inside m most target = record { mesh = m; steps = [] }
simplified_within (suc n) inside m most target =
    if nat_le (whole_count inside m) target then record { mesh = m; steps = [] }
    else option_map_or (λ s.
    let rest = simplified_within n inside (collapsed m s.u s.v) most target in
    record { mesh = rest.mesh; steps = s ∷ rest.steps }) (least_step (done_steps inside m most)) (record { mesh = m; steps = [] })

-- what a simplification makes of the mesh: each step takes a vertex away, so there are no more steps than vertices
abbrev pub simplified : (Point → Bool) → Mesh → ℤ → ℕ → Simplification
simplified inside m most target = simplified_within (finite.len m.vertices) inside m most target

-- what a simplification answers
abbrev pub simplify_verdict : (Point → Bool) → Mesh → ℤ → ℕ → Reply
simplify_verdict inside m most target =
    let done = simplified inside m most target in Simplified done.steps (whole_count inside done.mesh)

-- what an edit answers
abbrev pub verdict : (Point → Bool) → Mesh → Edit → Reply
verdict inside m (Move v to) = move_verdict inside m v to
verdict inside m (Collapse u v most) = collapse_verdict inside m u v most
verdict inside m (Flip a b) = flip_verdict inside m a b
verdict inside m (Simplify most target) = simplify_verdict inside m most target

-- the edit was made
abbrev pub is_done : Reply → Bool
is_done Done = true
is_done (DoneAt cost_of) = true
is_done (Simplified steps left) = true
is_done _ = false

-- the mesh with these collapses made, one after another
abbrev pub collapsed_by : Mesh → List Step → Mesh
collapsed_by m [] = m
collapsed_by m (s ∷ ss) = collapsed_by (collapsed m s.u s.v) ss

-- the collapses of a simplification
abbrev pub steps_of : Reply → List Step
steps_of (Simplified steps left) = steps
steps_of _ = []

-- what an edit that is done makes of the mesh
abbrev pub done : Mesh → Edit → Reply → Mesh
done m (Move v to) reply = moved m v to
done m (Collapse u v most) reply = collapsed m u v
done m (Flip a b) reply = flipped m a b
done m (Simplify most target) reply = collapsed_by m (steps_of reply)

-- the mesh that an edit leaves, by its answer
abbrev pub after : Mesh → Edit → Reply → Mesh
after m e reply = if is_done reply then done m e reply else m

-- Each step is a collapse that is done at its moment, and none that is done then is less. A step is made only above the
-- target, and the steps end only where the target is reached or no collapse is done.
abbrev pub AreLeastSteps : (Point → Bool) → Mesh → ℤ → ℕ → List Step → Type 0
AreLeastSteps inside m most target [] =
    (whole_count inside m ≤ target) ⊎ ((u v : ℕ) (cost_of : ℤ) → collapse_verdict inside m u v most ≡ DoneAt cost_of → ⊥)
AreLeastSteps inside m most target (s ∷ ss) =
    (target < whole_count inside m)
    × (collapse_verdict inside m s.u s.v most ≡ DoneAt s.cost)
    × ((u v : ℕ) (cost_of : ℤ) → collapse_verdict inside m u v most ≡ DoneAt cost_of
    → is_le (step_cmp s (record { u = u; v = v; cost = cost_of })) ≡ true)
    × AreLeastSteps inside (collapsed m s.u s.v) most target ss
