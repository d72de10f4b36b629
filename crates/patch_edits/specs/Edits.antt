-- What an edit answers on a patch, and what it makes of the patch. Both are those of the patch's mesh, but for the cost
-- of a collapse, which is that of the sums; only vertices and whole triangles change.
use Rattle.std.specs.Prelude.{ℕ, Bool, not, ◌==◌, ℤ, List, [], ◌∷◌, map, filter, length, if◌then◌else◌, zero, suc, nat_le, flat_map, filter_map}
use Rattle.std.specs.Option.{option_map_or}
use Rattle.oemm_octree.specs.declared.points.Point.{Point}
use Rattle.mesh_data.specs.declared.edits.Edit.{Edit}
use Rattle.mesh_data.specs.declared.edits.Edit.TheVariants.{Move, Collapse, Flip, Simplify}
use Rattle.mesh_data.specs.declared.edits.Step.{Step}
use Rattle.mesh_data.specs.declared.edits.Reply.{Reply}
use Rattle.mesh_data.specs.declared.edits.Reply.TheVariants.{Simplified}
use Rattle.mesh_data.specs.Edits.{collapse_verdict_by, collapsed_tris, done_step, flip_verdict, flipped_tris, is_done, least_step, move_verdict, steps_of}
use Rattle.mesh_data.specs.Links.{opposites}
use Rattle.mesh_data.specs.Planes.{added}
use Rattle.sheet_data.specs.declared.patches.Patch.{Patch}
use Rattle.sheet_data.specs.Summed.{SummedVertex}
use Rattle.patch_edits.specs.PatchMesh.{cost_on, mesh_of, sums_at}

-- what a collapse of u onto v answers
abbrev pub collapse_on : (Point → Bool) → Patch → ℕ → ℕ → ℤ → Reply
collapse_on inside p u v most = collapse_verdict_by (cost_on p u v) inside (mesh_of p) u v most

-- the vertices, with those named v changed
abbrev pub with_changed : ℕ → (SummedVertex → SummedVertex) → List SummedVertex → List SummedVertex
with_changed v change vs = map (λ x. if x.name == v then change x else x) vs

-- the patch with v at another point
abbrev pub moved_on : Patch → ℕ → Point → Patch
moved_on p v to = record p { vertices = with_changed v (λ x. record x { point = to }) p.vertices }

-- the patch with u collapsed onto v, which takes over the sums of u
abbrev pub collapsed_on : Patch → ℕ → ℕ → Patch
collapsed_on p u v = record p {
  vertices =
      with_changed v (λ x. record x { quad = added x.quad (sums_at p.vertices u) })
      (filter (λ x. not (x.name == u)) p.vertices);
  whole = collapsed_tris u v p.whole;
}

-- the patch with the edge of a and b flipped, if it has a triangle in both directions
abbrev pub flipped_on : Patch → ℕ → ℕ → Patch
flipped_on p a b =
    option_map_or (λ ends. record p { whole = flipped_tris a b ends.0 ends.1 p.whole })
    (opposites (mesh_of p).tris a b) p

-- the names of the vertices
abbrev pub names_on : Patch → List ℕ
names_on p = map (λ x. x.name) p.vertices

-- the collapses that are done now, among all pairs of names
abbrev pub done_steps_on : (Point → Bool) → Patch → ℤ → List Step
done_steps_on inside p most =
    flat_map (λ u. filter_map (λ v. done_step u v (collapse_on inside p u v most)) (names_on p)) (names_on p)

-- a patch, and the steps that led to it
pub record PatchSimplification : Type 0 where
  pub patch : Patch
  pub steps : List Step

-- So many steps at most, each the least collapse that is done at its moment, as long as there are more whole triangles
-- than the target, and as long as a collapse is done.
unfoldable pub simplified_on_within : ℕ → (Point → Bool) → Patch → ℤ → ℕ → PatchSimplification
simplified_on_within zero inside p most target = record { patch = p; steps = [] }
simplified_on_within (suc n) inside p most target =
    if nat_le (length p.whole) target then record { patch = p; steps = [] }
    else option_map_or (λ s.
    let rest = simplified_on_within n inside (collapsed_on p s.u s.v) most target in
    record { patch = rest.patch; steps = s ∷ rest.steps }) (least_step (done_steps_on inside p most))
    (record { patch = p; steps = [] })

-- what a simplification makes of the patch: each step takes a vertex away, so there are no more steps than vertices
abbrev pub simplified_on : (Point → Bool) → Patch → ℤ → ℕ → PatchSimplification
simplified_on inside p most target = simplified_on_within (length p.vertices) inside p most target

-- what a simplification answers
abbrev pub simplify_on : (Point → Bool) → Patch → ℤ → ℕ → Reply
simplify_on inside p most target =
    let made = simplified_on inside p most target in Simplified made.steps (length made.patch.whole)

-- what an edit answers
abbrev pub verdict_on : (Point → Bool) → Patch → Edit → Reply
verdict_on inside p (Move v to) = move_verdict inside (mesh_of p) v to
verdict_on inside p (Collapse u v most) = collapse_on inside p u v most
verdict_on inside p (Flip a b) = flip_verdict inside (mesh_of p) a b
verdict_on inside p (Simplify most target) = simplify_on inside p most target

-- the patch with these collapses made, one after another
abbrev pub collapsed_on_by : Patch → List Step → Patch
collapsed_on_by p [] = p
collapsed_on_by p (s ∷ ss) = collapsed_on_by (collapsed_on p s.u s.v) ss

-- what an edit that is done makes of the patch
abbrev pub done_on : Patch → Edit → Reply → Patch
done_on p (Move v to) reply = moved_on p v to
done_on p (Collapse u v most) reply = collapsed_on p u v
done_on p (Flip a b) reply = flipped_on p a b
done_on p (Simplify most target) reply = collapsed_on_by p (steps_of reply)

-- the patch that an edit leaves, by its answer
abbrev pub after_on : Patch → Edit → Reply → Patch
after_on p e reply = if is_done reply then done_on p e reply else p
