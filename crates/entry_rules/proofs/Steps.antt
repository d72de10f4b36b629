-- A simplification has no more steps than there are vertices.
use Rattle.std.proofs.Common.{◌≡◌, ℕ, zero, suc, ◌<◌, ◌≤◌, ℤ, Bool, true, false, cond, List, [], ◌∷◌, map, length, Some, None, nat_le, ap, sym, ◌∙◌, refl, arith}
use Rattle.std.proofs.lemmas.List.{length-map}
use Rattle.std.specs.FinMap as finite
use Rattle.std.specs.Option.{option_map_or}
use Rattle.oemm_octree.specs.declared.points.Point.{Point}
use Rattle.mesh_data.specs.declared.edits.Step.{Step}
use Rattle.mesh_data.specs.declared.geometry.Vertex.{Vertex}
use Rattle.mesh_data.specs.Edits.{Simplification, collapsed, done_steps, least_step, simplified_within, whole_count}
use Rattle.mesh_data.specs.Mesh.{Mesh}
use Rattle.edit_steps.proofs.Simplification.{stays}
use Rattle.mesh_sheets.specs.Clean.{AreNamed}
use Rattle.mesh_sheets.proofs.Climbing.{increasing, keys_climb}
use Rattle.mesh_sheets.proofs.Kept.{true_of_T}
use Rattle.sheet_forms.proofs.Counts.{below_at, few_climbing}
use Rattle.sheet_forms.proofs.Formed.{entries_each}

pub few_steps : (n : ℕ) (inside : Point → Bool) (m : Mesh) (most : ℤ) (target : ℕ)
    → length (simplified_within n inside m most target).steps ≤ n
unfolding simplified_within
few_steps zero inside m most target = omega arith
few_steps (suc n) inside m most target =
    let go_on : Step → Simplification = λ s.
    let rest = simplified_within n inside (collapsed m s.u s.v) most target in
    record { mesh = rest.mesh; steps = s ∷ rest.steps } in
    elim (nat_le (whole_count inside m) target) as (λ b.
    length (cond b (stays m) (option_map_or go_on (least_step (done_steps inside m most)) (stays m))).steps ≤ suc n) [
      | true ↦ omega arith
      | false ↦ elim (least_step (done_steps inside m most)) as (λ o. length (option_map_or go_on o (stays m)).steps ≤ suc n) [
        | None ↦ omega arith
        | Some s ↦ let rest = few_steps n inside (collapsed m s.u s.v) most target in omega arith
      ]
    ]

-- a mesh has no more vertices than there are names
pub few_named : (n : ℕ) (m : Mesh) → AreNamed n m → finite.len m.vertices ≤ n
few_named n m named =
    let es = finite.entries m.vertices in
    let name : ℕ × Vertex → ℕ = λ e. e.0 in
    let sorted = true_of_T _ (finite.entries_sorted m.vertices) in
    let below = entries_each (λ v x. v < n) es sorted (λ v x is. named v x (finite.get-entries m.vertices v ∙ is)) in
    let few = few_climbing n (map name es) (increasing (map name es) (keys_climb es sorted)) (below_at name n es below) in
    omega (arith, few, length-map es name, finite.len-entries m.vertices)
