use Rattle.std.proofs.Common.{◌≡◌, true, eqb, ◌∙◌, ap, subst, sym}
use Rattle.std.proofs.lemmas.Bool.{both_ways}
use Rattle.std.specs.List.{list_any}
use Rattle.std.specs.List.Sorted.{IsPermutation, IsStrictlyIncreasing}
use Rattle.mesh_data.specs.Manifold.{HasRing, is_corner}
use Rattle.triangle_lists.specs.HeldAudit.{AreHeldRinged, IsLeastHeldRingless}
use Rattle.triangle_lists.specs.Links.{behind_all}
use Rattle.triangle_lists.proofs.Ringless.{HasRingOf}
use Rattle.triangle_lists.proofs.HeldRingless.{Moved, corner_start, ringed_more, ringless_at, all_ringed, has_here, has_there}
use Rattle.triangle_lists.proofs.held_audit.least_held_ringless.Goals as goal
use Rattle.triangle_lists.proofs.held_audit.least_held_ringless.Goals.{else-has_start-via-then-has_start+in_ok-has_ring+else-not-branch, else-has_start-via-else-has_start}

pub returns-then-not-branch-clause-found : goal.returns-then-not-branch-clause-found
returns-then-not-branch-clause-found c =
    let ts = c.args.tris.now in
    let turned = c.sort_unstable.new.self.items in
    let v = c.v-item.result in
    let moved : Moved ts turned = subst (λ us. IsPermutation us turned) c.in_ok-turned.ensures c.sort_unstable.ensures.permutation in
    let corner : is_corner ts v ≡ true = sym (corner_start ts turned v moved) ∙ sym (c.has_start.ensures ∙ ap (λ us. list_any (λ t. eqb t.a v) us) c.as_slice.ensures.value) ∙ c.if-has_start.true in
    let none : HasRing ts v → ⊥ = λ has. both_ways c.in_ok-has_ring.field-0 c.if-not-branch.true (c.in_ok-has_ring.ensures.1 (subst (λ us. HasRingOf (behind_all v us)) (sym c.as_slice-then-has_start.ensures.value) (has_there ts turned v moved has))) in
    subst (λ held. IsLeastHeldRingless ts held v) c.slice-v-items.ensures.items
    (ringless_at ts c.slice-v-items.result.now c.loop-v.v-index v (subst IsStrictlyIncreasing (sym c.slice-v-items.ensures.items) c.slice-v-items.ensures.ascending) c.loop-v.invariant c.v-item.is c.loop-v-test.true corner none)

pub loop-v-preserved : goal.loop-v-preserved
loop-v-preserved c =
    let ts = c.args.tris.now in
    let turned = c.sort_unstable.new.self.items in
    let v = c.v-item.result in
    let moved : Moved ts turned = subst (λ us. IsPermutation us turned) c.in_ok-turned.ensures c.sort_unstable.ensures.permutation in
    let starts : c.has_start.result ≡ is_corner ts v = (c.has_start.ensures ∙ ap (λ us. list_any (λ t. eqb t.a v) us) c.as_slice.ensures.value) ∙ corner_start ts turned v moved in
    let ringed : is_corner ts v ≡ true → HasRing ts v = λ corner. elim c.else-has_start.branch [
      | else-has_start-via-then-has_start+in_ok-has_ring+else-not-branch w ↦ has_here ts turned v moved (subst (λ us. HasRingOf (behind_all v us)) w.as_slice-then-has_start.ensures.value (w.in_ok-has_ring.ensures.0 w.if-not-branch.false))
      | else-has_start-via-else-has_start w ↦ absurd (both_ways c.has_start.result w.if-has_start.false (starts ∙ corner))
    ] in
    ringed_more ts c.slice-v-items.result.now c.loop-v.v-index v c.loop-v.invariant c.v-item.is c.loop-v-test.true ringed

pub returns-clause-none : goal.returns-clause-none
returns-clause-none c =
    subst (AreHeldRinged c.args.tris.now) c.slice-v-items.ensures.items (all_ringed c.args.tris.now c.slice-v-items.result.now c.loop-v.v-index c.loop-v.invariant c.loop-v-test.false)
