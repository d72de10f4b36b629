-- What an item that is taken out tells of the next step.
use Rattle.std.proofs.Common.{◌≡◌, ◌≢◌, ◌<◌, ℕ, ℤ, eqb, nat_eq, not, Bool, true, false, cond, List, [], ◌∷◌, find, length, Some, None, ap, ◌∙◌, sym, refl, arith}
use Rattle.std.proofs.lemmas.Bool.{false≢true, eq-eqb}
use Rattle.std.specs.FinMap as finite
use Rattle.std.specs.Option.{is_some}
use Rattle.std.specs.Ordering.{nat_cmp}
use Rattle.oemm_octree.specs.declared.points.Point.{Point}
use Rattle.mesh_data.specs.declared.edits.Reply.{Reply}
use Rattle.mesh_data.specs.declared.edits.Reply.TheVariants.{Unheld, Frozen, Same, Apart, Border, Link, Closed, Folds, Dear, Edge, Outside, Done, DoneAt, Simplified}
use Rattle.collapse_queue.specs.declared.candidate.Candidate.{Candidate}
use Rattle.collapse_queue.specs.Candidates.{behind, stamp_in}
use Rattle.collapse_queue.specs.Queues.{Queued, IsLeastLive, HasNoneLive, popped, least_live}
use Rattle.collapse_queue.proofs.Members.{stamp_given}
use Rattle.queued_simplify.specs.Errors.{ErrorMesh, collapse_reply}
use Rattle.queued_simplify.specs.Turns.{IsNext, IsReady, is_priced, is_refused}
use Rattle.queued_simplify.proofs.Fits.{contains_given}
use Rattle.queued_simplify.proofs.Turns.{none_live, popped_but, popped_done, popped_refused, step_of, whole_popped}

-- ---- replies
priced : (r : Reply) → is_priced r ≡ true → (k : ℤ) × (r ≡ DoneAt k)
priced (DoneAt k) is = (k, refl)
priced (Unheld v) is = absurd (false≢true is)
priced (Frozen v) is = absurd (false≢true is)
priced Same is = absurd (false≢true is)
priced Apart is = absurd (false≢true is)
priced Border is = absurd (false≢true is)
priced (Link w) is = absurd (false≢true is)
priced Closed is = absurd (false≢true is)
priced (Folds t) is = absurd (false≢true is)
priced (Dear k) is = absurd (false≢true is)
priced (Edge a b) is = absurd (false≢true is)
priced Outside is = absurd (false≢true is)
priced Done is = absurd (false≢true is)
priced (Simplified steps left) is = absurd (false≢true is)

unpriced : (r : Reply) → is_priced r ≡ false → (k : ℤ) → r ≡ DoneAt k → ⊥
unpriced r isnt k is = false≢true (sym isnt ∙ ap is_priced is)

pub behind_fewer : (p : Candidate → Bool) (c : Candidate) (ds : List Candidate) → find p ds ≡ Some c
    → length (behind p ds) < length ds
behind_fewer p c [] = λ found. absurd (false≢true (ap is_some found))
behind_fewer p c (d ∷ ds) = elim (p d) as (λ b. cond b (Some d) (find p ds) ≡ Some c
    → length (cond b ds (behind p ds)) < length (d ∷ ds)) [
      | true ↦ λ _. omega arith
      | false ↦ λ found. omega (arith, behind_fewer p c ds found)
    ]

-- ---- one item taken out
pub next_found : (inside : Point → Bool) (most : ℤ) (w : ErrorMesh) (q : Queued) (refused : finite.FinMap nat_cmp ℕ)
    (c : Candidate) (r : Reply)
    → IsReady inside most w q refused → least_live q ≡ Some c → IsLeastLive q c
    → r ≡ collapse_reply inside w c.u c.v most → is_priced r ≡ true
    → IsNext inside most w (popped q) refused (Some (step_of c))
next_found inside most w q refused c r ready found least is ok =
    let k = priced r ok in (
      popped_done inside most w q c k.0 ready.served least (sym is ∙ k.1),
      record {
        served = popped_but inside most w q c ready.served found;
        whole = λ x other kept. whole_popped inside most w q c x found other (ready.whole x (λ b. b) kept);
        keys = ready.keys;
      },
    )

-- a name of which a collapse is refused is marked
marked : (refused : finite.FinMap nat_cmp ℕ) (u x : ℕ) → is_refused (finite.insert refused u 1) x ≡ false
    → (x ≢ u) × (is_refused refused x ≡ false)
marked refused u x kept =
    let given = stamp_given refused u 1 x in
    elim (nat_eq x u) as (λ b. nat_eq x u ≡ b → (x ≢ u) × (is_refused refused x ≡ false)) [
      | true ↦ λ e. absurd (false≢true (sym kept
          ∙ ap (λ n. not (eqb n 0)) (given ∙ ap (λ (b : Bool). cond b 1 (stamp_in refused x)) e)))
      | false ↦ λ e. (
        λ is. false≢true (sym e ∙ eq-eqb x u is),
        sym (ap (λ n. not (eqb n 0)) (given ∙ ap (λ (b : Bool). cond b 1 (stamp_in refused x)) e)) ∙ kept,
      )
    ] refl

pub next_more : (inside : Point → Bool) (most : ℤ) (w : ErrorMesh) (q : Queued) (refused : finite.FinMap nat_cmp ℕ)
    (c : Candidate) (r : Reply)
    → IsReady inside most w q refused → least_live q ≡ Some c
    → r ≡ collapse_reply inside w c.u c.v most → is_priced r ≡ false
    → IsReady inside most w (popped q) (finite.insert refused c.u 1)
next_more inside most w q refused c r ready found is isnt = record {
  served = popped_refused inside most w q c ready.served found (λ k done. unpriced r isnt k (is ∙ done));
  whole = λ x _ kept.
      let before = marked refused c.u x kept in
      whole_popped inside most w q c x found before.0 (ready.whole x (λ b. b) before.1);
  keys = λ x held. contains_given refused c.u 1 x (ready.keys x held);
}

pub next_none : (inside : Point → Bool) (most : ℤ) (w : ErrorMesh) (q r : Queued)
    (refused marks : finite.FinMap nat_cmp ℕ)
    → IsReady inside most w q refused → HasNoneLive q → IsNext inside most w r marks None
next_none inside most w q r refused marks ready none = none_live inside most w q ready.served none

-- the name of a live item has a mark
pub key_of : (inside : Point → Bool) (most : ℤ) (w : ErrorMesh) (q : Queued) (refused : finite.FinMap nat_cmp ℕ)
    (c : Candidate) → IsReady inside most w q refused → IsLeastLive q c → finite.contains_key refused c.u ≡ true
key_of inside most w q refused c ready least = ready.keys c.u (ready.served.present c least.itself).0.held
