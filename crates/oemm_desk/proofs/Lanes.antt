-- The counts of the lanes, entry by entry.
use Rattle.std.proofs.Common.{◌≡◌, ◌≢◌, ℕ, ◌+◌, ◌<◌, ◌≤◌, Bool, true, false, cond, eqb, List, [], ◌∷◌, ◌++◌, take, length, get_or, Some, take-suc, add-one, refl, sym, ap, ◌∙◌, subst, arith}
use Rattle.std.specs.Prelude.{slice_index}
use Rattle.std.specs.List.{count_by, slice_get}
use Rattle.std.proofs.lemmas.Option.{get_or_from_slice_get}
use Rattle.std.proofs.Math.Seq.{get_or-append_seam}
use Rattle.std.proofs.lemmas.Bool.{eqb-true, eq-eqb, false≢true}
use Rattle.std.proofs.lemmas.List.Sums.{count_by-le-length, sum_by-append}
use Rattle.mesh_data.specs.declared.edits.Entry.{Entry}
use Rattle.stored_mesh.specs.Versions.{next_of}
use Rattle.oemm_shelf.specs.Shown.{CountLanes}

next_push : (es : List Entry) (e : Entry) (k : ℕ) → next_of (es ++ e ∷ []) k ≡ next_of es k + cond (eqb e.task.lane k) 1 0
next_push es e k =
    let f : Entry → ℕ = λ e. cond (eqb e.task.lane k) 1 0 in
    let one : next_of (e ∷ []) k ≡ f e = omega arith in
    sum_by-append f es (e ∷ []) ∙ ap (λ (n : ℕ). next_of es k + n) one

-- a lane has no more tasks than there are
pub next_few : (es : List Entry) (k : ℕ) → next_of es k ≤ length es
next_few es k = count_by-le-length (λ (e : Entry). eqb e.task.lane k) es

-- one task more of the entry's lane
pub count_push : (lanes new : List ℕ) (es : List Entry) (e : Entry) → CountLanes lanes es → length new ≡ length lanes
    → slice_index new e.task.lane ≡ slice_index lanes e.task.lane + 1
    → ((k : ℕ) → k ≢ e.task.lane → slice_index new k ≡ slice_index lanes k) → CountLanes new (es ++ e ∷ [])
count_push lanes new es e counted many one others = (
  many ∙ counted.0,
  λ k lt. elim (eqb e.task.lane k) as (λ b. eqb e.task.lane k ≡ b → slice_index new k ≡ next_of (es ++ e ∷ []) k) [
    | true ↦ λ on.
        let same : e.task.lane ≡ k = eqb-true e.task.lane k on in
        let more : slice_index new k ≡ slice_index lanes k + 1 = subst (λ (j : ℕ). slice_index new j ≡ slice_index lanes j + 1) same one in
        let next : next_of (es ++ e ∷ []) k ≡ next_of es k + 1 = next_push es e k ∙ ap (λ b. next_of es k + cond b 1 0) on in
        omega (arith, more, next, counted.1 k lt)
    | false ↦ λ off.
        let other : k ≢ e.task.lane = λ same. false≢true (sym off ∙ eq-eqb e.task.lane k (sym same)) in
        let next : next_of (es ++ e ∷ []) k ≡ next_of es k + 0 = next_push es e k ∙ ap (λ b. next_of es k + cond b 1 0) off in
        omega (arith, others k other, next, counted.1 k lt)
  ] refl,
)

-- the first entries, one more
pub count_more : (lanes new : List ℕ) (es : List Entry) (i : ℕ) (e : Entry) → i < length es → get_or es i e ≡ e
    → CountLanes lanes (take i es) → length new ≡ length lanes
    → slice_index new e.task.lane ≡ slice_index lanes e.task.lane + 1
    → ((k : ℕ) → k ≢ e.task.lane → slice_index new k ≡ slice_index lanes k) → CountLanes new (take (i + 1) es)
count_more lanes new es i e lt is counted many one others =
    let more : take (i + 1) es ≡ take i es ++ e ∷ [] =
    ap (λ n. take n es) (add-one i) ∙ take-suc es i e lt ∙ ap (λ x. take i es ++ x ∷ []) is in
    subst (CountLanes new) (sym more) (count_push lanes new (take i es) e counted many one others)

-- what was put at the end stands there
pub last_is : {X : Type 0} (xs now : List X) (y z : X) (n : ℕ) → now ≡ xs ++ y ∷ [] → n ≡ length xs
    → slice_get now n ≡ Some z → z ≡ y
last_is {X = X} xs now y z n grown is at =
    sym (get_or_from_slice_get now n z z at) ∙ ap (λ (ys : List X). get_or ys n z) grown
    ∙ ap (λ (k : ℕ). get_or (xs ++ y ∷ []) k z) is ∙ get_or-append_seam xs y [] z
