-- What a collapse leaves of errors and prices.
use Rattle.std.proofs.Common.{◌≡◌, ◌≢◌, ℕ, ℤ, pos, ◌+ℤ◌, eqb, Bool, cond, ap, ◌∙◌}
use Rattle.std.proofs.lemmas.Bool.{ne_eqb}
use Rattle.oemm_octree.specs.declared.points.Point.{Point}
use Rattle.mesh_data.specs.declared.edits.Reply.TheVariants.{DoneAt}
use Rattle.mesh_data.specs.Edits.{cost, is_done, point_or_origin}
use Rattle.edit_laws.proofs.FarPairs.{point-away}
use Rattle.edit_steps.proofs.Passed.{CollapsePassed, collapse_passed}
use Rattle.queued_simplify.specs.Errors.{ErrorMesh, CanCollapse, collapse_reply, contracted, price}
use Rattle.queued_simplify.specs.Served.{IsPair}
use Rattle.queued_simplify.proofs.Verdicts.{done_by, done_by_planes, int_le-itself}

-- the error of a name that is neither u nor v stays
error_away : (w : ErrorMesh) (u v x : ℕ) (p : Point) → x ≢ u → x ≢ v → (contracted w u v).error x p ≡ w.error x p
error_away w u v x p xu xv =
    ap (λ (b : Bool). cond b (pos 0) (cond (eqb x v) (w.error v p +ℤ w.error u p) (w.error x p))) (ne_eqb x u xu)
    ∙ ap (λ (b : Bool). cond b (w.error v p +ℤ w.error u p) (w.error x p)) (ne_eqb x v xv)

-- and so does the price of a pair of such names
pub price_away : (w : ErrorMesh) (u v x y : ℕ) → x ≢ u → x ≢ v → y ≢ u → y ≢ v
    → price (contracted w u v) x y ≡ price w x y
price_away w u v x y xu xv yu yv =
    let n = contracted w u v in
    let at = point_or_origin w.mesh y in
    ap (λ p. n.error x p +ℤ n.error y p) (point-away w.mesh u v y yu)
    ∙ (λ i. error_away w u v x at xu xv i +ℤ error_away w u v y at yu yv i)

-- ---- what a collapse that is done says
pub reply_passed : (inside : Point → Bool) (w : ErrorMesh) (u v : ℕ) (most k : ℤ)
    → collapse_reply inside w u v most ≡ DoneAt k
    → CollapsePassed inside w.mesh u v
reply_passed inside w u v most k done =
    collapse_passed inside w.mesh u v (cost w.mesh u v)
    (ap is_done (done_by_planes inside w.mesh u v (price w u v) most k done))

pub pair_of_done : (inside : Point → Bool) (w : ErrorMesh) (u v : ℕ) (most k : ℤ)
    → collapse_reply inside w u v most ≡ DoneAt k
    → IsPair inside w.mesh u v
pair_of_done inside w u v most k done =
    let p = (reply_passed inside w u v most k done).pair in
    record { held = p.held; onto_held = p.onto_held; apart = p.apart; near = p.near }

pub can_collapse : (inside : Point → Bool) (w : ErrorMesh) (u v : ℕ) (most k : ℤ)
    → collapse_reply inside w u v most ≡ DoneAt k
    → CanCollapse inside w u v
can_collapse inside w u v most k done =
    done_by inside w.mesh u v (price w u v) most k (price w u v) (price w u v) done (int_le-itself (price w u v))
