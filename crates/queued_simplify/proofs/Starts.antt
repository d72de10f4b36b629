-- A queue at the start.
use Rattle.std.proofs.Common.{◌≡◌, inl, inr, ℕ, ◌*◌, ◌≤◌, ◌||◌, eqb, ℤ, Bool, true, false, cond, List, [], ◌∷◌, map, length, Option, Some, None, refl, sym, ap, ◌∙◌, subst, arith}
use Rattle.std.specs.Cmp.{nat_cmp_total, unsigned_tied, eq_by_cmp_equiv}
use Rattle.std.specs.FinMap as finite
use Rattle.std.specs.FinMap.Entries.{find}
use Rattle.std.specs.List.{IsDistinct}
use Rattle.std.specs.Option.{is_some, option_map_or}
use Rattle.std.specs.Ordering.{nat_cmp, eq_by_cmp}
use Rattle.oemm_lists.specs.Numbers.{among}
use Rattle.oemm_octree.specs.declared.points.Point.{Point}
use Rattle.mesh_data.specs.Mesh.{Mesh}
use Rattle.collapse_queue.specs.Candidates.{stamp_in}
use Rattle.collapse_queue.specs.Queues.{Queued, no_stamps, IsLive}
use Rattle.queued_simplify.specs.Errors.{ErrorMesh, price}
use Rattle.queued_simplify.specs.Filled.{AreStamped, IsFilled, all_of}
use Rattle.queued_simplify.specs.Rooms.{IsRoomy}
use Rattle.queued_simplify.specs.Turns.{AreHeldNames, IsFit, IsReady}
use Rattle.queued_simplify.proofs.Prices.{pair_of_done}
use Rattle.queued_simplify.proofs.Verdicts.{done_at}

tied : (w n : ℕ) → eq_by_cmp nat_cmp w n ≡ eqb n w
tied w n = (eq_by_cmp_equiv nat_cmp_total).symm w n ∙ unsigned_tied n w

found : (ns : List ℕ) (w : ℕ) → find {X = ℕ} nat_cmp w (map (λ n. (n, 0)) ns) ≡ cond (among w ns) (Some 0) None
found [] w = refl
found (n ∷ ns) w =
    (λ i. cond (tied w n i) (Some 0) (found ns w i))
    ∙ elim (eqb n w) as (λ b. ◌≡◌ {A =
    Option ℕ} (cond b (Some 0) (cond (among w ns) (Some 0) None)) (cond (b || among w ns) (Some 0) None)) [
      | true ↦
          refl
      | false ↦ refl
    ]

got : (ns : List ℕ) (w : ℕ) → finite.get (no_stamps ns) w ≡ cond (among w ns) (Some 0) None
got ns w = finite.get-from_entries nat_cmp_total (map (λ n. (n, 0)) ns) w ∙ found ns w

zero_stamp : (ns : List ℕ) (w : ℕ) → stamp_in (no_stamps ns) w ≡ 0
zero_stamp ns w = ap (λ (o : Option ℕ). option_map_or (λ s. s) o 0) (got ns w)
    ∙ elim (among w ns) as (λ b. let o : Option ℕ = cond b (Some 0) None in
    option_map_or (λ s. s) o 0 ≡ 0) [ true ↦ refl | false ↦ refl ]

has_stamp : (ns : List ℕ) (w : ℕ) → among w ns ≡ true → finite.contains_key (no_stamps ns) w ≡ true
has_stamp ns w on = ap is_some (got ns w) ∙ ap (λ (b : Bool). let o : Option ℕ = cond b (Some 0) None in is_some o) on

abbrev pub begun : ℕ → List ℕ → Queued
begun room names = record { room = room; items = []; stamps = no_stamps names }

pub stamped_start : (room : ℕ) (names : List ℕ) (q : Queued) → q ≡ begun room names → AreStamped names 0 q
stamped_start room names q is = subst (AreStamped names 0) (sym is) (record {
  stamp = λ x on. zero_stamp names x;
  none = λ c live. absurd live.inside;
  items = λ c i. absurd i;
})

pub roomy_start : (inside : Point → Bool) (m : Mesh) (room : ℕ) (names : List ℕ) (q : Queued) → q ≡ begun room names
    → room ≡ 6 * length m.tris → IsRoomy inside m q
unfolding IsDistinct
roomy_start inside m room names q is six = subst (IsRoomy inside m) (sym is) (record {
  once = tt;
  pairs = λ c live. absurd live.inside;
  room = omega (arith, six);
})

pub ready_start : (inside : Point → Bool) (most : ℤ) (w : ErrorMesh) (room : ℕ) (names : List ℕ) (q t : Queued)
    (refused : finite.FinMap nat_cmp ℕ)
    → q ≡ begun room names → refused ≡ no_stamps names → AreHeldNames inside w.mesh names
    → IsFilled inside most w (all_of names) 0 q t → IsReady inside most w t refused
ready_start inside most w room names q t refused is none held f = record {
  served = record {
    present = λ c live. elim (f.made c live) [
      | inl was ↦ absurd (subst (λ (p : Queued). IsLive p c) is was).inside
      | inr it ↦ (it.1, it.2)
    ];
    complete = λ x y k _ done.
        let p = pair_of_done inside w x y most k done in
        f.whole x y (held x ∙ p.held) p (done_at inside w.mesh x y (price w x y) most k done).1;
  };
  whole = λ x _ _ y p cheap. f.whole x y (held x ∙ p.held) p cheap;
  keys = λ x has. ap (λ ss. finite.contains_key ss x) none ∙ has_stamp names x (held x ∙ has);
}

pub fit_start : (inside : Point → Bool) (most : ℤ) (w : ErrorMesh) (room : ℕ) (names : List ℕ) (q t : Queued)
    → q ≡ begun room names → AreHeldNames inside w.mesh names → IsFilled inside most w (all_of names) 0 q t
    → IsFit inside w.mesh 1 t
fit_start inside most w room names q t is held f =
    let stamps : t.stamps ≡ no_stamps names = f.stamps ∙ ap (λ (p : Queued). p.stamps) is in
    record {
      roomy = f.roomy;
      items = λ c i. let low : c.stamp ≤ 0 = f.items c i in omega (arith, low);
      stamps = λ x. let zero : stamp_in t.stamps x ≡ 0 = ap (λ ss. stamp_in ss x) stamps ∙ zero_stamp names x in
          omega (arith, zero);
      keys = λ x has. ap (λ ss. finite.contains_key ss x) stamps ∙ has_stamp names x (held x ∙ has);
    }
