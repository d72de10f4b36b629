-- Which items are live.
use Rattle.std.proofs.Common.{◌≡◌, ◌≢◌, ◌⊎◌, ◌↔◌, inl, inr, ℕ, ◌≤◌, nat_lt, nat_le, nat_eq, Bool, true, false, cond, List, [], ◌∷◌, filter, find, length, Option, Some, None, IfSome, IfNone, refl, sym, ap, ◌∙◌, subst}
use Rattle.std.proofs.lemmas.Bool.{false≢true, eqb-true, ne_eqb, leb-true, le-leb, eq-eqb}
use Rattle.std.proofs.lemmas.Cmp.{tied_itself}
use Rattle.std.specs.Cmp.{nat_cmp_total, unsigned_tied}
use Rattle.std.specs.FinMap as finite
use Rattle.std.specs.Option.{option_map_or}
use Rattle.std.specs.Ordering.{nat_cmp, is_le, is_gt}
use Rattle.std.specs.declared.cmp.Reverse.{Reverse}
use Rattle.oemm_lists.specs.Ascending.{inserted}
use Rattle.triangle_lists.proofs.Sorting.{le_of, IsLeast, Rises, Rises-in_order}
use Rattle.collapse_queue.specs.declared.candidate.Candidate.{Candidate}
use Rattle.collapse_queue.specs.Candidates.{candidate_cmp, stamp_in, is_live, behind, unreversed}
use Rattle.collapse_queue.specs.Queues.{Queued, kept, pushed, restamped, popped, least_live, IsIn, IsLive, IsLeastLive, HasNoneLive}
use Rattle.collapse_queue.proofs.Heaps.{candidate_cmp_total, held}

-- ---- members
in_placed : (c d : Candidate) (ds : List Candidate) → IsIn d (inserted candidate_cmp c ds) → (d ≡ c) ⊎ IsIn d ds
in_placed c d [] = λ h. h
in_placed c d (e ∷ es) =
    elim (is_le (candidate_cmp c e)) as (λ b. IsIn d (cond b (c ∷ e ∷ es) (e ∷ inserted candidate_cmp c es))
    → (d ≡ c) ⊎ IsIn d (e ∷ es)) [
      | true ↦ λ h. h
      | false ↦ λ h. elim h [
        | inl is ↦ inr (inl is)
        | inr more ↦ elim (in_placed c d es more) [ inl is ↦ inl is | inr rest ↦ inr (inr rest) ]
      ]
    ]

placed_in : (c d : Candidate) (ds : List Candidate) → (d ≡ c) ⊎ IsIn d ds → IsIn d (inserted candidate_cmp c ds)
placed_in c d [] h = h
placed_in c d (e ∷ es) h =
    elim (is_le (candidate_cmp c e)) as (λ b. IsIn d (cond b (c ∷ e ∷ es) (e ∷ inserted candidate_cmp c es))) [
      | true ↦ h
      | false ↦ elim h [
        | inl is ↦ inr (placed_in c d es (inl is))
        | inr some ↦ elim some [ inl is ↦ inl is | inr more ↦ inr (placed_in c d es (inr more)) ]
      ]
    ]

pub in_filter : (p : Candidate → Bool) (d : Candidate) (ds : List Candidate) → IsIn d (filter p ds) → IsIn d ds
in_filter p d [] = λ h. h
in_filter p d (e ∷ es) =
    elim (p e) as (λ b. IsIn d (cond b (e ∷ filter p es) (filter p es)) → IsIn d (e ∷ es)) [
      | true ↦ λ h. elim h [ inl is ↦ inl is | inr more ↦ inr (in_filter p d es more) ]
      | false ↦ λ h. inr (in_filter p d es h)
    ]

pub filter_in : (p : Candidate → Bool) (d : Candidate) (ds : List Candidate) → p d ≡ true → IsIn d ds
    → IsIn d (filter p ds)
filter_in p d [] passes h = h
filter_in p d (e ∷ es) passes h =
    elim (p e) as (λ b. p e ≡ b → IsIn d (cond b (e ∷ filter p es) (filter p es))) [
      | true ↦ λ _. elim h [ inl is ↦ inl is | inr more ↦ inr (filter_in p d es passes more) ]
      | false ↦ λ out. elim h [
        | inl is ↦ absurd (false≢true (sym out ∙ ap p (sym is) ∙ passes))
        | inr more ↦ filter_in p d es passes more
      ]
    ] refl

in_kept : (q : Queued) (d : Candidate) → IsIn d (kept q) → IsIn d q.items
in_kept q d =
    elim (nat_lt (length q.items) q.room) as (λ b. IsIn d (cond b q.items (filter (is_live q.stamps) q.items))
    → IsIn d q.items) [ true ↦ λ h. h | false ↦ λ h. in_filter (is_live q.stamps) d q.items h ]

kept_live : (q : Queued) (d : Candidate) → IsLive q d → IsIn d (kept q)
kept_live q d h =
    elim (nat_lt (length q.items) q.room) as (λ b. IsIn d (cond b q.items (filter (is_live q.stamps) q.items))) [
      | true ↦
          h.inside
      | false ↦ filter_in (is_live q.stamps) d q.items h.live h.inside
    ]

-- ---- after a push
pub in_pushed : (q : Queued) (c d : Candidate) → IsIn d (pushed c q).items → (d ≡ c) ⊎ IsIn d q.items
in_pushed q c d h = elim (in_placed c d (kept q) h) [ inl is ↦ inl is | inr more ↦ inr (in_kept q d more) ]

pub live_pushed : (q : Queued) (c d : Candidate)
    → IsLive (pushed c q) d ↔ ((d ≡ c) × (is_live q.stamps c ≡ true)) ⊎ IsLive q d
live_pushed q c d = (
  λ h. elim (in_placed c d (kept q) h.inside) [
    | inl is ↦ inl (is, ap (is_live q.stamps) (sym is) ∙ h.live)
    | inr more ↦ inr (record { inside = in_kept q d more; live = h.live })
  ],
  λ h. elim h [
    | inl it ↦ record { inside = placed_in c d (kept q) (inl it.0); live = ap (is_live q.stamps) it.0 ∙ it.1 }
    | inr was ↦ record { inside = placed_in c d (kept q) (inr (kept_live q d was)); live = was.live }
  ],
)

-- ---- after a pop
behind_or : (p : Candidate → Bool) (c d : Candidate) (ds : List Candidate) → find p ds ≡ Some c → p d ≡ true → IsIn d ds
    → (d ≡ c) ⊎ IsIn d (behind p ds)
behind_or p c d [] = λ found passes h. absurd h
behind_or p c d (e ∷ es) =
    elim (p e) as (λ b. p e ≡ b → cond b (Some e) (find p es) ≡ Some c → p d ≡ true → IsIn d (e ∷ es)
    → (d ≡ c) ⊎ IsIn d (cond b es (behind p es))) [
      | true ↦ λ _ found passes h. elim h [
        | inl is ↦ inl (is ∙ ap (λ o. option_map_or (λ x. x) o e) found)
        | inr more ↦ inr more
      ]
      | false ↦ λ out found passes h. elim h [
        | inl is ↦ absurd (false≢true (sym out ∙ ap p (sym is) ∙ passes))
        | inr more ↦ behind_or p c d es found passes more
      ]
    ] refl

pub behind_in : (p : Candidate → Bool) (d : Candidate) (ds : List Candidate) → IsIn d (behind p ds) → IsIn d ds
behind_in p d [] = λ h. h
behind_in p d (e ∷ es) = elim (p e) as (λ b. IsIn d (cond b es (behind p es)) → IsIn d (e ∷ es)) [
  | true ↦ λ h. inr h
  | false ↦ λ h. inr (behind_in p d es h)
]

pub live_popped : (q : Queued) (c d : Candidate) → least_live q ≡ Some c → IsLive q d → (d ≡ c) ⊎ IsLive (popped q) d
live_popped q c d found h = elim (behind_or (is_live q.stamps) c d q.items found h.live h.inside) [
  | inl is ↦ inl is
  | inr more ↦ inr (record { inside = more; live = h.live })
]

pub popped_live : (q : Queued) (d : Candidate) → IsLive (popped q) d → IsLive q d
popped_live q d h = record { inside = behind_in (is_live q.stamps) d q.items h.inside; live = h.live }

-- ---- the least
pub found_in : (p : Candidate → Bool) (c : Candidate) (ds : List Candidate) → find p ds ≡ Some c
    → IsIn c ds × (p c ≡ true)
found_in p c [] = λ found. absurd (false≢true (ap (λ o. option_map_or (λ _. true) o false) found))
found_in p c (e ∷ es) =
    elim (p e) as (λ b. p e ≡ b → cond b (Some e) (find p es) ≡ Some c → IsIn c (e ∷ es) × (p c ≡ true)) [
      | true ↦ λ passes found. let is : e ≡ c = ap (λ o. option_map_or (λ x. x) o e) found in
          (inl (sym is), ap p (sym is) ∙ passes)
      | false ↦ λ _ found. let rest = found_in p c es found in (inr rest.0, rest.1)
    ] refl

least_in : (c d : Candidate) (ds : List Candidate) → IsLeast candidate_cmp_total c ds → IsIn d ds
    → is_gt (candidate_cmp c d) ≡ false
least_in c d [] h i = absurd i
least_in c d (e ∷ es) h i = elim i [
  | inl is ↦ ap (λ x. is_gt (candidate_cmp c x)) is ∙ h.0
  | inr more ↦ least_in c d es h.1 more
]

found_least : (p : Candidate → Bool) (c d : Candidate) (ds : List Candidate) → Rises candidate_cmp_total ds
    → find p ds ≡ Some c → p d ≡ true → IsIn d ds → is_le (candidate_cmp c d) ≡ true
found_least p c d [] up = λ found passes i. absurd i
found_least p c d (e ∷ es) up =
    elim (p e) as (λ b. p e ≡ b → cond b (Some e) (find p es) ≡ Some c → p d ≡ true → IsIn d (e ∷ es)
    → is_le (candidate_cmp c d) ≡ true) [
      | true ↦ λ _ found passes i.
          let is : e ≡ c = ap (λ o. option_map_or (λ x. x) o e) found in
          elim i [
            | inl same ↦ le_of (candidate_cmp c d) (ap (λ x. is_gt (candidate_cmp x d)) (sym is ∙ sym same)
                ∙ itself d)
            | inr more ↦ le_of (candidate_cmp c d) (ap (λ x. is_gt (candidate_cmp x d)) (sym is)
                ∙ least_in e d es up.0 more)
          ]
      | false ↦ λ out found passes i. elim i [
        | inl is ↦ absurd (false≢true (sym out ∙ ap p (sym is) ∙ passes))
        | inr more ↦ found_least p c d es up.1 found passes more
      ]
    ] refl
  where
    itself : (x : Candidate) → is_gt (candidate_cmp x x) ≡ false
    itself x = ap is_gt (tied_itself candidate_cmp_total x)

none_found : (p : Candidate → Bool) (d : Candidate) (ds : List Candidate) → find p ds ≡ None → p d ≡ true → IsIn d ds
    → ⊥
none_found p d [] = λ found passes i. i
none_found p d (e ∷ es) =
    elim (p e) as (λ b. p e ≡ b → cond b (Some e) (find p es) ≡ None → p d ≡ true → IsIn d (e ∷ es) → ⊥) [
      | true ↦ λ _ found _ _. false≢true (sym (ap (λ o. option_map_or (λ _. true) o false) found))
      | false ↦ λ out found passes i. elim i [
        | inl is ↦ false≢true (sym out ∙ ap p (sym is) ∙ passes)
        | inr more ↦ none_found p d es found passes more
      ]
    ] refl

pub least_of_queue : (q : Queued) (rs : List (Reverse Candidate)) (c : Candidate) → q.items ≡ held rs
    → least_live q ≡ Some c → IsLeastLive q c
least_of_queue q rs c is found =
    let up : Rises candidate_cmp_total q.items =
    subst (λ (xs : List Candidate). Rises candidate_cmp_total xs) (sym is)
    (Rises-in_order candidate_cmp_total (unreversed rs)) in
    let it = found_in (is_live q.stamps) c q.items found in
    record {
      itself = record { inside = it.0; live = it.1 };
      least = λ d h. found_least (is_live q.stamps) c d q.items up found h.live h.inside;
    }

pub none_of_queue : (q : Queued) → least_live q ≡ None → HasNoneLive q
none_of_queue q found d h = none_found (is_live q.stamps) d q.items found h.live h.inside

-- what holds of an answer of a queue
pub answered : (q : Queued) (rs : List (Reverse Candidate)) (o : Option Candidate) → q.items ≡ held rs
    → o ≡ least_live q → IfSome o (λ c. IsLeastLive q c) × IfNone o (HasNoneLive q)
answered q rs None is found = (tt, none_of_queue q (sym found))
answered q rs (Some c) is found = (least_of_queue q rs c is (sym found), tt)

-- ---- after a stamp
pub stamp_given : (m : finite.FinMap nat_cmp ℕ) (u s w : ℕ)
    → stamp_in (finite.insert m u s) w ≡ cond (nat_eq w u) s (stamp_in m w)
stamp_given m u s w =
    ap (λ o. option_map_or (λ x. x) o 0) (finite.get-insert nat_cmp_total m u s w)
    ∙ ap (λ (b : Bool). option_map_or (λ x. x) (cond b (Some s) (finite.get m w)) 0) (unsigned_tied w u)
    ∙ elim (nat_eq w u) as (λ b. option_map_or (λ x. x) (cond b (Some s) (finite.get m w)) 0
    ≡ cond b s (stamp_in m w)) [ true ↦ refl | false ↦ refl ]

pub live_restamped : (q : Queued) (u stamp : ℕ) (d : Candidate)
    → IsLive (restamped u stamp q) d ↔ IsIn d q.items
    × ((d.u ≡ u → stamp ≤ d.stamp) × (d.u ≢ u → is_live q.stamps d ≡ true))
live_restamped q u stamp d =
    let live : (b : Bool) → nat_eq d.u u ≡ b
    → is_live (finite.insert q.stamps u stamp) d ≡ nat_le (cond b stamp (stamp_in q.stamps d.u)) d.stamp =
    λ b e. ap (λ n. nat_le n d.stamp) (stamp_given q.stamps u stamp d.u
    ∙ ap (λ c. cond c stamp (stamp_in q.stamps d.u)) e) in (
      λ h. (
        h.inside,
        (
          λ is. leb-true stamp d.stamp (sym (live true (eq-eqb d.u u is)) ∙ h.live),
          λ other. sym (live false (ne_eqb d.u u other)) ∙ h.live,
        ),
      ),
      λ h. record {
        inside = h.0;
        live = elim (nat_eq d.u u) as (λ b. nat_eq d.u u ≡ b → is_live (finite.insert q.stamps u stamp) d ≡ true) [
          | true ↦ λ e. live true e ∙ le-leb stamp d.stamp (h.1.0 (eqb-true d.u u e))
          | false ↦ λ e. live false e ∙ h.1.1 (λ is. false≢true (sym e ∙ eq-eqb d.u u is))
        ] refl;
      },
    )
