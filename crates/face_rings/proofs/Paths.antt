-- Names and steps of paths.
use Rattle.face_rings.proofs.Members.{append_cases, append_left, append_right, steps-append}
use Rattle.face_rings.proofs.Named.{IsDistinct}
use Rattle.face_rings.specs.Faces.{Leads, ◌∈◌}
use Rattle.mesh_data.specs.Rings.{closed_path, path_edges}
use Rattle.mesh_data.specs.declared.geometry.Edge.{Edge}
use Rattle.std.proofs.Common.{List, [], ap, arith, inl, inr, length, refl, subst, sym, ℕ, ◌++◌, ◌∷◌, ◌≡◌, ◌≢◌, ◌≤◌, ◌⊎◌}
use Rattle.triangle_lists.proofs.Walks.{step}

-- a member isn't what the list lacks
pub not_in : (u x : ℕ) (xs : List ℕ) → ¬ (u ∈ xs) → x ∈ xs → x ≢ u
not_in u x xs n i e = n (subst (λ z. z ∈ xs) e i)

-- ---- a path through u
-- the steps before r, beside u, and behind s
pub path : (p : List ℕ) (r u s : ℕ) (q : List ℕ) → path_edges (p ++ r ∷ u ∷ s ∷ q) ≡ path_edges (p ++ r ∷ []) ++ (step r u) ∷ (step u s) ∷ path_edges (s ∷ q)
path p r u s q = steps-append p r (u ∷ s ∷ q)

-- a step without u lies on one side
pub path_in : (p : List ℕ) (r u s : ℕ) (q : List ℕ) (x y : ℕ) → (step x y) ∈ path_edges (p ++ r ∷ u ∷ s ∷ q) → x ≢ u → y ≢ u → Leads x y (path_edges (p ++ r ∷ [])) ⊎ Leads x y (path_edges (s ∷ q))
path_in p r u s q x y i nx ny =
    elim (append_cases (step x y) (path_edges (p ++ r ∷ [])) ((step r u) ∷ (step u s) ∷ path_edges (s ∷ q)) (subst (λ l. (step x y) ∈ l) (path p r u s q) i)) [
      | inl j ↦ inl j
      | inr (inl e) ↦ absurd (ny (ap (λ (z : Edge). z.b) e))
      | inr (inr (inl e)) ↦ absurd (nx (ap (λ (z : Edge). z.a) e))
      | inr (inr (inr j)) ↦ inr j
    ]

-- ---- distinct names
-- different names that share none are different together
pub distinct_append : (xs ys : List ℕ) → IsDistinct xs → IsDistinct ys → ((x : ℕ) → x ∈ xs → x ∈ ys → ⊥) → IsDistinct (xs ++ ys)
distinct_append [] ys a b n = b
distinct_append (x ∷ xs) ys (h, a) b n =
    ((λ i. elim (append_cases x xs ys i) [ inl j ↦ h j | inr j ↦ n x (inl refl) j ]), distinct_append xs ys a b (λ z i j. n z (inr i) j))

-- and the parts of different names share none
pub distinct_parts : (xs ys : List ℕ) → IsDistinct (xs ++ ys) → IsDistinct xs × IsDistinct ys × ((x : ℕ) → x ∈ xs → x ∈ ys → ⊥)
distinct_parts [] ys d = (tt, d, λ x i j. i)
distinct_parts (x ∷ xs) ys (h, d) =
    let r = distinct_parts xs ys d in
    (((λ i. h (append_left x xs ys i)), r.0), r.1, λ z i j. elim i [ inl e ↦ h (append_right x xs ys (subst (λ w. w ∈ ys) e j)) | inr k ↦ r.2 z k j ])

-- a name of a loop has a next one
pub next_of : (xs : List ℕ) (z x : ℕ) → x ∈ xs → (y : ℕ) × Leads x y (path_edges (xs ++ z ∷ []))
next_of [] z x i = absurd i
next_of (w ∷ []) z x (inl e) = (z, inl (ap (λ n. step n z) e))
next_of (w ∷ []) z x (inr j) = absurd j
next_of (w ∷ y ∷ ys) z x (inl e) = (y, inl (ap (λ n. step n y) e))
next_of (w ∷ y ∷ ys) z x (inr j) = let r = next_of (y ∷ ys) z x j in (r.0, inr r.1)

-- ---- the two opposite names lose u
-- the steps before a, from a to b, and behind b
pub shorter : (p : List ℕ) (a b : ℕ) (q : List ℕ) → path_edges (p ++ a ∷ b ∷ q) ≡ path_edges (p ++ a ∷ []) ++ (step a b) ∷ path_edges (b ∷ q)
shorter p a b q = steps-append p a (b ∷ q)

-- the names before one of them, and those behind it
pub parted : (names : List ℕ) (m : ℕ) → m ∈ names → (front : List ℕ) × (back : List ℕ) × (names ≡ front ++ m ∷ back)
parted [] m i = absurd i
parted (n ∷ ns) m (inl e) = ([], ns, ap (λ (z : ℕ). z ∷ ns) (sym e))
parted (n ∷ ns) m (inr j) = let r = parted ns m j in (n ∷ r.0, r.1, ap (λ l. n ∷ l) r.2)

-- the last of some names
pub last_of : (x : ℕ) (xs : List ℕ) → (ys : List ℕ) × (y : ℕ) × (x ∷ xs ≡ ys ++ y ∷ [])
last_of x [] = ([], x, refl)
last_of x (z ∷ zs) = let r = last_of z zs in (x ∷ r.0, r.1, ap (λ l. x ∷ l) r.2)

-- a name of a path of two names or more has a step
pub on_step : (xs : List ℕ) (x : ℕ) → 2 ≤ length xs → x ∈ xs → (y : ℕ) × (Leads x y (path_edges xs) ⊎ Leads y x (path_edges xs))
on_step [] x long i = absurd i
on_step (a ∷ []) x long i = absurd (omega (arith, long))
on_step (a ∷ b ∷ xs) x long (inl e) = (b, inl (inl (ap (λ n. step n b) e)))
on_step (a ∷ b ∷ []) x long (inr (inl e)) = (a, inr (inl (ap (λ n. step a n) e)))
on_step (a ∷ b ∷ []) x long (inr (inr k)) = absurd k
on_step (a ∷ b ∷ c ∷ xs) x long (inr j) = let r = on_step (b ∷ c ∷ xs) x (omega arith) j in (r.0, elim r.1 [ inl i ↦ inl (inr i) | inr i ↦ inr (inr i) ])

-- a name behind the first has a step that leads to it
pub prev_of : (z : ℕ) (xs : List ℕ) (x : ℕ) → x ∈ xs → (y : ℕ) × Leads y x (path_edges (z ∷ xs))
prev_of z [] x i = absurd i
prev_of z (a ∷ xs) x (inl e) = (z, inl (ap (λ n. step z n) e))
prev_of z (a ∷ xs) x (inr j) = let r = prev_of a xs x j in (r.0, inr r.1)

-- a step leads to a name behind the first
pub ends_later : (z : ℕ) (xs : List ℕ) (x y : ℕ) → Leads x y (path_edges (z ∷ xs)) → y ∈ xs
ends_later z [] x y i = absurd i
ends_later z (a ∷ xs) x y (inl e) = inl (ap (λ (d : Edge). d.b) e)
ends_later z (a ∷ xs) x y (inr j) = inr (ends_later a xs x y j)

-- and starts at one before the last
pub starts_before : (xs : List ℕ) (z x y : ℕ) → Leads x y (path_edges (xs ++ z ∷ [])) → x ∈ xs
starts_before [] z x y i = absurd i
starts_before (a ∷ []) z x y (inl e) = inl (ap (λ (d : Edge). d.a) e)
starts_before (a ∷ []) z x y (inr j) = absurd j
starts_before (a ∷ b ∷ xs) z x y (inl e) = inl (ap (λ (d : Edge). d.a) e)
starts_before (a ∷ b ∷ xs) z x y (inr j) = inr (starts_before (b ∷ xs) z x y j)

-- a closed path has the names of its ring
pub in_closed : (xs : List ℕ) (x : ℕ) → x ∈ closed_path xs → x ∈ xs
in_closed [] x i = i
in_closed (a ∷ xs) x i = elim (append_cases x (a ∷ xs) (a ∷ []) i) [ inl j ↦ j | inr (inl e) ↦ inl e | inr (inr j) ↦ absurd j ]

-- ---- distinct names
-- without one of them
pub distinct_drop : (p : List ℕ) (m : ℕ) (q : List ℕ) → IsDistinct (p ++ m ∷ q) → IsDistinct (p ++ q)
distinct_drop p m q d =
    let r = distinct_parts p (m ∷ q) d in distinct_append p q r.0 r.1.1 (λ x i j. r.2 x i (inr j))

-- with others between them
pub distinct_insert : (p mid q : List ℕ) → IsDistinct (p ++ q) → IsDistinct mid → ((x : ℕ) → x ∈ mid → x ∈ p ++ q → ⊥) → IsDistinct (p ++ (mid ++ q))
distinct_insert p mid q d dm apart =
    let r = distinct_parts p q d in
    distinct_append p (mid ++ q) r.0 (distinct_append mid q dm r.1 (λ x i j. apart x i (append_right x p q j))) (λ x i j. elim (append_cases x mid q j) [ inl k ↦ apart x k (append_left x p q i) | inr k ↦ r.2 x i k ])
