-- Members of lists.
use Rattle.face_rings.specs.Faces.{◌∈◌}
use Rattle.oemm_lists.specs.Ascending.{in_order, inserted}
use Rattle.mesh_data.specs.Rings.{path_edges}
use Rattle.mesh_data.specs.Triangles.{tri_cmp}
use Rattle.mesh_data.specs.declared.geometry.Edge.{Edge}
use Rattle.mesh_data.specs.declared.geometry.Tri.{Tri}
use Rattle.std.proofs.Common.{Bool, List, [], ap, cond, false, filter, inl, inr, map, refl, sym, true, ℕ, ◌++◌, ◌∙◌, ◌∷◌, ◌≡◌, ◌⊎◌}
use Rattle.std.specs.Ordering.{is_le}
use Rattle.triangle_lists.proofs.Walks.{step}

-- ---- lists
-- members of two lists, one behind the other
pub append_left : {X : Type 0} (x : X) (xs ys : List X) → x ∈ xs → x ∈ xs ++ ys
append_left x [] ys i = absurd i
append_left x (z ∷ zs) ys (inl e) = inl e
append_left x (z ∷ zs) ys (inr i) = inr (append_left x zs ys i)

pub append_right : {X : Type 0} (x : X) (xs ys : List X) → x ∈ ys → x ∈ xs ++ ys
append_right x [] ys i = i
append_right x (z ∷ zs) ys i = inr (append_right x zs ys i)

pub append_cases : {X : Type 0} (x : X) (xs ys : List X) → x ∈ xs ++ ys → (x ∈ xs) ⊎ (x ∈ ys)
append_cases x [] ys i = inr i
append_cases x (z ∷ zs) ys (inl e) = inl (inl e)
append_cases x (z ∷ zs) ys (inr i) = elim (append_cases x zs ys i) [ inl j ↦ inl (inr j) | inr j ↦ inr j ]

-- members of a list that f makes
pub map_to : {X Y : Type 0} (f : X → Y) (xs : List X) (x : X) → x ∈ xs → f x ∈ map f xs
map_to f [] x i = absurd i
map_to f (y ∷ ys) x (inl e) = inl (ap f e)
map_to f (y ∷ ys) x (inr j) = inr (map_to f ys x j)

pub map_from : {X Y : Type 0} (f : X → Y) (xs : List X) (y : Y) → y ∈ map f xs → (x : X) × (x ∈ xs) × (y ≡ f x)
map_from f [] y i = absurd i
map_from f (x ∷ xs) y (inl e) = (x, inl refl, e)
map_from f (x ∷ xs) y (inr j) = let r = map_from f xs y j in (r.0, inr r.1, r.2)

cons_from : {X : Type 0} (p : X → Bool) (y : X) (ys : List X) (x : X) (b : Bool) → p y ≡ b → x ∈ cond b (y ∷ filter p ys) (filter p ys)
    → (x ∈ filter p ys → (x ∈ ys) × (p x ≡ true)) → (x ∈ y ∷ ys) × (p x ≡ true)
cons_from p y ys x true e (inl f) k = (inl f, ap p f ∙ e)
cons_from p y ys x true e (inr j) k = (inr (k j).0, (k j).1)
cons_from p y ys x false e j k = (inr (k j).0, (k j).1)

-- members of a filtered list
pub filter_from : {X : Type 0} (p : X → Bool) (xs : List X) (x : X) → x ∈ filter p xs → (x ∈ xs) × (p x ≡ true)
filter_from p [] x i = absurd i
filter_from p (y ∷ ys) x i = cons_from p y ys x (p y) refl i (λ j. filter_from p ys x j)

cons_to : {X : Type 0} (y : X) (zs : List X) (x : X) (b : Bool) → b ≡ true → x ≡ y → x ∈ cond b (y ∷ zs) zs
cons_to y zs x true e f = inl f
cons_to y zs x false e f = cc

cons_past : {X : Type 0} (y : X) (zs : List X) (x : X) (b : Bool) → x ∈ zs → x ∈ cond b (y ∷ zs) zs
cons_past y zs x true i = inr i
cons_past y zs x false i = i

pub filter_to : {X : Type 0} (p : X → Bool) (xs : List X) (x : X) → x ∈ xs → p x ≡ true → x ∈ filter p xs
filter_to p [] x i h = absurd i
filter_to p (y ∷ ys) x (inl e) h = cons_to y (filter p ys) x (p y) (sym (ap p e) ∙ h) e
filter_to p (y ∷ ys) x (inr j) h = cons_past y (filter p ys) x (p y) (filter_to p ys x j h)

-- ---- in order
-- members of a list in which an item was put in its place
put_from : (s t : Tri) (ts : List Tri) → s ∈ inserted tri_cmp t ts → (s ≡ t) ⊎ (s ∈ ts)
put_from s t [] (inl e) = inl e
put_from s t [] (inr j) = absurd j
put_from s t (y ∷ ys) i =
    elim (is_le (tri_cmp t y)) as (λ b. s ∈ cond b (t ∷ y ∷ ys) (y ∷ inserted tri_cmp t ys) → (s ≡ t) ⊎ (s ∈ y ∷ ys)) [
      | true ↦ λ on. on
      | false ↦ λ on. elim on [ inl e ↦ inr (inl e) | inr j ↦ elim (put_from s t ys j) [ inl e ↦ inl e | inr k ↦ inr (inr k) ] ]
    ] i

put_to : (s t : Tri) (ts : List Tri) → (s ≡ t) ⊎ (s ∈ ts) → s ∈ inserted tri_cmp t ts
put_to s t [] i = elim i [ inl e ↦ inl e | inr j ↦ absurd j ]
put_to s t (y ∷ ys) i =
    elim (is_le (tri_cmp t y)) as (λ b. s ∈ cond b (t ∷ y ∷ ys) (y ∷ inserted tri_cmp t ys)) [
      | true ↦ i
      | false ↦ elim i [ inl e ↦ inr (put_to s t ys (inl e)) | inr j ↦ elim j [ inl e ↦ inl e | inr k ↦ inr (put_to s t ys (inr k)) ] ]
    ]

-- a list in order has the members of the list
pub in_order_from : (s : Tri) (ts : List Tri) → s ∈ in_order tri_cmp ts → s ∈ ts
in_order_from s [] i = i
in_order_from s (t ∷ ts) i = elim (put_from s t (in_order tri_cmp ts) i) [ inl e ↦ inl e | inr j ↦ inr (in_order_from s ts j) ]

pub in_order_to : (s : Tri) (ts : List Tri) → s ∈ ts → s ∈ in_order tri_cmp ts
in_order_to s [] i = i
in_order_to s (t ∷ ts) (inl e) = put_to s t (in_order tri_cmp ts) (inl e)
in_order_to s (t ∷ ts) (inr j) = put_to s t (in_order tri_cmp ts) (inr (in_order_to s ts j))

-- ---- consecutive names
-- the steps of a path through a
pub steps-append : (xs : List ℕ) (a : ℕ) (ys : List ℕ) → path_edges (xs ++ a ∷ ys) ≡ path_edges (xs ++ a ∷ []) ++ path_edges (a ∷ ys)
steps-append [] a ys = refl
steps-append (x ∷ []) a ys = refl
steps-append (x ∷ y ∷ xs) a ys = ap (λ l. step x y ∷ l) (steps-append (y ∷ xs) a ys)

-- both names of a step are names of the list
pub steps_in : (xs : List ℕ) (e : Edge) → e ∈ path_edges xs → (e.a ∈ xs) × (e.b ∈ xs)
steps_in [] e i = absurd i
steps_in (x ∷ []) e i = absurd i
steps_in (x ∷ y ∷ ys) e (inl f) = (inl (ap (λ (p : Edge). p.a) f), inr (inl (ap (λ (p : Edge). p.b) f)))
steps_in (x ∷ y ∷ ys) e (inr j) = let r = steps_in (y ∷ ys) e j in (inr r.0, inr r.1)
