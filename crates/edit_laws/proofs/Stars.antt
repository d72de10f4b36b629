-- Links, third names, neighbours and shared names depend on the triangles at one name alone.
use Rattle.std.proofs.Common.{◌≡◌, ℕ, true, false, cond, not, ◌&&◌, ◌||◌, eqb, List, [], ◌∷◌, map, length, Option, Some, None, find, refl, sym, ap, ◌∙◌}
use Rattle.std.proofs.lemmas.Bool.{and_parts, or_parts}
use Rattle.std.proofs.lemmas.Map.Views.{any-filter_same}
use Rattle.std.specs.List.{list_any, filter, flat_map}
use Rattle.std.specs.Option.{option_or}
use Rattle.std.specs.Ordering.{nat_cmp}
use Rattle.oemm_lists.specs.Ascending.{in_order}
use Rattle.mesh_data.specs.declared.geometry.Tri.{Tri}
use Rattle.mesh_data.specs.Links.{has_both, are_neighbours, apex, is_name, link_violation, is_closed_by_three, names_along}
use Rattle.mesh_data.specs.Rings.{link, from_each_corner, has_closed_ring, go_round}
use Rattle.mesh_data.specs.Triangles.{corners, has_corner, star, neighbours}
use Rattle.triangle_edits.specs.Links.{apex_in}
use Rattle.triangle_edits.proofs.Apexes.{apex-cons}

-- a triangle without v
pub apart_from : (v : ℕ) (t : Tri) → has_corner v t ≡ false → (eqb t.a v ≡ false) × (eqb t.b v ≡ false) × (eqb t.c v ≡ false)
apart_from v t non =
    let one = or_parts (eqb t.a v || eqb t.b v) (eqb t.c v) non in
    let two = or_parts (eqb t.a v) (eqb t.b v) one.0 in
    (two.0, two.1, one.1)

-- ---- links
abbrev starting : ℕ → List Tri → List Tri
starting v ts = filter (λ t. eqb t.a v) (flat_map from_each_corner ts)

starting-star : (v : ℕ) (ts : List Tri) → starting v (star v ts) ≡ starting v ts
starting-star v [] = refl
starting-star v (t ∷ ts) =
    let t2 : Tri = record { a = t.b; b = t.c; c = t.a } in
    let t3 : Tri = record { a = t.c; b = t.a; c = t.b } in
    let rest = starting-star v ts in
    elim (has_corner v t) as (λ b. has_corner v t ≡ b → starting v (cond b (t ∷ star v ts) (star v ts)) ≡ starting v (t ∷ ts)) [
      | true ↦ λ _ i. (let r3 = cond (eqb t.c v) (t3 ∷ rest i) (rest i) in let r2 = cond (eqb t.b v) (t2 ∷ r3) r3 in cond (eqb t.a v) (t ∷ r2) r2)
      | false ↦ λ non. let away = apart_from v t non in rest ∙ sym (λ i. (let r3 = cond (away.2 i) (t3 ∷ starting v ts) (starting v ts) in let r2 = cond (away.1 i) (t2 ∷ r3) r3 in cond (away.0 i) (t ∷ r2) r2))
    ] refl

-- the link of v is that of its star
pub link-star : (v : ℕ) (ts : List Tri) → link v (star v ts) ≡ link v ts
unfolding link
link-star v ts = ap (map (λ t. record { a = t.b; b = t.c })) (starting-star v ts)

pub link_alike : (v : ℕ) (ts us : List Tri) → star v ts ≡ star v us → link v ts ≡ link v us
link_alike v ts us same = sym (link-star v ts) ∙ ap (link v) same ∙ link-star v us

-- ---- third names
apex_none : (t : Tri) (a b : ℕ) → has_corner a t ≡ false → apex_in t a b ≡ None
apex_none t a b non =
    let away = apart_from a t non in
    λ i. cond (away.0 i && eqb t.b b) (Some t.c) (cond (away.1 i && eqb t.c b) (Some t.a) (cond (away.2 i && eqb t.a b) (Some t.b) None))

-- the third name is that of the star of a
pub apex-star : (ts : List Tri) (a b : ℕ) → apex (star a ts) a b ≡ apex ts a b
apex-star [] a b = refl
apex-star (t ∷ ts) a b =
    elim (has_corner a t) as (λ x. has_corner a t ≡ x → apex (cond x (t ∷ star a ts) (star a ts)) a b ≡ apex (t ∷ ts) a b) [
      | true ↦ λ _. apex-cons t (star a ts) a b ∙ ap (option_or (apex_in t a b)) (apex-star ts a b) ∙ sym (apex-cons t ts a b)
      | false ↦ λ non. apex-star ts a b ∙ sym (apex-cons t ts a b ∙ ap (λ (o : Option ℕ). option_or o (apex ts a b)) (apex_none t a b non))
    ] refl

pub apex_alike : (ts us : List Tri) (a b : ℕ) → star a ts ≡ star a us → apex ts a b ≡ apex us a b
apex_alike ts us a b same = sym (apex-star ts a b) ∙ ap (λ ss. apex ss a b) same ∙ apex-star us a b

-- ---- neighbours
pub neighbours_alike : (v : ℕ) (ts us : List Tri) → star v ts ≡ star v us → neighbours v ts ≡ neighbours v us
neighbours_alike v ts us same = ap (λ ss. filter (λ w. not (eqb w v)) (flat_map corners ss)) same

near-star : (ts : List Tri) (u v : ℕ) → are_neighbours (star u ts) u v ≡ are_neighbours ts u v
near-star ts u v = any-filter_same (has_both u v) (has_corner u) true (λ t h. (and_parts (has_corner u t) (has_corner v t) h).0) ts

pub near_alike : (ts us : List Tri) (u v : ℕ) → star u ts ≡ star u us → are_neighbours ts u v ≡ are_neighbours us u v
near_alike ts us u v same = sym (near-star ts u v) ∙ ap (λ ss. are_neighbours ss u v) same ∙ near-star us u v

-- ---- shared names, rings of three
pub shared_alike : (ts us : List Tri) (u v : ℕ) → star u ts ≡ star u us → star v ts ≡ star v us → link_violation ts u v ≡ link_violation us u v
unfolding link_violation
shared_alike ts us u v of_u of_v =
    λ i. find (λ w. list_any (λ x. eqb x w) (neighbours_alike v ts us of_v i) && not (is_name (apex_alike ts us u v of_u i) w || is_name (apex_alike ts us v u of_v i) w)) (in_order nat_cmp (neighbours_alike u ts us of_u i))

pub closed_alike : (v : ℕ) (ts us : List Tri) → star v ts ≡ star v us → has_closed_ring ts v ≡ has_closed_ring us v
closed_alike v ts us same = ap go_round (link_alike v ts us same)

pub three_alike : (v : ℕ) (ts us : List Tri) → star v ts ≡ star v us → is_closed_by_three ts v ≡ is_closed_by_three us v
unfolding is_closed_by_three
three_alike v ts us same = λ i. go_round (link_alike v ts us same i) && eqb (length (names_along (link_alike v ts us same i))) 3
