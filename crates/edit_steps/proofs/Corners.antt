-- All corners round a free name are held.
use Rattle.std.proofs.Common.{◌≡◌, ℕ, Bool, true, false, cond, not, ◌||◌, eqb, List, [], ◌∷◌, sym, ap, ◌∙◌, refl, inl, inr, Some}
use Rattle.std.proofs.lemmas.Bool.{false≢true, eqb-true, and_parts, both_ways, or_cases}
use Rattle.std.specs.List.{filter, flat_map, list_all, list_any, AllByRecursion}
use Rattle.oemm_octree.specs.declared.points.Point.{Point}
use Rattle.mesh_data.specs.declared.geometry.Tri.{Tri}
use Rattle.mesh_data.specs.Edits.{is_held, is_free}
use Rattle.mesh_data.specs.Links.{opposites}
use Rattle.mesh_data.specs.Mesh.{Mesh}
use Rattle.mesh_data.specs.Triangles.{corners, has_corner, neighbours}
use Rattle.triangle_edits.proofs.Turns.{any_turns, ends_of, to_has_both, to_has_third, turns_to}

-- each corner passes
abbrev pub EachCorner : (ℕ → Bool) → Tri → Type 0
EachCorner p t = (p t.a ≡ true) × (p t.b ≡ true) × (p t.c ≡ true)

others_pass : (p : ℕ → Bool) (v x : ℕ) (xs : List ℕ) → p v ≡ true → list_all p (filter (λ w. not (eqb w v)) (x ∷ xs)) ≡ true → (p x ≡ true) × (list_all p (filter (λ w. not (eqb w v)) xs) ≡ true)
others_pass p v x xs at all =
    let rest = filter (λ w. not (eqb w v)) xs in
    elim (eqb x v) as (λ b. eqb x v ≡ b → list_all p (cond (not b) (x ∷ rest) rest) ≡ true → (p x ≡ true) × (list_all p rest ≡ true)) [
      | true ↦ λ same h. (ap p (eqb-true x v same) ∙ at, h)
      | false ↦ λ _ h. and_parts (p x) (list_all p rest) h
    ] refl all

-- where a name and its neighbours pass, all corners of its triangles do
corners_pass : (p : ℕ → Bool) (v : ℕ) (ts : List Tri) → p v ≡ true → list_all p (neighbours v ts) ≡ true → AllByRecursion (λ t. has_corner v t ≡ true → EachCorner p t) ts
corners_pass p v [] at all = tt
corners_pass p v (t ∷ ts) at all =
    let rest = flat_map corners (filter (has_corner v) ts) in
    elim (has_corner v t) as (λ b. has_corner v t ≡ b → list_all p (filter (λ w. not (eqb w v)) (flat_map corners (cond b (t ∷ filter (has_corner v) ts) (filter (has_corner v) ts)))) ≡ true
    → (has_corner v t ≡ true → EachCorner p t) × AllByRecursion (λ t. has_corner v t ≡ true → EachCorner p t) ts) [
      | true ↦ λ _ h.
          let a = others_pass p v t.a (t.b ∷ t.c ∷ rest) at h in
          let b = others_pass p v t.b (t.c ∷ rest) at a.1 in
          let c = others_pass p v t.c rest at b.1 in
          ((λ _. (a.0, b.0, c.0)), corners_pass p v ts at c.1)
      | false ↦ λ away h. ((λ on. absurd (both_ways (has_corner v t) away on)), corners_pass p v ts at h)
    ] refl all

-- round a free name all corners are held
pub free_corners : (inside : Point → Bool) (m : Mesh) (v : ℕ) → is_free inside m v ≡ true → AllByRecursion (λ t. has_corner v t ≡ true → EachCorner (is_held inside m) t) m.tris
free_corners inside m v free =
    let parts = and_parts (is_held inside m v) (list_all (is_held inside m) (neighbours v m.tris)) free in
    corners_pass (is_held inside m) v m.tris parts.0 parts.1

-- a corner of a triangle whose corners all pass, passes
pub corner_cases : (p : ℕ → Bool) (c : ℕ) (t : Tri) → EachCorner p t → has_corner c t ≡ true → p c ≡ true
corner_cases p c t h on =
    elim (or_cases (eqb t.a c || eqb t.b c) (eqb t.c c) on) [
      | inl first ↦ elim (or_cases (eqb t.a c) (eqb t.b c) first) [
        | inl a ↦ ap p (sym (eqb-true t.a c a)) ∙ h.0
        | inr b ↦ ap p (sym (eqb-true t.b c b)) ∙ h.1
      ]
      | inr last ↦ ap p (sym (eqb-true t.c c last)) ∙ h.2
    ]

-- the third name of a triangle at a name whose corners all pass, passes
pub third_passes : (p : ℕ → Bool) (a b c : ℕ) (ts : List Tri) → AllByRecursion (λ t. has_corner a t ≡ true → EachCorner p t) ts → list_any (turns_to a b c) ts ≡ true → p c ≡ true
third_passes p a b c [] all any = absurd (false≢true any)
third_passes p a b c (t ∷ ts) all any =
    elim (or_cases (turns_to a b c t) (list_any (turns_to a b c) ts) any) [
      | inl it ↦ corner_cases p c t (all.0 (and_parts (has_corner a t) (has_corner b t) (to_has_both t a b c it)).0) (to_has_third t a b c it)
      | inr later ↦ third_passes p a b c ts all.1 later
    ]

-- the names opposite of an edge of two free names are held
pub opposites_held : (inside : Point → Bool) (m : Mesh) (a b c d : ℕ) → is_free inside m a ≡ true → is_free inside m b ≡ true → opposites m.tris a b ≡ Some (c, d)
    → (is_held inside m c ≡ true) × (is_held inside m d ≡ true)
opposites_held inside m a b c d free onto is =
    let ends = ends_of m.tris a b c d is in (
      third_passes (is_held inside m) a b c m.tris (free_corners inside m a free) (any_turns m.tris a b c ends.0),
      third_passes (is_held inside m) b a d m.tris (free_corners inside m b onto) (any_turns m.tris b a d ends.1),
    )
