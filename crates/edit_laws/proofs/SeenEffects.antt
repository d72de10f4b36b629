-- What an area sees of an edited mesh is the edit of what it sees.
use Rattle.std.proofs.Common.{◌≡◌, ◌≢◌, ℕ, Bool, true, false, cond, not, ◌&&◌, ◌||◌, eqb, ltb, List, ◌∷◌, ◌++◌, map, Option, Some, None, refl, sym, ap, ◌∙◌}
use Rattle.std.proofs.lemmas.Bool.{eqb-true, ne_eqb, or_left, or_right}
use Rattle.std.proofs.lemmas.List.Elements.{filter_agree}
use Rattle.std.specs.Cmp.{nat_cmp_total, unsigned_tied}
use Rattle.std.specs.FinMap as finite
use Rattle.std.specs.FinMap.{nat_cmp-IsAntisymmetric}
use Rattle.std.specs.List.{list_any, filter}
use Rattle.std.specs.Option.{option_map, option_map_or}
use Rattle.std.specs.Ordering.{nat_cmp}
use Rattle.oemm_lists.specs.Ascending.{in_order}
use Rattle.oemm_octree.specs.declared.points.Point.{Point}
use Rattle.mesh_data.specs.declared.geometry.Vertex.{Vertex}
use Rattle.mesh_data.specs.declared.geometry.Tri.{Tri}
use Rattle.mesh_data.specs.Edits.{is_held, planes_or_none, renamed, substituted, moved, collapsed_tris, collapsed, flipped_tris, flipped}
use Rattle.mesh_data.specs.Links.{has_both, opposites}
use Rattle.mesh_data.specs.Mesh.{Mesh, with_vertex}
use Rattle.mesh_data.specs.Triangles.{corners, turned, tri_cmp}
use Rattle.triangle_lists.proofs.Orders.{tri_cmp_total}
use Rattle.mesh_data.specs.Seen.{touches, seen}
use Rattle.triangle_lists.proofs.Filters.{filter-in_order, filter-map, filter-swap}
use Rattle.edit_laws.proofs.SeenVerdicts.{held_in, get-seen, get-held, around_seen, opposites_alike, star-seen}

abbrev Vertices : Type 0
Vertices = finite.FinMap nat_cmp Vertex

-- ---- one vertex changed
pub get-with : (m : Mesh) (v w : ℕ) (f : Vertex → Vertex) → finite.get (with_vertex m v f).vertices w ≡ cond (eqb w v) (option_map f (finite.get m.vertices v)) (finite.get m.vertices w)
get-with m v w f =
    elim (finite.get m.vertices v) as (λ o. finite.get m.vertices v ≡ o → finite.get (option_map_or (λ x. finite.insert m.vertices v (f x)) o m.vertices) w ≡ cond (eqb w v) (option_map f o) (finite.get m.vertices w)) [
      | None ↦ λ is. elim (eqb w v) as (λ b. eqb w v ≡ b → finite.get m.vertices w ≡ cond b None (finite.get m.vertices w)) [
        | true ↦ λ e. ap (finite.get m.vertices) (eqb-true w v e) ∙ is
        | false ↦ λ e. refl
      ] refl
      | Some x ↦ λ is. finite.get-insert nat_cmp_total m.vertices v (f x) w ∙ ap (λ (b : Bool). cond b (Some (f x)) (finite.get m.vertices w)) (unsigned_tied w v)
    ] refl

-- the change keeps whether the vertex is held
abbrev KeepsHeld : (Point → Bool) → Mesh → ℕ → (Vertex → Vertex) → Type 0
KeepsHeld inside m v f = held_in inside (option_map f (finite.get m.vertices v)) ≡ is_held inside m v

pub held-with : (inside : Point → Bool) (m : Mesh) (v w : ℕ) (f : Vertex → Vertex) → KeepsHeld inside m v f → is_held inside (with_vertex m v f) w ≡ is_held inside m w
held-with inside m v w f keeps =
    ap (held_in inside) (get-with m v w f)
    ∙ elim (eqb w v) as (λ b. eqb w v ≡ b → held_in inside (cond b (option_map f (finite.get m.vertices v)) (finite.get m.vertices w)) ≡ is_held inside m w) [
      | true ↦ λ e. keeps ∙ ap (is_held inside m) (sym (eqb-true w v e))
      | false ↦ λ e. refl
    ] refl

-- what is seen of the changed vertices, at each name
with_seen : (inside : Point → Bool) (m : Mesh) (v w : ℕ) (f : Vertex → Vertex) → is_held inside m v ≡ true
    → cond (is_held inside m w) (finite.get (with_vertex m v f).vertices w) None ≡ finite.get (with_vertex (seen inside m) v f).vertices w
with_seen inside m v w f held =
    ap (λ o. cond (is_held inside m w) o None) (get-with m v w f)
    ∙ elim (eqb w v) as (λ b. eqb w v ≡ b → cond (is_held inside m w) (cond b (option_map f (finite.get m.vertices v)) (finite.get m.vertices w)) None ≡ cond b (option_map f (finite.get (seen inside m).vertices v)) (finite.get (seen inside m).vertices w)) [
      | true ↦ λ e. ap (λ (b : Bool). cond b (option_map f (finite.get m.vertices v)) None) (ap (is_held inside m) (eqb-true w v e) ∙ held) ∙ ap (option_map f) (get-held inside m v held)
      | false ↦ λ e. sym (get-seen inside m w)
    ] refl
    ∙ sym (get-with (seen inside m) v w f)

seen-with : (inside : Point → Bool) (m : Mesh) (v : ℕ) (f : Vertex → Vertex) → KeepsHeld inside m v f → is_held inside m v ≡ true → (seen inside (with_vertex m v f)).vertices ≡ (with_vertex (seen inside m) v f).vertices
seen-with inside m v f keeps held =
    finite.same_map nat_cmp_total nat_cmp-IsAntisymmetric _ _ (λ w.
    get-seen inside (with_vertex m v f) w
    ∙ ap (λ (b : Bool). cond b (finite.get (with_vertex m v f).vertices w) None) (held-with inside m v w f keeps)
    ∙ with_seen inside m v w f held)

-- the same triangles are seen where the same names are held
pub touches_same : (inside : Point → Bool) (m n : Mesh) (t : Tri) → ((w : ℕ) → is_held inside m w ≡ is_held inside n w) → touches inside m t ≡ touches inside n t
touches_same inside m n t same = λ i. same t.a i || (same t.b i || (same t.c i || false))

pub same_mesh : (m n : Mesh) → m.vertices ≡ n.vertices → m.tris ≡ n.tris → m ≡ n
same_mesh m n e f = λ i. record { vertices = e i; tris = f i }

-- ---- moves
moved_held : (inside : Point → Bool) (o : Option Vertex) (to : Point) → inside to ≡ true → held_in inside o ≡ true → held_in inside (option_map {T = Vertex} (λ x. record x { point = to }) o) ≡ held_in inside o
moved_held inside None to h k = refl
moved_held inside (Some x) to h k = h ∙ sym k

pub seen_moved : (inside : Point → Bool) (m : Mesh) (v : ℕ) (to : Point) → is_held inside m v ≡ true → inside to ≡ true → seen inside (moved m v to) ≡ moved (seen inside m) v to
seen_moved inside m v to held here =
    let f : Vertex → Vertex = λ x. record x { point = to } in
    let keeps : KeepsHeld inside m v f = moved_held inside (finite.get m.vertices v) to here held in
    same_mesh (seen inside (moved m v to)) (moved (seen inside m) v to) (seen-with inside m v f keeps held)
    (filter_agree (touches inside (moved m v to)) (touches inside m) (λ t. touches_same inside (moved m v to) m t (λ w. held-with inside m v w f keeps)) m.tris)

-- ---- flips
pub any-turned : (p : ℕ → Bool) (t : Tri) → list_any p (corners (turned t)) ≡ list_any p (corners t)
any-turned p t =
    elim (ltb t.a t.b && ltb t.a t.c) as (λ b. list_any p (corners (cond b t (cond (ltb t.b t.c) (record { a = t.b; b = t.c; c = t.a }) (record { a = t.c; b = t.a; c = t.b })))) ≡ list_any p (corners t)) [
      | true ↦ refl
      | false ↦ elim (ltb t.b t.c) as (λ b. list_any p (corners (cond b (record { a = t.b; b = t.c; c = t.a }) (record { a = t.c; b = t.a; c = t.b }))) ≡ list_any p (corners t)) [ true ↦ or_turn (p t.a) (p t.b) (p t.c) | false ↦ or_back (p t.a) (p t.b) (p t.c) ]
    ]
  where
    or_turn : (a b c : Bool) → (b || (c || (a || false))) ≡ (a || (b || (c || false)))
    or_turn true true c = refl
    or_turn true false true = refl
    or_turn true false false = refl
    or_turn false b c = refl

    or_back : (a b c : Bool) → (c || (a || (b || false))) ≡ (a || (b || (c || false)))
    or_back true b true = refl
    or_back true b false = refl
    or_back false true true = refl
    or_back false true false = refl
    or_back false false c = refl

kept_first : {X : Type 0} (p : X → Bool) (x : X) (xs : List X) → p x ≡ true → filter p (x ∷ xs) ≡ x ∷ filter p xs
kept_first p x xs h = ap (λ (b : Bool). cond b (x ∷ filter p xs) (filter p xs)) h

seen-flipped_tris : (p : Tri → Bool) (a b c d : ℕ) (ts : List Tri) → p (turned (record { a = a; b = d; c = c })) ≡ true → p (turned (record { a = d; b = b; c = c })) ≡ true → filter p (flipped_tris a b c d ts) ≡ flipped_tris a b c d (filter p ts)
unfolding flipped_tris
seen-flipped_tris p a b c d ts one two =
    let s = turned (record { a = a; b = d; c = c }) in
    let t = turned (record { a = d; b = b; c = c }) in
    let q : Tri → Bool = λ t. not (has_both a b t) in
    filter-in_order tri_cmp_total p (s ∷ t ∷ filter q ts)
    ∙ ap (in_order tri_cmp) (kept_first p s (t ∷ filter q ts) one ∙ ap (λ l. s ∷ l) (kept_first p t (filter q ts) two ∙ ap (λ l. t ∷ l) (filter-swap p q ts)))

flipped_at : Mesh → ℕ → ℕ → Option (ℕ × ℕ) → Mesh
flipped_at m a b o = option_map_or (λ ends. record { vertices = m.vertices; tris = flipped_tris a b ends.0 ends.1 m.tris }) o m

pub seen_flipped : (inside : Point → Bool) (m : Mesh) (a b : ℕ) → is_held inside m a ≡ true → is_held inside m b ≡ true → seen inside (flipped m a b) ≡ flipped (seen inside m) a b
unfolding flipped_at
seen_flipped inside m a b ha hb =
    by (opposites m.tris a b) ∙ ap (flipped_at (seen inside m) a b) (opposites_alike m.tris (seen inside m).tris a b (star-seen inside m a ha) (star-seen inside m b hb))
  where
    by : (o : Option (ℕ × ℕ)) → seen inside (flipped_at m a b o) ≡ flipped_at (seen inside m) a b o
    by None = refl
    by (Some ends) =
        let p = touches inside m in
        let c = ends.0 in
        let d = ends.1 in
        same_mesh _ _ refl (seen-flipped_tris p a b c d m.tris
        (any-turned (is_held inside m) (record { a = a; b = d; c = c }) ∙ or_left (is_held inside m a) _ ha)
        (any-turned (is_held inside m) (record { a = d; b = b; c = c }) ∙ or_right (is_held inside m d) _ (or_left (is_held inside m b) _ hb)))

-- ---- collapses
abbrev pub taking : Mesh → ℕ → Vertex → Vertex
taking m u x = record x { planes = x.planes ++ planes_or_none m u }

same_taking : (m n : Mesh) (u : ℕ) → planes_or_none m u ≡ planes_or_none n u → taking m u ≡ taking n u
same_taking m n u e = λ i x. record x { planes = x.planes ++ e i }

taking_held : (inside : Point → Bool) (m : Mesh) (u : ℕ) (o : Option Vertex) → held_in inside (option_map (taking m u) o) ≡ held_in inside o
taking_held inside m u None = refl
taking_held inside m u (Some x) = refl

pub get-collapsed : (m : Mesh) (u v w : ℕ) → finite.get (collapsed m u v).vertices w ≡ cond (eqb w u) None (finite.get (with_vertex m v (taking m u)).vertices w)
get-collapsed m u v w =
    finite.get-remove nat_cmp_total (with_vertex m v (taking m u)).vertices u w ∙ ap (λ (b : Bool). cond b None (finite.get (with_vertex m v (taking m u)).vertices w)) (unsigned_tied w u)

pub held-collapsed : (inside : Point → Bool) (m : Mesh) (u v w : ℕ) → is_held inside (collapsed m u v) w ≡ cond (eqb w u) false (is_held inside m w)
held-collapsed inside m u v w =
    ap (held_in inside) (get-collapsed m u v w)
    ∙ elim (eqb w u) as (λ b. held_in inside (cond b None (finite.get (with_vertex m v (taking m u)).vertices w)) ≡ cond b false (is_held inside m w)) [
      | true ↦ refl
      | false ↦ held-with inside m v w (taking m u) (taking_held inside m u (finite.get m.vertices v))
    ]

-- v's place of a name is held where the name was
pub held_renamed : (inside : Point → Bool) (m : Mesh) (u v w : ℕ) → u ≢ v → is_held inside m u ≡ true → is_held inside m v ≡ true → is_held inside (collapsed m u v) (renamed u v w) ≡ is_held inside m w
held_renamed inside m u v w apart hu hv =
    held-collapsed inside m u v (renamed u v w)
    ∙ elim (eqb w u) as (λ b. eqb w u ≡ b → cond (eqb (cond b v w) u) false (is_held inside m (cond b v w)) ≡ is_held inside m w) [
      | true ↦ λ e. ap (λ (b : Bool). cond b false (is_held inside m v)) (ne_eqb v u (λ f. apart (sym f))) ∙ hv ∙ sym hu ∙ ap (is_held inside m) (sym (eqb-true w u e))
      | false ↦ λ e. ap (λ (b : Bool). cond b false (is_held inside m w)) e
    ] refl

touches_collapsed : (inside : Point → Bool) (m : Mesh) (u v : ℕ) → u ≢ v → is_held inside m u ≡ true → is_held inside m v ≡ true → (t : Tri) → touches inside (collapsed m u v) (turned (substituted u v t)) ≡ touches inside m t
touches_collapsed inside m u v apart hu hv t =
    any-turned (is_held inside (collapsed m u v)) (substituted u v t)
    ∙ (λ i. held_renamed inside m u v t.a apart hu hv i || (held_renamed inside m u v t.b apart hu hv i || (held_renamed inside m u v t.c apart hu hv i || false)))

seen-collapsed_tris : (ts : List Tri) (u v : ℕ) (old new : Tri → Bool) → ((t : Tri) → new (turned (substituted u v t)) ≡ old t) → filter new (collapsed_tris u v ts) ≡ collapsed_tris u v (filter old ts)
unfolding collapsed_tris
seen-collapsed_tris ts u v old new same =
    let kept : Tri → Bool = λ t. not (has_both u v t) in
    let put : Tri → Tri = λ t. turned (substituted u v t) in
    filter-in_order tri_cmp_total new (map put (filter kept ts))
    ∙ ap (in_order tri_cmp) (filter-map new put (filter kept ts) ∙ ap (map put) (filter_agree (λ t. new (put t)) old same (filter kept ts) ∙ filter-swap old kept ts))

pub seen_collapsed : (inside : Point → Bool) (m : Mesh) (u v : ℕ) → u ≢ v → is_held inside m u ≡ true → is_held inside m v ≡ true → seen inside (collapsed m u v) ≡ collapsed (seen inside m) u v
seen_collapsed inside m u v apart hu hv =
    let n = seen inside m in
    let f = taking m u in
    let g : taking m u ≡ taking n u = same_taking m n u ((around_seen inside m u hu).planes hu) in
    let at : (w : ℕ) → finite.get (seen inside (collapsed m u v)).vertices w ≡ finite.get (collapsed n u v).vertices w =
    λ w.
    get-seen inside (collapsed m u v) w
    ∙ (λ i. cond (held-collapsed inside m u v w i) (get-collapsed m u v w i) None)
    ∙ elim (eqb w u) as (λ b. cond (cond b false (is_held inside m w)) (cond b None (finite.get (with_vertex m v f).vertices w)) None ≡ cond b None (finite.get (with_vertex n v f).vertices w)) [
      | true ↦ refl
      | false ↦ with_seen inside m v w f hv
    ]
    ∙ ap (λ (h : Vertex → Vertex). cond (eqb w u) None (finite.get (with_vertex n v h).vertices w)) g
    ∙ sym (get-collapsed n u v w) in
    same_mesh (seen inside (collapsed m u v)) (collapsed n u v) (finite.same_map nat_cmp_total nat_cmp-IsAntisymmetric _ _ at)
    (seen-collapsed_tris m.tris u v (touches inside m) (touches inside (collapsed m u v)) (touches_collapsed inside m u v apart hu hv))
