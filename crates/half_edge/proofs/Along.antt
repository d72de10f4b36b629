-- A walk along the ring of a name.
use Rattle.std.proofs.Common.{◌≡◌, ◌≢◌, ℕ, zero, suc, ◌+◌, ◌<◌, ◌≤◌, Bool, true, false, eqb, List, [], ◌∷◌, ◌++◌}
use Rattle.std.proofs.Common.{Option, Some, None, count_by, is_some, sym, ap, ◌∙◌, refl, subst, arith}
use Rattle.std.proofs.lemmas.Bool.{eqb-true, eq-eqb, ne_eqb, both_ways}
use Rattle.mesh_data.specs.declared.geometry.Tri.{Tri}
use Rattle.mesh_data.specs.declared.geometry.Edge.{Edge}
use Rattle.mesh_data.specs.Rings.{link, has_path_edge, next_name, way, IsRing}
use Rattle.triangle_lists.proofs.Walks.{step, next_found, next_missing}
use Rattle.triangle_lists.proofs.RingLaws.{ring, ring_way}
use Rattle.triangle_lists.proofs.Paths.{way_more, way_stops, way_returns, way_ends}
use Rattle.half_edge.specs.declared.surgery.Half.{Half}
use Rattle.half_edge.specs.Halves.{Slots, Goes, IsTwin, IsSound, next_key, around, faces_of}
use Rattle.half_edge.specs.Collapses.{tri}
use Rattle.half_edge.specs.Rings.{BeginsRing, second_name, third_name}
use Rattle.half_edge.proofs.Faces.{is_face, half_of_face, face_of_half, link_step}
use Rattle.half_edge.proofs.Fans.{next_key_face, twin_key_twin}
use Rattle.half_edge.proofs.Walks.{face_at, ring_short}
use Rattle.half_edge.proofs.Sound.{goes, same_face}

-- the key of the half-edge from v to the name, if there is one
abbrev pub IsKeyOf : Slots → ℕ → ℕ → Option ℕ → Type 0
IsKeyOf s v name None = (z : ℕ) → is_face (faces_of s) v name z ≡ true → ⊥
IsKeyOf s v name (Some k) = Goes s k v name

-- how far the walk is
pub record WalksAlong (s : Slots) (v home name : ℕ) (key : Option ℕ) (names : List ℕ) (i n : ℕ) : Type 0 where
  pub is_key : IsKeyOf s v name key
  pub left : ℕ
  pub fuel : left + i ≡ n
  pub so_far : names ++ way left (link v (faces_of s)) home name ≡ way n (link v (faces_of s)) home home

module _ (s : Slots) (v : ℕ) (sound : IsSound s) where
  abbrev es : List Edge
  es = link v (faces_of s)

  third_is : (k name : ℕ) → (go : Goes s k v name) → third_name s k ≡ go.0.face.c
  third_is k name go = ap (λ (o : Option Half). third_name (o ∷ []) 0) go.1

  pub next_is : (k name : ℕ) → Goes s k v name → next_name es name ≡ Some (third_name s k)
  next_is k name go =
      let face = face_at s v sound k name go in
      let z = go.0.face.c in
      elim (next_name es name) as (λ o. next_name es name ≡ o → o ≡ Some (third_name s k)) [
        | Some x ↦ λ is.
            let there = half_of_face s v name x sound (sym (link_step (faces_of s) v name x)
            ∙ next_found es name x is) in
            let same = same_face s k there.0 (tri v name z) there.1.0 sound face there.1.1
            (ap (λ (t : Tri). t.a) there.1.2) (ap (λ (t : Tri). t.b) there.1.2) in
            ap (λ (m : ℕ). Some m) (sym (ap (λ (t : Tri). t.c) there.1.2) ∙ ap (λ (t : Tri). t.c) same
            ∙ sym (third_is k name go))
        | None ↦ λ is. absurd (both_ways (has_path_edge es (step name z)) (next_missing es name is z)
            (link_step (faces_of s) v name z ∙ face_of_half s k v name z sound face))
      ] refl

  pub next_none : (name : ℕ) → IsKeyOf s v name None → next_name es name ≡ None
  next_none name none =
      elim (next_name es name) as (λ o. next_name es name ≡ o → o ≡ None) [
        | Some x ↦ λ is. absurd (none x (sym (link_step (faces_of s) v name x) ∙ next_found es name x is))
        | None ↦ λ is. refl
      ] refl

  -- what comes behind a half-edge
  pub around_key : (k name : ℕ) → Goes s k v name → IsKeyOf s v (third_name s k) (around s k)
  around_key k name go =
      let face = face_at s v sound k name go in
      let z = go.0.face.c in
      let third = next_key_face s (next_key s k) (tri name z v) sound (next_key_face s k (tri v name z) sound face) in
      subst (λ (x : ℕ). IsKeyOf s v x (around s k)) (sym (third_is k name go))
      (by_twin z (around s k) (twin_key_twin s (next_key s (next_key s k)) (tri z v name) sound third))
    where
      by_twin : (z : ℕ) (o : Option ℕ) → IsTwin s z v o → IsKeyOf s v z o
      by_twin z None lone = λ x there. let half = half_of_face s v z x sound there in
          lone half.0 (goes s half.0 (tri v z x) half.1)
      by_twin z (Some g) there = there

  pub second_is : (k name : ℕ) → (go : Goes s k v name) → second_name s k ≡ name
  second_is k name go = ap (λ (o : Option Half). second_name (o ∷ []) 0) go.1 ∙ go.3

  module _ (home name : ℕ) (key : Option ℕ) (names : List ℕ) (i n : ℕ)
      (walk : WalksAlong s v home name key names i n) where
    left_is : i < n → (m : ℕ) × (walk.left ≡ suc m)
    left_is lt = by_left walk.left walk.fuel
      where
        by_left : (l : ℕ) → l + i ≡ n → (m : ℕ) × (l ≡ suc m)
        by_left zero e = absurd (omega arith)
        by_left (suc m) e = (m, refl)

    key_there : (k : ℕ) → key ≡ Some k → Goes s k v name
    key_there k is = subst (IsKeyOf s v name) is walk.is_key

    pub along_more : (k : ℕ) → key ≡ Some k → i < n → third_name s k ≢ home →
        WalksAlong s v home (third_name s k) (around s k) (names ++ name ∷ []) (i + 1) n
    along_more k is lt away =
        let go = key_there k is in
        let m = left_is lt in
        record {
          is_key = around_key k name go;
          left = m.0;
          fuel = omega (arith, walk.fuel, m.1);
          so_far = way_more es home name (third_name s k) m.0 walk.left names (way n es home home) m.1
              (next_is k name go) (ne_eqb (third_name s k) home away) walk.so_far;
        }

    pub along_home : (k : ℕ) → key ≡ Some k → i < n → third_name s k ≡ home → names ++ name ∷ [] ≡ way n es home home
    along_home k is lt back =
        let m = left_is lt in
        way_returns es home name (third_name s k) m.0 walk.left names (way n es home home) m.1
        (next_is k name (key_there k is)) (eq-eqb (third_name s k) home back) walk.so_far

    pub along_last : key ≡ None → i < n → names ++ name ∷ [] ≡ way n es home home
    along_last is lt =
        let m = left_is lt in
        way_stops es home name m.0 walk.left names (way n es home home) m.1
        (next_none name (subst (IsKeyOf s v name) is walk.is_key)) walk.so_far

    pub along_over : n ≤ i → names ≡ way n es home home
    along_over over = way_ends es home name walk.left names (way n es home home) (omega (arith, walk.fuel)) walk.so_far

  -- the way from where a ring begins is the ring
  pub along_start : (first : ℕ) (closed : Bool) (names : List ℕ) (n : ℕ) → names ≡ [] → BeginsRing s v first closed →
      WalksAlong s v (second_name s first) (second_name s first) (Some first) names 0 n
  along_start first closed names n none begins =
      record {
        is_key = subst (λ (x : ℕ). Goes s first v x) (sym (second_is first begins.name begins.goes)) begins.goes;
        left = n;
        fuel = omega arith;
        so_far = ap (λ (ns : List ℕ). ns ++ way n es (second_name s first) (second_name s first)) none;
      }

  pub along_ring : (first : ℕ) (closed : Bool) (names : List ℕ) (n : ℕ) → n ≡ count_by is_some s →
      BeginsRing s v first closed → names ≡ way n es (second_name s first) (second_name s first) →
      IsRing (faces_of s) v (ring closed names)
  along_ring first closed names n many begins is =
      let home = second_is first begins.name begins.goes in
      let whole : way n es begins.name begins.name ≡ begins.name ∷ begins.names =
      ring_way es closed begins.name begins.names n begins.is
      (omega (arith, ring_short s v sound closed begins.name begins.names begins.is)) in
      subst (λ (ns : List ℕ). IsRing (faces_of s) v (ring closed ns))
      (sym (is ∙ ap (λ (x : ℕ). way n es x x) home ∙ whole)) begins.is

  -- ---- the same, as a loop has it
  pub loop_start : (first home : ℕ) (closed : Bool) (names : List ℕ) (n : ℕ) → home ≡ second_name s first → names ≡ [] →
      BeginsRing s v first closed → WalksAlong s v home home (Some first) names 0 n
  loop_start first home closed names n at_home none begins =
      subst (λ (x : ℕ). WalksAlong s v x x (Some first) names 0 n) (sym at_home)
      (along_start first closed names n none begins)

  pub loop_ring : (first home : ℕ) (closed : Bool) (names : List ℕ) (n : ℕ) → home ≡ second_name s first →
      n ≡ count_by is_some s → BeginsRing s v first closed → names ≡ way n es home home →
      IsRing (faces_of s) v (ring closed names)
  loop_ring first home closed names n at_home many begins is =
      along_ring first closed names n many begins (is ∙ ap (λ (x : ℕ). way n es x x) at_home)

  module _ (home name : ℕ) (key : Option ℕ) (names : List ℕ) (i n : ℕ) (walk : WalksAlong s v home name key names i n)
      (more : List ℕ) (pushed : more ≡ names ++ name ∷ []) (lt : i < n) where
    pub loop_more : (k next : ℕ) (on : Option ℕ) → key ≡ Some k → next ≡ third_name s k → on ≡ around s k →
        eqb next home ≡ false → WalksAlong s v home next on more (i + 1) n
    loop_more k next on is at_next at_on away =
        let differs : third_name s k ≢ home = λ same.
        both_ways (eqb next home) away (eq-eqb next home (at_next ∙ same)) in
        subst (λ (x : ℕ). WalksAlong s v home x on more (i + 1) n) (sym at_next)
        (subst (λ (o : Option ℕ). WalksAlong s v home (third_name s k) o more (i + 1) n) (sym at_on)
        (subst (λ (ns : List ℕ). WalksAlong s v home (third_name s k) (around s k) ns (i + 1) n) (sym pushed)
        (along_more home name key names i n walk k is lt differs)))

    pub loop_home : (k next : ℕ) → key ≡ Some k → next ≡ third_name s k → eqb next home ≡ true →
        more ≡ way n es home home
    loop_home k next is at_next back = pushed
        ∙ along_home home name key names i n walk k is lt (sym at_next ∙ eqb-true next home back)

    pub loop_last : key ≡ None → more ≡ way n es home home
    loop_last is = pushed ∙ along_last home name key names i n walk is lt
