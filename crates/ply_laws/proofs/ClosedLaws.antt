-- Which elements are there where the last element of a header is put where it stands.
use Rattle.std.proofs.Common.{◌≡◌, ◌⊎◌, inl, inr, true, false, Bool, Option, Some, None, if◌then◌else◌, refl, ap, ◌∙◌}
use Rattle.std.specs.Option.{is_some, is_none}
use Rattle.ply_header.specs.declared.layout.Role.{Role}
use Rattle.ply_header.specs.declared.layout.Role.TheVariants.{Vertices, Faces, Foreign}
use Rattle.ply_header.specs.declared.layout.Element.{Element}
use Rattle.ply_header.specs.declared.layout.Header.{Header}
use Rattle.ply_header.specs.Header.{closed, closed_by, placed_element}
use Rattle.ply_laws.specs.Elements.{HasVertex, HasFace}

-- whether a role is that of the vertices, and that of the faces
abbrev pub is_vertices : Role → Bool
is_vertices Vertices = true
is_vertices role = false

abbrev pub is_faces : Role → Bool
is_faces Faces = true
is_faces role = false

-- what a last element makes of the one that was declared before it, where its role is the wanted one
abbrev pub latest : (Role → Bool) → Option Element → Option Element → Option Element
latest wanted None before = before
latest wanted (Some e) before = if wanted e.role then Some e else before

-- what a header has of which the last element was put where it stands
pub record IsClosed (h g : Header) (vertex face : Option Element) : Type 0 where
  pub order : g.order ≡ h.order
  pub vertices : g.vertex ≡ vertex
  pub faces : g.face ≡ face

-- where a foreign element is put, the vertices and the faces stay
foreign_closed : (a b : Bool) (h before between behind : Header) → IsClosed h before h.vertex h.face → IsClosed h between h.vertex h.face → IsClosed h behind h.vertex h.face →
    IsClosed h (if a then before else if b then between else behind) h.vertex h.face
foreign_closed true b h before between behind first second third = first
foreign_closed false true h before between behind first second third = second
foreign_closed false false h before between behind first second third = third

-- what an element of any role makes of them
placed_closed : (e : Element) (role : Role) (h : Header) → IsClosed h (placed_element e role h) (if is_vertices role then Some e else h.vertex) (if is_faces role then Some e else h.face)
placed_closed e Vertices h = record { order = refl; vertices = refl; faces = refl }
placed_closed e Faces h = record { order = refl; vertices = refl; faces = refl }
placed_closed e Foreign h =
    foreign_closed (is_none h.vertex) (is_none h.face) h _ _ _
    (record { order = refl; vertices = refl; faces = refl })
    (record { order = refl; vertices = refl; faces = refl })
    (record { order = refl; vertices = refl; faces = refl })

-- what a last element makes of them, where there is one
closed_by_closed : (o : Option Element) (h : Header) → IsClosed h (closed_by o h) (latest is_vertices o h.vertex) (latest is_faces o h.face)
closed_by_closed None h = record { order = refl; vertices = refl; faces = refl }
closed_by_closed (Some e) h = placed_closed e e.role h

pub is_closed : (h : Header) → IsClosed h (closed h) (latest is_vertices h.last h.vertex) (latest is_faces h.last h.face)
is_closed h = closed_by_closed h.last h

-- an element of this role was declared before the last one, or is the last one
abbrev IsThere : Role → Option Element → Option Element → Type 0
IsThere role last before = (e : Element) × ((before ≡ Some e) ⊎ ((last ≡ Some e) × (e.role ≡ role)))

-- it is there where it was declared
chosen_some : (b : Bool) (e : Element) (o : Option Element) → (b ≡ true) ⊎ (is_some o ≡ true) → is_some (if b then Some e else o) ≡ true
chosen_some true e o either = refl
chosen_some false e o (inl is) = absurd cc
chosen_some false e o (inr is) = is

latest_some : (wanted : Role → Bool) (role : Role) (last before : Option Element) → wanted role ≡ true → IsThere role last before → is_some (latest wanted last before) ≡ true
latest_some wanted role None before is (e, inl there) = ap is_some there
latest_some wanted role None before is (e, inr there) = absurd (let none = there.0 in cc)
latest_some wanted role (Some d) before is (e, inl there) = chosen_some (wanted d.role) d before (inr (ap is_some there))
latest_some wanted role (Some d) before is (e, inr there) =
    let same : d ≡ e = (let both = there.0 in cc) in
    chosen_some (wanted d.role) d before (inl (ap (λ (d : Element). wanted d.role) same ∙ ap wanted there.1 ∙ is))

-- and it isn't there where it was not
chosen_none : (b : Bool) (e : Element) (o : Option Element) → (b ≡ true → ⊥) → o ≡ None → (if b then Some e else o) ≡ None
chosen_none true e o other none = absurd (other refl)
chosen_none false e o other none = none

pub is_none_unless : {A : Type 0} (o : Option A) → ((x : A) → o ≡ Some x → ⊥) → o ≡ None
is_none_unless None never = refl
is_none_unless (Some x) never = absurd (never x refl)

latest_none : (wanted : Role → Bool) (role : Role) (last before : Option Element) → ((other : Role) → wanted other ≡ true → other ≡ role) → (IsThere role last before → ⊥) → latest wanted last before ≡ None
latest_none wanted role None before only never = is_none_unless before (λ e is. never (e, inl is))
latest_none wanted role (Some d) before only never =
    chosen_none (wanted d.role) d before (λ is. never (d, inr (refl, only d.role is))) (is_none_unless before (λ e is. never (e, inl is)))

-- a role for which the test holds
only_vertices : (other : Role) → is_vertices other ≡ true → other ≡ Vertices
only_vertices Vertices is = refl
only_vertices Faces is = absurd cc
only_vertices Foreign is = absurd cc

only_faces : (other : Role) → is_faces other ≡ true → other ≡ Faces
only_faces Vertices is = absurd cc
only_faces Faces is = refl
only_faces Foreign is = absurd cc

-- the vertices and the faces that were declared are there at the end, and those that were not aren't
pub has_vertex : (h : Header) → HasVertex h → is_some (closed h).vertex ≡ true
has_vertex h there = ap is_some (is_closed h).vertices ∙ latest_some is_vertices Vertices h.last h.vertex refl there

pub has_face : (h : Header) → HasFace h → is_some (closed h).face ≡ true
has_face h there = ap is_some (is_closed h).faces ∙ latest_some is_faces Faces h.last h.face refl there

pub has_no_vertex : (h : Header) → (HasVertex h → ⊥) → (closed h).vertex ≡ None
has_no_vertex h never = (is_closed h).vertices ∙ latest_none is_vertices Vertices h.last h.vertex only_vertices never

pub has_no_face : (h : Header) → (HasFace h → ⊥) → (closed h).face ≡ None
has_no_face h never = (is_closed h).faces ∙ latest_none is_faces Faces h.last h.face only_faces never
