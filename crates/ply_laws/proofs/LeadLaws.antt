-- What holds of each header to which lines lead.
use Rattle.std.proofs.Common.{◌≡◌, ℕ, ◌⊎◌, inl, inr, true, false, Bool, List, [], ◌∷◌, Option, Some, None, Ok, Err, if◌then◌else◌, codes, refl, ap, sym, subst, ◌∙◌}
use Rattle.std.specs.Option.{is_some, is_none, ok_or}
use Rattle.std.specs.Str.{bytes_eq}
use Rattle.mesh_items.specs.declared.items.MeshWhy.{MeshWhy}
use Rattle.mesh_items.specs.declared.items.MeshWhy.TheVariants.{FaceFirst, Twice, HeadLine}
use Rattle.mesh_items.specs.declared.items.MeshFault.{MeshFault}
use Rattle.mesh_items.specs.declared.items.MeshFault.TheVariants.{Text}
use Rattle.oemm_lines.specs.declared.parts.Line.{Line}
use Rattle.oemm_lines.specs.Stream.{texts_of}
use Rattle.ply_header.specs.declared.layout.ByteOrder.{ByteOrder}
use Rattle.ply_header.specs.declared.layout.Role.{Role}
use Rattle.ply_header.specs.declared.layout.Role.TheVariants.{Vertices, Faces, Foreign}
use Rattle.ply_header.specs.declared.layout.Element.{Element}
use Rattle.ply_header.specs.declared.layout.Header.{Header}
use Rattle.ply_header.specs.Header.{closed, declared_by, format_of, header_after, is_remark, last_count_of, longer, nothing_declared, property_of, role_fault, role_named, unless, with_element, with_property}
use Rattle.ply_laws.specs.Elements.{HasVertex, element_line}
use Rattle.ply_laws.specs.Lines.{Lead}
use Rattle.ply_laws.proofs.ClosedLaws.{is_vertices, is_faces, latest, is_closed, has_no_vertex, is_none_unless}
use Rattle.ply_laws.proofs.Steps.{ok_is, bound}
use Rattle.ply_laws.proofs.HeaderLaws.{element_declares}

-- where the faces were declared, the vertices were
abbrev FacesFollow : Header → Type 0
FacesFollow h = is_some (latest is_faces h.last h.face) ≡ true → is_some (latest is_vertices h.last h.vertex) ≡ true

-- a value that is there, and one with which nothing is wrong
ok_some : {A : Type 0} (o : Option A) (fault : MeshFault) (x : A) → ok_or o fault ≡ Ok x → o ≡ Some x
ok_some None fault x is = absurd cc
ok_some (Some y) fault x is = cc

ok_unless : {A : Type 0} (at : ℕ) (why : Option MeshWhy) (x y : A) → unless at why x ≡ Ok y → (why ≡ None) × (x ≡ y)
ok_unless at None x y is = (refl, cc)
ok_unless at (Some why) x y is = absurd cc

-- one of two
chosen : {A : Type 0} (b : Bool) (x y z : A) → (if b then x else y) ≡ z → (x ≡ z) ⊎ (y ≡ z)
chosen true x y z is = inl is
chosen false x y z is = inr is

-- where faces may be declared, the vertices were
vertex_before : (f v : Option Element) → (if is_some f then Some Twice else if is_none v then Some FaceFirst else None) ≡ None → is_some v ≡ true
vertex_before (Some f) v right = absurd cc
vertex_before None None right = absurd cc
vertex_before None (Some v) right = refl

-- an element of any role with which nothing is wrong
opened : (e : Element) (role : Role) (g : Header) → role_fault role g ≡ None → (is_some g.face ≡ true → is_some g.vertex ≡ true) →
    is_some (if is_faces role then Some e else g.face) ≡ true → is_some (if is_vertices role then Some e else g.vertex) ≡ true
opened e Vertices g right follow there = refl
opened e Faces g right follow there = vertex_before g.face g.vertex right
opened e Foreign g right follow there = follow there

-- the same where the last element is put where it stands
closed_follow : (h : Header) → FacesFollow h → is_some (closed h).face ≡ true → is_some (closed h).vertex ≡ true
closed_follow h follow there = ap is_some (is_closed h).vertices ∙ follow (ap is_some (sym (is_closed h).faces) ∙ there)

-- a further element
element_follows : (h next : Header) (at : ℕ) (words : List (List ℕ)) → FacesFollow h → with_element h at words ≡ Ok next → FacesFollow next
unfolding with_element
element_follows h next at [] follow is = absurd cc
element_follows h next at (name ∷ words) follow is =
    let first = bound (unless at (role_fault (role_named name) (closed h)) (role_named name)) _ next is in
    let right = ok_unless at (role_fault (role_named name) (closed h)) (role_named name) first.value first.first in
    let second = bound (last_count_of at first.value words) _ next first.next in
    subst FacesFollow (ok_is _ _ second.next)
    (opened _ first.value (closed h) (ap (λ r. role_fault r (closed h)) (sym right.1) ∙ right.0) (closed_follow h follow))

-- another last element of the same role
grown : (a b : Bool) (e d : Element) (f v : Option Element) → (is_some (if a then Some e else f) ≡ true → is_some (if b then Some e else v) ≡ true) →
    is_some (if a then Some d else f) ≡ true → is_some (if b then Some d else v) ≡ true
grown a true e d f v follow there = refl
grown true false e d f v follow there = follow refl
grown false false e d f v follow there = follow there

-- a further property
property_follows : (h next : Header) (at : ℕ) (words : List (List ℕ)) → FacesFollow h → with_property h at words ≡ Ok next → FacesFollow next
unfolding with_property
property_follows h next at words follow is =
    let first = bound (ok_or h.last (Text at HeadLine)) _ next is in
    let last = ok_some h.last (Text at HeadLine) first.value first.first in
    let second = bound (property_of at first.value words) _ next first.next in
    subst FacesFollow (ok_is _ _ second.next)
    (grown (is_faces first.value.role) (is_vertices first.value.role) first.value (longer first.value second.value) h.face h.vertex
    (subst (λ o. is_some (latest is_faces o h.face) ≡ true → is_some (latest is_vertices o h.vertex) ≡ true) last follow))

-- a line behind that of the format, any line, and all lines
declared_follows : (h next : Header) (at : ℕ) (word : List ℕ) (words : List (List ℕ)) → FacesFollow h → declared_by h at word words ≡ Ok next → FacesFollow next
unfolding declared_by
declared_follows h next at word words follow is =
    elim (chosen (bytes_eq word (codes "element")) _ _ _ is) [
      | inl element ↦ element_follows h next at words follow element
      | inr other ↦ elim (chosen (bytes_eq word (codes "property")) _ _ _ other) [
        | inl property ↦ property_follows h next at words follow property
        | inr none ↦ absurd cc
      ]
    ]

line_follows : (h next : Header) (at : ℕ) (words : List (List ℕ)) → FacesFollow h → header_after h at words ≡ Ok next → FacesFollow next
unfolding header_after
line_follows h next at [] follow is = subst FacesFollow (ok_is _ _ is) follow
line_follows h next at (word ∷ words) follow is =
    elim (chosen (is_remark word) _ _ _ is) [
      | inl remark ↦ subst FacesFollow (ok_is _ _ remark) follow
      | inr other ↦ elim (chosen (is_none h.order) _ _ _ other) [
        | inl format ↦ (let order = bound (format_of at (word ∷ words)) _ next format in subst FacesFollow (ok_is _ _ order.next) follow)
        | inr known ↦ declared_follows h next at word words follow known
      ]
    ]

lines_follow : (lines : List Line) (h g : Header) → FacesFollow h → Lead h lines g → FacesFollow g
unfolding Lead
lines_follow [] h g follow lead = subst FacesFollow lead follow
lines_follow (l ∷ lines) h g follow lead = lines_follow lines lead.1.0 g (line_follows h lead.1.0 l.at (texts_of l) follow lead.1.1) lead.1.2

-- nothing isn't there
none_there : {A : Type 0} (o : Option A) → o ≡ None → is_some o ≡ true → ⊥
none_there o none there = (let no : is_some o ≡ false = ap is_some none in cc)

-- faces where neither faces nor vertices were declared
too_early : (h : Header) (at : ℕ) (words : List (List ℕ)) → (closed h).face ≡ None → (closed h).vertex ≡ None → with_element h at (codes "face" ∷ words) ≡ Err (Text at FaceFirst)
unfolding with_element role_named
too_early h at words faces vertices = rw (faces, vertices)

-- faces that are declared before the vertices
pub face_first : (lines : List Line) (h : Header) (order : ByteOrder) (at : ℕ) (words : List (List ℕ)) → Lead nothing_declared lines h → h.order ≡ Some order → (HasVertex h → ⊥) → header_after h at (element_line (codes "face" ∷ words)) ≡ Err (Text at FaceFirst)
face_first lines h order at words lead known never =
    let vertices = has_no_vertex h never in
    let follow = closed_follow h (lines_follow lines nothing_declared h (λ there. absurd cc) lead) in
    element_declares h order at (codes "face" ∷ words) known
    ∙ too_early h at words (is_none_unless (closed h).face (λ f is. none_there (closed h).vertex vertices (follow (ap is_some is)))) vertices
