-- What the lines of a header declare, and what is wrong with them.
use Rattle.std.proofs.Common.{◌≡◌, ◌≢◌, ℕ, ◌&&◌, true, false, Bool, List, [], ◌∷◌, ◌++◌, Option, Some, None, Ok, Err, codes, if◌then◌else◌, refl, ap, sym, ◌∙◌}
use Rattle.std.proofs.lemmas.Bool.{and_parts, false_from_ne_true}
use Rattle.std.specs.Option.{is_some}
use Rattle.std.specs.Str.{bytes_eq}
use Rattle.std.proofs.lemmas.Slice.Eq.{bytes_eq-Decides}
use Rattle.mesh_items.specs.declared.items.ElementKind.TheVariants as element
use Rattle.mesh_items.specs.declared.items.MeshWhy.TheVariants.{Ascii, HeadLine, Twice, NoElement}
use Rattle.mesh_items.specs.declared.items.MeshFault.{MeshFault}
use Rattle.mesh_items.specs.declared.items.MeshFault.TheVariants.{Text}
use Rattle.mesh_items.specs.Results.{◌>>=◌}
use Rattle.ply_header.specs.declared.layout.ByteOrder.{ByteOrder}
use Rattle.ply_header.specs.declared.layout.ByteOrder.TheVariants.{Little, Big}
use Rattle.ply_header.specs.declared.layout.ScalarType.{ScalarType}
use Rattle.ply_header.specs.declared.layout.Axis.{Axis}
use Rattle.ply_header.specs.declared.layout.PropertyType.{PropertyType}
use Rattle.ply_header.specs.declared.layout.PropertyType.TheVariants as value
use Rattle.ply_header.specs.declared.layout.Role.TheVariants.{Vertices, Faces}
use Rattle.ply_header.specs.declared.layout.Element.{Element}
use Rattle.ply_header.specs.declared.layout.Header.{Header}
use Rattle.ply_header.specs.Layout.{scalar_named, axis_named, names_corners}
use Rattle.ply_header.specs.Header.{closed, declared_by, ends, format_of, header_after, is_remark, laid_out, layout_of, listed, order_of, property_named, property_of, role_named, with_element, with_property}
use Rattle.ply_laws.specs.Elements.{HasVertex, HasFace, HasCoordinate, HasCorners, IsLast, WriteType, element_line, property_line, format_line}
use Rattle.ply_laws.proofs.ClosedLaws.{is_closed, has_vertex, has_face, has_no_vertex, has_no_face}

-- a line behind that of the format
pub element_declares : (h : Header) (order : ByteOrder) (at : ℕ) (words : List (List ℕ)) → h.order ≡ Some order → header_after h at (element_line words) ≡ with_element h at words
unfolding header_after declared_by
element_declares h order at words known = rw known

pub property_declares : (h : Header) (order : ByteOrder) (at : ℕ) (words : List (List ℕ)) → h.order ≡ Some order → header_after h at (property_line words) ≡ with_property h at words
unfolding header_after declared_by
property_declares h order at words known = rw known

-- an element that was declared already
vertex_again : (h : Header) (at : ℕ) (words : List (List ℕ)) → is_some (closed h).vertex ≡ true → with_element h at (codes "vertex" ∷ words) ≡ Err (Text at Twice)
unfolding with_element role_named
vertex_again h at words there = rw there

face_again : (h : Header) (at : ℕ) (words : List (List ℕ)) → is_some (closed h).face ≡ true → with_element h at (codes "face" ∷ words) ≡ Err (Text at Twice)
unfolding with_element role_named
face_again h at words there = rw there

-- the line of such an element
pub second_vertex : (h : Header) (order : ByteOrder) (at : ℕ) (words : List (List ℕ)) → h.order ≡ Some order → HasVertex h → header_after h at (element_line (codes "vertex" ∷ words)) ≡ Err (Text at Twice)
second_vertex h order at words known there = element_declares h order at (codes "vertex" ∷ words) known ∙ vertex_again h at words (has_vertex h there)

pub second_face : (h : Header) (order : ByteOrder) (at : ℕ) (words : List (List ℕ)) → h.order ≡ Some order → HasFace h → header_after h at (element_line (codes "face" ∷ words)) ≡ Err (Text at Twice)
second_face h order at words known there = element_declares h order at (codes "face" ∷ words) known ∙ face_again h at words (has_face h there)

-- what is there, where the test says that something is
pub some_there : {A : Type 0} (o : Option A) → is_some o ≡ true → (x : A) × (o ≡ Some x)
some_there None is = absurd cc
some_there (Some x) is = (x, refl)

-- a layout without vertices, and one without faces
no_vertex_laid : (h : Header) (order : ByteOrder) (at : ℕ) → h.order ≡ Some order → h.vertex ≡ None → laid_out at h ≡ Err (Text at (NoElement element.Vertex))
unfolding laid_out
no_vertex_laid h order at known none = rw (known, none)

no_face_laid : (h : Header) (order : ByteOrder) (vertex : Element) (at : ℕ) → h.order ≡ Some order → h.vertex ≡ Some vertex → h.face ≡ None → laid_out at h ≡ Err (Text at (NoElement element.Face))
unfolding laid_out
no_face_laid h order vertex at known there none = rw (known, there, none)

-- the line that ends a header without vertices, and one without faces
pub no_vertex : (h : Header) (at : ℕ) (words : List (List ℕ)) → ends h words ≡ true → (HasVertex h → ⊥) → layout_of h at words ≡ Err (Text at (NoElement element.Vertex))
no_vertex h at [] off never = absurd cc
no_vertex h at (word ∷ words) off never =
    let order = some_there h.order (and_parts (is_some h.order) (bytes_eq word (codes "end_header")) off).0 in
    rw (no_vertex_laid (closed h) order.0 at ((is_closed h).order ∙ order.1) (has_no_vertex h never))

pub no_face : (h : Header) (at : ℕ) (words : List (List ℕ)) → ends h words ≡ true → HasVertex h → (HasFace h → ⊥) → layout_of h at words ≡ Err (Text at (NoElement element.Face))
no_face h at [] off there never = absurd cc
no_face h at (word ∷ words) off there never =
    let order = some_there h.order (and_parts (is_some h.order) (bytes_eq word (codes "end_header")) off).0 in
    let vertex = some_there (closed h).vertex (has_vertex h there) in
    rw (no_face_laid (closed h) order.0 vertex.0 at ((is_closed h).order ∙ order.1) vertex.1 (has_no_face h never))

-- a property of the last element that is wrong
last_fails : (h : Header) (at : ℕ) (e : Element) (words : List (List ℕ)) (fault : MeshFault) → h.last ≡ Some e → property_of at e words ≡ Err fault → with_property h at words ≡ Err fault
unfolding with_property
last_fails h at e words fault last wrong = rw (last, wrong)

pub property_fails : (h : Header) (order : ByteOrder) (at : ℕ) (e : Element) (words : List (List ℕ)) (fault : MeshFault) → h.order ≡ Some order → h.last ≡ Some e → property_of at e words ≡ Err fault → header_after h at (property_line words) ≡ Err fault
property_fails h order at e words fault known last wrong = property_declares h order at words known ∙ last_fails h at e words fault last wrong

-- a word that names a type of numbers isn't list
type_is_no_list : (word : List ℕ) (number : ScalarType) → scalar_named word ≡ Some number → bytes_eq word (codes "list") ≡ false
unfolding scalar_named
type_is_no_list word number is =
    false_from_ne_true (bytes_eq word (codes "list")) (λ same. let none : None ≡ Some number = ap scalar_named (sym ((bytes_eq-Decides word (codes "list")).0 same)) ∙ is in cc)

-- a property behind the words of its type
pub typed : (at : ℕ) (e : Element) (kind : PropertyType) (words : List (List ℕ)) (name : List ℕ) (more : List (List ℕ)) (fault : MeshFault) → WriteType words kind → property_named at e.role e.properties kind name ≡ Err fault → property_of at e (words ++ name ∷ more) ≡ Err fault
unfolding property_of listed
typed at e (value.Scalar number) words name more fault (word, is, type) wrong =
    ap (λ (ws : List (List ℕ)). property_of at e (ws ++ name ∷ more)) is
    ∙ rw (type_is_no_list word number type, type, wrong)
typed at e (value.List count item) words name more fault (first, second, is, counts, whole, items) wrong =
    ap (λ (ws : List (List ℕ)). property_of at e (ws ++ name ∷ more)) is
    ∙ rw (counts, whole, items, wrong)

-- a coordinate that was declared already, and indices
coordinate_again : (at : ℕ) (e : Element) (axis : Axis) (kind : PropertyType) (name : List ℕ) → e.role ≡ Vertices → HasCoordinate axis e → axis_named name ≡ Some axis → property_named at e.role e.properties kind name ≡ Err (Text at Twice)
unfolding property_named
coordinate_again at e axis kind name role there is = rw (role, is, there)

corners_again : (at : ℕ) (e : Element) (kind : PropertyType) (name : List ℕ) → e.role ≡ Faces → HasCorners e → names_corners name ≡ true → property_named at e.role e.properties kind name ≡ Err (Text at Twice)
unfolding property_named
corners_again at e kind name role there is = rw (role, is, there)

-- the line of such a property
pub second_coordinate : (h : Header) (order : ByteOrder) (at : ℕ) (e : Element) (axis : Axis) (kind : PropertyType) (type : List (List ℕ)) (name : List ℕ) (words : List (List ℕ)) → h.order ≡ Some order → IsLast h Vertices e → HasCoordinate axis e → WriteType type kind → axis_named name ≡ Some axis →
    header_after h at (property_line (type ++ name ∷ words)) ≡ Err (Text at Twice)
second_coordinate h order at e axis kind type name words known last there writes is =
    property_fails h order at e (type ++ name ∷ words) (Text at Twice) known last.0
    (typed at e kind type name words (Text at Twice) writes (coordinate_again at e axis kind name last.1 there is))

pub second_corners : (h : Header) (order : ByteOrder) (at : ℕ) (e : Element) (kind : PropertyType) (type : List (List ℕ)) (name : List ℕ) (words : List (List ℕ)) → h.order ≡ Some order → IsLast h Faces e → HasCorners e → WriteType type kind → names_corners name ≡ true →
    header_after h at (property_line (type ++ name ∷ words)) ≡ Err (Text at Twice)
second_corners h order at e kind type name words known last there writes is =
    property_fails h order at e (type ++ name ∷ words) (Text at Twice) known last.0
    (typed at e kind type name words (Text at Twice) writes (corners_again at e kind name last.1 there is))

-- a line where the format isn't known
format_on : (h : Header) (at : ℕ) (word : List ℕ) (words : List (List ℕ)) → h.order ≡ None → is_remark word ≡ false → header_after h at (word ∷ words) ≡ (format_of at (word ∷ words) >>= λ order. Ok (record h { order = Some order }))
unfolding header_after
format_on h at word words unknown other = rw (other, unknown)

-- a line of the format, by its name
named_format : (h : Header) (at : ℕ) (name : List ℕ) → h.order ≡ None → header_after h at (format_line name) ≡ (order_of at name >>= λ order. Ok (record h { order = Some order }))
named_format h at name unknown = format_on h at (codes "format") (name ∷ codes "1.0" ∷ []) unknown refl

pub ascii_format : (h : Header) (at : ℕ) → h.order ≡ None → header_after h at (format_line (codes "ascii")) ≡ Err (Text at Ascii)
unfolding order_of
ascii_format h at unknown = named_format h at (codes "ascii") unknown

pub little_format : (h : Header) (at : ℕ) → h.order ≡ None → header_after h at (format_line (codes "binary_little_endian")) ≡ Ok (record h { order = Some Little })
unfolding order_of
little_format h at unknown = named_format h at (codes "binary_little_endian") unknown

pub big_format : (h : Header) (at : ℕ) → h.order ≡ None → header_after h at (format_line (codes "binary_big_endian")) ≡ Ok (record h { order = Some Big })
unfolding order_of
big_format h at unknown = named_format h at (codes "binary_big_endian") unknown

-- a name that is none of them
pub differ : (a b : List ℕ) → a ≢ b → bytes_eq a b ≡ false
differ a b other = false_from_ne_true (bytes_eq a b) (λ same. other ((bytes_eq-Decides a b).0 same))

other_order : (at : ℕ) (name : List ℕ) → name ≢ codes "binary_little_endian" → name ≢ codes "binary_big_endian" → name ≢ codes "ascii" → order_of at name ≡ Err (Text at HeadLine)
unfolding order_of
other_order at name little big ascii = rw (differ name (codes "binary_little_endian") little, differ name (codes "binary_big_endian") big, differ name (codes "ascii") ascii)

pub other_format : (h : Header) (at : ℕ) (name : List ℕ) → h.order ≡ None → name ≢ codes "binary_little_endian" → name ≢ codes "binary_big_endian" → name ≢ codes "ascii" → header_after h at (format_line name) ≡ Err (Text at HeadLine)
other_format h at name unknown little big ascii = named_format h at name unknown ∙ rw (other_order at name little big ascii)

-- two tests that can't both hold
not_both : {A : Type 0} (a b : Bool) (x y : A) → (a ≡ true → b ≡ true → ⊥) → (if a && b then x else y) ≡ y
not_both true true x y never = absurd (never refl refl)
not_both true false x y never = refl
not_both false b x y never = refl

-- words that aren't those of a format
no_format_of : (at : ℕ) (words : List (List ℕ)) → ((name : List ℕ) → words ≡ format_line name → ⊥) → format_of at words ≡ Err (Text at HeadLine)
no_format_of at [] other = refl
no_format_of at (first ∷ []) other = refl
no_format_of at (first ∷ name ∷ []) other = refl
no_format_of at (first ∷ name ∷ version ∷ []) other =
    not_both (bytes_eq first (codes "format")) (bytes_eq version (codes "1.0")) (order_of at name) (Err (Text at HeadLine))
    (λ same whole. other name
    (ap (λ w. w ∷ name ∷ version ∷ []) ((bytes_eq-Decides first (codes "format")).0 same)
    ∙ ap (λ w. codes "format" ∷ name ∷ w ∷ []) ((bytes_eq-Decides version (codes "1.0")).0 whole)))
no_format_of at (first ∷ name ∷ version ∷ word ∷ words) other = refl

-- a line that declares something before the format
pub before_format : (h : Header) (at : ℕ) (word : List ℕ) (words : List (List ℕ)) → h.order ≡ None → is_remark word ≡ false → ((name : List ℕ) → word ∷ words ≡ format_line name → ⊥) → header_after h at (word ∷ words) ≡ Err (Text at HeadLine)
before_format h at word words unknown declares other = format_on h at word words unknown declares ∙ rw (no_format_of at (word ∷ words) other)
