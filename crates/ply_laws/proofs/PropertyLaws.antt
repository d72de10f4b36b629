-- What is wrong with a property of a header.
use Rattle.std.proofs.Common.{◌≡◌, ℕ, true, List, ◌∷◌, ◌++◌, Some, None, Err, refl, ◌∙◌}
use Rattle.std.proofs.lemmas.Bool.{false_from_ne_true}
use Rattle.std.specs.List.{list_any}
use Rattle.mesh_items.specs.declared.items.MeshWhy.TheVariants.{HeadLine, FloatCoordinate, Kind}
use Rattle.mesh_items.specs.declared.items.MeshFault.{MeshFault}
use Rattle.mesh_items.specs.declared.items.MeshFault.TheVariants.{Text}
use Rattle.ply_header.specs.declared.layout.ByteOrder.{ByteOrder}
use Rattle.ply_header.specs.declared.layout.ScalarType.{ScalarType}
use Rattle.ply_header.specs.declared.layout.Axis.{Axis}
use Rattle.ply_header.specs.declared.layout.PropertyType.{PropertyType}
use Rattle.ply_header.specs.declared.layout.PropertyType.TheVariants as value
use Rattle.ply_header.specs.declared.layout.Role.TheVariants.{Vertices, Faces}
use Rattle.ply_header.specs.declared.layout.Element.{Element}
use Rattle.ply_header.specs.declared.layout.Header.{Header}
use Rattle.ply_header.specs.Layout.{is_float, axis_named, names_corners}
use Rattle.ply_header.specs.Header.{coordinate_of, corners_of, header_after, is_along, is_corners, property_named, with_property}
use Rattle.ply_laws.specs.Elements.{HasCoordinate, HasCorners, IsLast, WriteType, property_line}
use Rattle.ply_laws.proofs.HeaderLaws.{property_declares, property_fails, typed}

-- a property where no element was declared
no_element : (h : Header) (at : ℕ) (words : List (List ℕ)) → h.last ≡ None → with_property h at words ≡ Err (Text at HeadLine)
unfolding with_property
no_element h at words none = rw none

pub stray_property : (h : Header) (order : ByteOrder) (at : ℕ) (words : List (List ℕ)) → h.order ≡ Some order → h.last ≡ None → header_after h at (property_line words) ≡ Err (Text at HeadLine)
stray_property h order at words known none = property_declares h order at words known ∙ no_element h at words none

-- a coordinate of the last element, and indices, that weren't declared yet
new_coordinate : (at : ℕ) (e : Element) (axis : Axis) (kind : PropertyType) (name : List ℕ) → e.role ≡ Vertices → (HasCoordinate axis e → ⊥) → axis_named name ≡ Some axis → property_named at e.role e.properties kind name ≡ coordinate_of at axis kind
unfolding property_named
new_coordinate at e axis kind name role new is =
    let none = false_from_ne_true (list_any (is_along axis) e.properties) new in
    rw (role, is, none)

new_corners : (at : ℕ) (e : Element) (kind : PropertyType) (name : List ℕ) → e.role ≡ Faces → (HasCorners e → ⊥) → names_corners name ≡ true → property_named at e.role e.properties kind name ≡ corners_of at kind
unfolding property_named
new_corners at e kind name role new is =
    let none = false_from_ne_true (list_any is_corners e.properties) new in
    rw (role, is, none)

-- the line of a coordinate and that of indices whose type is wrong
coordinate_fails : (h : Header) (order : ByteOrder) (at : ℕ) (e : Element) (axis : Axis) (kind : PropertyType) (type : List (List ℕ)) (name : List ℕ) (words : List (List ℕ)) (fault : MeshFault) →
    h.order ≡ Some order → IsLast h Vertices e → (HasCoordinate axis e → ⊥) → WriteType type kind → axis_named name ≡ Some axis → coordinate_of at axis kind ≡ Err fault →
    header_after h at (property_line (type ++ name ∷ words)) ≡ Err fault
coordinate_fails h order at e axis kind type name words fault known last new writes is wrong =
    property_fails h order at e (type ++ name ∷ words) fault known last.0
    (typed at e kind type name words fault writes (new_coordinate at e axis kind name last.1 new is ∙ wrong))

corners_fail : (h : Header) (order : ByteOrder) (at : ℕ) (e : Element) (kind : PropertyType) (type : List (List ℕ)) (name : List ℕ) (words : List (List ℕ)) (fault : MeshFault) →
    h.order ≡ Some order → IsLast h Faces e → (HasCorners e → ⊥) → WriteType type kind → names_corners name ≡ true → corners_of at kind ≡ Err fault →
    header_after h at (property_line (type ++ name ∷ words)) ≡ Err fault
corners_fail h order at e kind type name words fault known last new writes is wrong =
    property_fails h order at e (type ++ name ∷ words) fault known last.0
    (typed at e kind type name words fault writes (new_corners at e kind name last.1 new is ∙ wrong))

pub float_coordinate : (h : Header) (order : ByteOrder) (at : ℕ) (e : Element) (axis : Axis) (number : ScalarType) (type : List (List ℕ)) (name : List ℕ) (words : List (List ℕ)) →
    h.order ≡ Some order → IsLast h Vertices e → (HasCoordinate axis e → ⊥) → WriteType type (value.Scalar number) → is_float number ≡ true → axis_named name ≡ Some axis →
    header_after h at (property_line (type ++ name ∷ words)) ≡ Err (Text at FloatCoordinate)
float_coordinate h order at e axis number type name words known last new writes float is =
    coordinate_fails h order at e axis (value.Scalar number) type name words (Text at FloatCoordinate) known last new writes is (rw float)

pub list_coordinate : (h : Header) (order : ByteOrder) (at : ℕ) (e : Element) (axis : Axis) (count item : ScalarType) (type : List (List ℕ)) (name : List ℕ) (words : List (List ℕ)) →
    h.order ≡ Some order → IsLast h Vertices e → (HasCoordinate axis e → ⊥) → WriteType type (value.List count item) → axis_named name ≡ Some axis →
    header_after h at (property_line (type ++ name ∷ words)) ≡ Err (Text at Kind)
list_coordinate h order at e axis count item type name words known last new writes is =
    coordinate_fails h order at e axis (value.List count item) type name words (Text at Kind) known last new writes is refl

pub scalar_corners : (h : Header) (order : ByteOrder) (at : ℕ) (e : Element) (number : ScalarType) (type : List (List ℕ)) (name : List ℕ) (words : List (List ℕ)) →
    h.order ≡ Some order → IsLast h Faces e → (HasCorners e → ⊥) → WriteType type (value.Scalar number) → names_corners name ≡ true →
    header_after h at (property_line (type ++ name ∷ words)) ≡ Err (Text at Kind)
scalar_corners h order at e number type name words known last new writes is =
    corners_fail h order at e (value.Scalar number) type name words (Text at Kind) known last new writes is refl

pub float_corners : (h : Header) (order : ByteOrder) (at : ℕ) (e : Element) (count item : ScalarType) (type : List (List ℕ)) (name : List ℕ) (words : List (List ℕ)) →
    h.order ≡ Some order → IsLast h Faces e → (HasCorners e → ⊥) → WriteType type (value.List count item) → is_float item ≡ true → names_corners name ≡ true →
    header_after h at (property_line (type ++ name ∷ words)) ≡ Err (Text at Kind)
float_corners h order at e count item type name words known last new writes float is =
    corners_fail h order at e (value.List count item) type name words (Text at Kind) known last new writes is (rw float)
