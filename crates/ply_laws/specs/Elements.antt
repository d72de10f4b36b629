-- What the lines of a header have declared, and the forms of its lines.
use Rattle.std.specs.Prelude.{◌≡◌, ℕ, ◌⊎◌, true, false, List, [], ◌∷◌, codes, Some, ⊤}
use Rattle.std.specs.List.{list_any}
use Rattle.ply_header.specs.declared.layout.Axis.{Axis}
use Rattle.ply_header.specs.declared.layout.Axis.TheVariants.{X, Y, Z}
use Rattle.ply_header.specs.declared.layout.PropertyType.{PropertyType}
use Rattle.ply_header.specs.declared.layout.PropertyType.TheVariants as value
use Rattle.ply_header.specs.declared.layout.Role.{Role}
use Rattle.ply_header.specs.declared.layout.Role.TheVariants.{Vertices, Faces, Foreign}
use Rattle.ply_header.specs.declared.layout.Element.{Element}
use Rattle.ply_header.specs.declared.layout.Header.{Header}
use Rattle.ply_header.specs.Layout.{is_float, scalar_named}
use Rattle.ply_header.specs.Header.{closed, is_along, is_corners}

-- the element was declared last, so that the properties to come are its own, and it has this role
abbrev pub IsLast : Header → Role → Element → Type 0
IsLast h role e = (h.last ≡ Some e) × (e.role ≡ role)

-- the vertices were declared, and the faces, whether properties of them can still come or not
abbrev pub HasVertex : Header → Type 0
HasVertex h = (e : Element) × ((h.vertex ≡ Some e) ⊎ IsLast h Vertices e)

abbrev pub HasFace : Header → Type 0
HasFace h = (e : Element) × ((h.face ≡ Some e) ⊎ IsLast h Faces e)

-- the element has a coordinate along this axis, and indices of a face
abbrev pub HasCoordinate : Axis → Element → Type 0
HasCoordinate axis e = list_any (is_along axis) e.properties ≡ true

abbrev pub HasCorners : Element → Type 0
HasCorners e = list_any is_corners e.properties ≡ true

-- a header declares these vertices and these faces
abbrev pub Declares : Header → Element → Element → Type 0
Declares h vertex face = ((closed h).vertex ≡ Some vertex) × ((closed h).face ≡ Some face)

-- a vertex has all three coordinates
abbrev pub HasPlace : Element → Type 0
HasPlace vertex = HasCoordinate X vertex × HasCoordinate Y vertex × HasCoordinate Z vertex

-- an element of this role may come next: the vertices once, the faces once behind them, and others always
abbrev pub MayCome : Role → Header → Type 0
MayCome Vertices h = HasVertex h → ⊥
MayCome Faces h = HasVertex h × (HasFace h → ⊥)
MayCome Foreign h = ⊤

-- the words write the type: of a number by its name, and of a list by the names of its count's and its items'
abbrev pub WriteType : List (List ℕ) → PropertyType → Type 0
WriteType words (value.Scalar number) = (word : List ℕ) × (words ≡ word ∷ []) × (scalar_named word ≡ Some number)
WriteType words (value.List count item) =
    (first second : List ℕ) × (words ≡ codes "list" ∷ first ∷ second ∷ []) × (scalar_named first ≡ Some count)
    × (is_float count ≡ false) × (scalar_named second ≡ Some item)

-- the words of a line that declares an element or a property, by those behind the first, and of one of the format
abbrev pub element_line : List (List ℕ) → List (List ℕ)
element_line words = codes "element" ∷ words

abbrev pub property_line : List (List ℕ) → List (List ℕ)
property_line words = codes "property" ∷ words

abbrev pub format_line : List ℕ → List (List ℕ)
format_line name = codes "format" ∷ name ∷ codes "1.0" ∷ []
