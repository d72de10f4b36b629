-- What the lines of a PLY header declare, one line after another. Of each line, at is the number of bytes before it,
-- and its words are looked at one by one.
use Rattle.std.specs.Prelude.{◌≡◌, ◌⊎◌, ℕ, ◌^◌, Bool, true, false, not, ◌&&◌, nat_lt, nat_le, List, [], ◌∷◌, ◌++◌, codes, if◌then◌else◌, Option, Some, None, is_some, is_none, Result, Ok, Err}
use Rattle.std.specs.Option.{ok_or}
use Rattle.std.specs.List.{list_any}
use Rattle.std.specs.Str.{bytes_eq}
use Rattle.oemm_limits.specs.declared.TheConstants.{MOST_ITEMS}
use Rattle.oemm_limits.specs.declared.what.What.TheVariants as limits
use Rattle.mesh_items.specs.declared.items.ElementKind.TheVariants as element
use Rattle.mesh_items.specs.declared.items.MeshWhy.{MeshWhy}
use Rattle.mesh_items.specs.declared.items.MeshWhy.TheVariants.{Ascii, HeadLine, FaceFirst, Twice, FloatCoordinate, Kind, NoElement, NoProperty, Number}
use Rattle.mesh_items.specs.declared.items.MeshFault.{MeshFault}
use Rattle.mesh_items.specs.declared.items.MeshFault.TheVariants.{Text, TooMany}
use Rattle.oemm_lines.specs.Numbers.{unsigned_of}
use Rattle.ply_header.specs.declared.layout.ByteOrder.{ByteOrder}
use Rattle.ply_header.specs.declared.layout.ByteOrder.TheVariants.{Little, Big}
use Rattle.ply_header.specs.declared.layout.ScalarType.{ScalarType}
use Rattle.ply_header.specs.declared.layout.Axis.{Axis}
use Rattle.ply_header.specs.declared.layout.Axis.TheVariants.{X, Y, Z}
use Rattle.ply_header.specs.declared.layout.PropertyType.{PropertyType}
use Rattle.ply_header.specs.declared.layout.PropertyType.TheVariants as value
use Rattle.ply_header.specs.declared.layout.Property.{Property}
use Rattle.ply_header.specs.declared.layout.Property.TheVariants.{Coordinate, Corners, Single, Many}
use Rattle.ply_header.specs.declared.layout.Role.{Role}
use Rattle.ply_header.specs.declared.layout.Role.TheVariants.{Vertices, Faces, Foreign}
use Rattle.ply_header.specs.declared.layout.Element.{Element}
use Rattle.ply_header.specs.declared.layout.Layout.{Layout}
use Rattle.ply_header.specs.declared.layout.Header.{Header}
use Rattle.mesh_items.specs.Results.{◌>>=◌, only_if}
use Rattle.ply_header.specs.Layout.{is_float, is_either, scalar_named, axis_named, names_corners, same_axis}

-- nothing was declared yet
abbrev pub nothing_declared : Header
nothing_declared = record { order = None; before = []; vertex = None; between = []; face = None; last = None }

-- the header with this element put where it stands: behind the faces nothing is kept
abbrev pub placed_element : Element → Role → Header → Header
placed_element e Vertices h = record h { vertex = Some e; last = None }
placed_element e Faces h = record h { face = Some e; last = None }
placed_element e Foreign h =
    if is_none h.vertex then record h { before = h.before ++ e ∷ []; last = None }
    else if is_none h.face then record h { between = h.between ++ e ∷ []; last = None }
    else record h { last = None }

-- the header with its last element put where it stands, so that another can follow
abbrev pub closed_by : Option Element → Header → Header
closed_by None h = h
closed_by (Some e) h = placed_element e e.role h

abbrev pub closed : Header → Header
closed h = closed_by h.last h

-- the value where no word is left
abbrev pub at_line_end : {A : Type 0} → ℕ → A → List (List ℕ) → Result A MeshFault
at_line_end at x [] = Ok x
at_line_end at x (w ∷ ws) = Err (Text at HeadLine)

-- the order that the words of the format say
unfoldable pub order_of : ℕ → List ℕ → Result ByteOrder MeshFault
order_of at name =
    if bytes_eq name (codes "binary_little_endian") then Ok Little
    else if bytes_eq name (codes "binary_big_endian") then Ok Big
    else Err (Text at (if bytes_eq name (codes "ascii") then Ascii else HeadLine))

abbrev pub format_of : ℕ → List (List ℕ) → Result ByteOrder MeshFault
format_of at (first ∷ name ∷ version ∷ []) =
    if bytes_eq first (codes "format") && bytes_eq version (codes "1.0") then order_of at name
    else Err (Text at HeadLine)
format_of at words = Err (Text at HeadLine)

-- what the records of an element of this name are
unfoldable pub role_named : List ℕ → Role
role_named name =
    if bytes_eq name (codes "vertex") then Vertices
    else if bytes_eq name (codes "face") then Faces
    else Foreign

-- what is wrong with an element of this role behind the elements of a header
abbrev pub role_fault : Role → Header → Option MeshWhy
role_fault Vertices h = if is_some h.vertex then Some Twice else None
role_fault Faces h = if is_some h.face then Some Twice else if is_none h.vertex then Some FaceFirst else None
role_fault Foreign h = None

-- the value where nothing is wrong
abbrev pub unless : {A : Type 0} → ℕ → Option MeshWhy → A → Result A MeshFault
unless at None x = Ok x
unless at (Some why) x = Err (Text at why)

-- a count of so many records
abbrev pub limited : ℕ → Role → ℕ → Result ℕ MeshFault
limited at Vertices n = only_if (nat_le n MOST_ITEMS) n (TooMany limits.Vertices n)
limited at Faces n = only_if (nat_le n MOST_ITEMS) n (TooMany limits.Faces n)
limited at Foreign n = Ok n

-- the count of records that a word writes
unfoldable pub count_of : ℕ → Role → List ℕ → Result ℕ MeshFault
count_of at role word = do
  n ← ok_or (unsigned_of word) (Text at HeadLine)
  m ← only_if (nat_lt n (2 ^ 64)) n (Text at Number)
  limited at role m

-- the count of records, behind which no further word stands
abbrev pub last_count_of : ℕ → Role → List (List ℕ) → Result ℕ MeshFault
last_count_of at role [] = Err (Text at HeadLine)
last_count_of at role (word ∷ words) = count_of at role word >>= λ n. at_line_end at n words

-- the header with a further element, by the words behind the first of its line
unfoldable pub with_element : Header → ℕ → List (List ℕ) → Result Header MeshFault
with_element h at [] = Err (Text at HeadLine)
with_element h at (name ∷ words) = do
  role ← unless at (role_fault (role_named name) (closed h)) (role_named name)
  count ← last_count_of at role words
  Ok (record (closed h) { last = Some (record { role = role; count = count; properties = [] }) })

-- what a property that isn't read holds
abbrev pub unread : PropertyType → Property
unread (value.Scalar number) = Single number
unread (value.List count item) = Many count item

-- a coordinate of this type, or what is wrong with it
abbrev pub coordinate_of : ℕ → Axis → PropertyType → Result Property MeshFault
coordinate_of at axis (value.Scalar number) = only_if (not (is_float number)) (Coordinate axis number) (Text at FloatCoordinate)
coordinate_of at axis (value.List count item) = Err (Text at Kind)

-- the indices of a face of this type, or what is wrong with them
abbrev pub corners_of : ℕ → PropertyType → Result Property MeshFault
corners_of at (value.Scalar number) = Err (Text at Kind)
corners_of at (value.List count item) = only_if (not (is_float item)) (Corners count item) (Text at Kind)

-- whether the property is the coordinate along this axis, and whether it is the list of indices
abbrev pub is_along : Axis → Property → Bool
is_along axis (Coordinate other number) = same_axis axis other
is_along axis property = false

abbrev pub is_corners : Property → Bool
is_corners (Corners count item) = true
is_corners property = false

-- a property of a vertex that has this name, and of a face, behind others
abbrev pub along : ℕ → List Property → PropertyType → Option Axis → Result Property MeshFault
along at others kind None = Ok (unread kind)
along at others kind (Some axis) = if list_any (is_along axis) others then Err (Text at Twice) else coordinate_of at axis kind

unfoldable pub property_named : ℕ → Role → List Property → PropertyType → List ℕ → Result Property MeshFault
property_named at Vertices others kind name = along at others kind (axis_named name)
property_named at Faces others kind name =
    if not (names_corners name) then Ok (unread kind)
    else if list_any is_corners others then Err (Text at Twice)
    else corners_of at kind
property_named at Foreign others kind name = Ok (unread kind)

-- a property by its type and the words from its name on
abbrev pub named : ℕ → Element → PropertyType → List (List ℕ) → Result Property MeshFault
named at e kind [] = Err (Text at HeadLine)
named at e kind (name ∷ words) = property_named at e.role e.properties kind name >>= λ p. at_line_end at p words

-- the type that a word names
abbrev pub type_of : ℕ → List ℕ → Result ScalarType MeshFault
type_of at word = ok_or (scalar_named word) (Text at HeadLine)

-- the type of a list's count, which isn't a floating-point one
abbrev pub count_type_of : ℕ → List ℕ → Result ScalarType MeshFault
count_type_of at word = type_of at word >>= λ t. only_if (not (is_float t)) t (Text at HeadLine)

-- a list, by the words behind that word
unfoldable pub listed : ℕ → Element → List (List ℕ) → Result Property MeshFault
listed at e (count ∷ item ∷ words) = do
  c ← count_type_of at count
  i ← type_of at item
  named at e (value.List c i) words
listed at e words = Err (Text at HeadLine)

-- a property of an element, by the words behind the first of its line
unfoldable pub property_of : ℕ → Element → List (List ℕ) → Result Property MeshFault
property_of at e [] = Err (Text at HeadLine)
property_of at e (word ∷ words) =
    if bytes_eq word (codes "list") then listed at e words
    else (type_of at word >>= λ t. named at e (value.Scalar t) words)

-- the element with a property more
abbrev pub longer : Element → Property → Element
longer e p = record e { properties = e.properties ++ p ∷ [] }

-- the header with a further property of its last element
unfoldable pub with_property : Header → ℕ → List (List ℕ) → Result Header MeshFault
with_property h at words = do
  e ← ok_or h.last (Text at HeadLine)
  p ← property_of at e words
  Ok (record h { last = Some (longer e p) })

-- the header behind a line whose first word is this one, where the format is known
unfoldable pub declared_by : Header → ℕ → List ℕ → List (List ℕ) → Result Header MeshFault
declared_by h at word words =
    if bytes_eq word (codes "element") then with_element h at words
    else if bytes_eq word (codes "property") then with_property h at words
    else Err (Text at HeadLine)

-- whether a line is passed over that begins with this word
abbrev pub is_remark : List ℕ → Bool
is_remark word = is_either word (codes "comment") (codes "obj_info")

-- the header behind a line with these words that doesn't end it
unfoldable pub header_after : Header → ℕ → List (List ℕ) → Result Header MeshFault
header_after h at [] = Ok h
header_after h at (word ∷ words) =
    if is_remark word then Ok h
    else if is_none h.order then (format_of at (word ∷ words) >>= λ order. Ok (record h { order = Some order }))
    else declared_by h at word words

-- the later header keeps a foreign element more
abbrev pub KeepsElement : Header → Header → Type 0
KeepsElement old new = (e : Element) × ((new.before ≡ old.before ++ e ∷ []) ⊎ (new.between ≡ old.between ++ e ∷ []))

-- the later header keeps a property more of the element that was declared last
abbrev pub KeepsProperty : Header → Header → Type 0
KeepsProperty old new = (e : Element) × (p : Property) × (old.last ≡ Some e) × (new.last ≡ Some (longer e p))

-- the later header keeps more than the earlier one
abbrev pub KeepsMore : Header → Header → Type 0
KeepsMore old new = KeepsElement old new ⊎ KeepsProperty old new

-- whether the line with these words ends the header
abbrev pub ends : Header → List (List ℕ) → Bool
ends h [] = false
ends h (word ∷ words) = is_some h.order && bytes_eq word (codes "end_header")

-- what is missing of a vertex and of a face with these properties
abbrev pub lacks : (Property → Bool) → List Property → Bool
lacks test properties = not (list_any test properties)

unfoldable pub missing : List Property → List Property → Option MeshWhy
missing vertex face =
    if lacks (is_along X) vertex then Some (NoProperty 0)
    else if lacks (is_along Y) vertex then Some (NoProperty 1)
    else if lacks (is_along Z) vertex then Some (NoProperty 2)
    else if lacks is_corners face then Some (NoProperty 3)
    else None

abbrev pub layout_with : Header → ByteOrder → Element → Element → Layout
layout_with h order vertex face =
    record { order = order; before = h.before; vertex = vertex; between = h.between; face = face }

-- the layout that a header declares, of which no element is open
unfoldable pub laid_out : ℕ → Header → Result Layout MeshFault
laid_out at h = do
  order ← ok_or h.order (Text at HeadLine)
  vertex ← ok_or h.vertex (Text at (NoElement element.Vertex))
  face ← ok_or h.face (Text at (NoElement element.Face))
  unless at (missing vertex.properties face.properties) (layout_with h order vertex face)

-- the layout at the line that ends the header, which has no further word
abbrev pub layout_of : Header → ℕ → List (List ℕ) → Result Layout MeshFault
layout_of h at [] = Err (Text at HeadLine)
layout_of h at (word ∷ words) = laid_out at (closed h) >>= λ layout. at_line_end at layout words
