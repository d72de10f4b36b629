-- The records behind a PLY header, property by property. What is left of the file is its bytes from a place on.
use Rattle.std.specs.Prelude.{ℕ, zero, suc, ◌+◌, ◌-◌, ◌*◌, ◌==◌, Bool, nat_lt, min, ℤ, pos, negsuc, List, [], ◌∷◌, length, drop, if◌then◌else◌, Option, Some, None, Result, Ok, Err}
use Rattle.std.specs.Option.{ok_or}
use Rattle.oemm_limits.specs.declared.TheConstants.{MOST_MESH_BYTES}
use Rattle.byteorder.specs.Endian.{big_number, little_number, twos_complement}
use Rattle.mesh_data.specs.Mesh.{origin}
use Rattle.oemm_octree.specs.Octree.{on_grid}
use Rattle.oemm_octree.specs.declared.points.Point.{Point}
use Rattle.mesh_data.specs.declared.geometry.Tri.{Tri}
use Rattle.mesh_items.specs.declared.items.Item.{Item}
use Rattle.mesh_items.specs.declared.items.Item.TheVariants as item
use Rattle.oemm_limits.specs.declared.what.What.TheVariants.{MeshBytes}
use Rattle.mesh_items.specs.declared.items.MeshWhy.TheVariants.{NoProperty, ListCount, OutOfRange, NotTriangle, Cut}
use Rattle.mesh_items.specs.declared.items.MeshFault.{MeshFault}
use Rattle.mesh_items.specs.declared.items.MeshFault.TheVariants.{Text, TooMany}
use Rattle.mesh_items.specs.Results.{◌>>=◌}
use Rattle.mesh_items.specs.Faces.{name_of, triangle_of}
use Rattle.ply_header.specs.declared.layout.ByteOrder.{ByteOrder}
use Rattle.ply_header.specs.declared.layout.ByteOrder.TheVariants.{Little, Big}
use Rattle.ply_header.specs.declared.layout.ScalarType.{ScalarType}
use Rattle.ply_header.specs.declared.layout.ScalarType.TheVariants.{I8, U8, I16, U16, I32, U32, F32, F64}
use Rattle.ply_header.specs.declared.layout.Axis.{Axis}
use Rattle.ply_header.specs.declared.layout.Axis.TheVariants.{X, Y, Z}
use Rattle.ply_header.specs.declared.layout.Property.{Property}
use Rattle.ply_header.specs.declared.layout.Property.TheVariants.{Coordinate, Corners, Single, Many}
use Rattle.ply_header.specs.declared.layout.Element.{Element}
use Rattle.ply_header.specs.declared.layout.Layout.{Layout}
use Rattle.ply_reader.specs.declared.values.Values.{Values}
use Rattle.ply_reader.specs.declared.values.Record.{Record}
use Rattle.ply_header.specs.Layout.{size_of}

-- what is left of a file: the number of bytes before, and the bytes
pub record Rest : Type 0 where
  pub at : ℕ
  pub bytes : List ℕ

abbrev pub forward : ℕ → Rest → Rest
forward n r = record { at = r.at + n; bytes = drop n r.bytes }

-- what is left behind so many bytes, which must be there and within the limit
unfoldable pub passed : ℕ → Rest → Result Rest MeshFault
passed n r =
    if nat_lt MOST_MESH_BYTES (r.at + min n (length r.bytes)) then Err (TooMany MeshBytes MOST_MESH_BYTES)
    else if nat_lt (length r.bytes) n then Err (Text (r.at + length r.bytes) Cut)
    else Ok (forward n r)

-- the number of the first bytes
abbrev pub bits_of : ByteOrder → ℕ → List ℕ → ℕ
bits_of Little size bytes = little_number size bytes
bits_of Big size bytes = big_number size bytes

-- the whole number that stands at the front; what a floating-point one is isn't looked at
abbrev pub number_of : ByteOrder → ScalarType → List ℕ → ℤ
number_of order I8 bytes = twos_complement 1 (bits_of order 1 bytes)
number_of order U8 bytes = pos (bits_of order 1 bytes)
number_of order I16 bytes = twos_complement 2 (bits_of order 2 bytes)
number_of order U16 bytes = pos (bits_of order 2 bytes)
number_of order I32 bytes = twos_complement 4 (bits_of order 4 bytes)
number_of order U32 bytes = pos (bits_of order 4 bytes)
number_of order F32 bytes = pos 0
number_of order F64 bytes = pos 0

-- the number at the front, and what is left behind it
abbrev pub number_in : ByteOrder → ScalarType → Rest → Result (ℤ × Rest) MeshFault
number_in order number r = passed (size_of number) r >>= λ behind. Ok (number_of order number r.bytes, behind)

-- nothing of a record was read yet
abbrev pub no_values : Values
no_values = record { point = origin; face = None }

abbrev pub moved_along : Axis → ℤ → Point → Point
moved_along X n p = record p { x = n }
moved_along Y n p = record p { y = n }
moved_along Z n p = record p { z = n }

-- the values of a record with a coordinate more
abbrev pub with_coordinate : Record → Axis → ℤ → Values → Result Values MeshFault
with_coordinate rec axis n v =
    if on_grid n then Ok (record v { point = moved_along axis n v.point })
    else Err (Text rec.at (OutOfRange rec.number))

-- the values with the coordinate at the front, and what is left behind it
abbrev pub coordinate_in : Record → Axis → ScalarType → Values → Rest → Result (Values × Rest) MeshFault
coordinate_in rec axis number v r =
    number_in rec.order number r >>= λ n. with_coordinate rec axis n.0 v >>= λ w. Ok (w, n.1)

-- the number of items of a list
abbrev pub list_count : Record → ℤ → Result ℕ MeshFault
list_count rec (pos n) = Ok n
list_count rec (negsuc n) = Err (Text rec.at ListCount)

-- how many items the list at the front has, and what is left behind that number
abbrev pub count_in : Record → ScalarType → Rest → Result (ℕ × Rest) MeshFault
count_in rec count r = number_in rec.order count r >>= λ c. list_count rec c.0 >>= λ n. Ok (n, c.1)

-- what is left behind a list
abbrev pub list_passed : Record → ScalarType → ScalarType → Rest → Result Rest MeshFault
list_passed rec count item r = count_in rec count r >>= λ c. passed (c.0 * size_of item) c.1

-- what the index at the front means
abbrev pub index_at : Record → ScalarType → List ℕ → Option ℕ
index_at rec item bytes = name_of rec.vertices (number_of rec.order item bytes)

-- the triangle of the three numbers at the front
abbrev pub triangle_at : Record → ScalarType → List ℕ → Result Tri MeshFault
triangle_at rec item bytes =
    triangle_of rec.at rec.number (index_at rec item bytes) (index_at rec item (drop (size_of item) bytes))
    (index_at rec item (drop (2 * size_of item) bytes))

-- the triangle of the three indices at the front, which are all there before one of them is looked at
unfoldable pub indices_in : Record → ScalarType → Rest → Result (Tri × Rest) MeshFault
indices_in rec item r = passed (3 * size_of item) r >>= λ behind. triangle_at rec item r.bytes >>= λ t. Ok (t, behind)

-- the triangle of the list of indices at the front, of which there are three
unfoldable pub corners_in : Record → ScalarType → ScalarType → Rest → Result (Tri × Rest) MeshFault
corners_in rec count item r = count_in rec count r >>= λ c.
    if c.0 == 3 then indices_in rec item c.1 else Err (Text rec.at (NotTriangle rec.number))

-- the values with those of the property at the front, and what is left behind it
unfoldable pub property_in : Record → Property → Values → Rest → Result (Values × Rest) MeshFault
property_in rec (Coordinate axis number) v r = coordinate_in rec axis number v r
property_in rec (Corners count item) v r = corners_in rec count item r >>= λ t. Ok (record v { face = Some t.0 }, t.1)
property_in rec (Single number) v r = passed (size_of number) r >>= λ behind. Ok (v, behind)
property_in rec (Many count item) v r = list_passed rec count item r >>= λ behind. Ok (v, behind)

-- the values with those of all these properties
unfoldable pub properties_in : Record → List Property → Values → Rest → Result (Values × Rest) MeshFault
properties_in rec [] v r = Ok (v, r)
properties_in rec (p ∷ ps) v r = property_in rec p v r >>= λ w. properties_in rec ps w.0 w.1

-- a record that isn't looked at
abbrev pub foreign_record : ByteOrder → ℕ → Record
foreign_record order at = record { order = order; at = at; number = 0; vertices = 0 }

-- what is left behind a record with these properties
unfoldable pub record_passed : ByteOrder → List Property → Rest → Result Rest MeshFault
record_passed order ps r = properties_in (foreign_record order r.at) ps no_values r >>= λ w. Ok w.1

-- what is left behind so many of them
unfoldable pub records_passed : ByteOrder → List Property → ℕ → Rest → Result Rest MeshFault
records_passed order ps zero r = Ok r
records_passed order ps (suc n) r = record_passed order ps r >>= records_passed order ps n

-- what is left behind these elements
unfoldable pub elements_passed : ByteOrder → List Element → Rest → Result Rest MeshFault
elements_passed order [] r = Ok r
elements_passed order (e ∷ es) r = records_passed order e.properties e.count r >>= elements_passed order es

-- what is left behind the elements, if they stand here
abbrev pub passed_if : Bool → ByteOrder → List Element → Rest → Result Rest MeshFault
passed_if here order es r = if here then elements_passed order es r else Ok r

-- what is left behind the foreign elements that stand in front of the vertex or face behind so many of them
unfoldable pub led_to : Layout → ℕ → Rest → Result Rest MeshFault
led_to l done r =
    passed_if (done == 0) l.order l.before r >>= passed_if (done == l.vertex.count) l.order l.between

-- the record of this vertex or this face at a place
abbrev pub record_at : Layout → ℕ → ℕ → Record
record_at l number at = record { order = l.order; at = at; number = number; vertices = l.vertex.count }

unfoldable pub vertex_in : Layout → ℕ → Rest → Result (Item × Rest) MeshFault
vertex_in l number r =
    properties_in (record_at l number r.at) l.vertex.properties no_values r >>= λ w. Ok (item.Vertex w.0.point, w.1)

-- the face of the values, which have one
abbrev pub face_of : ℕ → Values → Result Item MeshFault
face_of at v = ok_or v.face (Text at (NoProperty 3)) >>= λ t. Ok (item.Face t)

unfoldable pub face_in : Layout → ℕ → Rest → Result (Item × Rest) MeshFault
face_in l number r =
    properties_in (record_at l number r.at) l.face.properties no_values r >>= λ w.
    face_of r.at w.0 >>= λ face. Ok (face, w.1)

-- the vertex or face behind so many of them, from its record on
abbrev pub record_in : Layout → ℕ → Rest → Result (Item × Rest) MeshFault
record_in l done r = if nat_lt done l.vertex.count then vertex_in l done r else face_in l (done - l.vertex.count) r

-- the vertex or face behind so many of them
unfoldable pub item_in : Layout → ℕ → Rest → Result (Item × Rest) MeshFault
item_in l done r = led_to l done r >>= record_in l done
