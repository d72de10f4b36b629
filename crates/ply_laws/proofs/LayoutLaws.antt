-- What the line that ends a header says.
use Rattle.std.proofs.Common.{◌≡◌, ℕ, true, false, List, [], ◌∷◌, Some, None, Result, Ok, Err, codes, ap, ◌∙◌}
use Rattle.std.proofs.lemmas.Bool.{and_parts, false_from_ne_true}
use Rattle.std.specs.Option.{is_some}
use Rattle.std.specs.List.{list_any}
use Rattle.std.specs.Str.{bytes_eq}
use Rattle.mesh_items.specs.declared.items.MeshWhy.{MeshWhy}
use Rattle.mesh_items.specs.declared.items.MeshWhy.TheVariants.{HeadLine, NoProperty}
use Rattle.mesh_items.specs.declared.items.MeshFault.{MeshFault}
use Rattle.mesh_items.specs.declared.items.MeshFault.TheVariants.{Text}
use Rattle.mesh_items.specs.Results.{◌>>=◌}
use Rattle.ply_header.specs.declared.layout.ByteOrder.{ByteOrder}
use Rattle.ply_header.specs.declared.layout.Axis.TheVariants.{X, Y, Z}
use Rattle.ply_header.specs.declared.layout.Property.{Property}
use Rattle.ply_header.specs.declared.layout.Element.{Element}
use Rattle.ply_header.specs.declared.layout.Layout.{Layout}
use Rattle.ply_header.specs.declared.layout.Header.{Header}
use Rattle.ply_header.specs.Header.{at_line_end, closed, ends, is_along, is_corners, laid_out, layout_of, layout_with, missing, unless}
use Rattle.ply_laws.specs.Elements.{Declares, HasCoordinate, HasCorners, HasPlace}
use Rattle.ply_laws.proofs.ClosedLaws.{is_closed}
use Rattle.ply_laws.proofs.HeaderLaws.{some_there}

-- the layout of declared vertices and faces, by what they lack
laid_by : (h : Header) (order : ByteOrder) (at : ℕ) (vertex face : Element) (lack : Result Layout MeshFault) → h.order ≡ Some order → h.vertex ≡ Some vertex → h.face ≡ Some face →
    unless at (missing vertex.properties face.properties) (layout_with h order vertex face) ≡ lack → laid_out at h ≡ lack
unfolding laid_out
laid_by h order at vertex face lack known first second is = rw (known, first, second) is

-- the line that ends a header, by that
ended_by : (h : Header) (order : ByteOrder) (at : ℕ) (word : List ℕ) (words : List (List ℕ)) (vertex face : Element) (lack : Result Layout MeshFault) → h.order ≡ Some order → Declares h vertex face →
    unless at (missing vertex.properties face.properties) (layout_with (closed h) order vertex face) ≡ lack → layout_of h at (word ∷ words) ≡ (lack >>= λ layout. at_line_end at layout words)
ended_by h order at word words vertex face lack known there is =
    ap (λ (o : Result Layout MeshFault). o >>= λ layout. at_line_end at layout words)
    (laid_by (closed h) order at vertex face lack ((is_closed h).order ∙ known) there.0 there.1 is)

-- the line that ends a header of which something is missing
lacking : (h : Header) (at : ℕ) (words : List (List ℕ)) (vertex face : Element) (why : MeshWhy) → ends h words ≡ true → Declares h vertex face → missing vertex.properties face.properties ≡ Some why → layout_of h at words ≡ Err (Text at why)
lacking h at [] vertex face why off there is = absurd cc
lacking h at (word ∷ words) vertex face why off there is =
    let order = some_there h.order (and_parts (is_some h.order) (bytes_eq word (codes "end_header")) off).0 in
    ended_by h order.0 at word words vertex face (Err (Text at why)) order.1 there (ap (λ o. unless at o (layout_with (closed h) order.0 vertex face)) is)

-- what is missing of properties
missing_x : (vertex face : List Property) → list_any (is_along X) vertex ≡ false → missing vertex face ≡ Some (NoProperty 0)
unfolding missing
missing_x vertex face lack = rw lack

missing_y : (vertex face : List Property) → list_any (is_along X) vertex ≡ true → list_any (is_along Y) vertex ≡ false → missing vertex face ≡ Some (NoProperty 1)
unfolding missing
missing_y vertex face x lack = rw (x, lack)

missing_z : (vertex face : List Property) → list_any (is_along X) vertex ≡ true → list_any (is_along Y) vertex ≡ true → list_any (is_along Z) vertex ≡ false → missing vertex face ≡ Some (NoProperty 2)
unfolding missing
missing_z vertex face x y lack = rw (x, y, lack)

missing_corners : (vertex face : Element) → HasPlace vertex → list_any is_corners face.properties ≡ false → missing vertex.properties face.properties ≡ Some (NoProperty 3)
unfolding missing
missing_corners vertex face (x, y, z) lack = rw (x, y, z, lack)

missing_none : (vertex face : Element) → HasPlace vertex → HasCorners face → missing vertex.properties face.properties ≡ None
unfolding missing
missing_none vertex face (x, y, z) corners = rw (x, y, z, corners)

-- a vertex without one of its coordinates, and a face without indices
pub no_x : (h : Header) (at : ℕ) (words : List (List ℕ)) (vertex face : Element) → ends h words ≡ true → Declares h vertex face → (HasCoordinate X vertex → ⊥) → layout_of h at words ≡ Err (Text at (NoProperty 0))
no_x h at words vertex face off there never =
    lacking h at words vertex face (NoProperty 0) off there (missing_x vertex.properties face.properties (false_from_ne_true (list_any (is_along X) vertex.properties) never))

pub no_y : (h : Header) (at : ℕ) (words : List (List ℕ)) (vertex face : Element) → ends h words ≡ true → Declares h vertex face → HasCoordinate X vertex → (HasCoordinate Y vertex → ⊥) → layout_of h at words ≡ Err (Text at (NoProperty 1))
no_y h at words vertex face off there x never =
    lacking h at words vertex face (NoProperty 1) off there (missing_y vertex.properties face.properties x (false_from_ne_true (list_any (is_along Y) vertex.properties) never))

pub no_z : (h : Header) (at : ℕ) (words : List (List ℕ)) (vertex face : Element) → ends h words ≡ true → Declares h vertex face → HasCoordinate X vertex → HasCoordinate Y vertex → (HasCoordinate Z vertex → ⊥) → layout_of h at words ≡ Err (Text at (NoProperty 2))
no_z h at words vertex face off there x y never =
    lacking h at words vertex face (NoProperty 2) off there (missing_z vertex.properties face.properties x y (false_from_ne_true (list_any (is_along Z) vertex.properties) never))

pub no_corners : (h : Header) (at : ℕ) (words : List (List ℕ)) (vertex face : Element) → ends h words ≡ true → Declares h vertex face → HasPlace vertex → (HasCorners face → ⊥) → layout_of h at words ≡ Err (Text at (NoProperty 3))
no_corners h at words vertex face off there place never =
    lacking h at words vertex face (NoProperty 3) off there (missing_corners vertex face place (false_from_ne_true (list_any is_corners face.properties) never))

-- the line that ends a header that has all
nothing_lacks : (h : Header) (order : ByteOrder) (at : ℕ) (vertex face : Element) → HasPlace vertex → HasCorners face →
    unless at (missing vertex.properties face.properties) (layout_with (closed h) order vertex face) ≡ Ok (layout_with (closed h) order vertex face)
nothing_lacks h order at vertex face place corners = ap (λ o. unless at o (layout_with (closed h) order vertex face)) (missing_none vertex face place corners)

pub end_trailing : (h : Header) (at : ℕ) (end word : List ℕ) (words : List (List ℕ)) (vertex face : Element) → ends h (end ∷ word ∷ words) ≡ true → Declares h vertex face → HasPlace vertex → HasCorners face →
    layout_of h at (end ∷ word ∷ words) ≡ Err (Text at HeadLine)
end_trailing h at end word words vertex face off there place corners =
    let order = some_there h.order (and_parts (is_some h.order) (bytes_eq end (codes "end_header")) off).0 in
    ended_by h order.0 at end (word ∷ words) vertex face (Ok (layout_with (closed h) order.0 vertex face)) order.1 there (nothing_lacks h order.0 at vertex face place corners)

pub whole_layout : (h : Header) (order : ByteOrder) (at : ℕ) (end : List ℕ) (vertex face : Element) → ends h (end ∷ []) ≡ true → h.order ≡ Some order → Declares h vertex face → HasPlace vertex → HasCorners face →
    layout_of h at (end ∷ []) ≡ Ok (layout_with (closed h) order vertex face)
whole_layout h order at end vertex face off known there place corners =
    ended_by h order at end [] vertex face (Ok (layout_with (closed h) order vertex face)) known there (nothing_lacks h order at vertex face place corners)
