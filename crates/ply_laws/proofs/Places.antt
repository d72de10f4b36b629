-- Where the numbers of a record stand, and the list of its indices.
use Rattle.std.proofs.Common.{◌≡◌, ℕ, ◌+◌, ◌*◌, ◌==◌, ℤ, pos, negsuc, Bool, true, false, if◌then◌else◌, List, [], ◌∷◌, ◌++◌, drop, Some, Result, Ok, Err, refl, ap, sym, ◌∙◌, subst, arith}
use Rattle.std.proofs.lemmas.Bool.{false≢true, or_parts, eqb-true}
use Rattle.std.proofs.lemmas.List.{drop-drop}
use Rattle.std.specs.List.{list_any}
use Rattle.oemm_octree.specs.Octree.{on_grid}
use Rattle.oemm_octree.specs.declared.points.Point.{Point}
use Rattle.mesh_data.specs.declared.geometry.Tri.{Tri}
use Rattle.mesh_items.specs.declared.items.MeshFault.{MeshFault}
use Rattle.mesh_items.specs.declared.items.MeshFault.TheVariants.{Text}
use Rattle.mesh_items.specs.declared.items.MeshWhy.TheVariants.{OutOfRange, NotTriangle}
use Rattle.mesh_items.specs.Results.{◌>>=◌}
use Rattle.ply_header.specs.declared.layout.ByteOrder.{ByteOrder}
use Rattle.ply_header.specs.declared.layout.ScalarType.{ScalarType}
use Rattle.ply_header.specs.declared.layout.Axis.{Axis}
use Rattle.ply_header.specs.declared.layout.Axis.TheVariants.{X, Y, Z}
use Rattle.ply_header.specs.declared.layout.Property.{Property}
use Rattle.ply_header.specs.declared.layout.Property.TheVariants.{Coordinate, Corners, Single, Many}
use Rattle.ply_reader.specs.declared.values.Values.{Values}
use Rattle.ply_reader.specs.declared.values.Record.{Record}
use Rattle.ply_header.specs.Layout.{size_of, same_axis}
use Rattle.ply_header.specs.Header.{is_along, is_corners}
use Rattle.ply_reader.specs.Body.{Rest, forward, passed, number_of, number_in, moved_along, with_coordinate, coordinate_in, list_count, count_in, list_passed, triangle_at, indices_in, corners_in, property_in, properties_in}
use Rattle.ply_laws.specs.Records.{width_of, HaveWidth, coordinate_along}
use Rattle.ply_reader.proofs.BodyLaws.{passed_is}
use Rattle.ply_reader.proofs.StepLaws.{some_is}
use Rattle.ply_laws.proofs.Steps.{ok_is, bound}

-- the first, where it was chosen
chosen_ok : {A : Type 0} (test : Bool) (x y : A) (fault : MeshFault) → (if test then Ok x else Err fault) ≡ Ok y → y ≡ x
chosen_ok true x y fault e = sym (ok_is x y e)
chosen_ok false x y fault e = absurd cc

-- a number and what is left behind it
record IsNumber (order : ByteOrder) (number : ScalarType) (r : Rest) (z : ℤ) (s : Rest) : Type 0 where
  is : z ≡ number_of order number r.bytes
  left : s ≡ forward (size_of number) r

number_is : (order : ByteOrder) (number : ScalarType) (r s : Rest) (z : ℤ) → number_in order number r ≡ Ok (z, s) → IsNumber order number r z s
number_is order number r s z e =
    let b = bound (passed (size_of number) r) (λ behind. Ok (number_of order number r.bytes, behind)) (z, s) e in
    let same = ok_is (number_of order number r.bytes, b.value) (z, s) b.next in
    record { is = sym (ap (λ p. p.0) same); left = sym (ap (λ p. p.1) same) ∙ (passed_is _ r b.value b.first).is }

-- ---- a coordinate

moved_there : (axis : Axis) (n : ℤ) (p : Point) → coordinate_along axis (moved_along axis n p) ≡ n
moved_there X n p = refl
moved_there Y n p = refl
moved_there Z n p = refl

moved_elsewhere : (axis other : Axis) (n : ℤ) (p : Point) → same_axis axis other ≡ false → coordinate_along axis (moved_along other n p) ≡ coordinate_along axis p
moved_elsewhere X X n p apart = absurd (false≢true (sym apart))
moved_elsewhere X Y n p apart = refl
moved_elsewhere X Z n p apart = refl
moved_elsewhere Y X n p apart = refl
moved_elsewhere Y Y n p apart = absurd (false≢true (sym apart))
moved_elsewhere Y Z n p apart = refl
moved_elsewhere Z X n p apart = refl
moved_elsewhere Z Y n p apart = refl
moved_elsewhere Z Z n p apart = absurd (false≢true (sym apart))

-- the values with the coordinate at the front, and what is left behind it
record IsCoordinate (rec : Record) (axis : Axis) (number : ScalarType) (v : Values) (r : Rest) (w : Values) (s : Rest) : Type 0 where
  point : w.point ≡ moved_along axis (number_of rec.order number r.bytes) v.point
  face : w.face ≡ v.face
  left : s ≡ forward (size_of number) r

coordinate_is : (rec : Record) (axis : Axis) (number : ScalarType) (v : Values) (r : Rest) (w : Values) (s : Rest) → coordinate_in rec axis number v r ≡ Ok (w, s) → IsCoordinate rec axis number v r w s
coordinate_is rec axis number v r w s e =
    let b = bound (number_in rec.order number r) (λ n. with_coordinate rec axis n.0 v >>= λ x. Ok (x, n.1)) (w, s) e in
    let n = number_is rec.order number r b.value.1 b.value.0 b.first in
    let d = bound (with_coordinate rec axis b.value.0 v) (λ x. Ok (x, b.value.1)) (w, s) b.next in
    let same = ok_is (d.value, b.value.1) (w, s) d.next in
    let set = chosen_ok (on_grid b.value.0) (record v { point = moved_along axis b.value.0 v.point }) d.value (Text rec.at (OutOfRange rec.number)) d.first in
    let is = sym (ap (λ p. p.0) same) ∙ set in
    record {
      point = ap (λ (x : Values). x.point) is ∙ ap (λ z. moved_along axis z v.point) n.is;
      face = ap (λ (x : Values). x.face) is;
      left = sym (ap (λ p. p.1) same) ∙ n.left;
    }

-- ---- a list of three indices

counted_is : (rec : Record) (z : ℤ) (n : ℕ) → list_count rec z ≡ Ok n → z ≡ pos n
counted_is rec (pos m) n e = ap pos (ok_is m n e)
counted_is rec (negsuc m) n e = absurd cc

-- what was chosen, where it gives something
record IsGiven {A : Type 0} (test : Bool) (o : Result A MeshFault) (y : A) : Type 0 where
  holds : test ≡ true
  gives : o ≡ Ok y

given_is : {A : Type 0} (test : Bool) (o : Result A MeshFault) (fault : MeshFault) (y : A) → (if test then o else Err fault) ≡ Ok y → IsGiven test o y
given_is true o fault y e = record { holds = refl; gives = e }
given_is false o fault y e = absurd cc

-- the count at the front is three, and the triangle is that of the three indices behind it
record AreCorners (rec : Record) (count item : ScalarType) (r : Rest) (t : Tri) : Type 0 where
  three : number_of rec.order count r.bytes ≡ pos 3
  triangle : triangle_at rec item (drop (size_of count) r.bytes) ≡ Ok t

corners_are : (rec : Record) (count item : ScalarType) (r s : Rest) (t : Tri) → corners_in rec count item r ≡ Ok (t, s) → AreCorners rec count item r t
unfolding corners_in indices_in
corners_are rec count item r s t e =
    let b = bound (count_in rec count r) (λ c. if c.0 == 3 then indices_in rec item c.1 else Err (Text rec.at (NotTriangle rec.number))) (t, s) e in
    let k = bound (number_in rec.order count r) (λ c. list_count rec c.0 >>= λ n. Ok (n, c.1)) b.value b.first in
    let n = number_is rec.order count r k.value.1 k.value.0 k.first in
    let m = bound (list_count rec k.value.0) (λ n. Ok (n, k.value.1)) b.value k.next in
    let counted = ok_is (m.value, k.value.1) b.value m.next in
    let chosen = given_is (b.value.0 == 3) (indices_in rec item b.value.1) (Text rec.at (NotTriangle rec.number)) (t, s) b.next in
    let three = ap (λ p. p.0) counted ∙ eqb-true b.value.0 3 chosen.holds in
    let i = bound (passed (3 * size_of item) b.value.1) (λ behind. triangle_at rec item b.value.1.bytes >>= λ u. Ok (u, behind)) (t, s) chosen.gives in
    let j = bound (triangle_at rec item b.value.1.bytes) (λ u. Ok (u, i.value)) (t, s) i.next in
    let is = ap (λ p. p.0) (ok_is (j.value, i.value) (t, s) j.next) in
    let there = sym (ap (λ p. p.1) counted) ∙ n.left in
    record {
      three = sym n.is ∙ counted_is rec k.value.0 m.value m.first ∙ ap pos three;
      triangle = ap (λ (x : Rest). triangle_at rec item x.bytes) (sym there) ∙ j.first ∙ ap Ok is;
    }

-- ---- properties, one behind another

-- a property that is one number leaves what stands behind its bytes
number_left : (rec : Record) (p : Property) (v w : Values) (r s : Rest) (k : ℕ) → width_of p ≡ Some k → property_in rec p v r ≡ Ok (w, s) → s ≡ forward k r
unfolding property_in
number_left rec (Coordinate axis number) v w r s k wide e =
    (coordinate_is rec axis number v r w s e).left ∙ ap (λ n. forward n r) (some_is wide)
number_left rec (Single number) v w r s k wide e =
    let b = bound (passed (size_of number) r) (λ behind. Ok (v, behind)) (w, s) e in
    sym (ap (λ p. p.1) (ok_is (v, b.value) (w, s) b.next)) ∙ (passed_is _ r b.value b.first).is ∙ ap (λ n. forward n r) (some_is wide)
number_left rec (Corners count item) v w r s k wide e = absurd cc
number_left rec (Many count item) v w r s k wide e = absurd cc

-- a property that isn't the coordinate along this axis leaves that as it was
coordinate_kept : (rec : Record) (axis : Axis) (p : Property) (v w : Values) (r s : Rest) → is_along axis p ≡ false → property_in rec p v r ≡ Ok (w, s) → coordinate_along axis w.point ≡ coordinate_along axis v.point
unfolding property_in
coordinate_kept rec axis (Coordinate other number) v w r s apart e =
    ap (coordinate_along axis) (coordinate_is rec other number v r w s e).point ∙ moved_elsewhere axis other _ v.point apart
coordinate_kept rec axis (Single number) v w r s apart e =
    let b = bound (passed (size_of number) r) (λ behind. Ok (v, behind)) (w, s) e in
    sym (ap (λ p. coordinate_along axis p.0.point) (ok_is (v, b.value) (w, s) b.next))
coordinate_kept rec axis (Corners count item) v w r s apart e =
    let b = bound (corners_in rec count item r) (λ t. Ok (record v { face = Some t.0 }, t.1)) (w, s) e in
    sym (ap (λ p. coordinate_along axis p.0.point) (ok_is (record v { face = Some b.value.0 }, b.value.1) (w, s) b.next))
coordinate_kept rec axis (Many count item) v w r s apart e =
    let b = bound (list_passed rec count item r) (λ behind. Ok (v, behind)) (w, s) e in
    sym (ap (λ p. coordinate_along axis p.0.point) (ok_is (v, b.value) (w, s) b.next))

-- a property that isn't the list of indices leaves the face as it was
face_kept : (rec : Record) (p : Property) (v w : Values) (r s : Rest) → is_corners p ≡ false → property_in rec p v r ≡ Ok (w, s) → w.face ≡ v.face
unfolding property_in
face_kept rec (Coordinate other number) v w r s apart e = (coordinate_is rec other number v r w s e).face
face_kept rec (Single number) v w r s apart e =
    let b = bound (passed (size_of number) r) (λ behind. Ok (v, behind)) (w, s) e in
    sym (ap (λ p. p.0.face) (ok_is (v, b.value) (w, s) b.next))
face_kept rec (Corners count item) v w r s apart e = absurd (false≢true (sym apart))
face_kept rec (Many count item) v w r s apart e =
    let b = bound (list_passed rec count item r) (λ behind. Ok (v, behind)) (w, s) e in
    sym (ap (λ p. p.0.face) (ok_is (v, b.value) (w, s) b.next))

-- the first of some properties, and the others behind it
record FirstIn (rec : Record) (p : Property) (ps : List Property) (v : Values) (r : Rest) (w : Values) (s : Rest) : Type 0 where
  values : Values
  left : Rest
  first : property_in rec p v r ≡ Ok (values, left)
  others : properties_in rec ps values left ≡ Ok (w, s)

first_in : (rec : Record) (p : Property) (ps : List Property) (v : Values) (r : Rest) (w : Values) (s : Rest) → properties_in rec (p ∷ ps) v r ≡ Ok (w, s) → FirstIn rec p ps v r w s
unfolding properties_in
first_in rec p ps v r w s e =
    let b = bound (property_in rec p v r) (λ x. properties_in rec ps x.0 x.1) (w, s) e in
    record { values = b.value.0; left = b.value.1; first = b.first; others = b.next }

forward_none : (r : Rest) → r ≡ forward 0 r
forward_none r = ap (λ n. let here : Rest = record { at = n; bytes = r.bytes } in here) (let at : r.at ≡ r.at + 0 = omega arith in at)

forward_on : (k m : ℕ) (r : Rest) → forward m (forward k r) ≡ forward (k + m) r
forward_on k m r =
    let at : r.at + k + m ≡ r.at + (k + m) = omega arith in
    let bytes = drop-drop m k r.bytes in
    cc

pub numbers_left : (rec : Record) (ps : List Property) (v w : Values) (r s : Rest) (n : ℕ) → HaveWidth ps n → properties_in rec ps v r ≡ Ok (w, s) → s ≡ forward n r
unfolding properties_in
numbers_left rec [] v w r s n none e =
    sym (ap (λ p. p.1) (ok_is (v, r) (w, s) e)) ∙ forward_none r ∙ ap (λ m. forward m r) (sym none)
numbers_left rec (p ∷ ps) v w r s n (k, m, wide, others, sum) e =
    let f = first_in rec p ps v r w s e in
    numbers_left rec ps f.values w f.left s m others f.others
    ∙ ap (forward m) (number_left rec p v f.values r f.left k wide f.first)
    ∙ forward_on k m r ∙ ap (λ i. forward i r) (sym sum)

coordinates_kept : (rec : Record) (axis : Axis) (ps : List Property) (v w : Values) (r s : Rest) → list_any (is_along axis) ps ≡ false → properties_in rec ps v r ≡ Ok (w, s) → coordinate_along axis w.point ≡ coordinate_along axis v.point
unfolding properties_in
coordinates_kept rec axis [] v w r s none e = sym (ap (λ p. coordinate_along axis p.0.point) (ok_is (v, r) (w, s) e))
coordinates_kept rec axis (p ∷ ps) v w r s none e =
    let f = first_in rec p ps v r w s e in
    let parts = or_parts (is_along axis p) (list_any (is_along axis) ps) none in
    coordinates_kept rec axis ps f.values w f.left s parts.1 f.others ∙ coordinate_kept rec axis p v f.values r f.left parts.0 f.first

faces_kept : (rec : Record) (ps : List Property) (v w : Values) (r s : Rest) → list_any is_corners ps ≡ false → properties_in rec ps v r ≡ Ok (w, s) → w.face ≡ v.face
unfolding properties_in
faces_kept rec [] v w r s none e = sym (ap (λ p. p.0.face) (ok_is (v, r) (w, s) e))
faces_kept rec (p ∷ ps) v w r s none e =
    let f = first_in rec p ps v r w s e in
    let parts = or_parts (is_corners p) (list_any is_corners ps) none in
    faces_kept rec ps f.values w f.left s parts.1 f.others ∙ face_kept rec p v f.values r f.left parts.0 f.first

-- properties in front of one, that one, and those behind it
record SplitAt (rec : Record) (n : ℕ) (p : Property) (back : List Property) (r : Rest) (w : Values) (s : Rest) : Type 0 where
  before : Values
  values : Values
  left : Rest
  here : property_in rec p before (forward n r) ≡ Ok (values, left)
  behind : properties_in rec back values left ≡ Ok (w, s)

split_at : (rec : Record) (front : List Property) (p : Property) (back : List Property) (v w : Values) (r s : Rest) (n : ℕ) → HaveWidth front n → properties_in rec (front ++ p ∷ back) v r ≡ Ok (w, s) → SplitAt rec n p back r w s
split_at rec [] p back v w r s n none e =
    let f = first_in rec p back v r w s e in
    let same = forward_none r ∙ ap (λ m. forward m r) (sym none) in
    record { before = v; values = f.values; left = f.left; here = subst (λ (t : Rest). property_in rec p v t ≡ Ok (f.values, f.left)) same f.first; behind = f.others }
split_at rec (q ∷ front) p back v w r s n (k, m, wide, others, sum) e =
    let f = first_in rec q (front ++ p ∷ back) v r w s e in
    let rest = split_at rec front p back f.values w f.left s m others f.others in
    let same = ap (forward m) (number_left rec q v f.values r f.left k wide f.first) ∙ forward_on k m r ∙ ap (λ i. forward i r) (sym sum) in
    record {
      before = rest.before;
      values = rest.values;
      left = rest.left;
      here = subst (λ (t : Rest). property_in rec p rest.before t ≡ Ok (rest.values, rest.left)) same rest.here;
      behind = rest.behind;
    }

pub coordinate_stands : (rec : Record) (axis : Axis) (number : ScalarType) (front back : List Property) (v w : Values) (r s : Rest) (n : ℕ) → HaveWidth front n → list_any (is_along axis) back ≡ false → properties_in rec (front ++ Coordinate axis number ∷ back) v r ≡ Ok (w, s) → coordinate_along axis w.point ≡ number_of rec.order number (drop n r.bytes)
unfolding property_in
coordinate_stands rec axis number front back v w r s n wide none e =
    let it = split_at rec front (Coordinate axis number) back v w r s n wide e in
    coordinates_kept rec axis back it.values w it.left s none it.behind
    ∙ ap (coordinate_along axis) (coordinate_is rec axis number it.before (forward n r) it.values it.left it.here).point
    ∙ moved_there axis _ it.before.point

pub corners_stand : (rec : Record) (count item : ScalarType) (front back : List Property) (v w : Values) (r s : Rest) (n : ℕ) → HaveWidth front n → list_any is_corners back ≡ false → properties_in rec (front ++ Corners count item ∷ back) v r ≡ Ok (w, s) → (number_of rec.order count (drop n r.bytes) ≡ pos 3) × ((t : Tri) × (w.face ≡ Some t) × (triangle_at rec item (drop (n + size_of count) r.bytes) ≡ Ok t))
unfolding property_in
corners_stand rec count item front back v w r s n wide none e =
    let it = split_at rec front (Corners count item) back v w r s n wide e in
    let b = bound (corners_in rec count item (forward n r)) (λ t. Ok (record it.before { face = Some t.0 }, t.1)) (it.values, it.left) it.here in
    let are = corners_are rec count item (forward n r) b.value.1 b.value.0 b.first in
    let face = ap (λ p. p.0.face) (ok_is (record it.before { face = Some b.value.0 }, b.value.1) (it.values, it.left) b.next) in
    (are.three, (b.value.0, faces_kept rec back it.values w it.left s none it.behind ∙ sym face, ap (triangle_at rec item) (sym (drop-drop (size_of count) n r.bytes)) ∙ are.triangle))
