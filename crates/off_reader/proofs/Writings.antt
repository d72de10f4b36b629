-- Lines that write a mesh, and what is read of them.
use Rattle.std.proofs.Common.{◌≡◌, ℕ, ◌+◌, ◌-◌, ◌<◌, ◌≤◌, Bool, true, false, List, [], ◌∷◌, ◌++◌, length, map, Some, None, Result, Ok, Err, refl, ap, sym, subst, ◌∙◌, ◌⊎◌, inl, inr, if◌then◌else◌, lt-ltb, le-ltb, append-nil, arith}
use Rattle.std.specs.Prelude.{slice_get}
use Rattle.std.proofs.lemmas.Bool.{cases_lt}
use Rattle.oemm_octree.specs.declared.points.Point.{Point}
use Rattle.mesh_data.specs.declared.geometry.Tri.{Tri}
use Rattle.mesh_items.specs.declared.items.Item.{Item}
use Rattle.mesh_items.specs.declared.items.Item.TheVariants.{Counts, Vertex, Face}
use Rattle.mesh_items.specs.declared.items.MeshFault.{MeshFault}
use Rattle.mesh_items.specs.declared.items.MeshFault.TheVariants.{Text}
use Rattle.mesh_items.specs.declared.items.MeshWhy.TheVariants.{Head}
use Rattle.mesh_items.specs.Reading.{Reading, item_then, fault_alone}
use Rattle.oemm_lines.specs.declared.parts.Word.{Word}
use Rattle.oemm_lines.specs.declared.parts.Line.{Line}
use Rattle.oemm_lines.specs.Stream.{texts_of, word_in}
use Rattle.mesh_items.specs.Results.{◌>>=◌}
use Rattle.off_reader.specs.Grammar.{mesh_of, from_head, from_counts, counted, counts_of, begun_by, body_of, item_of, vertex_of, face_of, is_head}
use Rattle.off_reader.specs.Writes.{IsHead, CountsStandAt, WriteCounts, WriteVertices, WriteFaces, WriteMesh, stopped_reading}
use Rattle.mesh_items.specs.Progress.{reading_of}
use Rattle.off_reader.proofs.ItemSteps.{below_is_other, nothing_behind}

-- the items before those of a reading
items_before : List Item → Reading → Reading
items_before items r = record { items = items ++ r.items; fault = r.fault }

-- a vertex or a face is read
read_first : (v f done : ℕ) (end : MeshFault) (l : Line) (lines : List Line) (item : Item) → done < v + f → item_of v done l ≡ Ok item →
    body_of v f done end (l ∷ lines) ≡ item_then item (body_of v f (done + 1) end lines)
unfolding body_of
read_first v f done end l lines item below is = rw (below_is_other done (v + f) below, is) refl

vertex_item : (v done : ℕ) (l : Line) (p : Point) → done < v → vertex_of done l ≡ Ok p → item_of v done l ≡ Ok (Vertex p)
unfolding item_of
vertex_item v done l p below is = rw (lt-ltb done v below, is) refl

face_item : (v n : ℕ) (l : Line) (t : Tri) → face_of v n l ≡ Ok t → item_of v (v + n) l ≡ Ok (Face t)
unfolding item_of
face_item v n l t is =
    let number : (v + n) - v ≡ n = omega arith in
    rw (le-ltb (v + n) v (omega arith), number, is) refl

-- all vertices of these lines are read, and all faces
vertices_read : (lines : List Line) (points : List Point) (v f done : ℕ) (end : MeshFault) (rest : List Line) → WriteVertices done lines points → done + length points ≤ v →
    body_of v f done end (lines ++ rest) ≡ items_before (map (λ p. Vertex p) points) (body_of v f (done + length points) end rest)
unfolding items_before
vertices_read [] [] v f done end rest write within = ap (λ n. body_of v f n end rest) (omega arith)
vertices_read [] (p ∷ points) v f done end rest write within = absurd write
vertices_read (l ∷ lines) [] v f done end rest write within = absurd write
vertices_read (l ∷ lines) (p ∷ points) v f done end rest write within =
    let number : (done + 1) + length points ≡ done + length (p ∷ points) = omega arith in
    read_first v f done end l (lines ++ rest) (Vertex p) (omega (arith, within)) (vertex_item v done l p (omega (arith, within)) write.0)
    ∙ ap (item_then (Vertex p)) (vertices_read lines points v f (done + 1) end rest write.1 (omega (arith, within)))
    ∙ ap (λ n. items_before (map (λ p. Vertex p) (p ∷ points)) (body_of v f n end rest)) number

faces_read : (lines : List Line) (faces : List Tri) (v f n : ℕ) (end : MeshFault) (rest : List Line) → WriteFaces v n lines faces → n + length faces ≤ f →
    body_of v f (v + n) end (lines ++ rest) ≡ items_before (map (λ t. Face t) faces) (body_of v f (v + n + length faces) end rest)
unfolding items_before
faces_read [] [] v f n end rest write within = ap (λ n. body_of v f n end rest) (omega arith)
faces_read [] (t ∷ faces) v f n end rest write within = absurd write
faces_read (l ∷ lines) [] v f n end rest write within = absurd write
faces_read (l ∷ lines) (t ∷ faces) v f n end rest write within =
    let next : (v + n) + 1 ≡ v + (n + 1) = omega arith in
    let number : v + (n + 1) + length faces ≡ v + n + length (t ∷ faces) = omega arith in
    read_first v f (v + n) end l (lines ++ rest) (Face t) (omega (arith, within)) (face_item v n l t write.0)
    ∙ ap (λ m. item_then (Face t) (body_of v f m end (lines ++ rest))) next
    ∙ ap (item_then (Face t)) (faces_read lines faces v f (n + 1) end rest write.1 (omega (arith, within)))
    ∙ ap (λ m. items_before (map (λ t. Face t) (t ∷ faces)) (body_of v f m end rest)) number

-- the counts are read where they stand
counts_on_head : (head l : Line) (place : ℕ) (end : MeshFault) (lines : List Line) → CountsStandAt (head ∷ []) l place → mesh_of end (head ∷ lines) ≡ counted (counts_of place l) end lines
unfolding mesh_of from_head
counts_on_head head l place end lines stand = rw (stand.2, stand.3, stand.0, lt-ltb 1 (length head.words) stand.1) refl

counts_below : (head next l : Line) (place : ℕ) (end : MeshFault) (lines : List Line) → CountsStandAt (head ∷ next ∷ []) l place → mesh_of end (head ∷ next ∷ lines) ≡ counted (counts_of place l) end lines
unfolding mesh_of from_head from_counts
counts_below head next l place end lines stand = rw (stand.2, stand.3, stand.0, le-ltb 1 (length head.words) (omega (arith, stand.1))) refl

counts_reached : (head : List Line) (l : Line) (place : ℕ) (end : MeshFault) (lines : List Line) → CountsStandAt head l place → mesh_of end (head ++ lines) ≡ counted (counts_of place l) end lines
counts_reached [] l place end lines stand = absurd stand
counts_reached (head ∷ []) l place end lines stand = counts_on_head head l place end lines stand
counts_reached (head ∷ next ∷ []) l place end lines stand = counts_below head next l place end lines stand
counts_reached (head ∷ next ∷ more ∷ others) l place end lines stand = absurd stand

head_read : (head : List Line) (counts : ℕ × ℕ) (end : MeshFault) (lines : List Line) → WriteCounts head counts → mesh_of end (head ++ lines) ≡ counted (Ok counts) end lines
head_read head counts end lines (l, place, stand, is) =
    counts_reached head l place end lines stand ∙ ap (λ (r : Result (ℕ × ℕ) MeshFault). counted r end lines) is

-- the mesh that lines write is read
body_read : (vertex_lines face_lines rest : List Line) (points : List Point) (faces : List Tri) (end : MeshFault) → WriteVertices 0 vertex_lines points → WriteFaces (length points) 0 face_lines faces →
    body_of (length points) (length faces) 0 end (vertex_lines ++ (face_lines ++ rest)) ≡ record { items = map (λ p. Vertex p) points ++ map (λ t. Face t) faces; fault = None }
unfolding items_before
body_read vertex_lines face_lines rest points faces end placed joined =
    let v = length points in
    let f = length faces in
    let vertices = map (λ p. Vertex p) points in
    let none : 0 + v ≡ v + 0 = omega arith in
    vertices_read vertex_lines points v f 0 end (face_lines ++ rest) placed (omega arith)
    ∙ ap (λ n. items_before vertices (body_of v f n end (face_lines ++ rest))) none
    ∙ ap (items_before vertices) (faces_read face_lines faces v f 0 end rest joined (omega arith))
    ∙ ap (λ r. items_before vertices (items_before (map (λ t. Face t) faces) r)) (nothing_behind v f (v + 0 + f) end rest (omega arith))
    ∙ ap (λ items. record { items = vertices ++ items; fault = None }) (append-nil (map (λ t. Face t) faces))

pub mesh_read : (end : MeshFault) (lines : List Line) (points : List Point) (faces : List Tri) → WriteMesh lines points faces → mesh_of end lines ≡ reading_of points faces
mesh_read end lines points faces w =
    let counts : ℕ × ℕ = (length points, length faces) in
    ap (mesh_of end) w.whole
    ∙ head_read w.head counts end (w.vertex_lines ++ (w.face_lines ++ w.rest)) w.counted
    ∙ ap (item_then (Counts (length points) (length faces))) (body_read w.vertex_lines w.face_lines w.rest points faces end w.placed w.joined)

-- what is read of a line's item, and that nothing but a fault comes where a line is missing
body_step : (v f done : ℕ) (end : MeshFault) (l : Line) (lines : List Line) → done < v + f → body_of v f done end (l ∷ lines) ≡ begun_by (item_of v done l) (body_of v f (done + 1) end lines)
unfolding body_of
body_step v f done end l lines below = rw (below_is_other done (v + f) below) refl

body_short : (v f done : ℕ) (end : MeshFault) → done < v + f → body_of v f done end [] ≡ fault_alone end
unfolding body_of
body_short v f done end below = rw (below_is_other done (v + f) below) refl

has_fault : (fault : MeshFault) → (fault_alone fault).fault ≡ None → ⊥
has_fault fault is = cc

begun_ok : (r : Result Item MeshFault) (next : Reading) → (begun_by r next).fault ≡ None → (item : Item) × (r ≡ Ok item) × (next.fault ≡ None)
begun_ok (Ok item) next is = (item, refl, is)
begun_ok (Err fault) next is = cc

vertex_step : (r : Result Point MeshFault) (item : Item) → (r >>= λ p. Ok (Vertex p)) ≡ Ok item → (p : Point) × (r ≡ Ok p)
vertex_step (Ok p) item is = (p, refl)
vertex_step (Err fault) item is = cc

vertex_written : (v done : ℕ) (l : Line) (item : Item) → done < v → item_of v done l ≡ Ok item → (p : Point) × (vertex_of done l ≡ Ok p)
unfolding item_of
vertex_written v done l item below is =
    let same : (vertex_of done l >>= λ p. Ok (Vertex p)) ≡ item_of v done l = rw (lt-ltb done v below) refl in
    vertex_step (vertex_of done l) item (same ∙ is)

face_step : (r : Result Tri MeshFault) (item : Item) → (r >>= λ t. Ok (Face t)) ≡ Ok item → (t : Tri) × (r ≡ Ok t)
face_step (Ok t) item is = (t, refl)
face_step (Err fault) item is = cc

face_written : (v n : ℕ) (l : Line) (item : Item) → item_of v (v + n) l ≡ Ok item → (t : Tri) × (face_of v n l ≡ Ok t)
unfolding item_of
face_written v n l item is =
    let number : (v + n) - v ≡ n = omega arith in
    let same : (face_of v n l >>= λ t. Ok (Face t)) ≡ item_of v (v + n) l = rw (le-ltb (v + n) v (omega arith), number) refl in
    face_step (face_of v n l) item (same ∙ is)

-- where no fault is read, lines write the faces to come, and before them the vertices to come
record FacesAhead (v f n : ℕ) (lines : List Line) : Type 0 where
  faces : List Tri
  face_lines : List Line
  rest : List Line
  whole : lines ≡ face_lines ++ rest
  count : n + length faces ≡ f
  joined : WriteFaces v n face_lines faces

record BodyAhead (v f done : ℕ) (lines : List Line) : Type 0 where
  points : List Point
  vertex_lines : List Line
  later : List Line
  whole : lines ≡ vertex_lines ++ later
  count : done + length points ≡ v
  placed : WriteVertices done vertex_lines points
  faces : FacesAhead v f 0 later

face_before : (v f n : ℕ) (l : Line) (lines : List Line) (t : Tri) → face_of v n l ≡ Ok t → FacesAhead v f (n + 1) lines → FacesAhead v f n (l ∷ lines)
face_before v f n l lines t is on = record {
  faces = t ∷ on.faces;
  face_lines = l ∷ on.face_lines;
  rest = on.rest;
  whole = ap (λ (ls : List Line). l ∷ ls) on.whole;
  count = omega (arith, on.count);
  joined = (is, on.joined);
}

vertex_before : (v f done : ℕ) (l : Line) (lines : List Line) (p : Point) → vertex_of done l ≡ Ok p → BodyAhead v f (done + 1) lines → BodyAhead v f done (l ∷ lines)
vertex_before v f done l lines p is on = record {
  points = p ∷ on.points;
  vertex_lines = l ∷ on.vertex_lines;
  later = on.later;
  whole = ap (λ (ls : List Line). l ∷ ls) on.whole;
  count = omega (arith, on.count);
  placed = (is, on.placed);
  faces = on.faces;
}

faces_ahead : (lines : List Line) (v f n : ℕ) (end : MeshFault) → (n < f) ⊎ (f ≤ n) → n ≤ f → (body_of v f (v + n) end lines).fault ≡ None → FacesAhead v f n lines
faces_ahead lines v f n end (inr all) within is =
    record { faces = []; face_lines = []; rest = lines; whole = refl; count = omega (arith, all, within); joined = tt }
faces_ahead [] v f n end (inl below) within is =
    absurd (has_fault end (ap (λ (r : Reading). r.fault) (sym (body_short v f (v + n) end (omega (arith, below)))) ∙ is))
faces_ahead (l ∷ lines) v f n end (inl below) within is =
    let next : v + n + 1 ≡ v + (n + 1) = omega arith in
    let step = ap (λ (r : Reading). r.fault) (sym (body_step v f (v + n) end l lines (omega (arith, below)))) ∙ is in
    let begun = begun_ok (item_of v (v + n) l) (body_of v f (v + n + 1) end lines) step in
    let face = face_written v n l begun.0 begun.1 in
    face_before v f n l lines face.0 face.1
    (faces_ahead lines v f (n + 1) end (cases_lt (n + 1) f) (omega (arith, below)) (subst (λ (m : ℕ). (body_of v f m end lines).fault ≡ None) next begun.2))

body_ahead : (lines : List Line) (v f done : ℕ) (end : MeshFault) → (done < v) ⊎ (v ≤ done) → done ≤ v → (body_of v f done end lines).fault ≡ None → BodyAhead v f done lines
body_ahead lines v f done end (inr all) within is =
    let here : v + 0 ≡ done = omega (arith, all, within) in
    record {
      points = [];
      vertex_lines = [];
      later = lines;
      whole = refl;
      count = omega (arith, all, within);
      placed = tt;
      faces = faces_ahead lines v f 0 end (cases_lt 0 f) (omega arith) (subst (λ (m : ℕ). (body_of v f m end lines).fault ≡ None) (sym here) is);
    }
body_ahead [] v f done end (inl below) within is =
    absurd (has_fault end (ap (λ (r : Reading). r.fault) (sym (body_short v f done end (omega (arith, below)))) ∙ is))
body_ahead (l ∷ lines) v f done end (inl below) within is =
    let step = ap (λ (r : Reading). r.fault) (sym (body_step v f done end l lines (omega (arith, below)))) ∙ is in
    let begun = begun_ok (item_of v done l) (body_of v f (done + 1) end lines) step in
    let vertex = vertex_written v done l begun.0 below begun.1 in
    vertex_before v f done l lines vertex.0 vertex.1
    (body_ahead lines v f (done + 1) end (cases_lt (done + 1) v) (omega (arith, below)) begun.2)

-- the lines that write a mesh, by those that write its counts
mesh_from : (head lines : List Line) (counts : ℕ × ℕ) (end : MeshFault) → WriteCounts head counts → (body_of counts.0 counts.1 0 end lines).fault ≡ None →
    (points : List Point) × (faces : List Tri) × WriteMesh (head ++ lines) points faces
mesh_from head lines counts end write is =
    let body = body_ahead lines counts.0 counts.1 0 end (cases_lt 0 counts.0) (omega arith) is in
    let faces = body.faces in
    let points_counted : counts.0 ≡ length body.points = omega (arith, body.count) in
    let faces_counted : counts.1 ≡ length faces.faces = omega (arith, faces.count) in
    let same : counts ≡ (length body.points, length faces.faces) = ap (λ (v : ℕ). (v, counts.1)) points_counted ∙ ap (λ (f : ℕ). (length body.points, f)) faces_counted in (
      body.points,
      faces.faces,
      record {
        head = head;
        vertex_lines = body.vertex_lines;
        face_lines = faces.face_lines;
        rest = faces.rest;
        whole = ap (λ (ls : List Line). head ++ ls) (body.whole ∙ ap (λ (ls : List Line). body.vertex_lines ++ ls) faces.whole);
        counted = subst (WriteCounts head) same write;
        placed = body.placed;
        joined = subst (λ (v : ℕ). WriteFaces v 0 faces.face_lines faces.faces) points_counted faces.joined;
      },
    )

counted_from : (head lines : List Line) (counts : Result (ℕ × ℕ) MeshFault) (end : MeshFault) → ((c : ℕ × ℕ) → counts ≡ Ok c → WriteCounts head c) → (counted counts end lines).fault ≡ None →
    (points : List Point) × (faces : List Tri) × WriteMesh (head ++ lines) points faces
counted_from head lines (Ok counts) end write is = mesh_from head lines counts end (write counts refl) is
counted_from head lines (Err fault) end write is = cc

head_has_word : (l : Line) → IsHead l → 0 < length l.words
head_has_word l head = by l.words head
  where
    by : (words : List Word) → is_head (slice_get (map (word_in l.bytes) words) 0) ≡ true → 0 < length words
    by [] h = cc
    by (w ∷ ws) h = omega arith

below_written : (head : Line) (lines : List Line) (end : MeshFault) → IsHead head → length head.words ≤ 1 → (from_counts end lines).fault ≡ None →
    (points : List Point) × (faces : List Tri) × WriteMesh (head ∷ lines) points faces
unfolding from_counts
below_written head [] end first alone is = cc
below_written head (l ∷ lines) end first alone is =
    let one : length head.words ≡ 1 = omega (arith, alone, head_has_word head first) in
    counted_from (head ∷ l ∷ []) lines (counts_of 0 l) end (λ c counts. (l, 0, (first, one, refl, refl), counts)) is

head_written : (head : Line) (lines : List Line) (end : MeshFault) → IsHead head → (1 < length head.words) ⊎ (length head.words ≤ 1) → (from_head head end lines).fault ≡ None →
    (points : List Point) × (faces : List Tri) × WriteMesh (head ∷ lines) points faces
unfolding from_head
head_written head lines end first (inl more) is =
    let here : counted (counts_of 1 head) end lines ≡ from_head head end lines = rw (lt-ltb 1 (length head.words) more) refl in
    counted_from (head ∷ []) lines (counts_of 1 head) end (λ c counts. (head, 1, (first, more, refl, refl), counts)) (ap (λ (r : Reading). r.fault) here ∙ is)
head_written head lines end first (inr alone) is =
    let here : from_counts end lines ≡ from_head head end lines = rw (le-ltb 1 (length head.words) alone) refl in
    below_written head lines end first alone (ap (λ (r : Reading). r.fault) here ∙ is)

either_head : (head : Bool) (mesh : Reading) (fault : MeshFault) → (if head then mesh else fault_alone fault).fault ≡ None → (head ≡ true) × (mesh.fault ≡ None)
either_head true mesh fault is = (refl, is)
either_head false mesh fault is = cc

pub mesh_written : (end : MeshFault) (lines : List Line) → (mesh_of end lines).fault ≡ None → (points : List Point) × (faces : List Tri) × WriteMesh lines points faces
unfolding mesh_of
mesh_written end [] is = cc
mesh_written end (head ∷ lines) is =
    let first = either_head (is_head (slice_get (texts_of head) 0)) (from_head head end lines) (Text head.at Head) is in
    head_written head lines end first.0 (cases_lt 1 (length head.words)) first.1

-- the first vertex or face that is refused, or that is missing
item_refused : (v f done : ℕ) (end : MeshFault) (l : Line) (lines : List Line) (fault : MeshFault) → done < v + f → item_of v done l ≡ Err fault → body_of v f done end (l ∷ lines) ≡ fault_alone fault
item_refused v f done end l lines fault below is =
    body_step v f done end l lines below ∙ ap (λ (r : Result Item MeshFault). begun_by r (body_of v f (done + 1) end lines)) is

vertex_refused : (v done : ℕ) (l : Line) (fault : MeshFault) → done < v → vertex_of done l ≡ Err fault → item_of v done l ≡ Err fault
unfolding item_of
vertex_refused v done l fault below is = rw (lt-ltb done v below, is) refl

face_refused : (v n : ℕ) (l : Line) (fault : MeshFault) → face_of v n l ≡ Err fault → item_of v (v + n) l ≡ Err fault
unfolding item_of
face_refused v n l fault is =
    let number : (v + n) - v ≡ n = omega arith in
    rw (le-ltb (v + n) v (omega arith), number, is) refl

-- what stands in front of it is read
vertices_stop : (head vertex_lines rest : List Line) (v f : ℕ) (points : List Point) (end fault : MeshFault) → WriteCounts head (v, f) → WriteVertices 0 vertex_lines points → length points < v →
    body_of v f (length points) end rest ≡ fault_alone fault → mesh_of end (head ++ (vertex_lines ++ rest)) ≡ stopped_reading v f points [] fault
unfolding items_before
vertices_stop head vertex_lines rest v f points end fault written placed few stop =
    let vertices = map (λ p. Vertex p) points in
    let first : 0 + length points ≡ length points = omega arith in
    head_read head (v, f) end (vertex_lines ++ rest) written
    ∙ ap (item_then (Counts v f))
    (vertices_read vertex_lines points v f 0 end rest placed (omega (arith, few))
    ∙ ap (λ n. items_before vertices (body_of v f n end rest)) first
    ∙ ap (items_before vertices) stop)

faces_stop : (head vertex_lines face_lines rest : List Line) (f : ℕ) (points : List Point) (faces : List Tri) (end fault : MeshFault) → WriteCounts head (length points, f) → WriteVertices 0 vertex_lines points → WriteFaces (length points) 0 face_lines faces → length faces < f →
    body_of (length points) f (length points + length faces) end rest ≡ fault_alone fault → mesh_of end (head ++ (vertex_lines ++ (face_lines ++ rest))) ≡ stopped_reading (length points) f points faces fault
unfolding items_before
faces_stop head vertex_lines face_lines rest f points faces end fault written placed joined few stop =
    let v = length points in
    let vertices = map (λ p. Vertex p) points in
    let triangles = map (λ t. Face t) faces in
    let first : 0 + v ≡ v + 0 = omega arith in
    let next : v + 0 + length faces ≡ v + length faces = omega arith in
    head_read head (v, f) end (vertex_lines ++ (face_lines ++ rest)) written
    ∙ ap (item_then (Counts v f))
    (vertices_read vertex_lines points v f 0 end (face_lines ++ rest) placed (omega arith)
    ∙ ap (λ n. items_before vertices (body_of v f n end (face_lines ++ rest))) first
    ∙ ap (items_before vertices) (faces_read face_lines faces v f 0 end rest joined (omega (arith, few))
    ∙ ap (λ n. items_before triangles (body_of v f n end rest)) next
    ∙ ap (items_before triangles) stop)
    ∙ ap (λ items. record { items = vertices ++ items; fault = Some fault }) (append-nil triangles))

pub mesh_vertex : (head vertex_lines rest : List Line) (l : Line) (v f : ℕ) (points : List Point) (end fault : MeshFault) → WriteCounts head (v, f) → WriteVertices 0 vertex_lines points → length points < v → vertex_of (length points) l ≡ Err fault →
    mesh_of end (head ++ (vertex_lines ++ l ∷ rest)) ≡ stopped_reading v f points [] fault
mesh_vertex head vertex_lines rest l v f points end fault written placed few is =
    vertices_stop head vertex_lines (l ∷ rest) v f points end fault written placed few
    (item_refused v f (length points) end l rest fault (omega (arith, few)) (vertex_refused v (length points) l fault few is))

pub mesh_face : (head vertex_lines face_lines rest : List Line) (l : Line) (f : ℕ) (points : List Point) (faces : List Tri) (end fault : MeshFault) → WriteCounts head (length points, f) → WriteVertices 0 vertex_lines points → WriteFaces (length points) 0 face_lines faces → length faces < f → face_of (length points) (length faces) l ≡ Err fault →
    mesh_of end (head ++ (vertex_lines ++ (face_lines ++ l ∷ rest))) ≡ stopped_reading (length points) f points faces fault
mesh_face head vertex_lines face_lines rest l f points faces end fault written placed joined few is =
    faces_stop head vertex_lines face_lines (l ∷ rest) f points faces end fault written placed joined few
    (item_refused (length points) f (length points + length faces) end l rest fault (omega (arith, few)) (face_refused (length points) (length faces) l fault is))

pub mesh_no_vertex : (head vertex_lines : List Line) (v f : ℕ) (points : List Point) (end : MeshFault) → WriteCounts head (v, f) → WriteVertices 0 vertex_lines points → length points < v →
    mesh_of end (head ++ vertex_lines) ≡ stopped_reading v f points [] end
mesh_no_vertex head vertex_lines v f points end written placed few =
    ap (λ (ls : List Line). mesh_of end (head ++ ls)) (sym (append-nil vertex_lines))
    ∙ vertices_stop head vertex_lines [] v f points end end written placed few (body_short v f (length points) end (omega (arith, few)))

pub mesh_no_face : (head vertex_lines face_lines : List Line) (f : ℕ) (points : List Point) (faces : List Tri) (end : MeshFault) → WriteCounts head (length points, f) → WriteVertices 0 vertex_lines points → WriteFaces (length points) 0 face_lines faces → length faces < f →
    mesh_of end (head ++ (vertex_lines ++ face_lines)) ≡ stopped_reading (length points) f points faces end
mesh_no_face head vertex_lines face_lines f points faces end written placed joined few =
    ap (λ (ls : List Line). mesh_of end (head ++ (vertex_lines ++ ls))) (sym (append-nil face_lines))
    ∙ faces_stop head vertex_lines face_lines [] f points faces end end written placed joined few (body_short (length points) f (length points + length faces) end (omega (arith, few)))

pub mesh_head : (l : Line) (rest : List Line) (end : MeshFault) → is_head (slice_get (texts_of l) 0) ≡ false → mesh_of end (l ∷ rest) ≡ fault_alone (Text l.at Head)
unfolding mesh_of
mesh_head l rest end other = rw other refl

-- the counts that are refused, or that are missing, and a mesh without words
pub mesh_counts : (head rest : List Line) (l : Line) (place : ℕ) (end fault : MeshFault) → CountsStandAt head l place → counts_of place l ≡ Err fault → mesh_of end (head ++ rest) ≡ fault_alone fault
mesh_counts head rest l place end fault stand is =
    counts_reached head l place end rest stand ∙ ap (λ (r : Result (ℕ × ℕ) MeshFault). counted r end rest) is

pub mesh_no_counts : (head : Line) (end : MeshFault) → IsHead head → length head.words ≡ 1 → mesh_of end (head ∷ []) ≡ fault_alone end
unfolding mesh_of from_head from_counts
mesh_no_counts head end first alone = rw (first, le-ltb 1 (length head.words) (omega (arith, alone))) refl

pub mesh_nothing : (end : MeshFault) → mesh_of end [] ≡ fault_alone end
unfolding mesh_of
mesh_nothing end = refl
