-- The walk along a sample, step by step.
use Rattle.std.proofs.Common.{◌≡◌, ℕ, zero, suc, ◌+◌, ◌-◌, ◌*◌, ◌<◌, ◌≤◌, Bool, true, false, List, [], ◌∷◌, ◌++◌, length, map, drop, get_or, Option, Some, None, Ok, refl, ap, sym, subst, ◌∙◌, drop-cons, arith}
use Rattle.std.specs.List.{range_with_len, slice_get}
use Rattle.std.proofs.lemmas.List.{drop_all}
use Rattle.std.proofs.lemmas.List.FromFn.{length-range_with_len}
use Rattle.std.proofs.lemmas.Option.{get_or_from_slice_get, slice_get_within}
use Rattle.oemm_octree.specs.declared.points.Point.{Point}
use Rattle.mesh_data.specs.declared.geometry.Tri.{Tri}
use Rattle.mesh_data.specs.Triangles.{IsProper, IsBelow}
use Rattle.mesh_items.specs.declared.items.Item.{Item}
use Rattle.mesh_items.specs.declared.items.Item.TheVariants.{Counts, Vertex, Face}
use Rattle.mesh_items.specs.Progress.{given_by, reading_of, MayFollow}
use Rattle.mesh_items.specs.Reading.{Given, Reading, Gives, IsComplete}
use Rattle.oemm_make.specs.Sample.{faces, next_random, points, random, vertex, vertices_at}
use Rattle.oemm_make.specs.Walk.{Walk, Walks, face_count, reading_left, rest, vertex_count, walk_of}
use Rattle.oemm_make.proofs.Faces.{length-faces}

length-vertices : (side number : ℕ) (places : List ℕ) → length (vertices_at side number places) ≡ length places
length-vertices side number [] = refl
length-vertices side number (place ∷ places) = ap suc (length-vertices side (next_random number) places)

pub length-points : (side seed : ℕ) → length (points side seed) ≡ side * side
length-points side seed = length-vertices side seed (range_with_len 0 (side * side)) ∙ length-range_with_len 0 (side * side)

-- what is left before the first vertex
rest_first : (side seed : ℕ) → rest side seed 0 ≡ map (λ p. Vertex p) (points side seed) ++ map (λ t. Face t) (faces side)
unfolding rest
rest_first side seed =
    let all : side * side - 0 ≡ side * side = omega arith in
    let none : 0 - side * side ≡ 0 = omega arith in
    ap (λ (n : ℕ). map (λ p. Vertex p) (vertices_at side seed (range_with_len 0 n)) ++ map (λ t. Face t) (drop (0 - side * side) (faces side))) all
    ∙ ap (λ (n : ℕ). map (λ p. Vertex p) (points side seed) ++ map (λ t. Face t) (drop n (faces side))) none

pub whole_left : (side seed : ℕ) → reading_left side seed false 0 ≡ reading_of (points side seed) (faces side)
whole_left side seed =
    ap (λ (items : List Item). record { items = Counts (side * side) (face_count side) ∷ items; fault = None }) (rest_first side seed)
    ∙ ap (λ (n : ℕ). record { items = Counts n (face_count side) ∷ (map (λ p. Vertex p) (points side seed) ++ map (λ t. Face t) (faces side)); fault = None }) (sym (length-points side seed))
    ∙ ap (λ (n : ℕ). record { items = Counts (length (points side seed)) n ∷ (map (λ p. Vertex p) (points side seed) ++ map (λ t. Face t) (faces side)); fault = None }) (sym (length-faces side))

-- a vertex comes first
rest_vertex :
    (side number done : ℕ) → done < side * side →
    rest side number done ≡ Vertex (vertex side done (next_random number)) ∷ rest side (next_random number) (done + 1)
unfolding rest
rest_vertex side number done within =
    let more : side * side - done ≡ suc (side * side - (done + 1)) = omega arith in
    let none : done - side * side ≡ done + 1 - side * side = omega arith in
    ap (λ (n : ℕ). map (λ p. Vertex p) (vertices_at side number (range_with_len done n)) ++ map (λ t. Face t) (drop (done - side * side) (faces side))) more
    ∙ ap (λ (n : ℕ). map (λ p. Vertex p) (vertices_at side number (range_with_len done (suc (side * side - (done + 1))))) ++ map (λ t. Face t) (drop n (faces side))) none

drop_at : {X : Type 0} (xs : List X) (k : ℕ) (x : X) → slice_get xs k ≡ Some x → drop k xs ≡ x ∷ drop (suc k) xs
drop_at xs k x is =
    drop-cons xs k x (slice_get_within xs k x is) ∙ ap (λ y. y ∷ drop (suc k) xs) (get_or_from_slice_get xs k x x is)

-- a face comes first
rest_face :
    (side number done : ℕ) (t : Tri) → side * side ≤ done → slice_get (faces side) (done - side * side) ≡ Some t →
    rest side number done ≡ Face t ∷ rest side number (done + 1)
unfolding rest
rest_face side number done t past is =
    let none : side * side - done ≡ 0 = omega arith in
    let none' : 0 ≡ side * side - (done + 1) = omega arith in
    let next : suc (done - side * side) ≡ done + 1 - side * side = omega arith in
    ap (λ (n : ℕ). map (λ p. Vertex p) (vertices_at side number (range_with_len done n)) ++ map (λ f. Face f) (drop (done - side * side) (faces side))) none
    ∙ ap (λ (ts : List Tri). map (λ f. Face f) ts) (drop_at (faces side) (done - side * side) t is)
    ∙ ap (λ (n : ℕ). Face t ∷ map (λ f. Face f) (drop n (faces side))) next
    ∙ ap (λ (n : ℕ). Face t ∷ (map (λ p. Vertex p) (vertices_at side number (range_with_len (done + 1) n)) ++ map (λ f. Face f) (drop (done + 1 - side * side) (faces side)))) none'

-- nothing comes behind the last
rest_none : (side number done : ℕ) → done ≡ side * side + face_count side → rest side number done ≡ []
unfolding rest
rest_none side number done all =
    let none : side * side - done ≡ 0 = omega arith in
    ap (λ (n : ℕ). map (λ p. Vertex p) (vertices_at side number (range_with_len done n)) ++ map (λ f. Face f) (drop (done - side * side) (faces side))) none
    ∙ ap (λ (ts : List Tri). map (λ f. Face f) ts) (drop_all (done - side * side) (faces side) (omega (arith, length-faces side)))

-- an item that may follow is given
given_more :
    (v f done : ℕ) (item : Item) → done < v + f → MayFollow v done item →
    Gives (given_by (Some (v, f)) done None) item (given_by (Some (v, f)) (done + 1) None)
given_more v f done (Counts m n) below may = absurd may
given_more v f done (Vertex p) below may = (v, f, refl, (omega arith, grind arith))
given_more v f done (Face t) below may = (v, f, refl, (omega arith, omega arith, may.1, may.2, grind arith))

given_all : (v f done : ℕ) → done ≡ v + f → IsComplete (given_by (Some (v, f)) done None)
given_all v f done all = (v, f, refl, (omega arith, omega arith))

told_more : (item : Item) (old new : List Item) → old ≡ item ∷ new →
    ◌≡◌ {A = Option Reading} (Some (record { items = old; fault = None })) (Some (record { items = item ∷ new; fault = None }))
told_more item old new is = ap (λ (items : List Item). Some (record { items = items; fault = None })) is

-- a walk gives its next vertex
pub vertex_walked :
    (old : Walk) (side number done next : ℕ) (counted : Bool) (p : Point) → old ≡ walk_of side number counted done →
    counted ≡ true → next ≡ next_random number → p ≡ vertex side done next → done < side * side →
    Walks old (Some (Vertex p)) (walk_of side next counted (done + 1))
vertex_walked old side number done next false p is counted following there within = absurd (cc counted)
vertex_walked old side number done next true p is counted following there within =
    let first : rest side number done ≡ Vertex p ∷ rest side next (done + 1)
    = rest_vertex side number done within
    ∙ ap (λ (n : ℕ). Vertex (vertex side done n) ∷ rest side n (done + 1)) (sym following)
    ∙ ap (λ (q : Point). Vertex q ∷ rest side next (done + 1)) (sym there) in
    let walked : Walks (walk_of side number true done) (Some (Vertex p)) (walk_of side next true (done + 1)) = record {
      given = (refl, given_more (side * side) (face_count side) done (Vertex p) (omega arith) within);
      told = told_more (Vertex p) (rest side number done) (rest side next (done + 1)) first;
    } in
    subst (λ (w : Walk). Walks w (Some (Vertex p)) (walk_of side next true (done + 1))) (sym is) walked

-- and behind all of them its next face
pub face_walked :
    (old : Walk) (side number done : ℕ) (counted : Bool) (t : Tri) → old ≡ walk_of side number counted done →
    counted ≡ true → side * side ≤ done → done < side * side + face_count side →
    slice_get (faces side) (done - side * side) ≡ Some t → IsProper t → IsBelow (side * side) t →
    Walks old (Some (Face t)) (walk_of side number counted (done + 1))
face_walked old side number done false t is counted past within there proper below = absurd (cc counted)
face_walked old side number done true t is counted past within there proper below =
    let walked : Walks (walk_of side number true done) (Some (Face t)) (walk_of side number true (done + 1)) = record {
      given = (refl, given_more (side * side) (face_count side) done (Face t) within (past, proper, below));
      told = told_more (Face t) (rest side number done) (rest side number (done + 1)) (rest_face side number done t past there);
    } in
    subst (λ (w : Walk). Walks w (Some (Face t)) (walk_of side number true (done + 1))) (sym is) walked

-- and behind the last nothing
pub none_walked :
    (old : Walk) (side number done : ℕ) (counted : Bool) → old ≡ walk_of side number counted done →
    counted ≡ true → done ≡ side * side + face_count side → Walks old None old
none_walked old side number done false is counted all = absurd (cc counted)
none_walked old side number done true is counted all =
    let nothing : reading_left side number true done ≡ record { items = []; fault = None }
    = ap (λ (items : List Item). record { items = items; fault = None }) (rest_none side number done all) in
    let walked : Walks (walk_of side number true done) None (walk_of side number true done) = record {
      given = (refl, given_all (side * side) (face_count side) done all, refl);
      told = (nothing, refl);
    } in
    subst (λ (w : Walk). Walks w None w) (sym is) walked

-- behind all that was counted there is nothing
some_value : (x y : ℕ × ℕ) → ◌≡◌ {A = Option (ℕ × ℕ)} (Some x) (Some y) → x ≡ y
some_value x y same = cc

counted_twice : (v f m n : ℕ) → ◌≡◌ {A = Option (ℕ × ℕ)} (Some (v, f)) (Some (m, n)) → (v ≡ m) × (f ≡ n)
counted_twice v f m n same =
    let pair = some_value (v, f) (m, n) same in
    (ap (λ (p : ℕ × ℕ). p.0) pair, ap (λ (p : ℕ × ℕ). p.1) pair)

none_given : (old new : Given) (item : Item) → Gives old item new → IsComplete old → ⊥
none_given old new (Counts v f) gives (m, n, counts, all) = cc
none_given old new (Vertex p) (v, f, counted, next) (m, n, counts, all) =
    let same = counted_twice v f m n (sym counted ∙ counts) in omega (arith, next.0, all.0, same.0)
none_given old new (Face t) (v, f, counted, next) (m, n, counts, all) =
    let same = counted_twice v f m n (sym counted ∙ counts) in omega (arith, next.1, all.1, same.1)

same_walk : (old new : Walk) → new.given ≡ old.given → new.reading ≡ old.reading → new ≡ old
same_walk old new given reading =
    ap (λ (g : Given). record { given = g; reading = new.reading }) given
    ∙ ap (λ (r : Reading). record { given = old.given; reading = r }) reading

pub walked_out :
    (old new : Walk) (item : Option Item) → Walks old item new → IsComplete old.given → (item ≡ None) × (new ≡ old)
walked_out old new (Some item) walks all = absurd (none_given old.given new.given item walks.given.1 all)
walked_out old new None walks all =
    let told : ◌≡◌ {A = Option Reading} (Some new.reading) (Some old.reading) = walks.told.1 in
    let reading : new.reading ≡ old.reading = cc in
    (refl, same_walk old new walks.given.2 reading)

-- ---- the vertex at a place

-- the generator's numbers, from one of its numbers on
later : (seed : ℕ) (k : ℕ) → random (next_random seed) k ≡ next_random (random seed k)
later seed zero = refl
later seed (suc k) = ap next_random (later seed k)

vertex_from : (side number a n k : ℕ) → k < n →
    slice_get (vertices_at side number (range_with_len a n)) k ≡ Some (vertex side (a + k) (random number (suc k)))
vertex_from side number a zero k lt = absurd (omega arith)
vertex_from side number a (suc n) zero lt =
    let here : a ≡ a + zero = omega arith in
    ap (λ (p : ℕ). Some (vertex side p (next_random number))) here
vertex_from side number a (suc n) (suc k) lt =
    let there : a + 1 + k ≡ a + suc k = omega arith in
    vertex_from side (next_random number) (a + 1) n k (omega arith)
    ∙ ap (λ (p : ℕ). Some (vertex side p (random (next_random number) (suc k)))) there
    ∙ ap (λ (r : ℕ). Some (vertex side (a + suc k) r)) (later number (suc k))

pub vertex_there : (side seed place : ℕ) → place < side * side →
    slice_get (points side seed) place ≡ Some (vertex side place (random seed (place + 1)))
vertex_there side seed place within =
    let here : 0 + place ≡ place = omega arith in
    let next : suc place ≡ place + 1 = omega arith in
    vertex_from side seed 0 (side * side) place within
    ∙ ap (λ (p : ℕ). Some (vertex side p (random seed (suc place)))) here
    ∙ ap (λ (k : ℕ). Some (vertex side place (random seed k))) next
