-- What is put of a list whose items are written one by one.
use Rattle.std.proofs.Common.{◌≡◌, ℕ, ◌+◌, ◌-◌, ◌<◌, List, [], ◌++◌, length, take, drop, get_or, Result, Ok, Err, ap, ◌∙◌, sym, append_assoc, append-nil, arith}
use Rattle.std.specs.List.{flat_map}
use Rattle.std.specs.Result.{OnErr}
use Rattle.std.proofs.lemmas.List.{take_more, flat_map_more, take-append-drop}
use Rattle.std.proofs.lemmas.Grind.{flat_map-append}
use Rattle.fault_counts.specs.Told.{Told, Puts, PutsPrefix}
use Rattle.mesh_out.specs.Stream.{PutsBefore, Plan}
use Rattle.mesh_out.proofs.Streams.{puts_all, puts_more_before, puts_later, puts_prefix, puts_prefix_behind, front_of_more}

-- the next item was written
pub puts_item :
    {X : Type 0} (f : X → List ℕ) (xs : List X) (i : ℕ) (d : X) (start item : List ℕ)
    {old mid new : Told} {rest last : List ℕ} → i < length xs → item ≡ f (get_or xs i d) →
    PutsBefore old mid (start ++ flat_map f (take i xs)) rest → PutsBefore mid new (rest ++ item) last →
    PutsBefore old new (start ++ flat_map f (take (i + 1) xs)) last
puts_item f xs i d start item {old} {mid} {new} {rest} {last} below is h k =
    let more = flat_map_more f start (take i xs) (get_or xs i d) in
    let written = puts_more_before old mid new (start ++ flat_map f (take i xs)) rest item last h k in
    rw (take_more xs i d below, ← more, ← is) written

-- the next item was refused, and a prefix of what is written of all items was put
pub puts_prefix_of_items :
    {X : Type 0} (f : X → List ℕ) (xs : List X) (i : ℕ) (start : List ℕ) {old mid new : Told}
    {rest last : List ℕ} → PutsBefore old mid (start ++ flat_map f (take i xs)) rest →
    PutsBefore mid new rest last → PutsPrefix old new (start ++ flat_map f xs)
puts_prefix_of_items f xs i start {old} {mid} {new} {rest} {last} h k =
    let cut = take-append-drop i xs in
    let parts = flat_map-append f (take i xs) (drop i xs) in
    let joined = append_assoc start (flat_map f (take i xs)) (flat_map f (drop i xs)) in
    let whole : (start ++ flat_map f (take i xs)) ++ flat_map f (drop i xs) ≡ start ++ flat_map f xs =
    joined ∙ ap (λ (ys : List ℕ). start ++ ys) (sym parts ∙ ap (λ ys. flat_map f ys) cut) in
    rw whole at (puts_prefix old new (start ++ flat_map f (take i xs)) last (flat_map f (drop i xs)) (puts_later old mid new _ rest last h k))

-- a fact is one after any error
pub on_any_error : {T E P : Type 0} (r : Result T E) → P → OnErr r P
on_any_error (Ok x) fact = tt
on_any_error (Err e) fact = fact

-- one vertex less is still to be written
pub next_vertex :
    (first now next : Plan) (i : ℕ) → now ≡ record first { vertices = first.vertices - i } →
    next ≡ record now { vertices = now.vertices - 1 } →
    next ≡ record first { vertices = first.vertices - (i + 1) }
next_vertex first now next i h k =
    k ∙ ap (λ (p : Plan). record p { vertices = p.vertices - 1 }) h ∙ ap (λ (n : ℕ). record first { vertices = n }) (omega arith)

-- one face less is still to be written
pub next_face :
    (first now next : Plan) (i : ℕ) → now ≡ record first { faces = first.faces - i } →
    next ≡ record now { faces = now.faces - 1 } →
    next ≡ record first { faces = first.faces - (i + 1) }
next_face first now next i h k =
    k ∙ ap (λ (p : Plan). record p { faces = p.faces - 1 }) h ∙ ap (λ (n : ℕ). record first { faces = n }) (omega arith)

-- two texts were written behind the start, and all was put
pub puts_both :
    (old first second new : Told) (start one two rest last : List ℕ) → PutsBefore old first (start ++ one) rest →
    PutsBefore first second (rest ++ two) last → Puts second new last → Puts old new (start ++ (one ++ two))
puts_both old first second new start one two rest last h i k =
    let joined = append_assoc start one two in
    rw joined at (puts_all old second new ((start ++ one) ++ two) last (puts_more_before old first second (start ++ one) rest two last h i) k)

-- the first text was written behind the start, and of the rest and the second a front was put
pub puts_prefix_of_both :
    (old mid new : Told) (start one two rest : List ℕ) → PutsBefore old mid (start ++ one) rest →
    PutsPrefix mid new (rest ++ two) → PutsPrefix old new (start ++ (one ++ two))
puts_prefix_of_both old mid new start one two rest h i =
    let joined = append_assoc start one two in
    rw joined at (puts_prefix_behind old mid new (start ++ one) rest two h i)

-- a prefix of the start and the first text is one of them and the second
pub puts_prefix_of_first :
    (old new : Told) (start one two : List ℕ) → PutsPrefix old new (start ++ one) →
    PutsPrefix old new (start ++ (one ++ two))
puts_prefix_of_first old new start one two i =
    let joined = append_assoc start one two in
    rw joined at (front_of_more old new (start ++ one) two i)

-- two texts were written behind the start, and of what was not put a front was put
pub puts_prefix_of_last :
    (old first second new : Told) (start one two rest last : List ℕ) → PutsBefore old first (start ++ one) rest →
    PutsBefore first second (rest ++ two) last → PutsPrefix second new last →
    PutsPrefix old new (start ++ (one ++ two))
puts_prefix_of_last old first second new start one two rest last h i k =
    let joined = append_assoc start one two in
    let before = puts_more_before old first second (start ++ one) rest two last h i in
    rw (joined, append-nil) at (puts_prefix_behind old second new ((start ++ one) ++ two) last [] before (rw append-nil k))
