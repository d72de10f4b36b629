-- Steps one behind another, where what is left is told or isn't.
use Rattle.std.proofs.Common.{◌≡◌, ℕ, ◌+◌, ◌-◌, ◌*◌, ◌≤◌, pos, List, ◌++◌, length, drop, length-drop, Option, Some, None, IfSome, Result, Ok, Err, IfErr, refl, ap, sym, ◌∙◌, arith}
use Rattle.std.proofs.lemmas.List.{drop-append-le}
use Rattle.std.specs.Option.{option_map}
use Rattle.std.specs.Result.{IsErrAnd}
use Rattle.oemm_limits.specs.declared.TheConstants.{MOST_MESH_BYTES}
use Rattle.mesh_items.specs.declared.items.MeshFault.{MeshFault}
use Rattle.mesh_items.specs.declared.items.MeshFault.TheVariants.{Read, Text, TooMany, Memory}
use Rattle.fault_counts.specs.Told.{Told}
use Rattle.byteorder.specs.Endian.{twos_complement}
use Rattle.byteorder.specs.Numbers.{little_from-append, big_from-append}
use Rattle.oemm_lines.specs.Stream.{left_of}
use Rattle.mesh_items.specs.Results.{◌>>=◌, IsOfText}
use Rattle.mesh_items.specs.Faces.{name_of, triangle_of}
use Rattle.ply_header.specs.declared.layout.ByteOrder.{ByteOrder}
use Rattle.ply_header.specs.declared.layout.ByteOrder.TheVariants.{Little, Big}
use Rattle.ply_header.specs.declared.layout.ScalarType.{ScalarType}
use Rattle.ply_header.specs.declared.layout.ScalarType.TheVariants.{I8, U8, I16, U16, I32, U32, F32, F64}
use Rattle.ply_reader.specs.declared.values.Record.{Record}
use Rattle.ply_header.specs.Layout.{size_of}
use Rattle.ply_reader.specs.Body.{Rest, forward, passed, bits_of, number_of, index_at, triangle_at}
use Rattle.ply_reader.specs.Feed.{Feed, rest_with, rest_left, failed, found, Fails, Finds, Passes}
use Rattle.ply_reader.proofs.FeedLaws.{passed-more, passed-on}

-- a step, and what follows it
abbrev pub and_then : {A B : Type 0} → (Rest → Result (A × Rest) MeshFault) → (A → Rest → Result B MeshFault) → Rest → Result B MeshFault
and_then f next r = f r >>= λ p. next p.0 p.1

abbrev pub behind_then : {B : Type 0} → (Rest → Result Rest MeshFault) → (Rest → Result B MeshFault) → Rest → Result B MeshFault
behind_then f next r = f r >>= next

pub some_is : {A : Type 0} {x y : A} → Some x ≡ Some y → x ≡ y
some_is e = cc

-- what is defined otherwise, and fails where this does
lift_fault :
    {A B : Type 0} (f : Rest → Result A MeshFault) (g : Rest → Result B MeshFault) (old new : Option Rest) (fault : MeshFault) →
    ((r : Rest) → f r ≡ Err fault → g r ≡ Err fault) →
    option_map f old ≡ option_map (failed fault) new → option_map g old ≡ option_map (failed fault) new
lift_fault f g None None fault lifts fails = refl
lift_fault f g None (Some s) fault lifts fails = absurd cc
lift_fault f g (Some r) None fault lifts fails = absurd cc
lift_fault f g (Some r) (Some s) fault lifts fails = ap Some (lifts r (some_is fails))

pub fails_lift :
    {A B : Type 0} (f : Rest → Result A MeshFault) (g : Rest → Result B MeshFault) (old new : Option Rest) (fault : MeshFault) →
    ((r : Rest) → f r ≡ Err fault → g r ≡ Err fault) → Fails f old fault new → Fails g old fault new
fails_lift f g old new Read lifts fails = tt
fails_lift f g old new Memory lifts fails = tt
fails_lift f g old new (Text at why) lifts fails = lift_fault f g old new (Text at why) lifts fails
fails_lift f g old new (TooMany what count) lifts fails = lift_fault f g old new (TooMany what count) lifts fails

-- a fault of what is the same
pub fails_same :
    {A : Type 0} (f g : Rest → Result A MeshFault) (old now new : Option Rest) (fault : MeshFault) →
    option_map g now ≡ option_map f old → Fails g now fault new → Fails f old fault new
fails_same f g old now new Read same fails = tt
fails_same f g old now new Memory same fails = tt
fails_same f g old now new (Text at why) same fails = sym same ∙ fails
fails_same f g old now new (TooMany what count) same fails = sym same ∙ fails

pub finds_same :
    {A : Type 0} (f g : Rest → Result (A × Rest) MeshFault) (old now new : Option Rest) (result : Result A MeshFault) →
    option_map g now ≡ option_map f old → Finds g now result new → Finds f old result new
finds_same f g old now new (Ok x) same finds = sym same ∙ finds
finds_same f g old now new (Err fault) same finds = fails_same f g old now new fault same finds

pub passes_same :
    {A : Type 0} (f g : Rest → Result Rest MeshFault) (old now new : Option Rest) (result : Result A MeshFault) →
    option_map g now ≡ option_map f old → Passes g now result new → Passes f old result new
passes_same f g old now new (Ok x) same passes = sym same ∙ passes
passes_same f g old now new (Err fault) same passes = fails_same f g old now new fault same passes

-- what follows a step
pub finds_then :
    {A B : Type 0} (f : Rest → Result (A × Rest) MeshFault) (next : A → Rest → Result B MeshFault) (x : A) (old mid : Option Rest) →
    option_map f old ≡ option_map (found x) mid → option_map (next x) mid ≡ option_map (and_then f next) old
finds_then f next x None None finds = refl
finds_then f next x None (Some s) finds = absurd cc
finds_then f next x (Some r) None finds = absurd cc
finds_then f next x (Some r) (Some s) finds = ap (λ o. Some (o >>= λ p. next p.0 p.1)) (sym (some_is finds))

pub passes_then :
    {B : Type 0} (f : Rest → Result Rest MeshFault) (next : Rest → Result B MeshFault) (old mid : Option Rest) →
    option_map f old ≡ option_map Ok mid → option_map next mid ≡ option_map (behind_then f next) old
passes_then f next None None passes = refl
passes_then f next None (Some s) passes = absurd cc
passes_then f next (Some r) None passes = absurd cc
passes_then f next (Some r) (Some s) passes = ap (λ o. Some (o >>= next)) (sym (some_is passes))

-- a step that stops
pub fails_then :
    {A B : Type 0} (f : Rest → Result (A × Rest) MeshFault) (next : A → Rest → Result B MeshFault) (old new : Option Rest) (fault : MeshFault) →
    Fails f old fault new → Fails (and_then f next) old fault new
fails_then f next old new fault fails = fails_lift f (and_then f next) old new fault (λ r e. ap (λ o. o >>= λ p. next p.0 p.1) e) fails

pub fails_behind :
    {B : Type 0} (f : Rest → Result Rest MeshFault) (next : Rest → Result B MeshFault) (old new : Option Rest) (fault : MeshFault) →
    Fails f old fault new → Fails (behind_then f next) old fault new
fails_behind f next old new fault fails = fails_lift f (behind_then f next) old new fault (λ r e. ap (λ o. o >>= next) e) fails

-- where fewer bytes can't be passed over
pub fails_more :
    (m n : ℕ) (old new : Option Rest) (fault : MeshFault) → m ≤ n → Fails (passed m) old fault new → Fails (passed n) old fault new
fails_more m n old new fault few fails = fails_lift (passed m) (passed n) old new fault (λ r e. passed-more m n r fault few e) fails

-- the fault that a call handed on
pub finds_failed :
    {A : Type 0} (f : Rest → Result (A × Rest) MeshFault) (old new : Option Rest) (result : Result A MeshFault) (fault : MeshFault) →
    IsErrAnd result (λ e. e ≡ fault) → Fails f old fault new → Finds f old result new
finds_failed f old new (Ok x) fault is fails = absurd is
finds_failed f old new (Err e) fault is fails = rw is fails

pub passes_failed :
    {A : Type 0} (f : Rest → Result Rest MeshFault) (old new : Option Rest) (result : Result A MeshFault) (fault : MeshFault) →
    IsErrAnd result (λ e. e ≡ fault) → Fails f old fault new → Passes f old result new
passes_failed f old new (Ok x) fault is fails = absurd is
passes_failed f old new (Err e) fault is fails = rw is fails

-- a value or a fault that takes no bytes
abbrev pub pure : {A : Type 0} → Result A MeshFault → Rest → Result (A × Rest) MeshFault
pure x r = x >>= λ w. Ok (w, r)

pub pure_finds : {A : Type 0} (defined result : Result A MeshFault) (now : Option Rest) → result ≡ defined → IfErr result IsOfText → Finds (pure defined) now result now
pure_finds defined (Ok x) now exact text = rw (← exact) refl
pure_finds defined (Err Read) now exact text = tt
pure_finds defined (Err Memory) now exact text = tt
pure_finds defined (Err (Text at why)) now exact text = rw (← exact) refl
pure_finds defined (Err (TooMany what count)) now exact text = rw (← exact) refl

-- bytes at the front that were taken, and what follows their value
taken_over :
    {A B : Type 0} (size : ℕ) (value : List ℕ → A) (next : A → Rest → Result B MeshFault) (at : ℕ) (ahead : List ℕ) (left : Told) (new : Option Rest) →
    ((rest : List ℕ) → value (ahead ++ rest) ≡ value ahead) → new ≡ option_map (forward size) (option_map (rest_with at ahead) left) →
    IfSome (option_map (rest_with at ahead) left) (λ r. (r.at + size ≤ MOST_MESH_BYTES) × (size ≤ length r.bytes)) →
    option_map (next (value ahead)) new ≡ option_map (λ r. passed size r >>= next (value r.bytes)) (option_map (rest_with at ahead) left)
taken_over size value next at ahead None new front moved limit = ap (option_map (next (value ahead))) moved
taken_over size value next at ahead (Some rest) new front moved limit =
    ap (option_map (next (value ahead))) moved
    ∙ ap (λ v. Some (next v (forward size (rest_with at ahead rest)))) (sym (front rest))
    ∙ ap (λ o. Some (o >>= next (value (ahead ++ rest)))) (sym (passed-on size (rest_with at ahead rest) limit.1 limit.0))

pub taken_then :
    {S A B : Type 0} (told : S → Told) (f : Feed S) (size : ℕ) (value : List ℕ → A) (next : A → Rest → Result B MeshFault) (new : Option Rest) →
    ((rest : List ℕ) → value (f.ahead ++ rest) ≡ value f.ahead) → new ≡ option_map (forward size) (rest_left told f) →
    IfSome (rest_left told f) (λ r. (r.at + size ≤ MOST_MESH_BYTES) × (size ≤ length r.bytes)) →
    option_map (next (value f.ahead)) new ≡ option_map (λ r. passed size r >>= next (value r.bytes)) (rest_left told f)
taken_then told f size value next new front moved limit = taken_over size value next (f.stream.at - length f.ahead) f.ahead (left_of told f.stream) new front moved limit

-- the numbers at the front, whatever stands behind them
bits_of-front : (order : ByteOrder) (size : ℕ) (xs ys : List ℕ) → size ≤ length xs → bits_of order size (xs ++ ys) ≡ bits_of order size xs
bits_of-front Little size xs ys there = little_from-append size xs ys there
bits_of-front Big size xs ys there = big_from-append size xs ys there

pub number_of-front : (order : ByteOrder) (number : ScalarType) (xs ys : List ℕ) → size_of number ≤ length xs → number_of order number (xs ++ ys) ≡ number_of order number xs
number_of-front order I8 xs ys there = ap (twos_complement 1) (bits_of-front order 1 xs ys there)
number_of-front order U8 xs ys there = ap pos (bits_of-front order 1 xs ys there)
number_of-front order I16 xs ys there = ap (twos_complement 2) (bits_of-front order 2 xs ys there)
number_of-front order U16 xs ys there = ap pos (bits_of-front order 2 xs ys there)
number_of-front order I32 xs ys there = ap (twos_complement 4) (bits_of-front order 4 xs ys there)
number_of-front order U32 xs ys there = ap pos (bits_of-front order 4 xs ys there)
number_of-front order F32 xs ys there = refl
number_of-front order F64 xs ys there = refl

index_at-front : (rec : Record) (item : ScalarType) (n : ℕ) (xs ys : List ℕ) → n + size_of item ≤ length xs → index_at rec item (drop n (xs ++ ys)) ≡ index_at rec item (drop n xs)
index_at-front rec item n xs ys there =
    let size = length-drop n xs in
    ap (λ (bytes : List ℕ). index_at rec item bytes) (drop-append-le n xs ys (omega arith))
    ∙ ap (name_of rec.vertices) (number_of-front rec.order item (drop n xs) ys (omega (arith, size)))

pub triangle_at-front : (rec : Record) (item : ScalarType) (xs ys : List ℕ) → 3 * size_of item ≤ length xs → triangle_at rec item (xs ++ ys) ≡ triangle_at rec item xs
triangle_at-front rec item xs ys there =
    ap (λ i. triangle_of rec.at rec.number i (index_at rec item (drop (size_of item) (xs ++ ys))) (index_at rec item (drop (2 * size_of item) (xs ++ ys)))) (index_at-front rec item 0 xs ys (omega arith))
    ∙ ap (λ j. triangle_of rec.at rec.number (index_at rec item xs) j (index_at rec item (drop (2 * size_of item) (xs ++ ys)))) (index_at-front rec item (size_of item) xs ys (omega arith))
    ∙ ap (triangle_of rec.at rec.number (index_at rec item xs) (index_at rec item (drop (size_of item) xs))) (index_at-front rec item (2 * size_of item) xs ys (omega arith))
