-- Records that are passed over.
use Rattle.std.proofs.Common.{◌≡◌, ℕ, zero, suc, ◌+◌, ◌-◌, ◌*◌, ◌<◌, ◌≤◌, min, Bool, true, false, List, [], ◌∷◌, length, get_or, drop, drop-cons, Option, Some, None, Result, Ok, Err, refl, ap, sym, ◌∙◌, add-one, arith}
use Rattle.std.specs.Option.{option_map}
use Rattle.std.proofs.lemmas.List.{drop_all}
use Rattle.std.proofs.Math.Nat.{suc-mul}
use Rattle.std.proofs.lemmas.Bool.Decides.{nat_tests}
use Rattle.oemm_limits.specs.declared.TheConstants.{MOST_MESH_BYTES}
use Rattle.fault_counts.specs.Told.{Told}
use Rattle.mesh_items.specs.declared.items.MeshFault.{MeshFault}
use Rattle.oemm_lines.specs.Stream.{left_of}
use Rattle.mesh_items.specs.Results.{◌>>=◌}
use Rattle.ply_header.specs.declared.layout.ByteOrder.{ByteOrder}
use Rattle.ply_header.specs.declared.layout.ScalarType.{ScalarType}
use Rattle.ply_header.specs.declared.layout.ScalarType.TheVariants.{I8, U8, I16, U16, I32, U32, F32, F64}
use Rattle.ply_header.specs.declared.layout.Property.{Property}
use Rattle.ply_header.specs.declared.layout.Property.TheVariants.{Coordinate, Corners, Single, Many}
use Rattle.ply_header.specs.declared.layout.Element.{Element}
use Rattle.ply_reader.specs.declared.values.Values.{Values}
use Rattle.ply_reader.specs.declared.values.Record.{Record}
use Rattle.ply_header.specs.Layout.{size_of}
use Rattle.ply_reader.specs.Body.{Rest, forward, passed, no_values, property_in, properties_in, foreign_record, record_passed, records_passed, elements_passed}
use Rattle.ply_reader.specs.Feed.{Feed, rest_with, rest_left, found, Fails, IsOpen, fixed_from}
use Rattle.ply_reader.proofs.FeedLaws.{passed-more, passed-capped, passed-split, passed-none, chosen, passed-chosen}
use Rattle.ply_reader.proofs.StepLaws.{behind_then, passes_then, fails_behind, some_is}

pub from_place : {A : Type 0} (xs : List A) (i : ℕ) (d : A) → i < length xs → drop i xs ≡ get_or xs i d ∷ drop (i + 1) xs
from_place xs i d below = drop-cons xs i d below ∙ ap (λ n. get_or xs i d ∷ drop n xs) (sym (add-one i))

-- a number has at most eight bytes
pub size_below : (number : ScalarType) → size_of number ≤ 8
size_below I8 = omega arith
size_below U8 = omega arith
size_below I16 = omega arith
size_below U16 = omega arith
size_below I32 = omega arith
size_below U32 = omega arith
size_below F32 = omega arith
size_below F64 = omega arith

-- a property that isn't a number has no fixed size, nor have properties among which it is
pub fixed_not : (p : Property) → ((number : ScalarType) → p ≡ Single number → ⊥) → fixed_from 0 (p ∷ []) ≡ None
unfolding fixed_from
fixed_not (Single number) other = absurd (other number refl)
fixed_not (Coordinate axis number) other = refl
fixed_not (Corners count item) other = refl
fixed_not (Many count item) other = refl

fixed_none : (p : Property) (ps : List Property) (n : ℕ) → fixed_from 0 (p ∷ []) ≡ None → fixed_from n (p ∷ ps) ≡ None
unfolding fixed_from
fixed_none (Single number) ps n stops = absurd cc
fixed_none (Coordinate axis number) ps n stops = refl
fixed_none (Corners count item) ps n stops = refl
fixed_none (Many count item) ps n stops = refl

-- the size of properties, one behind another
pub fixed_next : (ps : List Property) (i n : ℕ) (d : Property) (number : ScalarType) → i < length ps → get_or ps i d ≡ Single number → fixed_from (n + size_of number) (drop (i + 1) ps) ≡ fixed_from n (drop i ps)
unfolding fixed_from
fixed_next ps i n d number below is =
    sym (ap (fixed_from n) (from_place ps i d below ∙ ap (λ p. p ∷ drop (i + 1) ps) is))

pub fixed_stops : (ps : List Property) (i n : ℕ) (d : Property) → i < length ps → fixed_from 0 (get_or ps i d ∷ []) ≡ None → fixed_from n (drop i ps) ≡ None
fixed_stops ps i n d below stops = ap (fixed_from n) (from_place ps i d below) ∙ fixed_none (get_or ps i d) (drop (i + 1) ps) n stops

pub fixed_done : (ps : List Property) (i n : ℕ) → length ps ≤ i → fixed_from n (drop i ps) ≡ Some n
unfolding fixed_from
fixed_done ps i n all = ap (fixed_from n) (drop_all i ps all)

-- records, one behind another
pub records_next :
    (o : ByteOrder) (ps : List Property) (n m : ℕ) (old mid : Option Rest) → n ≡ m + 1 → option_map (record_passed o ps) old ≡ option_map Ok mid →
    option_map (records_passed o ps m) mid ≡ option_map (records_passed o ps n) old
unfolding records_passed
records_next o ps n m old mid more passes =
    passes_then (record_passed o ps) (records_passed o ps m) old mid passes
    ∙ ap (λ k. option_map (records_passed o ps k) old) (sym (more ∙ add-one m))

pub records_stop :
    (o : ByteOrder) (ps : List Property) (n m : ℕ) (old new : Option Rest) (fault : MeshFault) → n ≡ m + 1 → Fails (record_passed o ps) old fault new →
    Fails (records_passed o ps n) old fault new
unfolding records_passed
records_stop o ps n m old new fault more fails =
    rw (more ∙ add-one m) (fails_behind (record_passed o ps) (records_passed o ps m) old new fault fails)

pub records_done : (o : ByteOrder) (ps : List Property) (n : ℕ) (old : Option Rest) → n ≡ 0 → option_map (records_passed o ps n) old ≡ option_map Ok old
unfolding records_passed
records_done o ps n old none = ap (λ k. option_map (records_passed o ps k) old) none

-- elements, one behind another
elements_cons : (o : ByteOrder) (e : Element) (es : List Element) (old : Option Rest) → option_map (behind_then (records_passed o e.properties e.count) (elements_passed o es)) old ≡ option_map (elements_passed o (e ∷ es)) old
unfolding elements_passed
elements_cons o e es old = refl

pub elements_next :
    (o : ByteOrder) (es : List Element) (i : ℕ) (d : Element) (old mid : Option Rest) → i < length es →
    option_map (records_passed o (get_or es i d).properties (get_or es i d).count) old ≡ option_map Ok mid →
    option_map (elements_passed o (drop (i + 1) es)) mid ≡ option_map (elements_passed o (drop i es)) old
elements_next o es i d old mid below passes =
    passes_then (records_passed o (get_or es i d).properties (get_or es i d).count) (elements_passed o (drop (i + 1) es)) old mid passes
    ∙ elements_cons o (get_or es i d) (drop (i + 1) es) old
    ∙ ap (λ fs. option_map (elements_passed o fs) old) (sym (from_place es i d below))

elements_fail : (o : ByteOrder) (e : Element) (es : List Element) (old new : Option Rest) (fault : MeshFault) → Fails (behind_then (records_passed o e.properties e.count) (elements_passed o es)) old fault new → Fails (elements_passed o (e ∷ es)) old fault new
unfolding elements_passed
elements_fail o e es old new fault fails = fails

pub elements_stop :
    (o : ByteOrder) (es : List Element) (i : ℕ) (d : Element) (old new : Option Rest) (fault : MeshFault) → i < length es →
    Fails (records_passed o (get_or es i d).properties (get_or es i d).count) old fault new →
    Fails (elements_passed o (drop i es)) old fault new
elements_stop o es i d old new fault below fails =
    rw (from_place es i d below)
    (elements_fail o (get_or es i d) (drop (i + 1) es) old new fault (fails_behind (records_passed o (get_or es i d).properties (get_or es i d).count) (elements_passed o (drop (i + 1) es)) old new fault fails))

pub elements_done : (o : ByteOrder) (es : List Element) (i : ℕ) (old : Option Rest) → length es ≤ i → option_map (elements_passed o (drop i es)) old ≡ option_map Ok old
unfolding elements_passed
elements_done o es i old all = ap (λ fs. option_map (elements_passed o fs) old) (drop_all i es all)

-- what is left behind bytes that could be passed over
pub record IsPassed (n : ℕ) (r s : Rest) : Type 0 where
  pub is : s ≡ forward n r
  pub there : n ≤ length r.bytes
  pub limit : r.at + n ≤ MOST_MESH_BYTES

record IsChosen (over cut : Bool) (r s : Rest) : Type 0 where
  within : over ≡ false
  whole : cut ≡ false
  is : s ≡ r

chosen_is : (over cut : Bool) (end : ℕ) (r s : Rest) → chosen over cut end r ≡ Ok s → IsChosen over cut r s
chosen_is true cut end r s e = absurd cc
chosen_is false true end r s e = absurd cc
chosen_is false false end r s e = record { within = refl; whole = refl; is = cc }

pub passed_is : (n : ℕ) (r s : Rest) → passed n r ≡ Ok s → IsPassed n r s
passed_is n r s passes =
    let c = chosen_is _ _ (r.at + length r.bytes) (forward n r) s (sym (passed-chosen n r) ∙ passes) in
    let limit = c.within in
    let there = c.whole in
    record { is = c.is; there = grind (arith, nat_tests, there); limit = grind (arith, nat_tests, limit, there) }

-- a number, and the properties behind it
single_step :
    (size total : ℕ) (v : Values) (r : Rest) (next : Values → Rest → Result (Values × Rest) MeshFault) (o : Result Rest MeshFault) → passed size r ≡ o → size ≤ total →
    ((s : Rest) → s.at ≤ MOST_MESH_BYTES → next v s ≡ (passed (total - size) s >>= found v)) →
    ((o >>= found v) >>= λ w. next w.0 w.1) ≡ (passed total r >>= found v)
single_step size total v r next (Err e) is fits same = ap (λ p. p >>= found v) (sym (passed-more size total r e fits is))
single_step size total v r next (Ok s) is fits same =
    let done = passed_is size r s is in
    let at = ap (λ (t : Rest). t.at) done.is in
    let limit = done.limit in
    same s (omega (arith, at, limit))
    ∙ ap (λ t. passed (total - size) t >>= found v) done.is
    ∙ ap (λ p. p >>= found v) (passed-split size total r fits done.there)

-- properties of which each is a number
record IsFixed (ps : List Property) (k m : ℕ) : Type 0 where
  fits : k ≤ m
  same : (rec : Record) (v : Values) (r : Rest) → r.at ≤ MOST_MESH_BYTES → properties_in rec ps v r ≡ (passed (m - k) r >>= found v)

fixed_is : (ps : List Property) (k m : ℕ) → fixed_from k ps ≡ Some m → IsFixed ps k m
unfolding fixed_from properties_in property_in
fixed_is [] k m is =
    let same : k ≡ m = some_is is in
    record {
      fits = omega arith;
      same = λ rec v r limit. ap (λ p. p >>= found v) (sym (passed-none r limit)) ∙ ap (λ n. passed n r >>= found v) (let e : 0 ≡ m - k = omega arith in e);
    }
fixed_is (Single number ∷ ps) k m is =
    let more = fixed_is ps (k + size_of number) m is in
    let fits = more.fits in
    record {
      fits = omega (arith, fits);
      same = λ rec v r limit. single_step (size_of number) (m - k) v r (properties_in rec ps) (passed (size_of number) r) refl (omega (arith, fits))
          (λ s there. more.same rec v s there ∙ ap (λ n. passed n s >>= found v) (let e : m - (k + size_of number) ≡ m - k - size_of number = omega arith in e));
    }
fixed_is (Coordinate axis number ∷ ps) k m is = absurd cc
fixed_is (Corners count item ∷ ps) k m is = absurd cc
fixed_is (Many count item ∷ ps) k m is = absurd cc

records_step :
    (size total : ℕ) (r : Rest) (next : Rest → Result Rest MeshFault) (o : Result Rest MeshFault) → passed size r ≡ o → size ≤ total →
    ((s : Rest) → s.at ≤ MOST_MESH_BYTES → next s ≡ passed (total - size) s) →
    (((o >>= found no_values) >>= λ w. Ok w.1) >>= next) ≡ passed total r
records_step size total r next (Err e) is fits same = sym (passed-more size total r e fits is)
records_step size total r next (Ok s) is fits same =
    let done = passed_is size r s is in
    let at = ap (λ (t : Rest). t.at) done.is in
    let limit = done.limit in
    same s (omega (arith, at, limit)) ∙ ap (passed (total - size)) done.is ∙ passed-split size total r fits done.there

records_fixed : (o : ByteOrder) (ps : List Property) (size n : ℕ) (r : Rest) → IsFixed ps 0 size → r.at ≤ MOST_MESH_BYTES → records_passed o ps n r ≡ passed (n * size) r
unfolding records_passed record_passed
records_fixed o ps size zero r fixed limit = sym (passed-none r limit) ∙ ap (λ n. passed n r) (let e : 0 ≡ 0 * size = omega arith in e)
records_fixed o ps size (suc n) r fixed limit =
    let total : suc n * size ≡ n * size + size = suc-mul n size in
    ap (λ p. (p >>= λ w. Ok w.1) >>= records_passed o ps n) (fixed.same (foreign_record o r.at) no_values r limit ∙ ap (λ m. passed m r >>= found no_values) (let e : size - 0 ≡ size = omega arith in e))
    ∙ records_step size (suc n * size) r (records_passed o ps n) (passed size r) refl (omega (arith, total))
    (λ s there. records_fixed o ps size n s fixed there ∙ ap (λ m. passed m s) (let e : n * size ≡ suc n * size - size = omega (arith, total) in e))

pub fixed_records : (o : ByteOrder) (ps : List Property) (size n : ℕ) (r : Rest) → fixed_from 0 ps ≡ Some size → r.at ≤ MOST_MESH_BYTES → records_passed o ps n r ≡ passed (n * size) r
fixed_records o ps size n r is limit = records_fixed o ps size n r (fixed_is ps 0 size is) limit

-- so many records at once, where no more bytes are counted than a number past the limit
fixed_over :
    (o : ByteOrder) (ps : List Property) (size n most at : ℕ) (ahead : List ℕ) (left : Told) → IsFixed ps 0 size → MOST_MESH_BYTES < most → at ≤ MOST_MESH_BYTES →
    option_map (passed (min (n * size) most)) (option_map (rest_with (at - length ahead) ahead) left) ≡ option_map (records_passed o ps n) (option_map (rest_with (at - length ahead) ahead) left)
fixed_over o ps size n most at ahead None fixed beyond limit = refl
fixed_over o ps size n most at ahead (Some rest) fixed beyond limit =
    let r = rest_with (at - length ahead) ahead rest in
    ap Some (passed-capped (n * size) most r beyond ∙ sym (records_fixed o ps size n r fixed (omega arith)))

pub fixed_passes :
    {S : Type 0} (told : S → Told) (f : Feed S) (o : ByteOrder) (ps : List Property) (size n most : ℕ) → fixed_from 0 ps ≡ Some size → MOST_MESH_BYTES < most → IsOpen f →
    option_map (passed (min (n * size) most)) (rest_left told f) ≡ option_map (records_passed o ps n) (rest_left told f)
fixed_passes told f o ps size n most is beyond open_still = fixed_over o ps size n most f.stream.at f.ahead (left_of told f.stream) (fixed_is ps 0 size is) beyond open_still.1
