-- What is left behind a part of a mesh that was read.
use Rattle.std.proofs.Common.{◌≡◌, ℕ, ◌+◌, ◌<◌, ◌≤◌, true, false, List, [], ◌∷◌, length, Option, Some, None, Result, Ok, Err, IsErrAnd, refl, ap, sym, eq-eqb, ne_eqb, lt-ltb, le-ltb, ◌==◌, arith}
use Rattle.std.specs.Option.{option_map}
use Rattle.std.specs.Prelude.{slice_get}
use Rattle.mesh_items.specs.declared.items.Item.{Item}
use Rattle.mesh_items.specs.declared.items.Item.TheVariants.{Counts, Vertex, Face}
use Rattle.mesh_items.specs.declared.items.MeshFault.{MeshFault}
use Rattle.mesh_items.specs.declared.items.MeshFault.TheVariants.{Text}
use Rattle.mesh_items.specs.declared.items.MeshWhy.TheVariants.{Head}
use Rattle.mesh_items.specs.Reading.{Reading, Gives, IsComplete, fault_alone, nothing_more}
use Rattle.oemm_lines.specs.declared.parts.Line.{Line}
use Rattle.oemm_lines.specs.Stream.{texts_of}
use Rattle.mesh_items.specs.Results.{IsOfText}
use Rattle.mesh_items.specs.Progress.{MayFollow, given_by}
use Rattle.off_reader.specs.declared.progress.Progress.{Progress}
use Rattle.off_reader.specs.Grammar.{Filled, is_head, mesh_of, mesh_reading, from_head, from_counts, counts_of, body_of, item_of}
use Rattle.off_reader.specs.Reader.{Pops, rest_of, stepped_reading, led_by, ended_by, counts_at, counts_before, body_at, item_before}

-- no line is left where one is wanted
pub mesh_ended : (fault : MeshFault) (old new : Option Filled) → old ≡ option_map (λ f. ended_by fault) new → option_map mesh_reading old ≡ option_map (λ f. fault_alone fault) new
unfolding mesh_of
mesh_ended fault old None ends = rw ends refl
mesh_ended fault old (Some f) ends = rw ends refl

pub counts_ended : (fault : MeshFault) (old new : Option Filled) → old ≡ option_map (λ f. ended_by fault) new → option_map counts_at old ≡ option_map (λ f. fault_alone fault) new
unfolding from_counts
counts_ended fault old None ends = rw ends refl
counts_ended fault old (Some f) ends = rw ends refl

-- the first word is another
pub head_refused : (l : Line) (old new : Option Filled) → is_head (slice_get (texts_of l) 0) ≡ false → old ≡ option_map (led_by l) new → option_map mesh_reading old ≡ option_map (λ f. fault_alone (Text l.at Head)) new
unfolding mesh_of
head_refused l old None other led = rw led refl
head_refused l old (Some f) other led = rw led (rw other refl)

-- the counts stand on the line of the first word
head_counts : (l : Line) (counts : ℕ × ℕ) (old new : Option Filled) → is_head (slice_get (texts_of l) 0) ≡ true → 1 < length l.words → counts_of 1 l ≡ Ok counts → old ≡ option_map (led_by l) new → option_map mesh_reading old ≡ option_map (counts_before counts) new
unfolding mesh_of from_head
head_counts l counts old None head more is led = rw led refl
head_counts l counts old (Some f) head more is led = rw led (rw (head, lt-ltb 1 (length l.words) more, is) refl)

head_counts_refused : (l : Line) (fault : MeshFault) (old new : Option Filled) → is_head (slice_get (texts_of l) 0) ≡ true → 1 < length l.words → counts_of 1 l ≡ Err fault → old ≡ option_map (led_by l) new → option_map mesh_reading old ≡ option_map (λ f. fault_alone fault) new
unfolding mesh_of from_head
head_counts_refused l fault old None head more is led = rw led refl
head_counts_refused l fault old (Some f) head more is led = rw led (rw (head, lt-ltb 1 (length l.words) more, is) refl)

-- or on the next line with words
pub head_alone : (l : Line) (old new : Option Filled) → is_head (slice_get (texts_of l) 0) ≡ true → length l.words ≤ 1 → old ≡ option_map (led_by l) new → option_map mesh_reading old ≡ option_map counts_at new
unfolding mesh_of from_head
head_alone l old None head alone led = rw led refl
head_alone l old (Some f) head alone led = rw led (rw (head, le-ltb 1 (length l.words) alone) refl)

counts_read : (l : Line) (counts : ℕ × ℕ) (old new : Option Filled) → counts_of 0 l ≡ Ok counts → old ≡ option_map (led_by l) new → option_map counts_at old ≡ option_map (counts_before counts) new
unfolding from_counts
counts_read l counts old None is led = rw led refl
counts_read l counts old (Some f) is led = rw led (rw is refl)

counts_refused : (l : Line) (fault : MeshFault) (old new : Option Filled) → counts_of 0 l ≡ Err fault → old ≡ option_map (led_by l) new → option_map counts_at old ≡ option_map (λ f. fault_alone fault) new
unfolding from_counts
counts_refused l fault old None is led = rw led refl
counts_refused l fault old (Some f) is led = rw led (rw is refl)

-- fewer vertices and faces were read than there are
pub below_is_other : (n m : ℕ) → n < m → (n == m) ≡ false
below_is_other n m below = ne_eqb n m (λ same. omega arith)

pub body_ended : (v f done : ℕ) (fault : MeshFault) (old new : Option Filled) → done < v + f → old ≡ option_map (λ f. ended_by fault) new → option_map (body_at v f done) old ≡ option_map (λ f. fault_alone fault) new
unfolding body_of
body_ended v f done fault old None below ends = rw ends refl
body_ended v f done fault old (Some left) below ends = rw ends (rw (below_is_other done (v + f) below) refl)

item_read : (v f done : ℕ) (l : Line) (item : Item) (old new : Option Filled) → done < v + f → item_of v done l ≡ Ok item → old ≡ option_map (led_by l) new → option_map (body_at v f done) old ≡ option_map (item_before v f done item) new
unfolding body_of
item_read v f done l item old None below is led = rw led refl
item_read v f done l item old (Some left) below is led = rw led (rw (below_is_other done (v + f) below, is) refl)

item_refused : (v f done : ℕ) (l : Line) (fault : MeshFault) (old new : Option Filled) → done < v + f → item_of v done l ≡ Err fault → old ≡ option_map (led_by l) new → option_map (body_at v f done) old ≡ option_map (λ f. fault_alone fault) new
unfolding body_of
item_refused v f done l fault old None below is led = rw led refl
item_refused v f done l fault old (Some left) below is led = rw led (rw (below_is_other done (v + f) below, is) refl)

-- what a function returned that read its part from one line
pub item_pops : (v f done : ℕ) (l : Line) (r : Result Item MeshFault) (old new : Option Filled) → done < v + f → r ≡ item_of v done l → old ≡ option_map (led_by l) new → Pops (item_before v f done) fault_alone (option_map (body_at v f done) old) r new
item_pops v f done l (Ok item) old new below is led = item_read v f done l item old new below (sym is) led
item_pops v f done l (Err fault) old new below is led = λ text. item_refused v f done l fault old new below (sym is) led

pub counts_pops : (l : Line) (r : Result (ℕ × ℕ) MeshFault) (old new : Option Filled) → r ≡ counts_of 0 l → old ≡ option_map (led_by l) new → Pops counts_before fault_alone (option_map counts_at old) r new
counts_pops l (Ok counts) old new is led = counts_read l counts old new (sym is) led
counts_pops l (Err fault) old new is led = λ text. counts_refused l fault old new (sym is) led

pub head_pops : (l : Line) (r : Result (ℕ × ℕ) MeshFault) (old new : Option Filled) → is_head (slice_get (texts_of l) 0) ≡ true → 1 < length l.words → r ≡ counts_of 1 l → old ≡ option_map (led_by l) new → Pops counts_before fault_alone (option_map mesh_reading old) r new
head_pops l (Ok counts) old new head more is led = head_counts l counts old new head more (sym is) led
head_pops l (Err fault) old new head more is led = λ text. head_counts_refused l fault old new head more (sym is) led

-- the fault that stands where a line is wanted is answered
pub ended_pops : {X : Type 0} (whole : X → Filled → Reading) (read : Filled → Reading) (fault : MeshFault) (r : Result X MeshFault) (old new : Option Filled) → IsErrAnd r (λ e. e ≡ fault) → (IsOfText fault → option_map read old ≡ option_map (λ f. fault_alone fault) new) → Pops whole fault_alone (option_map read old) r new
ended_pops whole read fault (Ok x) old new is ends = absurd is
ended_pops whole read fault (Err e) old new is ends = λ text. rw is (ends (rw is at text))

-- all vertices and faces were read
pub nothing_behind : (v f done : ℕ) (end : MeshFault) (ls : List Line) → done ≡ v + f → body_of v f done end ls ≡ nothing_more
unfolding body_of
nothing_behind v f done end [] all = rw (eq-eqb done (v + f) all) refl
nothing_behind v f done end (l ∷ ls) all = rw (eq-eqb done (v + f) all) refl

pub rest_done : (p : Progress) (v f : ℕ) (left : Option Filled) → p.counts ≡ Some (v, f) → p.done ≡ v + f → option_map (rest_of p) left ≡ option_map (stepped_reading None) left
rest_done p v f None is all = refl
rest_done p v f (Some left) is all = rw is (ap Some (nothing_behind v f p.done left.end left.lines all))

-- an item that may follow is given
pub given_more : (v f done : ℕ) (item : Item) → done < v + f → MayFollow v done item → Gives (given_by (Some (v, f)) done None) item (given_by (Some (v, f)) (done + 1) None)
given_more v f done (Counts m n) below may = absurd may
given_more v f done (Vertex p) below may = (v, f, refl, (omega arith, grind arith))
given_more v f done (Face t) below may = (v, f, refl, (omega arith, omega arith, may.1, may.2, grind arith))

-- all was given that was counted
pub given_all : (v f done : ℕ) → done ≡ v + f → IsComplete (given_by (Some (v, f)) done None)
given_all v f done all = (v, f, refl, (omega arith, omega arith))

-- and only then
some_value : (x y : ℕ × ℕ) → ◌≡◌ {A = Option (ℕ × ℕ)} (Some x) (Some y) → x ≡ y
some_value x y same = cc

pub complete_done : (v f done : ℕ) → IsComplete (given_by (Some (v, f)) done None) → done ≤ v + f → done ≡ v + f
complete_done v f done (m, n, counts, (vertices, faces)) most =
    let pair = some_value (v, f) (m, n) counts in
    let first : v ≡ m = ap (λ (p : ℕ × ℕ). p.0) pair in
    let second : f ≡ n = ap (λ (p : ℕ × ℕ). p.1) pair in
    omega arith
