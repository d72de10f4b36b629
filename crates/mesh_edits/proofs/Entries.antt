-- Vertices in an ordered map, as the list of them.
use Rattle.std.proofs.Common.{◌≡◌, ℕ, ◌+◌, ◌<◌, true, false, cond, ◌||◌, eqb, List, [], ◌∷◌, ◌++◌, append_assoc, length, map, take, drop, get_or, take-append-drop, Some, sym, ap, ◌∙◌, refl, subst}
use Rattle.std.proofs.lemmas.List.{take_more}
use Rattle.std.proofs.lemmas.Map.Keys.{sorted_from_strictly_increasing, sorted_head, sorted_tail}
use Rattle.std.specs.BTreeMap.{insert_entry, is_at}
use Rattle.std.specs.Cmp.{nat_cmp_total, unsigned_tied}
use Rattle.std.specs.List.{AllByRecursion, find}
use Rattle.std.specs.List.Sorted.{IsStrictlyIncreasing, IsStrictlySortedBy}
use Rattle.std.specs.Map.{keys_of, lookup, values_of}
use Rattle.std.specs.Option.{is_some}
use Rattle.std.specs.Ordering.{match_ordering, nat_cmp, ordering_reverse}
use Rattle.std.specs.declared.cmp.Ordering.{Ordering}
use Rattle.std.specs.declared.cmp.Ordering.TheVariants.{Less, Greater}
use Rattle.sheet_data.specs.Summed.{SummedVertex}
use Rattle.mesh_sheets.specs.Assembled.{has_name}
use Rattle.mesh_edits.specs.Keyed.{IsKeyed}

abbrev pub Entries : Type 0
Entries = List (ℕ × SummedVertex)

abbrev pub Vertices : Type 0
Vertices = List SummedVertex

abbrev pub name : SummedVertex → ℕ
name x = x.name

-- each vertex stands at its name
abbrev pub AreNamed : Entries → Type 0
AreNamed es = AllByRecursion (λ e. e.0 ≡ e.1.name) es

-- whether a query finds a name
pub at_name : (v k : ℕ) → is_at (nat_cmp v) k ≡ eqb v k
at_name v k = unsigned_tied v k

-- the names are the keys
pub keys_are : (es : Entries) → AreNamed es → keys_of es ≡ map name (values_of es)
keys_are [] named = refl
keys_are (e ∷ es) named = λ i. named.0 i ∷ keys_are es named.1 i

-- what is found by a look-up
pub found : (v : ℕ) (es : Entries) → AreNamed es → lookup (is_at (nat_cmp v)) es ≡ find (λ (x : SummedVertex). eqb v x.name) (values_of es)
found v [] named = refl
found v (e ∷ es) named = λ i. cond ((at_name v e.0 ∙ ap (eqb v) named.0) i) (Some e.1) (found v es named.1 i)

-- some vertex of a name
pub some_found : (v : ℕ) (vs : Vertices) → is_some (find (λ (x : SummedVertex). eqb v x.name) vs) ≡ has_name vs v
some_found v [] = refl
some_found v (x ∷ vs) = elim (eqb v x.name) as (λ b. is_some (cond b (Some x) (find (λ (x : SummedVertex). eqb v x.name) vs)) ≡ (b || has_name vs v)) [ true ↦ refl | false ↦ some_found v vs ]

-- ---- entries one after another

abbrev pub keyed : SummedVertex → ℕ × SummedVertex
keyed x = (x.name, x)

pub keyed_named : (vs : Vertices) → AreNamed (map keyed vs)
keyed_named [] = tt
keyed_named (x ∷ vs) = (refl, keyed_named vs)

pub keyed_values : (vs : Vertices) → values_of (map keyed vs) ≡ vs
keyed_values [] = refl
keyed_values (x ∷ vs) = ap (λ (ys : Vertices). x ∷ ys) (keyed_values vs)

pub keyed_keys : (vs : Vertices) → keys_of (map keyed vs) ≡ map name vs
keyed_keys [] = refl
keyed_keys (x ∷ vs) = ap (λ (ns : List ℕ). x.name ∷ ns) (keyed_keys vs)

pub keyed_is : (vs : Vertices) → IsStrictlyIncreasing (map name vs) → IsKeyed (map keyed vs)
keyed_is vs up = record {
  named = keyed_named vs;
  ordered = subst (IsStrictlySortedBy nat_cmp) (sym (keyed_keys vs)) (sorted_from_strictly_increasing (map name vs) up);
}

all_at : (P : ℕ → Type 0) (ys : Vertices) (x : SummedVertex) (bs : Vertices) → AllByRecursion P (map name (ys ++ x ∷ bs)) → P x.name
all_at P [] x bs all = all.0
all_at P (a ∷ ys) x bs all = all_at P ys x bs all.1

greater_of : (m n : ℕ) → nat_cmp m n ≡ Less → nat_cmp n m ≡ Greater
greater_of m n less = nat_cmp_total.antisymm n m ∙ ap ordering_reverse less

-- a vertex above those before it goes to the end
pub appended : (ys : Vertices) (x : SummedVertex) (bs : Vertices) → IsStrictlySortedBy nat_cmp (map name (ys ++ x ∷ bs))
    → insert_entry nat_cmp (map keyed ys) x.name x ≡ map keyed (ys ++ x ∷ [])
appended [] x bs up = refl
appended (a ∷ ys) x bs up =
    let less = all_at (λ n. nat_cmp a.name n ≡ Less) ys x bs (sorted_head nat_cmp a.name (map name (ys ++ x ∷ bs)) up) in
    let es = map keyed (a ∷ ys) in
    ap (λ (o : Ordering). match_ordering o ((x.name, x) ∷ es) ((a.name, x) ∷ map keyed ys) (keyed a ∷ insert_entry nat_cmp (map keyed ys) x.name x)) (greater_of a.name x.name less)
    ∙ ap (λ (fs : Entries). keyed a ∷ fs) (appended ys x bs (sorted_tail nat_cmp a.name (map name (ys ++ x ∷ bs)) up))

-- the next vertex of a list goes behind those before it
pub one_more : (vs : Vertices) (i : ℕ) (x : SummedVertex) → IsStrictlyIncreasing (map name vs) → i < length vs → x ≡ get_or vs i x
    → insert_entry nat_cmp (map keyed (take i vs)) x.name x ≡ map keyed (take (i + 1) vs)
one_more vs i x up lt is =
    let more : take (i + 1) vs ≡ take i vs ++ x ∷ [] = take_more vs i x lt ∙ ap (λ (y : SummedVertex). take i vs ++ y ∷ []) (sym is) in
    let whole : (take i vs ++ x ∷ []) ++ drop (i + 1) vs ≡ vs = ap (λ (ys : Vertices). ys ++ drop (i + 1) vs) (sym more) ∙ take-append-drop (i + 1) vs in
    let split : take i vs ++ x ∷ drop (i + 1) vs ≡ vs = sym (append_assoc (take i vs) (x ∷ []) (drop (i + 1) vs)) ∙ whole in
    appended (take i vs) x (drop (i + 1) vs) (subst (λ (ys : Vertices). IsStrictlySortedBy nat_cmp (map name ys)) (sym split) (sorted_from_strictly_increasing (map name vs) up)) ∙ ap (map keyed) (sym more)
