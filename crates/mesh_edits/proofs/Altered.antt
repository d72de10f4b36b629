-- Vertices in an ordered map, of which one is changed or taken away.
use Rattle.std.proofs.Common.{◌≡◌, ℕ, Bool, true, false, cond, not, eqb, [], ◌∷◌, map, None, Some, sym, ap, ◌∙◌, refl, subst}
use Rattle.std.proofs.lemmas.Bool.{eqb-true}
use Rattle.std.proofs.lemmas.Map.Keys.{sorted_head, sorted_tail}
use Rattle.std.specs.BTreeMap.{is_at}
use Rattle.std.specs.List.{AllByRecursion, filter}
use Rattle.std.specs.List.Sorted.{IsStrictlySortedBy}
use Rattle.std.specs.Map.{keys_of, lookup, remove_entry, set_value, values_of}
use Rattle.std.specs.Ordering.{is_eq, nat_cmp}
use Rattle.std.specs.declared.cmp.Ordering.TheVariants.{Less}
use Rattle.sheet_data.specs.Summed.{SummedVertex}
use Rattle.triangle_lists.proofs.Paths.{eqb_comm}
use Rattle.mesh_edits.specs.Keyed.{IsKeyed}
use Rattle.mesh_edits.proofs.Entries.{AreNamed, Entries, Vertices, at_name}

-- a vertex where its name is v, and else what the change leaves
abbrev pub changed_at : ℕ → (SummedVertex → SummedVertex) → SummedVertex → SummedVertex
changed_at v f x = cond (eqb x.name v) (f x) x

abbrev pub others : ℕ → SummedVertex → Bool
others u x = not (eqb x.name u)

abbrev Lies : ℕ → Entries → Type 0
Lies v es = AllByRecursion (λ k. nat_cmp v k ≡ Less) (keys_of es)

-- a name below all others is none of them
lies_apart : (v : ℕ) (e : ℕ × SummedVertex) → e.0 ≡ e.1.name → nat_cmp v e.0 ≡ Less → eqb e.1.name v ≡ false
lies_apart v e named less =
    ap (λ n. eqb n v) (sym named) ∙ eqb_comm e.0 v ∙ sym (at_name v e.0) ∙ ap is_eq less

none_changed : (v : ℕ) (f : SummedVertex → SummedVertex) (es : Entries) → AreNamed es → Lies v es → map (changed_at v f) (values_of es) ≡ values_of es
none_changed v f [] named lies = refl
none_changed v f (e ∷ es) named lies =
    λ i. cond (lies_apart v e named.0 lies.0 i) (f e.1) e.1 ∷ none_changed v f es named.1 lies.1 i

none_removed : (u : ℕ) (es : Entries) → AreNamed es → Lies u es → filter (others u) (values_of es) ≡ values_of es
none_removed u [] named lies = refl
none_removed u (e ∷ es) named lies =
    let rest = values_of es in
    ap (λ b. cond (not b) (e.1 ∷ filter (others u) rest) (filter (others u) rest)) (lies_apart u e named.0 lies.0)
    ∙ ap (λ (xs : Vertices). e.1 ∷ xs) (none_removed u es named.1 lies.1)

-- the name of an entry at which a search ends
ends_at : (v : ℕ) (e : ℕ × SummedVertex) → e.0 ≡ e.1.name → is_at (nat_cmp v) e.0 ≡ true → v ≡ e.0
ends_at v e named here = eqb-true v e.0 (sym (at_name v e.0) ∙ here)

named_at : (v : ℕ) (e : ℕ × SummedVertex) (b : Bool) → e.0 ≡ e.1.name → is_at (nat_cmp v) e.0 ≡ b → eqb e.1.name v ≡ b
named_at v e b named here = ap (λ n. eqb n v) (sym named) ∙ eqb_comm e.0 v ∙ sym (at_name v e.0) ∙ here

-- one that is set
pub values_set : (v : ℕ) (f : SummedVertex → SummedVertex) (es : Entries) (x y : SummedVertex) → y ≡ f x → AreNamed es → IsStrictlySortedBy nat_cmp (keys_of es)
    → lookup (is_at (nat_cmp v)) es ≡ Some x → values_of (set_value (is_at (nat_cmp v)) es y) ≡ map (changed_at v f) (values_of es)
values_set v f [] x y made named up found = absurd (cc)
values_set v f (e ∷ es) x y made named up found =
    let at = is_at (nat_cmp v) in
    elim (at e.0) as (λ b. at e.0 ≡ b → cond b (Some e.1) (lookup at es) ≡ Some x → values_of (cond b ((e.0, y) ∷ es) (e ∷ set_value at es y)) ≡ cond (eqb e.1.name v) (f e.1) e.1 ∷ map (changed_at v f) (values_of es)) [
      | true ↦ λ here is.
          let same : e.1 ≡ x = cc in
          let lies : Lies v es = subst (λ k. Lies k es) (sym (ends_at v e named.0 here)) (sorted_head nat_cmp e.0 (keys_of es) up) in
          sym ((λ i. cond (named_at v e true named.0 here i) (f e.1) e.1 ∷ none_changed v f es named.1 lies i)
          ∙ ap (λ (z : SummedVertex). z ∷ values_of es) (ap f same ∙ sym made))
      | false ↦ λ away is.
          (λ i. e.1 ∷ values_set v f es x y made named.1 (sorted_tail nat_cmp e.0 (keys_of es) up) is i)
          ∙ (λ i. cond (sym (named_at v e false named.0 away) i) (f e.1) e.1 ∷ map (changed_at v f) (values_of es))
    ] refl found

pub named_set : (v : ℕ) (es : Entries) (x y : SummedVertex) → y.name ≡ x.name → AreNamed es → lookup (is_at (nat_cmp v)) es ≡ Some x → AreNamed (set_value (is_at (nat_cmp v)) es y)
named_set v [] x y same named found = tt
named_set v (e ∷ es) x y same named found =
    let at = is_at (nat_cmp v) in
    elim (at e.0) as (λ b. cond b (Some e.1) (lookup at es) ≡ Some x → AreNamed (cond b ((e.0, y) ∷ es) (e ∷ set_value at es y))) [
      | true ↦ λ is. let one : e.1 ≡ x = cc in (named.0 ∙ ap (λ (z : SummedVertex). z.name) one ∙ sym same, named.1)
      | false ↦ λ is. (named.0, named_set v es x y same named.1 is)
    ] found

-- none that is there
pub none_set : (v : ℕ) (f : SummedVertex → SummedVertex) (es : Entries) → AreNamed es → lookup (is_at (nat_cmp v)) es ≡ None → values_of es ≡ map (changed_at v f) (values_of es)
none_set v f [] named found = refl
none_set v f (e ∷ es) named found =
    let at = is_at (nat_cmp v) in
    elim (at e.0) as (λ b. at e.0 ≡ b → cond b (Some e.1) (lookup at es) ≡ None → e.1 ∷ values_of es ≡ cond (eqb e.1.name v) (f e.1) e.1 ∷ map (changed_at v f) (values_of es)) [
      | true ↦ λ here is. absurd (cc)
      | false ↦ λ away is. λ i. cond (sym (named_at v e false named.0 away) i) (f e.1) e.1 ∷ none_set v f es named.1 is i
    ] refl found

-- one that is taken away
pub values_removed : (u : ℕ) (es : Entries) → AreNamed es → IsStrictlySortedBy nat_cmp (keys_of es) → values_of (remove_entry (is_at (nat_cmp u)) es) ≡ filter (others u) (values_of es)
values_removed u [] named up = refl
values_removed u (e ∷ es) named up =
    let at = is_at (nat_cmp u) in
    let rest = filter (others u) (values_of es) in
    elim (at e.0) as (λ b. at e.0 ≡ b → values_of (cond b es (e ∷ remove_entry at es)) ≡ cond (not (eqb e.1.name u)) (e.1 ∷ rest) rest) [
      | true ↦ λ here.
          let lies : Lies u es = subst (λ k. Lies k es) (sym (ends_at u e named.0 here)) (sorted_head nat_cmp e.0 (keys_of es) up) in
          sym (none_removed u es named.1 lies) ∙ (λ i. cond (not (sym (named_at u e true named.0 here) i)) (e.1 ∷ rest) rest)
      | false ↦ λ away.
          ap (λ (xs : Vertices). e.1 ∷ xs) (values_removed u es named.1 (sorted_tail nat_cmp e.0 (keys_of es) up))
          ∙ (λ i. cond (not (sym (named_at u e false named.0 away) i)) (e.1 ∷ rest) rest)
    ] refl

pub named_removed : (u : ℕ) (es : Entries) → AreNamed es → AreNamed (remove_entry (is_at (nat_cmp u)) es)
named_removed u [] named = tt
named_removed u (e ∷ es) named =
    let at = is_at (nat_cmp u) in
    elim (at e.0) as (λ b. AreNamed (cond b es (e ∷ remove_entry at es))) [ true ↦ named.1 | false ↦ (named.0, named_removed u es named.1) ]

-- a vertex is taken away as soon after a change as before it
pub removed_changed : (u v : ℕ) (f : SummedVertex → SummedVertex) → ((x : SummedVertex) → (f x).name ≡ x.name) → (xs : Vertices)
    → filter (others u) (map (changed_at v f) xs) ≡ map (changed_at v f) (filter (others u) xs)
removed_changed u v f same [] = refl
removed_changed u v f same (x ∷ xs) =
    let name_is : (changed_at v f x).name ≡ x.name = elim (eqb x.name v) as (λ (b : Bool). (let y : SummedVertex = cond b (f x) x in y.name) ≡ x.name) [ true ↦ same x | false ↦ refl ] in
    let rest = filter (others u) (map (changed_at v f) xs) in
    (λ i. cond (not (eqb (name_is i) u)) (changed_at v f x ∷ rest) rest)
    ∙ elim (eqb x.name u) as (λ b. cond (not b) (changed_at v f x ∷ rest) rest ≡ map (changed_at v f) (cond (not b) (x ∷ filter (others u) xs) (filter (others u) xs))) [
      | true ↦ removed_changed u v f same xs
      | false ↦ ap (λ (ys : Vertices). changed_at v f x ∷ ys) (removed_changed u v f same xs)
    ]

-- the entries stay in order
pub keyed_set : (v : ℕ) (es fs : Entries) (x y : SummedVertex) → y.name ≡ x.name → IsKeyed es → lookup (is_at (nat_cmp v)) es ≡ Some x
    → fs ≡ set_value (is_at (nat_cmp v)) es y → IsStrictlySortedBy nat_cmp (keys_of fs) → IsKeyed fs
keyed_set v es fs x y same keyed there is up = record {
  named = subst AreNamed (sym is) (named_set v es x y same keyed.named there);
  ordered = up;
}

pub keyed_removed : (u : ℕ) (es fs : Entries) → IsKeyed es → fs ≡ remove_entry (is_at (nat_cmp u)) es → IsStrictlySortedBy nat_cmp (keys_of fs) → IsKeyed fs
keyed_removed u es fs keyed is up = record {
  named = subst AreNamed (sym is) (named_removed u es keyed.named);
  ordered = up;
}
