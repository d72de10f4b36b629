-- Ordered maps that are copied an entry at a time.
use Rattle.std.proofs.Common.{◌≡◌, ℕ, Bool, false, cond, [], ◌∷◌, ◌++◌, ap, ◌∙◌, sym, refl, Some, None}
use Rattle.std.proofs.lemmas.Map.Keys.{sorted_head, sorted_tail}
use Rattle.std.specs.Cmp.{nat_cmp_total, eq_by_cmp_equiv}
use Rattle.std.specs.FinMap as finite
use Rattle.std.specs.FinMap.{nat_cmp-IsAntisymmetric}
use Rattle.std.specs.FinMap.Entries.{find}
use Rattle.std.specs.List.{AllByRecursion}
use Rattle.std.specs.List.Sorted.{IsStrictlySortedBy}
use Rattle.std.specs.Map.{keys_of}
use Rattle.std.specs.Ordering.{nat_cmp, is_eq, eq_by_cmp}
use Rattle.std.specs.declared.cmp.Ordering.TheVariants.{Less}
use Rattle.mesh_data.specs.declared.geometry.Vertex.{Vertex}
use Rattle.edit_steps.proofs.Vertices.{Entries}

all_at : (P : ℕ → Type 0) (es : Entries) (k : ℕ) (x : Vertex) (rest : Entries) → AllByRecursion P (keys_of (es ++ (k, x) ∷ rest)) → P k
all_at P [] k x rest all = all.0
all_at P (e ∷ es) k x rest all = all_at P es k x rest all.1

-- in entries in order a name doesn't come before itself
absent_before : (es : Entries) (k : ℕ) (x : Vertex) (rest : Entries) → IsStrictlySortedBy nat_cmp (keys_of (es ++ (k, x) ∷ rest)) → find nat_cmp k es ≡ None
absent_before [] k x rest up = refl
absent_before (e ∷ es) k x rest up =
    let less : nat_cmp e.0 k ≡ Less = all_at (λ y. nat_cmp e.0 y ≡ Less) es k x rest (sorted_head nat_cmp e.0 (keys_of (es ++ (k, x) ∷ rest)) up) in
    let other : eq_by_cmp nat_cmp k e.0 ≡ false = (eq_by_cmp_equiv nat_cmp_total).symm k e.0 ∙ ap is_eq less in
    ap (λ (b : Bool). cond b (Some e.1) (find nat_cmp k es)) other ∙ absent_before es k x rest (sorted_tail nat_cmp e.0 (keys_of (es ++ (k, x) ∷ rest)) up)

-- one entry more
pub copied_on : (es : Entries) (k : ℕ) (x : Vertex) (rest : Entries) → IsStrictlySortedBy nat_cmp (keys_of (es ++ (k, x) ∷ rest)) → finite.insert (finite.from_entries {R = nat_cmp} es) k x ≡ finite.from_entries (es ++ (k, x) ∷ [])
copied_on es k x rest up = sym (finite.from_entries_push nat_cmp_total nat_cmp-IsAntisymmetric es k x (absent_before es k x rest up))
