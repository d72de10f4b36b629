-- Versions and numbers by a journal, one entry more.
use Rattle.std.proofs.Common.{◌≡◌, ℕ, ◌+◌, ◌≤◌, true, false, cond, List, [], ◌∷◌, ◌++◌, length, sym, ap, ◌∙◌, arith, append-nil, append_assoc}
use Rattle.mesh_data.specs.declared.edits.Entry.{Entry}
use Rattle.oemm_octree.specs.Leaves.{is_one_of}
use Rattle.stored_mesh.specs.Versions.{version_from, version, next_of, AreNumberedAfter}

version_from_push : (now n : ℕ) (es : List Entry) (e : Entry) (leaf : ℕ) → version_from now n (es ++ e ∷ []) leaf ≡ cond (is_one_of e.core leaf) (n + length es + 1) (version_from now n es leaf)
version_from_push now n [] e leaf = ap (λ (k : ℕ). cond (is_one_of e.core leaf) k now) (omega arith)
version_from_push now n (x ∷ es) e leaf =
    version_from_push (cond (is_one_of x.core leaf) (n + 1) now) (n + 1) es e leaf
    ∙ ap (λ (k : ℕ). cond (is_one_of e.core leaf) k (version_from (cond (is_one_of x.core leaf) (n + 1) now) (n + 1) es leaf)) (omega arith)

-- an entry gives the leaves of its core a new version, and leaves the others
pub version_push : (journal : List Entry) (e : Entry) (leaf : ℕ) → version (journal ++ e ∷ []) leaf ≡ cond (is_one_of e.core leaf) (length journal + 1) (version journal leaf)
version_push journal e leaf =
    version_from_push 0 0 journal e leaf ∙ ap (λ (k : ℕ). cond (is_one_of e.core leaf) k (version journal leaf)) (omega arith)

version_from_below : (now n : ℕ) (es : List Entry) (leaf : ℕ) → now ≤ n → version_from now n es leaf ≤ n + length es
version_from_below now n [] leaf le = omega arith
version_from_below now n (e ∷ es) leaf le =
    let next : cond (is_one_of e.core leaf) (n + 1) now ≤ n + 1 = elim (is_one_of e.core leaf) as (λ b. cond b (n + 1) now ≤ n + 1) [ true ↦ omega arith | false ↦ omega arith ] in
    omega (arith, version_from_below (cond (is_one_of e.core leaf) (n + 1) now) (n + 1) es leaf next)

-- no version is above the number of the entries
pub version_below : (journal : List Entry) (leaf : ℕ) → version journal leaf ≤ length journal
version_below journal leaf = omega (arith, version_from_below 0 0 journal leaf (omega arith))

numbered_more : (before es : List Entry) (e : Entry) → AreNumberedAfter before es → e.task.number ≡ next_of (before ++ es) e.task.lane → AreNumberedAfter before (es ++ e ∷ [])
numbered_more before [] e all next = (next ∙ ap (λ (xs : List Entry). next_of xs e.task.lane) (append-nil before), tt)
numbered_more before (x ∷ es) e all next =
    (all.0, numbered_more (before ++ x ∷ []) es e all.1 (next ∙ ap (λ (xs : List Entry). next_of xs e.task.lane) (sym (append_assoc before (x ∷ []) es))))

-- an entry whose task is its lane's next
pub numbered_push : (journal : List Entry) (e : Entry) → AreNumberedAfter [] journal → e.task.number ≡ next_of journal e.task.lane → AreNumberedAfter [] (journal ++ e ∷ [])
numbered_push journal e all next = numbered_more [] journal e all next
