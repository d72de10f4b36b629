-- The entries that stand in a store, up to the first that is absent, are its journal.
use Rattle.std.proofs.Common.{◌≡◌, ℕ, suc, ◌<◌, ◌≤◌, List, [], ◌∷◌, length, get_or, Option, Some, None, sym, ap, ◌∙◌, refl, arith, inl, inr}
use Rattle.std.proofs.lemmas.Bool.{cases_order}
use Rattle.oemm_limits.specs.declared.TheConstants.{MOST_TASKS}
use Rattle.mesh_data.specs.declared.edits.Entry.{Entry}
use Rattle.oemm_blobs.specs.declared.keys.Key.TheVariants as key
use Rattle.sheet_data.specs.declared.index.NumberedEntry.{NumberedEntry}
use Rattle.stored_mesh.specs.Stored.{BytesAt, Spelling, spelled, Base, IsChecked, IsUnbuilt}

same_lists : {X : Type 0} (xs ys : List X) → length xs ≡ length ys → ((n : ℕ) (d : X) → n < length xs → get_or xs n d ≡ get_or ys n d) → xs ≡ ys
same_lists [] [] long each = refl
same_lists [] (y ∷ ys) long each = absurd (omega arith)
same_lists (x ∷ xs) [] long each = absurd (omega arith)
same_lists (x ∷ xs) (y ∷ ys) long each =
    let first : x ≡ y = each 0 x (omega arith) in
    let rest = same_lists xs ys (omega arith) (λ n d lt. each (suc n) d (omega arith)) in
    λ i. first i ∷ rest i

some_none : {X : Type 0} (o : Option X) (x : X) → o ≡ Some x → o ≡ None → ⊥
some_none o x some none = let e = sym some ∙ none in absurd (cc)

some_same : {X : Type 0} (x y : X) → Some x ≡ Some y → x ≡ y
some_same x y e = cc

pub opened_is : (spell : Spelling) (at : BytesAt) (b : Base) (journal es : List Entry) → IsChecked spell at b journal
    → length es ≤ MOST_TASKS
    → ((n : ℕ) (d : Entry) → n < length es → spelled spell.entry (at (key.Entry n)) ≡ Some (record { number = n; entry = get_or es n d }))
    → (length es < MOST_TASKS → at (key.Entry (length es)) ≡ None)
    → es ≡ journal
opened_is spell at b journal es checked few read ends =
    let old = checked.stored in
    elim (cases_order (length es) (length journal)) [
      | inl long ↦ same_lists es journal long (λ n d lt.
          ap (λ (x : NumberedEntry). x.entry) (some_same (record { number = n; entry = get_or es n d }) (record { number = n; entry = get_or journal n d }) (sym (read n d lt) ∙ old.entries n d (omega arith))))
      | inr other ↦ elim other [
        | inl shorter ↦ absurd (shorter_es shorter)
        | inr longer ↦ absurd (longer_es longer)
      ]
    ]
  where
    shorter_es : length es < length journal → ⊥
    shorter_es lt =
        let few_old = checked.stored.few in
        elim journal as (λ js. js ≡ journal → ⊥) [
          | [] ↦ λ is. let z = ap length is in absurd (omega arith)
          | j ∷ js ↦ λ is. some_none (spelled spell.entry (at (key.Entry (length es)))) _ (checked.stored.entries (length es) j lt) (ap (spelled spell.entry) (ends (omega arith)))
        ] refl

    longer_es : length journal < length es → ⊥
    longer_es lt =
        elim es as (λ fs. fs ≡ es → ⊥) [
          | [] ↦ λ is. let z = ap length is in absurd (omega arith)
          | f ∷ fs ↦ λ is. some_none (spelled spell.entry (at (key.Entry (length journal)))) _ (read (length journal) f lt) (ap (spelled spell.entry) (checked.ends (omega arith)))
        ] refl

-- what is checked isn't unbuilt
pub not_unbuilt : (spell : Spelling) (at : BytesAt) (b : Base) (journal : List Entry) → IsChecked spell at b journal → IsUnbuilt at → ⊥
not_unbuilt spell at b journal checked none =
    some_none (spelled spell.index (at key.Index)) b.index checked.stored.built.index (ap (spelled spell.index) none.0)
