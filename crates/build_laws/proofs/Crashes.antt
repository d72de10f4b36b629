-- What crashes and refusals leave of a build.
use Rattle.std.proofs.Common.{◌≡◌, ◌⊎◌, true, List, [], ◌∷◌, ◌++◌, Option, Some, Result, Ok, Err, ap, sym, ◌∙◌, subst, inl, inr}
use Rattle.std.specs.List.{AllByRecursion}
use Rattle.std.specs.Option.{option_map}
use Rattle.oemm_blobs.specs.Content.{Content, blob_at, changed}
use Rattle.oemm_blobs.specs.Store.{ChangesInTurn, IsAfterPrefix, IsCalmWith, LeavesOnly, StopsBefore, StoreState}
use Rattle.oemm_blobs.specs.declared.blobs.StoreFail.{StoreFail}
use Rattle.oemm_blobs.specs.declared.keys.Change.{Change}
use Rattle.oemm_blobs.proofs.Crashes.{weakened}
use Rattle.oemm_blobs.proofs.InTurn.{prefix_or_all, stops_short}
use Rattle.stored_mesh.specs.Stored.{Base, IsSound, IsUnbuilt, Spelling}
use Rattle.store_spelling.specs.Bases.{IsBase}
use Rattle.build_laws.specs.Changes.{AreSheetPuts, IsIndexPut, is_aside}
use Rattle.build_laws.specs.Laid.{IsAsBefore}
use Rattle.build_laws.proofs.Contents.{all_sound, aside_before, sheets_aside}
use Rattle.build_laws.proofs.Laying.{unbuilt_still}

module _ (changes : List Change) (last : Change) (old new : StoreState)
    (aside : AllByRecursion (λ (c : Change). is_aside c.key ≡ true) changes) where
  pub crash_aside : {T : Type 0} (result : Result T StoreFail) (content : Content)
      → ChangesInTurn (changes ++ last ∷ []) old new result → IsCalmWith old content
      → LeavesOnly old new
      (λ left. IsAsBefore (blob_at content) (blob_at left) ⊎ (left ≡ changed (changes ++ last ∷ []) content))
  crash_aside result content turn calm =
      weakened old new (IsAfterPrefix (changes ++ last ∷ []) content)
      (λ left. IsAsBefore (blob_at content) (blob_at left) ⊎ (left ≡ changed (changes ++ last ∷ []) content)) (turn.crash content calm)
      (λ left prefix. elim (prefix_or_all changes last content left prefix) [
        | inl some ↦ inl (aside_before changes content left aside some)
        | inr full ↦ inr full
      ])

  pub refused_aside : {T : Type 0} (fail : StoreFail) (content now : Content)
      → ChangesInTurn {T = T} (changes ++ last ∷ []) old new (Err fail) → old.content ≡ Some content
      → new.content ≡ Some now → IsAsBefore (blob_at content) (blob_at now)
  refused_aside fail content now turn was is =
      let stops : StopsBefore (changes ++ last ∷ []) (Some content) (Some now) =
      subst (λ (o : Option Content). StopsBefore (changes ++ last ∷ []) (Some content) o) is
      (subst (λ (o : Option Content). StopsBefore (changes ++ last ∷ []) o new.content) was turn.err) in
      aside_before changes content now aside (stops_short changes last content now stops)

module _ (spell : Spelling) (b : Base) (sheets : List Change) (index : Change) (old new : StoreState)
    (content : Content) (unbuilt : IsUnbuilt (blob_at content)) (base : IsBase b) (puts : AreSheetPuts spell b 0 sheets)
    (last : IsIndexPut spell b index) where
  sound : IsSound spell (blob_at (changed (sheets ++ index ∷ []) content)) b []
  sound = all_sound spell b sheets index content unbuilt base puts last

  pub crash_build : {T : Type 0} (result : Result T StoreFail) → ChangesInTurn (sheets ++ index ∷ []) old new result
      → IsCalmWith old content
      → LeavesOnly old new (λ left. IsUnbuilt (blob_at left) ⊎ IsSound spell (blob_at left) b [])
  crash_build result turn calm =
      weakened old new
      (λ left. IsAsBefore (blob_at content) (blob_at left) ⊎ (left ≡ changed (sheets ++ index ∷ []) content))
      (λ left. IsUnbuilt (blob_at left) ⊎ IsSound spell (blob_at left) b [])
      (crash_aside sheets index old new (sheets_aside spell b 0 sheets puts) result content turn calm)
      (λ left is. elim is [
        | inl before ↦ inl (unbuilt_still (blob_at content) (blob_at left) unbuilt before)
        | inr full ↦ inr (subst (λ (c : Content). IsSound spell (blob_at c) b []) (sym full) sound)
      ])

  pub done_build : {T : Type 0} (v : T) (now : Content) → ChangesInTurn (sheets ++ index ∷ []) old new (Ok v)
      → old.content ≡ Some content → new.content ≡ Some now → IsSound spell (blob_at now) b []
  done_build v now turn was is =
      let same : changed (sheets ++ index ∷ []) content ≡ now =
      inside (sym (turn.ok ∙ ap (option_map (changed (sheets ++ index ∷ []))) was) ∙ is) in
      subst (λ (c : Content). IsSound spell (blob_at c) b []) same sound
    where
      inside : {m n : Content} → Some m ≡ Some n → m ≡ n
      inside e = cc
