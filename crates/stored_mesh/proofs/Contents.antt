-- A put into the content of a store.
use Rattle.std.proofs.Common.{◌≡◌, ℕ, true, false, cond, List, Some, sym, ap, ◌∙◌, refl}
use Rattle.std.proofs.lemmas.Cmp.{tied_itself}
use Rattle.std.specs.Ordering.{is_eq}
use Rattle.std.specs.declared.cmp.Ordering.{Ordering}
use Rattle.std.specs.declared.cmp.Ordering.TheVariants.{Less, Equal, Greater}
use Rattle.std.proofs.lemmas.Bool.{false≢true}
use Rattle.oemm_blobs.specs.Content.{Content, blob_at, is_same_key, key_cmp, with_blob}
use Rattle.oemm_blobs.specs.declared.keys.Key.{Key}
use Rattle.oemm_blobs.proofs.ContentLaws.{at_with_blob, key_exact, key_tied, key_total}
use Rattle.stored_mesh.specs.Commits.{IsPut}

tied : (r : Ordering) → is_eq r ≡ true → r ≡ Equal
tied Less h = absurd (false≢true h)
tied Equal h = refl
tied Greater h = absurd (false≢true h)

-- a key is itself alone
same_itself : (k : Key) → is_same_key k k ≡ true
same_itself k = sym (key_tied k k) ∙ ap is_eq (tied_itself key_total k)

same_alone : (k q : Key) → is_same_key k q ≡ true → k ≡ q
same_alone k q h = key_exact k q (tied (key_cmp k q) (key_tied k q ∙ h))

-- the bytes stand under the key, and all else is as it was
pub content_put : (content : Content) (k : Key) (bytes : List ℕ) → IsPut (blob_at content) k bytes (blob_at (with_blob k (Some bytes) content))
content_put content k bytes = record {
  there = at_with_blob k k (Some bytes) content ∙ ap (λ b. cond b (Some bytes) (blob_at content k)) (same_itself k);
  others = λ q other. at_with_blob k q (Some bytes) content ∙ elim (is_same_key k q) as (λ b. is_same_key k q ≡ b → cond b (Some bytes) (blob_at content q) ≡ blob_at content q) [
    | true ↦ λ h. absurd (other (sym (same_alone k q h)))
    | false ↦ λ _. refl
  ] refl;
}
