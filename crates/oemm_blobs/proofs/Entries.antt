-- The entries of a map over keys, in the order that is derived for them, seen as a content.
use Rattle.std.proofs.Common.{◌≡◌, ℕ, ◌==◌, cond, ◌&&◌, List, [], ◌∷◌, Option, Some, refl, sym, ◌∙◌}
use Rattle.std.specs.BTreeMap.{is_at}
use Rattle.std.specs.Cmp.{unsigned_tied}
use Rattle.std.specs.FinMap as finite
use Rattle.std.specs.FinMap.Entries.{find}
use Rattle.std.specs.Map.{lookup}
use Rattle.std.specs.Ordering.{nat_cmp, ordering_then, is_eq}
use Rattle.oemm_blobs.specs.contracts.keys.KeyOrd.TheImpl.{cmp-value}
use Rattle.oemm_blobs.specs.declared.keys.Key.{Key}
use Rattle.oemm_blobs.specs.declared.keys.Key.TheVariants.{Index, Leaf, Entry, Page, Run}
use Rattle.oemm_blobs.specs.Content.{key_cmp, Content, is_same_key, blob_at, with_blob}
use Rattle.oemm_blobs.proofs.ContentLaws.{key_total, key_tied, tied_then, at_with_blob, same_content}

abbrev Entries : Type 0
Entries = List (Key × List ℕ)

-- the content of the entries
abbrev pub content_of : Entries → Content
content_of entries = finite.from_entries entries

-- what the map itself has under a key
abbrev entry_at : Entries → Key → Option (List ℕ)
entry_at entries key = lookup (is_at (cmp-value.it key)) entries

tied_both : (a b c d : ℕ) → is_eq (ordering_then (nat_cmp a c) (nat_cmp b d)) ≡ (a == c) && (b == d)
tied_both a b c d = tied_then (nat_cmp a c) (nat_cmp b d) ∙ (λ i. unsigned_tied a c i && unsigned_tied b d i)

same_at : (key other : Key) → is_at (cmp-value.it key) other ≡ is_same_key key other
same_at Index Index = refl
same_at (Leaf leaf version) (Leaf leaf' version') = tied_both leaf version leaf' version'
same_at (Entry number) (Entry number') = unsigned_tied number number'
same_at (Page number) (Page number') = unsigned_tied number number'
same_at (Run leaf part) (Run leaf' part') = tied_both leaf part leaf' part'
same_at key other = refl

find_same : (entries : Entries) (key : Key) → find key_cmp key entries ≡ entry_at entries key
find_same [] key = refl
find_same (e ∷ es) key =
    λ i. cond ((key_tied key e.0 ∙ sym (same_at key e.0)) i) (Some e.1) (find_same es key i)

-- what stands under a key
pub lookup_same : (entries : Entries) (key : Key) → entry_at entries key ≡ blob_at (content_of entries) key
lookup_same entries key = sym (finite.get-from_entries key_total entries key ∙ find_same entries key)

-- entries that differ under one key
pub one_changed :
    (before after : Entries) (key : Key) (bytes : Option (List ℕ)) →
    ((other : Key) → entry_at after other ≡ cond (is_at (cmp-value.it key) other) bytes (entry_at before other)) →
    content_of after ≡ with_blob key bytes (content_of before)
one_changed before after key bytes differ =
    same_content (content_of after) (with_blob key bytes (content_of before)) (λ other.
    sym (lookup_same after other)
    ∙ differ other
    ∙ (λ i. cond (same_at key other i) bytes (lookup_same before other i))
    ∙ sym (at_with_blob key other bytes (content_of before)))
