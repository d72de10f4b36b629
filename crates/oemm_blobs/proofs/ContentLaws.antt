-- What stands under a key after a change.
use Rattle.std.proofs.Common.{◌≡◌, ℕ, ◌==◌, Bool, true, false, cond, ◌&&◌, List, [], ◌∷◌, Option, Some, None, refl}
use Rattle.std.proofs.Common.{sym, ap, ◌∙◌}
use Rattle.std.specs.Cmp.{IsTotalOrder, unsigned_tied, on_total, eq_by_cmp_equiv}
use Rattle.std.specs.Cmp.Lexicographic.{slice_cmp, nat_list_cmp_total}
use Rattle.std.specs.FinMap as finite
use Rattle.std.specs.FinMap.{IsAntisymmetric, nat_cmp-IsAntisymmetric, slice_cmp-IsAntisymmetric}
use Rattle.std.specs.Ordering.{nat_cmp, ordering_then, is_eq, eq_by_cmp}
use Rattle.std.specs.declared.cmp.Ordering.{Ordering}
use Rattle.std.specs.declared.cmp.Ordering.TheVariants.{Less, Equal, Greater}
use Rattle.oemm_blobs.specs.declared.keys.Key.{Key}
use Rattle.oemm_blobs.specs.declared.keys.Key.TheVariants.{Index, Leaf, Entry, Page, Run}
use Rattle.oemm_blobs.specs.Content.{key_numbers, key_from, key_cmp, key_from_numbers, Content, is_same_key}
use Rattle.oemm_blobs.specs.Content.{blob_at, with_blob, no_content}

pub key_total : IsTotalOrder key_cmp
key_total = on_total key_numbers nat_list_cmp_total

pub key_exact : IsAntisymmetric key_cmp
key_exact key other tied =
    sym (key_from_numbers key)
    ∙ ap key_from (slice_cmp-IsAntisymmetric nat_cmp-IsAntisymmetric (key_numbers key) (key_numbers other) tied)
    ∙ key_from_numbers other

pub tied_then : (r s : Ordering) → is_eq (ordering_then r s) ≡ is_eq r && is_eq s
tied_then Less s = refl
tied_then Equal s = refl
tied_then Greater s = refl

and_true : (b : Bool) → b && true ≡ b
and_true true = refl
and_true false = refl

-- two numbers, and two pairs of them, tie as lists where they are equal
tied_one : (a b : ℕ) → is_eq (slice_cmp nat_cmp (a ∷ []) (b ∷ [])) ≡ (a == b)
tied_one a b = tied_then (nat_cmp a b) Equal ∙ and_true (is_eq (nat_cmp a b)) ∙ unsigned_tied a b

tied_two : (a b c d : ℕ) → is_eq (slice_cmp nat_cmp (a ∷ b ∷ []) (c ∷ d ∷ [])) ≡ (a == c) && (b == d)
tied_two a b c d =
    tied_then (nat_cmp a c) (slice_cmp nat_cmp (b ∷ []) (d ∷ [])) ∙ (λ i. unsigned_tied a c i && tied_one b d i)

pub key_tied : (key other : Key) → eq_by_cmp key_cmp key other ≡ is_same_key key other
key_tied Index Index = refl
key_tied (Leaf leaf version) (Leaf leaf' version') = tied_two leaf version leaf' version'
key_tied (Entry number) (Entry number') = tied_one number number'
key_tied (Page number) (Page number') = tied_one number number'
key_tied (Run leaf part) (Run leaf' part') = tied_two leaf part leaf' part'
key_tied key other = refl

turned : (key other : Key) → eq_by_cmp key_cmp other key ≡ is_same_key key other
turned key other = (eq_by_cmp_equiv key_total).symm other key ∙ key_tied key other

-- what stands under a key after a change
pub at_with_blob :
    (key other : Key) (bytes : Option (List ℕ)) (content : Content) →
    blob_at (with_blob key bytes content) other ≡ cond (is_same_key key other) bytes (blob_at content other)
at_with_blob key other None content =
    finite.get-remove key_total content key other
    ∙ ap (λ (b : Bool). cond b None (blob_at content other)) (turned key other)
at_with_blob key other (Some bytes) content =
    finite.get-insert key_total content key bytes other
    ∙ ap (λ (b : Bool). cond b (Some bytes) (blob_at content other)) (turned key other)

pub at_no_content : (key : Key) → blob_at no_content key ≡ None
at_no_content key = finite.get-empty key_cmp key

-- contents with the same bytes under each key are equal
pub same_content :
    (content other : Content) → ((key : Key) → blob_at content key ≡ blob_at other key) → content ≡ other
same_content content other same = finite.same_map key_total key_exact content other same
