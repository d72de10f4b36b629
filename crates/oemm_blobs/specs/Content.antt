-- What stands in a store.
use Rattle.std.specs.Prelude.{◌≡◌, ℕ, ◌==◌, Bool, false, true, ◌&&◌, if◌then◌else◌, List, [], ◌∷◌, Option, Some}
use Rattle.std.specs.Prelude.{None, refl}
use Rattle.std.specs.Cmp.Lexicographic.{slice_cmp}
use Rattle.std.specs.Coded.{Coded, code_by, coded_ℕ, coded_list}
use Rattle.std.specs.FinMap as finite
use Rattle.std.specs.Ordering.{nat_cmp, on}
use Rattle.std.specs.declared.cmp.Ordering.{Ordering}
use Rattle.oemm_blobs.specs.declared.keys.Change.{Change}
use Rattle.oemm_blobs.specs.declared.keys.Key.{Key}
use Rattle.oemm_blobs.specs.declared.keys.Key.TheVariants.{Index, Leaf, Entry, Page, Run}

-- a key as the number of its kind and the numbers in it, by which keys are put in order
abbrev pub key_numbers : Key → List ℕ
key_numbers Index = 0 ∷ []
key_numbers (Leaf leaf version) = 1 ∷ leaf ∷ version ∷ []
key_numbers (Entry number) = 2 ∷ number ∷ []
key_numbers (Page number) = 3 ∷ number ∷ []
key_numbers (Run leaf part) = 4 ∷ leaf ∷ part ∷ []

abbrev pub key_cmp : Key → Key → Ordering
key_cmp = on key_numbers (slice_cmp nat_cmp)

abbrev pub is_same_key : Key → Key → Bool
is_same_key Index Index = true
is_same_key (Leaf leaf version) (Leaf leaf' version') = leaf == leaf' && version == version'
is_same_key (Entry number) (Entry number') = number == number'
is_same_key (Page number) (Page number') = number == number'
is_same_key (Run leaf part) (Run leaf' part') = leaf == leaf' && part == part'
is_same_key key key' = false

-- the bytes under each key that has some
abbrev pub Content : Type 0
Content = finite.FinMap key_cmp (List ℕ)

-- nothing stands there
abbrev pub no_content : Content
no_content = finite.empty

-- the bytes under a key
abbrev pub blob_at : Content → Key → Option (List ℕ)
blob_at content key = finite.get content key

-- the content with these bytes under the key, or with none
abbrev pub with_blob : Key → Option (List ℕ) → Content → Content
with_blob key None content = finite.remove content key
with_blob key (Some bytes) content = finite.insert content key bytes

-- the content after a change
abbrev pub with_change : Change → Content → Content
with_change change content = with_blob change.key change.bytes content

-- the content after these changes, the first of them first
abbrev pub changed : List Change → Content → Content
changed [] content = content
changed (change ∷ changes) content = changed changes (with_change change content)

-- the key of which these are the numbers
abbrev pub key_from : List ℕ → Key
key_from (kind ∷ a ∷ b ∷ []) = if kind == 1 then Leaf a b else Run a b
key_from (kind ∷ a ∷ []) = if kind == 2 then Entry a else Page a
key_from numbers = Index

pub key_from_numbers : (key : Key) → key_from (key_numbers key) ≡ key
key_from_numbers Index = refl
key_from_numbers (Leaf leaf version) = refl
key_from_numbers (Entry number) = refl
key_from_numbers (Page number) = refl
key_from_numbers (Run leaf part) = refl

-- how keys and contents are kept as values
abbrev pub key_code : Coded Key
key_code = code_by (List ℕ) (coded_list coded_ℕ) key_numbers key_from key_from_numbers

abbrev pub content_code : Coded Content
content_code = finite.code key_code (coded_list coded_ℕ)
