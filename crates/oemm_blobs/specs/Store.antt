-- What contracts see of a store, and what its calls make of that.
use Rattle.std.specs.Prelude.{◌≡◌, ℕ, ◌≤◌, ◌⊎◌, List, ◌∷◌, ◌++◌, Option, Some, Result, OnOk, OnErr}
use Rattle.std.specs.Option.{option_map}
use Rattle.fault_counts.specs.Counts.{next_count}
use Rattle.oemm_blobs.specs.Content.{Content, with_change, changed}
use Rattle.oemm_blobs.specs.declared.blobs.StoreFail.{StoreFail}
use Rattle.oemm_blobs.specs.declared.keys.Change.{Change}

-- A store: its content, where it tells it; how often it has failed, and how many gets and puts were made; a clock that
-- never falls; and whether a crash at some moment since a time may leave a content. A store that doesn't tell what
-- crashes leave says of each content that it may be left.
pub record StoreState : Type 1 where
  pub content : Option Content
  pub faults : ℕ
  pub gets : ℕ
  pub puts : ℕ
  pub clock : ℕ
  pub left_since : ℕ → Content → Type 0

-- what is told has P, where it is told
abbrev pub IfTold : Option Content → (Content → Type 0) → Type 0
IfTold told P = (content : Content) → told ≡ Some content → P content

-- the store tells this content, and a crash now leaves it alone
pub record IsCalmWith (store : StoreState) (content : Content) : Type 0 where
  pub told : store.content ≡ Some content
  pub alone : (left : Content) → store.left_since store.clock left → left ≡ content

-- Time went on: a crash since an earlier time may leave what it might leave before, and what it may leave since the
-- call began, and nothing else.
pub record Elapses (old new : StoreState) : Type 0 where
  pub later : old.clock ≤ new.clock
  pub no_other : (time : ℕ) (left : Content) → time ≤ old.clock → new.left_since time left →
      old.left_since time left ⊎ new.left_since old.clock left
  pub still : (time : ℕ) (left : Content) → time ≤ old.clock → old.left_since time left → new.left_since time left
  pub besides : (time : ℕ) (left : Content) → time ≤ old.clock → new.left_since old.clock left →
      new.left_since time left

-- Between the two a crash may leave what has P alone. So a crash since an earlier time may leave what it might leave
-- before, or what has P.
pub record LeavesOnly (old new : StoreState) (P : Content → Type 0) : Type 0 where
  pub later : old.clock ≤ new.clock
  pub during : (left : Content) → new.left_since old.clock left → P left
  pub before : (time : ℕ) (left : Content) → time ≤ old.clock → new.left_since time left →
      old.left_since time left ⊎ P left

-- a count is one more, and hasn't fallen
pub record CountsOne (before now : ℕ) : Type 0 where
  pub next : now ≡ next_count before
  pub kept : before ≤ now

-- A call asked for a change. A crash in it leaves the content with the change or without it.
pub record Changes {T : Type 0} (change : Change) (old new : StoreState) (result : Result T StoreFail) : Type 0 where
  pub ok : OnOk result (new.content ≡ option_map (with_change change) old.content)
  pub err : OnErr result (new.content ≡ old.content)
  pub crash : (content : Content) → IsCalmWith old content →
      LeavesOnly old new (λ left. (left ≡ content) ⊎ (left ≡ with_change change content))
  pub calm : OnOk result ((content : Content) → IsCalmWith old content → IsCalmWith new (with_change change content))

-- the content is as it was, and a calm store stays calm and lets a crash leave nothing else
pub record Keeps (old new : StoreState) : Type 0 where
  pub content : new.content ≡ old.content
  pub crash : (content : Content) → IsCalmWith old content → LeavesOnly old new (λ left. left ≡ content)
  pub calm : (content : Content) → IsCalmWith old content → IsCalmWith new content

-- the content after a prefix of these changes
pub record IsAfterPrefix (changes : List Change) (content left : Content) : Type 0 where
  pub done : List Change
  pub rest : List Change
  pub split : done ++ rest ≡ changes
  pub is : left ≡ changed done content

-- what is told after those of these changes that stand before a refused one
pub record StopsBefore (changes : List Change) (old new : Option Content) : Type 0 where
  pub done : List Change
  pub refused : Change
  pub rest : List Change
  pub split : done ++ refused ∷ rest ≡ changes
  pub is : new ≡ option_map (changed done) old

-- These changes were asked for, one after another up to the first that was refused.
pub record ChangesInTurn {T : Type 0} (changes : List Change) (old new : StoreState)
    (result : Result T StoreFail) : Type 0 where
  pub ok : OnOk result (new.content ≡ option_map (changed changes) old.content)
  pub err : OnErr result (StopsBefore changes old.content new.content)
  pub crash : (content : Content) → IsCalmWith old content → LeavesOnly old new (IsAfterPrefix changes content)
  pub calm : OnOk result ((content : Content) → IsCalmWith old content → IsCalmWith new (changed changes content))
