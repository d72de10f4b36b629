-- A store that keeps each change that was ever made.
use Rattle.std.specs.Prelude.{◌≡◌, ℕ, ◌≤◌, List, length, take, Some}
use Rattle.oemm_blobs.specs.Content.{Content, no_content, changed}
use Rattle.oemm_blobs.specs.Store.{StoreState}
use Rattle.oemm_blobs.specs.declared.keys.Change.{Change}

-- the changes, the first of them first, and how many gets and puts were made
pub record History : Type 0 where
  pub changes : List Change
  pub gets : ℕ
  pub puts : ℕ

-- the content after so many of the changes
abbrev pub content_at : List Change → ℕ → Content
content_at changes moment = changed (take moment changes) no_content

-- a crash at one of the moments since a time, of which there is one after each change, leaves the content of that
-- moment
pub record WasSince (changes : List Change) (time : ℕ) (left : Content) : Type 0 where
  pub moment : ℕ
  pub since : time ≤ moment
  pub until : moment ≤ length changes
  pub is : left ≡ content_at changes moment

-- it never fails, and its clock is the number of its changes
abbrev pub history_store : History → StoreState
history_store history =
    record {
      content = Some (changed history.changes no_content);
      faults = 0;
      gets = history.gets;
      puts = history.puts;
      clock = length history.changes;
      left_since = WasSince history.changes;
    }
