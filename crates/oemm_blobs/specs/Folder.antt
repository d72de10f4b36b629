-- A store in a folder.
use Rattle.std.specs.Prelude.{ℕ, List, None, ⊤}
use Rattle.oemm_blobs.specs.Store.{StoreState}

-- the bytes of its path, and its counts
pub record Folder : Type 0 where
  pub path : List ℕ
  pub faults : ℕ
  pub gets : ℕ
  pub puts : ℕ

-- it tells nothing but its counts
abbrev pub folder_store : Folder → StoreState
folder_store folder =
    record {
      content = None;
      faults = folder.faults;
      gets = folder.gets;
      puts = folder.puts;
      clock = 0;
      left_since = λ time left. ⊤;
    }
