-- The names of the files of a store in a folder.
use Rattle.std.specs.Prelude.{ℕ, ◌<◌, ◌^◌, List, ◌++◌, codes}
use Rattle.std.specs.Fmt.{decimal}
use Rattle.std.specs.List.{AllByRecursion}
use Rattle.oemm_blobs.specs.Content.{key_numbers}
use Rattle.oemm_blobs.specs.declared.keys.Key.{Key}
use Rattle.oemm_blobs.specs.declared.keys.Key.TheVariants.{Index, Leaf, Entry, Page, Run}

-- two numbers with a dash between them
abbrev pub two_numbers : ℕ → ℕ → List ℕ
two_numbers a b = decimal a ++ (codes "-" ++ decimal b)

-- the name of the file of a key
abbrev pub file_name : Key → List ℕ
file_name Index = codes "index"
file_name (Leaf leaf version) = codes "leaf-" ++ two_numbers leaf version
file_name (Entry number) = codes "entry-" ++ decimal number
file_name (Page number) = codes "page-" ++ decimal number
file_name (Run leaf part) = codes "run-" ++ two_numbers leaf part

-- where it stands
abbrev pub path_of : List ℕ → Key → List ℕ
path_of folder key = folder ++ codes "/" ++ file_name key

-- where a put first writes the bytes
abbrev pub new_path_of : List ℕ → Key → List ℕ
new_path_of folder key = path_of folder key ++ codes ".new"

-- the numbers of a key are of 32 bits
abbrev pub HasShortNumbers : Key → Type 0
HasShortNumbers key = AllByRecursion (λ number. number < 2 ^ 32) (key_numbers key)
