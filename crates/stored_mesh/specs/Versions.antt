-- The versions of leaves, and the numbers of tasks, by a journal.
use Rattle.std.specs.Prelude.{◌≡◌, ℕ, ◌+◌, ◌==◌, List, [], ◌∷◌, ◌++◌, if◌then◌else◌}
use Rattle.std.specs.List.{count_by}
use Rattle.oemm_octree.specs.Leaves.{is_one_of}
use Rattle.mesh_data.specs.declared.edits.Entry.{Entry}

-- the version of a leaf behind entries that are counted from n, where it was `now` before them
abbrev pub version_from : ℕ → ℕ → List Entry → ℕ → ℕ
version_from now n [] leaf = now
version_from now n (e ∷ es) leaf = version_from (if is_one_of e.core leaf then n + 1 else now) (n + 1) es leaf

-- one more than the number of the last entry whose core has the leaf, and 0 where none has it
abbrev pub version : List Entry → ℕ → ℕ
version journal leaf = version_from 0 0 journal leaf

-- the number of a lane's next task: how many tasks of the lane there were
abbrev pub next_of : List Entry → ℕ → ℕ
next_of journal lane = count_by (λ e. e.task.lane == lane) journal

-- the tasks of each lane have the numbers that come next behind the entries before
abbrev pub AreNumberedAfter : List Entry → List Entry → Type 0
AreNumberedAfter before [] = Unit {0}
AreNumberedAfter before (e ∷ es) =
    (e.task.number ≡ next_of before e.task.lane) × AreNumberedAfter (before ++ e ∷ []) es

-- the tasks of each lane are numbered 0, 1, ..
abbrev pub AreNumbered : List Entry → Type 0
AreNumbered journal = AreNumberedAfter [] journal
