-- What a line of a script says, by its words. Within a line the faults come in the order Word, Words, Number, Lane, Box.
use Rattle.std.specs.Prelude.{ℕ, ◌^◌, nat_lt, Bool, ◌&&◌, bytes_eq, codes, List, [], ◌∷◌, Option, Some, None, Result, Ok, Err, option_and_then, ℤ, pos, int_le, if◌then◌else◌}
use Rattle.oemm_limits.specs.declared.TheConstants.{LAST_LANE, MOST_COST}
use Rattle.oemm_lines.specs.Numbers.{unsigned_of, integer_of}
use Rattle.oemm_octree.specs.Octree.{on_grid}
use Rattle.oemm_octree.specs.declared.points.Point.{Point}
use Rattle.mesh_data.specs.declared.edits.Edit.TheVariants.{Move, Collapse, Flip, Simplify}
use Rattle.edit_script.specs.declared.fault.ScriptWhy.{ScriptWhy}
use Rattle.edit_script.specs.declared.fault.ScriptWhy.TheVariants.{Word, Words, Number, Lane, Box}
use Rattle.edit_script.specs.declared.line.LineMeaning.{LineMeaning}
use Rattle.edit_script.specs.declared.line.LineMeaning.TheVariants.{TaskLine, EditLine}

-- the next step, unless there is nothing
infixl 10 ◌>>=◌
abbrev pub ◌>>=◌ : {A B : Type 0} → Option A → (A → Option B) → Option B
o >>= f = option_and_then f o

-- the coordinate that a word writes
unfoldable pub coordinate_of : List ℕ → Option ℤ
coordinate_of word = do
  n ← integer_of word
  if on_grid n then Some n else None

-- the point that three words write
unfoldable pub point_of : List ℕ → List ℕ → List ℕ → Option Point
point_of first second third = do
  x ← coordinate_of first
  y ← coordinate_of second
  z ← coordinate_of third
  Some (record { x = x; y = y; z = z })

-- the name that a word writes
unfoldable pub name_of : List ℕ → Option ℕ
name_of word = do
  n ← unsigned_of word
  if nat_lt n (2 ^ 32) then Some n else None

-- the bound of a cost that a word writes
unfoldable pub most_of : List ℕ → Option ℤ
most_of word = do
  n ← unsigned_of word
  if nat_lt MOST_COST n then None else Some (pos n)

-- the number of triangles that a word writes
unfoldable pub triangles_of : List ℕ → Option ℕ
triangles_of word = do
  n ← unsigned_of word
  if nat_lt (2 ^ 24) n then None else Some n

-- the low corner is at most the high one along each axis
abbrev pub is_box : Point → Point → Bool
is_box low high = int_le low.x high.x && int_le low.y high.y && int_le low.z high.z

-- the task, where there is such a lane and the corners are those of a box
abbrev pub task_within : ℕ → Point → Point → Result LineMeaning ScriptWhy
task_within lane low high =
    if nat_lt LAST_LANE lane then Err Lane else if is_box low high then Ok (TaskLine lane low high) else Err Box

-- the task of a lane and two corners, where these are numbers
abbrev pub task_of : Option ℕ → Option Point → Option Point → Result LineMeaning ScriptWhy
task_of (Some lane) (Some low) (Some high) = task_within lane low high
task_of _ _ _ = Err Number

-- the move of a name to a point, where these are numbers
abbrev pub move_of : Option ℕ → Option Point → Result LineMeaning ScriptWhy
move_of (Some v) (Some to) = Ok (EditLine (Move v to))
move_of _ _ = Err Number

-- the collapse of a name into another up to a bound, where these are numbers
abbrev pub collapse_of : Option ℕ → Option ℕ → Option ℤ → Result LineMeaning ScriptWhy
collapse_of (Some u) (Some v) (Some max) = Ok (EditLine (Collapse u v max))
collapse_of _ _ _ = Err Number

-- the flip of the edge of two names, where these are numbers
abbrev pub flip_of : Option ℕ → Option ℕ → Result LineMeaning ScriptWhy
flip_of (Some a) (Some b) = Ok (EditLine (Flip a b))
flip_of _ _ = Err Number

-- the simplification up to a bound, down to a number of triangles, where these are numbers
abbrev pub simplify_of : Option ℤ → Option ℕ → Result LineMeaning ScriptWhy
simplify_of (Some max) (Some target) = Ok (EditLine (Simplify max target))
simplify_of _ _ = Err Number

-- what the words behind `task` say
unfoldable pub task_says : List (List ℕ) → Result LineMeaning ScriptWhy
task_says (lane ∷ x ∷ y ∷ z ∷ x' ∷ y' ∷ z' ∷ []) = task_of (unsigned_of lane) (point_of x y z) (point_of x' y' z')
task_says _ = Err Words

-- what the words behind `move` say
unfoldable pub move_says : List (List ℕ) → Result LineMeaning ScriptWhy
move_says (v ∷ x ∷ y ∷ z ∷ []) = move_of (name_of v) (point_of x y z)
move_says _ = Err Words

-- what the words behind `collapse` say
unfoldable pub collapse_says : List (List ℕ) → Result LineMeaning ScriptWhy
collapse_says (u ∷ v ∷ max ∷ []) = collapse_of (name_of u) (name_of v) (most_of max)
collapse_says _ = Err Words

-- what the words behind `flip` say
unfoldable pub flip_says : List (List ℕ) → Result LineMeaning ScriptWhy
flip_says (a ∷ b ∷ []) = flip_of (name_of a) (name_of b)
flip_says _ = Err Words

-- what the words behind `simplify` say
unfoldable pub simplify_says : List (List ℕ) → Result LineMeaning ScriptWhy
simplify_says (max ∷ target ∷ []) = simplify_of (most_of max) (triangles_of target)
simplify_says _ = Err Words

-- what a line says, by its first word
unfoldable pub line_says : List (List ℕ) → Result LineMeaning ScriptWhy
line_says [] = Err Word
line_says (word ∷ words) =
    if bytes_eq word (codes "task") then task_says words
    else if bytes_eq word (codes "move") then move_says words
    else if bytes_eq word (codes "collapse") then collapse_says words
    else if bytes_eq word (codes "flip") then flip_says words
    else if bytes_eq word (codes "simplify") then simplify_says words
    else Err Word
