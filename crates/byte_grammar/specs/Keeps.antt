-- Rules of lists, unit by unit.
use Rattle.std.specs.Prelude.{List, [], ◌∷◌, ◌++◌}

-- each unit keeps the rule with those before it
abbrev pub Keeps : {A : Type 0} → (List A → A → Type 0) → List A → List A → Type 0
Keeps Rule before [] = Unit {0}
Keeps Rule before (x ∷ xs) = Rule before x × Keeps Rule (before ++ x ∷ []) xs

abbrev pub Always : Type 0
Always = Unit {0}

-- the same of a value
abbrev pub IsAlways : {A : Type 0} → A → Type 0
IsAlways x = Always
