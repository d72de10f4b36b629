-- A line with another number of words than it needs.
use Rattle.std.proofs.Common.{◌≡◌, ◌≢◌, ℕ, List, [], ◌∷◌, length, Err, refl}
use Rattle.edit_script.specs.declared.fault.ScriptWhy.TheVariants.{Words}
use Rattle.edit_script.specs.Line.{task_says, move_says, collapse_says, flip_says, simplify_says}

-- words behind `task` that aren't seven
pub task_says_count : (words : List (List ℕ)) → length words ≢ 7 → task_says words ≡ Err Words
unfolding task_says
task_says_count [] h = refl
task_says_count (a ∷ []) h = refl
task_says_count (a ∷ b ∷ []) h = refl
task_says_count (a ∷ b ∷ c ∷ []) h = refl
task_says_count (a ∷ b ∷ c ∷ d ∷ []) h = refl
task_says_count (a ∷ b ∷ c ∷ d ∷ e ∷ []) h = refl
task_says_count (a ∷ b ∷ c ∷ d ∷ e ∷ f ∷ []) h = refl
task_says_count (a ∷ b ∷ c ∷ d ∷ e ∷ f ∷ g ∷ []) h = absurd (h refl)
task_says_count (a ∷ b ∷ c ∷ d ∷ e ∷ f ∷ g ∷ i ∷ ws) h = refl

-- words behind `move` that aren't four
pub move_says_count : (words : List (List ℕ)) → length words ≢ 4 → move_says words ≡ Err Words
unfolding move_says
move_says_count [] h = refl
move_says_count (a ∷ []) h = refl
move_says_count (a ∷ b ∷ []) h = refl
move_says_count (a ∷ b ∷ c ∷ []) h = refl
move_says_count (a ∷ b ∷ c ∷ d ∷ []) h = absurd (h refl)
move_says_count (a ∷ b ∷ c ∷ d ∷ e ∷ ws) h = refl

-- words behind `collapse` that aren't three
pub collapse_says_count : (words : List (List ℕ)) → length words ≢ 3 → collapse_says words ≡ Err Words
unfolding collapse_says
collapse_says_count [] h = refl
collapse_says_count (a ∷ []) h = refl
collapse_says_count (a ∷ b ∷ []) h = refl
collapse_says_count (a ∷ b ∷ c ∷ []) h = absurd (h refl)
collapse_says_count (a ∷ b ∷ c ∷ d ∷ ws) h = refl

-- words behind `flip` that aren't two
pub flip_says_count : (words : List (List ℕ)) → length words ≢ 2 → flip_says words ≡ Err Words
unfolding flip_says
flip_says_count [] h = refl
flip_says_count (a ∷ []) h = refl
flip_says_count (a ∷ b ∷ []) h = absurd (h refl)
flip_says_count (a ∷ b ∷ c ∷ ws) h = refl

-- words behind `simplify` that aren't two
pub simplify_says_count : (words : List (List ℕ)) → length words ≢ 2 → simplify_says words ≡ Err Words
unfolding simplify_says
simplify_says_count [] h = refl
simplify_says_count (a ∷ []) h = refl
simplify_says_count (a ∷ b ∷ []) h = absurd (h refl)
simplify_says_count (a ∷ b ∷ c ∷ ws) h = refl
