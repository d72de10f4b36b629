-- What is read of a script, line by line, and of a source that was taken whole.
use Rattle.std.proofs.Common.{◌≡◌, ◌≢◌, ℕ, ◌<◌, ◌≤◌, List, [], ◌∷◌, ◌++◌, length, Some, None, Result, Ok, Err, refl, ap, sym, subst, ◌∙◌, cond, true, false, Bool, nat_lt, IfSome, IfOk, IfErr, arith, append-nil}
use Rattle.std.proofs.lemmas.Bool.Decides.{nat_tests}
use Rattle.oemm_limits.specs.declared.TheConstants.{MOST_SCRIPT_BYTES}
use Rattle.fault_counts.specs.Told.{Told, Takes, IsAtEnd}
use Rattle.oemm_io.specs.Whole.{IsLongerThan}
use Rattle.oemm_io.specs.declared.whole.TakeFault.{TakeFault}
use Rattle.oemm_io.specs.declared.whole.TakeFault.TheVariants as take
use Rattle.oemm_io.specs.declared.whole.TakeFault.TheVariants.{Failed}
use Rattle.oemm_lines.specs.declared.parts.Word.{Word}
use Rattle.oemm_lines.specs.declared.parts.Line.{Line}
use Rattle.oemm_lines.specs.declared.parts.LineFault.{LineFault}
use Rattle.oemm_lines.specs.Stream.{Flow, texts_of, line_then, fault_alone, nothing_more, told_lines}
use Rattle.mesh_data.specs.declared.edits.Task.{Task}
use Rattle.mesh_data.specs.declared.edits.Script.{Script}
use Rattle.oemm_limits.specs.declared.what.What.TheVariants.{ScriptBytes}
use Rattle.edit_script.specs.declared.fault.ScriptFault.{ScriptFault}
use Rattle.edit_script.specs.declared.fault.ScriptFault.TheVariants.{Read, Syntax, TooMany, Memory}
use Rattle.edit_script.specs.Line.{line_says}
use Rattle.edit_script.specs.Grammar.{after_line, has_words, fault_of_line, tasks_after, tasks_of, script_of, ◌>>=◌}
use Rattle.edit_script.specs.Script.{StopsBy, GivesScript, fault_of_take}

-- a line has words, unless it has none
words_there : (words : List Word) → words ≢ [] → nat_lt 0 (length words) ≡ true
words_there [] some = absurd (some refl)
words_there (w ∷ ws) some = grind (arith, nat_tests)

-- a line without words says nothing
pub tasks_passed :
    (tasks : List Task) (l : Line) (flow : Flow) → l.words ≡ [] → tasks_of tasks (line_then l flow) ≡ tasks_of tasks flow
tasks_passed tasks l flow none =
    let bare : has_words l ≡ false = ap (λ (ws : List Word). nat_lt 0 (length ws)) none in
    rw bare

-- the lines from one with words on
tasks_from :
    (tasks : List Task) (l : Line) (flow : Flow) → l.words ≢ [] →
    tasks_of tasks (line_then l flow) ≡ (after_line l.number tasks (line_says (texts_of l)) >>= λ more. tasks_of more flow)
unfolding tasks_after
tasks_from tasks l flow some =
    let there : has_words l ≡ true = words_there l.words some in
    rw there

-- a line that is read
pub tasks_read :
    (tasks more : List Task) (l : Line) (flow : Flow) → l.words ≢ [] →
    after_line l.number tasks (line_says (texts_of l)) ≡ Ok more →
    tasks_of tasks (line_then l flow) ≡ tasks_of more flow
tasks_read tasks more l flow some read =
    tasks_from tasks l flow some
    ∙ ap (λ (outcome : Result (List Task) ScriptFault). outcome >>= λ next. tasks_of next flow) read

stops_first :
    (first : Result (List Task) ScriptFault) (next : List Task → Result (List Task) ScriptFault) (fault : ScriptFault) →
    StopsBy fault first → StopsBy fault (first >>= next)
stops_first first next Read h = h
stops_first first next (Syntax number why) h = ap (λ (outcome : Result (List Task) ScriptFault). outcome >>= next) h
stops_first first next (TooMany what count) h = ap (λ (outcome : Result (List Task) ScriptFault). outcome >>= next) h
stops_first first next Memory h = tt

-- a line with a fault
pub tasks_fault :
    (tasks : List Task) (l : Line) (flow : Flow) (fault : ScriptFault) → l.words ≢ [] →
    StopsBy fault (after_line l.number tasks (line_says (texts_of l))) →
    StopsBy fault (tasks_of tasks (line_then l flow))
tasks_fault tasks l flow fault some stops =
    subst (StopsBy fault) (sym (tasks_from tasks l flow some))
    (stops_first (after_line l.number tasks (line_says (texts_of l))) (λ more. tasks_of more flow) fault stops)

-- no further line
pub tasks_none : (tasks : List Task) → tasks_of tasks nothing_more ≡ Ok tasks
unfolding tasks_after
tasks_none tasks = refl

-- a fault that stands in the place of a line
pub tasks_stop : (tasks : List Task) (fault : LineFault) → tasks_of tasks (fault_alone fault) ≡ Err (fault_of_line fault)
unfolding tasks_after
tasks_stop tasks fault = refl

-- a script within the limit of bytes is that of its lines
pub script_of_short :
    (bytes : List ℕ) → length bytes ≤ MOST_SCRIPT_BYTES → script_of bytes ≡ tasks_of [] (told_lines true MOST_SCRIPT_BYTES 0 1 bytes)
unfolding script_of
script_of_short bytes h =
    let within : nat_lt MOST_SCRIPT_BYTES (length bytes) ≡ false = grind (arith, nat_tests) in
    ap (λ (long : Bool). cond long (Err (TooMany ScriptBytes MOST_SCRIPT_BYTES)) (tasks_of [] (told_lines true MOST_SCRIPT_BYTES 0 1 bytes))) within

-- a script above the limit of bytes
pub script_of_long :
    (bytes : List ℕ) → MOST_SCRIPT_BYTES < length bytes → script_of bytes ≡ Err (TooMany ScriptBytes MOST_SCRIPT_BYTES)
unfolding script_of
script_of_long bytes h =
    let above : nat_lt MOST_SCRIPT_BYTES (length bytes) ≡ true = grind (arith, nat_tests) in
    ap (λ (long : Bool). cond long (Err (TooMany ScriptBytes MOST_SCRIPT_BYTES)) (tasks_of [] (told_lines true MOST_SCRIPT_BYTES 0 1 bytes))) above

-- what holds of the bytes that were taken, to the end, holds of what is told
pub told_whole :
    (old new : Told) (bytes : List ℕ) (P : List ℕ → Type 0) → Takes old new bytes → IsAtEnd new → P bytes → IfSome old P
told_whole None new bytes P taken end h = tt
told_whole (Some all) None bytes P taken end h = cc
told_whole (Some all) (Some rest) bytes P taken end h =
    let same : all ≡ bytes ++ rest = cc in
    let whole : bytes ≡ all = sym (append-nil bytes) ∙ ap (λ (more : List ℕ). bytes ++ more) (sym end) ∙ sym same in
    subst P whole h

-- a source that can't be taken whole
pub told_fault :
    (old : Told) (fault : TakeFault) → (fault ≡ take.TooMany → IsLongerThan old MOST_SCRIPT_BYTES) →
    IfSome old (λ bytes. GivesScript (Err (fault_of_take fault)) (script_of bytes))
told_fault None fault h = tt
told_fault (Some bytes) Failed h = tt
told_fault (Some bytes) take.TooMany h = script_of_long bytes (h refl)
told_fault (Some bytes) take.Memory h = tt

-- an answer for the bytes
pub gives_script :
    (answer : Result Script ScriptFault) (reading : Result (List Task) ScriptFault) →
    IfOk answer (λ script. reading ≡ Ok script.tasks) → IfErr answer (λ fault. StopsBy fault reading) →
    GivesScript answer reading
gives_script (Ok script) reading ok err = ok
gives_script (Err Read) reading ok err = tt
gives_script (Err (Syntax line why)) reading ok err = err
gives_script (Err (TooMany what count)) reading ok err = err
gives_script (Err Memory) reading ok err = tt
