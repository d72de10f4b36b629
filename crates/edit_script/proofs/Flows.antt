-- What the lines of held bytes say, call by call.
use Rattle.std.proofs.Common.{◌≡◌, ℕ, true, List, ◌++◌, Option, Some, None, Ok, Err, refl, ap, subst, ◌∙◌, arith}
use Rattle.oemm_limits.specs.declared.TheConstants.{MOST_SCRIPT_BYTES}
use Rattle.fault_counts.specs.Counts.{Rose, TellsFailure}
use Rattle.fault_counts.specs.Told.{Told}
use Rattle.oemm_lines.specs.declared.parts.Line.{Line}
use Rattle.oemm_lines.specs.declared.parts.LineFault.{LineFault}
use Rattle.oemm_lines.specs.declared.parts.LineFault.TheVariants as line
use Rattle.oemm_lines.specs.declared.parts.LineFault.TheVariants.{TooLong, Bytes}
use Rattle.oemm_lines.specs.Stream.{Flow, Stream, GivesLine, GivesNext, Says, line_then, nothing_more, flow_of, fresh_stream, told_lines}
use Rattle.mesh_data.specs.declared.edits.Task.{Task}
use Rattle.edit_script.specs.Grammar.{fault_of_line, tasks_of}
use Rattle.edit_script.specs.Script.{StopsBy}
use Rattle.edit_script.proofs.Readings.{tasks_stop}

-- before the first call
pub fresh_flow : {S : Type 0} (s : Stream S) (left bytes : List ℕ) → s ≡ fresh_stream MOST_SCRIPT_BYTES true s.source → left ≡ bytes → flow_of s (s.ahead ++ left) ≡ told_lines true MOST_SCRIPT_BYTES 0 1 bytes
fresh_flow {S} s left bytes fresh same = ap (λ (t : Stream S). flow_of t (t.ahead ++ left)) fresh ∙ ap (told_lines true MOST_SCRIPT_BYTES 0 1) same

pub begins_there : {S : Type 0} (s : Stream S) → s ≡ fresh_stream MOST_SCRIPT_BYTES true s.source → (s.at ≡ 0) × (s.number ≡ 1) × (s.fault ≡ None) × (s.budget ≡ MOST_SCRIPT_BYTES)
begins_there {S} s fresh = (
  ap (λ (t : Stream S). t.at) fresh,
  ap (λ (t : Stream S). t.number) fresh,
  ap (λ (t : Stream S). t.fault) fresh,
  ap (λ (t : Stream S). t.budget) fresh,
)

-- a line was given
pub line_told : (old new : Flow) (answer : Option Line) (l : Line) → answer ≡ Some l → Says (Some old) (Ok answer) (Some new) → old ≡ line_then l new
line_told old new answer l is says =
    let told : Some old ≡ Some (line_then l new) = subst (λ (a : Option Line). Says (Some old) (Ok a) (Some new)) is says in
    cc

pub line_given : {S : Type 0} (told : S → Told) (old new : Stream S) (answer : Option Line) (l : Line) → answer ≡ Some l → GivesNext told old (Ok answer) new → GivesLine told old l new
line_given told old new answer l is gives = subst (λ (a : Option Line). GivesNext told old (Ok a) new) is gives

-- no line was given
pub none_told : (old new : Flow) (answer : Option Line) → answer ≡ None → Says (Some old) (Ok answer) (Some new) → old ≡ nothing_more
none_told old new answer is says =
    let told = subst (λ (a : Option Line). Says (Some old) (Ok a) (Some new)) is says in
    told.0

-- a source that never fails gives no fault of reading
pub never_read :
    (fault : LineFault) → TellsFailure {T = Option Line} line.Read 0 0 (Err fault) → fault ≡ line.Read → ⊥
never_read fault tells is =
    let rose : Rose 0 0 = tells.cause (ap Err is) in
    omega arith

-- a fault was given, and not that of a source that failed
pub fault_told :
    (tasks : List Task) (old new : Flow) (fault : LineFault) → (fault ≡ line.Read → ⊥) → Says (Some old) (Err fault) (Some new) →
    StopsBy (fault_of_line fault) (tasks_of tasks old)
fault_told tasks old new line.Read other says = absurd (other refl)
fault_told tasks old new (TooLong at) other says = ap (tasks_of tasks) says.0 ∙ tasks_stop tasks (TooLong at)
fault_told tasks old new (Bytes taken) other says = ap (tasks_of tasks) says.0 ∙ tasks_stop tasks (Bytes taken)
fault_told tasks old new line.Memory other says = tt
