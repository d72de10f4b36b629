-- A script that is written is read as itself.
use Rattle.std.proofs.Common.{◌≡◌, ◌⊎◌, inl, inr, refl, ℕ, ◌+◌, ◌≤◌, List, length, map, flat_map, Result, Ok, Err, MatchResult, ap, sym, subst, ◌∙◌, arith}
use Rattle.std.specs.List.{AllByRecursion}
use Rattle.std.proofs.lemmas.List.Elements.{All-weaker, recursion_from_All}
use Rattle.oemm_limits.specs.declared.TheConstants.{MOST_SCRIPT_BYTES}
use Rattle.oemm_lists.specs.TextLine.{line}
use Rattle.mesh_data.specs.declared.edits.Script.{Script}
use Rattle.mesh_data.specs.declared.edits.Task.{Task}
use Rattle.edit_script.specs.Grammar.{script_of}
use Rattle.edit_script.specs.Script.{GivesScript}
use Rattle.edit_script.specs.Tells.{AreInOrder, HasFewEdits, TellsScript, script_lines}
use Rattle.edit_script.specs.declared.fault.ScriptFault.{ScriptFault}
use Rattle.edit_script.specs.declared.fault.ScriptFault.TheVariants.{Read, Syntax, TooMany, Memory}
use Rattle.edit_script.proofs.Tellings.{script_read}
use Rattle.oemm_make.specs.Fits.{FitsScript, FitsTask}
use Rattle.oemm_make.specs.Text.{script_text}
use Rattle.oemm_make.proofs.Lines.{ReadsLines, read_lines}
use Rattle.oemm_make.proofs.Says.{all_told, all_written, lines_of, text_is}

in_order : (tasks : List Task) → FitsScript tasks → AreInOrder tasks
in_order tasks fits = record {
  few = fits.few;
  each = All-weaker FitsTask HasFewEdits (λ task fit. fit.few) tasks fits.each;
  numbered = fits.numbered;
}

text_tells : (tasks : List Task) → FitsScript tasks → length (script_text tasks) ≤ MOST_SCRIPT_BYTES → TellsScript (script_text tasks) tasks
text_tells tasks fits short =
    let each : AllByRecursion FitsTask tasks = recursion_from_All FitsTask tasks fits.each in
    let is : script_text tasks ≡ flat_map line (flat_map lines_of tasks) = text_is tasks in
    let within : 0 + length (flat_map line (flat_map lines_of tasks)) ≤ MOST_SCRIPT_BYTES
    = omega (arith, ap (λ (t : List ℕ). length t) is) in
    let reads : ReadsLines (flat_map lines_of tasks) (script_lines (flat_map line (flat_map lines_of tasks)))
    = read_lines (flat_map lines_of tasks) 0 1 (all_written tasks each) within in
    let here : ReadsLines (flat_map lines_of tasks) (script_lines (script_text tasks))
    = subst (λ (bytes : List ℕ). ReadsLines (flat_map lines_of tasks) (script_lines bytes)) (sym is) reads in
    record { short = short; whole = here.whole; told = (here.told ∙ all_told tasks each, in_order tasks fits) }

pub text_read : (tasks : List Task) → FitsScript tasks → length (script_text tasks) ≤ MOST_SCRIPT_BYTES → script_of (script_text tasks) ≡ Ok tasks
text_read tasks fits short = script_read (script_text tasks) tasks (text_tells tasks fits short)

-- what a reader answers of it
answer_is : (tasks : List Task) (reading : Result (List Task) ScriptFault) (answer : Result Script ScriptFault) → reading ≡ Ok tasks → GivesScript answer reading →
    MatchResult answer (λ script. script.tasks ≡ tasks) (λ fault. (fault ≡ Read) ⊎ (fault ≡ Memory))
answer_is tasks reading (Ok script) is gives = let same : ◌≡◌ {A = Result (List Task) ScriptFault} (Ok script.tasks) (Ok tasks) = sym gives ∙ is in cc
answer_is tasks reading (Err Read) is gives = inl refl
answer_is tasks reading (Err (Syntax at why)) is gives = absurd (cc)
answer_is tasks reading (Err (TooMany what count)) is gives = absurd (cc)
answer_is tasks reading (Err Memory) is gives = inr refl

pub text_answered : (tasks : List Task) (answer : Result Script ScriptFault) → FitsScript tasks → length (script_text tasks) ≤ MOST_SCRIPT_BYTES →
    GivesScript answer (script_of (script_text tasks)) → MatchResult answer (λ script. script.tasks ≡ tasks) (λ fault. (fault ≡ Read) ⊎ (fault ≡ Memory))
text_answered tasks answer fits short gives = answer_is tasks (script_of (script_text tasks)) answer (text_read tasks fits short) gives
