use Rattle.std.proofs.Common.{◌≡◌, ◌+◌, ◌-◌, ◌≤◌, [], ◌++◌, true, None}
use Rattle.oemm_limits.specs.declared.TheConstants.{MOST_SCRIPT_BYTES}
use Rattle.oemm_lines.specs.Stream.{told_lines, flow_of}
use Rattle.edit_script.specs.Grammar.{tasks_of}
use Rattle.edit_script.proofs.script.script_of_bytes.Given as goal

abbrev pub invariant-loop-draft : goal.invariant-loop-draft
invariant-loop-draft l = record {
  tasks : tasks_of [] (told_lines true MOST_SCRIPT_BYTES 0 1 l.bytes) ≡ tasks_of l.draft (flow_of l.lines (l.lines.ahead ++ l.lines.source.left.now));
  calm : l.lines.fault ≡ None;
  budget : l.lines.budget ≡ MOST_SCRIPT_BYTES;
  place : l.lines.at ≤ MOST_SCRIPT_BYTES;
  count : l.lines.number ≤ l.lines.at + 1;
}

abbrev pub decreases-loop-draft : goal.decreases-loop-draft
decreases-loop-draft l = MOST_SCRIPT_BYTES - l.lines.at
