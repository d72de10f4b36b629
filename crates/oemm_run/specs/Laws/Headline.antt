-- The headline: what a run that is done has written.
use Rattle.std.specs.Prelude.{◌≡◌, ℕ, List, ◌++◌, Option, Some, None, Ok}
use Rattle.mesh_data.specs.declared.geometry.Soup.{Soup}
use Rattle.mesh_data.specs.declared.edits.Task.{Task}
use Rattle.mesh_data.specs.declared.edits.Entry.{Entry}
use Rattle.mesh_data.specs.Keeps.{EachKeeps, tasks_of}
use Rattle.mesh_data.specs.Manifold.{IsManifold}
use Rattle.mesh_data.specs.Mesh.{Mesh, start}
use Rattle.mesh_data.specs.Work.{play}
use Rattle.mesh_out.specs.MeshBytes.{mesh_bytes}
use Rattle.commit_journal.specs.Text.{journal_text}
use Rattle.edit_script.specs.Grammar.{script_of}
use Rattle.oemm_run.specs.declared.end.End.{End}
use Rattle.oemm_run.specs.declared.end.End.TheVariants.{Done}
use Rattle.oemm_words.specs.declared.orders.Order.{Order}
use Rattle.oemm_words.specs.declared.orders.Order.TheVariants.{Run}
use Rattle.oemm_run.specs.Commands.Run.{Asked, one_leaf}
use Rattle.oemm_run.specs.Outside.{Outside, Wrote}
use Rattle.oemm_run.specs.Report.{summary}
use Rattle.oemm_run.specs.Soup.{soup_of}
use Rattle.oemm_words.specs.Words.{order_of}

-- the words are those of a run that asks for this
abbrev pub AskFor : Option Order → Asked → Type 0
AskFor None asked = ⊥
AskFor (Some (Run mesh script out form cap core cache workers)) asked = asked ≡ record { form = form; core = core }

-- The mesh that was written, in the format that the words ask for, is the one that the journal's tasks leave, done one by
-- one on the whole mesh that the first bytes say, which is a manifold. The journal has the tasks of the script that the
-- second bytes say, each once and in their order, with the replies of that point. Each task leaves a manifold with the
-- Euler characteristic and the border that it found. Nothing else was written, and both sinks are finished.
pub record WritesPlay (words : List (List ℕ)) (before after : Outside) (bytes text : List ℕ) : Type 0 where
  pub asked : Asked
  pub words_ask : AskFor (order_of words) asked
  pub soup : Soup
  pub mesh_said : soup_of bytes ≡ Ok soup
  pub manifold : IsManifold (start soup)
  pub tasks : List Task
  pub script_said : script_of text ≡ Ok tasks
  pub mesh : Mesh
  pub journal : List Entry
  pub each_once : tasks_of journal ≡ tasks
  pub one_by_one : play one_leaf asked.core (start soup) (tasks_of journal) ≡ record { mesh = mesh; journal = journal }
  pub keeps : EachKeeps one_leaf asked.core (start soup) (tasks_of journal)
  pub out : Wrote before.out after.out (mesh_bytes asked.form mesh)
  pub report : Wrote before.report after.report (journal_text 0 journal ++ summary mesh)

-- where both sources tell their bytes, a run that ends Done has written the play of what they say
abbrev pub Headline : List (List ℕ) → Outside → Outside → End → Type 0
Headline words before after end =
    (bytes text : List ℕ) → before.mesh.left ≡ Some bytes → before.script.left ≡ Some text → end ≡ Done
    → WritesPlay words before after bytes text
