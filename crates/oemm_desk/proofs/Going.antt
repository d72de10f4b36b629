-- A desk with one entry more.
use Rattle.std.proofs.Common.{◌≡◌, ℕ, ◌+◌, ◌<◌, ◌≤◌, cond, List, [], ◌∷◌, ◌++◌, length, Option, refl, sym, ap, ◌∙◌, subst, arith}
use Rattle.oemm_limits.specs.declared.TheConstants.{LAST_LANE, MOST_TASKS}
use Rattle.oemm_octree.specs.Leaves.{AreBelow, is_one_of}
use Rattle.mesh_data.specs.declared.edits.Entry.{Entry}
use Rattle.sheet_data.specs.declared.index.IndexSheet.{IndexSheet}
use Rattle.stored_mesh.specs.Versions.{next_of, version}
use Rattle.stored_mesh.proofs.Versions.{version_push}
use Rattle.oemm_shelf.specs.Shelves.{AreRaised, AreVersions}
use Rattle.oemm_shelf.proofs.Entering.{one_more}
use Rattle.oemm_desk.specs.Desks.{IsDesk}

-- each leaf has its version by a longer journal
versions_more : (i : IndexSheet) (old new : List ℕ) (journal : List Entry) (e : Entry) → length old ≡ length i.cells
    → AreVersions i journal old → AreRaised e.core (length journal) old new → AreVersions i (journal ++ e ∷ []) new
versions_more i old new journal e many each raised leaf lt =
    raised.is leaf (omega (arith, lt, many))
    ∙ ap (λ (k : ℕ). cond (is_one_of e.core leaf) (length journal + 1) k) (each leaf lt)
    ∙ sym (version_push journal e leaf)

pub desk_more : (i : IndexSheet) (old new : List ℕ) (holders held : List (Option ℕ)) (journal : List Entry) (e : Entry)
    → IsDesk i old holders journal → AreRaised e.core (length journal) old new → length held ≡ length holders
    → length journal < MOST_TASKS → e.task.number ≡ next_of journal e.task.lane → e.task.lane ≤ LAST_LANE
    → AreBelow (length i.cells) e.core → IsDesk i new held (journal ++ e ∷ [])
desk_more i old new holders held journal e desk raised same room turn lane below = record {
  shelf = record { tiles = desk.shelf.tiles; rules = desk.shelf.rules; each = raised.each ∙ desk.shelf.each };
  given = one_more i journal (record { number = length journal; entry = e }) room desk.given
      (record { number = refl; task = turn; lane = lane; core = below });
  each = versions_more i old new journal e desk.shelf.each desk.each raised;
  places = same ∙ desk.places;
}
