use Rattle.std.proofs.Common.{◌≡◌, ℕ, List, length, sym, ap, ◌∙◌, subst, arith, Err, Ok}
use Rattle.std.proofs.lemmas.List.{length-map}
use Rattle.std.proofs.lemmas.Result.{err_from_is_err_and}
use Rattle.oemm_blobs.proofs.Crashes.{keeps_both}
use Rattle.oemm_octree.specs.Leaves.{AreBelow}
use Rattle.mesh_sheets.specs.Assembled.{rim_of}
use Rattle.patch_assembly.specs.Clashes.{Makes, made}
use Rattle.sheet_data.specs.declared.patches.Patch.{Patch}
use Rattle.sheet_data.specs.declared.sheets.LeafSheet.{LeafSheet}
use Rattle.sheet_forms.proofs.Storable.{rim_below}
use Rattle.oemm_shelf.proofs.Gathered.{gathered, shows_assembly}
use Rattle.oemm_shelf.proofs.cores.read_patch.Goals as goal

pub read_sheets-requires-2-clause-below : goal.read_sheets-requires-2-clause-below
read_sheets-requires-2-clause-below g c =
    subst (AreBelow (length c.args.index.now.cells)) (sym (c.slice-3.ensures.items ∙ c.in_ok-rim.ensures))
    (rim_below c.args.index.now.cells c.args.core.now c.slice-2.result.now)

pub returns-in_err-assemble-clause-keeps : goal.returns-in_err-assemble-clause-keeps
returns-in_err-assemble-clause-keeps g c =
    keeps_both _ _ _ c.in_ok-inner.ensures.reads.keeps c.in_ok-outer.ensures.reads.keeps

pub returns-clause-keeps : goal.returns-clause-keeps
returns-clause-keeps g c = keeps_both _ _ _ c.in_ok-inner.ensures.reads.keeps c.in_ok-outer.ensures.reads.keeps

pub returns-in_err-assemble-clause-shows : goal.returns-in_err-assemble-clause-shows
returns-in_err-assemble-clause-shows g c =
    let p = err_from_is_err_and c.from_residual-in_err-assemble.result c.from_residual-in_err-assemble.ensures.1 in
    let inner = c.in_ok-inner.inner in
    let outer = c.in_ok-outer.outer in
    let made_is : Makes {T = Patch} (Err c.in_err-assemble.field-0.0) (made c.args.core.now inner outer) =
    subst (λ (x : List LeafSheet × List LeafSheet). Makes {T = Patch} (Err c.in_err-assemble.field-0.0) (made c.args.core.now x.0 x.1))
    (λ j. (c.slice-4.ensures j, c.slice-5.ensures j)) c.in_err-assemble.ensures in
    rw (p.1, p.2)
    (shows_assembly c.args.index.now c.args.versions.now c.args.core.now _ _ inner outer c.in_err-assemble.field-0.0
    (gathered c.args.index.now c.args.versions.now c.args.core.now c.in_ok-rim.rim inner outer c.requires.shelf
    (c.in_ok-inner.ensures.leaves ∙ c.slice.ensures.items) c.in_ok-inner.ensures.formed
    (c.in_ok-outer.ensures.leaves ∙ c.slice-3.ensures.items) c.in_ok-outer.ensures.formed
    (c.in_ok-rim.ensures ∙ ap (rim_of c.args.index.now.cells c.args.core.now) c.slice-2.ensures))
    made_is
    (omega (
      arith,
      c.in_ok-inner.ensures.reads.gets,
      c.in_ok-outer.ensures.reads.gets,
      ap (λ (ls : List ℕ). length ls) c.slice.ensures.items,
      ap (λ (ls : List ℕ). length ls) c.in_ok-outer.ensures.leaves,
      length-map outer (λ (s : LeafSheet). s.leaf),
    )))

pub returns-clause-shows : goal.returns-clause-shows
returns-clause-shows g c =
    let inner = c.in_ok-inner.inner in
    let outer = c.in_ok-outer.outer in
    let made_is : made c.args.core.now inner outer ≡ Ok c.in_ok-assemble.field-0 =
    subst (λ (x : List LeafSheet × List LeafSheet). made c.args.core.now x.0 x.1 ≡ Ok c.in_ok-assemble.field-0)
    (λ j. (c.slice-4.ensures j, c.slice-5.ensures j)) c.in_ok-assemble.ensures in (
      inner,
      outer,
      gathered c.args.index.now c.args.versions.now c.args.core.now c.in_ok-rim.rim inner outer c.requires.shelf
          (c.in_ok-inner.ensures.leaves ∙ c.slice.ensures.items) c.in_ok-inner.ensures.formed
          (c.in_ok-outer.ensures.leaves ∙ c.slice-3.ensures.items) c.in_ok-outer.ensures.formed
          (c.in_ok-rim.ensures ∙ ap (rim_of c.args.index.now.cells c.args.core.now) c.slice-2.ensures),
      made_is,
      omega (
        arith,
        c.in_ok-inner.ensures.reads.gets,
        c.in_ok-outer.ensures.reads.gets,
        ap (λ (ls : List ℕ). length ls) c.slice.ensures.items,
        ap (λ (ls : List ℕ). length ls) c.in_ok-outer.ensures.leaves,
        length-map outer (λ (s : LeafSheet). s.leaf),
      ),
    )
