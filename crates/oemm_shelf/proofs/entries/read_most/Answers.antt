use Rattle.std.proofs.Common.{◌≡◌, ◌+◌, ℕ, List, [], ◌∷◌, ◌++◌, length, length-append, take, drop, refl, sym, ap, ◌∙◌, subst, arith, Option, Ok, Err}
use Rattle.std.specs.Prelude.{IfSome}
use Rattle.std.proofs.lemmas.List.{take-append-le, take_all}
use Rattle.std.proofs.lemmas.Result.{err_from_is_err_and}
use Rattle.oemm_blobs.proofs.Crashes.{keeps_both}
use Rattle.oemm_blobs.specs.Content.{blob_at}
use Rattle.oemm_blobs.specs.Store.{IfTold}
use Rattle.oemm_blobs.specs.declared.keys.Key.TheVariants as key
use Rattle.mesh_data.specs.declared.edits.Entry.{Entry}
use Rattle.sheet_data.specs.declared.index.NumberedEntry.{NumberedEntry}
use Rattle.oemm_shelf.specs.Opened.{entry_answer}
use Rattle.oemm_shelf.specs.Readings.{Answers}
use Rattle.oemm_shelf.specs.Shelves.{Reads}
use Rattle.oemm_shelf.specs.Shown.{AreEntries, CountLanes, IsNext}
use Rattle.oemm_shelf.specs.declared.fault.ShelfFault.TheVariants as fault
use Rattle.oemm_shelf.proofs.Entering.{Continues, continues_end, continues_full, continues_more, continues_none, continues_stop, no_entries, one_more}
use Rattle.oemm_shelf.proofs.Told.{reads_both, reads_none, same_count}
use Rattle.oemm_shelf.proofs.entries.read_most.Goals as goal

pub loop-turn-init : goal.loop-turn-init
loop-turn-init g c =
    let old = g.B.Blobs.store c.args.blobs.now in
    let none : [] ≡ c.new-entries.result.items = sym c.new-entries.ensures.items in
    record {
      told = subst (Continues old.content c.args.index.now c.args.most) none (continues_none old.content c.args.index.now c.args.most);
      counted = subst (CountLanes c.in_ok-lanes.lanes.items) none (c.in_ok-lanes.ensures.each, λ lane lt. c.in_ok-lanes.ensures.is lane);
      entries = subst (AreEntries c.args.index.now) none (no_entries c.args.index.now);
      count = ap (λ (es : List Entry). length es) (sym none);
      reads = subst (λ (es : List Entry). Reads (length es) old old) none (reads_none old);
      faults = refl;
    }

pub returns-in_err-n-clause-told : goal.returns-in_err-n-clause-told
returns-in_err-n-clause-told g c =
    let inv = c.loop-turn.invariant in
    let old = g.B.Blobs.store c.args.blobs.now in
    let now = g.B.Blobs.store c.loop-turn.blobs in
    let p = err_from_is_err_and c.from_residual-in_err-n.result c.from_residual-in_err-n.ensures.1 in
    rw (p.1, p.2)
    (continues_stop old.content c.args.index.now c.args.most c.loop-turn.entries.items inv.told
    (omega (arith, inv.count, c.loop-turn-test.true)) now.content inv.reads.keeps.content c.in_err-n.field-0.0
    (subst (λ (es : List Entry). IfTold now.content (λ m. Answers {T = Option NumberedEntry} (Err c.in_err-n.field-0.0) (entry_answer c.args.index.now es (blob_at m (key.Entry (length es))))))
    c.as_slice-in-loop-turn.ensures.value c.in_err-n.ensures.told))

pub returns-in_err-n-clause-shows : goal.returns-in_err-n-clause-shows
returns-in_err-n-clause-shows g c =
    let p = err_from_is_err_and c.from_residual-in_err-n.result c.from_residual-in_err-n.ensures.1 in
    rw (p.1, p.2) (
      c.as_slice-in-loop-turn.result.now,
      subst (AreEntries c.args.index.now) (sym c.as_slice-in-loop-turn.ensures.value) c.loop-turn.invariant.entries,
      c.in_err-n.ensures.shows,
    )

pub returns-in_err-n-clause-keeps : goal.returns-in_err-n-clause-keeps
returns-in_err-n-clause-keeps g c = keeps_both _ _ _ c.loop-turn.invariant.reads.keeps c.in_err-n.ensures.reads.keeps

pub returns-in_err-add_entry-in-Some-clause-shows : goal.returns-in_err-add_entry-in-Some-clause-shows
returns-in_err-add_entry-in-Some-clause-shows g c =
    let p = err_from_is_err_and c.from_residual-in_err-add_entry-in-Some.result c.from_residual-in_err-add_entry-in-Some.ensures.1 in
    rw (p.1, p.2) ([], no_entries c.args.index.now, tt)

pub returns-in_err-add_entry-in-Some-clause-keeps : goal.returns-in_err-add_entry-in-Some-clause-keeps
returns-in_err-add_entry-in-Some-clause-keeps g c =
    keeps_both _ _ _ c.loop-turn.invariant.reads.keeps c.in_ok-n.ensures.reads.keeps

pub returns-in-None-clause-told : goal.returns-in-None-clause-told
returns-in-None-clause-told g c =
    let inv = c.loop-turn.invariant in
    let old = g.B.Blobs.store c.args.blobs.now in
    let now = g.B.Blobs.store c.loop-turn.blobs in
    rw c.from_vec.ensures
    (continues_end old.content c.args.index.now c.args.most c.loop-turn.entries.items inv.told
    (omega (arith, inv.count, c.loop-turn-test.true)) now.content inv.reads.keeps.content
    (subst (λ (x : List Entry × Option NumberedEntry). IfTold now.content (λ m. Answers (Ok x.1) (entry_answer c.args.index.now x.0 (blob_at m (key.Entry (length x.0))))))
    (λ j. (c.as_slice-in-loop-turn.ensures.value j, c.in-None.is j)) c.in_ok-n.ensures.told))

pub returns-in-None-clause-keeps : goal.returns-in-None-clause-keeps
returns-in-None-clause-keeps g c = keeps_both _ _ _ c.loop-turn.invariant.reads.keeps c.in_ok-n.ensures.reads.keeps

pub loop-turn-preserved : goal.loop-turn-preserved
loop-turn-preserved g c =
    let inv = c.loop-turn.invariant in
    let step = c.in_ok-n.ensures in
    let n = c.in-Some.n in
    let es = c.loop-turn.entries.items in
    let index = c.args.index.now in
    let old = g.B.Blobs.store c.args.blobs.now in
    let now = g.B.Blobs.store c.loop-turn.blobs in
    let new = g.B.Blobs.store c.read_entry.new.blobs in
    let added = c.in_ok-add_entry-in-Some.ensures.entries in
    let counted = c.in_ok-add_entry-in-Some.ensures.counted in
    let lanes = c.add_entry.new.lanes in
    let len : c.loop-turn.lanes.len ≡ length lanes = omega (arith, c.loop-turn.lanes.ok.0, inv.counted.0, counted.0) in
    let same : take c.loop-turn.lanes.len (lanes ++ drop (length lanes) c.loop-turn.lanes.items) ≡ lanes =
    take-append-le c.loop-turn.lanes.len lanes (drop (length lanes) c.loop-turn.lanes.items) (omega (arith, len))
    ∙ take_all c.loop-turn.lanes.len lanes (omega (arith, len)) in
    let next : IsNext index es n =
    subst (λ (x : List Entry × Option NumberedEntry). IfSome x.1 (IsNext index x.0))
    (λ j. (c.as_slice-in-loop-turn.ensures.value j, c.in-Some.is j)) step.next in
    let long : length c.add_entry.new.entries.items ≡ length es + 1 =
    ap (λ (xs : List Entry). length xs) added ∙ length-append es (n.entry ∷ []) in
    record {
      told = subst (Continues old.content index c.args.most) (sym added)
          (continues_more old.content index c.args.most es inv.told (omega (arith, inv.count, c.loop-turn-test.true))
          now.content inv.reads.keeps.content n
          (subst (λ (x : List Entry × Option NumberedEntry). IfTold now.content (λ m. Answers (Ok x.1) (entry_answer index x.0 (blob_at m (key.Entry (length x.0))))))
          (λ j. (c.as_slice-in-loop-turn.ensures.value j, c.in-Some.is j)) step.told));
      counted = subst (λ (ls : List ℕ). CountLanes ls c.add_entry.new.entries.items) (sym same) counted;
      entries = subst (AreEntries index) (sym added)
          (one_more index es n (omega (arith, inv.count, c.loop-turn-test.true, c.requires)) inv.entries next);
      count = omega (arith, long, inv.count);
      reads = subst (λ (k : ℕ). Reads k old new) (sym long) (reads_both (length es) 1 old now new inv.reads step.reads);
      faults = same_count fault.Store now.faults new.faults c.in_ok-n.field-0 step.cause ∙ inv.faults;
    }

pub returns-clause-told : goal.returns-clause-told
returns-clause-told g c =
    let inv = c.loop-turn.invariant in
    let old = g.B.Blobs.store c.args.blobs.now in
    rw c.from_vec-2.ensures
    (continues_full old.content c.args.index.now c.args.most c.loop-turn.entries.items inv.told
    (omega (arith, inv.count, c.loop-turn-test.false)))
