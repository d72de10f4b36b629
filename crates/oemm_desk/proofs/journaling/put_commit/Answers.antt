use Rattle.std.proofs.Common.{◌≡◌, ℕ, List, Some}
use Rattle.std.proofs.lemmas.Result.{err_from_is_err_and}
use Rattle.sheet_data.specs.declared.index.NumberedEntry.{NumberedEntry}
use Rattle.leaf_codec.specs.Entries.{IsEntrySpelling}
use Rattle.leaf_codec.specs.declared.formats.TheConstants.{NEWEST}
use Rattle.oemm_blobs.specs.declared.keys.Key.TheVariants as key
use Rattle.store_spelling.specs.Spelled.{store_spelling}
use Rattle.oemm_desk.proofs.Ways.{puts_weaker, with_entry}
use Rattle.oemm_desk.proofs.journaling.put_commit.Goals as goal

pub returns-in_err-put_sheets-clause-puts : goal.returns-in_err-put_sheets-clause-puts
returns-in_err-put_sheets-clause-puts g c =
    let p = err_from_is_err_and c.from_residual.result c.from_residual.ensures.1 in
    rw (p.1, p.2) (c.in_err-put_sheets.ensures.refused c.args.entry.now)

pub returns-clause-puts : goal.returns-clause-puts
returns-clause-puts g c =
    let old = g.B.Blobs.store c.args.shelf.now.blobs in
    let mid = g.B.Blobs.store c.put_sheets.new.shelf.blobs in
    let new = g.B.Blobs.store c.put_entry.new.self.blobs in
    let numbered : NumberedEntry = record { number = c.args.number; entry = c.args.entry.now } in
    with_entry c.args.number c.args.sheets.now old mid c.in_ok-put_sheets.ensures.puts c.args.entry.now new c.put_entry.result
    (puts_weaker (key.Entry c.args.number) (λ bytes. IsEntrySpelling NEWEST bytes numbered)
    (λ bytes. store_spelling.entry bytes ≡ Some numbered) mid new c.put_entry.result
    (λ bytes is. c.writing_laws.ensures.entries NEWEST bytes numbered is) c.put_entry.ensures.puts)
