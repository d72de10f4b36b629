use Rattle.std.proofs.Common.{◌++◌, ap, append_assoc}
use Rattle.std.specs.Prelude.{codes}
use Rattle.std.specs.Fmt.{decimal}
use Rattle.std.specs.String.{string_bytes}
use Rattle.oemm_run.specs.End.{script_why_text}
use Rattle.oemm_run.proofs.Pieces.{written_in_two, written_as}
use Rattle.oemm_run.proofs.end_line.put_script_fault.Goals as goal

pub returns : goal.returns
returns c =
    let number = decimal c.args.line in
    let front = codes "script fault in line " ++ (number ++ codes ": ") in
    let why = script_why_text c.args.why.now in
    let old = string_bytes c.args.text.now in
    let new = string_bytes c.put_script_why.new.text in
    written_as c.put_script_why.result old new (front ++ why) (codes "script fault in line " ++ (number ++ (codes ": " ++ why)))
    (ap (λ text. codes "script fault in line " ++ text) (append_assoc number (codes ": ") why))
    (written_in_two c.put_script_why.result old (string_bytes c.write.new.self) new front why c.in_ok-write.ensures.bytes c.put_script_why.ensures)
