-- What the pieces of the document say.
use Rattle.std.proofs.Common.{map, Ok, Err}
use Rattle.droid_xml.specs.Views.{part}
use Rattle.droid_signature_file.proofs.KeptPieces.{says_file}
use Rattle.droid_signature_file.proofs.file.read_text.Goals as goal

pub returns-in-Ok-said : goal.returns-in-Ok-said
returns-in-Ok-said c =
    let (parts, document, kept) = c.in-Ok.ensures.found in
    (parts, document, says_file parts (map part c.in-Ok.pieces.items) (Ok c.in-Ok-said.file) kept (rw c.as_slice.ensures.value at c.in-Ok-said.ensures))

pub returns : goal.returns
returns c =
    let (parts, document, kept) = c.in-Ok.ensures.found in
    let reported = rw c.in-Err-Wrong.field-0-is at c.in-Err-Wrong.ensures in
    (parts, document, says_file parts (map part c.in-Ok.pieces.items) (Err c.in-Err-Wrong.wrong) kept (rw c.as_slice.ensures.value at reported))
