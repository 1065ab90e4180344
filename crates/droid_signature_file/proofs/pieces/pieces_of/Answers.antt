-- One more piece, the end, and a fault.
use Rattle.std.proofs.Common.{map, arith}
use Rattle.droid_xml.specs.Views.{part, place}
use Rattle.droid_xml.proofs.Reading.{fault_of_rest}
use Rattle.droid_signature_file.specs.Tables.{depth_behind}
use Rattle.droid_signature_file.proofs.KeptPieces.{kept_more, kept_whole, next_depth}
use Rattle.droid_signature_file.proofs.pieces.pieces_of.Goals as goal

pub returns-in-Err-clause-fault : goal.returns-in-Err-clause-fault
returns-in-Err-clause-fault c = fault_of_rest c.args.text.now c.loop.invariant.0.parts (place c.loop.reader) c.in-Err.fault c.loop.invariant.0.read c.in-Err.ensures.0

pub returns-in-Ok-None-clause-found : goal.returns-in-Ok-None-clause-found
returns-in-Ok-None-clause-found c =
    let step = rw c.in-Ok-None.field-0-is at c.in-Ok-None.ensures in
    kept_whole c.args.text.now (map part c.loop.pieces.items) c.loop.depth (place c.loop.reader) c.loop.invariant.0 step.0

pub loop-preserved : goal.loop-preserved
loop-preserved c =
    let step = rw c.in-Ok-Some.field-0-is at c.in-Ok-Some.ensures in
    let more = kept_more c.args.text.now (map part c.loop.pieces.items) c.loop.depth (place c.loop.reader) (place c.next.new.self) (part c.in-Ok-Some.piece) c.loop.invariant.0 step in
    let deeper = next_depth c.loop.depth (part c.in-Ok-Some.piece) in
    (rw (c.in_ok-add_kept-in-Ok-Some.ensures.added, c.depth_behind-behind.ensures) more, omega (arith, c.depth_behind-behind.ensures, c.loop.invariant.1))
