use Rattle.std.proofs.Common.{[], ◌∷◌, List, map, sym, ap, subst, ◌∙◌}
use Rattle.std.proofs.lemmas.List.{map-append}
use Rattle.droid_xml.specs.Pieces.{Part}
use Rattle.droid_xml.specs.Views.{part, place}
use Rattle.droid_xml.proofs.Reading.{HasRead, fault_of_rest, only_memory, read_more, read_only, read_whole}
use Rattle.droid_xml.proofs.reader.read.Goals as goal

pub returns-in-Err-clause-only : goal.returns-in-Err-clause-only
returns-in-Err-clause-only c parts document = only_memory c.args.text.now (map part c.loop.pieces.items) parts (place c.loop.reader) c.in-Err.fault c.loop.invariant c.in-Err.ensures.0 document

pub returns-in-Err-clause-fault : goal.returns-in-Err-clause-fault
returns-in-Err-clause-fault c = fault_of_rest c.args.text.now (map part c.loop.pieces.items) (place c.loop.reader) c.in-Err.fault c.loop.invariant c.in-Err.ensures.0

pub returns-in-Ok-None-clause-found : goal.returns-in-Ok-None-clause-found
returns-in-Ok-None-clause-found c =
    let step = rw c.in-Ok-None.field-0-is at c.in-Ok-None.ensures in
    read_whole c.args.text.now (map part c.loop.pieces.items) (place c.loop.reader) c.loop.invariant step.0

pub returns-in-Ok-None-clause-only : goal.returns-in-Ok-None-clause-only
returns-in-Ok-None-clause-only c parts document =
    let step = rw c.in-Ok-None.field-0-is at c.in-Ok-None.ensures in
    read_only c.args.text.now (map part c.loop.pieces.items) parts (place c.loop.reader) c.loop.invariant step.0 document

pub loop-preserved : goal.loop-preserved
loop-preserved c =
    let step = rw c.in-Ok-Some.field-0-is at c.in-Ok-Some.ensures in
    let more = read_more c.args.text.now (map part c.loop.pieces.items) (part c.in-Ok-Some.piece) (place c.loop.reader) (place c.next.new.self) c.loop.invariant step in
    subst (λ (parts : List Part). HasRead c.args.text.now parts (place c.next.new.self))
    (sym (ap (map part) c.in_ok-push-in-Ok-Some.ensures.items ∙ map-append part c.loop.pieces.items (c.in-Ok-Some.piece ∷ []))) more
