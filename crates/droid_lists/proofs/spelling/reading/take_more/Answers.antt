use Rattle.csv.specs.Records.{fields_of}
use Rattle.droid_lists.proofs.EntryTaken.{one_more}
use Rattle.droid_lists.proofs.spelling.reading.take_more.Goals as goal

pub loop-place-preserved : goal.loop-place-preserved
loop-place-preserved c = λ all known has.
    let had = c.loop-place.invariant all known has in
    one_more all c.loop-place.formats c.take_row.new.formats c.loop-place.own c.take_row.new.own (fields_of c.args.first.now) c.args.text.now c.loop-place.rest.now c.in-Ok.behind.now c.loop-place.place had
    ((rw c.in-Ok.is at c.in_ok-read.ensures) all had.more had.known had.has)
