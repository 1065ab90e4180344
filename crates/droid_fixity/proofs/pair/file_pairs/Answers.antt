use Rattle.droid_fixity.proofs.Files.{files_are}
use Rattle.droid_fixity.proofs.pair.file_pairs.Goals as goal

pub returns : goal.returns
returns c =
    rw (c.in_ok-files.ensures, c.as_slice.ensures.value, c.as_slice-2.ensures.value, c.as_slice-3.ensures.value)
    (files_are c.args.listed.now c.args.found.now c.in_ok-pairs.pairs.items c.in_ok-pairs.ensures c.as_slice.ensures.in_order c.as_slice-2.ensures.in_order)
