use Rattle.std.proofs.Common.{◌≤◌, ℕ, List, length, sym, subst}
use Rattle.droid_journal.proofs.disk.disk_log.DiskLogLogFile.cut.Goals as goal

pub shorten-requires-clause-first : goal.shorten-requires-clause-first
shorten-requires-clause-first g c = c.save_end.ensures.found c.requires.first

pub shorten-requires-clause-within : goal.shorten-requires-clause-within
shorten-requires-clause-within g c = λ s here.
    let was = c.requires.within s (c.save_end.ensures.no_other s here) in
    (subst (λ (k : List ℕ). length k ≤ c.args.len) (sym c.save_end.ensures.kept) was.0, was.1)

pub shorten-requires-clause-saved : goal.shorten-requires-clause-saved
shorten-requires-clause-saved g c = λ s here. c.in-Ok.ensures.saved s (c.save_end.ensures.no_other s here)
