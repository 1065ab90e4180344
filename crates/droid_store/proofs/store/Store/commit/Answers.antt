use Rattle.std.proofs.Common.{◌+◌, ◌∙◌, ap, sym}
use Rattle.droid_store.proofs.Transactions.{on_err}
use Rattle.droid_store.specs.declared.rows.Counts.{Counts}
use Rattle.droid_store.specs.Changes.{with_reply}
use Rattle.droid_store.specs.CommandChanges.{changed}
use Rattle.droid_store.specs.Kept.{kept}
use Rattle.droid_store.proofs.AfterChange.{apart_changed, apart_with_both, readable_changed}
use Rattle.droid_store.proofs.Closed.{kept_is, closed}
use Rattle.droid_store.proofs.CountsAfter.{counts_with_reply}
use Rattle.droid_store.proofs.ReadableAfter.{readable_with_reply}
use Rattle.droid_store.proofs.ReportedFaults.{reported_memory}
use Rattle.droid_store.proofs.Unique.{keys_of}
use Rattle.droid_store.proofs.store.Store.commit.Goals as goal

pub write-requires-clause-turn : goal.write-requires-clause-turn
write-requires-clause-turn c = rw (sym c.self.view_is) at c.requires.turn

pub invariant_of-self : goal.invariant_of-self
invariant_of-self c = closed c.write.new.conn (kept c.self.inside.conn) _ c.in_err-write.ensures.err c.self.invariant.1 c.self.invariant.2 (c.write.ensures.limit ∙ c.self.invariant.3) c.self.invariant.4

pub returns-in_err-write-clause-err : goal.returns-in_err-write-clause-err
returns-in_err-write-clause-err c = on_err c.from_residual-in_err-write.result _ (kept_is c.write.new.conn (kept c.self.inside.conn) c.in_err-write.ensures.err ∙ c.self.view_is)

pub invariant_of-self-2 : goal.invariant_of-self-2
invariant_of-self-2 c =
    let rows = kept c.self.inside.conn in
    let change = c.args.change.now in
    let apart = apart_with_both change c.args.entry.now rows (rw (sym c.self.view_is) at c.requires.turn) (rw (sym c.self.view_is) at c.requires.new) c.self.invariant.1 in
    let counts = c.in_ok-counts.ensures.more ∙ ap (λ (k : Counts). record k { accepted = k.accepted + 1 }) (rw (sym c.self.view_is) at c.requires.counts) ∙ sym (counts_with_reply c.args.entry.now (changed change rows)) in
    closed c.write.new.conn (with_reply c.args.entry.now (changed change rows)) _ c.in_ok-write.ensures.ok apart counts (c.write.ensures.limit ∙ c.self.invariant.3)
    (readable_with_reply c.args.entry.now (changed change rows) c.in_ok-write.ensures.fits (readable_changed change rows c.requires.writable c.self.invariant.4))

pub returns-clause-ok : goal.returns-clause-ok
returns-clause-ok c =
    let is = kept_is c.write.new.conn (with_reply c.args.entry.now (changed c.args.change.now (kept c.self.inside.conn))) c.in_ok-write.ensures.ok in
    rw⁻¹ c.self.view_is is

pub returns-in_err-write-clause-memory : goal.returns-in_err-write-clause-memory
returns-in_err-write-clause-memory c small size =
    let rows = kept c.self.inside.conn in
    let change = c.args.change.now in
    let turn = rw (sym c.self.view_is) at c.requires.turn in
    let apart = apart_with_both change c.args.entry.now rows turn (rw (sym c.self.view_is) at c.requires.new) c.self.invariant.1 in
    reported_memory c.from_residual-in_err-write.result _ c.from_residual-in_err-write.ensures.1
    (c.in_err-write.ensures.failure (keys_of (changed change rows) (apart_changed change rows turn c.self.invariant.1)) (keys_of (with_reply c.args.entry.now (changed change rows)) apart) small (rw (sym c.self.view_is) at size) c.self.invariant.3)
