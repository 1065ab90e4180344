use Rattle.std.proofs.Common.{◌≡◌, ◌≤◌, ◌^◌, None, sym, subst, rules}
use Rattle.droid_store.proofs.EntryFound.{entry_found}
use Rattle.droid_store.specs.Kept.{kept}
use Rattle.droid_store.specs.Ranges.{EntryFits}
use Rattle.droid_store.specs.Rows.{Rows, reply_for}
use Rattle.droid_store.specs.Shown.{shown_reply}
use Rattle.droid_store.proofs.FaultsOfReading.{found_fits, still_memory}
use Rattle.droid_store.proofs.ReadableAfter.{reply_readable, none_past}
use Rattle.droid_store.proofs.store.Store.reply_of.Goals as goal

pub returns-then-number-ge-NUMBER_LIMIT-clause-found : goal.returns-then-number-ge-NUMBER_LIMIT-clause-found
returns-then-number-ge-NUMBER_LIMIT-clause-found c =
    let past : 2 ^ 63 ≤ c.args.number = search rules in
    let same : kept c.self.inside.conn ≡ c.args.self.now = search rules in
    let none = none_past c.args.client c.args.number (kept c.self.inside.conn) c.self.invariant.4 past in
    sym (subst (λ (rows : Rows). reply_for c.args.client c.args.number rows ≡ None) same none)

pub returns-clause-found : goal.returns-clause-found
returns-clause-found c = entry_found c.args.client c.args.number c.args.self.now c.in-Some.row c.in_ok-entry_of.field-0 (search rules) c.in_ok-entry_of.ensures.read

pub returns-in_err-entry_of-clause-memory : goal.returns-in_err-entry_of-clause-memory
returns-in_err-entry_of-clause-memory c =
    let rows = kept c.self.inside.conn in
    found_fits shown_reply EntryFits (reply_for c.args.client c.args.number rows) c.in-Some.row _ (search rules) (λ e at. reply_readable c.args.client c.args.number rows e c.self.invariant.4 at)
    (λ e is fits. still_memory c.from_residual-in_err-entry_of.result _ c.from_residual-in_err-entry_of.ensures.1 (c.in_err-entry_of.ensures.memory e is fits))
