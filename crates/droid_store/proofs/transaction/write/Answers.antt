use Rattle.std.proofs.Common.{◌≡◌, OnOk, OnErr, refl, subst, rules, ◌∙◌, ap}
use Rattle.sqlite.specs.Held.{Held, state}
use Rattle.droid_store_trees.specs.Over.{over_trees}
use Rattle.droid_store.proofs.Clean.{trees_are_clean}
use Rattle.droid_store.specs.Transactions.{Settled}
use Rattle.droid_store_trees.specs.declared.storage.TreeStore.{TreeStore}
use Rattle.droid_store.proofs.Transactions.{on_err, rolled_back, ends_ok, ends_err}
use Rattle.droid_store.proofs.MemoryFaults.{in_memory, commit_runs_out}
use Rattle.droid_store.proofs.MemoryFaultsOfLookUps.{failed_for, handed_on}
use Rattle.droid_store.proofs.Unique.{keys_of}
use Rattle.droid_store.specs.Changes.{with_reply}
use Rattle.droid_store.specs.CommandChanges.{changed}
use Rattle.droid_store.specs.Kept.{kept, Holds}
use Rattle.droid_store.proofs.Started.{started, on_ok}
use Rattle.droid_store.proofs.transaction.write.Goals as goal

pub returns-in_err-apply-clause-err : goal.returns-in_err-apply-clause-err
returns-in_err-apply-clause-err c =
    let rows = kept c.args.conn.now in
    let begun = started c.args.conn.now c.transaction-tx.result.conn.now rows c.transaction-tx.ensures.begun c.requires.holds in
    let mid = state over_trees c.apply.new.tx.conn.now in
    let end = c.drop-tx.new.self.0 in
    let same : end ≡ c.conn-1.given.0 = search rules in
    on_err c.from_residual.result _ (subst (λ h. Settled (state over_trees h) (Holds rows)) same
    (rolled_back mid (state over_trees end) (Holds rows) refl (c.in_err-apply.ensures.applies.saves rows rows begun) (c.drop-tx.ensures.undone (trees_are_clean end))))

pub returns-in_err-insert_reply-clause-err : goal.returns-in_err-insert_reply-clause-err
returns-in_err-insert_reply-clause-err c =
    let rows = kept c.args.conn.now in
    let begun = started c.args.conn.now c.transaction-tx.result.conn.now rows c.transaction-tx.ensures.begun c.requires.holds in
    let first = c.in_ok-apply.ensures.applies.steps rows c.requires.apart c.requires.turn rows begun in
    let mid = state over_trees c.insert_reply.new.tx.conn.now in
    let end = c.drop-tx-in_err-insert_reply.new.self.0 in
    let same : end ≡ c.conn-in_err-insert_reply-1.given.0 = search rules in
    on_err c.from_residual-in_err-insert_reply.result _ (subst (λ h. Settled (state over_trees h) (Holds rows)) same
    (rolled_back mid (state over_trees end) (Holds rows) refl (c.in_err-insert_reply.ensures.err (changed c.args.change.now rows) rows first) (c.drop-tx-in_err-insert_reply.ensures.undone (trees_are_clean end))))

pub returns-clause-ok : goal.returns-clause-ok
returns-clause-ok c =
    let rows = kept c.args.conn.now in
    let begun = started c.args.conn.now c.transaction-tx.result.conn.now rows c.transaction-tx.ensures.begun c.requires.holds in
    let first = c.in_ok-apply.ensures.applies.steps rows c.requires.apart c.requires.turn rows begun in
    let last = state over_trees c.insert_reply.new.tx.conn.now in
    let after = with_reply c.args.entry.now (changed c.args.change.now rows) in
    let end = c.commit.new.self.0 in
    let same : end ≡ c.conn-2-1.given.0 = search rules in
    subst (λ h. OnOk c.commit.result (Settled (state over_trees h) (Holds after))) same
    (ends_ok last (state over_trees end) c.commit.result (Holds after) (Holds rows) (c.in_ok-insert_reply.ensures.ok (changed c.args.change.now rows) rows first) (c.commit.ensures.ok (trees_are_clean end)))

pub returns-clause-err : goal.returns-clause-err
returns-clause-err c =
    let rows = kept c.args.conn.now in
    let begun = started c.args.conn.now c.transaction-tx.result.conn.now rows c.transaction-tx.ensures.begun c.requires.holds in
    let first = c.in_ok-apply.ensures.applies.steps rows c.requires.apart c.requires.turn rows begun in
    let last = state over_trees c.insert_reply.new.tx.conn.now in
    let after = with_reply c.args.entry.now (changed c.args.change.now rows) in
    let end = c.commit.new.self.0 in
    let same : end ≡ c.conn-2-1.given.0 = search rules in
    subst (λ h. OnErr c.commit.result (Settled (state over_trees h) (Holds rows))) same
    (ends_err last (state over_trees end) c.commit.result (Holds after) (Holds rows) refl (c.in_ok-insert_reply.ensures.ok (changed c.args.change.now rows) rows first) (c.commit.ensures.err (trees_are_clean end)))

pub returns-in_err-apply-clause-limit : goal.returns-in_err-apply-clause-limit
returns-in_err-apply-clause-limit c =
    let end = c.drop-tx.new.self.0 in
    let same : end ≡ c.conn-1.given.0 = search rules in
    subst (λ (h : Held TreeStore). h.step_limit ≡ c.args.conn.now.step_limit) same (c.drop-tx.ensures.survives.limit ∙ c.in_err-apply.ensures.limit ∙ ap (λ (h : Held TreeStore). h.step_limit) c.transaction-tx.ensures.begun)

pub returns-in_err-apply-clause-failure : goal.returns-in_err-apply-clause-failure
returns-in_err-apply-clause-failure c changed_keys later small size none =
    let rows = kept c.args.conn.now in
    let begun = started c.args.conn.now c.transaction-tx.result.conn.now rows c.transaction-tx.ensures.begun c.requires.holds in
    let limit = ap (λ (h : Held TreeStore). h.step_limit) c.transaction-tx.ensures.begun ∙ none in
    handed_on c.from_residual.result _ c.from_residual.ensures.1 (c.in_err-apply.ensures.applies.memory rows (keys_of rows c.requires.apart) c.requires.turn changed_keys size rows begun limit)

pub returns-in_err-insert_reply-clause-limit : goal.returns-in_err-insert_reply-clause-limit
returns-in_err-insert_reply-clause-limit c =
    let end = c.drop-tx-in_err-insert_reply.new.self.0 in
    let same : end ≡ c.conn-in_err-insert_reply-1.given.0 = search rules in
    subst (λ (h : Held TreeStore). h.step_limit ≡ c.args.conn.now.step_limit) same (c.drop-tx-in_err-insert_reply.ensures.survives.limit ∙ c.in_err-insert_reply.ensures.limit ∙ c.in_ok-apply.ensures.limit ∙ ap (λ (h : Held TreeStore). h.step_limit) c.transaction-tx.ensures.begun)

pub returns-in_err-insert_reply-clause-failure : goal.returns-in_err-insert_reply-clause-failure
returns-in_err-insert_reply-clause-failure c changed_keys later small size none =
    let rows = kept c.args.conn.now in
    let begun = started c.args.conn.now c.transaction-tx.result.conn.now rows c.transaction-tx.ensures.begun c.requires.holds in
    let limit = ap (λ (h : Held TreeStore). h.step_limit) c.transaction-tx.ensures.begun ∙ none in
    let first = c.in_ok-apply.ensures.applies.steps rows c.requires.apart c.requires.turn rows begun in
    handed_on c.from_residual-in_err-insert_reply.result _ c.from_residual-in_err-insert_reply.ensures.1 (c.in_err-insert_reply.ensures.failure (changed c.args.change.now rows) later small rows first (c.in_ok-apply.ensures.limit ∙ limit))

pub returns-clause-limit : goal.returns-clause-limit
returns-clause-limit c =
    let end = c.commit.new.self.0 in
    let same : end ≡ c.conn-2-1.given.0 = search rules in
    subst (λ (h : Held TreeStore). h.step_limit ≡ c.args.conn.now.step_limit) same (c.commit.ensures.survives.limit ∙ c.in_ok-insert_reply.ensures.limit ∙ c.in_ok-apply.ensures.limit ∙ ap (λ (h : Held TreeStore). h.step_limit) c.transaction-tx.ensures.begun)

pub returns-clause-failure : goal.returns-clause-failure
returns-clause-failure c changed_keys later small size none =
    let rows = kept c.args.conn.now in
    let begun = started c.args.conn.now c.transaction-tx.result.conn.now rows c.transaction-tx.ensures.begun c.requires.holds in
    let limit = ap (λ (h : Held TreeStore). h.step_limit) c.transaction-tx.ensures.begun ∙ none in
    let first = c.in_ok-apply.ensures.applies.steps rows c.requires.apart c.requires.turn rows begun in
    let last = state over_trees c.insert_reply.new.tx.conn.now in
    let end = c.commit.new.self.0 in
    let stays = c.in_ok-insert_reply.ensures.ok (changed c.args.change.now rows) rows first in
    failed_for c.commit.result _ (c.commit.ensures.err (trees_are_clean end))
    (λ e h. commit_runs_out last (state over_trees end) e (in_memory c.insert_reply.new.tx.conn.now end (c.in_ok-insert_reply.ensures.limit ∙ c.in_ok-apply.ensures.limit ∙ limit)) stays.within h)

pub returns-clause-fits : goal.returns-clause-fits
returns-clause-fits c = on_ok c.commit.result _ c.insert_reply.ensures.fits
