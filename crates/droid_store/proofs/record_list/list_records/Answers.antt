use Rattle.std.proofs.Common.{◌≡◌, ◌++◌, ◌∷◌, [], rules, arith, refl, sym, subst, ◌∙◌}
use Rattle.std.proofs.lemmas.Grind.{common_steps}
use Rattle.droid_store.specs.Kept.{kept}
use Rattle.droid_store.proofs.Clean.{trees_are_clean}
use Rattle.droid_store.proofs.FaultsOfReading.{still_memory}
use Rattle.droid_store.proofs.ReportedFaults.{reported_memory}
use Rattle.droid_store.proofs.GivenRows.{HaveRead, left, begun, settled_there, settled_on, gave_up, read_on, given_fits, read_all, read_no_more}
use Rattle.droid_store.proofs.record_list.list_records.Goals as goal

pub returns-in_err-rows-clause-same : goal.returns-in_err-rows-clause-same
returns-in_err-rows-clause-same c =
    let new = c.query.follows.lender-at-none in
    let failed = rw c.params-to_sql.ensures at ((rw c.in_err-rows.was at c.query.follows.holds-at-none).err (trees_are_clean new)) in
    (left new new (kept c.args.conn.now) refl (gave_up c.args.conn.now c.args.profile c.requires.holds new _ c.requires.unlimited failed).0).0

pub returns-in_err-rows-clause-holds : goal.returns-in_err-rows-clause-holds
returns-in_err-rows-clause-holds c =
    let new = c.query.follows.lender-at-none in
    let failed = rw c.params-to_sql.ensures at ((rw c.in_err-rows.was at c.query.follows.holds-at-none).err (trees_are_clean new)) in
    (left new new (kept c.args.conn.now) refl (gave_up c.args.conn.now c.args.profile c.requires.holds new _ c.requires.unlimited failed).0).1

pub returns-in_err-rows-clause-memory : goal.returns-in_err-rows-clause-memory
returns-in_err-rows-clause-memory c =
    let new = c.query.follows.lender-at-none in
    let failed = rw c.params-to_sql.ensures at ((rw c.in_err-rows.was at c.query.follows.holds-at-none).err (trees_are_clean new)) in
    reported_memory c.from_residual.result _ c.from_residual.ensures.1 (gave_up c.args.conn.now c.args.profile c.requires.holds new _ c.requires.unlimited failed).1

pub rows-init : goal.rows-init
rows-init c =
    let first = begun c.args.conn.now c.args.profile c.requires.holds _ (rw c.params-to_sql.ensures at (c.in_ok-rows.ensures.begun (trees_are_clean c.in_ok-rows.rows.conn.now))) c.in_ok-rows.ensures.survives.limit in
    (refl, rw c.new-records.ensures.items first)

pub returns-in_err-row-clause-same : goal.returns-in_err-row-clause-same
returns-in_err-row-clause-same c =
    let new = c.next.follows.lender-at-none.conn.now in
    let failed = rw c.in_err-row.was at (c.next.follows.holds-at-none.err (trees_are_clean new)) in
    let same : new ≡ c.conn-in_err-row-1.given.0 = search rules in
    (left new _ (kept c.args.conn.now) same (read_no_more c.args.conn.now c.args.profile c.requires.holds c.requires.apart _ new _ c.rows.invariant.1 _ (c.rows.invariant.1.limit ∙ c.requires.unlimited) failed).0).0

pub returns-in_err-row-clause-holds : goal.returns-in_err-row-clause-holds
returns-in_err-row-clause-holds c =
    let new = c.next.follows.lender-at-none.conn.now in
    let failed = rw c.in_err-row.was at (c.next.follows.holds-at-none.err (trees_are_clean new)) in
    let same : new ≡ c.conn-in_err-row-1.given.0 = search rules in
    (left new _ (kept c.args.conn.now) same (read_no_more c.args.conn.now c.args.profile c.requires.holds c.requires.apart _ new _ c.rows.invariant.1 _ (c.rows.invariant.1.limit ∙ c.requires.unlimited) failed).0).1

pub returns-in_err-row-clause-memory : goal.returns-in_err-row-clause-memory
returns-in_err-row-clause-memory c =
    let new = c.next.follows.lender-at-none.conn.now in
    let failed = rw c.in_err-row.was at (c.next.follows.holds-at-none.err (trees_are_clean new)) in
    reported_memory c.from_residual-in_err-row.result _ c.from_residual-in_err-row.ensures.1 (read_no_more c.args.conn.now c.args.profile c.requires.holds c.requires.apart _ new _ c.rows.invariant.1 _ (c.rows.invariant.1.limit ∙ c.requires.unlimited) failed).1

pub returns-in_default-clause-same : goal.returns-in_default-clause-same
returns-in_default-clause-same c =
    let new = c.next.follows.lender-at-none.conn.now in
    let ended = rw (c.in_ok-row.was, c.in_default.is) at (c.next.follows.holds-at-none.ok (trees_are_clean new)) in
    let same : new ≡ c.conn-in_default-1.given.0 = search rules in
    (left new _ (kept c.args.conn.now) same (read_all c.args.conn.now c.args.profile c.requires.holds c.requires.apart _ new _ c.rows.invariant.1 ended).0).0

pub returns-in_default-clause-holds : goal.returns-in_default-clause-holds
returns-in_default-clause-holds c =
    let new = c.next.follows.lender-at-none.conn.now in
    let ended = rw (c.in_ok-row.was, c.in_default.is) at (c.next.follows.holds-at-none.ok (trees_are_clean new)) in
    let same : new ≡ c.conn-in_default-1.given.0 = search rules in
    (left new _ (kept c.args.conn.now) same (read_all c.args.conn.now c.args.profile c.requires.holds c.requires.apart _ new _ c.rows.invariant.1 ended).0).1

pub returns-in_default-clause-found : goal.returns-in_default-clause-found
returns-in_default-clause-found c =
    let new = c.next.follows.lender-at-none.conn.now in
    let ended = rw (c.in_ok-row.was, c.in_default.is) at (c.next.follows.holds-at-none.ok (trees_are_clean new)) in
    (read_all c.args.conn.now c.args.profile c.requires.holds c.requires.apart _ new _ c.rows.invariant.1 ended).1

pub returns-in_err-record-clause-same : goal.returns-in_err-record-clause-same
returns-in_err-record-clause-same c =
    let new = c.next.follows.lender-at-none.conn.now in
    let unchanged = rw c.in_ok-row.was at (c.next.follows.holds-at-none.same (trees_are_clean new)) in
    let same : new ≡ c.conn-in_err-record-1.given.0 = search rules in
    (left new _ (kept c.args.conn.now) same (settled_on c.args.conn.now c.args.profile c.requires.holds _ new _ c.rows.invariant.1 unchanged)).0

pub returns-in_err-record-clause-holds : goal.returns-in_err-record-clause-holds
returns-in_err-record-clause-holds c =
    let new = c.next.follows.lender-at-none.conn.now in
    let unchanged = rw c.in_ok-row.was at (c.next.follows.holds-at-none.same (trees_are_clean new)) in
    let same : new ≡ c.conn-in_err-record-1.given.0 = search rules in
    (left new _ (kept c.args.conn.now) same (settled_on c.args.conn.now c.args.profile c.requires.holds _ new _ c.rows.invariant.1 unchanged)).1

pub returns-in_err-record-clause-memory : goal.returns-in_err-record-clause-memory
returns-in_err-record-clause-memory c =
    let new = c.next.follows.lender-at-none.conn.now in
    let clean = trees_are_clean new in
    let gave = rw (c.in_ok-row.was, c.in-Some.is) at (c.next.follows.holds-at-none.ok clean) in
    let unchanged = rw c.in_ok-row.was at (c.next.follows.holds-at-none.same clean) in
    given_fits c.args.conn.now c.args.profile c.requires.holds c.requires.apart _ new _ c.rows.invariant.1 c.in-Some.row.now _ c.requires.readable gave unchanged
    (λ n is fits. still_memory c.from_residual-in_err-record.result _ c.from_residual-in_err-record.ensures.1 (c.in_err-record.ensures.memory n is fits))

pub returns-in-Err-clause-same : goal.returns-in-Err-clause-same
returns-in-Err-clause-same c =
    let new = c.next.follows.lender-at-none.conn.now in
    let unchanged = rw c.in_ok-row.was at (c.next.follows.holds-at-none.same (trees_are_clean new)) in
    let same : new ≡ c.conn-in-Err-1.given.0 = search rules in
    (left new _ (kept c.args.conn.now) same (settled_on c.args.conn.now c.args.profile c.requires.holds _ new _ c.rows.invariant.1 unchanged)).0

pub returns-in-Err-clause-holds : goal.returns-in-Err-clause-holds
returns-in-Err-clause-holds c =
    let new = c.next.follows.lender-at-none.conn.now in
    let unchanged = rw c.in_ok-row.was at (c.next.follows.holds-at-none.same (trees_are_clean new)) in
    let same : new ≡ c.conn-in-Err-1.given.0 = search rules in
    (left new _ (kept c.args.conn.now) same (settled_on c.args.conn.now c.args.profile c.requires.holds _ new _ c.rows.invariant.1 unchanged)).1

pub rows-preserved : goal.rows-preserved
rows-preserved c =
    let moved = c.next.follows.holds-at-none in
    let new = c.next.follows.lender-at-none.conn.now in
    let clean = trees_are_clean new in
    let gave = rw (c.in_ok-row.was, c.in-Some.is) at (moved.ok clean) in
    let unchanged = rw c.in_ok-row.was at (moved.same clean) in
    let pushed : c.push.new.self.items ≡ c.rows.records.items ++ c.in_ok-record.record ∷ [] = grind (arith, common_steps) in
    let more = read_on c.args.conn.now c.args.profile c.requires.holds c.requires.apart _ new _ c.rows.invariant.1 c.in-Some.row.now c.in_ok-record.record gave unchanged moved.survives.limit c.in_ok-record.ensures.read in
    (moved.same_reference ∙ c.rows.invariant.0, subst (HaveRead c.args.conn.now new c.args.profile) (sym pushed) more)

pub returns-clause-same : goal.returns-clause-same
returns-clause-same c =
    let last = c.rows.rows.conn.now in
    let same : last ≡ c.conn-2-1.given.0 = search rules in
    (left last _ (kept c.args.conn.now) same (settled_there c.args.conn.now c.args.profile c.requires.holds last _ c.rows.invariant.1)).0

pub returns-clause-holds : goal.returns-clause-holds
returns-clause-holds c =
    let last = c.rows.rows.conn.now in
    let same : last ≡ c.conn-2-1.given.0 = search rules in
    (left last _ (kept c.args.conn.now) same (settled_there c.args.conn.now c.args.profile c.requires.holds last _ c.rows.invariant.1)).1
