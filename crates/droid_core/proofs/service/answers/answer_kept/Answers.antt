use Rattle.std.proofs.Common.{◌≡◌, Some, refl, subst}
use Rattle.droid_core.specs.declared.stamps.Stamp.{Stamp}
use Rattle.droid_store.specs.Rows.{reply_for}
use Rattle.droid_core.specs.declared.service.Service.{Service}
use Rattle.droid_core.proofs.AddedEntries.{repeated_adds}
use Rattle.droid_core.proofs.Handling.{answers_again}
use Rattle.droid_core.proofs.Recalling.{kept_in_store, not_new, with_recent}
use Rattle.droid_core.proofs.service.answers.answer_kept.Goals as goal

pub returns-clause-answers : goal.returns-clause-answers
returns-clause-answers c = λ request.
    let before = c.args.service.now in
    let holdings = before.holdings in
    let service : Service = record { holdings = holdings; recent = c.put_copy.new.self; last = before.last } in
    record {
      handles = λ setting history frame is asks stands.
          let there = kept_in_store history holdings.store c.args.stamp.client c.args.stamp.number c.args.row stands.holdings.replies c.requires.found in
          let found = subst (λ (s : Stamp). reply_for s.client s.number holdings.store ≡ Some c.args.row) is c.requires.found in
          with_recent setting history frame request c.args.row c.answer_again.result before service asks found stands refl
          (answers_again setting holdings history frame request c.args.stamp c.args.row c.answer_again.result is asks c.requires.found c.answer_again.ensures.kept stands.holdings)
          (c.put_copy.ensures.kept history stands.recent there);
      spelled = c.answer_again.ensures.spelled;
      limits = refl;
      registry = refl;
      cache = c.put_copy.ensures.room;
      text = λ setting history profile from max filter stands is is_new followed.
          not_new history c.args.stamp.client c.args.stamp.number c.args.row (kept_in_store history holdings.store c.args.stamp.client c.args.stamp.number c.args.row stands.holdings.replies c.requires.found) is_new;
      newness = λ setting history frame is asks stands. repeated_adds setting holdings history frame request c.args.stamp c.args.row c.answer_again.result is asks c.requires.found stands.holdings;
    }
