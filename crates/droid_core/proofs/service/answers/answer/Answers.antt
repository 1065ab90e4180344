use Rattle.std.proofs.Common.{◌≡◌, false, Some, refl, subst}
use Rattle.droid_core.specs.declared.stamps.Stamp.{Stamp}
use Rattle.droid_store.specs.Rows.{reply_for}
use Rattle.droid_core.specs.declared.service.Service.{Service}
use Rattle.droid_core.proofs.AddedEntries.{repeated_adds}
use Rattle.droid_core.proofs.Handling.{answers_again}
use Rattle.droid_core.proofs.LookedUp.{after_look_ups}
use Rattle.droid_core.proofs.Recalling.{not_new, store_has, with_recent}
use Rattle.droid_core.proofs.service.answers.answer.Goals as goal

pub returns-in-Some : goal.returns-in-Some
returns-in-Some c =
    let before = c.args.service.now in
    let holdings = before.holdings in
    let service : Service = record { holdings = holdings; recent = c.find.new.self; last = before.last } in
    record {
      answers = record {
        handles = λ setting history frame is asks stands.
            let there = rw c.in-Some.is at (c.find.ensures.found history stands.recent) in
            let found = store_has history holdings.store c.args.stamp.client c.args.stamp.number c.in-Some.row stands.holdings.replies there in
            let its = subst (λ (s : Stamp). reply_for s.client s.number holdings.store ≡ Some c.in-Some.row) is found in
            with_recent setting history frame c.args.request c.in-Some.row c.answer_again-reply.result before service asks its stands refl
            (answers_again setting holdings history frame c.args.request c.args.stamp c.in-Some.row c.answer_again-reply.result is asks found c.answer_again-reply.ensures.kept stands.holdings)
            (c.find.ensures.kept history stands.recent);
        spelled = c.answer_again-reply.ensures.spelled;
        limits = refl;
        registry = refl;
        cache = rw c.find.ensures.used refl;
        text = λ setting history profile from max filter stands is is_new followed.
            not_new history c.args.stamp.client c.args.stamp.number c.in-Some.row (rw c.in-Some.is at (c.find.ensures.found history stands.recent)) is_new;
        newness = λ setting history frame is asks stands.
            let there = rw c.in-Some.is at (c.find.ensures.found history stands.recent) in
            let found = store_has history holdings.store c.args.stamp.client c.args.stamp.number c.in-Some.row stands.holdings.replies there in
            repeated_adds setting holdings history frame c.args.request c.args.stamp c.in-Some.row c.answer_again-reply.result is asks found stands.holdings;
      };
    }

pub returns-in-Ok-Some : goal.returns-in-Ok-Some
returns-in-Ok-Some c = record {
  answers = after_look_ups c.args.stamp c.args.request c.args.service.now c.answer_kept-reply.new.service c.reply_of.new.self c.find.new.self c.answer_kept-reply.result false
      c.reply_of.ensures.same (rw c.find.ensures.used refl) c.find.ensures.kept (c.answer_kept-reply.ensures.answers c.args.request);
}

pub returns-in-Ok-None : goal.returns-in-Ok-None
returns-in-Ok-None c = record {
  answers = after_look_ups c.args.stamp c.args.request c.args.service.now c.answer_new.new.service c.reply_of.new.self c.find.new.self c.answer_new.result.reply c.answer_new.result.is_new
      c.reply_of.ensures.same (rw c.find.ensures.used refl) c.find.ensures.kept c.answer_new.ensures.answers;
}
