use Rattle.std.proofs.Common.{◌≡◌, Some, IsTrue, sym, subst, ap, ◌∙◌}
use Rattle.droid_frame.specs.Replies.{HasReplySpelling}
use Rattle.droid_frame.specs.declared.frame.Frame.{Frame}
use Rattle.droid_frame.specs.declared.reply.Reply.{Reply}
use Rattle.droid_frame.specs.declared.request.Request.{Request}
use Rattle.droid_core_spec.specs.Histories.{History, Handles, command, world_of}
use Rattle.droid_core_spec.specs.Judging.{judge}
use Rattle.droid_core_spec.specs.Setting.{Setting}
use Rattle.droid_core.specs.HoldingsStanding.{limits_given}
use Rattle.droid_core.specs.Changes.{Comes, answered, stamp_of}
use Rattle.droid_core.specs.declared.stamps.Stamp.{Stamp}
use Rattle.droid_core.specs.KeptTexts.{is_followed}
use Rattle.droid_core.specs.declared.service.Service.{Service}
use Rattle.droid_core.specs.Standing.{Stand, StandsFor}
use Rattle.droid_core.proofs.AddedEntries.{new_adds}
use Rattle.droid_core.proofs.FollowedTexts.{is_query, still_for}
use Rattle.droid_core.proofs.Handling.{answers_anew}
use Rattle.droid_core.proofs.Recalling.{with_new}
use Rattle.droid_core.proofs.service.answers.answer_new.Goals as goal

-- for each history before, the reply is its answer, and the holdings stand for what comes next
abbrev Anew : Stamp → Request → Service → Service → Reply → Type 0
Anew stamp request before after reply =
    (setting : Setting) (history : History) (frame : Frame) → stamp ≡ stamp_of frame → command frame ≡ Some request → StandsFor setting before history → Handles setting history frame reply (Stand setting after.holdings)

pub cache_reply-requires-clause-spelled : goal.cache_reply-requires-clause-spelled
cache_reply-requires-clause-spelled c = rw c.reply_from-reply.ensures c.apply-outcome.ensures.answers.spelled

pub returns : goal.returns
returns c =
    let before = c.args.service.now in
    let service : Service = record { holdings = c.apply-outcome.new.holdings; recent = c.cache_reply.new.recent; last = c.cache_reply.new.last } in
    let reply = c.reply_from-reply.result in
    let same : answered c.apply-outcome.result ≡ reply = sym c.reply_from-reply.ensures in
    let spelled = subst (HasReplySpelling c.args.stamp.version) same c.apply-outcome.ensures.answers.spelled in
    let anew : Anew c.args.stamp c.args.request before service reply = λ setting history frame is asks stands.
    let comes = subst (λ (r : Reply). Comes setting (world_of setting history) before.holdings service.holdings c.args.stamp (judge setting (world_of setting history) c.args.stamp.version c.args.request) r) same (c.apply-outcome.ensures.answers.comes setting (world_of setting history) (stands.holdings.world, stands.last)) in
    answers_anew setting before.holdings service.holdings history frame c.args.request c.args.stamp reply is asks stands.holdings c.requires.new spelled comes in
    record {
      answers = record {
        handles = λ setting history frame is asks stands.
            let last = c.cache_reply.ensures.still setting (world_of setting history) (c.apply-outcome.ensures.last setting (world_of setting history) stands.holdings.world stands.last) in
            with_new setting history frame c.args.request c.args.stamp reply c.asks_command-commands.result before service is asks c.asks_command-commands.ensures stands c.requires.new c.cache_reply.ensures.kept (last, c.cache_reply.ensures.forgotten)
            (anew setting history frame is asks stands);
        spelled = spelled;
        limits = ap limits_given c.apply-outcome.ensures.answers.limits;
        registry = c.apply-outcome.ensures.answers.registry;
        cache = c.cache_reply.ensures.room;
        text = λ setting history profile from max filter stands is is_new followed.
            let query = c.asks_command-commands.ensures ∙ is_query c.args.request profile from max filter is in
            let kept = c.apply-outcome.ensures.text profile from max filter is (subst (λ (r : Reply). IsTrue (is_followed from max r)) (sym same) followed) in
            still_for profile filter c.apply-outcome.new.last c.cache_reply.new.last (c.cache_reply.ensures.query query) kept;
        newness = λ setting history frame is asks stands.
            new_adds setting before.holdings history frame c.args.request c.args.stamp reply c.asks_command-commands.result c.is_accepted-is_new.result (Stand setting service.holdings) is asks c.asks_command-commands.ensures
            c.is_accepted-is_new.ensures c.requires.new stands.holdings (anew setting history frame is asks stands);
      };
    }
