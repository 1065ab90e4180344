use Rattle.std.proofs.Common.{◌≡◌, ◌≢◌, ◌++◌, ◌∷◌, [], cond, is_ok, map-id, sym, ap, ◌∙◌, arith}
use Rattle.std.proofs.lemmas.Grind.{common_steps}
use Rattle.std.proofs.lemmas.Iterator.Adapters.{YieldsList-from_vec}
use Rattle.std.proofs.lemmas.Iterator.Consumers.{YieldsList-turn, YieldsList-end}
use Rattle.droid_frame.specs.declared.refusal.Refusal.TheVariants.{Store}
use Rattle.droid_frame.specs.declared.reply.Reply.{Reply}
use Rattle.droid_frame.specs.declared.reply.Reply.TheVariants.{Refused}
use Rattle.droid_core_spec.proofs.Each.{each_with_one_more}
use Rattle.droid_core.proofs.Running.{Runs-push}
use Rattle.droid_core.proofs.service.Service.run.Goals as goal

pub unwrap-requires : goal.unwrap-requires
unwrap-requires c =
    let g = c.into_iter-frame-iterator.ensures.into_iter_gives in
    let turn = YieldsList-turn (YieldsList-from_vec {s = c.into_iter-frame-iterator.result} c.args.frames.items g.0 (g.1 ∙ c.args.frames.ok.0)) c.loop-frame.yielded _ c.loop-frame.yielded_by c.next.result c.next.new.self c.in-Some.frame c.in-Some.is c.next.ensures.steps in
    c.push.ensures.succeeds (omega (arith, turn.0, c.loop-frame.invariant.count, c.loop-frame.invariant.room, c.args.frames.ok.0))

pub loop-frame-preserved : goal.loop-frame-preserved
loop-frame-preserved c =
    let before = c.loop-frame.replies.items in
    let replies : c.push.new.self.items ≡ before ++ c.handle-reply.result ∷ [] = c.push.ensures.items ∙ ap (λ result. cond (is_ok result) (before ++ c.handle-reply.result ∷ []) before) c.unwrap.ensures in
    record {
      runs = λ setting history stands.
          let runs = c.loop-frame.invariant.runs setting history stands in
          rw replies (Runs-push setting history c.loop-frame.yielded c.loop-frame.replies.items c.loop-frame.self c.handle-reply.new.self c.in-Some.frame c.handle-reply.result runs (c.handle-reply.ensures.handles setting _ runs.stands) c.handle-reply.ensures.spelled);
      no_store = λ setting history stands.
          let runs = c.loop-frame.invariant.runs setting history stands in
          rw replies (each_with_one_more (λ (reply : Reply). reply ≢ Refused Store) c.loop-frame.replies.items c.handle-reply.result (c.loop-frame.invariant.no_store setting history stands) (c.handle-reply.ensures.no_store setting _ runs.stands));
      limits = c.handle-reply.ensures.limits ∙ c.loop-frame.invariant.limits;
      registry = c.handle-reply.ensures.registry ∙ c.loop-frame.invariant.registry;
      cache = c.handle-reply.ensures.cache ∙ c.loop-frame.invariant.cache;
      count = grind (arith, common_steps);
      room = omega (arith, c.push.ensures.capacity, c.loop-frame.invariant.room);
    }

pub returns : goal.returns
returns c =
    let g = c.into_iter-frame-iterator.ensures.into_iter_gives in
    let end = YieldsList-end (YieldsList-from_vec {s = c.into_iter-frame-iterator.result} c.args.frames.items g.0 (g.1 ∙ c.args.frames.ok.0)) c.loop-frame.yielded _ c.loop-frame.yielded_by c.next.result c.next.new.self c.in-None.is c.next.ensures.steps in
    let yielded : c.loop-frame.yielded ≡ c.args.frames.items = sym (map-id c.loop-frame.yielded) ∙ end.0 in
    record {
      runs = λ setting history stands. rw (← yielded) (c.loop-frame.invariant.runs setting history stands);
      no_store = c.loop-frame.invariant.no_store;
      count = omega (arith, c.loop-frame.invariant.count, end.1, c.args.frames.ok.0);
      unchanged = tt;
      limits = c.loop-frame.invariant.limits;
      registry = c.loop-frame.invariant.registry;
      cache = c.loop-frame.invariant.cache;
    }
