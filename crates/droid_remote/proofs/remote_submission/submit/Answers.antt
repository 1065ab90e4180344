use Rattle.std.proofs.Common.{true, false, refl, ap, ◌∙◌}
use Rattle.droid_upload.specs.Submissions.{deeds_of_tree}
use Rattle.droid_remote.specs.RemoteSubmissions.{AtEnd, InWalk}
use Rattle.droid_remote.proofs.Conversing.{converses, ends_all, ends_nowhere, ends_unsettled, stands_client}
use Rattle.droid_remote.proofs.remote_submission.submit.Goals as goal

pub returns-in-Ok-settle-clause-submitted : goal.returns-in-Ok-settle-clause-submitted
returns-in-Ok-settle-clause-submitted g c =
    let does = g.C.Connection.does in
    let old = c.args.upload.now in
    let reached = c.submit_tree.new.upload in
    let last = c.settle.new.self.in_flight in
    let tree = c.in-Ok.ensures.submitted in
    record {
      reached = reached;
      tree = tree;
      only_client = refl;
      none = c.in-Ok-settle.ensures.none;
      going = ap (λ s. s.stopped) c.in-Ok-settle.ensures.same ∙ c.in-Ok-settle.ensures.going;
      converses = λ fresh. converses old.client.client old.client.name true does g.T.Tree.observes g.W.Watcher.hears reached last
          (λ known facts stands. ends_all old.client.client old.client.name does known facts reached.client.in_flight last (c.in-Ok-settle.ensures.settled known facts stands))
          (deeds_of_tree c.args.options c.in-Ok.submitted.profile tree.visits) old refl refl tree.happened fresh;
    }

pub returns-in-Err-clause-ended : goal.returns-in-Err-clause-ended
returns-in-Err-clause-ended g c =
    let does = g.C.Connection.does in
    let old = c.args.upload.now in
    let new = c.submit_tree.new.upload in
    let early = c.in-Err.ensures.ended in
    InWalk c.in-Err.fault early c.remote_fault_of.ensures
    (λ fresh. converses old.client.client old.client.name false does g.T.Tree.observes g.W.Watcher.hears early.reached new.client.in_flight
    (λ known facts stands. ends_nowhere old.client.client old.client.name does known facts early.reached.client.in_flight new.client.in_flight (ap (λ s. s.in_flight) (stands_client c.in-Err.fault early.reached new early.stands)) stands)
    early.deeds old refl refl early.happened fresh)

pub returns-in-Err-settle-clause-ended : goal.returns-in-Err-settle-clause-ended
returns-in-Err-settle-clause-ended g c =
    let does = g.C.Connection.does in
    let old = c.args.upload.now in
    let reached = c.submit_tree.new.upload in
    let last = c.settle.new.self in
    let tree = c.in-Ok.ensures.submitted in
    AtEnd c.in-Ok.submitted reached tree refl c.in-Err-settle.fault c.in-Err-settle.ensures.failed refl
    (λ fresh. converses old.client.client old.client.name false does g.T.Tree.observes g.W.Watcher.hears reached last.in_flight
    (λ known facts stands. ends_unsettled old.client.client old.client.name does known facts c.in-Err-settle.fault reached.client last c.in-Err-settle.ensures.failed stands)
    (deeds_of_tree c.args.options c.in-Ok.submitted.profile tree.visits) old refl refl tree.happened fresh)
