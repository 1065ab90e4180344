use Rattle.std.proofs.Common.{arith, refl, ◌∙◌}
use Rattle.droid_upload.specs.Submissions.{AreOfFront}
use Rattle.droid_upload.specs.Deeds.{Does}
use Rattle.droid_upload.specs.Fronts.{EndsEarly}
use Rattle.droid_upload.specs.declared.submission_fault.SubmissionFault.TheVariants.{Memory}
use Rattle.droid_upload.proofs.FaultPassed.{if_err_same}
use Rattle.droid_upload.proofs.TreeSubmitted.{begun, begun_ends, folders_end, more_visited, none_left, submitted, unbegun_submission_ends, visit_ends}
use Rattle.droid_upload.proofs.tree_submission.submit_tree.Goals as goal

pub returns-in_err-profile-clause-ended : goal.returns-in_err-profile-clause-ended
returns-in_err-profile-clause-ended g c =
    if_err_same c.from_residual.result c.in_err-profile.field-0.0 (λ fault. EndsEarly (Does g.T.Tree.observes g.C.Client.calls g.W.Watcher.hears) (AreOfFront c.args.options) fault c.args.upload.now c.create_profile.new.upload) c.from_residual.ensures.1
    (unbegun_submission_ends (Does g.T.Tree.observes g.C.Client.calls g.W.Watcher.hears) c.args.options c.in_err-profile.field-0.0 c.args.upload.now c.create_profile.new.upload c.in_err-profile.ensures.ended)

pub returns-in_err-pending-clause-ended : goal.returns-in_err-pending-clause-ended
returns-in_err-pending-clause-ended g c =
    if_err_same c.from_residual-in_err-pending.result Memory (λ fault. EndsEarly (Does g.T.Tree.observes g.C.Client.calls g.W.Watcher.hears) (AreOfFront c.args.options) fault c.args.upload.now c.create_profile.new.upload) c.from_residual-in_err-pending.ensures.1
    (begun_ends c.args.options c.in_ok-profile.profile (Does g.T.Tree.observes g.C.Client.calls g.W.Watcher.hears) c.args.upload.now c.create_profile.new.upload c.in_ok-profile.ensures.made)

pub loop-init : goal.loop-init
loop-init g c = begun c.args.options c.in_ok-profile.profile (Does g.T.Tree.observes g.C.Client.calls g.W.Watcher.hears) _ c.args.upload.now c.create_profile.new.upload c.in_ok-pending.ensures c.new.ensures.items c.in_ok-profile.ensures.made

pub loop-preserved : goal.loop-preserved
loop-preserved g c =
    more_visited c.args.options c.in_ok-profile.profile (Does g.T.Tree.observes g.C.Client.calls g.W.Watcher.hears) c.in-Some.folder _ c.loop.found c.loop.counter c.loop.whole c.args.upload.now c.loop.upload c.visit_folder.new.upload c.loop.invariant c.in-Some.ensures.items
    _ c.visit_folder.new.found c.in_ok-taken.taken _ refl refl c.in_ok-taken.ensures.visited c.both-whole.ensures

pub returns-in_err-taken-clause-ended : goal.returns-in_err-taken-clause-ended
returns-in_err-taken-clause-ended g c =
    if_err_same c.from_residual-in_err-taken.result c.in_err-taken.field-0.0 (λ fault. EndsEarly (Does g.T.Tree.observes g.C.Client.calls g.W.Watcher.hears) (AreOfFront c.args.options) fault c.args.upload.now c.visit_folder.new.upload) c.from_residual-in_err-taken.ensures.1
    (visit_ends c.args.options c.in_ok-profile.profile (Does g.T.Tree.observes g.C.Client.calls g.W.Watcher.hears) c.in-Some.folder _ c.loop.found c.loop.counter c.loop.whole c.args.upload.now c.loop.upload c.visit_folder.new.upload c.loop.invariant c.in-Some.ensures.items
    c.in_err-taken.field-0.0 c.in_err-taken.ensures.ended)

pub returns-in_default-clause-submitted : goal.returns-in_default-clause-submitted
returns-in_default-clause-submitted g c =
    submitted c.args.options c.in_ok-profile.profile (Does g.T.Tree.observes g.C.Client.calls g.W.Watcher.hears) c.loop.found c.loop.counter c.loop.whole c.args.upload.now c.loop.upload c.loop.invariant (none_left c.loop.found.pending.items (c.in_default.ensures.items ∙ c.in_default.ensures.rest))

pub returns-clause-ended : goal.returns-clause-ended
returns-clause-ended g c =
    folders_end c.args.options c.in_ok-profile.profile (Does g.T.Tree.observes g.C.Client.calls g.W.Watcher.hears) c.loop.found c.loop.counter c.loop.whole c.args.upload.now c.loop.upload c.loop.invariant (omega (arith, c.loop-test.false))
