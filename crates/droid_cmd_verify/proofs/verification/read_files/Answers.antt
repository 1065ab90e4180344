use Rattle.std.proofs.Common.{refl}
use Rattle.droid_cmd_verify.proofs.verification.read_files.Goals as goal

pub returns : goal.returns
returns g c = record {
  verified = record {
    old = record { alloc = c.args.alloc; tree = c.args.tree; watcher = c.new-watcher.result; recipient = c.new-recipient.result };
    new = c.verify_tree.new.profiler;
    begins = record { tree_is = refl; watcher_is = c.new-watcher.ensures.watcher; none_skipped = c.new-watcher.ensures.none; has_all = c.new-watcher.ensures.all };
    verifies = c.verify_tree.ensures.verified;
  };
  stopped = c.verify_tree.ensures.stopped;
}
