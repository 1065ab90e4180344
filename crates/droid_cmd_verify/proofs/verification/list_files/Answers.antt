use Rattle.std.proofs.Common.{refl}
use Rattle.droid_cmd_verify.proofs.verification.list_files.Goals as goal

pub returns : goal.returns
returns g c = record {
  verified = record {
    old = record { alloc = c.args.alloc; tree = record { tree = c.args.tree; files = c.new-files.result }; watcher = c.new-watcher.result; recipient = c.new-recipient.result };
    new = c.verify_listing.new.profiler;
    begins = record { tree_is = refl; watcher_is = c.new-watcher.ensures.watcher; none_skipped = c.new-watcher.ensures.none; has_all = c.new-watcher.ensures.all };
    verifies = c.verify_listing.ensures.verified;
  };
  stopped = c.verify_listing.ensures.stopped;
}
