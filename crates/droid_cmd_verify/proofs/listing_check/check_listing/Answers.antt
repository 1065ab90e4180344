use Rattle.std.proofs.Common.{◌∙◌, refl}
use Rattle.droid_cmd_verify.specs.ListedTrees.{InWalk}
use Rattle.droid_cmd_verify.proofs.ListingChecks.{checks, ends_after}
use Rattle.droid_cmd_verify.proofs.listing_check.check_listing.Goals as goal

pub returns-in-Ok-compare_listed : goal.returns-in-Ok-compare_listed
returns-in-Ok-compare_listed g c = record {
  checked = checks g.T.Tree.observes g.W.Watcher.hears _ _ _ _ c.args.profiler.now _ c.new-keeper.result c.profile.new.profiler.recipient c.profile.new.profiler.tree c.profile.new.profiler.watcher
      (c.new-keeper.ensures.files_only ∙ c.names_files_alone-files_only.ensures) c.new-keeper.ensures.items
      (rw c.options_for-options.ensures at c.in-Ok.ensures.profiled) refl c.compare_listed.ensures.watched
      c.take_items-folders.result.items c.take_items-files.result.items c.take_items-folders.ensures c.take_items-files.ensures
      c.args.listed.items c.in-Ok-compare_listed.checked c.in-Ok-compare_listed.ensures.compared;
  ended = tt;
}

pub returns-in-Err-compare_listed : goal.returns-in-Err-compare_listed
returns-in-Err-compare_listed g c = record {
  checked = tt;
  ended = ends_after g.T.Tree.observes g.W.Watcher.hears _ _ _ _ c.args.profiler.now _ c.new-keeper.result c.profile.new.profiler.recipient c.profile.new.profiler.tree c.profile.new.profiler.watcher
      (c.new-keeper.ensures.files_only ∙ c.names_files_alone-files_only.ensures) c.new-keeper.ensures.items
      (rw c.options_for-options.ensures at c.in-Ok.ensures.profiled) refl c.compare_listed.ensures.watched
      c.take_items-folders.result.items c.take_items-files.result.items c.take_items-folders.ensures c.take_items-files.ensures
      c.in-Err-compare_listed.fault c.in-Err-compare_listed.ensures.ended;
}

pub returns-in-Err : goal.returns-in-Err
returns-in-Err g c = record {
  checked = tt;
  ended = InWalk c.in-Err.fault c.new-keeper.result c.fault_of.ensures (c.new-keeper.ensures.files_only ∙ c.names_files_alone-files_only.ensures, c.new-keeper.ensures.items)
      (rw c.options_for-options.ensures at c.in-Err.ensures.ended);
}
