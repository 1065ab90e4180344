use Rattle.std.proofs.Common.{◌∙◌, refl}
use Rattle.droid_cmd_verify.specs.CheckedTrees.{InWalk}
use Rattle.droid_cmd_verify.proofs.TreeChecks.{checks, ends_after}
use Rattle.droid_cmd_verify.proofs.tree_check.check_tree.Goals as goal

pub returns-in-Ok-compare_found : goal.returns-in-Ok-compare_found
returns-in-Ok-compare_found g c = record {
  checked = checks g.T.Tree.observes g.W.Watcher.hears _ _ _ _ _ c.args.profiler.now _ c.new-keeper.result c.profile.new.profiler.recipient c.profile.new.profiler.watcher
      (c.new-keeper.ensures.files_only ∙ c.names_files_alone-files_only.ensures) c.new-keeper.ensures.items c.new-keeper.ensures.identify c.new-keeper.ensures.formats
      (rw c.options_for-options.ensures at c.in-Ok.ensures.profiled) c.compare_found.ensures.watched
      c.take_items-items.result.items c.take_items-items.ensures refl c.args.listed.items c.in-Ok-compare_found.checked c.in-Ok-compare_found.ensures.compared;
  ended = tt;
}

pub returns-in-Err-compare_found : goal.returns-in-Err-compare_found
returns-in-Err-compare_found g c = record {
  checked = tt;
  ended = ends_after g.T.Tree.observes g.W.Watcher.hears _ _ _ _ _ c.args.profiler.now _ c.new-keeper.result c.profile.new.profiler.recipient c.profile.new.profiler.watcher
      (c.new-keeper.ensures.files_only ∙ c.names_files_alone-files_only.ensures) c.new-keeper.ensures.items c.new-keeper.ensures.identify c.new-keeper.ensures.formats
      (rw c.options_for-options.ensures at c.in-Ok.ensures.profiled) c.compare_found.ensures.watched
      c.take_items-items.result.items c.take_items-items.ensures refl c.in-Err-compare_found.fault c.in-Err-compare_found.ensures.ended;
}

pub returns-in-Err : goal.returns-in-Err
returns-in-Err g c = record {
  checked = tt;
  ended = InWalk c.in-Err.fault c.new-keeper.result c.fault_of.ensures (c.new-keeper.ensures.files_only ∙ c.names_files_alone-files_only.ensures, c.new-keeper.ensures.items, c.new-keeper.ensures.identify, c.new-keeper.ensures.formats)
      (rw c.options_for-options.ensures at c.in-Err.ensures.ended);
}
