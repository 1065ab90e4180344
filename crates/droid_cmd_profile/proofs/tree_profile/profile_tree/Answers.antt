use Rattle.std.proofs.Common.{◌∙◌, Option, ap}
use Rattle.droid_cmd_profile.specs.ProfileEndings.{ending_of}
use Rattle.droid_cmd_profile.specs.declared.skipped_file.SkippedFault.{SkippedFault}
use Rattle.droid_cmd_profile.proofs.FolderEnds.{ends_by}
use Rattle.droid_cmd_profile.proofs.tree_profile.profile_tree.Goals as goal

pub returns : goal.returns
returns g c = record {
  ended = c.write_profile-ended.result;
  ends = ends_by g.T.Tree.observes g.W.Watcher.hears g.S.Write.contents g.S.SteadyWrite.seen g.S.SteadyWrite.room g.O.Write.contents g.O.SteadyWrite.seen g.O.SteadyWrite.room
      g.M.Write.contents g.M.SteadyWrite.seen g.M.SteadyWrite.room c.args.options c.write_profile-ended.result c.args.profiler.now c.write_profile-ended.new.profiler
      c.write_profile-ended.ensures.written c.write_profile-ended.ensures.ended;
  ending_is = c.of.ensures ∙ ap (λ (o : Option SkippedFault). ending_of c.write_profile-ended.result o) c.fault_of-unlisted.ensures;
  csv_stopped = c.write_profile-ended.ensures.csv_stopped;
  list_stopped = c.write_profile-ended.ensures.manifest_stopped;
}
