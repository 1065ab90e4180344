use Rattle.droid_profile.proofs.Exits.{ends_after, ends_during, ends_well}
use Rattle.droid_profile.proofs.csv_profile.write_profile.Goals as goal

pub returns-in-Ok-write_rest : goal.returns-in-Ok-write_rest
returns-in-Ok-write_rest g c =
    let ends = ends_well g.T.Tree.observes g.W.Watcher.hears g.O.Write.contents g.O.SteadyWrite.seen g.O.SteadyWrite.room g.M.Write.contents g.M.SteadyWrite.seen g.M.SteadyWrite.room
    c.args.options c.in-Ok.whole c.args.profiler.now.tree c.profile.new.profiler.tree c.args.profiler.now.watcher c.profile.new.profiler.watcher
    c.args.profiler.now.recipient c.begin.new.self c.profile.new.profiler.recipient c.write_rest.new.self
    (record {
      begun = record { rows = c.in_ok-begin.ensures.rows; lines = c.in_ok-begin.ensures.lines };
      registry = c.in_ok-begin.ensures.registry;
      csv = c.in_ok-begin.ensures.csv;
      manifest = c.in_ok-begin.ensures.manifest;
    })
    c.in-Ok.ensures.profiled c.in-Ok-write_rest.ensures.ok in
    record {
      written = ends.written;
      ended = tt;
      csv_stopped = ends.csv_stopped;
      manifest_stopped = ends.manifest_stopped;
      registry = ends.registry;
    }

pub returns-in-Err-write_rest : goal.returns-in-Err-write_rest
returns-in-Err-write_rest g c =
    let ends = ends_after g.T.Tree.observes g.W.Watcher.hears g.O.Write.contents g.O.SteadyWrite.seen g.O.SteadyWrite.room g.M.Write.contents g.M.SteadyWrite.seen g.M.SteadyWrite.room
    c.args.options c.in-Ok.whole c.in-Err-write_rest.fault c.args.profiler.now.tree c.profile.new.profiler.tree c.args.profiler.now.watcher c.profile.new.profiler.watcher
    c.args.profiler.now.recipient c.begin.new.self c.profile.new.profiler.recipient c.write_rest.new.self
    (record {
      begun = record { rows = c.in_ok-begin.ensures.rows; lines = c.in_ok-begin.ensures.lines };
      registry = c.in_ok-begin.ensures.registry;
      csv = c.in_ok-begin.ensures.csv;
      manifest = c.in_ok-begin.ensures.manifest;
    })
    c.in-Ok.ensures.profiled c.in-Err-write_rest.ensures.err in
    record {
      written = tt;
      ended = ends.ended;
      csv_stopped = ends.csv_stopped;
      manifest_stopped = ends.manifest_stopped;
      registry = ends.registry;
    }

pub returns-in-Err : goal.returns-in-Err
returns-in-Err g c =
    let ends = ends_during g.T.Tree.observes g.W.Watcher.hears g.O.Write.contents g.O.SteadyWrite.seen g.O.SteadyWrite.room g.M.Write.contents g.M.SteadyWrite.seen g.M.SteadyWrite.room
    c.args.options c.in-Err.fault c.end_early.result c.args.profiler.now.tree c.profile.new.profiler.tree c.args.profiler.now.watcher c.profile.new.profiler.watcher
    c.args.profiler.now.recipient c.begin.new.self c.profile.new.profiler.recipient c.end_early.new.recipient
    (record {
      begun = record { rows = c.in_ok-begin.ensures.rows; lines = c.in_ok-begin.ensures.lines };
      registry = c.in_ok-begin.ensures.registry;
      csv = c.in_ok-begin.ensures.csv;
      manifest = c.in_ok-begin.ensures.manifest;
    })
    c.in-Err.ensures.ended c.end_early.ensures.explains c.end_early.ensures.writer c.end_early.ensures.rest in
    record {
      written = tt;
      ended = ends.ended;
      csv_stopped = ends.csv_stopped;
      manifest_stopped = ends.manifest_stopped;
      registry = ends.registry;
    }
