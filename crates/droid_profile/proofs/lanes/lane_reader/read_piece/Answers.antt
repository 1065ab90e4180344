use Rattle.std.proofs.Common.{◌≡◌, ℕ, List, ◌++◌, length, refl, sym, ap, subst, ◌∙◌, arith}
use Rattle.droid_tree.specs.Heard.{TookBytes}
use Rattle.droid_tree.specs.Observation.{Read, Unread, Exchanged}
use Rattle.droid_profile.proofs.LaneRead.{reads_once, stops_unread}
use Rattle.droid_profile.proofs.lanes.lane_reader.read_piece.Goals as goal

pub returns-in-Ok-clause-read : goal.returns-in-Ok-clause-read
returns-in-Ok-clause-read g c = λ within.
    let got : List ℕ = c.read.new.bytes.items in
    let path : List ℕ = c.args.row.now.record.path in
    let entry = c.args.row.now.entry in
    let start = c.args.lane.now.from in
    let wanted = c.next_wanted-wanted.result in
    let came = c.in-Ok.ensures.came in
    let same : got ≡ came.bytes = came.added ∙ ap (λ (l : List ℕ). l ++ came.bytes) c.clear.ensures.items in
    let observed : g.T.Tree.observes c.args.tree.now (Read path entry start wanted got) c.read.new.self =
    subst (λ (l : List ℕ). g.T.Tree.observes c.args.tree.now (Read path entry start wanted l) c.read.new.self) (sym same)
    (subst (λ (p : List ℕ). g.T.Tree.observes c.args.tree.now (Read p entry start wanted came.bytes) c.read.new.self) c.as_str-path.ensures.value came.observed) in
    let counted : c.len.result ≡ length got = omega (arith, c.len.ensures, ap length same, came.within, c.next_wanted-wanted.ensures.most) in
    let heard : g.W.Watcher.hears c.args.watcher.now (TookBytes path (length got)) c.took_bytes.new.self =
    subst (λ (n : ℕ). g.W.Watcher.hears c.args.watcher.now (TookBytes path n) c.took_bytes.new.self) counted
    (subst (λ (p : List ℕ). g.W.Watcher.hears c.args.watcher.now (TookBytes p (c.len.result)) c.took_bytes.new.self) c.as_str-path.ensures.value c.took_bytes.ensures) in
    reads_once g.T.Tree.observes g.W.Watcher.hears path entry c.args.lane.now (record c.args.lane.now { buffer = c.read.new.bytes; hashed = 0 }) c.take_piece.new.lane refl refl refl refl
    c.take_piece.result got wanted c.args.tree.now c.read.new.self c.args.watcher.now c.took_bytes.new.self
    (c.take_piece.ensures.takes.judged (omega (arith, ap length same, came.within)) within) (c.take_piece.ensures.takes.keeps within) observed heard

pub returns-in-Ok-unread-clause-read : goal.returns-in-Ok-unread-clause-read
returns-in-Ok-unread-clause-read g c = λ within.
    let path : List ℕ = c.args.row.now.record.path in
    let entry = c.args.row.now.entry in
    let start = c.args.lane.now.from in
    let wanted = c.next_wanted-wanted.result in
    let lane = record c.args.lane.now { buffer = c.read.new.bytes; hashed = 0 } in
    stops_unread g.T.Tree.observes g.W.Watcher.hears path entry c.args.lane.now lane lane refl refl refl refl
    c.in-Err.fault c.in-Ok-unread.why wanted c.args.tree.now c.read.new.self c.args.watcher.now c.in-Ok-unread.ensures.reason refl
    (λ is. subst (λ (p : List ℕ). g.T.Tree.observes c.args.tree.now (Unread p entry start wanted) c.read.new.self) c.as_str-path.ensures.value (c.in-Err.ensures.unread is))
    (λ is. subst (λ (p : List ℕ). g.T.Tree.observes c.args.tree.now (Exchanged p entry start wanted) c.read.new.self) c.as_str-path.ensures.value (c.in-Err.ensures.exchanged is))
