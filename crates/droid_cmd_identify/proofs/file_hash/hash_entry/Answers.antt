use Rattle.std.proofs.Common.{◌+◌, ℕ, sym, subst, arith}
use Rattle.droid_cmd_identify.specs.FilesHashed.{HoldsFront}
use Rattle.droid_cmd_identify.proofs.HashLemmas.{front_more, front_none}
use Rattle.droid_cmd_identify.proofs.file_hash.hash_entry.Goals as goal

pub loop-from-init : goal.loop-from-init
loop-from-init g c = record {
  inside = omega arith;
  front = front_none g.T.Tree.observes c.args.path.now c.args.entry.now c.args.kind c.args.tree.now c.of-running.result c.of-running.ensures.holds c.of-running.ensures.kind;
}

pub loop-from-preserved : goal.loop-from-preserved
loop-from-preserved g c =
    let inv = c.loop-from.invariant in
    let path = c.args.path.now in
    let entry = c.args.entry.now in
    let read = rw c.in-Ok.is at c.in_ok-add_piece.ensures.read in
    record {
      inside = omega (arith, inv.inside, c.next_len-wanted.ensures, c.from-from.ensures);
      front = subst (λ (n : ℕ). HoldsFront g.T.Tree.observes path entry c.args.kind c.args.tree.now (c.loop-from.from + n) c.add_piece.new.running c.add_piece.new.tree) (sym c.from-from.ensures)
          (front_more g.T.Tree.observes path entry c.args.kind c.args.tree.now c.loop-from.from c.next_len-wanted.result c.loop-from.running c.add_piece.new.running c.loop-from.tree c.add_piece.new.tree inv.front read);
    }
