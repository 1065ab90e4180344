use Rattle.std.proofs.Common.{◌-◌, ◌≤◌}
use Rattle.droid_cmd_identify.specs.FilesHashed.{HoldsFront}
use Rattle.droid_cmd_identify.proofs.file_hash.hash_entry.Given as goal

-- the bytes so far were read, and the hash holds them
abbrev pub invariant-loop-from : goal.invariant-loop-from
invariant-loop-from g l = record {
  inside : l.from ≤ l.entry.len;
  front : HoldsFront g.T.Tree.observes l.path l.entry l.fn.kind l.fn.tree l.from l.running l.tree;
}

abbrev pub decreases-loop-from : goal.decreases-loop-from
decreases-loop-from g l = l.entry.len - l.from
