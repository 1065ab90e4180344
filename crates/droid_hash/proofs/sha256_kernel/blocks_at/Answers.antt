use Rattle.std.proofs.Common.{lit<, [], slice_index_or}
use Rattle.droid_hash.proofs.Eight.{within_mapped}
use Rattle.droid_hash.proofs.Four.{four_results}
use Rattle.droid_hash.proofs.sha256_kernel.blocks_at.Goals as goal

pub item-requires : goal.item-requires
item-requires c = within_mapped (λ r. r.now) c.args.runs _ c.args.i 0 (c.requires 0 (lit< tt))

pub item-requires-2 : goal.item-requires-2
item-requires-2 c = within_mapped (λ r. r.now) c.args.runs _ c.args.i 1 (c.requires 1 (lit< tt))

pub item-requires-3 : goal.item-requires-3
item-requires-3 c = within_mapped (λ r. r.now) c.args.runs _ c.args.i 2 (c.requires 2 (lit< tt))

pub item-requires-4 : goal.item-requires-4
item-requires-4 c = within_mapped (λ r. r.now) c.args.runs _ c.args.i 3 (c.requires 3 (lit< tt))

pub returns : goal.returns
returns c = four_results (λ r. r.now) (λ x. slice_index_or x c.args.i []) c.args.runs _ [] _ _ _ _ c.item.ensures c.item-2.ensures c.item-3.ensures c.item-4.ensures
