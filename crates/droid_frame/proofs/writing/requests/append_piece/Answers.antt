use Rattle.std.proofs.Common.{◌++◌}
use Rattle.droid_frame.specs.Fields.{u32_bytes}
use Rattle.droid_frame.proofs.Appending.{added_then}
use Rattle.droid_frame.proofs.writing.requests.append_piece.Goals as goal

pub returns-clause-added : goal.returns-clause-added
returns-clause-added c =
    let pair = u32_bytes c.args.profile ++ u32_bytes c.args.file in
    let index = u32_bytes c.args.index in
    let bytes = c.args.bytes.now in
    let last = c.append_bytes.new.out.items in
    let from_index = added_then c.append_pair.new.out.items c.append_u32.new.out.items last index bytes c.in_ok-append_u32.ensures.added c.in_ok-append_bytes.ensures.added in
    added_then c.args.out.now.items c.append_pair.new.out.items last pair (index ++ bytes) c.in_ok-append_pair.ensures from_index
