use Rattle.std.proofs.Common.{◌++◌}
use Rattle.droid_frame.specs.Fields.{u32_bytes, u64_bytes, i64_bytes}
use Rattle.droid_frame.proofs.Appending.{added_then}
use Rattle.droid_frame.proofs.writing.requests.append_file.Goals as goal

pub returns-clause-added : goal.returns-clause-added
returns-clause-added c =
    let pair = u32_bytes c.args.profile ++ u32_bytes c.args.parent in
    let modified = i64_bytes c.args.modified.now in
    let size = u64_bytes c.args.size in
    let piece_size = u32_bytes c.args.piece_size in
    let name = c.args.name.now in
    let last = c.append_name.new.out.items in
    let from_piece_size = added_then c.append_u64.new.out.items c.append_u32.new.out.items last piece_size name c.in_ok-append_u32.ensures.added c.in_ok-append_name.ensures.added in
    let from_size = added_then c.append_i64.new.out.items c.append_u64.new.out.items last size (piece_size ++ name) c.in_ok-append_u64.ensures.added from_piece_size in
    let from_modified = added_then c.append_pair.new.out.items c.append_i64.new.out.items last modified (size ++ (piece_size ++ name)) c.in_ok-append_i64.ensures.added from_size in
    added_then c.args.out.now.items c.append_pair.new.out.items last pair (modified ++ (size ++ (piece_size ++ name))) c.in_ok-append_pair.ensures from_modified
