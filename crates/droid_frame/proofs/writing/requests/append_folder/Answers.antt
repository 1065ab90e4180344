use Rattle.std.proofs.Common.{◌++◌}
use Rattle.droid_frame.specs.Fields.{u32_bytes, i64_bytes}
use Rattle.droid_frame.proofs.Appending.{added_then}
use Rattle.droid_frame.proofs.writing.requests.append_folder.Goals as goal

pub returns-clause-added : goal.returns-clause-added
returns-clause-added c =
    let pair = u32_bytes c.args.profile ++ u32_bytes c.args.parent in
    let modified = i64_bytes c.args.modified.now in
    let name = c.args.name.now in
    let last = c.append_name.new.out.items in
    let from_modified = added_then c.append_pair.new.out.items c.append_i64.new.out.items last modified name c.in_ok-append_i64.ensures.added c.in_ok-append_name.ensures.added in
    added_then c.args.out.now.items c.append_pair.new.out.items last pair (modified ++ name) c.in_ok-append_pair.ensures from_modified
