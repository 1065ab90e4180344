use Rattle.std.proofs.Common.{◌++◌}
use Rattle.droid_frame.specs.Fields.{u32_bytes, u64_bytes}
use Rattle.droid_frame.specs.Filters.{filter_bytes}
use Rattle.droid_frame.proofs.Appending.{added_then}
use Rattle.droid_frame.proofs.writing.requests.append_export.Goals as goal

pub returns-clause-added : goal.returns-clause-added
returns-clause-added c =
    let profile = u32_bytes c.args.profile in
    let from = u64_bytes c.args.from in
    let max = u32_bytes c.args.max in
    let filter = filter_bytes c.args.filter.now in
    let last = c.append_filter.new.out.items in
    let from_max = added_then c.append_u64.new.out.items c.append_u32-2.new.out.items last max filter c.in_ok-append_u32-2.ensures.added c.in_ok-append_filter.ensures.added in
    let from_from = added_then c.append_u32.new.out.items c.append_u64.new.out.items last from (max ++ filter) c.in_ok-append_u64.ensures.added from_max in
    added_then c.args.out.now.items c.append_u32.new.out.items last profile (from ++ (max ++ filter)) c.in_ok-append_u32.ensures.added from_from
