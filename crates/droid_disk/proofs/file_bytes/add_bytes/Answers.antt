use Rattle.std.proofs.Common.{◌≡◌, ◌≤◌, ◌∙◌, ap, is_ok, length, sym, take, arith}
use Rattle.std.proofs.lemmas.Grind.{common_steps}
use Rattle.droid_disk.proofs.Bytes.{added, fits_behind, front_kept}
use Rattle.droid_disk.proofs.file_bytes.add_bytes.Goals as goal

pub returns-clause-added : goal.returns-clause-added
returns-clause-added c =
    let len : length c.args.bytes.now.items ≡ c.len-before.result = sym c.args.bytes.now.ok.0 ∙ sym c.len-before.ensures in
    let more : c.len-before.result ≤ c.in-Some.after = omega (arith, c.in-Some.ensures.1) in
    let kept = front_kept (is_ok c.resize.result) c.len-before.result c.in-Some.after c.args.bytes.now.items _ c.resize.new.self.items c.resize.ensures.items len more in
    let lent = ap (take c.len-before.result) c.deref_mut.ensures.value ∙ kept in
    let room : c.len-before.result ≤ c.resize.new.self.len = grind (arith, common_steps, c.resize.ensures.len, more, c.len-before.ensures) in
    let few = fits_behind (is_ok c.resize.result) c.in_ok-filled.filled c.len-before.result c.in-Some.after c.args.wanted _ c.resize.new.self.len _ c.fill.new.buffer _
    c.in_ok-filled.ensures.within c.fill.auto.buffer c.deref_mut.ensures.len c.resize.ensures.len c.len-before.ensures c.in-Some.ensures.1 in
    added c.len-before.result c.in_ok-filled.filled c.resize.new.self.len c.args.wanted c.args.bytes.now.items _ _ _ c.truncate.new.self.items c.truncate.ensures.items lent len room few
