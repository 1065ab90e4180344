use Rattle.std.proofs.Common.{◌≡◌, ℕ, ◌-◌, min, ◌++◌, length, take, ap, ◌∙◌, arith}
use Rattle.droid_cmd_identify.proofs.StreamLemmas.{part_added}
use Rattle.droid_cmd_identify.proofs.stream_ends.add_part.Goals as goal

pub returns : goal.returns
returns c = λ seen keeps.
    let first = c.args.ends.now.first.items in
    let rest = c.args.ends.now.rest.items in
    let bytes = c.args.bytes.now in
    let count : c.min.result ≡ min (c.args.limit - length first) (length bytes) = omega (arith, c.min.ensures, c.saturating_sub-room.ensures, c.len.ensures, c.args.ends.now.first.ok.0) in
    let begins : c.extend_from_slice.new.self.items ≡ first ++ take (min (c.args.limit - length first) (length bytes)) bytes =
    c.in_ok-extend_from_slice.ensures.items ∙ ap (λ (n : ℕ). first ++ take n bytes) count in
    c.trim.ensures (seen ++ bytes) (rw (begins, c.in_ok-extend_from_slice-2.ensures.items) (part_added c.args.limit seen first rest bytes keeps))
