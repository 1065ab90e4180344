use Rattle.std.proofs.Common.{◌≡◌, ℕ, ◌-◌, min, ◌++◌, length, take, ap, ◌∙◌, arith}
use Rattle.droid_cmd_identify.proofs.NameLemmas.{kept_more}
use Rattle.droid_cmd_identify.proofs.name_reader.keep.Goals as goal

pub returns : goal.returns
returns c = λ front is.
    let name = c.args.name.now.items in
    let bytes = c.args.bytes.now in
    let count : c.min.result ≡ min (4096 - length name) (length bytes) = omega (arith, c.min.ensures, c.saturating_sub-room.ensures, c.len.ensures, c.args.name.now.ok.0) in
    c.in_ok-extend_from_slice.ensures.items ∙ (ap (λ (n : ℕ). name ++ take n bytes) count ∙ kept_more 4096 front name bytes is)
