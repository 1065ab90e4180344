use Rattle.std.proofs.Common.{◌+◌, ◌++◌, List, ℕ, length, take, arith, ap, ◌∙◌}
use Rattle.std.proofs.lemmas.Slice.{take-put_mid}
use Rattle.droid_hash.proofs.tails.put.Goals as goal

pub returns : goal.returns
returns c =
    let same = ap length c.copy_from_slice.ensures.after in
    take-put_mid c.args.at _ c.args.all.now c.copy_from_slice.new.self (c.args.at + length c.args.bytes.now) (omega arith) (omega arith)
    ∙ ap (λ (x : List ℕ). take c.args.at c.args.all.now ++ x) c.copy_from_slice.ensures.after
