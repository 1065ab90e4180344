use Rattle.std.proofs.Common.{◌≡◌, ◌%◌, arith, refl}
use Rattle.droid_hash.proofs.sha256_scalar.next_word.Goals as goal

pub returns : goal.returns
returns c =
    let at : c.args.place % 16 ≡ c.args.place = omega arith in
    record { value = rw (at, c.small_sigma1_word.ensures, c.small_sigma0_word.ensures) refl; window = refl }
