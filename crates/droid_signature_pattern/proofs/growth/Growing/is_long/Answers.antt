-- The first text is too long with what stands behind it.
use Rattle.std.proofs.Common.{length, sym, arith}
use Rattle.std.proofs.lemmas.Bool.{eqb-false, ltb-true}
use Rattle.droid_signature_pattern.proofs.Joined.{long_behind}
use Rattle.droid_signature_pattern.proofs.growth.Growing.is_long.Goals as goal

pub returns-then-not-is_empty : goal.returns-then-not-is_empty
returns-then-not-is_empty c = λ more.
    let some = eqb-false (length c.self.inside.texts) 0 (sym c.if-not-is_empty.ensures) in
    let test = ltb-true 4096 c.len.result more in
    rw (← c.self.view_is) (long_behind c.self.inside.texts c.self.inside.last.items some (omega (arith, test, c.len.ensures)))
