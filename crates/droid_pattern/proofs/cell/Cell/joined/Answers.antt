-- Two runs of stars are one.
use Rattle.std.proofs.Common.{◌≡◌, ◌+◌, arith}
use Rattle.droid_pattern.specs.Patterns.{OpenGap}
use Rattle.droid_pattern.specs.Cells.{number_of}
use Rattle.droid_pattern.proofs.StarLemmas.{stars_joined}
use Rattle.droid_pattern.proofs.cell.Cell.joined.Goals as goal

pub returns : goal.returns
returns c =
    let more = number_of c.in-Stars.more in
    let further = number_of c.in-Stars-next.further in
    let sum : number_of c.new.result ≡ more + 1 + further = omega (arith, c.new.ensures, c.in-Ok.ensures, c.get.ensures.value, c.get-2.ensures.value) in
    rw (c.in-Stars.is, c.in-Stars-next.is) (λ pool. stars_joined more further (number_of c.new.result) (OpenGap 0) sum)
