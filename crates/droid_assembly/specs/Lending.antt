-- The state of an assembly after its windows were lent.
use Rattle.std.specs.Borrow.{MutBor, Fml}
use Rattle.std.specs.Io.BufRead.{Rests}
use Rattle.droid_assembly.specs.State.{IsUnchanged}
use Rattle.droid_assembly.specs.declared.assembly.Assembly.{Assembly}
use Rattle.droid_assembly.specs.contracts.assembly.Assembly.{the_row}

-- the assembly is unchanged after the loan
abbrev pub StaysUnchanged : MutBor Assembly → Fml
StaysUnchanged assembly = Rests the_row assembly (IsUnchanged assembly.now)
