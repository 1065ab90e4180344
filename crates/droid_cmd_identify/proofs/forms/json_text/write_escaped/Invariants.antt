use Rattle.std.proofs.Common.{flat_map}
use Rattle.std.specs.Fmt.{HasWritten, IsPlainFormatter}
use Rattle.droid_cmd_identify.specs.Json.{json_char}
use Rattle.droid_cmd_identify.proofs.forms.json_text.write_escaped.Given as goal

-- the characters so far are written
abbrev pub invariant-loop-letter : goal.invariant-loop-letter
invariant-loop-letter g l =
    IsPlainFormatter l.initial.f → HasWritten g.W.Write.write_str_gives l.initial.f (flat_map json_char l.yielded) l.f
