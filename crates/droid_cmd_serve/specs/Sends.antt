-- How sending the requests of lines ends.
use Rattle.std.specs.Prelude.{◌≡◌, ℕ, ◌<◌, List, Option, Result, Ok, Err}
use Rattle.droid_client.specs.Cores.{Core}
use Rattle.droid_cmd_serve.specs.declared.exit.Ending.{Ending}
use Rattle.droid_cmd_serve.specs.declared.exit.Ending.TheVariants.{Done, Registry, NoService, Script, Stream, Send}
use Rattle.droid_cmd_serve.specs.declared.exit.Ending.TheVariants.{Socket, Journal, BadLine}
use Rattle.droid_cmd_serve.specs.Endings.{after_lines}
use Rattle.droid_lines.specs.declared.send_fault.SendFault.{SendFault}
use Rattle.droid_lines.specs.declared.tally.Tally.{Tally}
use Rattle.droid_lines.specs.Sending.{SendsAll, SendsFront}

-- how the end of sending ends the program
abbrev pub sending_end_of : Result Tally SendFault → Ending
sending_end_of (Ok tally) = after_lines tally
sending_end_of (Err fault) = Send fault

-- all lines were sent, and P holds of the number of bad lines
pub record SendsWhole (core : Core) (P : ℕ → Type 0)
    (script input left old_frames new_frames old_text new_text : Option (List ℕ)) : Type 0 where
  pub after : Core
  pub tally : Tally
  pub all : SendsAll core script input left old_frames new_frames old_text new_text after tally
  pub bad : P tally.bad

-- the first lines were sent, and then this fault came
pub record SendsSome (core : Core) (fault : SendFault)
    (script input left old_frames new_frames old_text new_text : Option (List ℕ)) : Type 0 where
  pub after : Core
  pub front : SendsFront fault core script input left old_frames new_frames old_text new_text after

-- sending the lines by a client ends like this: which lines were sent, what was read and written, and why no more
abbrev pub SendEndsAs : Core → Ending → Option (List ℕ) → Option (List ℕ) → Option (List ℕ) → Option (List ℕ)
    → Option (List ℕ) → Option (List ℕ) → Option (List ℕ) → Type 0
SendEndsAs core Done script input left old_frames new_frames old_text new_text =
    SendsWhole core (λ bad. bad ≡ 0) script input left old_frames new_frames old_text new_text
SendEndsAs core BadLine script input left old_frames new_frames old_text new_text =
    SendsWhole core (λ bad. 0 < bad) script input left old_frames new_frames old_text new_text
SendEndsAs core (Send fault) script input left old_frames new_frames old_text new_text =
    SendsSome core fault script input left old_frames new_frames old_text new_text
SendEndsAs core (Stream fault) script input left old_frames new_frames old_text new_text = ⊥
SendEndsAs core (NoService fault) script input left old_frames new_frames old_text new_text = ⊥
SendEndsAs core (Registry fault) script input left old_frames new_frames old_text new_text = ⊥
SendEndsAs core (Script fault) script input left old_frames new_frames old_text new_text = ⊥
SendEndsAs core Socket script input left old_frames new_frames old_text new_text = ⊥
SendEndsAs core (Journal fault) script input left old_frames new_frames old_text new_text = ⊥
