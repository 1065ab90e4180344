-- Sending the lines of a script, one after another (this project's own rule).
use Rattle.std.specs.Prelude.{◌≡◌, ℕ, ◌⊎◌, List, ◌∷◌, ◌++◌, Option, IfSome}
use Rattle.std.specs.Io.KnownBytes.{Appends, Consumes}
use Rattle.std.specs.List.{flat_map}
use Rattle.droid_client.specs.Cores.{Core}
use Rattle.droid_lines.specs.Lines.{lines_of}
use Rattle.droid_lines.specs.Tallies.{Counts}
use Rattle.droid_lines.specs.declared.tally.Tally.{Tally}
use Rattle.droid_lines.specs.declared.send_fault.SendFault.{SendFault}
use Rattle.droid_lines.specs.declared.send_fault.SendFault.TheVariants.{Lines, Memory}
use Rattle.droid_lines.specs.Exchanges.{Exchange, LinesSent, came_bytes, is_bad, printed, sent_bytes}
use Rattle.droid_lines.specs.Stopping.{LineStops, Undone}

-- These lines were sent, one after another: the frames of their requests were written, the frames of their replies were
-- read, and what each line prints was written.
pub record Sends (core : Core) (lines : List (List ℕ))
    (input left old_frames new_frames old_text new_text : Option (List ℕ)) (after : Core) : Type 0 where
  pub exchanges : List (Option Exchange)
  pub sent : LinesSent core lines exchanges after
  pub read : Consumes input left (flat_map came_bytes exchanges)
  pub frames : Appends old_frames new_frames (flat_map sent_bytes exchanges)
  pub text : Appends old_text new_text (flat_map printed exchanges)

-- all lines of the script, where it is known, were sent
pub record SendsAll (core : Core) (script input left old_frames new_frames old_text new_text : Option (List ℕ))
    (after : Core) (tally : Tally) : Type 0 where
  pub lines : List (List ℕ)
  pub are_all : IfSome script (λ known. lines_of known ≡ lines)
  pub counts : Counts is_bad tally lines
  pub sends : Sends core lines input left old_frames new_frames old_text new_text after

-- the faults that may come between two lines
abbrev pub IsOfReading : SendFault → Type 0
IsOfReading Lines = Unit {0}
IsOfReading Memory = Unit {0}
IsOfReading _ = ⊥

-- a fault came at the first of the lines that were left
pub record StopsAtFirst (fault : SendFault) (core : Core) (others : List (List ℕ))
    (input left old_frames new_frames old_text new_text : Option (List ℕ)) (after : Core) : Type 0 where
  pub line : List ℕ
  pub more : List (List ℕ)
  pub first : others ≡ line ∷ more
  pub stops : LineStops fault core line input left old_frames new_frames old_text new_text after

-- the fault came at the first of the lines that were left, or the next line could not be read
abbrev pub Stops : SendFault → Core → List (List ℕ) → Option (List ℕ) → Option (List ℕ) → Option (List ℕ)
    → Option (List ℕ) → Option (List ℕ) → Option (List ℕ) → Core → Type 0
Stops fault core others input left old_frames new_frames old_text new_text after =
    StopsAtFirst fault core others input left old_frames new_frames old_text new_text after
    ⊎ (IsOfReading fault × Undone core input left old_frames new_frames old_text new_text after)

-- The first lines of the script, where it is known, were sent, and then a fault came.
pub record SendsFront (fault : SendFault) (core : Core)
    (script input left old_frames new_frames old_text new_text : Option (List ℕ)) (after : Core) : Type 0 where
  pub front : List (List ℕ)
  pub others : List (List ℕ)
  pub cut : IfSome script (λ known. lines_of known ≡ front ++ others)
  pub core_then : Core
  pub left_then : Option (List ℕ)
  pub frames_then : Option (List ℕ)
  pub text_then : Option (List ℕ)
  pub sends : Sends core front input left_then old_frames frames_then old_text text_then core_then
  pub stops : Stops fault core_then others left_then left frames_then new_frames text_then new_text after
