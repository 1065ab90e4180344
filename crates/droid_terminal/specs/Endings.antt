-- How a command ends, and what it prints then (this project's own).
use Rattle.std.specs.Prelude.{ℕ, List, [], ◌∷◌, ◌++◌, Option, Some, None, codes, decimal}
use Rattle.droid_terminal.specs.Paths.{shown_text}
use Rattle.droid_terminal.specs.declared.ending.about.About.{About}
use Rattle.droid_terminal.specs.declared.ending.about.About.TheVariants as abouts
use Rattle.droid_terminal.specs.declared.ending.command_ending.Ending.{Ending}
use Rattle.droid_terminal.specs.declared.ending.command_ending.Ending.TheVariants as endings
use Rattle.droid_terminal.specs.declared.ending.detail.Detail.{Detail}
use Rattle.droid_terminal.specs.declared.ending.detail.Detail.TheVariants as details
use Rattle.droid_terminal.specs.declared.ending.row.Row.{Row}
use Rattle.droid_terminal.specs.declared.ending.status.Status.{Status}
use Rattle.droid_terminal.specs.declared.ending.status.Status.TheVariants.{Unread, Failed, Unmade}

-- a row as it is read: the status, the name, and what is said before and behind the detail
pub record Said : Type 0 where
  pub status : Status
  pub name : List ℕ
  pub text : List ℕ
  pub rest : List ℕ

-- the row of the table as it is read
abbrev pub said : Row → Said
said row = record { status = row.status; name = row.name.now; text = row.text.now; rest = row.rest.now }

-- what a sentence about a file or folder begins with
abbrev pub of_path : List ℕ → List ℕ
of_path path = shown_text path ++ codes ": "

-- about a file beside another one
abbrev pub of_beside : List ℕ → List ℕ → List ℕ
of_beside path ending = shown_text path ++ (ending ++ codes ": ")

-- about a port of this machine
abbrev pub of_port : ℕ → List ℕ
of_port port = codes "port " ++ (decimal port ++ codes ": ")

-- about a port on which nobody listens
abbrev pub of_unheard : ℕ → List ℕ
of_unheard port =
    codes "nobody listens on port "
    ++ (decimal port ++ (codes ": start droid_desk serve --port " ++ (decimal port ++ codes " first")))

-- what a sentence begins with
abbrev pub about_text : About → List ℕ
about_text abouts.Nothing = []
about_text (abouts.Path path) = of_path path.now
about_text (abouts.Beside path ending) = of_beside path.now ending.now
about_text (abouts.Port port) = of_port port
about_text (abouts.Unheard port) = of_unheard port

-- what a sentence calls an output
abbrev pub output_name : Option (List ℕ) → List ℕ
output_name (Some path) = path
output_name None = codes "standard output"

-- the text of what a sentence names; None for the system's reasons, since how they are printed is not known
abbrev pub detail_text : Detail → Option (List ℕ)
detail_text details.Nothing = Some []
detail_text (details.Number number) = Some (decimal number)
detail_text (details.Numbered number between words) = Some (decimal number ++ (between.now ++ words.now))
detail_text (details.Words words) = Some words.now
detail_text (details.Path path) = Some (shown_text path.now)
detail_text (details.Cause kind) = None
detail_text (details.CauseAt kind path) = None

-- how a command ends, by all that is seen of it
pub data Told : Type 0 where
  Whole : Told
  Partly : Told
  -- a row of the table, the number behind its name, what the sentence is about, and what it names
  Fault : (row : Said) (at : Option ℕ) (about : List ℕ) (detail : Option (List ℕ)) → Told

-- all that is seen of an ending
abbrev pub told : Ending → Told
told endings.Whole = Whole
told endings.Partly = Partly
told (endings.Fault fault) = Fault (said fault.row) fault.at (about_text fault.about) (detail_text fault.detail)

-- an ending by a row alone
abbrev pub by : Said → List ℕ → Told
by row about = Fault row None about (Some [])

-- an ending by a row whose sentence names something
abbrev pub detailed : Said → List ℕ → Option (List ℕ) → Told
detailed row about detail = Fault row None about detail

-- an ending by a row whose name has a number behind it
abbrev pub told_at : Said → List ℕ → ℕ → Option (List ℕ) → Told
told_at row about number detail = Fault row (Some number) about detail

-- an ending by a row whose name and sentence have the same number
abbrev pub numbered : Said → List ℕ → ℕ → Told
numbered row about number = told_at row about number (Some (decimal number))

-- the exit status of a row
abbrev pub number_of : Status → ℕ
number_of Unread = 3
number_of Failed = 4
number_of Unmade = 6

-- the exit status of a command
abbrev pub status_of : Told → ℕ
status_of Whole = 0
status_of Partly = 5
status_of (Fault row at about detail) = number_of row.status

-- the line with the name of a fault, and the number of the line or record at fault
abbrev pub fault_line : List ℕ → Option ℕ → List ℕ
fault_line name (Some at) = codes "fault: " ++ (name ++ (codes " at " ++ (decimal at ++ 10 ∷ [])))
fault_line name None = codes "fault: " ++ (name ++ 10 ∷ [])

-- the sentence behind it, with its line feed; not known where the detail is not
abbrev pub sentence_text : Said → List ℕ → Option (List ℕ) → Option (List ℕ)
sentence_text row about (Some detail) = Some (about ++ (row.text ++ (detail ++ (row.rest ++ 10 ∷ []))))
sentence_text row about None = None
