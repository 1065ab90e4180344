-- Runs of a script: which lines were handled, what they printed, and the history after them (this project's own rule).
use Rattle.std.specs.Prelude.{◌≡◌, ℕ, ◌<◌, Bool, List, [], ◌∷◌, ◌++◌, codes, length, Option, Some, None, is_none}
use Rattle.std.specs.List.{flat_map}
use Rattle.std.specs.Io.KnownBytes.{Appends}
use Rattle.droid_frame.specs.declared.frame.Frame.{Frame}
use Rattle.droid_frame.specs.declared.reply.Reply.{Reply}
use Rattle.droid_frame.specs.Bodies.{request_kind, request_body}
use Rattle.droid_frame.specs.InTurn.{Effect}
use Rattle.droid_frame.specs.StreamWrites.{Stops}
use Rattle.droid_script.specs.declared.script_fault.ScriptFault.{ScriptFault}
use Rattle.droid_script.specs.declared.script_fault.ScriptFault.TheVariants.{TooLong, Read, Memory, Write}
use Rattle.droid_frame.specs.declared.io.stream_fault.InputFault.{InputFault}
use Rattle.droid_frame.specs.declared.io.stream_fault.InputFault.TheVariants as inputs
use Rattle.droid_lines.specs.declared.parser.Line.{Line}
use Rattle.droid_core.specs.declared.service.Service.{Service}
use Rattle.droid_core_spec.specs.Setting.{Setting}
use Rattle.droid_core_spec.specs.Histories.{History, Handles}
use Rattle.droid_lines.specs.Lines.{line_value}
use Rattle.droid_lines.specs.Printed.{answer_line}
use Rattle.droid_core.specs.Standing.{StandsFor}

-- the frame that a line sends, in its version
abbrev pub frame_of : Line → Frame
frame_of line = record {
  version = line.version;
  kind = request_kind line.request;
  client = line.client;
  number = line.number;
  body = request_body line.version line.request;
}

-- A line's request is handled, which leads to the history `after`. A bad line has no request and no reply.
abbrev pub LineRun : Setting → History → Option Line → Option Reply → History → Type 0
LineRun setting history None None after = after ≡ history
LineRun setting history None (Some reply) after = ⊥
LineRun setting history (Some line) None after = ⊥
LineRun setting history (Some line) (Some reply) after =
    Handles setting history (frame_of line) reply (λ left. after ≡ left)

-- the lines were handled one after another, with these replies, which leads to the history `after`
abbrev pub ScriptRun : Setting → History → List (List ℕ) → List (Option Reply) → History → Type 0
ScriptRun setting history [] [] after = after ≡ history
ScriptRun setting history [] (reply ∷ replies) after = ⊥
ScriptRun setting history (line ∷ lines) [] after = ⊥
ScriptRun setting history (line ∷ lines) (reply ∷ replies) after =
    (middle : History) × LineRun setting history (line_value line) reply middle
    × ScriptRun setting middle lines replies after

-- what the replies print
abbrev pub script_text : List (Option Reply) → List ℕ
script_text replies = flat_map answer_line replies

-- the lines ran, the service stands for the history after them, and a writer's bytes grew by all that they print
pub record RunsAll (setting : Setting) (history : History) (lines : List (List ℕ)) (service : Service)
    (old new : Option (List ℕ)) : Type 0 where
  pub replies : List (Option Reply)
  pub after : History
  pub run : ScriptRun setting history lines replies after
  pub stands : StandsFor setting service after
  pub writes : Appends old new (script_text replies)

-- a line got this reply, and the service stands for the history after it
pub record LineAnswered (setting : Setting) (history : History) (line : Option Line) (answer : Option Reply)
    (service : Service) : Type 0 where
  pub after : History
  pub run : LineRun setting history line answer after
  pub stands : StandsFor setting service after

-- a writer's bytes grew by the first bytes of the text
pub record WritesFront (old new : Option (List ℕ)) (text : List ℕ) : Type 0 where
  pub written : List ℕ
  pub unwritten : List ℕ
  pub cut : text ≡ written ++ unwritten
  pub writes : Appends old new written

-- the first of the lines ran, the service stands for the history after them, and a writer's bytes grew by
-- the first bytes of what they print
pub record RunsFront (setting : Setting) (history : History) (lines : List (List ℕ)) (service : Service)
    (old new : Option (List ℕ)) : Type 0 where
  pub front : List (List ℕ)
  pub rest : List (List ℕ)
  pub cut : lines ≡ front ++ rest
  pub replies : List (Option Reply)
  pub after : History
  pub run : ScriptRun setting history front replies after
  pub stands : StandsFor setting service after
  pub written : List ℕ
  pub unwritten : List ℕ
  pub text : script_text replies ≡ written ++ unwritten
  pub writes : Appends old new written

-- some lines ran, one after another, and the first bytes of what they print were written: this holds even if the script
-- isn't known
pub record GoesOnFrom (setting : Setting) (history : History) (service : Service) (old new : Option (List ℕ))
    : Type 0 where
  pub lines : List (List ℕ)
  pub ran : RunsFront setting history lines service old new

-- writing what a line prints: all of it, or its first bytes but not all
abbrev pub WritesAnswer : {S : Type 0} → (S → Option (List ℕ)) → Effect S (Option Reply)
WritesAnswer contents = record {
  whole = λ answer old new. Appends (contents old) (contents new) (answer_line answer);
  part = λ old new.
      (answer : Option Reply) × (count : ℕ) × Stops (contents old) (contents new) (answer_line answer) count;
}

-- longer than 67,108,864 bytes
abbrev pub IsTooLong : List ℕ → Type 0
IsTooLong input = 67108864 < length input

-- the fault of a script whose input could not be read
abbrev pub reading_fault : InputFault → ScriptFault
reading_fault inputs.TooLong = TooLong
reading_fault inputs.Memory = Memory
reading_fault inputs.Read = Read

-- a line without a request
abbrev pub is_bad : List ℕ → Bool
is_bad line = is_none (line_value line)

-- the name that the program prints for a fault
abbrev pub script_fault_name : ScriptFault → List ℕ
script_fault_name TooLong = codes "TooLong"
script_fault_name Read = codes "Read"
script_fault_name Memory = codes "Memory"
script_fault_name Write = codes "Write"

-- the faults that come before any line is handled
abbrev pub IsOfReading : ScriptFault → Type 0
IsOfReading TooLong = Unit {0}
IsOfReading Read = Unit {0}
IsOfReading Memory = ⊥
IsOfReading Write = ⊥

-- the faults that may come while lines are handled
abbrev pub IsOfHandling : ScriptFault → Type 0
IsOfHandling TooLong = ⊥
IsOfHandling Read = ⊥
IsOfHandling Memory = Unit {0}
IsOfHandling Write = Unit {0}
