-- What serving many connections by a service with a journal comes to (this project's own).
use Rattle.std.specs.Prelude.{◌≡◌, ◌⊎◌, ℕ, List, [], ◌∷◌, ◌++◌, Option}
use Rattle.droid_frame.specs.declared.frame.Frame.{Frame}
use Rattle.droid_frame.specs.declared.reply.Reply.{Reply}
use Rattle.droid_core_spec.specs.Histories.{History, next}
use Rattle.droid_core_spec.specs.Setting.{Setting}
use Rattle.droid_journal.specs.Records.{Record}
use Rattle.droid_wire.specs.Standing.{AnswersIn, KeepsHistory}
use Rattle.droid_wire.specs.Handling.{HandlesSo, SettlesSo}
use Rattle.droid_wire.specs.declared.journal_handler.JournalHandler.{JournalHandler}
use Rattle.droid_frame.specs.declared.io.stream_record.Seen.{Seen}
use Rattle.droid_turns.specs.Pipes.{AnswersOne, PipeDoes}
use Rattle.droid_turns.specs.declared.pipe.Pipe.{Pipe}
use Rattle.droid_turns.specs.Chains.{GoesOver}
use Rattle.droid_turns.specs.Events.{Event, Unwritten, Wrote}
use Rattle.droid_turns.specs.Steps.{AtEach, Does, Happens, Step, all_handled}
use Rattle.droid_turns.specs.Turns.{ServesAll}
use Rattle.droid_turns.specs.declared.rules.Rules.{Rules}
use Rattle.droid_turns.specs.declared.service_end.Served.{Served}

-- These frames were handled one after another from this history on, each with this reply; `after` is the history then.
abbrev pub Answered : Setting → History → List (Frame × Reply) → History → Type 0
Answered setting history [] after = after ≡ history
Answered setting history (one ∷ more) after =
    AnswersIn setting history one.0 one.1 (λ middle. Answered setting middle more after)

-- bytes were written to a connection, or that was tried
abbrev pub IsWrite : Step → Type 0
IsWrite (Happens (Wrote id bytes)) = Unit {0}
IsWrite (Happens (Unwritten id)) = Unit {0}
IsWrite _ = ⊥

-- All that was handled in these steps was answered, and this history has it: it goes on from there, by further frames.
pub record IsIn (setting : Setting) (history target : History) (steps : List Step) : Type 0 where
  pub it : History
  pub answered : Answered setting history (all_handled steps) it
  pub further : List (Frame × Reply)
  pub since : Answered setting it further target

-- at a write, this history has all that was handled before
abbrev pub Shows : Setting → History → History → List Step → Step → Type 0
Shows setting history target before step = IsWrite step → IsIn setting history target before

-- the first of these frames is the next that is accepted
abbrev pub IsNextOf : Setting → History → List (Frame × Reply) → History → Type 0
IsNextOf setting history [] after = ⊥
IsNextOf setting history (one ∷ more) after = after ≡ next setting history one.0

-- the history is that after the first of these frames, in order; or the next one of them was accepted too
pub record CameOf (setting : Setting) (history : History) (frames : List (Frame × Reply)) (all : History) : Type 0 where
  pub first : List (Frame × Reply)
  pub others : List (Frame × Reply)
  pub parts : frames ≡ first ++ others
  pub middle : History
  pub answered : Answered setting history first middle
  pub last : (all ≡ middle) ⊎ IsNextOf setting middle others all

-- After these steps: `synced` is on the disk, and no more than `all` was written, however the last call ended. All that
-- was handled before a write to any connection is on the disk; and nothing was written but frames that were handled.
pub record Moment {F : Type 0} (kept : F → List ℕ) (setting : Setting) (header : List ℕ) (history : History) (file : F)
    (steps : List Step) : Type 0 where
  pub written : List Record
  pub synced : History
  pub all : History
  pub keeps : KeepsHistory kept setting header file written synced all
  pub shown : AtEach (Shows setting history synced) [] steps
  pub accepted : CameOf setting history (all_handled steps) all

-- the states between these steps and those that followed
pub record Between {C F : Type 0} (does : C → Event → C → Type 0) (has : F → List ℕ → Type 0) (kept : F → List ℕ)
    (setting : Setting) (header : List ℕ) (history : History) (first last : C × JournalHandler F)
    (before later : List Step) : Type 0 where
  pub at : C × JournalHandler F
  pub so_far : GoesOver (Does does (HandlesSo has kept) (SettlesSo has kept)) first before at
  pub further : GoesOver (Does does (HandlesSo has kept) (SettlesSo has kept)) at later last
  pub moment : Moment kept setting header history at.1.journal.journal.file before

-- what is said of a moment holds between any two of these steps
abbrev pub AtMoments : {C F : Type 0} → (C → Event → C → Type 0) → (F → List ℕ → Type 0) → (F → List ℕ) → Setting
    → List ℕ → History → C × JournalHandler F → C × JournalHandler F → List Step → Type 0
AtMoments does has kept setting header history first last steps =
    (early late : List Step) → steps ≡ early ++ late
    → Between does has kept setting header history first last early late

-- Steps were done, those of a loop that serves each connection well; and what is said of a moment holds at each.
pub record ServesJournal {C F : Type 0} (does : C → Event → C → Type 0) (has : F → List ℕ → Type 0) (kept : F → List ℕ)
    (rules : Rules) (setting : Setting) (header : List ℕ) (history : History) (connections : C)
    (before : JournalHandler F) (later : C) (after : JournalHandler F) (result : Served) : Type 0 where
  pub steps : List Step
  pub serves : ServesAll rules result steps
  pub moments : AtMoments does has kept setting header history (connections, before) (later, after) steps

-- The same of one connection over a reader and a writer.
pub record AnswersJournal {R W F : Type 0} (remaining : R → Option (List ℕ)) (contents : W → Option (List ℕ))
    (was_read : R → Seen) (was_written : W → Seen) (room : W → Option ℕ) (has : F → List ℕ → Type 0) (kept : F → List ℕ)
    (setting : Setting) (header : List ℕ) (history : History) (pipe : Pipe R W) (before : JournalHandler F)
    (later : Pipe R W) (after : JournalHandler F) (result : Served) : Type 0 where
  pub steps : List Step
  pub one : AnswersOne (remaining pipe.reader) (remaining later.reader) (contents pipe.writer) (contents later.writer)
      pipe.departure later.departure result steps
  pub moments : AtMoments (PipeDoes remaining contents was_read was_written room) has kept setting header history
      (pipe, before) (later, after) steps
