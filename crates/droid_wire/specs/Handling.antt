-- What a service with a journal does with one frame, and what settling does (this project's own).
use Rattle.std.specs.Prelude.{◌≡◌, ℕ, Bool, true, false, List, Option, None, IsSome}
use Rattle.droid_frame.specs.declared.frame.Frame.{Frame}
use Rattle.droid_frame.specs.declared.reply.Reply.{Reply}
use Rattle.droid_core_spec.specs.Histories.{History}
use Rattle.droid_core_spec.specs.Setting.{Setting}
use Rattle.droid_journal.specs.Faults.{MayBeOfWriting}
use Rattle.droid_journal.specs.declared.journal_fault.Fault.{Fault}
use Rattle.droid_journal.specs.declared.journal.Journal.{Journal}
use Rattle.droid_journal.specs.Records.{Record}
use Rattle.droid_wire.specs.Standing.{AnswersIn, IsNextOr, KeepsHistory, StandsForHistory}
use Rattle.droid_wire.specs.declared.service_machine.ServiceMachine.{ServiceMachine}
use Rattle.droid_wire.specs.declared.journal_handler.JournalHandler.{JournalHandler}

-- In each history that it stands for, it answers the frame, or has a fault. In either case, what was on the disk is
-- there, and no more was written than was accepted so far and this frame. After a fault it does nothing. What is noted
-- stays.
pub record HandlesIn {F : Type 0} (has : F → List ℕ → Type 0) (kept : F → List ℕ) (old : Journal F ServiceMachine)
    (frame : Frame) (reply : Reply) (new : Journal F ServiceMachine) (was noted : Option Fault) : Type 0 where
  pub handled : (setting : Setting) (header : List ℕ) (synced all : History)
      → StandsForHistory has kept setting header old synced all
      → new.fault ≡ None → AnswersIn setting all frame reply (StandsForHistory has kept setting header new synced)
  pub keeps : (setting : Setting) (header : List ℕ) (synced all : History)
      → StandsForHistory has kept setting header old synced all
      → (written : List Record) × (after : History) × IsNextOr setting all frame after
      × KeepsHistory kept setting header new.file written synced after
  pub closed : IsSome old.fault → (new.file ≡ old.file) × (new.fault ≡ old.fault)
  pub writing : MayBeOfWriting old.fault → MayBeOfWriting new.fault
  pub unnoted : noted ≡ was

-- If it settles, all of its history is on the disk. If it does not, it has a fault, and that one is noted. After a
-- fault it does not.
pub record SettlesIn {F : Type 0} (has : F → List ℕ → Type 0) (kept : F → List ℕ) (old : Journal F ServiceMachine)
    (done : Bool) (new : Journal F ServiceMachine) (was noted : Option Fault) : Type 0 where
  pub settled : (setting : Setting) (header : List ℕ) (synced all : History)
      → StandsForHistory has kept setting header old synced all
      → done ≡ true → StandsForHistory has kept setting header new all all
  pub kept_is : done ≡ false → kept new.file ≡ kept old.file
  pub closes : done ≡ false → IsSome new.fault
  pub reported : done ≡ false → new.fault ≡ noted
  pub still : done ≡ true → noted ≡ was
  pub writing : MayBeOfWriting old.fault → MayBeOfWriting new.fault
  pub closed : IsSome old.fault → done ≡ false

-- what handling a frame does to a service with its journal and its noted fault
abbrev pub HandlesSo : {F : Type 0} → (F → List ℕ → Type 0) → (F → List ℕ) → JournalHandler F → Frame → Reply
    → JournalHandler F → Type 0
HandlesSo has kept old frame reply new =
    HandlesIn has kept old.journal.journal frame reply new.journal.journal old.fault new.fault

-- what settling does to them
abbrev pub SettlesSo : {F : Type 0} → (F → List ℕ → Type 0) → (F → List ℕ) → JournalHandler F → Bool → JournalHandler F
    → Type 0
SettlesSo has kept old done new = SettlesIn has kept old.journal.journal done new.journal.journal old.fault new.fault
