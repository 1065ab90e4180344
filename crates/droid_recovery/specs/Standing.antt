-- What the machine stands for that reads a journal that was made small (this project's own).
use Rattle.std.specs.Prelude.{◌≡◌, Bool, true, false, List, [], MatchBool}
use Rattle.droid_frame.specs.Frames.{frame_bytes}
use Rattle.droid_frame.specs.ReplyFrames.{reply_frame}
use Rattle.droid_frame.specs.declared.frame.Frame.{Frame}
use Rattle.droid_frame.specs.declared.reply.Reply.{Reply}
use Rattle.droid_recovery.specs.BareWorlds.{Bare}
use Rattle.droid_recovery.specs.FoundWords.{FindsWords}
use Rattle.droid_recovery.specs.Recovering.{Recovers}
use Rattle.droid_core_spec.specs.Histories.{History}
use Rattle.droid_core_spec.specs.MemoryFaults.{is_out_of_memory}
use Rattle.droid_core_spec.specs.Setting.{Setting}
use Rattle.droid_journal.specs.Records.{Record}
use Rattle.droid_recovery.specs.BareRecords.{HaveHistory, IsAfter}
use Rattle.droid_recovery.specs.declared.recovery_machine.RecoveringMachine.{RecoveringMachine}

-- a service's setting, and which files are bare
pub record Recovery : Type 0 where
  pub setting : Setting
  pub bare : Bare

-- the machine is recovered for each history that the records have
pub record StandsForRecords (recovery : Recovery) (machine : RecoveringMachine) (records : List Record) : Type 0 where
  pub words : FindsWords recovery.setting
  pub recovers : (history : History) → HaveHistory recovery.setting recovery.bare [] records history
      → Recovers recovery.setting recovery.bare machine.holdings history

-- A frame of a record that may come next behind these gets the reply of that record, which belongs to the journal;
-- unless memory runs out.
abbrev pub GivesReply : Recovery → List Record → Frame → Reply → Bool → Type 0
GivesReply recovery records frame reply accepted =
    (history after : History) (it : Record) → HaveHistory recovery.setting recovery.bare [] records history
    → IsAfter recovery.setting recovery.bare history it after → it.request ≡ frame_bytes frame
    → MatchBool (is_out_of_memory reply) (accepted ≡ false)
    ((it.reply ≡ reply_frame frame.version frame.client frame.number reply) × (accepted ≡ true))
