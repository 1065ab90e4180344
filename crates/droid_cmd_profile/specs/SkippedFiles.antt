-- The CSV of what is skipped, written as it is reported (this project's own).
use Rattle.std.specs.Prelude.{◌≡◌, ℕ, List, Option, Some, None, Result, IfOk}
use Rattle.std.specs.List.{flat_map}
use Rattle.std.specs.Io.KnownBytes.{Appends}
use Rattle.std.specs.declared.alloc.AllocError.{AllocError}
use Rattle.std.specs.declared.alloc.Global.{Global}
use Rattle.std.specs.declared.vec.Vec.{Vec}
use Rattle.droid_frame.specs.Seen.{IsSound}
use Rattle.droid_frame.specs.Writes.{StopsWithin}
use Rattle.droid_frame.specs.declared.io.stream_record.Seen.{Seen}
use Rattle.droid_tree.specs.Heard.{Heard, Left, Held, TookBytes, TookFolder, TookFile}
use Rattle.droid_terminal.specs.SkippedTexts.{entries_text, entry_text, skipped_in}
use Rattle.droid_profile.specs.Writers.{AppendsNotAll, AppendsSome, LastsOn, Stops}
use Rattle.droid_cmd_profile.specs.declared.skipped_file.SkippedFault.{SkippedFault}
use Rattle.droid_cmd_profile.specs.declared.skipped_file.SkippedFault.TheVariants as faults
use Rattle.droid_cmd_profile.specs.declared.skipped_file.SkippedFile.{SkippedFile}
use Rattle.droid_cmd_profile.specs.declared.skipped_writer.SkippedWriter.{SkippedWriter}

-- the line, if there was memory for it
abbrev pub IsLine : Result (Vec ℕ Global) AllocError → List ℕ → Type 0
IsLine line text = IfOk line (λ bytes. bytes.items ≡ text)

-- the lines of all skipped entries that a watcher learned of
abbrev pub lines_of : List Heard → List ℕ
lines_of heard = entries_text (flat_map skipped_in heard)

module _ {S : Type 0} (contents : S → Option (List ℕ)) (seen : S → Seen) (room : S → Option ℕ) where
  -- By the fault afterwards: the whole line was written and the writer lasts; or nothing of it, since memory ran out;
  -- or only its first bytes, since the writer stopped.
  abbrev pub LineEnds : S → S → List ℕ → Option SkippedFault → Type 0
  LineEnds old new line None =
      Appends (contents old) (contents new) line × (IsSound (seen old) → LastsOn (seen old) (seen new))
  LineEnds old new line (Some faults.Memory) = new ≡ old
  LineEnds old new line (Some (faults.Write why)) =
      StopsWithin (contents old) (contents new) line 0 why.written
      × (IsSound (seen old) → Stops (seen old) (seen new) (room new))

  abbrev pub WritesLine : SkippedFile S → SkippedFile S → List ℕ → Type 0
  WritesLine old new line = LineEnds old.output new.output line new.fault

  -- by the fault before: the line is written, or there was a fault, and nothing is done
  abbrev pub GoesOnBy : Option SkippedFault → SkippedFile S → SkippedFile S → List ℕ → Type 0
  GoesOnBy None old new line = WritesLine old new line
  GoesOnBy (Some fault) old new line = new ≡ old

  abbrev pub GoesOn : SkippedFile S → SkippedFile S → List ℕ → Type 0
  GoesOn old new line = GoesOnBy old.fault old new line

  -- the line of a skipped entry, if a watcher learned of one
  abbrev pub NotesIn : SkippedFile S → Heard → SkippedFile S → Type 0
  NotesIn old (Left path why) new = GoesOn old new (entry_text path why)
  NotesIn old (Held path count) new = new ≡ old
  NotesIn old (TookBytes path count) new = new ≡ old
  NotesIn old (TookFolder path) new = new ≡ old
  NotesIn old (TookFile path found) new = new ≡ old

  -- the same where there may be no file for what is skipped
  abbrev pub NotesInSome : Option (SkippedFile S) → Heard → Option (SkippedFile S) → Type 0
  NotesInSome None heard None = Unit {0}
  NotesInSome None heard (Some new) = ⊥
  NotesInSome (Some old) heard None = ⊥
  NotesInSome (Some old) heard (Some new) = NotesIn old heard new

  -- the other watcher learns it, and a skipped entry's line is written
  pub record Notes {W : Type 0} (hears : W → Heard → W → Type 0) (old : SkippedWriter W S) (heard : Heard)
      (new : SkippedWriter W S) : Type 0 where
    pub watched : hears old.watcher heard new.watcher
    pub noted : NotesInSome old.file heard new.file

  -- ---- after many calls

  -- By the fault afterwards: the whole text was written and the writer lasts; or only its first bytes, since memory ran
  -- out or since the writer stopped.
  abbrev pub TextEnds : S → S → List ℕ → Option SkippedFault → Type 0
  TextEnds old new text None =
      Appends (contents old) (contents new) text × (IsSound (seen old) → LastsOn (seen old) (seen new))
  TextEnds old new text (Some faults.Memory) = AppendsSome (contents old) (contents new) text
  TextEnds old new text (Some (faults.Write why)) =
      AppendsNotAll (contents old) (contents new) text × (IsSound (seen old) → Stops (seen old) (seen new) (room new))

  abbrev pub HasTextBy : Option SkippedFault → SkippedFile S → SkippedFile S → List ℕ → Type 0
  HasTextBy None old new text = TextEnds old.output new.output text new.fault
  HasTextBy (Some fault) old new text = new ≡ old

  abbrev pub HasText : SkippedFile S → SkippedFile S → List ℕ → Type 0
  HasText old new text = HasTextBy old.fault old new text

  -- they were written, if there is a file for them
  abbrev pub HasLines : Option (SkippedFile S) → Option (SkippedFile S) → List Heard → Type 0
  HasLines None None heard = Unit {0}
  HasLines None (Some new) heard = ⊥
  HasLines (Some old) None heard = ⊥
  HasLines (Some old) (Some new) heard = HasText old new (lines_of heard)
