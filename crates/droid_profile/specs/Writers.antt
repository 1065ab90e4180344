-- What a writer got of a text, and whether it stopped.
use Rattle.std.specs.Prelude.{◌≡◌, ℕ, ◌<◌, ◌≤◌, List, ◌++◌, length, Option, Some, None}
use Rattle.std.specs.Io.KnownBytes.{Appends}
use Rattle.droid_frame.specs.Seen.{IsSound}
use Rattle.droid_frame.specs.Writes.{WriterStops}
use Rattle.droid_frame.specs.declared.io.stream_record.Seen.{Seen}

-- ---- what it got

-- some first bytes of this text
pub record AppendsSome (old new : Option (List ℕ)) (text : List ℕ) : Type 0 where
  pub written : List ℕ
  pub rest : List ℕ
  pub are : text ≡ written ++ rest
  pub appended : Appends old new written

-- some first bytes of this text, but not all
pub record AppendsNotAll (old new : Option (List ℕ)) (text : List ℕ) : Type 0 where
  pub some : AppendsSome old new text
  pub left : 0 < length some.rest

-- The same of a list, which is written only if there is a writer for it.
abbrev pub Lists : {M : Type 0} → (M → Option (List ℕ)) → Option M → Option M → List ℕ → Type 0
Lists contents None None text = Unit {0}
Lists contents None (Some new) text = ⊥
Lists contents (Some old) None text = ⊥
Lists contents (Some old) (Some new) text = Appends (contents old) (contents new) text

-- the same, of some first bytes of the text
abbrev pub ListsSome : {M : Type 0} → (M → Option (List ℕ)) → Option M → Option M → List ℕ → Type 0
ListsSome contents None None text = Unit {0}
ListsSome contents None (Some new) text = ⊥
ListsSome contents (Some old) None text = ⊥
ListsSome contents (Some old) (Some new) text = AppendsSome (contents old) (contents new) text

-- the same, of not all bytes of the text, so that there is a writer
abbrev pub ListsNotAll : {M : Type 0} → (M → Option (List ℕ)) → Option M → Option M → List ℕ → Type 0
ListsNotAll contents None new text = ⊥
ListsNotAll contents (Some old) None text = ⊥
ListsNotAll contents (Some old) (Some new) text = AppendsNotAll (contents old) (contents new) text

-- ---- whether it stopped

-- the writer lasts, and was interrupted no less often than before
pub record LastsOn (old new : Seen) : Type 0 where
  pub sound : IsSound new
  pub counted : old.interruptions ≤ new.interruptions

-- The writer stopped in its last text: it failed, was interrupted for the 65th time since that text began, or had no
-- room for the rest.
pub record Stops (old new : Seen) (room : Option ℕ) : Type 0 where
  pub start : ℕ
  pub counted : old.interruptions ≤ start
  pub stopped : WriterStops start new room
