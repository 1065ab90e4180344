-- What a watcher learns during a walk (this project's own).
use Rattle.std.specs.Prelude.{ℕ, List}
use Rattle.droid_frame.specs.declared.reply.Reply.{Reply}
use Rattle.droid_tree.specs.declared.skip_reason.Skipped.{Skipped}

-- the calls of a watcher
pub data Heard : Type 0 where
  -- this entry was skipped, for this reason
  Left : (path : List ℕ) (why : Skipped) → Heard
  -- the first `count` bytes of the file are not read: the service already holds them
  Held : (path : List ℕ) (count : ℕ) → Heard
  -- the service took `count` more bytes of the file
  TookBytes : (path : List ℕ) (count : ℕ) → Heard
  -- the folder is now in the profile
  TookFolder : (path : List ℕ) → Heard
  -- the file is now in the profile, and this reply finished it
  TookFile : (path : List ℕ) (found : Reply) → Heard
