-- Entries that have no node in a profile, by their type (this project's own).
use Rattle.droid_frame.specs.declared.refusal.Refusal.TheVariants as refusals
use Rattle.droid_tree.specs.declared.folder_entry.EntryKind.{EntryKind}
use Rattle.droid_tree.specs.declared.folder_entry.EntryKind.TheVariants as kinds
use Rattle.droid_tree.specs.declared.skip_reason.Skipped.{Skipped}
use Rattle.droid_tree.specs.declared.skip_reason.Skipped.TheVariants as reasons

-- it is neither a folder nor a regular file
abbrev pub IsNoNode : EntryKind → Type 0
IsNoNode kinds.Folder = ⊥
IsNoNode kinds.File = ⊥
IsNoNode kinds.Link = Unit {0}
IsNoNode kinds.Other = Unit {0}
IsNoNode kinds.TooLong = Unit {0}

-- the reason for which such an entry is skipped: a symbolic link has one of its own, and so has too long a path
abbrev pub reason_of_kind : EntryKind → Skipped
reason_of_kind kinds.Folder = reasons.Kind
reason_of_kind kinds.File = reasons.Kind
reason_of_kind kinds.Link = reasons.Link
reason_of_kind kinds.Other = reasons.Kind
reason_of_kind kinds.TooLong = reasons.Refused refusals.PathTooLong
