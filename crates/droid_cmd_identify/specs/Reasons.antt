-- Why a file is not identified, in words (this project's own).
use Rattle.std.specs.Prelude.{ℕ, List, codes}
use Rattle.droid_terminal.specs.Paths.{cause_text}
use Rattle.droid_tree.specs.declared.skip_reason.Skipped.{Skipped}
use Rattle.droid_tree.specs.declared.skip_reason.Skipped.TheVariants as reasons

-- the words of the other commands, but for a link, which they call no part of a profile
abbrev pub reason_text : Skipped → List ℕ
reason_text reasons.Link = codes "it is a symbolic link, which is not followed"
reason_text reasons.Kind = cause_text reasons.Kind
reason_text reasons.Name = cause_text reasons.Name
reason_text reasons.SameName = cause_text reasons.SameName
reason_text (reasons.Refused refusal) = cause_text (reasons.Refused refusal)
reason_text reasons.Unreadable = cause_text reasons.Unreadable
reason_text reasons.Changed = cause_text reasons.Changed
reason_text reasons.OtherHash = cause_text reasons.OtherHash
