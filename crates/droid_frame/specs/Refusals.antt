-- The numbers of limits and of the reasons for a refusal (this project's own).
use Rattle.std.specs.Prelude.{ℕ}
use Rattle.droid_frame.specs.declared.refusal.Limit.{Limit}
use Rattle.droid_frame.specs.declared.refusal.Limit.TheVariants as limits
use Rattle.droid_frame.specs.declared.refusal.Refusal.{Refusal}
use Rattle.droid_frame.specs.declared.refusal.Refusal.TheVariants.{Malformed, NumberReused, NoSuchProfile, NoSuchNode}
use Rattle.droid_frame.specs.declared.refusal.Refusal.TheVariants.{NotAFolder, NotAFile, BadName, PathTooLong}
use Rattle.droid_frame.specs.declared.refusal.Refusal.TheVariants.{NameTaken, BadOption, TooLarge, AlreadyFinished}
use Rattle.droid_frame.specs.declared.refusal.Refusal.TheVariants.{BadPiece, PieceHeld, TooFarAhead, Incomplete}
use Rattle.droid_frame.specs.declared.refusal.Refusal.TheVariants.{LimitReached, Memory, Store}

-- the number of a limit
abbrev pub limit_number : Limit → ℕ
limit_number limits.Profiles = 1
limit_number limits.Nodes = 2
limit_number limits.Unfinished = 3

-- the number of a reason
abbrev pub refusal_number : Refusal → ℕ
refusal_number Malformed = 1
refusal_number NumberReused = 2
refusal_number NoSuchProfile = 3
refusal_number NoSuchNode = 4
refusal_number NotAFolder = 5
refusal_number NotAFile = 6
refusal_number BadName = 7
refusal_number PathTooLong = 8
refusal_number NameTaken = 9
refusal_number BadOption = 10
refusal_number TooLarge = 11
refusal_number AlreadyFinished = 12
refusal_number BadPiece = 13
refusal_number PieceHeld = 14
refusal_number (TooFarAhead missing) = 15
refusal_number (Incomplete missing) = 16
refusal_number (LimitReached which) = 17
refusal_number Memory = 18
refusal_number Store = 19
