-- For inner clauses and proofs: functions that read refusals from the front of bytes.
use Rattle.std.specs.Prelude.{ℕ, ◌==◌, if◌then◌else◌, List, [], ◌∷◌, Option, Some, None}
use Rattle.std.specs.List.{find}
use Rattle.std.specs.Option.{option_map}
use Rattle.std.specs.Int.{w32}
use Rattle.droid_frame.specs.declared.refusal.Limit.{Limit}
use Rattle.droid_frame.specs.declared.refusal.Limit.TheVariants as limits
use Rattle.droid_frame.specs.declared.refusal.Refusal.{Refusal}
use Rattle.droid_frame.specs.declared.refusal.Refusal.TheVariants as refusals
use Rattle.droid_frame.specs.Refusals.{refusal_number, limit_number}
use Rattle.droid_frame.specs.Reading.{◌>>=◌, number_at}

-- one of these choices, by its number in one byte, and the bytes after it
abbrev pub choice_at : {A : Type 0} → (A → ℕ) → List A → List ℕ → Option (A × List ℕ)
choice_at number choices [] = None
choice_at number choices (b ∷ rest) = option_map (λ x. (x, rest)) (find (λ x. number x == b) choices)

-- a limit
unfoldable pub limit_at : List ℕ → Option (Limit × List ℕ)
limit_at bytes = choice_at limit_number (limits.Profiles ∷ limits.Nodes ∷ limits.Unfinished ∷ []) bytes

-- the refusals with no field after their number
abbrev pub plain_refusals : List Refusal
plain_refusals =
    refusals.Malformed ∷ refusals.NumberReused ∷ refusals.NoSuchProfile ∷ refusals.NoSuchNode
    ∷ refusals.NotAFolder ∷ refusals.NotAFile ∷ refusals.BadName ∷ refusals.PathTooLong ∷ refusals.NameTaken
    ∷ refusals.BadOption ∷ refusals.TooLarge ∷ refusals.AlreadyFinished ∷ refusals.BadPiece ∷ refusals.PieceHeld
    ∷ refusals.Memory ∷ refusals.Store ∷ []

-- the plain refusal of this number
unfoldable pub plain_refusal : ℕ → Option Refusal
plain_refusal number = find (λ refusal. refusal_number refusal == number) plain_refusals

-- a TooFarAhead, whose field is the index of the first missing piece
unfoldable pub too_far_at : List ℕ → Option (Refusal × List ℕ)
too_far_at bytes = do
  missing ← number_at w32 bytes
  Some (refusals.TooFarAhead missing.0, missing.1)

-- an Incomplete, whose field is the index of the first missing piece
unfoldable pub incomplete_at : List ℕ → Option (Refusal × List ℕ)
incomplete_at bytes = do
  missing ← number_at w32 bytes
  Some (refusals.Incomplete missing.0, missing.1)

-- a LimitReached, whose field is the limit
unfoldable pub limit_reached_at : List ℕ → Option (Refusal × List ℕ)
limit_reached_at bytes = do
  which ← limit_at bytes
  Some (refusals.LimitReached which.0, which.1)

-- the plain refusal of this number, with all bytes left over
unfoldable pub plain_refusal_at : ℕ → List ℕ → Option (Refusal × List ℕ)
plain_refusal_at number rest = do
  refusal ← plain_refusal number
  Some (refusal, rest)

-- the refusal of this number, with the field after its number
unfoldable pub refusal_after : ℕ → List ℕ → Option (Refusal × List ℕ)
refusal_after number rest =
    if number == 15 then too_far_at rest
    else if number == 16 then incomplete_at rest
    else if number == 17 then limit_reached_at rest
    else plain_refusal_at number rest

-- a refusal: its number, and then its field
unfoldable pub refusal_at : List ℕ → Option (Refusal × List ℕ)
refusal_at [] = None
refusal_at (number ∷ rest) = refusal_after number rest
