-- The refusal sent to a client for each fault of a piece.
use Rattle.droid_frame.specs.declared.refusal.Refusal.{Refusal}
use Rattle.droid_frame.specs.declared.refusal.Refusal.TheVariants as refusals
use Rattle.droid_assembly.specs.declared.fault.PutFault.{PutFault}
use Rattle.droid_assembly.specs.declared.fault.PutFault.TheVariants.{BadPiece, PieceHeld, TooFarAhead}

-- the same fault, without the bytes of the piece
abbrev pub reported_as : PutFault → Refusal
reported_as (BadPiece bytes) = refusals.BadPiece
reported_as (PieceHeld bytes) = refusals.PieceHeld
reported_as (TooFarAhead missing bytes) = refusals.TooFarAhead missing
