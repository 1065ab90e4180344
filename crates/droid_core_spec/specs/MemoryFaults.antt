-- Which refusals say that memory ran out.
use Rattle.std.specs.Prelude.{Bool, true, false}
use Rattle.droid_frame.specs.declared.refusal.Refusal.{Refusal}
use Rattle.droid_frame.specs.declared.refusal.Refusal.TheVariants as refusals
use Rattle.droid_frame.specs.declared.reply.Reply.{Reply}
use Rattle.droid_frame.specs.declared.reply.Reply.TheVariants.{Made, Node, Refused}

-- The refusal Memory alone. Store says that the database refused for another cause, and no service answers it.
abbrev pub is_out_of_memory_of : Refusal → Bool
is_out_of_memory_of refusals.Memory = true
is_out_of_memory_of refusals.Store = false
is_out_of_memory_of refusals.Malformed = false
is_out_of_memory_of refusals.NumberReused = false
is_out_of_memory_of refusals.NoSuchProfile = false
is_out_of_memory_of refusals.NoSuchNode = false
is_out_of_memory_of refusals.NotAFolder = false
is_out_of_memory_of refusals.NotAFile = false
is_out_of_memory_of refusals.BadName = false
is_out_of_memory_of refusals.PathTooLong = false
is_out_of_memory_of refusals.NameTaken = false
is_out_of_memory_of refusals.BadOption = false
is_out_of_memory_of refusals.TooLarge = false
is_out_of_memory_of refusals.AlreadyFinished = false
is_out_of_memory_of refusals.BadPiece = false
is_out_of_memory_of refusals.PieceHeld = false
is_out_of_memory_of (refusals.TooFarAhead missing) = false
is_out_of_memory_of (refusals.Incomplete missing) = false
is_out_of_memory_of (refusals.LimitReached which) = false

-- the reply is the refusal Memory
abbrev pub is_out_of_memory : Reply → Bool
is_out_of_memory (Made profile) = false
is_out_of_memory (Node id) = false
is_out_of_memory (Refused refusal) = is_out_of_memory_of refusal
is_out_of_memory _ = false
