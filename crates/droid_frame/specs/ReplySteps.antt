-- For inner clauses and proofs: the results of the steps of `reply_of`.
use Rattle.std.specs.Prelude.{◌≡◌, ℕ, List, [], Option, Some, None, IsSome, Result, Ok, Err}
use Rattle.std.specs.Option.{option_map}
use Rattle.droid_frame.specs.declared.reply.Reply.{Reply}
use Rattle.droid_frame.specs.Limits.{puid_limit}
use Rattle.droid_frame.specs.declared.body_fault.BodyFault.{BodyFault}
use Rattle.droid_frame.specs.declared.body_fault.BodyFault.TheVariants.{Malformed, Memory}
use Rattle.droid_frame.specs.TextListFields.{texts_at}

-- the bytes are exactly `count` identifiers
abbrev pub ArePuids : ℕ → List ℕ → Type 0
ArePuids count bytes = option_map (λ x. x.1) (texts_at count 1 puid_limit bytes) ≡ Some []

-- the fault is right: `Malformed` if no reply is spelled, `Memory` only if a Finished is
abbrev pub IsFaultOf : ℕ → Option Reply → BodyFault → Type 0
IsFaultOf kind value Malformed = value ≡ None
IsFaultOf kind value Memory = (kind ≡ 132) × IsSome value

-- what a reader of replies returns for a body of this kind that spells `value`: that reply; `Malformed` only if none is
-- spelled; or, of a Finished alone, `Memory`
abbrev pub IsReplyAnswer : ℕ → Option Reply → Result Reply BodyFault → Type 0
IsReplyAnswer kind value (Ok reply) = value ≡ Some reply
IsReplyAnswer kind value (Err fault) = IsFaultOf kind value fault
