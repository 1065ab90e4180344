-- What a reply's body is answered says what it spells.
use Rattle.std.proofs.Common.{◌≡◌, ℕ, List, Option, Some, None, Result, Ok, Err, refl, sym, ◌∙◌}
use Rattle.std.specs.Prelude.{IfOk, IsErrOf, IsSome, ◌↔◌}
use Rattle.droid_frame.specs.declared.body_fault.BodyFault.{BodyFault}
use Rattle.droid_frame.specs.declared.body_fault.BodyFault.TheVariants.{Malformed, Memory}
use Rattle.droid_frame.specs.declared.reply.Reply.{Reply}
use Rattle.droid_frame.specs.Fields.{IsBytes}
use Rattle.droid_frame.specs.Replies.{SpellsReply}
use Rattle.droid_frame.specs.ReplyResults.{IsReadAs}
use Rattle.droid_frame.specs.ReplySteps.{IsReplyAnswer}
use Rattle.droid_frame.specs.ReplyValues.{reply_value}
use Rattle.droid_frame.proofs.FieldLaws.{some_is}
use Rattle.droid_frame.proofs.ReplyLaws.{spelled_is_value, value_is_spelled}

pub found : (version kind : ℕ) (body : List ℕ) (result : Result Reply BodyFault) → IsBytes body → IsReplyAnswer kind (reply_value version kind body) result → IfOk result (SpellsReply version kind body)
found version kind body (Ok reply) are answer = value_is_spelled version kind body reply are answer
found version kind body (Err fault) are answer = tt

pub accepted : (version kind : ℕ) (body : List ℕ) (result : Result Reply BodyFault) → IsReplyAnswer kind (reply_value version kind body) result → (reply : Reply) → SpellsReply version kind body reply → IsReadAs kind reply result
accepted version kind body (Ok it) answer reply spelled = some_is it reply (sym answer ∙ spelled_is_value version kind body reply spelled)
accepted version kind body (Err Malformed) answer reply spelled = absurd (let impossible = sym answer ∙ spelled_is_value version kind body reply spelled in cc)
accepted version kind body (Err Memory) answer reply spelled = (answer.0, refl)

-- what is there
some_value : (value : Option Reply) → IsSome value → (reply : Reply) × (value ≡ Some reply)
some_value None is = absurd (let impossible = is in cc)
some_value (Some reply) is = (reply, refl)

pub memory : (version kind : ℕ) (body : List ℕ) (result : Result Reply BodyFault) → IsBytes body → IsReplyAnswer kind (reply_value version kind body) result → IsErrOf result Memory → (kind ≡ 132) × (reply : Reply) × SpellsReply version kind body reply
memory version kind body (Ok it) are answer out_of_memory = absurd (let impossible = out_of_memory in cc)
memory version kind body (Err Malformed) are answer out_of_memory = absurd (let impossible = out_of_memory in cc)
memory version kind body (Err Memory) are answer out_of_memory =
    let some = some_value (reply_value version kind body) answer.1 in
    (answer.0, some.0, value_is_spelled version kind body some.0 are some.1)

pub malformed : (version kind : ℕ) (body : List ℕ) (result : Result Reply BodyFault) → IsBytes body → IsReplyAnswer kind (reply_value version kind body) result → IsErrOf result Malformed ↔ ((reply : Reply) → SpellsReply version kind body reply → ⊥)
malformed version kind body (Ok it) are answer = ((λ is. absurd (let impossible = is in cc)), (λ nothing. absurd (nothing it (value_is_spelled version kind body it are answer))))
malformed version kind body (Err Malformed) are answer = ((λ is reply spelled. let impossible = sym answer ∙ spelled_is_value version kind body reply spelled in cc), (λ nothing. refl))
malformed version kind body (Err Memory) are answer =
    let spelled = memory version kind body (Err Memory) are answer refl in
    ((λ is. absurd (let impossible = is in cc)), (λ nothing. absurd (nothing spelled.1 spelled.2)))
