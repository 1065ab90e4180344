-- The result of `reply_of`, and the law that a frame spells at most one reply.
use Rattle.std.specs.Prelude.{◌≡◌, ℕ, List, Result, Ok, Err}
use Rattle.droid_frame.specs.declared.reply.Reply.{Reply}
use Rattle.droid_frame.specs.Replies.{SpellsReply}
use Rattle.droid_frame.specs.declared.body_fault.BodyFault.{BodyFault}
use Rattle.droid_frame.specs.declared.body_fault.BodyFault.TheVariants.{Memory}

-- this reply was returned, or it is a Finished and memory ran out
abbrev pub IsReadAs : ℕ → Reply → Result Reply BodyFault → Type 0
IsReadAs kind reply (Ok it) = it ≡ reply
IsReadAs kind reply (Err fault) = (kind ≡ 132) × (fault ≡ Memory)

-- a version, a kind and a body spell at most one reply
abbrev pub SpellsOneReply : Type 0
SpellsOneReply =
    (version kind : ℕ) (body : List ℕ) (one other : Reply) → SpellsReply version kind body one
    → SpellsReply version kind body other → one ≡ other
