-- For inner clauses and proofs: the two parts of a reply's body, a front of short fields and a rest of any length.
use Rattle.std.specs.Prelude.{ℕ, List, [], ◌++◌, length}
use Rattle.std.specs.List.{AllByRecursion}
use Rattle.droid_frame.specs.declared.reply.Reply.{Reply}
use Rattle.droid_frame.specs.declared.reply.Reply.TheVariants.{Made, Node, Taken, Finished, Abandoned, Progress, Part}
use Rattle.droid_frame.specs.declared.reply.Reply.TheVariants.{Refused}
use Rattle.droid_frame.specs.Fields.{u16_bytes, u32_bytes, u64_bytes, truth_bytes, method_bytes}
use Rattle.droid_frame.specs.Replies.{IsPuidText, digest_bytes, refusal_bytes}
use Rattle.droid_frame.specs.TextLists.{texts_bytes}

-- the front: the fields before a list or bytes
abbrev pub reply_front : ℕ → Reply → List ℕ
reply_front version (Made profile) = u32_bytes profile
reply_front version (Node id) = u32_bytes id
reply_front version (Taken held) = u32_bytes held
reply_front version (Finished method mismatch hash puids) =
    method_bytes method ++ (truth_bytes mismatch ++ (digest_bytes version hash ++ u16_bytes (length puids)))
reply_front version Abandoned = []
reply_front version (Progress held missing) = u32_bytes held ++ u32_bytes missing
reply_front version (Part as_of total bytes) = u64_bytes as_of ++ u64_bytes total
reply_front version (Refused refusal) = refusal_bytes refusal

-- the rest: a list or bytes
abbrev pub reply_rest : Reply → List ℕ
reply_rest (Made profile) = []
reply_rest (Node id) = []
reply_rest (Taken held) = []
reply_rest (Finished method mismatch hash puids) = texts_bytes puids
reply_rest Abandoned = []
reply_rest (Progress held missing) = []
reply_rest (Part as_of total bytes) = bytes
reply_rest (Refused refusal) = []

-- each identifier of a Finished has a spelling
abbrev pub HasRestSpelling : Reply → Type 0
HasRestSpelling (Finished method mismatch hash puids) = AllByRecursion IsPuidText puids
HasRestSpelling _ = Unit {0}
