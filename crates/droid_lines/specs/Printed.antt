-- How replies are printed (this project's own rule).
use Rattle.std.specs.Prelude.{ℕ, Bool, if◌then◌else◌, List, [], ◌∷◌, ◌++◌, length, codes, Option, Some, None}
use Rattle.std.specs.Fmt.{decimal}
use Rattle.std.specs.List.{flat_map}
use Rattle.hex.specs.Hex.{encode_lower}
use Rattle.droid_frame.specs.declared.hash_value.HashValue.{HashValue}
use Rattle.droid_frame.specs.declared.hash_value.HashValue.TheVariants as values
use Rattle.droid_frame.specs.declared.method.Method.{Method}
use Rattle.droid_frame.specs.declared.method.Method.TheVariants.{Unidentified, Signature, Extension}
use Rattle.droid_frame.specs.declared.refusal.Limit.{Limit}
use Rattle.droid_frame.specs.declared.refusal.Limit.TheVariants as limits
use Rattle.droid_frame.specs.declared.refusal.Refusal.{Refusal}
use Rattle.droid_frame.specs.declared.refusal.Refusal.TheVariants.{TooFarAhead, Incomplete, LimitReached}
use Rattle.droid_frame.specs.declared.reply.Reply.{Reply}
use Rattle.droid_frame.specs.declared.reply.Reply.TheVariants.{Made, Node, Taken, Finished, Abandoned, Progress, Part}
use Rattle.droid_frame.specs.declared.reply.Reply.TheVariants.{Refused}
use Rattle.droid_frame.specs.Refusals.{refusal_number}

-- the method that found a file's formats
abbrev pub method_text : Method → List ℕ
method_text Unidentified = codes "none"
method_text Signature = codes "Signature"
method_text Extension = codes "Extension"

-- `true` or `false`
abbrev pub truth_text : Bool → List ℕ
truth_text truth = if truth then codes "true" else codes "false"

-- each text after a comma
abbrev pub after_commas : List (List ℕ) → List ℕ
after_commas texts = flat_map (λ text. codes "," ++ text) texts

-- the identifiers of formats with commas between them, or `-` if there is none
unfoldable pub puids_text : List (List ℕ) → List ℕ
puids_text [] = codes "-"
puids_text (first ∷ others) = first ++ after_commas others

-- the word for a limit that was reached
abbrev pub limit_text : Limit → List ℕ
limit_text limits.Profiles = codes "profiles"
limit_text limits.Nodes = codes "nodes"
limit_text limits.Unfinished = codes "unfinished"

-- what a refusal prints after its number
abbrev pub detail_text : Refusal → List ℕ
detail_text (TooFarAhead missing) = codes " " ++ decimal missing
detail_text (Incomplete missing) = codes " " ++ decimal missing
detail_text (LimitReached which) = codes " " ++ limit_text which
detail_text _ = []

-- the digits of a hash in lower case, or `-` if there is none
abbrev pub hash_text : HashValue → List ℕ
hash_text values.Nothing = codes "-"
hash_text (values.Md5 digest) = encode_lower digest
hash_text (values.Sha256 digest) = encode_lower digest

-- the line of a finished file: method, mismatch, hash and formats
unfoldable pub finished_text : Method → Bool → HashValue → List (List ℕ) → List ℕ
finished_text method mismatch hash puids =
    codes "finished "
    ++ (method_text method
    ++ (codes " " ++ (truth_text mismatch ++ (codes " " ++ (hash_text hash ++ (codes " " ++ puids_text puids))))))

-- the line of a reply; for a part of an export it says how many bytes follow
unfoldable pub reply_text : Reply → List ℕ
reply_text (Made profile) = codes "made " ++ decimal profile
reply_text (Node id) = codes "node " ++ decimal id
reply_text (Taken held) = codes "taken " ++ decimal held
reply_text (Finished method mismatch hash puids) = finished_text method mismatch hash puids
reply_text Abandoned = codes "abandoned"
reply_text (Progress held missing) = codes "progress " ++ (decimal held ++ (codes " " ++ decimal missing))
reply_text (Part as_of total bytes) =
    codes "part " ++ (decimal as_of ++ (codes " " ++ (decimal total ++ (codes " " ++ decimal (length bytes)))))
reply_text (Refused refusal) = codes "refused " ++ (decimal (refusal_number refusal) ++ detail_text refusal)

-- what a line of a script prints: its reply, or that it is bad
unfoldable pub answer_text : Option Reply → List ℕ
answer_text None = codes "bad line"
answer_text (Some reply) = reply_text reply

-- what follows after the line feed: the bytes of a part of an export, otherwise nothing
unfoldable pub following_bytes : Option Reply → List ℕ
following_bytes (Some (Part as_of total bytes)) = bytes
following_bytes _ = []

-- the line, a line feed, and what follows
abbrev pub answer_line : Option Reply → List ℕ
answer_line answer = answer_text answer ++ 10 ∷ following_bytes answer
