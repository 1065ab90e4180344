-- The spelling of replies: the version, kind and body bytes of each (this project's own).
use Rattle.std.specs.Prelude.{◌≡◌, ℕ, ◌≤◌, Bool, true, false, List, [], ◌∷◌, ◌++◌, length}
use Rattle.std.specs.List.{AllByRecursion}
use Rattle.droid_frame.specs.declared.hash_value.HashValue.{HashValue}
use Rattle.droid_frame.specs.declared.refusal.Refusal.{Refusal}
use Rattle.droid_frame.specs.declared.refusal.Refusal.TheVariants as refusals
use Rattle.droid_frame.specs.Hashes.{IsHashValue, CarriesHash, hash_bytes, hash_field, hash_value_kind}
use Rattle.droid_frame.specs.Limits.{puids_limit, puid_limit, part_limit}
use Rattle.droid_frame.specs.declared.reply.Reply.{Reply}
use Rattle.droid_frame.specs.declared.reply.Reply.TheVariants.{Made, Node, Taken, Finished, Abandoned, Progress, Part}
use Rattle.droid_frame.specs.declared.reply.Reply.TheVariants.{Refused}
use Rattle.droid_frame.specs.Fields.{IsBytes, u16_bytes, u32_bytes, u64_bytes, truth_bytes, method_bytes, IsU32, IsU64}
use Rattle.droid_frame.specs.Refusals.{refusal_number, limit_number}
use Rattle.droid_frame.specs.TextLists.{texts_bytes, IsSizedText}
use Rattle.droid_frame.specs.Versions.{IsVersion}

-- the kind of a reply's frame
abbrev pub reply_kind : Reply → ℕ
reply_kind (Made profile) = 129
reply_kind (Node id) = 130
reply_kind (Taken held) = 131
reply_kind (Finished method mismatch hash puids) = 132
reply_kind Abandoned = 133
reply_kind (Progress held missing) = 134
reply_kind (Part as_of total bytes) = 135
reply_kind (Refused refusal) = 136

-- whether a reply is a refusal
abbrev pub is_refused : Reply → Bool
is_refused (Refused refusal) = true
is_refused _ = false

-- the field after a refusal's number: the index of the first missing piece, or the number of the limit
abbrev pub refusal_detail : Refusal → List ℕ
refusal_detail (refusals.TooFarAhead missing) = u32_bytes missing
refusal_detail (refusals.Incomplete missing) = u32_bytes missing
refusal_detail (refusals.LimitReached which) = limit_number which ∷ []
refusal_detail _ = []

-- the number of the reason, and then its field, if it has one
abbrev pub refusal_bytes : Refusal → List ℕ
refusal_bytes refusal = refusal_number refusal ∷ refusal_detail refusal

-- the kind of a hash, if the version has a field for it, and then the digest
abbrev pub digest_bytes : ℕ → HashValue → List ℕ
digest_bytes version hash = hash_field version (hash_value_kind hash) ++ hash_bytes hash

-- the fields of a reply, one after the other; the bytes of a Part extend to the end of the body
abbrev pub reply_bytes : ℕ → Reply → List ℕ
reply_bytes version (Made profile) = u32_bytes profile
reply_bytes version (Node id) = u32_bytes id
reply_bytes version (Taken held) = u32_bytes held
reply_bytes version (Finished method mismatch hash puids) =
    method_bytes method
    ++ (truth_bytes mismatch ++ (digest_bytes version hash ++ (u16_bytes (length puids) ++ texts_bytes puids)))
reply_bytes version Abandoned = []
reply_bytes version (Progress held missing) = u32_bytes held ++ u32_bytes missing
reply_bytes version (Part as_of total bytes) = u64_bytes as_of ++ (u64_bytes total ++ bytes)
reply_bytes version (Refused refusal) = refusal_bytes refusal

-- the index of the missing piece fits its field
abbrev pub HasRefusalSpelling : Refusal → Type 0
HasRefusalSpelling (refusals.TooFarAhead missing) = IsU32 missing
HasRefusalSpelling (refusals.Incomplete missing) = IsU32 missing
HasRefusalSpelling _ = Unit {0}

-- a Finished of this version can carry the hash: the version can carry its kind, and the digest has the right length
abbrev pub IsSpelledHash : ℕ → HashValue → Type 0
IsSpelledHash version hash = CarriesHash version (hash_value_kind hash) × IsHashValue hash

-- the identifier of a format is UTF-8 of 1 to 32 bytes
abbrev pub IsPuidText : List ℕ → Type 0
IsPuidText puid = IsSizedText 1 puid_limit puid

-- the reply has a spelling: each number fits its field, and each list is within its limit
abbrev pub HasReplySpelling : ℕ → Reply → Type 0
HasReplySpelling version (Made profile) = IsU32 profile
HasReplySpelling version (Node id) = IsU32 id
HasReplySpelling version (Taken held) = IsU32 held
HasReplySpelling version (Finished method mismatch hash puids) =
    IsSpelledHash version hash × (length puids ≤ puids_limit) × AllByRecursion IsPuidText puids
HasReplySpelling version Abandoned = Unit {0}
HasReplySpelling version (Progress held missing) = IsU32 held × IsU32 missing
HasReplySpelling version (Part as_of total bytes) =
    IsU64 as_of × IsU64 total × (length bytes ≤ part_limit) × IsBytes bytes
HasReplySpelling version (Refused refusal) = HasRefusalSpelling refusal

-- in this version the kind and the whole body spell the reply
pub record SpellsReply (version kind : ℕ) (body : List ℕ) (reply : Reply) : Type 0 where
  pub version_is : IsVersion version
  pub kind_is : kind ≡ reply_kind reply
  pub body_is : body ≡ reply_bytes version reply
  pub has_spelling : HasReplySpelling version reply
