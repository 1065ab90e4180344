-- The hash of a file is of its profile's choice, and where a reply of the version can carry that choice, the hash has a spelling.
use Rattle.std.proofs.Common.{◌≡◌, ◌==◌, List, ℕ, Bool, cond, true, false, Option, Some, option_map, refl, sym, ap}
use Rattle.std.specs.Prelude.{Result, Ok, IfOk, MatchBool}
use Rattle.droid_frame.specs.Hashes.{IsHashValue, hash, hash_value_kind}
use Rattle.droid_frame.specs.Replies.{IsSpelledHash}
use Rattle.droid_frame.specs.declared.hash_kind.HashKind.{HashKind}
use Rattle.droid_frame.specs.declared.hash_kind.HashKind.TheVariants as kinds
use Rattle.droid_frame.specs.declared.hash_value.HashValue.{HashValue}
use Rattle.droid_core_spec.specs.Conditions.{is_md5, is_carried}
use Rattle.droid_store.specs.declared.fault.StoreFault.{StoreFault}
use Rattle.droid_store.specs.declared.rows.ProfileRow.{ProfileRow}

pub kind_of_hash : (kind : HashKind) (bytes : List ℕ) → hash_value_kind (hash kind bytes) ≡ kind
kind_of_hash kinds.Nothing bytes = refl
kind_of_hash kinds.Md5 bytes = refl
kind_of_hash kinds.Sha256 bytes = refl

-- a kind that the version's Finished can carry is one that the version has
reported_as_md5 : (first : Bool) (kind : HashKind) → cond first (is_md5 kind) true ≡ true → MatchBool first (kind ≡ kinds.Md5) (Unit {0})
reported_as_md5 true kinds.Nothing reported = absurd cc
reported_as_md5 true kinds.Md5 reported = refl
reported_as_md5 true kinds.Sha256 reported = absurd cc
reported_as_md5 false kind reported = tt

pub spelled_hash : (version : ℕ) (value : HashValue) → IsHashValue value → is_carried version (hash_value_kind value) ≡ true → IsSpelledHash version value
spelled_hash version value is reported = (reported_as_md5 (version == 1) (hash_value_kind value) reported, is)

pub of_spelled : (version : ℕ) (value : HashValue) → IsSpelledHash version value → IsHashValue value
of_spelled version value is = is.1

-- what was found of a profile names its hash
pub hash_found : (at : Option ProfileRow) (found : Result (Option ProfileRow) StoreFault) (row : ProfileRow) → found ≡ Ok (Some row) → IfOk found (λ one. one ≡ at) → option_map (λ (p : ProfileRow). p.hash) at ≡ Some row.hash
hash_found at found row there is =
    let same : Some row ≡ at = rw there at is in
    ap (option_map (λ (p : ProfileRow). p.hash)) (sym same)
