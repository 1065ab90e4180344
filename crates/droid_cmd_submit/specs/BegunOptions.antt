-- Which options a submission was begun with, if they are others than those given now (this project's own).
use Rattle.std.specs.Prelude.{ℕ, Bool, true, false, not, List, ◌++◌, Option, Some, None, codes}
use Rattle.droid_frame.specs.declared.hash_kind.HashKind.{HashKind}
use Rattle.droid_frame.specs.declared.hash_kind.HashKind.TheVariants as hashes
use Rattle.droid_upload.specs.declared.tree_submission.Options.{Options}
use Rattle.droid_cmd_submit.specs.declared.begun_options.BegunOptions.{BegunOptions}
use Rattle.droid_cmd_submit.specs.declared.begun_options.BegunOptions.TheVariants.{OtherHash, OtherMatching}
use Rattle.droid_cmd_submit.specs.declared.begun_options.BegunOptions.TheVariants.{OtherHashAndMatching, OtherLimit}

-- both are the same kind of hash
abbrev pub same_hash : HashKind → HashKind → Bool
same_hash hashes.Nothing hashes.Nothing = true
same_hash hashes.Md5 hashes.Md5 = true
same_hash hashes.Sha256 hashes.Sha256 = true
same_hash _ _ = false

-- both are true, or both are false
abbrev pub same_truth : Bool → Bool → Bool
same_truth true other = other
same_truth false other = not other

-- by whether the hash is the same, and whether the matching is
abbrev pub differing : Bool → Bool → Options → Option BegunOptions
differing false true begun = Some (OtherHash begun.hash)
differing true false begun = Some (OtherMatching begun.match_all)
differing false false begun = Some (OtherHashAndMatching begun.hash begun.match_all)
differing true true begun = None

-- If the service takes the submission with another hash or matching, those differ. If it takes none of them, the limit
-- does. If it takes what was given, nothing differs.
abbrev pub begun_of : Options → Option Options → Option BegunOptions
begun_of given None = Some OtherLimit
begun_of given (Some begun) =
    differing (same_hash given.hash begun.hash) (same_truth given.match_all begun.match_all) begun

-- ---- words

-- the option for a kind of hash
abbrev pub hash_words : HashKind → List ℕ
hash_words hashes.Nothing = codes "--hash none"
hash_words hashes.Md5 = codes "--hash md5"
hash_words hashes.Sha256 = codes "--hash sha256"

-- with or without the option, by what the submission was begun with
abbrev pub matching_words : Bool → List ℕ
matching_words true = codes "with --match-all"
matching_words false = codes "without --match-all"

-- the hash that the submission was begun with
abbrev pub with_hash : HashKind → List ℕ
with_hash hash = codes "with " ++ hash_words hash

-- the hash and the matching
abbrev pub both_words : HashKind → Bool → List ℕ
both_words hash match_all = with_hash hash ++ (codes " and " ++ matching_words match_all)

-- what the command says of the options that differ
abbrev pub begun_words : BegunOptions → List ℕ
begun_words (OtherHash hash) = with_hash hash
begun_words (OtherMatching match_all) = matching_words match_all
begun_words (OtherHashAndMatching hash match_all) = both_words hash match_all
begun_words OtherLimit = codes "with another --limit"
