-- A reply's body is its first fields and then its list or its bytes.
use Rattle.std.proofs.Common.{◌≡◌, ℕ, ◌+◌, ◌*◌, ◌<◌, ◌≤◌, List, [], ◌∷◌, ◌++◌, length, take, get_or, refl, sym, ap, append_assoc, arith}
use Rattle.std.specs.List.{AllByRecursion}
use Rattle.std.proofs.lemmas.List.{append-nil, length-append}
use Rattle.std.proofs.lemmas.List.Folds.{length-flat_map-take}
use Rattle.droid_frame.specs.Limits.{puids_limit}
use Rattle.droid_frame.specs.declared.reply.Reply.{Reply}
use Rattle.droid_frame.specs.declared.reply.Reply.TheVariants.{Made, Node, Taken, Finished, Abandoned, Progress, Part, Refused}
use Rattle.droid_frame.specs.Fields.{u64_bytes}
use Rattle.droid_frame.specs.Replies.{HasReplySpelling, IsPuidText, reply_bytes}
use Rattle.droid_frame.specs.ReplyFronts.{HasRestSpelling, reply_front, reply_rest}
use Rattle.droid_frame.specs.TextLists.{sized_bytes, texts_bytes}

pub front_and_rest : (version : ℕ) (reply : Reply) → reply_front version reply ++ reply_rest reply ≡ reply_bytes version reply
front_and_rest version (Made profile) = append-nil _
front_and_rest version (Node id) = append-nil _
front_and_rest version (Taken held) = append-nil _
front_and_rest version (Finished method mismatch hash puids) = simp append_assoc
front_and_rest version Abandoned = refl
front_and_rest version (Progress held missing) = append-nil _
front_and_rest version (Part as_of total bytes) = append_assoc (u64_bytes as_of) (u64_bytes total) bytes
front_and_rest version (Refused refusal) = append-nil _

-- what has a spelling in a version has a rest that has one
pub rest_spelled : (version : ℕ) (reply : Reply) → HasReplySpelling version reply → HasRestSpelling reply
rest_spelled version (Made profile) fits = tt
rest_spelled version (Node id) fits = tt
rest_spelled version (Taken held) fits = tt
rest_spelled version (Finished method mismatch hash puids) fits = fits.2
rest_spelled version Abandoned fits = tt
rest_spelled version (Progress held missing) fits = tt
rest_spelled version (Part as_of total bytes) fits = tt
rest_spelled version (Refused refusal) fits = tt

-- each identifier takes at most 33 bytes
pub puids_are_short : (puids : List (List ℕ)) → AllByRecursion IsPuidText puids → length (texts_bytes puids) ≤ 33 * length puids
puids_are_short [] are = omega arith
puids_are_short (puid ∷ puids) are =
    omega (arith, are.0.at_most, puids_are_short puids are.1, length-append (sized_bytes puid) (texts_bytes puids))

-- the first identifiers and one more
pub room_for_puid : (puids : List (List ℕ)) (i : ℕ) (puid : List ℕ) → AllByRecursion IsPuidText puids → length puids ≤ puids_limit → i < length puids → puid ≡ get_or puids i puid → length (texts_bytes (take i puids)) + (1 + length puid) ≤ 135168
room_for_puid puids i puid are few below is =
    let grown : length (texts_bytes (take i puids)) + length (sized_bytes (get_or puids i puid)) ≤ length (texts_bytes puids) = length-flat_map-take sized_bytes puids i puid below in
    let same : length (sized_bytes (get_or puids i puid)) ≡ length (sized_bytes puid) = ap (λ (t : List ℕ). length (sized_bytes t)) (sym is) in
    omega (arith, grown, same, puids_are_short puids are)
