-- Rows are short enough to be kept: a new entry's, a new node's, and a finished file's.
use Rattle.std.proofs.Common.{◌≡◌, inl, inr, ℕ, ◌+◌, ◌*◌, ◌≤◌, ◌==◌, ◌||◌, List, [], ◌∷◌, ◌++◌, length, map, find, filter, Bool, true, false, Some, arith, refl, subst}
use Rattle.std.proofs.lemmas.Bool.{cases_Bool, ltb-false, or_parts}
use Rattle.std.proofs.lemmas.List.{length-append}
use Rattle.std.specs.List.{AllByRecursion, list_any}
use Rattle.std.specs.Prelude.{nat_lt}
use Rattle.std.specs.Str.{bytes_eq}
use Rattle.droid_frame.proofs.ReplyFronts.{puids_are_short}
use Rattle.droid_frame.specs.Fields.{truth_bytes, u16_bytes}
use Rattle.droid_frame.specs.Hashes.{IsHashValue, hash_bytes, hash_field, hash_value_kind}
use Rattle.droid_frame.specs.Replies.{HasReplySpelling, IsPuidText, refusal_bytes, reply_bytes}
use Rattle.droid_frame.specs.declared.hash_kind.HashKind.{HashKind}
use Rattle.droid_frame.specs.declared.hash_value.HashValue.{HashValue}
use Rattle.droid_frame.specs.declared.hash_value.HashValue.TheVariants as hashes
use Rattle.droid_frame.specs.declared.method.Method.{Method}
use Rattle.droid_frame.specs.declared.refusal.Refusal.{Refusal}
use Rattle.droid_frame.specs.declared.refusal.Refusal.TheVariants as refusals
use Rattle.droid_frame.specs.declared.reply.Reply.{Reply}
use Rattle.droid_frame.specs.declared.reply.Reply.TheVariants.{Made, Node, Taken, Finished, Abandoned, Progress, Part, Refused}
use Rattle.droid_frame.specs.TextLists.{texts_bytes}
use Rattle.droid_core_spec.specs.Conditions.{is_bad_name, is_separator}
use Rattle.droid_store.specs.Changes.{finished}
use Rattle.droid_store.specs.Encoded.{joined}
use Rattle.droid_store.specs.Rows as rows
use Rattle.droid_store.specs.Rows.{Rows, is_node, node_at}
use Rattle.droid_store.specs.Sizes.{entry_size, node_size, FitsARow}
use Rattle.droid_core.specs.Changes.{stamped}
use Rattle.droid_core.specs.Rows.{AreShort, IsShort}
use Rattle.droid_core.specs.declared.stamps.Stamp.{Stamp}

-- ---- the rows of nodes stay short

module _ (change : rows.Node → rows.Node) (same_name : (n : rows.Node) → (change n).name ≡ n.name) (same_path : (n : rows.Node) → (change n).path ≡ n.path) where
  pub short_changed : (nodes : List rows.Node) → AllByRecursion IsShort nodes → AllByRecursion IsShort (map change nodes)
  short_changed [] all = tt
  short_changed (n ∷ nodes) all = (rw (same_name n, same_path n) (record { name = all.0.name; path = all.0.path }), short_changed nodes all.1)

pub short_left : (stays : rows.Node → Bool) (nodes : List rows.Node) → AllByRecursion IsShort nodes → AllByRecursion IsShort (filter stays nodes)
short_left stays [] all = tt
short_left stays (n ∷ nodes) all = elim (cases_Bool (stays n)) [
  | inl is ↦ rw is (all.0, short_left stays nodes all.1)
  | inr isnt ↦ rw isnt (short_left stays nodes all.1)
]

short_found : (test : rows.Node → Bool) (nodes : List rows.Node) (node : rows.Node) → AllByRecursion IsShort nodes → find test nodes ≡ Some node → IsShort node
short_found test [] node all is = absurd cc
short_found test (n ∷ nodes) node all is = elim (cases_Bool (test n)) [
  | inl yes_it ↦ (let found : Some n ≡ Some node = rw yes_it at is in let same : n ≡ node = cc in subst IsShort same all.0)
  | inr not_it ↦ short_found test nodes node all.1 (rw not_it at is)
]

-- ---- a new node's name and path are short, where nothing refuses them

name_is_short : (name : List ℕ) → is_bad_name name ≡ false → length name ≤ 255
unfolding is_bad_name
name_is_short name good =
    let empty = length name == 0 in
    let long = nat_lt 255 (length name) in
    let this = bytes_eq name (46 ∷ []) in
    let above = bytes_eq name (46 ∷ 46 ∷ []) in
    let first = or_parts (empty || long || this || above) (list_any is_separator name) good in
    let second = or_parts (empty || long || this) above first.0 in
    let third = or_parts (empty || long) this second.0 in
    ltb-false 255 (length name) (or_parts empty long third.0).1

pub place_is_short : (folder name way : List ℕ) → is_bad_name name ≡ false → nat_lt 4096 (length folder + 1 + length name) ≡ false → way ≡ folder ++ 47 ∷ name → AreShort name way
place_is_short folder name way good short is = record {
  name = name_is_short name good;
  path = rw is (omega (arith, ltb-false 4096 (length folder + 1 + length name) short, length-append folder (47 ∷ name)));
}

-- ---- and so they fit

-- each identifier takes at most 33 bytes
joined_is_short : (puids : List (List ℕ)) → AllByRecursion IsPuidText puids → length (joined puids) ≤ 33 * length puids
joined_is_short [] are = omega arith
joined_is_short (puid ∷ []) are = omega (arith, are.0.at_most)
joined_is_short (puid ∷ other ∷ puids) are =
    let rest = joined_is_short (other ∷ puids) are.1 in
    omega (arith, are.0.at_most, rest, length-append puid (32 ∷ joined (other ∷ puids)))

pub hash_is_short : (value : HashValue) → IsHashValue value → length (hash_bytes value) ≤ 32
hash_is_short hashes.Nothing is = omega arith
hash_is_short (hashes.Md5 digest) is = omega (arith, is.0)
hash_is_short (hashes.Sha256 digest) is = omega (arith, is.0)

pub finished_fits : (store : Rows) (profile file : ℕ) (method : Method) (mismatch : Bool) (value : HashValue) (puids : List (List ℕ)) → AllByRecursion IsShort store.nodes
    → IsHashValue value → length puids ≤ 4096 → AllByRecursion IsPuidText puids
    → (n : rows.Node) → node_at profile file store ≡ Some n → FitsARow (node_size (finished method mismatch value puids n))
finished_fits store profile file method mismatch value puids short sized few are n there =
    let it = short_found (is_node profile file) store.nodes n short there in
    let all = joined_is_short puids are in
    omega (arith, it.name, it.path, all, few, hash_is_short value sized)

-- ---- an entry

details_are_short : (refusal : Refusal) → length (refusal_bytes refusal) ≤ 5
details_are_short (refusals.TooFarAhead missing) = omega arith
details_are_short (refusals.Incomplete missing) = omega arith
details_are_short (refusals.LimitReached which) = omega arith
details_are_short _ = omega arith

one_byte : (b : Bool) → length (truth_bytes b) ≡ 1
one_byte true = refl
one_byte false = refl

-- the kind of a hash is one byte at most
field_is_short : (version : ℕ) (kind : HashKind) → length (hash_field version kind) ≤ 1
field_is_short version kind = elim (cases_Bool (version == 1)) [
  | inl is ↦ rw is (omega arith)
  | inr isnt ↦ rw isnt (omega arith)
]

body_is_short : (version : ℕ) (reply : Reply) → HasReplySpelling version reply → length (reply_bytes version reply) ≤ 1048640
body_is_short version (Made profile) has = omega arith
body_is_short version (Node id) has = omega arith
body_is_short version (Taken held) has = omega arith
body_is_short version (Finished method mismatch hash puids) has =
    let list = u16_bytes (length puids) ++ texts_bytes puids in
    let field = hash_field version (hash_value_kind hash) in
    omega (
      arith,
      hash_is_short hash has.0.1,
      field_is_short version (hash_value_kind hash),
      has.1,
      puids_are_short puids has.2,
      one_byte mismatch,
      length-append (truth_bytes mismatch) ((field ++ hash_bytes hash) ++ list),
      length-append (field ++ hash_bytes hash) list,
      length-append field (hash_bytes hash),
    )
body_is_short version Abandoned has = omega arith
body_is_short version (Progress held missing) has = omega arith
body_is_short version (Part as_of total bytes) has = omega (arith, has.2)
body_is_short version (Refused refusal) has = omega (arith, details_are_short refusal)

pub entry_fits : (stamp : Stamp) (reply : Reply) → length stamp.mark ≡ 16 → HasReplySpelling stamp.version reply → FitsARow (entry_size (stamped stamp reply))
entry_fits stamp reply sixteen has = omega (arith, sixteen, body_is_short stamp.version reply has)
