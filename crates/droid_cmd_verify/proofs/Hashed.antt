-- The files of an export and of its tree have hashes of one kind.
use Rattle.std.proofs.Common.{◌≡◌, ◌∙◌, ◌==◌, ℕ, Bool, true, false, not, ◌&&◌, List, [], ◌∷◌, filter, map, Option, Some, refl, sym, ap}
use Rattle.std.specs.List.{AllByRecursion, slice_get}
use Rattle.std.specs.Prelude.{IsPermutation}
use Rattle.std.proofs.lemmas.Bool.{and_from, and_parts, eq-eqb}
use Rattle.droid_frame.specs.Hashes.{hash_kind_number, hash_value_kind}
use Rattle.droid_frame.specs.declared.hash_kind.HashKind.{HashKind}
use Rattle.droid_frame.specs.declared.hash_value.HashValue.{HashValue}
use Rattle.droid_frame.specs.declared.hash_value.HashValue.TheVariants as values
use Rattle.droid_frame.specs.declared.node_kind.NodeKind.{NodeKind}
use Rattle.droid_frame.specs.declared.node_kind.NodeKind.TheVariants.{File, Folder}
use Rattle.droid_frame.specs.declared.record.Record.{Record}
use Rattle.droid_fixity.specs.FilePairs.{IsFilePair}
use Rattle.droid_frame.specs.Items.{both_hashed}
use Rattle.droid_frame.specs.Filters.{is_file}
use Rattle.droid_frame.specs.declared.item.Item.{Item}
use Rattle.droid_fixity.specs.declared.pair.FilePair.{FilePair}
use Rattle.droid_lists.specs.Exports.{HasKind, IsRecordOf, item_of_record, items_of}
use Rattle.droid_lists.specs.Nodes.{hash_of}
use Rattle.droid_cmd_verify.specs.Agreements.{HasHash, HaveHashes}
use Rattle.droid_cmd_verify.specs.Compared.{hashed_by, is_hashed}
use Rattle.droid_cmd_verify.proofs.Places.{some_pass, sorted_has}

-- a file's hash is of this kind, and is one
abbrev IsHashed : HashKind → HashValue → Type 0
IsHashed hash value = (hash_value_kind value ≡ hash) × (not (hash_kind_number (hash_value_kind value) == 0) ≡ true)

abbrev pub HasKindIfFile : HashKind → Item → Type 0
HasKindIfFile hash item = is_file item.kind ≡ true → IsHashed hash item.hash

kind_is : (hash : HashKind) (value : HashValue) → HasKind hash value → not (hash_kind_number (hash_value_kind value) == 0) ≡ true → hash_value_kind value ≡ hash
kind_is hash values.Nothing has is = absurd cc
kind_is hash (values.Md5 digest) has is = sym has
kind_is hash (values.Sha256 digest) has is = sym has

hashed_by_kind : (hash : HashKind) (kind : NodeKind) (value : HashValue) → HasKind hash value → (is_file kind ≡ true → not (hash_kind_number (hash_value_kind value) == 0) ≡ true)
    → is_file kind ≡ true → IsHashed hash (hash_of kind value)
hashed_by_kind hash File value has some file = (kind_is hash value has (some file), some file)
hashed_by_kind hash Folder value has some file = absurd cc

records_hashed : (hash : HashKind) (nodes : List Record) → AllByRecursion (IsRecordOf hash) nodes → HaveHashes nodes → AllByRecursion (λ node. HasKindIfFile hash (item_of_record node)) nodes
records_hashed hash [] each some = tt
records_hashed hash (node ∷ nodes) each some =
    ((λ file. hashed_by_kind hash node.kind node.hash each.0.kind some.0 file), records_hashed hash nodes each.1 some.1)

map_all : (hash : HashKind) (nodes : List Record) → AllByRecursion (λ node. HasKindIfFile hash (item_of_record node)) nodes → AllByRecursion (HasKindIfFile hash) (items_of nodes)
map_all hash [] all = tt
map_all hash (node ∷ nodes) all = (all.0, map_all hash nodes all.1)

pub items_hashed : (hash : HashKind) (test : Record → Bool) (nodes : List Record) → AllByRecursion (IsRecordOf hash) nodes → HaveHashes nodes → AllByRecursion (HasKindIfFile hash) (items_of (filter test nodes))
items_hashed hash test nodes each some = map_all hash (filter test nodes) (some_pass (λ node. HasKindIfFile hash (item_of_record node)) test nodes (records_hashed hash nodes each some))

-- ---- pairs of files

pair_hashed : (hash : HashKind) (a b : Item) → IsHashed hash a.hash → IsHashed hash b.hash → both_hashed a b ≡ true
pair_hashed hash a b one other =
    and_from (not (hash_kind_number (hash_value_kind a.hash) == 0)) (hash_kind_number (hash_value_kind a.hash) == hash_kind_number (hash_value_kind b.hash)) one.1
    (eq-eqb (hash_kind_number (hash_value_kind a.hash)) (hash_kind_number (hash_value_kind b.hash)) (ap hash_kind_number (one.0 ∙ sym other.0)))

pub pairs_hashed : (hash : HashKind) (items listed found : List Item) (pairs : List FilePair) → AllByRecursion (HasKindIfFile hash) items → IsPermutation items listed → IsPermutation items found
    → AllByRecursion (IsFilePair listed found) pairs → AllByRecursion (λ pair. is_hashed listed found pair ≡ true) pairs
pairs_hashed hash items listed found [] each first second right = tt
pairs_hashed hash items listed found (pair ∷ pairs) each first second right =
    let it = right.0 in
    let files = and_parts (is_file it.a.kind) (is_file it.b.kind) it.files in
    let one = sorted_has (HasKindIfFile hash) items listed pair.listed it.a each first it.here files.0 in
    let other = sorted_has (HasKindIfFile hash) items found pair.found it.b each second it.there files.1 in (
      ap (λ (o : Option Item). hashed_by o (slice_get found pair.found)) it.here
          ∙ (ap (λ (o : Option Item). hashed_by (Some it.a) o) it.there ∙ pair_hashed hash it.a it.b one other),
      pairs_hashed hash items listed found pairs each first second right.1,
    )
