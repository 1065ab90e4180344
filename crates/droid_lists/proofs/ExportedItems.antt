-- The rows of an export are read back as the items of its records.
use Rattle.std.proofs.Common.{◌≡◌, ◌∙◌, ◌<◌, ◌+◌, ◌-◌, ◌*◌, ◌^◌, ◌==◌, ℕ, suc, ℤ, Bool, true, false, cond, nat_lt, List, [], ◌∷◌, ◌++◌, append-nil, append_assoc, length, length-append, take, drop, map, max, filter, Option, Some, None, Result, Ok, refl, sym, ap, subst, arith}
use Rattle.std.specs.Fmt.{decimal}
use Rattle.std.specs.List.{AllByRecursion, IsDistinct, flat_map, list_all}
use Rattle.std.specs.Option.{option_map}
use Rattle.std.specs.Prelude.{⊤}
use Rattle.std.specs.Str.{bytes_eq}
use Rattle.std.proofs.lemmas.Bool.{eqb-true}
use Rattle.std.proofs.lemmas.Bool.Decides.{nat_tests}
use Rattle.std.proofs.lemmas.Fmt.{decimal_is_IsNumeral}
use Rattle.std.proofs.lemmas.List.{map-append}
use Rattle.std.proofs.lemmas.List.Folds.{list_all_at}
use Rattle.std.proofs.lemmas.Slice.Eq.{bytes_eq-Decides}
use Rattle.csv.specs.Records.{field_at}
use Rattle.hex.specs.Hex.{encode_lower, encode_with, lower_digits}
use Rattle.hex.proofs.HexLemmas.{decode_sized-encode_lower, length-encode_with}
use Rattle.droid_frame.specs.Fields.{IsBytes}
use Rattle.droid_frame.specs.Hashes.{IsHashValue, hash_bytes}
use Rattle.droid_frame.specs.declared.filter.Filter.{Filter}
use Rattle.droid_frame.specs.declared.hash_kind.HashKind.{HashKind}
use Rattle.droid_frame.specs.declared.hash_kind.HashKind.TheVariants as kinds
use Rattle.droid_frame.specs.declared.hash_value.HashValue.{HashValue}
use Rattle.droid_frame.specs.declared.hash_value.HashValue.TheVariants as values
use Rattle.droid_frame.specs.declared.node_kind.NodeKind.{NodeKind}
use Rattle.droid_frame.specs.declared.node_kind.NodeKind.TheVariants.{File, Folder}
use Rattle.droid_frame.specs.declared.record.Record.{Record}
use Rattle.droid_pronom.specs.Registry.{Contents}
use Rattle.droid_export.specs.Filters.{meets}
use Rattle.droid_frame.specs.Filters.{is_file}
use Rattle.droid_export.specs.Headers.{whole}
use Rattle.droid_export.specs.Moments.{IsMoment, moment_text}
use Rattle.droid_export.specs.Rows.{Shown, fields, header, kind_name, no_format, row, rows, rows_by, shown}
use Rattle.droid_export.specs.Text.{chosen_rows, shown_rows}
use Rattle.droid_frame.specs.Items.{same_truth}
use Rattle.droid_frame.specs.Paths.{is_file_path}
use Rattle.droid_frame.specs.declared.item.Item.{Item}
use Rattle.droid_export.specs.ReadFields.{above_of, digest_of, has_no_slash, id_by, id_of, md5_of, moment_of, parent_of, path_of, rows_of, rows_of_count, sha256_of}
use Rattle.droid_export.specs.ReadFields as read
use Rattle.droid_export.specs.ReadMoments.{is_moment}
use Rattle.droid_export.specs.FolderNumbers.{contradiction}
use Rattle.droid_export.specs.Table.{field_or}
use Rattle.droid_export.specs.Profiles.{Behind, Draft, Rows, after, after_rows, entry_of, items_from, no_rows, nothing_read, parts_of, profile_of, repeats, same_column, shared_columns, spot_of, tag_of, taken, unless_found, with_entry, with_row}
use Rattle.droid_export.specs.declared.reading.fault.ListFault.{ListFault}
use Rattle.droid_export.specs.Fields.{kind_of}
use Rattle.droid_export.proofs.Numbers.{decimal_read}
use Rattle.droid_lists.proofs.ConsistentRecords.{AreTags, entry_at, no_contradiction, one_tag_more, spot_at, tag_at}
use Rattle.droid_lists.proofs.MomentTexts.{moment_passes}
use Rattle.droid_export.proofs.RowTypes.{Entry, RowFault, Spot, Tag}
use Rattle.droid_lists.specs.Exports.{AreRecordsOf, HasKind, IsRecordOf, item_of_record, items_of}
use Rattle.droid_lists.specs.Nodes.{hash_of, length_of}

-- ---- fields

kind_read : (kind : NodeKind) → kind_of (kind_name kind) ≡ Some kind
kind_read File = refl
kind_read Folder = refl

length_read : (kind : NodeKind) (size : ℕ) → size < 2 ^ 64 → read.length_of kind (cond (is_file kind) (decimal size) []) ≡ Some (length_of kind size)
length_read File size below = ap (λ (n : Option ℕ). option_map Some n) (decimal_read size below)
length_read Folder size below = refl

nineteen : (seconds : ℤ) → length (moment_text seconds) ≡ 19
unfolding moment_text
nineteen seconds = refl

moment_by : (text : List ℕ) → length text ≡ 19 → is_moment text ≡ true → moment_of text ≡ Some (Some text)
moment_by text long passes = rw (long, passes) refl

moment_read : (seconds : ℤ) → IsMoment seconds → moment_of (moment_text seconds) ≡ Some (Some (moment_text seconds))
moment_read seconds is = moment_by (moment_text seconds) (nineteen seconds) (moment_passes seconds is)

-- digits that are there are read
some_digits : {A : Type 0} (n m : ℕ) (x y : A) → n ≡ m → (m == 0) ≡ false → cond (n == 0) x y ≡ y
some_digits n m x y is some = rw (is, some) refl

md5_read : (digest : List ℕ) → length digest ≡ 16 → IsBytes digest → read.hash_of kinds.Md5 File (encode_lower digest) ≡ Some (values.Md5 digest)
md5_read digest whole bytes =
    some_digits (length (encode_lower digest)) 32 (Some values.Nothing) (digest_of kinds.Md5 (encode_lower digest)) (length-encode_with lower_digits digest ∙ ap (λ (n : ℕ). 2 * n) whole) refl
    ∙ ap md5_of (decode_sized-encode_lower digest 16 whole bytes)

sha256_read : (digest : List ℕ) → length digest ≡ 32 → IsBytes digest → read.hash_of kinds.Sha256 File (encode_lower digest) ≡ Some (values.Sha256 digest)
sha256_read digest whole bytes =
    some_digits (length (encode_lower digest)) 64 (Some values.Nothing) (digest_of kinds.Sha256 (encode_lower digest)) (length-encode_with lower_digits digest ∙ ap (λ (n : ℕ). 2 * n) whole) refl
    ∙ ap sha256_of (decode_sized-encode_lower digest 32 whole bytes)

hash_read : (digest : HashKind) (kind : NodeKind) (hash : HashValue) → IsHashValue hash → HasKind digest hash
    → read.hash_of digest kind (cond (is_file kind) (encode_lower (hash_bytes hash)) []) ≡ Some (hash_of kind hash)
unfolding encode_with
hash_read digest Folder hash value has = refl
hash_read digest File values.Nothing value has = refl
hash_read digest File (values.Md5 bytes) value has =
    ap (λ (k : HashKind). read.hash_of k File (encode_lower bytes)) has ∙ md5_read bytes value.0 value.1
hash_read digest File (values.Sha256 bytes) value has =
    ap (λ (k : HashKind). read.hash_of k File (encode_lower bytes)) has ∙ sha256_read bytes value.0 value.1

-- ---- where an item is

lt_true : (a b : ℕ) → a < b → nat_lt a b ≡ true
lt_true a b h = grind (arith, nat_tests)

not_none : (n : ℕ) → 0 < n → (n == 0) ≡ false
not_none n some = grind (arith, nat_tests)

some_by : (n : ℕ) → (n == 0) ≡ false → 0 < n
some_by n is = grind (arith, nat_tests)

id_read : (n : ℕ) → 0 < n → n < 2 ^ 32 → id_of (decimal n) ≡ Some n
id_read n some below = ap id_by (decimal_read n (omega (arith, below))) ∙ rw (lt_true 0 n some, lt_true n (2 ^ 32) below) refl

parent_read : (n : ℕ) (top : Bool) → (n == 0) ≡ top → n < 2 ^ 32 → parent_of (cond top [] (decimal n)) ≡ Some n
parent_read n true is below = ap Some (sym (eqb-true n 0 is))
parent_read n false is below =
    some_digits (length (decimal n)) (length (decimal n)) (Some 0) (id_of (decimal n)) refl (not_none (length (decimal n)) (decimal_is_IsNumeral n (omega (arith, below))).0.0)
    ∙ id_read n (some_by n is) below

path_read : (path : List ℕ) → is_file_path path ≡ true → path_of path ≡ Some path
path_read path is = rw is refl

drop_front : (front back : List ℕ) → drop (length front) (front ++ back) ≡ back
drop_front [] back = refl
drop_front (b ∷ front) back = drop_front front back

take_front : (front back : List ℕ) → take (length front) (front ++ back) ≡ front
take_front [] back = refl
take_front (b ∷ front) back = ap (λ (bytes : List ℕ). b ∷ bytes) (take_front front back)

cut_is : (path above name : List ℕ) → path ≡ above ++ 47 ∷ name → length path - (length name + 1) ≡ length above
cut_is path above name named =
    let long = ap length named in
    let sum = length-append above (47 ∷ name) in
    omega (arith, long, sum)

above_by : (path name above : List ℕ) (n : ℕ) → has_no_slash name ≡ true → length path - (length name + 1) ≡ n → drop n path ≡ 47 ∷ name → take n path ≡ above → above_of path name ≡ Some above
above_by path name above n last cut back front =
    rw (last, cut, back, (bytes_eq-Decides name name).1 refl, front) refl

above_read : (path above name : List ℕ) → path ≡ above ++ 47 ∷ name → has_no_slash name ≡ true → above_of path name ≡ Some above
above_read path above name named last =
    above_by path name above (length above) last (cut_is path above name named)
    (ap (λ (p : List ℕ). drop (length above) p) named ∙ drop_front above (47 ∷ name)) (ap (λ (p : List ℕ). take (length above) p) named ∙ take_front above (47 ∷ name))

spot_by_fields : (texts : List (List ℕ)) (id parent : ℕ) (path above : List ℕ) → id_of (field_or texts 0) ≡ Some id → parent_of (field_or texts 1) ≡ Some parent
    → path_of (field_or texts 3) ≡ Some path → above_of path (field_or texts 4) ≡ Some above → same_truth (parent == 0) (length above == 0) ≡ true
    → spot_of texts ≡ Ok (record { id = id; parent = parent; above = length above })
unfolding spot_of
spot_by_fields texts id parent path above i p f a depth = rw (i, p, f, a, depth) refl

spot_read : (digest : HashKind) (node : Record) (format : Shown) → IsRecordOf digest node → spot_of (fields (row node format)) ≡ Ok (spot_at node)
unfolding row field_at
spot_read digest node format is =
    spot_by_fields (fields (row node format)) node.id node.parent node.path is.above (id_read node.id is.id.0 is.id.1) (parent_read node.parent (node.parent == 0) refl is.parent)
    (path_read node.path is.path) (above_read node.path is.above node.name is.named is.last) is.depth
    ∙ ap (λ (n : ℕ). Ok (record { id = node.id; parent = node.parent; above = n })) (sym (cut_is node.path is.above node.name is.named))

-- ---- how many rows

count_read : (kind : NodeKind) (puids : List (List ℕ)) → length puids < 2 ^ 64 → (is_file kind ≡ false → puids ≡ [])
    → rows_of kind (cond (is_file kind) (decimal (length puids)) []) ≡ Some (max 1 (length puids))
count_read File puids below bare = ap rows_of_count (decimal_read (length puids) below)
count_read Folder puids below bare = ap (λ (them : List (List ℕ)). Some (max 1 (length them))) (sym (bare refl))

-- ---- a row

-- what a row says, by its fields
entry_by_fields : (digest : HashKind) (texts : List (List ℕ)) (spot : Spot) (kind : NodeKind) (size : Option ℕ) (modified : Option (List ℕ)) (hash : HashValue) (count : ℕ)
    → length texts ≡ 18 → spot_of texts ≡ Ok spot → kind_of (field_or texts 8) ≡ Some kind → read.length_of kind (field_or texts 7) ≡ Some size → moment_of (field_or texts 10) ≡ Some modified
    → read.hash_of digest kind (field_or texts 12) ≡ Some hash → rows_of kind (field_or texts 13) ≡ Some count
    → entry_of digest texts ≡ Ok (record { item = record { path = field_or texts 3; kind = kind; length = size; modified = modified; hash = hash }; spot = spot; rows = count })
unfolding parts_of
entry_by_fields digest texts spot kind size modified hash count long o k s m h c = rw (long, o, k, s, m, h, c) refl

-- each row of a record says the same
entry_read : (digest : HashKind) (node : Record) (format : Shown) → IsRecordOf digest node → entry_of digest (fields (row node format)) ≡ Ok (entry_at node)
unfolding row field_at
entry_read digest node format is =
    entry_by_fields digest (fields (row node format)) (spot_at node) node.kind (length_of node.kind node.size) (Some (moment_text node.modified)) (hash_of node.kind node.hash) (max 1 (length node.puids))
    refl (spot_read digest node format is) (kind_read node.kind) (length_read node.kind node.size is.size) (moment_read node.modified is.moment) (hash_read digest node.kind node.hash is.value is.kind)
    (count_read node.kind node.puids is.formats is.bare)

-- ---- rows that repeat the row before them

same_columns : (last texts : List (List ℕ)) (columns : List ℕ) → AllByRecursion (λ column. field_or last column ≡ field_or texts column) columns
    → list_all (same_column last texts) columns ≡ true
same_columns last texts [] all = refl
same_columns last texts (column ∷ columns) all =
    rw ((bytes_eq-Decides (field_or last column) (field_or texts column)).1 all.0) (same_columns last texts columns all.1)

-- two rows of one record differ in the columns of the format alone
next_repeats : (node : Record) (before format : Shown) → repeats (Some (fields (row node before))) (fields (row node format)) ≡ true
unfolding row field_at
next_repeats node before format =
    same_columns (fields (row node before)) (fields (row node format)) shared_columns
    (refl, (refl, (refl, (refl, (refl, (refl, (refl, (refl, (refl, (refl, (refl, (refl, (refl, (refl, tt))))))))))))))

other_path : (last texts : List (List ℕ)) → bytes_eq (field_or last 3) (field_or texts 3) ≡ false → repeats (Some last) texts ≡ false
other_path last texts apart = list_all_at (same_column last texts) shared_columns 3 0 (omega arith) apart

-- the last row, if there was one, has another path
abbrev IsApart : Option (List (List ℕ)) → List ℕ → Type 0
IsApart None path = ⊤
IsApart (Some last) path = bytes_eq (field_or last 3) path ≡ false

first_is_new : (last : Option (List (List ℕ))) (node : Record) (format : Shown) → IsApart last node.path → repeats last (fields (row node format)) ≡ false
unfolding row field_at
first_is_new None node format apart = refl
first_is_new (Some last) node format apart = other_path last (fields (row node format)) apart

none_apart : (paths : List (List ℕ)) → AllByRecursion (IsApart None) paths
none_apart [] = tt
none_apart (path ∷ paths) = (tt, none_apart paths)

-- ---- records

-- what was read, after the header
abbrev rows_at : List Item → List Tag → ℕ → Rows
rows_at items tags left = record { items = items; tags = tags; left = left }

abbrev draft_at : HashKind → ℕ → Rows → Option (List (List ℕ)) → Draft
draft_at digest records rows last = record { stage = Behind (whole digest); records = records; rows = rows; last = last }

with_row_read : (draft : Draft) (digest : HashKind) (texts : List (List ℕ)) (read : Result Entry RowFault) (entry : Entry) (next : Rows) (repeated : Bool) → read ≡ Ok entry → repeats draft.last texts ≡ repeated
    → with_entry (draft.records + 1) draft.rows entry repeated ≡ Ok next
    → with_row draft digest texts read ≡ Ok (record { stage = draft.stage; records = draft.records + 1; rows = next; last = Some texts })
with_row_read draft digest texts read entry next repeated is same more =
    ap (with_row draft digest texts) is ∙ ap (after_rows draft texts) (ap (with_entry (draft.records + 1) draft.rows entry) same ∙ more)

-- one row, and what is behind it
row_then : (digest : HashKind) (records : ℕ) (rows next : Rows) (last : Option (List (List ℕ))) (node : Record) (format : Shown) (repeated : Bool) → IsRecordOf digest node
    → repeats last (fields (row node format)) ≡ repeated → with_entry (records + 1) rows (entry_at node) repeated ≡ Ok next → (rest : List (List (List ℕ)))
    → items_from (draft_at digest records rows last) (fields (row node format) ∷ rest)
    ≡ items_from (draft_at digest (records + 1) next (Some (fields (row node format)))) rest
row_then digest records rows next last node format repeated is same more rest =
    ap (λ (r : Result Draft ListFault). after r (λ one. items_from one rest))
    (with_row_read (draft_at digest records rows last) digest (fields (row node format)) (entry_of digest (fields (row node format))) (entry_at node) next repeated (entry_read digest node format is) same more)

-- a first row, and one more of the same record
first_added : (number : ℕ) (items : List Item) (tags : List Tag) (entry : Entry) (left : ℕ) → entry.rows - 1 ≡ left
    → with_entry number (rows_at items tags 0) entry false ≡ Ok (rows_at (items ++ entry.item ∷ []) (tags ++ tag_of number entry ∷ []) left)
first_added number items tags entry left is = ap (λ (n : ℕ). Ok (rows_at (items ++ entry.item ∷ []) (tags ++ tag_of number entry ∷ []) n)) is

next_added : (number : ℕ) (items : List Item) (tags : List Tag) (entry : Entry) (before left : ℕ) → before ≡ suc left
    → with_entry number (rows_at items tags before) entry true ≡ Ok (rows_at items tags left)
next_added number items tags entry before left is =
    let less : before - 1 ≡ left = omega (arith, is) in
    rw (not_none before (omega (arith, is)), less) refl

-- what comes of the rest after the last row of a record
abbrev GoesOn : HashKind → Record → List Item → List Tag → List (List (List ℕ)) → Result (List Item) ListFault → Type 0
GoesOn digest node items tags rest whole = (format : Shown) (records : ℕ) → items_from (draft_at digest records (rows_at items tags 0) (Some (fields (row node format)))) rest ≡ whole

-- the rows of a record behind its first
more_rows : (digest : HashKind) (node : Record) → IsRecordOf digest node → (of_puid : List ℕ → Shown) (puids : List (List ℕ)) (before : Shown) (records : ℕ) (items : List Item) (tags : List Tag)
    (rest : List (List (List ℕ))) (whole : Result (List Item) ListFault) → GoesOn digest node items tags rest whole
    → items_from (draft_at digest records (rows_at items tags (length puids)) (Some (fields (row node before)))) (map fields (map (λ puid. row node (of_puid puid)) puids) ++ rest) ≡ whole
more_rows digest node is of_puid [] before records items tags rest whole on = on before records
more_rows digest node is of_puid (puid ∷ puids) before records items tags rest whole on =
    row_then digest records (rows_at items tags (length (puid ∷ puids))) (rows_at items tags (length puids)) (Some (fields (row node before))) node (of_puid puid) true is (next_repeats node before (of_puid puid))
    (next_added (records + 1) items tags (entry_at node) (length (puid ∷ puids)) (length puids) refl)
    (map fields (map (λ puid. row node (of_puid puid)) puids) ++ rest)
    ∙ more_rows digest node is of_puid puids (of_puid puid) (records + 1) items tags rest whole on

-- all rows of a record: then its item and a tag are there
abbrev OneMore : HashKind → Record → List Item → List Tag → List (List (List ℕ)) → Result (List Item) ListFault → Type 0
OneMore digest node items tags rest whole = (number : ℕ) → GoesOn digest node (items ++ item_of_record node ∷ []) (tags ++ tag_at number node ∷ []) rest whole

rows_by_read : (digest : HashKind) (registry : Contents) (node : Record) → IsRecordOf digest node → (puids : List (List ℕ)) → node.puids ≡ puids → (records : ℕ) (items : List Item) (tags : List Tag) (last : Option (List (List ℕ)))
    → IsApart last node.path → (rest : List (List (List ℕ))) (whole : Result (List Item) ListFault) → OneMore digest node items tags rest whole
    → items_from (draft_at digest records (rows_at items tags 0) last) (map fields (rows_by registry node puids) ++ rest) ≡ whole
rows_by_read digest registry node is [] same records items tags last apart rest whole on =
    row_then digest records (rows_at items tags 0) (rows_at (items ++ item_of_record node ∷ []) (tags ++ tag_at (records + 1) node ∷ []) 0) last node no_format false is (first_is_new last node no_format apart)
    (first_added (records + 1) items tags (entry_at node) 0 (ap (λ (puids : List (List ℕ)). max 1 (length puids) - 1) same)) rest
    ∙ on (records + 1) no_format (records + 1)
rows_by_read digest registry node is (puid ∷ puids) same records items tags last apart rest whole on =
    let left : max 1 (length (puid ∷ puids)) - 1 ≡ length puids = omega arith in
    row_then digest records (rows_at items tags 0) (rows_at (items ++ item_of_record node ∷ []) (tags ++ tag_at (records + 1) node ∷ []) (length puids)) last node (shown registry puid) false is (first_is_new last node (shown registry puid) apart)
    (first_added (records + 1) items tags (entry_at node) (length puids) (ap (λ (them : List (List ℕ)). max 1 (length them) - 1) same ∙ left))
    (map fields (map (λ puid. row node (shown registry puid)) puids) ++ rest)
    ∙ more_rows digest node is (shown registry) puids (shown registry puid) (records + 1) (items ++ item_of_record node ∷ []) (tags ++ tag_at (records + 1) node ∷ []) rest whole (on (records + 1))

rows_read : (digest : HashKind) (registry : Contents) (node : Record) → IsRecordOf digest node → (records : ℕ) (items : List Item) (tags : List Tag) (last : Option (List (List ℕ)))
    → IsApart last node.path → (rest : List (List (List ℕ))) (whole : Result (List Item) ListFault) → OneMore digest node items tags rest whole
    → items_from (draft_at digest records (rows_at items tags 0) last) (map fields (rows registry node) ++ rest) ≡ whole
unfolding rows
rows_read digest registry node is records items tags last apart rest whole on = rows_by_read digest registry node is node.puids refl records items tags last apart rest whole on

-- what comes of the rows of some records, after those of others that were read; all of them are the whole
abbrev AreRead : HashKind → Contents → List Record → List Record → ℕ → List Record → List Tag → Option (List (List ℕ)) → Type 0
AreRead digest registry whole kept records done tags last =
    AreTags tags done → done ++ kept ≡ whole → items_from (draft_at digest records (rows_at (items_of done) tags 0) last) (map fields (flat_map (rows registry) kept)) ≡ Ok (items_of whole)

-- one record more, if it is chosen
record_read : (digest : HashKind) (registry : Contents) (whole : List Record) (chosen : Bool) (node : Record) (kept : List Record) (paths : List (List ℕ)) → IsRecordOf digest node
    → ((records : ℕ) (done : List Record) (tags : List Tag) (last : Option (List (List ℕ))) → AllByRecursion (IsApart last) paths → AreRead digest registry whole kept records done tags last)
    → (records : ℕ) (done : List Record) (tags : List Tag) (last : Option (List (List ℕ))) → IsApart last node.path → AllByRecursion (IsApart last) paths
    → AllByRecursion (λ path. bytes_eq node.path path ≡ false) paths → AreRead digest registry whole (cond chosen (node ∷ kept) kept) records done tags last
unfolding row field_at
record_read digest registry whole false node kept paths is on records done tags last apart others later = on records done tags last others
record_read digest registry whole true node kept paths is on records done tags last apart others later = λ are all.
    ap (items_from (draft_at digest records (rows_at (items_of done) tags 0) last)) (map-append fields (rows registry node) (flat_map (rows registry) kept))
    ∙ rows_read digest registry node is records (items_of done) tags last apart (map fields (flat_map (rows registry) kept)) (Ok (items_of whole))
    (λ number format count.
    ap (λ (items : List Item). items_from (draft_at digest count (rows_at items (tags ++ tag_at number node ∷ []) 0) (Some (fields (row node format)))) (map fields (flat_map (rows registry) kept)))
    (sym (map-append item_of_record done (node ∷ [])))
    ∙ on count (done ++ node ∷ []) (tags ++ tag_at number node ∷ []) (Some (fields (row node format))) later (one_tag_more number node tags done are) (append_assoc done (node ∷ []) kept ∙ all))

records_read : (digest : HashKind) (registry : Contents) (criteria : Filter) (whole nodes : List Record) → ((tags : List Tag) → AreTags tags whole → contradiction (items_of whole) tags ≡ None)
    → AllByRecursion (IsRecordOf digest) nodes → IsDistinct bytes_eq (map (λ node. node.path) nodes)
    → (records : ℕ) (done : List Record) (tags : List Tag) (last : Option (List (List ℕ))) → AllByRecursion (IsApart last) (map (λ node. node.path) nodes)
    → AreRead digest registry whole (filter (meets criteria) nodes) records done tags last
unfolding IsDistinct
records_read digest registry criteria whole [] none each distinct records done tags last apart = λ are all.
    let same : done ≡ whole = sym (append-nil done) ∙ all in
    ap (unless_found (items_of done)) (subst (λ (them : List Record). contradiction (items_of them) tags ≡ None) (sym same) (none tags (subst (AreTags tags) same are))) ∙ ap (λ (them : List Record). Ok (items_of them)) same
records_read digest registry criteria whole (node ∷ nodes) none each distinct records done tags last apart =
    record_read digest registry whole (meets criteria node) node (filter (meets criteria) nodes) (map (λ it. it.path) nodes) each.0
    (records_read digest registry criteria whole nodes none each.1 distinct.1) records done tags last apart.0 apart.1 distinct.0

-- ---- the whole

header_read : (digest : HashKind) (formats : Bool) → taken (nothing_read formats) (fields (header digest)) ≡ Ok (draft_at digest 1 no_rows None)
unfolding field_at
header_read kinds.Nothing true = refl
header_read kinds.Nothing false = refl
header_read kinds.Md5 true = refl
header_read kinds.Md5 false = refl
header_read kinds.Sha256 true = refl
header_read kinds.Sha256 false = refl

pub export_read : (registry : Contents) (criteria : Filter) (digest : HashKind) (nodes : List Record) → AreRecordsOf digest nodes
    → (formats : Bool) → profile_of formats (map fields (shown_rows registry criteria digest nodes)) ≡ Ok (items_of (filter (meets criteria) nodes))
export_read registry criteria digest nodes are formats =
    ap (λ (r : Result Draft ListFault). after r (λ next. items_from next (map fields (chosen_rows registry criteria nodes)))) (header_read digest formats)
    ∙ records_read digest registry criteria (filter (meets criteria) nodes) nodes (no_contradiction digest (meets criteria) nodes are) are.each are.paths 1 [] [] None (none_apart (map (λ node. node.path) nodes)) tt refl
