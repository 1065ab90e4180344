-- The rows of an export give its files the formats of its records.
use Rattle.std.proofs.Common.{◌≡◌, ◌∙◌, ◌++◌, ◌&&◌, ◌||◌, ◌==◌, ℕ, Bool, true, false, not, cond, List, [], ◌∷◌, Option, append-nil, length, map, filter, refl, sym, ap, arith}
use Rattle.std.specs.List.{AllByRecursion, IsDistinct, flat_map}
use Rattle.std.specs.Prelude.{codes, if◌then◌else◌}
use Rattle.std.specs.Str.{bytes_eq}
use Rattle.std.proofs.Math.Bool.{or-true}
use Rattle.std.proofs.lemmas.Bool.{and_parts, eqb-true, false_from_ne_true}
use Rattle.std.proofs.lemmas.List.{map-append}
use Rattle.std.proofs.lemmas.List.Concat.{flat_map-append}
use Rattle.std.proofs.lemmas.List.Elements.{filter-append}
use Rattle.std.proofs.lemmas.Slice.Eq.{bytes_eq-Decides}
use Rattle.csv.specs.Reading.{AreRecords, default_config, strip_bom}
use Rattle.csv.specs.Records.{field_at}
use Rattle.csv.specs.declared.parser.State.TheVariants as st
use Rattle.droid_frame.specs.declared.filter.Filter.{Filter}
use Rattle.droid_frame.specs.declared.hash_kind.HashKind.{HashKind}
use Rattle.droid_frame.specs.declared.node_kind.NodeKind.{NodeKind}
use Rattle.droid_frame.specs.declared.node_kind.NodeKind.TheVariants.{File, Folder}
use Rattle.droid_frame.specs.declared.record.Record.{Record}
use Rattle.droid_export.specs.FormatRows.{HasRows, file_rows, rows_of}
use Rattle.droid_lists.specs.Formats.{change_if, changes_in, differ, file_of, formats_at, has_all, is_among, joined, or_none}
use Rattle.droid_lists.specs.declared.format_lists.format_change.FormatChange.{FormatChange}
use Rattle.droid_export.specs.declared.reading.format_row.FormatRow.{FormatRow}
use Rattle.droid_export.specs.declared.header.Header.{Header}
use Rattle.droid_export.proofs.WholeHeaders.{header_is}
use Rattle.droid_export.specs.Filters.{meets}
use Rattle.droid_frame.specs.Filters.{is_file}
use Rattle.droid_pronom.specs.Registry.{Contents}
use Rattle.droid_export.specs.Rows.{Shown, fields, header, kind_name, no_format, row, rows, rows_by, shown}
use Rattle.droid_export.specs.Text.{chosen_rows, shown_rows, text}
use Rattle.droid_cmd_verify.specs.CheckedTrees.{formats_of}

-- ---- the rows of a record

-- the rows of files among rows with all columns
abbrev its_rows : List (List (List ℕ)) → List FormatRow
its_rows rows = flat_map rows_of rows

abbrev row_of : Record → List ℕ → FormatRow
row_of node puid = record { path = node.path; puid = puid }

row_by : (kind : NodeKind) (one : FormatRow) → (if bytes_eq (kind_name kind) (codes "File") then one ∷ [] else []) ≡ cond (is_file kind) (one ∷ []) []
row_by File one = refl
row_by Folder one = refl

row_read : (node : Record) (format : Shown) → rows_of (fields (row node format)) ≡ cond (is_file node.kind) (row_of node format.puid ∷ []) []
unfolding row field_at
row_read node format = row_by node.kind (row_of node format.puid)

-- a file has a row for each of these formats, a folder has none
abbrev rows_here : Record → List (List ℕ) → List FormatRow
rows_here node puids = cond (is_file node.kind) (map (row_of node) puids) []

cond_same : (file : Bool) (some : List FormatRow) → cond file some some ≡ some
cond_same true some = refl
cond_same false some = refl

cond_more : (file : Bool) (one : FormatRow) (more : List FormatRow) → cond file (one ∷ []) [] ++ cond file more [] ≡ cond file (one ∷ more) []
cond_more true one more = refl
cond_more false one more = refl

each_read : (registry : Contents) (node : Record) (puids : List (List ℕ)) → its_rows (map fields (map (λ one. row node (shown registry one)) puids)) ≡ rows_here node puids
each_read registry node [] = sym (cond_same (is_file node.kind) [])
each_read registry node (puid ∷ puids) =
    ap (λ (front : List FormatRow). front ++ its_rows (map fields (map (λ one. row node (shown registry one)) puids))) (row_read node (shown registry puid))
    ∙ (ap (λ (more : List FormatRow). cond (is_file node.kind) (row_of node puid ∷ []) [] ++ more) (each_read registry node puids)
    ∙ cond_more (is_file node.kind) (row_of node puid) (map (row_of node) puids))

some_long : (puid : List ℕ) (puids : List (List ℕ)) → (length (puid ∷ puids) == 0) ≡ false
some_long puid puids = false_from_ne_true _ (λ is. let none : length (puid ∷ puids) ≡ 0 = eqb-true (length (puid ∷ puids)) 0 is in absurd (omega arith))

or_some : (puid : List ℕ) (puids : List (List ℕ)) → or_none (puid ∷ puids) ≡ puid ∷ puids
or_some puid puids = ap (λ (b : Bool). if b then [] ∷ [] else puid ∷ puids) (some_long puid puids)

record_read : (registry : Contents) (node : Record) (puids : List (List ℕ)) → its_rows (map fields (rows_by registry node puids)) ≡ rows_here node (or_none puids)
record_read registry node [] = append-nil (rows_of (fields (row node no_format))) ∙ row_read node no_format
record_read registry node (puid ∷ puids) = each_read registry node (puid ∷ puids) ∙ ap (λ (some : List (List ℕ)). rows_here node some) (sym (or_some puid puids))

-- the rows of all records
abbrev all_rows : List Record → List FormatRow
all_rows nodes = flat_map (λ node. rows_here node (or_none node.puids)) nodes

rows_read : (registry : Contents) (nodes : List Record) → its_rows (map fields (flat_map (rows registry) nodes)) ≡ all_rows nodes
unfolding rows
rows_read registry [] = refl
rows_read registry (node ∷ nodes) =
    ap its_rows (map-append fields (rows registry node) (flat_map (rows registry) nodes))
    ∙ (flat_map-append rows_of (map fields (rows registry node)) (map fields (flat_map (rows registry) nodes))
    ∙ (ap (λ (front : List FormatRow). front ++ its_rows (map fields (flat_map (rows registry) nodes))) (record_read registry node node.puids)
    ∙ ap (λ (more : List FormatRow). rows_here node (or_none node.puids) ++ more) (rows_read registry nodes)))

-- ---- the formats of a path

at_both : (xs ys : List FormatRow) (path : List ℕ) → formats_at (xs ++ ys) path ≡ formats_at xs path ++ formats_at ys path
at_both xs ys path =
    ap (λ (some : List FormatRow). map (λ one. one.puid) some) (filter-append (λ one. bytes_eq one.path path) xs ys)
    ∙ map-append (λ one. one.puid) (filter (λ one. bytes_eq one.path path) xs) (filter (λ one. bytes_eq one.path path) ys)

at_front : (node : Record) (nodes : List Record) (path : List ℕ) → formats_at (all_rows (node ∷ nodes)) path ≡ formats_at (rows_here node (or_none node.puids)) path ++ formats_at (all_rows nodes) path
at_front node nodes path = at_both (rows_here node (or_none node.puids)) (all_rows nodes) path

here_by : (same : Bool) (node : Record) (path : List ℕ) (puids : List (List ℕ)) → bytes_eq node.path path ≡ same → formats_at (map (row_of node) puids) path ≡ cond same puids []
here_by true node path [] is = refl
here_by false node path [] is = refl
here_by true node path (puid ∷ puids) is =
    let more = filter (λ one. bytes_eq one.path path) (map (row_of node) puids) in
    ap (λ (b : Bool). map (λ one. one.puid) (cond b (row_of node puid ∷ more) more)) is ∙ ap (λ (others : List (List ℕ)). puid ∷ others) (here_by true node path puids is)
here_by false node path (puid ∷ puids) is =
    let more = filter (λ one. bytes_eq one.path path) (map (row_of node) puids) in
    ap (λ (b : Bool). map (λ one. one.puid) (cond b (row_of node puid ∷ more) more)) is ∙ here_by false node path puids is

-- none at another path
apart_by : (file : Bool) (node : Record) (path : List ℕ) (puids : List (List ℕ)) → bytes_eq node.path path ≡ false → formats_at (cond file (map (row_of node) puids) []) path ≡ []
apart_by true node path puids is = here_by false node path puids is
apart_by false node path puids is = refl

turned : (a b : List ℕ) → bytes_eq a b ≡ false → bytes_eq b a ≡ false
turned a b is = false_from_ne_true _ (λ holds. let same = (bytes_eq-Decides b a).0 holds in let again = (bytes_eq-Decides a b).1 (sym same) in cc)

absent : (path : List ℕ) (nodes : List Record) → AllByRecursion (λ other. bytes_eq path other ≡ false) (map (λ node. node.path) nodes) → formats_at (all_rows nodes) path ≡ []
absent path [] apart = refl
absent path (node ∷ nodes) apart =
    at_front node nodes path
    ∙ (ap (λ (front : List (List ℕ)). front ++ formats_at (all_rows nodes) path) (apart_by (is_file node.kind) node path (or_none node.puids) (turned path node.path apart.0))
    ∙ absent path nodes apart.1)

-- a file has its formats among these rows
abbrev HasIts : List FormatRow → Record → Type 0
HasIts given node = is_file node.kind ≡ true → formats_at given node.path ≡ or_none node.puids

own : (node : Record) (nodes : List Record) → AllByRecursion (λ other. bytes_eq node.path other ≡ false) (map (λ one. one.path) nodes) → HasIts (all_rows (node ∷ nodes)) node
own node nodes apart file =
    let here : formats_at (rows_here node (or_none node.puids)) node.path ≡ or_none node.puids
    = ap (λ (b : Bool). formats_at (cond b (map (row_of node) (or_none node.puids)) []) node.path) file
    ∙ here_by true node node.path (or_none node.puids) ((bytes_eq-Decides node.path node.path).1 refl) in
    at_front node nodes node.path
    ∙ (ap (λ (front : List (List ℕ)). front ++ formats_at (all_rows nodes) node.path) here
    ∙ (ap (λ (more : List (List ℕ)). or_none node.puids ++ more) (absent node.path nodes apart) ∙ append-nil (or_none node.puids)))

later : (first : Record) (nodes some : List Record) → AllByRecursion (λ other. bytes_eq first.path other ≡ false) (map (λ node. node.path) some)
    → AllByRecursion (HasIts (all_rows nodes)) some → AllByRecursion (HasIts (all_rows (first ∷ nodes))) some
later first nodes [] apart has = tt
later first nodes (node ∷ some) apart has = (
  (λ file. at_front first nodes node.path
      ∙ (ap (λ (front : List (List ℕ)). front ++ formats_at (all_rows nodes) node.path) (apart_by (is_file first.kind) first node.path (or_none first.puids) apart.0) ∙ has.0 file)),
  later first nodes some apart.1 has.1,
)

each_has : (nodes : List Record) → IsDistinct bytes_eq (map (λ node. node.path) nodes) → AllByRecursion (HasIts (all_rows nodes)) nodes
unfolding IsDistinct
each_has [] distinct = tt
each_has (node ∷ nodes) distinct = (own node nodes distinct.0, later node nodes nodes distinct.0 (each_has nodes distinct.1))

-- ---- no file differs

more_has : (first : List ℕ) (puids others : List (List ℕ)) → has_all puids others ≡ true → has_all (first ∷ puids) others ≡ true
more_has first puids [] all = refl
more_has first puids (other ∷ others) all =
    let parts = and_parts (is_among puids other) (has_all puids others) all in
    ap (λ (b : Bool). (bytes_eq first other || b) && has_all (first ∷ puids) others) parts.0
    ∙ (ap (λ (b : Bool). b && has_all (first ∷ puids) others) (or-true (bytes_eq first other)) ∙ more_has first puids others parts.1)

has_itself : (puids : List (List ℕ)) → has_all puids puids ≡ true
has_itself [] = refl
has_itself (first ∷ puids) =
    ap (λ (b : Bool). (b || is_among puids first) && has_all (first ∷ puids) puids) ((bytes_eq-Decides first first).1 refl) ∙ more_has first puids puids (has_itself puids)

and_none : (test : Bool) → (test && false) ≡ false
and_none true = refl
and_none false = refl

alike : (puids : List (List ℕ)) → differ puids puids ≡ false
alike puids = ap (λ (b : Bool). not (length puids == 0) && not (b && b)) (has_itself puids) ∙ and_none (not (length puids == 0))

none_if : (path : List ℕ) (listed found : List (List ℕ)) → listed ≡ found → change_if path listed found ≡ []
none_if path listed found same =
    ap (λ (puids : List (List ℕ)). change_if path puids found) same
    ∙ ap (λ (b : Bool). if b then (record { path = path; listed = joined found; found = joined found }) ∷ [] else []) (alike found)

none_by : (file : Bool) (given : List FormatRow) (node : Record) (nodes : List Record) → is_file node.kind ≡ file → HasIts given node → changes_in given (formats_of true nodes) ≡ []
    → changes_in given (cond file (file_of node.path node.puids ∷ []) [] ++ formats_of true nodes) ≡ []
none_by true given node nodes is has rest =
    ap (λ (front : List FormatChange). front ++ changes_in given (formats_of true nodes)) (none_if node.path (formats_at given node.path) (or_none node.puids) (has is)) ∙ rest
none_by false given node nodes is has rest = rest

none_differs : (given : List FormatRow) (nodes : List Record) → AllByRecursion (HasIts given) nodes → changes_in given (formats_of true nodes) ≡ []
none_differs given [] has = refl
none_differs given (node ∷ nodes) has = none_by (is_file node.kind) given node nodes refl has.0 (none_differs given nodes has.1)

-- ---- some of the records

apart_some_by : (passes : Bool) (path : List ℕ) (test : Record → Bool) (node : Record) (nodes : List Record) → bytes_eq path node.path ≡ false
    → AllByRecursion (λ other. bytes_eq path other ≡ false) (map (λ one. one.path) (filter test nodes))
    → AllByRecursion (λ other. bytes_eq path other ≡ false) (map (λ one. one.path) (cond passes (node ∷ filter test nodes) (filter test nodes)))
apart_some_by true path test node nodes first rest = (first, rest)
apart_some_by false path test node nodes first rest = rest

apart_some : (path : List ℕ) (test : Record → Bool) (nodes : List Record) → AllByRecursion (λ other. bytes_eq path other ≡ false) (map (λ one. one.path) nodes)
    → AllByRecursion (λ other. bytes_eq path other ≡ false) (map (λ one. one.path) (filter test nodes))
apart_some path test [] all = tt
apart_some path test (node ∷ nodes) all = apart_some_by (test node) path test node nodes all.0 (apart_some path test nodes all.1)

some_by : (passes : Bool) (test : Record → Bool) (node : Record) (nodes : List Record) → AllByRecursion (λ other. bytes_eq node.path other ≡ false) (map (λ one. one.path) (filter test nodes))
    → IsDistinct bytes_eq (map (λ one. one.path) (filter test nodes)) → IsDistinct bytes_eq (map (λ one. one.path) (cond passes (node ∷ filter test nodes) (filter test nodes)))
unfolding IsDistinct
some_by true test node nodes first rest = (first, rest)
some_by false test node nodes first rest = rest

some_distinct : (test : Record → Bool) (nodes : List Record) → IsDistinct bytes_eq (map (λ one. one.path) nodes) → IsDistinct bytes_eq (map (λ one. one.path) (filter test nodes))
unfolding IsDistinct
some_distinct test [] distinct = tt
some_distinct test (node ∷ nodes) distinct = some_by (test node) test node nodes (apart_some node.path test nodes distinct.0) (some_distinct test nodes distinct.1)

pub no_format_differs : (registry : Contents) (criteria : Filter) (hash : HashKind) (nodes : List Record) (given : List FormatRow)
    → AreRecords default_config st.StartRecord (strip_bom (text registry criteria hash nodes)) (map fields (shown_rows registry criteria hash nodes))
    → IsDistinct bytes_eq (map (λ node. node.path) nodes) → HasRows (text registry criteria hash nodes) given → changes_in given (formats_of true (filter (meets criteria) nodes)) ≡ []
no_format_differs registry criteria hash nodes given back distinct has =
    let chosen : List Record = filter (meets criteria) nodes in
    let is : given ≡ all_rows chosen
    = has (map fields (shown_rows registry criteria hash nodes)) back
    ∙ (ap (λ (found : Option Header). file_rows found (map fields (chosen_rows registry criteria nodes))) (header_is hash) ∙ rows_read registry chosen) in
    ap (λ (some : List FormatRow). changes_in some (formats_of true chosen)) is ∙ none_differs (all_rows chosen) chosen (each_has chosen (some_distinct (meets criteria) nodes distinct))
