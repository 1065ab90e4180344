-- A node is finished, and a node is taken out.
use Rattle.std.proofs.Common.{◌≡◌, ◌==◌, ℕ, pos, List, [], ◌∷◌, map, filter, Bool, true, false, not, inl, inr, if◌then◌else◌, Ok, refl, sym, ap, ◌∙◌, arith}
use Rattle.std.proofs.lemmas.Bool.{cases_Bool}
use Rattle.std.specs.List.{AllByRecursion, list_all}
use Rattle.sqlite.specs.declared.types.Value.TheVariants.{Text, Blob}
use Rattle.sqlite.specs.Order.{Row}
use Rattle.sqlite.specs.Term.{holds}
use Rattle.sqlite.specs.Cast.{cast_row}
use Rattle.sqlite.specs.Table.{Table}
use Rattle.sqlite.specs.State.{State, Executes}
use Rattle.droid_store.specs.KeyedRows.{changed_where}
use Rattle.droid_store.proofs.AtMostOne.{filter_seen, changed_seen}
use Rattle.droid_store.proofs.Changes.{updates, deletes}
use Rattle.droid_store.proofs.Comparisons.{equal_numbers, all_of_two}
use Rattle.droid_store.proofs.RowEdits.{written, removed}
use Rattle.droid_store.proofs.Rising.{rising_filter, rising_map, changed_keeps}
use Rattle.droid_store.proofs.SeenRows.{few_seen}
use Rattle.droid_store.proofs.Selects.{selects}
use Rattle.droid_store.proofs.Values.{cast_int}
use Rattle.droid_frame.specs.Hashes.{hash_bytes}
use Rattle.droid_frame.specs.declared.hash_value.HashValue.{HashValue}
use Rattle.droid_frame.specs.declared.method.Method.{Method}
use Rattle.droid_store.specs.declared.statements.TheConstants.{FINISH_NODE, REMOVE_NODE}
use Rattle.droid_store.specs.Changes.{IsWord, finished, with_finished, without_node}
use Rattle.droid_frame.specs.Fields.{method_number}
use Rattle.droid_store.specs.Encoded.{number, flag, state_number, joined, node_row}
use Rattle.droid_store.specs.Kept.{Holds, AreApart}
use Rattle.droid_store.specs.Rows.{Node, Rows, is_node}
use Rattle.droid_store.specs.Tables.{nodes, store_schema}
use Rattle.droid_store.proofs.Meanings.{by_number, finished_columns, finish_query, finish_is, finish_plain, remove_query, remove_is, remove_plain}
use Rattle.droid_store.proofs.NodeEffects.{node_tail}
use Rattle.droid_store.proofs.NodeOrder.{few_numbered}

pub passes : (profile file : ℕ) (more : Row) (x : ℕ × Node) → list_all (holds ((number profile ∷ number file ∷ more) ∷ node_row x ∷ [])) by_number ≡ is_node profile file x.1
passes profile file more x = rw (equal_numbers x.1.profile profile, equal_numbers x.1.id file) (all_of_two (x.1.profile == profile) (x.1.id == file))

abbrev node_table : Table
node_table = record nodes { tree = 1 }

-- each node is stored as it is
pub stored : (x : ℕ × Node) → cast_row node_table (node_row x) ≡ node_row x
stored x =
    rw (cast_int (pos x.0), cast_int (pos x.1.profile), cast_int (pos x.1.id), cast_int (pos x.1.parent), cast_int x.1.modified, cast_int (pos (state_number x.1.state)), cast_int (pos x.1.size), cast_int (pos x.1.piece_size), cast_int (pos (method_number x.1.method)), cast_int _) refl

abbrev pub with_puids : Method → Bool → HashValue → List (List ℕ) → ℕ × Node → ℕ × Node
with_puids method mismatch hash puids x = (x.0, finished method mismatch hash puids x.1)

words_changed : (p : Node → Bool) (change : Node → Node) (ns : List Node) → ((n : Node) → AllByRecursion IsWord (change n).puids) → AllByRecursion (λ (n : Node). AllByRecursion IsWord n.puids) ns
    → AllByRecursion (λ (n : Node). AllByRecursion IsWord n.puids) (map (changed_where p change) ns)
words_changed p change [] are all = tt
words_changed p change (n ∷ ns) are all = (one (p n), words_changed p change ns are all.1)
  where
    one : (b : Bool) → AllByRecursion IsWord (if b then change n else n).puids
    one true = are n
    one false = all.0

words_left : (p : Node → Bool) (ns : List Node) → AllByRecursion (λ (n : Node). AllByRecursion IsWord n.puids) ns → AllByRecursion (λ (n : Node). AllByRecursion IsWord n.puids) (filter p ns)
words_left p [] all = tt
words_left p (n ∷ ns) all = elim (cases_Bool (p n)) [
  | inl is ↦ rw is (all.0, words_left p ns all.1)
  | inr isnt ↦ rw isnt (words_left p ns all.1)
]

pub finishes_node : (old new : State) (profile file : ℕ) (method : Method) (mismatch : Bool) (hash : HashValue) (puids : List (List ℕ)) (rows : Rows) (count : ℕ) → Holds rows old.now → AreApart rows → AllByRecursion IsWord puids
    → Executes FINISH_NODE.now (number profile ∷ number file ∷ number (method_number method) ∷ flag mismatch ∷ Text (joined puids) ∷ Blob (hash_bytes hash) ∷ []) old new (Ok count)
    → Holds (with_finished profile file method mismatch hash puids rows) new.now
finishes_node old new profile file method mismatch hash puids rows count has apart are h =
    let more = number (method_number method) ∷ flag mismatch ∷ Text (joined puids) ∷ Blob (hash_bytes hash) ∷ [] in
    let params = number profile ∷ number file ∷ more in
    let change = with_puids method mismatch hash puids in
    let test : ℕ × Node → Bool = λ x. is_node profile file x.1 in
    let it = updates store_schema 1 node_table refl (λ db edit. refl) FINISH_NODE.now params old new (record { lets = []; body = finish_query }) count has.schema finish_is finish_plain h in
    let few = few_seen (is_node profile file) has.nodes rows.nodes has.nodes_are (few_numbered profile file rows.nodes apart.numbers) in
    let found = selects node_row test (λ x. number x.0 ∷ node_row (change x)) 1 by_number finished_columns [] params (passes profile file more) (λ x. refl) old.now.trees has.nodes it.rows has.node_rows few it.found.answer in
    let wrote = written (λ x. x.0) node_tail old.now.trees node_table has.nodes has.node_rows test has.rising few change (λ x. refl) stored it.rows found in
    record {
      schema = it.schema_is;
      profiles = it.applies.tables.0 (omega arith) ∙ has.profiles;
      nodes = map (changed_where test change) has.nodes;
      nodes_are = changed_seen (λ x. x.1) (is_node profile file) change (finished method mismatch hash puids) (λ x. refl) has.nodes ∙ ap (map (changed_where (is_node profile file) (finished method mismatch hash puids))) has.nodes_are;
      rising = rising_map (λ x. x.0) (changed_where test change) (changed_keeps (λ x. x.0) test change (λ x. refl)) has.nodes has.rising;
      node_rows = it.applies.rows ∙ wrote;
      replies = it.applies.tables.1.1.0 (omega arith) ∙ has.replies;
      words = words_changed (is_node profile file) (finished method mismatch hash puids) rows.nodes (λ n. are) has.words;
    }

pub removes_node : (old new : State) (profile file : ℕ) (rows : Rows) (count : ℕ) → Holds rows old.now → AreApart rows
    → Executes REMOVE_NODE.now (number profile ∷ number file ∷ []) old new (Ok count) → Holds (without_node profile file rows) new.now
removes_node old new profile file rows count has apart h =
    let params = number profile ∷ number file ∷ [] in
    let test : ℕ × Node → Bool = λ x. is_node profile file x.1 in
    let it = deletes store_schema 1 node_table refl (λ db edit. refl) REMOVE_NODE.now params old new (record { lets = []; body = remove_query }) count has.schema remove_is remove_plain h in
    let few = few_seen (is_node profile file) has.nodes rows.nodes has.nodes_are (few_numbered profile file rows.nodes apart.numbers) in
    let found = selects node_row test (λ x. number x.0 ∷ []) 1 by_number _ [] params (passes profile file []) (λ x. refl) old.now.trees has.nodes it.rows has.node_rows few it.found.answer in
    let gone = removed (λ x. x.0) node_tail old.now.trees node_table has.nodes has.node_rows test has.rising few it.rows found in
    record {
      schema = it.schema_is;
      profiles = it.applies.tables.0 (omega arith) ∙ has.profiles;
      nodes = filter (λ x. not (test x)) has.nodes;
      nodes_are = sym (filter_seen (λ (x : ℕ × Node). x.1) (λ n. not (is_node profile file n)) has.nodes) ∙ ap (filter (λ n. not (is_node profile file n))) has.nodes_are;
      rising = rising_filter (λ x. x.0) (λ x. not (test x)) has.nodes has.rising;
      node_rows = it.applies.rows ∙ gone;
      replies = it.applies.tables.1.1.0 (omega arith) ∙ has.replies;
      words = words_left (λ n. not (is_node profile file n)) rows.nodes has.words;
    }
