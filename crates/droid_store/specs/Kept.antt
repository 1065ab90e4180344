-- How the tables hold the rows.
use Rattle.std.specs.Prelude.{◌≡◌, ◌≤◌, ◌<◌, ℕ, List, [], ◌∷◌, map, filter, length, Result, None, OnOk, OnErr, IfErr}
use Rattle.std.specs.Prelude.{option_map, unwrap_or}
use Rattle.sqlite.specs.declared.error.Error.{Error}
use Rattle.std.specs.List.{AllByRecursion}
use Rattle.sqlite.specs.Effect.{Database}
use Rattle.sqlite.specs.Held.{Held, state}
use Rattle.sqlite.specs.Schema.{Schema}
use Rattle.sqlite.specs.State.{State}
use Rattle.droid_store_trees.specs.Over.{over_trees}
use Rattle.droid_store_trees.specs.declared.storage.TreeStore.{TreeStore}
use Rattle.droid_store.specs.Changes.{IsWord}
use Rattle.droid_store.specs.KeyedRows.{numbered_from, AreRising}
use Rattle.droid_store.specs.Transactions.{Within}
use Rattle.droid_store.specs.MemoryFaults.{IsOutOfMemory}
use Rattle.droid_store.specs.Encoded.{profile_row, node_row, reply_row, rows_in}
use Rattle.droid_store.specs.Rows.{Node, Rows, is_child, is_for, profile_at}
use Rattle.droid_store.specs.Tables.{store_schema}

-- the trees hold these rows and nothing else; the database chose the numbers of the rows of nodes
pub record Holds (rows : Rows) (db : Database) : Type 0 where
  pub schema : db.schema ≡ store_schema
  pub profiles : db.trees 0 ≡ map profile_row (numbered_from 1 rows.profiles)
  pub nodes : List (ℕ × Node)
  pub nodes_are : map (λ n. n.1) nodes ≡ rows.nodes
  pub rising : AreRising (λ n. n.0) nodes
  pub node_rows : db.trees 1 ≡ map node_row nodes
  pub replies : db.trees 4 ≡ map reply_row (numbered_from 1 rows.replies)
  pub words : AllByRecursion (λ (n : Node). AllByRecursion IsWord n.puids) rows.nodes

-- of two nodes of one profile the later one has the greater number
abbrev pub AreInOrder : List Node → Type 0
AreInOrder [] = Unit {0}
AreInOrder (n ∷ ns) = AllByRecursion (λ m. m.profile ≡ n.profile → n.id < m.id) ns × AreInOrder ns

-- how many nodes the profile with this number has accepted, or 0 if there is no such profile
abbrev pub accepted_in : ℕ → Rows → ℕ
accepted_in profile rows = unwrap_or (option_map (λ p. p.nodes) (profile_at profile rows)) 0

-- no two rows have one key, and no node has a number above the count of its profile
pub record AreApart (rows : Rows) : Type 0 where
  pub replies : (client number : ℕ) → length (filter (is_for client number) rows.replies) ≤ 1
  pub children : (profile parent : ℕ) (name : List ℕ) → length (filter (is_child profile parent name) rows.nodes) ≤ 1
  pub numbers : AreInOrder rows.nodes
  pub accepted : AllByRecursion (λ (n : Node). n.id ≤ accepted_in n.profile rows) rows.nodes

-- no two rows have one unique key
pub record HasKeys (rows : Rows) : Type 0 where
  pub replies : (client number : ℕ) → length (filter (is_for client number) rows.replies) ≤ 1
  pub children : (profile parent : ℕ) (name : List ℕ) → length (filter (is_child profile parent name) rows.nodes) ≤ 1
  pub numbers : AreInOrder rows.nodes

-- the rows that the tables of a connection hold
abbrev pub kept : Held TreeStore → Rows
kept c = rows_in (state over_trees c).now

-- while the tables are created: this schema, and no row in these trees
pub record HasEmpty (wanted : Schema) (trees : List ℕ) (db : Database) : Type 0 where
  pub schema : db.schema ≡ wanted
  pub empty : AllByRecursion (λ tree. db.trees tree ≡ []) trees

-- a step in a transaction: if it succeeds, the transaction sees the rows `after`
abbrev pub Steps : {U : Type 0} → State → State → Result U Error → Rows → Rows → Type 0
Steps old new r before after =
    (saved : Rows) → Within old (Holds before) (Holds saved) → OnOk r (Within new (Holds after) (Holds saved))

-- and if it fails, a rollback still restores the saved rows
abbrev pub Saves : {U : Type 0} → State → State → Result U Error → Rows → Type 0
Saves old new r before = (saved : Rows) → Within old (Holds before) (Holds saved) → OnErr r (Holds saved new.committed)

-- and it fails only if memory runs out
abbrev pub FailsForMemory : {U : Type 0} → State → State → Result U Error → Rows → Type 0
FailsForMemory old new r before =
    (saved : Rows) → Within old (Holds before) (Holds saved) → old.step_limit ≡ None → IfErr r IsOutOfMemory
