-- The change of a command: what it makes of the rows, and what it asks of them (this project's own).
use Rattle.std.specs.Prelude.{◌≡◌, ◌<◌, ◌+◌, ◌^◌, length, Result, None, Some, IsTrue, IsUtf8}
use Rattle.std.specs.List.{AllByRecursion}
use Rattle.sqlite.specs.declared.error.Error.{Error}
use Rattle.sqlite.specs.State.{State}
use Rattle.droid_frame.specs.Hashes.{hash_bytes}
use Rattle.droid_store.specs.declared.change.Change.{Change}
use Rattle.droid_store.specs.declared.change.Change.TheVariants as changes
use Rattle.droid_store.specs.Changes.{with_profile, with_node, finished, with_finished, without_node, IsNext, IsWord}
use Rattle.droid_store.specs.Encoded.{joined, words_of}
use Rattle.droid_store.specs.Kept.{AreApart, HasKeys, Steps, Saves, FailsForMemory}
use Rattle.droid_store.specs.Nodes.{node_of}
use Rattle.droid_store.specs.Ranges.{is_hash_length, NodeFits}
use Rattle.droid_store.specs.Rows.{Node, Rows, child_at, node_at}
use Rattle.droid_store.specs.Sizes.{node_size, FitsARow}

-- the rows after the change
abbrev pub changed : Change → Rows → Rows
changed changes.Reply rows = rows
changed (changes.Profile profile scan_limit match_all hash) rows = with_profile scan_limit match_all hash rows
changed (changes.Node node modified) rows = with_node (node_of node modified) rows
changed (changes.Finish profile file f) rows =
    with_finished profile file f.method f.mismatch f.hash (words_of f.formats.now) rows
changed (changes.Abandon profile file) rows = without_node profile file rows

-- a new profile has the next number, and so has a new node, whose name is free in its folder
abbrev pub IsInTurn : Change → Rows → Type 0
IsInTurn changes.Reply rows = Unit {0}
IsInTurn (changes.Profile profile scan_limit match_all hash) rows = profile ≡ length rows.profiles + 1
IsInTurn (changes.Node node modified) rows =
    IsNext node.profile node.id rows × (child_at node.profile node.parent node.name.now rows ≡ None)
IsInTurn (changes.Finish profile file f) rows = Unit {0}
IsInTurn (changes.Abandon profile file) rows = Unit {0}

-- the values can be written and read back
abbrev pub IsWritable : Change → Type 0
IsWritable changes.Reply = Unit {0}
IsWritable (changes.Profile profile scan_limit match_all hash) = scan_limit < 2 ^ 32
IsWritable (changes.Node node modified) = (node.size < 2 ^ 63) × NodeFits (node_of node modified)
IsWritable (changes.Finish profile file f) =
    AllByRecursion IsWord (words_of f.formats.now) × (f.formats.now ≡ joined (words_of f.formats.now))
    × IsUtf8 f.formats.now × IsTrue (is_hash_length (length (hash_bytes f.hash)))
IsWritable (changes.Abandon profile file) = Unit {0}

-- the row that is written is small enough to be kept
abbrev pub WritesARow : Change → Rows → Type 0
WritesARow changes.Reply rows = Unit {0}
WritesARow (changes.Profile profile scan_limit match_all hash) rows = Unit {0}
WritesARow (changes.Node node modified) rows = FitsARow (node_size (node_of node modified))
WritesARow (changes.Finish profile file f) rows =
    (n : Node) → node_at profile file rows ≡ Some n
    → FitsARow (node_size (finished f.method f.mismatch f.hash (words_of f.formats.now) n))
WritesARow (changes.Abandon profile file) rows = Unit {0}

-- the change as a step of a transaction
pub record Applies {U : Type 0} (old new : State) (r : Result U Error) (change : Change) : Type 0 where
  -- if it succeeds, the transaction sees the changed rows
  pub steps : (rows : Rows) → AreApart rows → IsInTurn change rows → Steps old new r rows (changed change rows)
  -- if it fails, a rollback still restores the saved rows
  pub saves : (rows : Rows) → Saves old new r rows
  -- and it fails only if memory runs out
  pub memory : (rows : Rows) → HasKeys rows → IsInTurn change rows → HasKeys (changed change rows)
      → WritesARow change rows → FailsForMemory old new r rows
