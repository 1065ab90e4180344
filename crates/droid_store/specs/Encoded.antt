-- Typed rows as rows of the database's values, and back.
use Rattle.std.specs.Prelude.{◌==◌, ℕ, ℤ, pos, Bool, not, if◌then◌else◌, List, [], ◌∷◌, map}
use Rattle.std.specs.List.{slice_split, join_with_byte}
use Rattle.sqlite.specs.declared.types.Value.{Value}
use Rattle.sqlite.specs.declared.types.Value.TheVariants.{Null, Int, Text, Blob}
use Rattle.sqlite.specs.Order.{Row, column}
use Rattle.sqlite.specs.Effect.{Database}
use Rattle.droid_frame.specs.Fields.{method_number}
use Rattle.droid_frame.specs.Hashes.{hash_kind_number}
use Rattle.droid_frame.specs.declared.hash_kind.HashKind.{HashKind}
use Rattle.droid_frame.specs.declared.hash_kind.HashKind.TheVariants as kinds
use Rattle.droid_frame.specs.declared.method.Method.{Method}
use Rattle.droid_frame.specs.declared.method.Method.TheVariants.{Unidentified, Signature, Extension}
use Rattle.droid_store.specs.declared.rows.Entry.{Entry}
use Rattle.droid_store.specs.declared.rows.NodeState.{NodeState}
use Rattle.droid_store.specs.declared.rows.NodeState.TheVariants.{Folder, Unfinished, Finished}
use Rattle.droid_store.specs.declared.rows.ProfileRow.{ProfileRow}
use Rattle.droid_store.specs.Rows.{Node, Rows}

-- ---- values

-- a number as a value of the database
abbrev pub number : ℕ → Value
number n = Int (pos n)

-- a truth value as one: 0 or 1
abbrev pub flag : Bool → Value
flag b = Int (if b then pos 1 else pos 0)

-- the number of a node's state
abbrev pub state_number : NodeState → ℕ
state_number Folder = 0
state_number Unfinished = 1
state_number Finished = 2

-- the identifiers joined by a space
abbrev pub joined : List (List ℕ) → List ℕ
joined puids = join_with_byte 32 puids

-- the number that a value is, 0 if it is none
abbrev pub number_in : Value → ℕ
number_in (Int (pos n)) = n
number_in _ = 0

-- the signed number that a value is, 0 if it is none
abbrev pub integer_in : Value → ℤ
integer_in (Int n) = n
integer_in _ = pos 0

-- the truth value that a value is: true unless it is 0
abbrev pub flag_in : Value → Bool
flag_in v = not (number_in v == 0)

-- the state that a value is the number of
abbrev pub state_in : Value → NodeState
state_in v = if number_in v == 0 then Folder else if number_in v == 1 then Unfinished else Finished

-- the method that a value is the number of
abbrev pub method_in : Value → Method
method_in v = if number_in v == 0 then Unidentified else if number_in v == 1 then Signature else Extension

-- the kind of hash that a value is the number of
abbrev pub hash_kind_in : Value → HashKind
hash_kind_in v = if number_in v == 0 then kinds.Nothing else if number_in v == 1 then kinds.Md5 else kinds.Sha256

-- the text that a value is
abbrev pub text_in : Value → List ℕ
text_in (Text t) = t
text_in _ = []

-- the bytes that a value is
abbrev pub bytes_in : Value → List ℕ
bytes_in (Blob b) = b
bytes_in _ = []

-- the identifiers that a text joins; none if it is empty
abbrev pub words_of : List ℕ → List (List ℕ)
words_of [] = []
words_of (byte ∷ bytes) = slice_split (λ b. b == 32) (byte ∷ bytes)

-- ---- rows, each after its own number

-- a profile as a row
abbrev pub profile_row : ℕ × ProfileRow → Row
profile_row p =
    number p.0 ∷ Null ∷ number p.1.scan_limit ∷ flag p.1.match_all ∷ number p.1.nodes
    ∷ number (hash_kind_number p.1.hash) ∷ []

-- a node as a row
abbrev pub node_row : ℕ × Node → Row
node_row n =
    number n.0
    ∷ number n.1.profile
    ∷ number n.1.id
    ∷ number n.1.parent
    ∷ Int n.1.modified
    ∷ number (state_number n.1.state)
    ∷ number n.1.size
    ∷ number n.1.piece_size
    ∷ number (method_number n.1.method)
    ∷ flag n.1.mismatch
    ∷ Text n.1.name
    ∷ Text n.1.path
    ∷ Text (joined n.1.puids)
    ∷ Blob n.1.hash
    ∷ []

-- a reply as a row
abbrev pub reply_row : ℕ × Entry → Row
reply_row e =
    number e.0 ∷ Null ∷ number e.1.client ∷ number e.1.number ∷ number e.1.version ∷ number e.1.kind ∷ Blob e.1.mark
    ∷ Blob e.1.body ∷ []

-- ---- and back

-- the profile in a row
abbrev pub profile_in : Row → ProfileRow
profile_in r = record {
  scan_limit = number_in (column r 2);
  match_all = flag_in (column r 3);
  nodes = number_in (column r 4);
  hash = hash_kind_in (column r 5);
}

-- the node in a row
abbrev pub node_in : Row → Node
node_in r = record {
  profile = number_in (column r 1);
  id = number_in (column r 2);
  parent = number_in (column r 3);
  modified = integer_in (column r 4);
  state = state_in (column r 5);
  size = number_in (column r 6);
  piece_size = number_in (column r 7);
  method = method_in (column r 8);
  mismatch = flag_in (column r 9);
  name = text_in (column r 10);
  path = text_in (column r 11);
  puids = words_of (text_in (column r 12));
  hash = bytes_in (column r 13);
}

-- the reply in a row
abbrev pub entry_in : Row → Entry
entry_in r = record {
  client = number_in (column r 2);
  number = number_in (column r 3);
  version = number_in (column r 4);
  mark = bytes_in (column r 6);
  kind = number_in (column r 5);
  body = bytes_in (column r 7);
}

-- all rows of the three tables
abbrev pub rows_in : Database → Rows
rows_in db = record {
  profiles = map profile_in (db.trees 0);
  nodes = map node_in (db.trees 1);
  replies = map entry_in (db.trees 4);
}
