-- The pieces of a document without its search tables, comments and processing instructions, which mean nothing here.
use Rattle.std.specs.Prelude.{ℕ, zero, suc, ◌||◌, Bool, true, false, if◌then◌else◌, List, [], ◌∷◌, ◌++◌, codes}
use Rattle.std.specs.Str.{bytes_eq}
use Rattle.droid_xml.specs.Pieces.{Part, Start, End, Text, Data, Reference, Comment, Instruction}

-- DefaultShift and Shift
abbrev pub is_table : List ℕ → Bool
is_table name = bytes_eq name (codes "Shift") || bytes_eq name (codes "DefaultShift")

-- how many elements of a search table, itself included, are open behind a piece, from how many were open before it
abbrev pub depth_behind : ℕ → Part → ℕ
depth_behind zero (Start tag) = if tag.is_empty then 0 else if is_table tag.name then 1 else 0
depth_behind (suc depth) (Start tag) = if tag.is_empty then suc depth else suc (suc depth)
depth_behind zero (End name) = 0
depth_behind (suc depth) (End name) = depth
depth_behind depth (Text text) = depth
depth_behind depth (Data text) = depth
depth_behind depth (Reference char) = depth
depth_behind depth (Comment text) = depth
depth_behind depth (Instruction target text) = depth

-- whether a piece means something outside of search tables
abbrev pub has_meaning : Part → Bool
has_meaning (Start tag) = if is_table tag.name then false else true
has_meaning (End name) = true
has_meaning (Text text) = true
has_meaning (Data text) = true
has_meaning (Reference char) = true
has_meaning (Comment text) = false
has_meaning (Instruction target text) = false

-- whether a piece is kept, from how many elements of a search table are open
abbrev pub is_kept : ℕ → Part → Bool
is_kept zero part = has_meaning part
is_kept (suc depth) part = false

-- a piece, if it is kept
abbrev pub kept_piece : ℕ → Part → List Part
kept_piece depth part = if is_kept depth part then part ∷ [] else []

-- the pieces that are kept
abbrev pub meaningful : ℕ → List Part → List Part
meaningful depth [] = []
meaningful depth (part ∷ parts) = kept_piece depth part ++ meaningful (depth_behind depth part) parts

-- how many elements are open in a search table behind pieces
abbrev pub depth_after : ℕ → List Part → ℕ
depth_after depth [] = depth
depth_after depth (part ∷ parts) = depth_after (depth_behind depth part) parts
