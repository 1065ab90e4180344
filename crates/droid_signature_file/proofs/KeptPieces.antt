-- The pieces that are kept of those read so far.
use Rattle.std.proofs.Common.{◌≡◌, ◌≤◌, ◌+◌, ◌++◌, ℕ, zero, suc, Bool, true, false, List, [], ◌∷◌, refl, sym, ap, ◌∙◌, append_assoc, append-nil, arith}
use Rattle.std.specs.Prelude.{Some, None, Result, Ok, if◌then◌else◌}
use Rattle.droid_xml.specs.Documents.{IsDocument, Place, next_at, start_of}
use Rattle.droid_xml.specs.Pieces.{Part, Start, End, Text, Data, Reference, Comment, Instruction}
use Rattle.droid_xml.proofs.Reading.{HasRead, begun, read_more, read_whole}
use Rattle.droid_signature_file.specs.Records.{FileRecord}
use Rattle.droid_signature_file.specs.Signatures.{said, signature_file}
use Rattle.droid_signature_file.specs.declared.fault.Wrong.{Wrong}
use Rattle.droid_signature_file.specs.Tables.{depth_after, depth_behind, is_table, kept_piece, meaningful}

-- one more piece
pub meaningful_more : (depth : ℕ) (parts : List Part) (part : Part) → meaningful depth (parts ++ part ∷ []) ≡ meaningful depth parts ++ kept_piece (depth_after depth parts) part
meaningful_more depth [] part = append-nil (kept_piece depth part)
meaningful_more depth (first ∷ parts) part =
    ap (λ (rest : List Part). kept_piece depth first ++ rest) (meaningful_more (depth_behind depth first) parts part)
    ∙ sym (append_assoc (kept_piece depth first) (meaningful (depth_behind depth first) parts) (kept_piece (depth_after (depth_behind depth first) parts) part))

pub depth_more : (depth : ℕ) (parts : List Part) (part : Part) → depth_after depth (parts ++ part ∷ []) ≡ depth_behind (depth_after depth parts) part
depth_more depth [] part = refl
depth_more depth (first ∷ parts) part = depth_more (depth_behind depth first) parts part

-- These are the pieces kept of those that stand between the beginning of a text and a place.
pub record HasKept (text : List ℕ) (kept : List Part) (depth : ℕ) (place : Place) : Type 0 where
  pub parts : List Part
  pub read : HasRead text parts place
  pub kept_of : kept ≡ meaningful 0 parts
  pub depth_of : depth ≡ depth_after 0 parts

pub kept_more : (text : List ℕ) (kept : List Part) (depth : ℕ) (place behind : Place) (part : Part) → HasKept text kept depth place
    → next_at place ≡ Ok (Some (part, behind)) → HasKept text (kept ++ kept_piece depth part) (depth_behind depth part) behind
kept_more text kept depth place behind part has is = record {
  parts = has.parts ++ part ∷ [];
  read = read_more text has.parts part place behind has.read is;
  kept_of = rw (has.kept_of, has.depth_of) (sym (meaningful_more 0 has.parts part));
  depth_of = rw has.depth_of (sym (depth_more 0 has.parts part));
}

pub kept_whole : (text : List ℕ) (kept : List Part) (depth : ℕ) (place : Place) → HasKept text kept depth place → next_at place ≡ Ok None
    → (parts : List Part) × IsDocument text parts × (kept ≡ meaningful 0 parts)
kept_whole text kept depth place has is = (has.parts, read_whole text has.parts place has.read is, has.kept_of)

-- nothing is kept yet
pub none_kept : (text : List ℕ) (first : Place) → start_of text ≡ Ok first → HasKept text [] 0 first
none_kept text first is = record { parts = []; read = begun text first is; kept_of = refl; depth_of = refl }

-- a piece opens one element at most
pub next_depth : (depth : ℕ) (part : Part) → depth_behind depth part ≤ depth + 1
next_depth zero (Start tag) = if_first tag.is_empty (is_table tag.name)
  where
    if_first : (a b : Bool) → (if a then 0 else if b then 1 else 0) ≤ 1
    if_first true b = omega arith
    if_first false true = omega arith
    if_first false false = omega arith
next_depth (suc depth) (Start tag) = if_next tag.is_empty
  where
    if_next : (a : Bool) → (if a then suc depth else suc (suc depth)) ≤ suc depth + 1
    if_next true = omega arith
    if_next false = omega arith
next_depth zero (End name) = omega arith
next_depth (suc depth) (End name) = omega arith
next_depth zero (Text text) = omega arith
next_depth zero (Data text) = omega arith
next_depth zero (Reference char) = omega arith
next_depth zero (Comment text) = omega arith
next_depth zero (Instruction target text) = omega arith
next_depth (suc depth) (Text text) = omega arith
next_depth (suc depth) (Data text) = omega arith
next_depth (suc depth) (Reference char) = omega arith
next_depth (suc depth) (Comment text) = omega arith
next_depth (suc depth) (Instruction target text) = omega arith

-- what the kept pieces say is what the document says
pub says_file : (parts kept : List Part) (outcome : Result FileRecord Wrong) → kept ≡ meaningful 0 parts → said kept ≡ outcome → signature_file parts ≡ outcome
unfolding signature_file
says_file parts kept outcome is reported = ap said (sym is) ∙ reported
