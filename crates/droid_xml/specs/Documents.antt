-- Documents: one root element with all else inside it or made of comments, instructions and white space
-- (XML 1.0, sections 2.1, 2.8 and 3). There is no document type declaration, and elements are at most 16 deep.
use Rattle.std.specs.Prelude.{◌≡◌, ◌⊎◌, ℕ, ◌+◌, ◌-◌, nat_eq, false, if◌then◌else◌, List, [], ◌∷◌, length, codes}
use Rattle.std.specs.Prelude.{count_by, Option, Some, None, Result, Ok, Err}
use Rattle.droid_xml.specs.Bytes.{choose, after, is_byte}
use Rattle.droid_xml.specs.Declarations.{declaration_at, declaration_start, is_readable}
use Rattle.droid_xml.specs.Nestings.{Nesting, is_complete, nested}
use Rattle.droid_xml.specs.Outcomes.{◌>>=◌, required}
use Rattle.droid_xml.specs.Pieces.{Part, Start, comment_at, data_at, instruction_at, end_tag_at, text_at, a_reference}
use Rattle.droid_xml.specs.Tags.{start_tag_at}
use Rattle.droid_xml.specs.declared.problem.Problem.{Problem}
use Rattle.droid_xml.specs.declared.problem.Problem.TheVariants as problems

-- the next piece behind its `<`, and what follows it
unfoldable pub piece_behind_less : List ℕ → Result (Part × List ℕ) Problem
piece_behind_less bytes =
    choose (after (codes "!--") bytes) (λ rest. required (comment_at rest)) (
    choose (after (codes "![CDATA[") bytes) (λ rest. required (data_at rest)) (
    choose (after (codes "!DOCTYPE") bytes) (λ rest. Err problems.Doctype) (
    choose (after (codes "?") bytes) (λ rest. required (instruction_at rest)) (
    choose (after (codes "/") bytes) (λ rest. required (end_tag_at rest)) (
    start_tag_at bytes >>= (λ found. Ok (Start found.0, found.1)))))))

-- the next piece and what follows it, by what it begins with
unfoldable pub piece_at : List ℕ → Result (Part × List ℕ) Problem
piece_at bytes =
    choose (after (codes "<") bytes) piece_behind_less (
    choose (after (codes "&") bytes) (λ rest. required (a_reference rest)) (
    required (text_at bytes)))

-- a place in a document: the whole of it, what is left, and what is open there
pub record Place : Type 0 where
  pub text : List ℕ
  pub rest : List ℕ
  pub nesting : Nesting

-- the line in which what is left begins
abbrev pub line_of : List ℕ → List ℕ → ℕ
line_of text rest = 1 + (count_by (is_byte 10) text - count_by (is_byte 10) rest)

-- a problem, and the line in which the piece begins that has it
abbrev pub at_line : {A : Type 0} → ℕ → Result A Problem → Result A (Problem × ℕ)
at_line line (Ok x) = Ok x
at_line line (Err problem) = Err (problem, line)

-- the next piece and the place behind it, if it may stand there
abbrev pub moved : Place → Result (Option (Part × Place)) Problem
moved place = do
  found ← piece_at place.rest
  nesting ← nested place.nesting found.0
  Ok (Some (found.0, record { text = place.text; rest = found.1; nesting = nesting }))

-- the end: the root began, and nothing is open
abbrev pub at_end : Place → Result (Option (Part × Place)) Problem
at_end place = if is_complete place.nesting then Ok None else Err problems.NotWellFormed

-- the next piece and the place behind it, or None at the end
unfoldable pub next_at : Place → Result (Option (Part × Place)) (Problem × ℕ)
next_at place =
    at_line (line_of place.text place.rest) (if nat_eq (length place.rest) 0 then at_end place else moved place)

-- what follows the byte order mark, which may be missing
unfoldable pub past_mark : List ℕ → List ℕ
past_mark bytes = choose (after (0xEF ∷ 0xBB ∷ 0xBF ∷ []) bytes) (λ rest. rest) bytes

-- what follows a declaration
unfoldable pub declared : List ℕ → Result (List ℕ) Problem
declared bytes = do
  found ← required (declaration_at bytes)
  if is_readable found.0 found.1 then Ok found.1 else Err problems.Encoding

-- what follows the byte order mark and the declaration, each of which may be missing
unfoldable pub prolog : List ℕ → Result (List ℕ) Problem
prolog bytes = choose (declaration_start (past_mark bytes)) declared (Ok (past_mark bytes))

-- the place at which a document's pieces begin, from what follows its declaration
abbrev pub placed : List ℕ → Result (List ℕ) Problem → Result Place Problem
placed text found =
    found >>= (λ rest. Ok (record { text = text; rest = rest; nesting = record { names = []; has_root = false } }))

-- where the pieces of a document begin
unfoldable pub start_of : List ℕ → Result Place (Problem × ℕ)
start_of text = at_line 1 (placed text (prolog text))

-- these pieces stand between two places
abbrev pub Run : Place → List Part → Place → Type 0
Run place [] last = last ≡ place
Run place (part ∷ parts) last = (behind : Place) × (next_at place ≡ Ok (Some (part, behind))) × Run behind parts last

-- these are the pieces from the place to the end of the document
abbrev pub IsRest : Place → List Part → Type 0
IsRest place parts = (last : Place) × Run place parts last × (next_at last ≡ Ok None)

-- behind these pieces comes this problem, in this line
abbrev pub IsFaulty : Place → Problem → ℕ → Type 0
IsFaulty place problem line =
    (parts : List Part) × (last : Place) × Run place parts last × (next_at last ≡ Err (problem, line))

-- the document has these pieces, in order
abbrev pub IsDocument : List ℕ → List Part → Type 0
IsDocument text parts = (first : Place) × (start_of text ≡ Ok first) × IsRest first parts

-- the document has this problem, in this line, as the first from the left
abbrev pub HasProblem : List ℕ → Problem → ℕ → Type 0
HasProblem text problem line =
    (start_of text ≡ Err (problem, line)) ⊎ ((first : Place) × (start_of text ≡ Ok first) × IsFaulty first problem line)
