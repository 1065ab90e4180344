-- The values that the reader gives, without where they lie in memory.
use Rattle.std.specs.Prelude.{◌≡◌, ℕ, List, map, Option, Some, None, Result, Ok, Err}
use Rattle.std.specs.String.{string_bytes}
use Rattle.droid_xml.specs.declared.attributes.Attribute.{Attribute}
use Rattle.droid_xml.specs.declared.tags.Element.{Element}
use Rattle.droid_xml.specs.declared.pieces.Piece.{Piece}
use Rattle.droid_xml.specs.declared.pieces.Piece.TheVariants as pieces
use Rattle.droid_xml.specs.declared.open_elements.Open.{Open}
use Rattle.droid_xml.specs.declared.reader.Reader.{Reader}
use Rattle.droid_xml.specs.Attributes.{Setting}
use Rattle.droid_xml.specs.Tags.{Tag}
use Rattle.droid_xml.specs.Nestings.{Nesting}
use Rattle.droid_xml.specs.Documents.{Place, HasProblem, next_at}
use Rattle.droid_xml.specs.Outcomes.{Fails}
use Rattle.droid_xml.specs.declared.problem.Fault.{Fault}
use Rattle.droid_xml.specs.declared.problem.Fault.TheVariants as faults
use Rattle.droid_xml.specs.declared.problem.Problem.{Problem}
use Rattle.droid_xml.specs.Pieces.{Part, Start, End, Text, Data, Reference, Comment, Instruction}

-- an attribute
abbrev pub setting : Attribute → Setting
setting a = record { name = a.name.now; value = string_bytes a.value }

-- an element that begins
abbrev pub tag : Element → Tag
tag e = record { name = e.name.now; attributes = map setting e.attributes.items; is_empty = e.is_empty }

-- a piece
abbrev pub part : Piece → Part
part (pieces.Start e) = Start (tag e)
part (pieces.End name) = End name.now
part (pieces.Text text) = Text text.now
part (pieces.Data text) = Data text.now
part (pieces.Reference char) = Reference char
part (pieces.Comment text) = Comment text.now
part (pieces.Instruction target text) = Instruction target.now text.now

-- the open elements
abbrev pub nesting : Open → Nesting
nesting o = record { names = map (λ name. name.now) o.names.items; has_root = o.has_root }

-- where a reader is in its document
abbrev pub place : Reader → Place
place r = record { text = r.text.now; rest = r.rest.now; nesting = nesting r.open }

-- what a new reader is, or why there is none
abbrev pub Starts : Result Reader Fault → Result Place (Problem × ℕ) → Type 0
Starts (Ok reader) start = start ≡ Ok (place reader)
Starts (Err fault) start = Fails fault start

-- one step of a reader: the piece that comes next and the place behind it. At the end and at a fault it stays
abbrev pub Goes : Place → Result (Option Piece) Fault → Place → Type 0
Goes old (Ok None) new = (next_at old ≡ Ok None) × (new ≡ old)
Goes old (Ok (Some piece)) new = next_at old ≡ Ok (Some (part piece, new))
Goes old (Err fault) new = Fails fault (next_at old) × (new ≡ old)

-- the document has a problem: memory did not run out
abbrev pub IsProblem : Fault → Type 0
IsProblem faults.Memory = ⊥
IsProblem (faults.Problem problem line) = Unit {0}

-- nothing but memory is wrong
abbrev pub IsMemory : Fault → Type 0
IsMemory faults.Memory = Unit {0}
IsMemory (faults.Problem problem line) = ⊥

-- the fault is a problem of the document, unless memory ran out
abbrev pub IsFaultOf : List ℕ → Fault → Type 0
IsFaultOf text faults.Memory = Unit {0}
IsFaultOf text (faults.Problem problem line) = HasProblem text problem line
