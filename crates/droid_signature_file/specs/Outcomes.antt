-- What reading a signature file gives. Running out of memory says nothing.
use Rattle.std.specs.Prelude.{◌≡◌, ℕ, List, ◌++◌, map, Option, Some, None, Result, Ok, Err, ⊤}
use Rattle.droid_xml.specs.Documents.{IsDocument, HasProblem}
use Rattle.droid_xml.specs.LineEnds.{with_line_feeds}
use Rattle.droid_xml.specs.Pieces.{Part}
use Rattle.droid_xml.specs.Views.{part, setting}
use Rattle.droid_signature_file.specs.Records.{FileRecord}
use Rattle.droid_signature_file.specs.Elements.{Node}
use Rattle.droid_signature_file.specs.Signatures.{signature_file}
use Rattle.droid_signature_file.specs.declared.fault.FileFault.{FileFault}
use Rattle.droid_signature_file.specs.declared.fault.FileFault.TheVariants as faults
use Rattle.droid_signature_file.specs.declared.fault.Stop.{Stop}
use Rattle.droid_signature_file.specs.declared.fault.Stop.TheVariants as stops
use Rattle.droid_signature_file.specs.declared.fault.Wrong.{Wrong}
use Rattle.droid_signature_file.specs.declared.node.Node as code

-- the element that a value stands for
abbrev pub node_of : code.Node → Node
node_of node = record {
  name = node.element.now.name.now;
  attributes = map setting node.element.now.attributes.items;
  inside = map part node.inside.now;
}

-- a call that stopped: the definition gives the same wrong, unless memory ran out
abbrev pub Stops : {A : Type 0} → Stop → Result A Wrong → Type 0
Stops stops.Memory expected = ⊤
Stops (stops.Wrong wrong) expected = expected ≡ Err wrong

-- what was returned, seen by view, is what the definition gives, unless memory ran out
abbrev pub Gives : {X A : Type 0} → (X → A) → Result X Stop → Result A Wrong → Type 0
Gives view (Ok x) expected = expected ≡ Ok (view x)
Gives view (Err stop) expected = Stops stop expected

-- what is read already, in front of what the rest says
abbrev pub after : {B : Type 0} → List B → Result (List B) Wrong → Result (List B) Wrong
after front (Ok more) = Ok (front ++ more)
after front (Err wrong) = Err wrong

-- a call that adds what is read adds what the definition gives
abbrev pub Adds : {X B : Type 0} → Result X Stop → List B → List B → Result (List B) Wrong → Type 0
Adds (Ok done) old new expected = after old expected ≡ Ok new
Adds (Err stop) old new expected = Stops stop expected

-- a call that adds what one element says goes on behind it; `of` is what the definition gives from a place on
abbrev pub Steps : {B : Type 0} → Result (Option ℕ) Stop → List B → List B → (ℕ → Result (List B) Wrong) → ℕ → Type 0
Steps (Ok None) old new of at = after old (of at) ≡ Ok new
Steps (Ok (Some next)) old new of at = after old (of at) ≡ after new (of next)
Steps (Err stop) old new of at = Stops stop (of at)

-- the document of a text says this
abbrev pub Says : List ℕ → Result FileRecord Wrong → Type 0
Says text outcome = (parts : List Part) × IsDocument text parts × (signature_file parts ≡ outcome)

-- why a text is not read is true of it
abbrev pub FailsBy : List ℕ → FileFault → Type 0
FailsBy text faults.Memory = ⊤
FailsBy text (faults.Document problem line) = HasProblem text problem line
FailsBy text (faults.NotASignatureFile wrong) = Says text (Err wrong)

-- the outcome of a text whose line ends are line feeds
abbrev pub ReadsText : List ℕ → Result FileRecord FileFault → Type 0
ReadsText text (Ok file) = Says text (Ok file)
ReadsText text (Err fault) = FailsBy text fault

-- the outcome of a signature file's bytes
abbrev pub Reads : List ℕ → Result FileRecord FileFault → Type 0
Reads bytes result = ReadsText (with_line_feeds bytes) result
