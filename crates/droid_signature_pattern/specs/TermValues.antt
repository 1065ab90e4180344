-- The terms that the code's values stand for.
use Rattle.std.specs.Prelude.{ℕ, Option, Some, None, map}
use Rattle.droid_pattern.specs.Patterns.{Element, Byte, AnyByte, Gap, OpenGap, Range, Except}
use Rattle.droid_signature_file.specs.Terms.{Atom, Plain, Outside, Between, Quoted, Term, One, OneOf}
use Rattle.droid_signature_pattern.specs.declared.term.TextItem.{TextItem}
use Rattle.droid_signature_pattern.specs.declared.term.TextItem.TheVariants as items
use Rattle.droid_signature_pattern.specs.declared.term.TextTerm.{TextTerm}
use Rattle.droid_signature_pattern.specs.declared.term.TextTerm.TheVariants as terms

-- a gap, with an upper limit or none
abbrev pub gap_of : ℕ → Option ℕ → Element
gap_of least (Some most) = Gap least most
gap_of least None = OpenGap least

-- the item that a value stands for
abbrev pub atom_of : TextItem → Atom
atom_of (items.Byte b) = Plain (Byte b)
atom_of items.AnyByte = Plain AnyByte
atom_of (items.Gap least most) = Plain (gap_of least most)
atom_of (items.Range low high) = Plain (Range low high)
atom_of (items.Except b) = Plain (Except b)
atom_of (items.Outside low high) = Outside low high
atom_of (items.Between low high) = Between low.items high.items
atom_of (items.Quoted bytes) = Quoted bytes.items

-- the term that a value stands for
abbrev pub term_of : TextTerm → Term
term_of (terms.One item) = One (atom_of item)
term_of (terms.OneOf alternatives) = OneOf (map (λ items. map atom_of items.items) alternatives.items)
