-- For inner clauses and proofs: the offset at which a signature needs one of some bytes, or else does not hit.
use Rattle.std.specs.Prelude.{◌≡◌, List, [], ◌∷◌, Option, Some, None, ⊤}
use Rattle.droid_pattern.specs.FirstBytes.{AreFirst}
use Rattle.droid_pronom.specs.declared.head.Head.{Head}
use Rattle.droid_pronom.specs.declared.rows.Anchor.TheVariants.{Bof}
use Rattle.droid_pronom.specs.declared.rows.ByteSequence.{ByteSequence}

-- the byte sequence has one offset from the beginning, and its pattern begins with one of the bytes
pub record IsHeadOf (head : Head) (sequence : ByteSequence) : Type 0 where
  pub anchor : sequence.offsets.anchor ≡ Bof
  pub min : sequence.offsets.min ≡ head.offset
  pub max : sequence.offsets.max ≡ head.offset
  pub bytes : AreFirst head.bytes sequence.pattern

-- what a signature keeps of the first of its byte sequences
abbrev pub KeepsHead : Option Head → List ByteSequence → Type 0
KeepsHead None sequences = ⊤
KeepsHead (Some head) [] = ⊥
KeepsHead (Some head) (first ∷ more) = IsHeadOf head first
