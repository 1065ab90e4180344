-- A signature none of whose bytes is at their offset does not hit.
use Rattle.std.proofs.Common.{ℕ, ◌<◌, List, [], ◌∷◌, ◌++◌, length, get_or, Option, Some, None}
use Rattle.std.specs.Prelude.{IfSome}
use Rattle.std.specs.List.{AllByRecursion}
use Rattle.droid_pattern.specs.Patterns.{BeginsWithin}
use Rattle.droid_pattern.specs.FirstBytes.{Has}
use Rattle.droid_pronom.specs.FoundWindows.{HitsWindows}
use Rattle.droid_pronom.specs.Heads.{IsHeadOf, KeepsHead}
use Rattle.droid_pronom.specs.declared.head.Head.{Head}
use Rattle.droid_pronom.specs.declared.rows.ByteSequence.{ByteSequence}

-- with its first byte sequence, and with more
pub keeps_first : (head : Option Head) (first : ByteSequence) → IfSome head (λ h. IsHeadOf h first) → KeepsHead head (first ∷ [])
keeps_first None first h = tt
keeps_first (Some head) first h = h

pub keeps_more : (head : Option Head) (sequences more : List ByteSequence) → KeepsHead head sequences → KeepsHead head (sequences ++ more)
keeps_more None sequences more h = tt
keeps_more (Some head) [] more h = absurd h
keeps_more (Some head) (first ∷ rest) more h = h

-- none of the bytes is there
pub ruled_out : (head : Head) (sequences : List ByteSequence) (first last : List ℕ) → KeepsHead (Some head) sequences
    → ((head.offset < length first) × Has head.bytes (get_or first head.offset 0) → ⊥) → AllByRecursion (HitsWindows first last) sequences → ⊥
ruled_out head [] first last keeps misses all = keeps
ruled_out head (sequence ∷ more) first last keeps misses all =
    let hit : BeginsWithin sequence.pattern first sequence.offsets.min sequence.offsets.max = rw keeps.anchor at all.0 in
    let there : BeginsWithin sequence.pattern first head.offset head.offset = rw (keeps.min, keeps.max) at hit in
    misses (keeps.bytes first head.offset there)
