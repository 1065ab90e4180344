-- What is found in files of a few bytes, computed: the registry's text is written in the words of docs/REGISTRY.md, and the answers by hand.
use Rattle.std.proofs.Common.{◌≡◌, ℕ, Bool, true, false, List, [], ◌∷◌, refl, codes}
use Rattle.droid_frame.specs.declared.method.Method.TheVariants as methods
use Rattle.droid_pattern.specs.Patterns.{Element, Byte, AnyByte, Range}
use Rattle.droid_pronom.specs.Registry.{Contents}
use Rattle.droid_pronom.specs.Finding.{found_in}
use Rattle.droid_pronom.specs.declared.format.Format.{Format}
use Rattle.droid_pronom.specs.declared.rows.Anchor.{Anchor}
use Rattle.droid_pronom.specs.declared.rows.Anchor.TheVariants.{Bof, Eof}
use Rattle.droid_pronom.specs.declared.rows.ByteSequence.{ByteSequence}
use Rattle.droid_pronom.specs.declared.identification.Found.{Found}

abbrev format : List ℕ → Format
format puid = record { puid = puid; name = codes "A"; version = []; mime = [] }

abbrev sequence : Anchor → (least most : ℕ) → List Element → ByteSequence
sequence anchor least most es = record { offsets = record { anchor = anchor; min = least; max = most }; pattern = es }

-- F,t/1  F,t/2  F,t/3  E,t/1,abc  E,t/2,abc  E,t/3,txt  P,t/1,t/2  S,t/1,BOF,0,1,6162  S,t/2,BOF,0,0,[61:63]??  B,t/2,EOF,0,0,7A
abbrev registry : Contents
registry = record {
  formats = format (codes "t/1") ∷ format (codes "t/2") ∷ format (codes "t/3") ∷ [];
  extensions = record { place = 0; extension = codes "abc" } ∷ record { place = 1; extension = codes "abc" } ∷ record { place = 2; extension = codes "txt" } ∷ [];
  priorities = record { place = 0; over = 1 } ∷ [];
  signatures = record { place = 0; sequences = sequence Bof 0 1 (Byte 0x61 ∷ Byte 0x62 ∷ []) ∷ [] }
      ∷ record { place = 1; sequences = sequence Bof 0 0 (Range 0x61 0x63 ∷ AnyByte ∷ []) ∷ sequence Eof 0 0 (Byte 0x7A ∷ []) ∷ [] } ∷ [];
}

abbrev signature : Bool → List (List ℕ) → Found
signature mismatch puids = record { method = methods.Signature; mismatch = mismatch; puids = puids }

abbrev extension : List (List ℕ) → Found
extension puids = record { method = methods.Extension; mismatch = false; puids = puids }

abbrev nothing : Found
nothing = record { method = methods.Unidentified; mismatch = false; puids = [] }

-- the two bytes stand at the beginning, and at the last offset
at_the_first_offset : found_in registry (codes "x.abc") (codes "ab") 2 false ≡ signature false (codes "t/1" ∷ [])
at_the_first_offset = refl

at_the_last_offset : found_in registry (codes "x") (codes "aab") 3 false ≡ signature false (codes "t/1" ∷ [])
at_the_last_offset = refl

-- one byte further, and past the scan limit
past_the_last_offset : found_in registry (codes "x") (codes "aaab") 4 false ≡ nothing
past_the_last_offset = refl

past_the_limit : found_in registry (codes "x") (codes "aab") 2 false ≡ nothing
past_the_limit = refl

-- a scan limit above the size of the file
above_the_size : found_in registry (codes "x") (codes "aab") 9 false ≡ signature false (codes "t/1" ∷ [])
above_the_size = refl

-- both byte sequences of the other signature, one of them from the end; with the first format's too, priority drops it
from_both_ends : found_in registry (codes "x") (codes "cxz") 3 false ≡ signature false (codes "t/2" ∷ [])
from_both_ends = refl

not_at_the_end : found_in registry (codes "x") (codes "cxzx") 4 false ≡ nothing
not_at_the_end = refl

dropped_by_priority : found_in registry (codes "x") (codes "abz") 3 false ≡ signature false (codes "t/1" ∷ [])
dropped_by_priority = refl

-- an extension that the format doesn't list, in either case
other_extension : found_in registry (codes "x.txt") (codes "ab") 2 false ≡ signature true (codes "t/1" ∷ [])
other_extension = refl

extension_in_capitals : found_in registry (codes "x.ABC") (codes "ab") 2 false ≡ signature false (codes "t/1" ∷ [])
extension_in_capitals = refl

-- by extension: a format with no signature; the others only in the other mode
by_extension : found_in registry (codes "x.TXT") (codes "") 0 false ≡ extension (codes "t/3" ∷ [])
by_extension = refl

signed_formats : found_in registry (codes "x.abc") (codes "zz") 2 false ≡ nothing
signed_formats = refl

signed_formats_too : found_in registry (codes "x.abc") (codes "zz") 2 true ≡ extension (codes "t/1" ∷ codes "t/2" ∷ [])
signed_formats_too = refl

-- a name that begins with its only dot has no extension
no_extension : found_in registry (codes ".txt") (codes "") 0 true ≡ nothing
no_extension = refl
