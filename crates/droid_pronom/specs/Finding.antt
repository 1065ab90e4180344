-- What is found in a file, as a function that can be computed: the rules of Found.antt with a test for each condition.
use Rattle.std.specs.Prelude.{ℕ, suc, ◌+◌, ◌-◌, min, Bool, false, not, ◌&&◌, ◌||◌, ◌==◌, nat_le, if◌then◌else◌, List}
use Rattle.std.specs.Prelude.{[], ◌∷◌, length, take, drop, bytes_eq}
use Rattle.std.specs.List.{list_any, list_all}
use Rattle.std.specs.Str.{str_to_ascii_lowercase}
use Rattle.droid_frame.specs.declared.method.Method.TheVariants as methods
use Rattle.droid_pattern.specs.LangTest.{some_below, in_lang}
use Rattle.droid_pronom.specs.Registry.{Contents}
use Rattle.droid_pronom.specs.Found.{extension_of}
use Rattle.droid_pronom.specs.declared.format.Format.{Format}
use Rattle.droid_pronom.specs.declared.rows.Anchor.{Anchor}
use Rattle.droid_pronom.specs.declared.rows.Anchor.TheVariants.{Bof, Eof}
use Rattle.droid_pronom.specs.declared.rows.ByteSequence.{ByteSequence}
use Rattle.droid_pronom.specs.declared.identification.Found.{Found}

-- `count` bytes of a file, at an offset from its beginning or before its end
abbrev pub part : Anchor → List ℕ → (offset count : ℕ) → List ℕ
part Bof file offset count = take count (drop offset file)
part Eof file offset count = take count (drop (length file - (offset + count)) file)

-- whether a byte sequence hits at an offset with a match of `count` bytes
abbrev pub hits_at : List ℕ → ℕ → ByteSequence → (offset count : ℕ) → Bool
hits_at file scan_limit sequence offset count =
    nat_le sequence.offsets.min offset && nat_le (offset + count) (min scan_limit (length file))
    && in_lang sequence.pattern (part sequence.offsets.anchor file offset count)

-- whether a byte sequence hits
abbrev pub hits : List ℕ → ℕ → ByteSequence → Bool
hits file scan_limit sequence =
    some_below (λ offset. some_below (hits_at file scan_limit sequence offset) (suc (length file)))
    (suc sequence.offsets.max)

-- The definitions below take the test `hit`, which says which byte sequences hit.

-- whether the format at a place hits
abbrev pub is_hit : (ByteSequence → Bool) → Contents → ℕ → Bool
is_hit hit registry k =
    list_any (λ signature. signature.place == k && list_all hit signature.sequences) registry.signatures

-- whether a format that hits has priority over the one at a place
abbrev pub is_beaten : (ByteSequence → Bool) → Contents → ℕ → Bool
is_beaten hit registry k = list_any (λ row. is_hit hit registry row.place && row.over == k) registry.priorities

-- whether the format at a place hits and priority leaves it
abbrev pub is_left : (ByteSequence → Bool) → Contents → ℕ → Bool
is_left hit registry k = is_hit hit registry k && not (is_beaten hit registry k)

-- whether the format at a place has a signature
abbrev pub is_signed : Contents → ℕ → Bool
is_signed registry k = list_any (λ signature. signature.place == k) registry.signatures

-- whether the format at a place is identified by an extension
abbrev pub is_named : Contents → List ℕ → Bool → ℕ → Bool
is_named registry extension match_all k =
    not (bytes_eq extension [])
    && list_any (λ row. row.place == k && bytes_eq row.extension (str_to_ascii_lowercase extension)) registry.extensions
    && (match_all || not (is_signed registry k))

-- whether the extension contradicts the formats that priority leaves
abbrev pub is_mismatch : (ByteSequence → Bool) → Contents → List ℕ → Bool
is_mismatch hit registry extension =
    not (bytes_eq extension [])
    && list_any (λ row. is_left hit registry row.place) registry.extensions
    && not
    (list_any (λ row. is_left hit registry row.place && bytes_eq row.extension (str_to_ascii_lowercase extension))
    registry.extensions)

-- the PUIDs of the formats whose places pass the test; the first format has the place k
abbrev pub chosen_from : (ℕ → Bool) → ℕ → List Format → List (List ℕ)
chosen_from test k [] = []
chosen_from test k (format ∷ formats) =
    if test k then format.puid ∷ chosen_from test (suc k) formats else chosen_from test (suc k) formats

-- the formats that priority leaves, or if there are none, the formats that the extension names
abbrev pub answer : Bool → (left named : List (List ℕ)) → Found
answer mismatch (puid ∷ more) named = record { method = methods.Signature; mismatch = mismatch; puids = puid ∷ more }
answer mismatch [] (puid ∷ more) = record { method = methods.Extension; mismatch = false; puids = puid ∷ more }
answer mismatch [] [] = record { method = methods.Unidentified; mismatch = false; puids = [] }

-- what is found if the byte sequences that pass `hit` hit
abbrev pub found_by : (ByteSequence → Bool) → Contents → List ℕ → Bool → Found
found_by hit registry name match_all =
    answer (is_mismatch hit registry (extension_of name)) (chosen_from (is_left hit registry) 0 registry.formats)
    (chosen_from (is_named registry (extension_of name) match_all) 0 registry.formats)

-- what is found in a file of this name with these bytes, under this scan limit
abbrev pub found_in : Contents → (name file : List ℕ) → (scan_limit : ℕ) → (match_all : Bool) → Found
found_in registry name file scan_limit match_all = found_by (hits file scan_limit) registry name match_all
