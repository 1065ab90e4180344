-- All that a registry does not have of a signature file: the items that are left out, the formats that are left without
-- a signature, and the signatures that no format names.
use Rattle.std.specs.Prelude.{ℕ, ◌+◌, ◌-◌, ◌^◌, ◌==◌, ◌&&◌, nat_lt, min, Bool, false, List, [], ◌∷◌, ◌++◌, length, map}
use Rattle.std.specs.Prelude.{count_by, Option, Some, None, unwrap_or, if◌then◌else◌, ◌≡◌}
use Rattle.std.specs.BTreeMap.{get_by}
use Rattle.std.specs.Ordering.{nat_cmp}
use Rattle.droid_signature_file.specs.Records.{FileRecord, FormatRecord}
use Rattle.droid_signature.specs.Sifting.{by_place}
use Rattle.droid_signature.specs.declared.left_out.Item.{Item}
use Rattle.droid_signature.specs.declared.left_out.Item.TheVariants as items
use Rattle.droid_signature.specs.declared.left_out.LeftOut.{LeftOut}
use Rattle.droid_signature.specs.declared.left_out.Why.TheVariants as why
use Rattle.droid_signature.specs.Unnamed.{unnamed}
use Rattle.droid_signature.specs.declared.omissions.Counts.{Counts}

-- the format at a place of the file of which a signature is left out, if a signature is
abbrev pub holder_of : Option ℕ → Item → Option ℕ
holder_of format items.Format = None
holder_of format (items.Extension at) = None
holder_of format (items.Priority id) = None
holder_of format (items.Signature id) = format

-- whether this is the place
abbrev pub is_place : ℕ → Option ℕ → Bool
is_place place None = false
is_place place (Some other) = other == place

-- whether a signature of the format at a place is left out
abbrev pub is_of : ℕ → LeftOut → Bool
is_of place it = is_place place (holder_of it.format it.item)

-- how many of its signatures are left out, up to the greatest number of 64 bits
abbrev pub count_of : ℕ → List LeftOut → ℕ
count_of place left = min (count_by (is_of place) left) (2 ^ 64 - 1)

-- it has signatures, and all of them are left out
abbrev pub is_without : FormatRecord → ℕ → Bool
is_without format count = nat_lt 0 (length format.signatures) && (count == length format.signatures)

-- the format at a place, as one that is left without a signature
abbrev pub without_item : ℕ → LeftOut
without_item place = record { format = Some place; item = items.Format; why = why.NoSignatureLeft }

-- the same, if it is
abbrev pub listed_if : Bool → ℕ → List LeftOut
listed_if is place = if is then without_item place ∷ [] else []

-- the format at a place, if it is left without a signature
abbrev pub without_at : List LeftOut → ℕ → FormatRecord → List LeftOut
without_at left place format = listed_if (is_without format (count_of place left)) place

-- the formats that are left without a signature
abbrev pub without : List LeftOut → List FormatRecord → List LeftOut
without left formats = by_place (without_at left) 0 formats

-- the signature with an ID, as one that no format names
abbrev pub unnamed_item : ℕ → LeftOut
unnamed_item id = record { format = None; item = items.Signature id; why = why.Unnamed }

-- all of it
abbrev pub all_left_out : FileRecord → List LeftOut → List LeftOut
all_left_out file left = left ++ without left file.formats ++ map unnamed_item (unnamed file)

-- for inner clauses: what a map has at a place
abbrev pub count_at : Counts → ℕ → ℕ
count_at map place = unwrap_or (get_by (nat_cmp place) map.counts) 0

-- the map has for each format how many of its signatures are left out
pub record AreCountsOf (left : List LeftOut) (map : Counts) : Type 0 where
  pub each : (place : ℕ) → count_at map place ≡ count_of place left

-- it has one more at a place
pub record Adds (place : ℕ) (old new : Counts) : Type 0 where
  pub each : (other : ℕ)
      → count_at new other ≡ (if place == other then min (count_at old place + 1) (2 ^ 64 - 1) else count_at old other)
