-- The signatures of a registry that stand for the formats of a signature file, if all signatures of a format are taken.
use Rattle.std.specs.Prelude.{◌≡◌, ◌≢◌, ◌⊎◌, ℕ, zero, suc, List, [], ◌∷◌, ◌++◌}
use Rattle.droid_pronom.specs.Registry.{Signed}
use Rattle.droid_pronom.specs.declared.rows.ByteSequence.{ByteSequence}
use Rattle.droid_signature_file.specs.Records.{SignatureRecord}
use Rattle.droid_signature_file.specs.Sequences.{combinations, AreChoicesOf}

-- lists of byte sequences stand for the signatures with an ID: for each of them its combinations, in order
abbrev pub StandForId : ℕ → List SignatureRecord → List (List ByteSequence) → Type 0
StandForId id [] lists = lists ≡ []
StandForId id (signature ∷ signatures) lists =
    ((all : List (List ByteSequence)) × (more : List (List ByteSequence)) × (signature.id ≡ id)
    × (lists ≡ combinations all ++ more)
    × AreChoicesOf signature.sequences all × StandForId id signatures more)
    ⊎ ((signature.id ≢ id) × StandForId id signatures lists)

-- lists of byte sequences stand for the signatures of all these IDs
abbrev pub StandForIds : List SignatureRecord → List ℕ → List (List ByteSequence) → Type 0
StandForIds signatures [] lists = lists ≡ []
StandForIds signatures (id ∷ ids) lists =
    (own : List (List ByteSequence)) × (more : List (List ByteSequence)) × (lists ≡ own ++ more)
    × StandForId id signatures own × StandForIds signatures ids more

-- a signature of the format at a place for each list of byte sequences
abbrev pub signatures_at : ℕ → List (List ByteSequence) → List Signed
signatures_at place [] = []
signatures_at place (sequences ∷ more) = record { place = place; sequences = sequences } ∷ signatures_at place more

-- the signatures of formats, the first of which has this place
abbrev pub signatures_from : ℕ → List (List (List ByteSequence)) → List Signed
signatures_from place [] = []
signatures_from place (lists ∷ more) = signatures_at place lists ++ signatures_from (suc place) more

-- what the format at a place has, counted from 0
abbrev pub lists_at : ℕ → List (List (List ByteSequence)) → List (List ByteSequence)
lists_at place [] = []
lists_at zero (lists ∷ more) = lists
lists_at (suc place) (lists ∷ more) = lists_at place more
