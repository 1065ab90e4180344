-- Which signatures the registry has.
use Rattle.std.specs.Prelude.{◌≡◌, ◌⊎◌, ℕ, ◌+◌, ◌-◌, ◌*◌, ◌^◌, ◌<◌, ◌≤◌, min, List, [], ◌∷◌, length, map, Some}
use Rattle.std.specs.Prelude.{slice_get}
use Rattle.droid_signature_pattern.specs.Choices.{AreTaken, IsReasonOf, ways}
use Rattle.droid_signature_pattern.specs.declared.choices.Choices.{Choices}
use Rattle.droid_signature.specs.RegistryTables.{SequenceRow, SignatureRow, sequence_count, signature_lines}
use Rattle.droid_signature_file.specs.Records.{SignatureRecord}
use Rattle.droid_signature.specs.Formats.{Placed, puid_in}
use Rattle.droid_signature.specs.Holders.{holder}
use Rattle.droid_signature.specs.Sifting.{IsLeft, Sifted, by_place}
use Rattle.droid_signature.specs.declared.ids.Holder.TheVariants.{Nobody, Only, Several}
use Rattle.droid_signature.specs.declared.left_out.Item.TheVariants as items
use Rattle.droid_signature.specs.declared.left_out.LeftOut.{LeftOut}
use Rattle.droid_signature.specs.declared.left_out.Why.{Why}
use Rattle.droid_signature.specs.declared.left_out.Why.TheVariants as why
use Rattle.droid_signature.specs.SignatureRows.{AreAllWritten, AreRowsFor, flat, rows_of, ways_of}
use Rattle.droid_signature.specs.declared.signature_table.SignatureTable.{SignatureTable}

-- a signature of a format: the place in the registry of the format, the format, and the signature's ID
pub record Named : Type 0 where
  pub place : ℕ
  pub of : Placed
  pub id : ℕ

-- the signatures of the format at a place of the registry
abbrev pub signatures_of : ℕ → Placed → List ℕ → List Named
signatures_of place of ids = by_place (λ at id. record { place = place; of = of; id = id } ∷ []) 0 ids

-- the signatures of all formats of the registry
abbrev pub all_signatures : List Placed → List Named
all_signatures kept = by_place (λ place it. signatures_of place it it.format.signatures) 0 kept

-- the IDs of signatures
abbrev pub ids_of : List SignatureRecord → List ℕ
ids_of signatures = map (λ it. it.id) signatures

-- the only signature of the file with an ID
pub record IsOnlySignature (signatures : List SignatureRecord) (id at : ℕ) (signature : SignatureRecord) : Type 0 where
  pub held : holder id (ids_of signatures) ≡ Only at
  pub there : slice_get signatures at ≡ Some signature

-- A registry that has these signatures takes it. Its rows are those of what the signature becomes, and no others.
pub record TakesSignature (signatures : List SignatureRecord) (before : List (List SignatureRow)) (it : Named)
    (rows : List SignatureRow) : Type 0 where
  pub at : ℕ
  pub signature : SignatureRecord
  pub only : IsOnlySignature signatures it.id at signature
  pub all : List Choices
  pub becomes : AreTaken signature.sequences all
  pub lists : List (List SequenceRow)
  pub written : AreAllWritten all lists
  pub stand : AreRowsFor signature.sequences lists
  pub some : 0 < length lists
  pub same : rows ≡ rows_of it.place (puid_in it.of.format) lists
  pub few_signatures : length (flat before) + ways_of lists ≤ 16384
  pub few_sequences : sequence_count (flat before) + ways_of lists * length lists ≤ 32768

-- a registry that has these signatures is too full for what another signature of the file becomes
pub record IsFull (signatures : List SignatureRecord) (before : List (List SignatureRow)) (id : ℕ) : Type 0 where
  pub at : ℕ
  pub signature : SignatureRecord
  pub only : IsOnlySignature signatures id at signature
  pub all : List Choices
  pub becomes : AreTaken signature.sequences all
  pub full : (16384 < length (flat before) + ways all) ⊎ (32768 < sequence_count (flat before) + ways all * length all)

-- why nothing stands for the signature with an ID
abbrev pub IsReasonOfId : List SignatureRecord → ℕ → Why → Type 0
IsReasonOfId signatures id why.NoSuchSignature = holder id (ids_of signatures) ≡ Nobody
IsReasonOfId signatures id why.SeveralSignatures = holder id (ids_of signatures) ≡ Several
IsReasonOfId signatures id (why.Signature reason) =
    (at : ℕ) × (signature : SignatureRecord) × IsOnlySignature signatures id at signature
    × IsReasonOf signature.sequences reason
IsReasonOfId signatures id other = ⊥

-- why a registry that has these signatures does not take a signature
abbrev pub IsReasonOfSignature : List SignatureRecord → List (List SignatureRow) → ℕ → Why → Type 0
IsReasonOfSignature signatures before id why.NoSuchSignature = holder id (ids_of signatures) ≡ Nobody
IsReasonOfSignature signatures before id why.SeveralSignatures = holder id (ids_of signatures) ≡ Several
IsReasonOfSignature signatures before id (why.Signature reason) =
    (at : ℕ) × (signature : SignatureRecord) × IsOnlySignature signatures id at signature
    × IsReasonOf signature.sequences reason
IsReasonOfSignature signatures before id why.Full = IsFull signatures before id
IsReasonOfSignature signatures before id other = ⊥

-- a signature is left out of a registry that has these
abbrev pub LeavesSignature : List SignatureRecord → List (List SignatureRow) → Named → LeftOut → Type 0
LeavesSignature signatures before it left =
    IsLeft it.of.place (items.Signature it.id) (IsReasonOfSignature signatures before it.id) left

-- The table has the rows that signatures become, and what is left out of them.
pub record Signs (signatures : List SignatureRecord) (xs : List Named) (table : SignatureTable) : Type 0 where
  pub rows : List (List SignatureRow)
  pub sifted : Sifted (TakesSignature signatures) (LeavesSignature signatures) xs rows table.left_out.items
  pub text : table.text.items ≡ signature_lines (flat rows)
  -- up to the greatest number of 64 bits
  pub taken : table.taken ≡ min (length rows) (2 ^ 64 - 1)
  pub count : table.count ≡ length (flat rows)
  pub sequences : table.sequences ≡ sequence_count (flat rows)
