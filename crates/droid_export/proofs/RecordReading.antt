-- Records that `csv` reads from a slice, one by one; for proofs of whoever reads a profile's CSV.
use Rattle.std.proofs.Common.{Bor, ◌≡◌, ◌∙◌, ℕ, true, false, List, [], ◌∷◌, Option, Some, None, refl, sym, ap, subst}
use Rattle.csv.specs.Machine.{Read, next_record}
use Rattle.csv.specs.Reading.{AreRecords, ExplainsRead, ReadRecord, Reached, default_config, source_of}
use Rattle.csv.specs.declared.error.ErrorKind.{ErrorKind}
use Rattle.csv.specs.declared.error.ErrorKind.TheVariants as csv
use Rattle.csv.specs.declared.parser.Config.{Config}
use Rattle.csv.specs.declared.parser.State.{State}
use Rattle.csv.specs.declared.reader.Reader.{Reader}
use Rattle.csv.proofs.ReadFacts.{rows-end, rows-more}
use Rattle.droid_export.specs.ReadErrors.{EndsReading}

-- the bytes of a slice that is read from
abbrev pub rest_of : Bor (List ℕ) → Option (List ℕ)
rest_of s = Some s.now

-- a read that found a record: which one it is, and what is left
pub record IsNext (a b : Reader (Bor (List ℕ))) (y : List ℕ) (texts : List (List ℕ)) : Type 0 where
  pub rest : List ℕ
  pub source : source_of rest_of b ≡ Some rest
  pub read : Read
  pub is : next_record default_config a.state [] [] y ≡ Some read
  pub fields : texts ≡ read.0
  pub state : read.1 ≡ b.state
  pub left : read.2 ≡ rest

pub next_read : (a b : Reader (Bor (List ℕ))) (y : List ℕ) (fields : List (List ℕ)) → a.config ≡ default_config → source_of rest_of a ≡ Some y → ReadRecord rest_of a b true fields → IsNext a b y fields
unfolding Reached
next_read a b y fields config source reads =
    let m = rows-more rest_of a b fields default_config a.state y y [] config source (refl, refl) reads in
    record { rest = m.0; source = m.1; read = m.2.0; is = m.2.1; fields = m.2.2; state = m.2.3.0; left = m.2.3.1 }

-- a reader that takes records of any length, as bytes, fails for memory or for the reader underneath
pub ends_reading : (a b : Reader (Bor (List ℕ))) (kind : ErrorKind) → a.flexible ≡ true → ExplainsRead rest_of a b false kind → EndsReading kind
ends_reading a b csv.OutOfMemory flexible why = tt
ends_reading a b (csv.Io e) flexible why = tt
ends_reading a b (csv.UnequalLengths pos expected len) flexible why = let bad : true ≡ false = sym flexible ∙ why.0 in cc
ends_reading a b (csv.Utf8 pos err) flexible why = let bad : false ≡ true = why.0 in cc
ends_reading a b (csv.Serialize text) flexible why = why
ends_reading a b (csv.Deserialize pos err) flexible why = why

-- the records of what is left, if a record comes next
pub more_by : (config : Config) (state : State) (bytes : List ℕ) (records : List (List (List ℕ))) (read : Read) → next_record config state [] [] bytes ≡ Some read → AreRecords config state bytes records
    → (rest : List (List (List ℕ))) × (records ≡ read.0 ∷ rest) × AreRecords config read.1 read.2 rest
unfolding Reached
more_by config state bytes [] read next are =
    let none : next_record config state [] [] bytes ≡ None =
    ap (λ (s : State). next_record config s [] [] bytes) are.2.0 ∙ (ap (λ (b : List ℕ). next_record config are.0 [] [] b) are.2.1 ∙ are.3) in
    absurd cc
more_by config state bytes (fields ∷ records) read next are =
    let same : are.2.0 ≡ read = cc in (
      records,
      ap (λ (f : List (List ℕ)). f ∷ records) (are.2.2 ∙ ap (λ (r : Read). r.0) same),
      subst (λ (r : Read). AreRecords config r.1 r.2 records) same (are.0, are.1, are.2.3, are.3),
    )

-- there is no record left
pub none_by : (config : Config) (state : State) (bytes : List ℕ) (records : List (List (List ℕ))) → next_record config state [] [] bytes ≡ None → AreRecords config state bytes records → records ≡ []
unfolding Reached
none_by config state bytes [] next are = refl
none_by config state bytes (fields ∷ records) next are = let some = are.2.1 in absurd cc
