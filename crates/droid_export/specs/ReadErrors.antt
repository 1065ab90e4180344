-- The errors of `csv` that can end the reading of byte records: out of memory, or a failed reader.
use Rattle.std.specs.Prelude.{⊤}
use Rattle.csv.specs.declared.error.ErrorKind.{ErrorKind}
use Rattle.csv.specs.declared.error.ErrorKind.TheVariants as csv

-- only these two kinds can come
abbrev pub EndsReading : ErrorKind → Type 0
EndsReading csv.OutOfMemory = ⊤
EndsReading (csv.Io e) = ⊤
EndsReading (csv.UnequalLengths pos expected len) = ⊥
EndsReading (csv.Utf8 pos err) = ⊥
EndsReading (csv.Serialize text) = ⊥
EndsReading (csv.Deserialize pos err) = ⊥
