-- The sample registry: four formats of invented identifiers (this project's own).
use Rattle.std.specs.Prelude.{ℕ, List, [], ◌∷◌, ◌++◌, codes}
use Rattle.std.specs.List.{flat_map}

-- its records, in order
abbrev pub sample_records : List (List ℕ)
sample_records =
    codes "F,dev/1,Message,1,,"
    ∷ codes "E,dev/1,msg,,,"
    ∷ codes "S,dev/1,BOF,0,0,6D657373616765"
    ∷ codes "F,dev/2,Alphabet,,,"
    ∷ codes "E,dev/2,abc,,,"
    ∷ codes "E,dev/2,alp,,,"
    ∷ codes "S,dev/2,BOF,0,0,616263"
    ∷ codes "B,dev/2,EOF,0,0,78797A"
    ∷ codes "F,dev/3,Letters,,,"
    ∷ codes "E,dev/3,let,,,"
    ∷ codes "S,dev/3,BOF,0,4,[61:63]??{0-2}64"
    ∷ codes "P,dev/2,dev/3,,,"
    ∷ codes "F,dev/4,Plain,,text/plain,"
    ∷ codes "E,dev/4,txt,,,"
    ∷ []

-- each record and a line feed
abbrev pub sample : List ℕ
sample = flat_map (λ text. text ++ 10 ∷ []) sample_records
