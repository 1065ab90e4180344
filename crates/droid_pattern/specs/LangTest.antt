-- Whether a pattern matches bytes, as a function that can be computed: it tries each place where the bytes can be cut.
use Rattle.std.specs.Prelude.{ℕ, zero, suc, Bool, false, not, ◌&&◌, ◌||◌, ◌==◌, nat_le, List, [], ◌∷◌, length, take}
use Rattle.std.specs.Prelude.{drop, bytes_eq}
use Rattle.std.specs.List.{list_any}
use Rattle.droid_pattern.specs.Patterns.{Element, Byte, AnyByte, Gap, OpenGap, Range, Except, Choice}

-- whether a number below this one passes the test
abbrev pub some_below : (ℕ → Bool) → ℕ → Bool
some_below test zero = false
some_below test (suc n) = test n || some_below test n

-- whether the list is one byte that passes the test
abbrev pub one_byte : (ℕ → Bool) → List ℕ → Bool
one_byte test [] = false
one_byte test (x ∷ []) = test x
one_byte test (x ∷ y ∷ more) = false

-- whether one element matches the bytes
abbrev pub matches : Element → List ℕ → Bool
matches (Byte b) bytes = bytes_eq bytes (b ∷ [])
matches AnyByte bytes = length bytes == 1
matches (Gap least most) bytes = nat_le least (length bytes) && nat_le (length bytes) most
matches (OpenGap least) bytes = nat_le least (length bytes)
matches (Range low high) bytes = one_byte (λ x. nat_le low x && nat_le x high) bytes
matches (Except b) bytes = one_byte (λ x. not (x == b)) bytes
matches (Choice alternatives) bytes = list_any (bytes_eq bytes) alternatives

-- whether a whole pattern matches: for some cut, the first element matches the part before it and the rest the part
-- after it
abbrev pub in_lang : List Element → List ℕ → Bool
in_lang [] bytes = bytes_eq bytes []
in_lang (e ∷ es) bytes = some_below (λ k. matches e (take k bytes) && in_lang es (drop k bytes)) (suc (length bytes))
