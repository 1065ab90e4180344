-- Texts of patterns, any of which has to match.
use Rattle.std.specs.Prelude.{◌≡◌, ℕ, ◌+◌, ◌≤◌, ◌<◌, List, [], ◌∷◌, ◌++◌, length, map}
use Rattle.std.specs.List.{AllByRecursion}
use Rattle.droid_signature_pattern.specs.declared.reason.Reason.{Reason}
use Rattle.droid_signature_pattern.specs.declared.reason.Reason.TheVariants as reasons

-- each of the texts behind a text
abbrev pub each_behind : List ℕ → List (List ℕ) → List (List ℕ)
each_behind first seconds = map (λ second. first ++ second) seconds

-- each text of the first list with each of the second behind it
abbrev pub joined : List (List ℕ) → List (List ℕ) → List (List ℕ)
joined [] seconds = []
joined (first ∷ firsts) seconds = each_behind first seconds ++ joined firsts seconds

-- of several lists, one behind the other: a text of each
abbrev pub joined_all : List (List (List ℕ)) → List (List ℕ)
joined_all [] = [] ∷ []
joined_all (level ∷ levels) = joined level (joined_all levels)

-- texts of at most 4,096 bytes each
abbrev pub AreShort : List (List ℕ) → Type 0
AreShort texts = AllByRecursion (λ text. length text ≤ 4096) texts

-- how many bytes they have in all
abbrev pub total : List (List ℕ) → ℕ
total [] = 0
total (text ∷ texts) = length text + total texts

-- what is taken for a byte sequence: at most 64 texts of at most 4,096 bytes each, with at most 16,384 bytes in all
pub record AreSmall (texts : List (List ℕ)) : Type 0 where
  pub few : length texts ≤ 64
  pub short : AreShort texts
  pub bounded : total texts ≤ 16384

-- a text has more than 4,096 bytes
abbrev pub IsLong : List ℕ → Reason → Type 0
IsLong text reason = (reason ≡ reasons.LongPattern) × (4096 < length text)
