-- Why a registry cannot hold what stands for terms: what each reason says of them. Running out of memory says nothing.
use Rattle.std.specs.Prelude.{◌≡◌, ◌⊎◌, ℕ, ◌<◌, List, length, take, Result, Ok, Err, ⊤}
use Rattle.std.specs.List.{Any}
use Rattle.droid_signature_file.specs.Terms.{Atom, Plain, Outside, Between, Quoted, Term, One, OneOf}
use Rattle.droid_signature_file.specs.Expansions.{patterns_of, patterns_of_atoms, patterns_of_each}
use Rattle.droid_signature_pattern.specs.Written.{written_each}
use Rattle.droid_signature_pattern.specs.Texts.{joined_all, total}
use Rattle.droid_signature_pattern.specs.declared.reason.Stop.{Stop}
use Rattle.droid_signature_pattern.specs.declared.reason.Stop.TheVariants as stops
use Rattle.droid_signature_pattern.specs.declared.reason.Reason.{Reason}
use Rattle.droid_signature_pattern.specs.declared.reason.Reason.TheVariants as reasons

-- a reason that is returned satisfies P
abbrev pub Says : Stop → (Reason → Type 0) → Type 0
Says stops.Memory P = ⊤
Says (stops.LeftOut reason) P = P reason

-- where something was left out, its reason satisfies P
abbrev pub IfLeftOut : {X : Type 0} → Result X Stop → (Reason → Type 0) → Type 0
IfLeftOut (Ok x) P = ⊤
IfLeftOut (Err stop) P = Says stop P

-- there are more than 64 texts
abbrev pub HasMany : List (List ℕ) → Reason → Type 0
HasMany texts reason = (reason ≡ reasons.ManyAlternatives) × (64 < length texts)

-- a text has more than 4,096 bytes
abbrev pub HasLong : List (List ℕ) → Reason → Type 0
HasLong texts reason = (reason ≡ reasons.LongPattern) × Any (λ text. 4096 < length text) texts

-- the texts have more than 16,384 bytes in all
abbrev pub HasMuch : List (List ℕ) → Reason → Type 0
HasMuch texts reason = (reason ≡ reasons.LongPatterns) × (16384 < total texts)

-- these texts are not taken
abbrev pub IsTooMuch : List (List ℕ) → Reason → Type 0
IsTooMuch texts reason = HasMany texts reason ⊎ HasLong texts reason ⊎ HasMuch texts reason

-- a registry cannot hold what the first of these lists, one behind the other, give
pub record AreTooMuch (levels : List (List (List ℕ))) (reason : Reason) : Type 0 where
  pub count : ℕ
  pub exceeds : IsTooMuch (joined_all (take count levels)) reason

-- a range of more than 16 bytes
abbrev pub IsLongRange : Atom → Type 0
IsLongRange (Plain element) = ⊥
IsLongRange (Outside low high) = ⊥
IsLongRange (Between low high) = 16 < length low
IsLongRange (Quoted bytes) = ⊥

-- why a registry cannot hold an item
abbrev pub IsReasonOfAtom : Reason → Atom → Type 0
IsReasonOfAtom reason atom = (reason ≡ reasons.LongRange) × IsLongRange atom

-- why a registry cannot hold items: one of them, or what the first of them are written as
abbrev pub IsReasonOfAtoms : Reason → List Atom → Type 0
IsReasonOfAtoms reason atoms =
    Any (IsReasonOfAtom reason) atoms
    ⊎ ((count : ℕ) × IsTooMuch (written_each (patterns_of_atoms (take count atoms))) reason)

-- why a registry cannot hold alternatives: one of them, or what the first of them are written as
abbrev pub IsReasonOfEach : Reason → List (List Atom) → Type 0
IsReasonOfEach reason alternatives =
    Any (IsReasonOfAtoms reason) alternatives
    ⊎ ((count : ℕ) × IsTooMuch (written_each (patterns_of_each (take count alternatives))) reason)

-- why a registry cannot hold a term
abbrev pub IsReasonOfTerm : Reason → Term → Type 0
IsReasonOfTerm reason (One atom) = IsReasonOfAtom reason atom
IsReasonOfTerm reason (OneOf alternatives) = IsReasonOfEach reason alternatives

-- why a registry cannot hold terms: one of them, or what the first of them are written as
abbrev pub IsReasonOfTerms : List Term → Reason → Type 0
IsReasonOfTerms terms reason =
    Any (IsReasonOfTerm reason) terms ⊎ ((count : ℕ) × IsTooMuch (written_each (patterns_of (take count terms))) reason)
