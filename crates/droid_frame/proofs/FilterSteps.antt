-- What a filter's code finds at its steps.
use Rattle.std.proofs.Common.{◌≡◌, ℕ, ◌≤◌, List, [], ◌∷◌, length, Option, Some, None, refl, arith}
use Rattle.std.specs.List.{AllByRecursion}
use Rattle.std.specs.Prelude.{OnOk, Result, Ok, Err}
use Rattle.std.specs.Str.{IsUtf8}
use Rattle.droid_frame.specs.FilterValues.{list_at, puid_in_at, ext_in_at, criterion_at, tagged_at}
use Rattle.droid_frame.specs.Filters.{ListFits, IsList}
use Rattle.droid_frame.specs.declared.criterion.Criterion.TheVariants.{PuidIn, ExtIn}
use Rattle.droid_frame.specs.Reading.{◌>>=◌, byte_at}
use Rattle.droid_frame.specs.TextLists.{IsSizedText}
use Rattle.droid_frame.proofs.SequenceLoops.{rest_of}

-- each text is UTF-8 and short enough
sized_texts : (texts : List (List ℕ)) → AllByRecursion (λ text. length text ≤ 255) texts → AllByRecursion IsUtf8 texts → AllByRecursion (IsSizedText 0 255) texts
sized_texts [] short utf8 = tt
sized_texts (text ∷ texts) short utf8 = (record { utf8 = utf8.0; at_least = omega arith; at_most = short.0 }, sized_texts texts short.1 utf8.1)

pub list_is : (texts : List (List ℕ)) → ListFits texts → AllByRecursion IsUtf8 texts → IsList texts
list_is texts fits utf8 = record { few = (let few = fits.few in omega arith); each = sized_texts texts fits.short utf8 }

rest_of-then : {A B : Type 0} (read : Option (A × List ℕ)) (make : A → B) → rest_of (read >>= λ x. Some (make x.0, x.1)) ≡ rest_of read
rest_of-then None make = refl
rest_of-then (Some x) make = refl

-- a list's criterion ends where the list ends
pub rest_of_puid_in : (bytes rest : List ℕ) (tag : ℕ) → byte_at bytes ≡ Some (tag, rest) → tag ≡ 2 → rest_of (criterion_at bytes) ≡ rest_of (list_at rest)
unfolding criterion_at tagged_at puid_in_at
rest_of_puid_in bytes rest tag found is = rw (found, is) (rest_of-then (list_at rest) PuidIn)

pub rest_of_ext_in : (bytes rest : List ℕ) (tag : ℕ) → byte_at bytes ≡ Some (tag, rest) → tag ≡ 3 → rest_of (criterion_at bytes) ≡ rest_of (list_at rest)
unfolding criterion_at tagged_at ext_in_at
rest_of_ext_in bytes rest tag found is = rw (found, is) (rest_of-then (list_at rest) ExtIn)

on_ok : {T E : Type 0} (result : Result T E) {P Q : Type 0} → (P → Q) → OnOk result P → OnOk result Q
on_ok (Ok x) next h = next h
on_ok (Err e) next h = tt

pub list_spelled : {T E : Type 0} (result : Result T E) (texts : List (List ℕ)) → ListFits texts → OnOk result (AllByRecursion IsUtf8 texts) → OnOk result (IsList texts)
list_spelled result texts fits utf8 = on_ok result (list_is texts fits) utf8
