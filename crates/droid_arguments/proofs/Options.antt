-- What the getters of a command's matches read, by the rows of its options.
use Rattle.std.proofs.Common.{◌≡◌, ◌∙◌, ap, sym, subst, inl, inr, refl, ℕ, Bool, true, false, List, Option, Some, None, Ok, Err, Result, codes, unwrap_or}
use Rattle.std.specs.Str.Parse.{ParsesBool, ParsesUnsigned}
use Rattle.clap.specs.Words.{ReadsOne, Row, Text, first_of, one_of, one_text, rows_of}
use Rattle.clap.specs.declared.parser.matches.Found.{Found}
use Rattle.clap.proofs.WalkLemmas.{one_text-rows}
use Rattle.droid_arguments.specs.Values.{IsChosen, IsFlag, IsGiven, IsNumberOr, IsSource, Reads}
use Rattle.droid_arguments.specs.declared.source.RegistrySource.{RegistrySource}

module _ {E : Type 0} (gives : List ℕ → Result ℕ E → Type 0) (bits : ℕ) (parses : (text : Text) (r : Result ℕ E) → gives text r → ParsesUnsigned bits 10 text r) where
  given : (o : Option Text) (r : Option ℕ) → (o ≡ None → r ≡ None) → ((text : Text) → o ≡ Some text → ReadsOne gives text r) → Reads r (IsGiven bits o)
  given None None none value = λ n is. is
  given None (Some n) none value = absurd (let bad = none refl in cc)
  given (Some text) None none value = λ n is. parses text (Err (value text refl).0) (value text refl).1 is.0
  given (Some text) (Some n) none value = parses text (Ok n) (value text refl)

  -- an option that has a number
  pub number_read : (f : Found) (id : Text) (r : Option ℕ) → (one_text f id ≡ None → r ≡ None) → ((text : Text) → one_text f id ≡ Some text → ReadsOne gives text r)
      → Reads r (IsGiven bits (one_of id (rows_of f)))
  number_read f id r none value = subst (λ (o : Option Text). Reads r (IsGiven bits o)) (one_text-rows f id) (given (one_text f id) r none value)

  given_or : (otherwise : ℕ) (o : Option Text) (r : Option ℕ) (n : ℕ) → (o ≡ None → r ≡ None) → ((text : Text) → o ≡ Some text → ReadsOne gives text r)
      → n ≡ unwrap_or r otherwise → IsNumberOr bits otherwise o n
  given_or otherwise None None n none value is = is
  given_or otherwise None (Some m) n none value is = absurd (let bad = none refl in cc)
  given_or otherwise (Some text) None n none value is = inr (is, parses text (Err (value text refl).0) (value text refl).1)
  given_or otherwise (Some text) (Some m) n none value is =
      let read = parses text (Ok m) (value text refl) in
      inl (read.0, is ∙ read.1)

  -- an option that has a number, or the one that stands for none
  pub number_or : (otherwise : ℕ) (f : Found) (id : Text) (r : Option ℕ) (n : ℕ) → (one_text f id ≡ None → r ≡ None) → ((text : Text) → one_text f id ≡ Some text → ReadsOne gives text r)
      → n ≡ unwrap_or r otherwise → IsNumberOr bits otherwise (one_of id (rows_of f)) n
  number_or otherwise f id r n none value is =
      subst (λ (o : Option Text). IsNumberOr bits otherwise o n) (one_text-rows f id) (given_or otherwise (one_text f id) r n none value is)

set_or_not : (E : Type 0) (o : Option Text) (r : Option Bool) → (o ≡ None → r ≡ None) → ((text : Text) → o ≡ Some text → ReadsOne {E = E} ParsesBool text r) → IsFlag o (unwrap_or r false)
set_or_not E None None none value = (λ is. absurd (let bad : false ≡ true = is in cc), λ is. absurd (let bad : None ≡ Some (codes "true") = is in cc))
set_or_not E None (Some b) none value = absurd (let bad = none refl in cc)
set_or_not E (Some text) None none value =
    (λ is. absurd (let bad : false ≡ true = is in cc), λ is. absurd ((value text refl).1.0 (let same : Some text ≡ Some (codes "true") = is in cc)))
set_or_not E (Some text) (Some true) none value = (λ is. ap (λ (t : Text). Some t) (value text refl), λ is. refl)
set_or_not E (Some text) (Some false) none value =
    let not : text ≡ codes "false" = value text refl in
    (λ is. absurd (let bad : false ≡ true = is in cc), λ is. absurd (let same : Some text ≡ Some (codes "true") = is in cc))

-- a flag
pub flag_given : (E : Type 0) (f : Found) (id : Text) (r : Option Bool) (flag : Bool) → (one_text f id ≡ None → r ≡ None) → ((text : Text) → one_text f id ≡ Some text → ReadsOne {E = E} ParsesBool text r)
    → flag ≡ unwrap_or r false → IsFlag (one_of id (rows_of f)) flag
flag_given E f id r flag none value is =
    subst (λ (b : Bool). IsFlag (one_of id (rows_of f)) b) (sym is) (subst (λ (o : Option Text). IsFlag o (unwrap_or r false)) (one_text-rows f id) (set_or_not E (one_text f id) r none value))

-- it is set or not
pub same_flag : (o : Option Text) (one other : Bool) → IsFlag o one → IsFlag o other → one ≡ other
same_flag o true true is also = refl
same_flag o true false is also = sym (also.1 (is.0 refl))
same_flag o false true is also = is.1 (also.0 refl)
same_flag o false false is also = refl

-- the registry that the options name
pub source_given : (rows : List Row) (everyday : Bool) (file : Option Text) (chosen : Option RegistrySource) → IsFlag (one_of (codes "everyday") rows) everyday → file ≡ first_of (codes "registry") rows
    → Reads chosen (IsChosen everyday file) → Reads chosen (IsSource rows)
source_given rows everyday file None flag is none = λ source names.
    none source
    (subst (λ (b : Bool). IsChosen b file source) (same_flag (one_of (codes "everyday") rows) names.everyday everyday names.is_flag flag)
    (subst (λ (o : Option Text). IsChosen names.everyday o source) (sym is) names.is_chosen))
source_given rows everyday file (Some source) flag is named =
    record { everyday = everyday; is_flag = flag; is_chosen = subst (λ (o : Option Text). IsChosen everyday o source) is named }
