-- What a crash leaves of a journal is no damage.
use Rattle.std.proofs.Common.{◌≡◌, ℕ, ◌+◌, ◌<◌, ◌≤◌, Bool, true, false, List, [], ◌∷◌, ◌++◌, length, take, drop, refl, sym, ap, subst, ◌∙◌, append_assoc, arith, inl, inr}
use Rattle.std.specs.List.{AllByRecursion}
use Rattle.std.proofs.lemmas.Bool.{cases_lt}
use Rattle.std.proofs.lemmas.List.{drop-drop, drop_at, length-append, take-append-drop, take-append-le, take_at}
use Rattle.droid_journal.specs.Chains.{Chain, HasLater, NoneLaterByChance, ShowsDamage, StandsLater, WasBegun, form_of, journal_bytes, key_of, last_place, skipped}
use Rattle.droid_journal.specs.Fronts.{IsFront}
use Rattle.droid_journal.specs.Records.{AllFit, Record, by_form}
use Rattle.droid_journal.specs.declared.records.key.Form.{Form}
use Rattle.droid_journal.specs.declared.records.key.Form.TheVariants as forms
use Rattle.droid_journal.proofs.Chains.{journal_front, last_at, synced_is_read}
use Rattle.droid_journal.specs.Turns.{IsTurn}

abbrev AreOthers : List Record → Type 0
AreOthers its = AllByRecursion (λ it. it.first ≡ false) its

among_others : (front : List Record) (it : Record) (after : List Record) → AreOthers (front ++ it ∷ after) → it.first ≡ false
among_others [] it after all = all.0
among_others (x ∷ front) it after all = among_others front it after all.1

not_first : (front : List Record) (it : Record) (after : List Record) → 0 < length front → AreOthers (drop 1 (front ++ it ∷ after)) → it.first ≡ false
not_first [] it after some all = absurd (omega arith)
not_first (x ∷ front) it after some all = among_others front it after all

-- of two fronts of a list the shorter is a front of the longer
shorter_front : (xs ys a b : List Record) → xs ++ a ≡ ys ++ b → length xs ≤ length ys → IsFront xs ys
shorter_front xs ys a b same le =
    let n = length xs in
    let front : take n ys ≡ xs = sym (take-append-le n ys b le) ∙ sym (ap (λ (t : List Record). take n t) same) ∙ take_at xs a n refl in
    (drop n ys, sym (take-append-drop n ys) ∙ ap (λ (t : List Record). t ++ drop n ys) front)

same_behind : (xs a b : List Record) → xs ++ a ≡ xs ++ b → a ≡ b
same_behind xs a b same = sym (drop_at xs a (length xs) refl) ∙ ap (λ (t : List Record). drop (length xs) t) same ∙ drop_at xs b (length xs) refl

contrary : (b : Bool) → b ≡ true → b ≡ false → ⊥
contrary b is isnt = cc

module _ (header : List ℕ) where
  front_long : (xs ys : List Record) → IsFront xs ys → length (journal_bytes header xs) ≤ length (journal_bytes header ys)
  front_long xs ys p = let more = journal_front header xs ys p in omega (arith, ap length more.1, length-append (journal_bytes header xs) more.0)

  -- the place of a turn's beginning is in front of where another is searched for
  either : (form : Form) → 1 ≤ by_form form 16 0 + skipped form
  either forms.Before = omega arith
  either forms.Present = omega arith

  pub lawful : (s : List ℕ) (synced written its : List Record) (rest : List ℕ) → AllFit synced → IsFront (journal_bytes header synced) s → IsTurn synced written
      → NoneLaterByChance header written s (length (journal_bytes header synced)) → Chain header s its rest → ShowsDamage header its rest → ⊥
  lawful s synced written its rest fits front turn none chain has =
      let whole : List ℕ = journal_bytes header its in
      let skip : ℕ = skipped (form_of header) in
      let low : length (journal_bytes header synced) ≤ length whole = front_long synced its (synced_is_read header synced s its rest fits front chain) in
      let end : (last_place header its).at ≡ length whole = last_at header its in
      let place : ℕ = (last_place header its).at + skip + has.0 in
      let behind : rest ≡ drop (length whole) s = sym (drop_at whole rest (length whole) refl) ∙ ap (λ (t : List ℕ). drop (length whole) t) (sym chain.joined) in
      let sum : length whole + (skip + has.0) ≡ place = omega (arith, end) in
      let there : drop has.0 (drop skip rest) ≡ drop place s =
      drop-drop has.0 skip rest ∙ ap (λ (t : List ℕ). drop (skip + has.0) t) behind ∙ drop-drop (skip + has.0) (length whole) s ∙ ap (λ (n : ℕ). drop n s) sum in
      let later : StandsLater (key_of header) place (drop place s) = subst (StandsLater (key_of header) place) there has.1 in
      let was : WasBegun header written place = none place later (omega (arith, low, end)) in
      elim (cases_lt (length synced) (length was.before)) [
        | inl lt ↦
            let p = shorter_front synced was.before turn.turn (was.it ∷ was.after) (sym turn.parts ∙ was.parts) (omega arith) in
            let same : turn.turn ≡ p.0 ++ was.it ∷ was.after =
            same_behind synced turn.turn (p.0 ++ was.it ∷ was.after) (sym turn.parts ∙ was.parts ∙ ap (λ (t : List Record). t ++ was.it ∷ was.after) p.1 ∙ append_assoc synced p.0 (was.it ∷ was.after)) in
            let some : 0 < length p.0 = omega (arith, lt, ap length p.1, length-append synced p.0) in
            contrary was.it.first was.first (not_first p.0 was.it was.after some (subst (λ (t : List Record). AreOthers (drop 1 t)) same turn.others))
        | inr le ↦
            let p = shorter_front was.before synced (was.it ∷ was.after) turn.turn (sym was.parts ∙ turn.parts) le in
            let short = front_long was.before synced p in
            absurd (omega (arith, was.at, short, low, end, either (form_of header)))
      ]
