-- What a record comes to, from what the calls say that judge its parts.
use Rattle.std.proofs.Common.{◌≡◌, ℕ, List, [], ◌∷◌, length, Option, Some, Result, Ok, Err, IsOk, false, true, sym}
use Rattle.droid_pattern.specs.Patterns.{Element}
use Rattle.droid_pattern.specs.PatternText.{Spells}
use Rattle.droid_pronom.specs.RegistryRecords.{Draft, RecordFault, WithPattern, ReadsAs, Judged, Step, judged, no_text}
use Rattle.droid_pronom.specs.RegistryRecords as faults
use Rattle.droid_pronom.specs.RegistryCalls.{Gives, HasOutcome}
use Rattle.droid_pronom.specs.RegistryFields.{kind_of}
use Rattle.csv.specs.Records.{AllText}
use Rattle.droid_pronom.specs.declared.registry.fault.Refusal.{Refusal}
use Rattle.droid_pronom.specs.declared.registry.fault.Refusal.TheVariants as refusals

-- the pattern was read, and the rest was done
pub reports_added : {X H : Type 0} (head : Result H RecordFault) (h : H) (text : List ℕ) (elements : List Element) (added : H → Option (List Element) → Result Draft RecordFault) (result : Result X Refusal) (new : Draft)
    → head ≡ Ok h → Spells text elements → Gives (λ _. new) result (added h (Some elements)) → HasOutcome result new (WithPattern head text added)
reports_added head h text elements added (Ok x) new is spelled gives = rw is (Some elements, spelled, sym gives)
reports_added head h text elements added (Err refusals.Memory) new is spelled gives = tt
reports_added head h text elements added (Err (refusals.Fault fault)) new is spelled gives = rw is (Some elements, spelled, sym gives)

-- six texts were judged
pub reports_step : {X : Type 0} (result : Result X Refusal) (new draft : Draft) (fields : List (List ℕ)) (kind a b c d e : List ℕ)
    → fields ≡ kind ∷ a ∷ b ∷ c ∷ d ∷ e ∷ [] → AllText fields → HasOutcome result new (Judged draft (kind_of kind) a b c d e) → HasOutcome result new (Step draft fields)
reports_step (Ok x) new draft fields kind a b c d e is text judges = rw is (judged (rw is at text) judges)
reports_step (Err refusals.Memory) new draft fields kind a b c d e is text judges = tt
reports_step (Err (refusals.Fault fault)) new draft fields kind a b c d e is text judges = rw is (judged (rw is at text) judges)

-- a record with a field that is no text
pub unreported : {A E : Type 0} (draft : Draft) (fields : List (List ℕ)) (r : Result A E) (x : E) → length fields ≡ 6 → (AllText fields → IsOk r) → r ≡ Err x → Step draft fields (Err faults.NotUtf8)
unreported draft fields r x six text is = no_text six (λ all. let ok = text all in let bad : false ≡ true = rw is at ok in cc)
