-- What the look-up of a profile gives.
use Rattle.std.proofs.Common.{◌≡◌, ◌==◌, ℕ, zero, suc, List, [], ◌∷◌, find, map, Bool, Some, None, Option, Err, Result, IsTrue, IfOk, option_map, refl, ap, ◌∙◌}
use Rattle.std.specs.List.{list_all}
use Rattle.std.specs.Option.{option_to_list}
use Rattle.sqlite.specs.declared.error.Error.{Error}
use Rattle.sqlite.specs.declared.error.Error.TheVariants.{QueryReturnedNoRows}
use Rattle.sqlite.specs.Order.{Row}
use Rattle.sqlite.specs.Query.{IsSureAnswer}
use Rattle.sqlite.specs.Program.{overlay}
use Rattle.sqlite.specs.Term.{holds}
use Rattle.sqlite.specs.State.{State, QueriesRow}
use Rattle.droid_store.specs.KeyedRows.{numbered_from}
use Rattle.droid_store.specs.Transactions.{Settled}
use Rattle.droid_store.proofs.Comparisons.{equal_numbers, all_of_one}
use Rattle.droid_store.proofs.LookUps.{looks_up}
use Rattle.droid_store.proofs.Numbered.{few_with_key, find_numbered, find_no_zero}
use Rattle.droid_store.proofs.Rising.{rising_numbered}
use Rattle.droid_store.proofs.Selects.{selects_first}
use Rattle.droid_store.proofs.SeenRows.{none_shown}
use Rattle.droid_store.specs.declared.rows.ProfileRow.{ProfileRow}
use Rattle.droid_store.specs.declared.statements.TheConstants.{FIND_PROFILE}
use Rattle.droid_store.specs.Encoded.{number, profile_row}
use Rattle.droid_store.specs.Kept.{Holds}
use Rattle.droid_store.specs.Rows.{Rows, profile_at}
use Rattle.droid_store.specs.Tables.{store_schema}
use Rattle.droid_store.proofs.Meanings.{by_id, find_profile_query, find_profile_is, find_profile_plain}
pub use Rattle.droid_store.specs.Shown.{shown_profile}

abbrev pub has_number : ℕ → ℕ × ProfileRow → Bool
has_number profile x = x.0 == profile

pub passes_id : (profile : ℕ) (more : Row) (x : ℕ × ProfileRow) → list_all (holds ((number profile ∷ more) ∷ profile_row x ∷ [])) by_id ≡ has_number profile x
passes_id profile more x = rw (equal_numbers x.0 profile) (all_of_one (x.0 == profile))

shown_at : (o : Option (ℕ × ProfileRow)) → map (λ x. shown_profile x.1) (option_to_list o) ≡ option_to_list (option_map shown_profile (option_map (λ x. x.1) o))
shown_at None = refl
shown_at (Some x) = refl

found_at : (profile : ℕ) (rows : Rows) → option_map (λ x. x.1) (find (has_number profile) (numbered_from 1 rows.profiles)) ≡ profile_at profile rows
found_at zero rows = ap (option_map (λ (x : ℕ × ProfileRow). x.1)) (find_no_zero rows.profiles)
found_at (suc place) rows = find_numbered place rows.profiles

pub finds_profile : (old new : State) (profile : ℕ) (rows : Rows) (r : Result Row Error) → IsTrue new.is_open → Settled old (Holds rows) → QueriesRow FIND_PROFILE.now (number profile ∷ []) old new r
    → Settled new (Holds rows) × IfOk r (λ row. Some row ≡ option_map shown_profile (profile_at profile rows)) × (r ≡ Err QueryReturnedNoRows → profile_at profile rows ≡ None)
finds_profile old new profile rows r live has ran =
    let params = number profile ∷ [] in
    let xs = numbered_from 1 rows.profiles in
    let answer : (out : List Row) → IsSureAnswer find_profile_query (overlay old.now.trees []) params out → out ≡ option_to_list (option_map shown_profile (profile_at profile rows)) = λ out sure.
    selects_first profile_row (has_number profile) (λ x. shown_profile x.1) 0 by_id _ [] params (passes_id profile []) (λ x. refl) old.now.trees xs out has.holds.profiles (few_with_key (λ x. x.0) profile xs (rising_numbered 1 rows.profiles)) sure
    ∙ shown_at (find (has_number profile) xs) ∙ ap (λ o. option_to_list (option_map shown_profile o)) (found_at profile rows) in
    let it = looks_up FIND_PROFILE.now params old new (Holds rows) store_schema find_profile_query _ (option_map shown_profile (profile_at profile rows)) live has has.holds.schema find_profile_is.0 find_profile_plain find_profile_is.1 answer r ran in
    (it.0, it.1, λ none. none_shown shown_profile (profile_at profile rows) (it.2 none))
