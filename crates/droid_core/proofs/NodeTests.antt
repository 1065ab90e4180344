-- Whether a row is that of one node.
use Rattle.std.proofs.Common.{◌≡◌, ℕ, ◌==◌, ◌&&◌, Bool, true, false, refl}
use Rattle.std.proofs.lemmas.Bool.{eq-eqb, ne_eqb}
use Rattle.droid_store.specs.Rows as rows
use Rattle.droid_store.specs.Rows.{is_node}

and_false : (test : Bool) → (test && false) ≡ false
and_false true = refl
and_false false = refl

pub not_of_profile : (number id : ℕ) (row : rows.Node) → (row.profile ≡ number → ⊥) → is_node number id row ≡ false
not_of_profile number id row apart = rw (ne_eqb row.profile number apart) refl

pub not_of_number : (number id : ℕ) (row : rows.Node) → (row.id ≡ id → ⊥) → is_node number id row ≡ false
not_of_number number id row apart = rw (ne_eqb row.id id apart) (and_false (row.profile == number))

pub this_node : (number id : ℕ) (row : rows.Node) → row.profile ≡ number → row.id ≡ id → is_node number id row ≡ true
this_node number id row of_profile of_number = rw (eq-eqb row.profile number of_profile, eq-eqb row.id id of_number) refl
