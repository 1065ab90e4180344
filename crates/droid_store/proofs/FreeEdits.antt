-- Which rows an edit brings, that no row has their rowids, and that they are not too large.
use Rattle.std.proofs.Common.{◌≡◌, inl, inr, ℕ, ℤ, ◌+◌, ◌/◌, ◌<◌, ◌≤◌, ◌^◌, pos, negsuc, List, [], ◌∷◌, length, map, sum_by, nat_lt, Bool, true, false, refl, sym, ap, subst, ◌∙◌, arith}
use lib.Ieee.{is_nan}
use Rattle.std.proofs.lemmas.Bool.{cases_Bool, and_parts}
use Rattle.std.proofs.lemmas.List.Elements.{All-from_recursion}
use Rattle.std.specs.Float.{NotNan}
use Rattle.std.specs.List.{AllByRecursion, list_any, list_all}
use Rattle.sqlite_rules.specs.Edit.{with_rowid, left_by, edited, are_fresh, is_taken, have_rowids, IsOversized}
use Rattle.sqlite_rules.specs.Lists.{Has}
use Rattle.sqlite_schema.specs.declared.schema.Constraint.TheVariants.{Datatype, NotNull, Check, Unique}
use Rattle.sqlite_schema.specs.Rules.{passes, Keeps, references_fit}
use Rattle.sqlite_value.specs.Order.{number, bytes}
use Rattle.sqlite.specs.Cast.{cast_row}
use Rattle.sqlite.specs.declared.types.Value.{Value}
use Rattle.sqlite.specs.declared.types.Value.TheVariants.{Null, Int, Real, Text, Blob}
use Rattle.sqlite.specs.Edit.{Edit, edit_of}
use Rattle.sqlite.specs.Effect.{value_rows}
use Rattle.sqlite.specs.Order.{Row}
use Rattle.sqlite.specs.Rowids.TheVariants.{Chosen}
use Rattle.sqlite.specs.Schema.{Schema}
use Rattle.sqlite.specs.Table.{Table}
use Rattle.sqlite.specs.Term.{Term}
use Rattle.sqlite.specs.Tree.{Trees, with_tree, has_rowid, without_rowid}
use Rattle.sqlite.specs.View.{IsStorable}
use Rattle.droid_store.specs.KeyedRows.{AreBelow, next_key}
use Rattle.droid_store.specs.MemoryFaults.{IsFree}
use Rattle.droid_store.proofs.Inserts.{insert_edit}
use Rattle.droid_store.proofs.RowOrder.{lower, next_is}

-- ---- an edit whose new rows are known

module _ (schema : Schema) (db : Trees) (edit : Edit) (news : List Row) (is : edit.news ≡ news) where
  pub free_by : list_all (passes Datatype schema db edit.table) news ≡ true → list_all (passes NotNull schema db edit.table) news ≡ true → list_all (passes Check schema db edit.table) news ≡ true
      → are_fresh (left_by db edit) news ≡ true → have_rowids news ≡ true → references_fit schema edit.table (nat_lt 0 (length news)) (nat_lt 0 (length edit.gone)) ≡ true
      → Keeps Unique schema (with_tree db edit.table.tree (edited db edit)) → IsFree schema db edit
  free_by typed present checked fresh keyed referred unique =
      record { typed = rw is typed; present = rw is present; checked = rw is checked; fresh = rw is fresh; unique = unique; keyed = rw is keyed; referred = rw is referred }

pub small_one : (schema : Schema) (edit : Edit) (r : Row) → edit.news ≡ r ∷ [] → ¬ IsOversized schema edit.table r → (row : Row) → Has edit.news row → ¬ IsOversized schema edit.table row
small_one schema edit r is small row there = elim (subst (λ rows. Has rows row) is there) [
  | inl same ↦ subst (λ v. ¬ IsOversized schema edit.table v) (sym same) small
  | inr refuses ↦ absurd refuses
]

-- ---- an INSERT of one row

module _ {X : Type 0} (key : X → ℕ) (tail : X → Row) (db : Trees) (table : Table) (xs : List X) where
  abbrev enc : X → Row
  enc x = Int (pos (key x)) ∷ tail x

  pub brings : (params : Row) (terms : List Term) (width : ℕ) (values : Row) (x : X) → value_rows params width (length terms / width) terms ≡ values ∷ [] → cast_row table values ≡ enc x
      → (insert_edit db table params terms width).news ≡ enc x ∷ []
  brings params terms width values x one stored = ap (λ vs. (edit_of db table [] Chosen 0 vs).news) one ∙ ap (λ r. with_rowid Chosen (db table.tree) r ∷ []) stored

  pub brings_next : db table.tree ≡ map enc xs → (params : Row) (terms : List Term) (width : ℕ) (values : Row) (x : X) → value_rows params width (length terms / width) terms ≡ values ∷ []
      → cast_row table values ≡ Null ∷ tail x → key x ≡ next_key key xs → (insert_edit db table params terms width).news ≡ enc x ∷ []
  brings_next has params terms width values x one stored next =
      ap (λ vs. (edit_of db table [] Chosen 0 vs).news) one
      ∙ ap (λ r. with_rowid Chosen (db table.tree) r ∷ []) stored
      ∙ ap (λ rows. with_rowid Chosen rows (Null ∷ tail x) ∷ []) has
      ∙ ap (λ id. (Int id ∷ tail x) ∷ []) (next_is key tail xs ∙ ap pos (sym next))

  not_taken : (x : X) (ys : List X) → AreBelow key (key x) ys → is_taken (map enc ys) (enc x) ≡ false
  not_taken x [] below = refl
  not_taken x (y ∷ ys) below = rw (lower (key y) (key x) below.0) (not_taken x ys below.1)

  pub fresh_last : db table.tree ≡ map enc xs → (x : X) → AreBelow key (key x) xs → are_fresh (db table.tree) (enc x ∷ []) ≡ true
  fresh_last has x below = rw (has, not_taken x xs below) refl

-- ---- a row that is written again where it was

none_has : (id : ℤ) (rows : List Row) → list_any (has_rowid id) (without_rowid id rows) ≡ false
none_has id [] = refl
none_has id (r ∷ rows) = elim (cases_Bool (has_rowid id r)) [
  | inl is ↦ rw is (none_has id rows)
  | inr isnt ↦ rw (isnt, isnt) (none_has id rows)
]

pub fresh_again : (id : ℤ) (tail : Row) (rows : List Row) → are_fresh (without_rowid id rows) ((Int id ∷ tail) ∷ []) ≡ true
fresh_again id tail rows = let free : is_taken (without_rowid id rows) (Int id ∷ tail) ≡ false = none_has id rows in rw free refl

-- ---- a row that can be stored

abbrev pub is_exact : Value → Bool
is_exact Null = true
is_exact (Int n) = true
is_exact (Real x) = false
is_exact (Text t) = true
is_exact (Blob b) = true

exact_number : (v : Value) → is_exact v ≡ true → NotNan (number v)
unfolding is_nan
exact_number Null is = tt
exact_number (Int (pos n)) is = tt
exact_number (Int (negsuc n)) is = tt
exact_number (Real x) is = absurd cc
exact_number (Text t) is = tt
exact_number (Blob b) is = tt

exact_numbers : (row : Row) → list_all is_exact row ≡ true → AllByRecursion (λ v. NotNan (number v)) row
exact_numbers [] is = tt
exact_numbers (v ∷ row) is = let both = and_parts (is_exact v) (list_all is_exact row) is in (exact_number v both.0, exact_numbers row both.1)

-- no value is a float, and the row has at most a billion bytes
pub storable : (row : Row) → 0 < length row → length row ≤ 2001 → list_all is_exact row ≡ true → sum_by (λ v. 18 + length (bytes v)) row ≤ 10 ^ 9 → IsStorable 0 row
storable row some few exact short = record { typed = λ c h. absurd (grind arith); columns = (some, few); numbers = All-from_recursion (λ v. NotNan (number v)) row (exact_numbers row exact); short = short }
