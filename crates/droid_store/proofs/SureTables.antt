-- A CREATE TABLE that no rule refuses fails only if memory runs out.
use Rattle.std.proofs.Common.{◌≡◌, ◌^◌, ◌<◌, inl, inr, ℕ, true, false, List, [], ◌∷◌, IsUtf8, Option, Some, None, Ok, Err, sym, ap, subst, ◌∙◌, arith}
use Rattle.std.specs.List.{AllByRecursion}
use Rattle.sqlite_catalog.specs.Calls.{RefusesTable, IsLongTable}
use Rattle.sqlite_catalog.specs.declared.error.Refusal.{Refusal}
use Rattle.sqlite_catalog.specs.declared.error.Refusal.TheVariants.{Invalid, NameTaken, BadName, TooBig, BadKey, BadText, Violates}
use Rattle.sqlite_rules.specs.Lists.{Has}
use Rattle.sqlite_schema.specs.declared.schema.Keys.TheVariants.{Enforced}
use Rattle.sqlite_schema.specs.Rules.{table_reals, index_reals}
use Rattle.sqlite.specs.Change.{created, is_used}
use Rattle.sqlite.specs.Command.TheVariants.{CreateTable}
use Rattle.sqlite.specs.Compile.{table_defined_by}
use Rattle.sqlite.specs.declared.error.Error.{Error}
use Rattle.sqlite.specs.Does.{Does, MakesTable, lacks_sequence}
use Rattle.sqlite.specs.Order.{Row}
use Rattle.sqlite.specs.Schema.{Schema}
use Rattle.sqlite.specs.Table.{Table}
use Rattle.sqlite.specs.Tree.{Trees}
use Rattle.droid_store.specs.NewTables.{IsNewTable}
use Rattle.droid_store.specs.MemoryFaults.{IsSure}

has_all : {X : Type 0} (P : X → Type 0) (xs : List X) (x : X) → AllByRecursion P xs → Has xs x → P x
has_all P [] x all there = absurd there
has_all P (y ∷ ys) x all (inl same) = subst P (sym same) all.0
has_all P (y ∷ ys) x all (inr later) = has_all P ys x all.1 later

module _ (schema : Schema) (text : List ℕ) (made : Table) (defined : table_defined_by text ≡ Ok made) (new : IsNewTable schema text made) where
  same_table : (table : Table) → table_defined_by text ≡ Ok table → made ≡ table
  same_table table is = let both : Ok made ≡ Ok table = sym defined ∙ is in cc

  never_refused : (why : Refusal) → ¬ RefusesTable schema text why
  never_refused (Invalid e) h = let both = sym defined ∙ h in cc
  never_refused NameTaken (table, is, inl used) = let bad = sym new.unused ∙ subst (λ (t : Table). is_used schema t.name ≡ true) (sym (same_table table is)) used in cc
  never_refused NameTaken (table, is, inr (index, there, used)) =
      let bad = sym (has_all (λ i. is_used schema i.name ≡ false) _ index new.indexes_unused (rw (sym (same_table table is)) at there)) ∙ used in cc
  never_refused BadName (table, is, inl bad) = bad (subst (λ (t : Table). IsUtf8 t.name) (same_table table is) new.name_utf8)
  never_refused BadName (table, is, inr (reserved, own)) = let bad = sym new.unreserved ∙ (rw (sym (same_table table is)) at reserved) in cc
  never_refused TooBig (table, is, inl many) = let few = new.few in let much = rw (sym (same_table table is)) at many in omega arith
  never_refused TooBig (table, is, inr (inl wide)) = let few = new.no_reals in let much = rw (sym (same_table table is)) at wide in omega arith
  never_refused TooBig (table, is, inr (inr (key, there, wide))) =
      let few = has_all (λ k. index_reals (table_reals made) k < 2 ^ 64) made.uniques key new.no_key_reals (rw (sym (same_table table is)) at there) in let much = rw (sym (same_table table is)) at wide in omega arith
  never_refused BadKey (table, is, bad) = let both = sym new.formed ∙ (rw (sym (same_table table is)) at bad) in cc
  never_refused BadText (table, is, bad) = let both = sym new.fit ∙ (rw (sym (same_table table is)) at bad) in cc
  never_refused (Violates rule) h = h

  never_long : ¬ IsLongTable text
  never_long (table, is, long) = let few = new.short in let much = rw (sym (same_table table is)) at long in omega arith

  never_made : (trees : Trees) (stop : Option Error) → ¬ MakesTable text (record { schema = schema; trees = trees }) (Err stop)
  never_made trees None h = never_long h
  never_made trees (Some e) (inl h) = h.0 new.utf8
  never_made trees (Some e) (inr (why, refused, reported)) = never_refused why refused

  pub create_sure : (params : Row) (trees : Trees) → lacks_sequence (created schema made) ≡ false
      → IsSure (Does None (record { keys = Enforced; in_doubt = false; may_wait = false }) params (record { schema = schema; trees = trees }) text None CreateTable)
  create_sure params trees none stop (inl (why, inl (first, stopped, same), again)) = absurd (never_made trees first stopped)
  create_sure params trees none stop (inl (why, inr (after, it, sequence), again)) =
      let is : after.schema ≡ created schema made = it.is ∙ ap (created schema) (sym (same_table it.table it.defined)) in
      let lacks : lacks_sequence after.schema ≡ false = ap lacks_sequence is ∙ none in
      absurd (let e = rw lacks at sequence in cc)
  create_sure params trees none stop (inr (after, it, last)) = absurd (let e = last in cc)
