-- What a CREATE TABLE does, whatever the table, where none counts its rowids.
use Rattle.std.proofs.Common.{◌≡◌, ℕ, List, [], false, None, Ok, sym, ap, subst, ◌∙◌, if◌then◌else◌}
use Rattle.sqlite.specs.Table.{Table}
use Rattle.sqlite.specs.Schema.{Schema}
use Rattle.sqlite.specs.Command.TheVariants.{CreateTable}
use Rattle.sqlite.specs.Compile.{table_defined_by}
use Rattle.sqlite.specs.Change.{created, next_tree, KeepsRows}
use Rattle.sqlite.specs.Does.{Tally, lacks_sequence}
use Rattle.sqlite.specs.Effect.{Database}
use Rattle.sqlite.specs.Listing.{understood}
use Rattle.sqlite.specs.State.{State, Writes, Executes, Shows}
use Rattle.sqlite.proofs.Callers.{IsPlain, command_of, statement_of, runs_as}
use Rattle.droid_store.proofs.Parts.{went, same_value}

module _ (schema : Schema) (made : Table) (text : List ℕ) (command : command_of (understood schema text) ≡ CreateTable) (whole : statement_of text (understood schema text) ≡ text)
    (defined : table_defined_by text ≡ Ok made) (plain : IsPlain (understood schema text)) (uncounted : lacks_sequence (created schema made) ≡ false) where
  pub creates : (old new : State) (count : ℕ) → old.now.schema ≡ schema → Executes text [] old new (Ok count)
      → (new.now.schema ≡ created schema made) × (new.now.trees (next_tree schema) ≡ []) × KeepsRows schema.tables old.now.trees new.now.trees
      × Shows old new new.now (if old.in_transaction then old.committed else new.now) old.in_transaction
  creates old new count has h =
      let w = subst (λ t. Writes old new None CreateTable t [] count) whole (runs_as text [] old new schema has CreateTable command plain count h) in
      let all = went w.changed in
      let first = went all.1 in
      let make = first.1 in
      let both : Ok make.table ≡ Ok made = sym make.defined ∙ defined in
      let same : make.table ≡ made = cc in
      let is : first.0.schema ≡ created schema made = make.is ∙ ap (λ s. created s make.table) has ∙ ap (created schema) same in
      let none : lacks_sequence first.0.schema ≡ false = ap lacks_sequence is ∙ uncounted in
      let now : new.now ≡ first.0 = ap (λ (p : Tally × Database). p.1) (same_value all.2) ∙ same_value (rw none at first.2) in (
        ap (λ (d : Database). d.schema) now ∙ is,
        ap (λ (d : Database). d.trees (next_tree schema)) now ∙ subst (λ s. first.0.trees (next_tree s) ≡ []) has make.empty,
        subst (λ (d : Database). KeepsRows schema.tables old.now.trees d.trees) (sym now) (subst (λ (s : Schema). KeepsRows s.tables old.now.trees first.0.trees) has make.others),
        w.shown,
      )
