-- Why a call of a database in memory fails: only because memory runs out, if no rule can refuse its statement.
use Rattle.std.specs.Prelude.{◌≡◌, ◌⊎◌, ◌||◌, ℕ, true, false, List, length, Option, Some, None, Result, Ok, Err, IsTrue}
use Rattle.std.specs.List.{list_all}
use Rattle.sqlite.specs.declared.error.Error.{Error}
use Rattle.sqlite.specs.declared.error.Error.TheVariants.{SqliteFailure}
use Rattle.sqlite.specs.declared.error.ErrorCode.TheVariants.{OutOfMemory, NoRowid}
use Rattle.sqlite_resolve.specs.declared.compiled.Compiled.{Compiled}
use Rattle.sqlite_resolve.specs.declared.error.CompileError.{CompileError}
use Rattle.sqlite_schema.specs.declared.schema.Constraint.TheVariants.{Datatype, NotNull, Check, Unique}
use Rattle.sqlite_schema.specs.declared.schema.Keys.TheVariants.{Enforced}
use Rattle.sqlite_schema.specs.Rules.{passes, Keeps}
use Rattle.sqlite_rules.specs.Edit.{Edit, left_by, edited, are_fresh, have_rowids, is_referred}
use Rattle.sqlite.specs.Command.{Command}
use Rattle.sqlite.specs.Disk.{MoreFaults}
use Rattle.sqlite.specs.Effect.{is_query}
use Rattle.sqlite.specs.Rows.{Part}
use Rattle.sqlite.specs.Schema.{Schema}
use Rattle.sqlite.specs.State.{State, IsMisplaced, Escapes, is_pragma}
use Rattle.sqlite.specs.Tree.{Trees, with_tree}

-- memory ran out, or no number is left for a row: there are more numbers than any memory has room for rows
abbrev pub IsOutOfMemory : Error → Type 0
IsOutOfMemory e = (e ≡ SqliteFailure OutOfMemory) ⊎ (e ≡ SqliteFailure NoRowid)

-- the store is open, it has no disk, and a statement may take as many steps as it needs
pub record InMemory (old new : State) : Type 0 where
  pub live : IsTrue old.is_open
  pub sure : ¬ MoreFaults old.faults new.faults
  pub unlimited : old.step_limit ≡ None

-- the text is one statement, with this many parameters
abbrev pub IsWhole : List ℕ → ℕ → Result Compiled CompileError → Type 0
IsWhole sql given (Ok c) = (c.tail ≡ length sql) × (length c.names ≡ given)
IsWhole sql given (Err e) = ⊥

-- the command returns no rows, and neither begins nor ends a transaction or a savepoint
pub record IsEdit (command : Command) : Type 1 where
  pub silent : (is_query command || (is_pragma command || false)) ≡ false
  pub placed : (s : State) (e : Error) → ¬ IsMisplaced s command e
  pub stays : (s : State) → ¬ Escapes 0 s command

-- a part of a statement that stops only if no number is left for a row
abbrev pub IsSure : {A : Type 0} → Part A → Type 0
IsSure P = (stop : Option Error) → P (Err stop) → stop ≡ Some (SqliteFailure NoRowid)

-- no rule of the schema refuses the edit
pub record IsFree (schema : Schema) (db : Trees) (edit : Edit) : Type 0 where
  pub typed : list_all (passes Datatype schema db edit.table) edit.news ≡ true
  pub present : list_all (passes NotNull schema db edit.table) edit.news ≡ true
  pub checked : list_all (passes Check schema db edit.table) edit.news ≡ true
  pub fresh : are_fresh (left_by db edit) edit.news ≡ true
  pub unique : Keeps Unique schema (with_tree db edit.table.tree (edited db edit))
  pub keyed : have_rowids edit.news ≡ true
  pub referred : is_referred schema Enforced edit ≡ true
