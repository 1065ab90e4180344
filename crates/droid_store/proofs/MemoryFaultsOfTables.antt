-- Creating a table fails only if memory runs out.
use Rattle.std.proofs.Common.{◌≡◌, ℕ, [], None, Ok, Err, Result, IfErr, refl, sym, subst, arith}
use Rattle.std.proofs.lemmas.Str.{IsUtf8-from_is_utf8}
use Rattle.std.specs.Str.{is_utf8, chars}
use lib.Ieee
use lib.Utf8.{encode}
use Rattle.sqlite_value.specs.Order.{value_cmp}
use Rattle.sqlite.specs.declared.error.Error.{Error}
use Rattle.sqlite.specs.Command.TheVariants.{CreateTable}
use Rattle.sqlite.specs.Does.{Does}
use Rattle.sqlite.specs.State.{State, mode_of, Executes}
use Rattle.sqlite_tied.specs.Compute.{everything}
use Rattle.sqlite_trees.specs.Sound.{fits_kind}
use Rattle.sqlite_schema.specs.Names.{same_name}
use Rattle.droid_store.specs.NewTables.{IsNewTable}
use Rattle.droid_store.specs.MemoryFaults.{IsOutOfMemory, InMemory, IsSure}
use Rattle.droid_store.proofs.SureTables.{create_sure}
use Rattle.droid_store.proofs.MemoryFaults.{executes_runs_out, create_is_edit}
use Rattle.droid_store.specs.declared.statements.TheConstants.{MAKE_PROFILES, MAKE_NODES, MAKE_REPLIES}
use Rattle.droid_store.specs.Tables.{profiles, nodes, replies, no_schema, first_schema, second_schema}
use Rattle.droid_store.proofs.Meanings.{profiles_is, profiles_plain, profiles_whole, nodes_is, nodes_plain, nodes_whole, replies_is, replies_plain, replies_whole}

new_profiles : IsNewTable no_schema MAKE_PROFILES.now profiles
unfolding everything same_name fits_kind Rattle.sqlite_trees.specs.Sound.same_name Rattle.sqlite_trees.specs.Sound.begins Rattle.sqlite_trees.specs.Sound.is_free_name is_utf8 chars encode value_cmp Ieee.lt Ieee.is_nan
new_profiles = record {
  utf8 = IsUtf8-from_is_utf8 MAKE_PROFILES.now refl;
  name_utf8 = IsUtf8-from_is_utf8 profiles.name refl;
  unused = refl;
  indexes_unused = tt;
  unreserved = refl;
  few = omega arith;
  no_reals = omega arith;
  no_key_reals = tt;
  formed = refl;
  fit = refl;
  short = omega arith;
}

new_nodes : IsNewTable first_schema MAKE_NODES.now nodes
unfolding everything same_name fits_kind Rattle.sqlite_trees.specs.Sound.same_name Rattle.sqlite_trees.specs.Sound.begins Rattle.sqlite_trees.specs.Sound.is_free_name is_utf8 chars encode value_cmp Ieee.lt Ieee.is_nan
new_nodes = record {
  utf8 = IsUtf8-from_is_utf8 MAKE_NODES.now refl;
  name_utf8 = IsUtf8-from_is_utf8 nodes.name refl;
  unused = refl;
  indexes_unused = (refl, (refl, tt));
  unreserved = refl;
  few = omega arith;
  no_reals = omega arith;
  no_key_reals = (omega arith, (omega arith, tt));
  formed = refl;
  fit = refl;
  short = omega arith;
}

new_replies : IsNewTable second_schema MAKE_REPLIES.now replies
unfolding everything same_name fits_kind Rattle.sqlite_trees.specs.Sound.same_name Rattle.sqlite_trees.specs.Sound.begins Rattle.sqlite_trees.specs.Sound.is_free_name is_utf8 chars encode value_cmp Ieee.lt Ieee.is_nan
new_replies = record {
  utf8 = IsUtf8-from_is_utf8 MAKE_REPLIES.now refl;
  name_utf8 = IsUtf8-from_is_utf8 replies.name refl;
  unused = refl;
  indexes_unused = (refl, tt);
  unreserved = refl;
  few = omega arith;
  no_reals = omega arith;
  no_key_reals = (omega arith, tt);
  formed = refl;
  fit = refl;
  short = omega arith;
}

pub profiles_runs_out : (old new : State) (r : Result ℕ Error) → InMemory old new → old.now.schema ≡ no_schema → Executes MAKE_PROFILES.now [] old new r → IfErr r IsOutOfMemory
profiles_runs_out old new (Ok count) mem has h = tt
profiles_runs_out old new (Err e) mem has h =
    executes_runs_out MAKE_PROFILES.now [] old new no_schema mem has profiles_plain profiles_whole CreateTable profiles_is.0 create_is_edit
    (subst (λ t. IsSure (Does None (mode_of old) [] (record { schema = no_schema; trees = old.now.trees }) t None CreateTable)) (sym profiles_is.1) (create_sure no_schema MAKE_PROFILES.now profiles profiles_is.2 new_profiles [] old.now.trees refl)) e h

pub nodes_runs_out : (old new : State) (r : Result ℕ Error) → InMemory old new → old.now.schema ≡ first_schema → Executes MAKE_NODES.now [] old new r → IfErr r IsOutOfMemory
nodes_runs_out old new (Ok count) mem has h = tt
nodes_runs_out old new (Err e) mem has h =
    executes_runs_out MAKE_NODES.now [] old new first_schema mem has nodes_plain nodes_whole CreateTable nodes_is.0 create_is_edit
    (subst (λ t. IsSure (Does None (mode_of old) [] (record { schema = first_schema; trees = old.now.trees }) t None CreateTable)) (sym nodes_is.1) (create_sure first_schema MAKE_NODES.now nodes nodes_is.2 new_nodes [] old.now.trees refl)) e h

pub replies_runs_out : (old new : State) (r : Result ℕ Error) → InMemory old new → old.now.schema ≡ second_schema → Executes MAKE_REPLIES.now [] old new r → IfErr r IsOutOfMemory
replies_runs_out old new (Ok count) mem has h = tt
replies_runs_out old new (Err e) mem has h =
    executes_runs_out MAKE_REPLIES.now [] old new second_schema mem has replies_plain replies_whole CreateTable replies_is.0 create_is_edit
    (subst (λ t. IsSure (Does None (mode_of old) [] (record { schema = second_schema; trees = old.now.trees }) t None CreateTable)) (sym replies_is.1) (create_sure second_schema MAKE_REPLIES.now replies replies_is.2 new_replies [] old.now.trees refl)) e h
