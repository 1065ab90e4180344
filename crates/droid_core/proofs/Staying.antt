-- A service that stays in its world, and what a refusal or running out of memory leaves.
use Rattle.std.proofs.Common.{◌≡◌, Bool, true, false, refl, ap}
use Rattle.std.specs.Prelude.{MatchBool, ⊤}
use Rattle.droid_frame.specs.declared.refusal.Refusal.{Refusal}
use Rattle.droid_frame.specs.declared.reply.Reply.TheVariants.{Refused}
use Rattle.droid_core_spec.specs.Histories.{verdict_reply}
use Rattle.droid_core_spec.specs.Judging.{Verdict, Refuses}
use Rattle.droid_core_spec.specs.Setting.{Setting}
use Rattle.droid_core_spec.specs.MemoryFaults.{is_out_of_memory_of}
use Rattle.droid_core_spec.specs.World.{World}
use Rattle.droid_store.specs.Rows.{Rows}
use Rattle.droid_core.specs.declared.holdings.Holdings.{Holdings}
use Rattle.droid_core.specs.declared.stamps.Stamp.{Stamp}
use Rattle.droid_core.specs.Changes.{Stays, Leaves, Comes}
use Rattle.droid_core.specs.HoldingsStanding.{IsSettingOf, IsIn}

-- ---- nothing changed

pub still_of : (setting : Setting) (old new : Holdings) → new.limits ≡ old.limits → new.registry ≡ old.registry → IsSettingOf setting old → IsSettingOf setting new
still_of setting old new limits registry is = record { limits = rw limits is.limits; allowed = is.allowed; registry = rw registry is.registry }

pub stays : (setting : Setting) (world : World) (old new : Holdings) → new.limits ≡ old.limits → new.registry ≡ old.registry → new.store ≡ old.store → new.files ≡ old.files → IsIn setting world old → Stays setting world old new
stays setting world old new limits registry store files is = record {
  world_is = record {
    is_setting = still_of setting old new limits registry is.is_setting;
    rows = rw store is.rows;
    sound = is.sound;
    files = rw files is.files;
    room = rw files is.room;
  };
  replies = ap (λ (rows : Rows). rows.replies) store;
}

-- rows that were only read
pub read_only : (setting : Setting) (world : World) (service : Holdings) (rows : Rows) → rows ≡ service.store → IsIn setting world service → Stays setting world service (record service { store = rows })
read_only setting world service rows same is_in = rw same (record { world_is = is_in; replies = refl })

-- ---- a refusal

-- memory ran out, or what follows from the refusal
pub if_refused : (b : Bool) {P Q : Type 0} → (P → Q) → MatchBool b ⊤ P → MatchBool b ⊤ Q
if_refused true f p = p
if_refused false f p = f p

-- what holds of any refusal
pub of_any : (b : Bool) {P : Type 0} → P → MatchBool b ⊤ P
of_any true p = tt
of_any false p = p

refused_or_out_of_memory : (b : Bool) (setting : Setting) (world : World) (old new : Holdings) (stamp : Stamp) (verdict : Verdict) (refusal : Refusal) → MatchBool b ⊤ (verdict ≡ Refuses refusal) → Stays setting world old new
    → MatchBool b (Stays setting world old new) ((Refused refusal ≡ verdict_reply verdict) × Leaves setting world old new stamp verdict)
refused_or_out_of_memory true setting world old new stamp verdict refusal is same = same
refused_or_out_of_memory false setting world old new stamp verdict refusal is same = rw is (refl, same)

-- the refusal is the verdict's, or memory ran out
pub comes_refused : (setting : Setting) (world : World) (old new : Holdings) (stamp : Stamp) (verdict : Verdict) (refusal : Refusal) → MatchBool (is_out_of_memory_of refusal) ⊤ (verdict ≡ Refuses refusal) → Stays setting world old new
    → Comes setting world old new stamp verdict (Refused refusal)
comes_refused setting world old new stamp verdict refusal is same = refused_or_out_of_memory (is_out_of_memory_of refusal) setting world old new stamp verdict refusal is same
