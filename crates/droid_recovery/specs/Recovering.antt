-- Which history holdings were recovered for (this project's own).
use Rattle.std.specs.Prelude.{◌≡◌, ℕ, true, false, List}
use Rattle.std.specs.List.{AllByRecursion}
use Rattle.droid_frame.specs.declared.request.Request.TheVariants.{Piece, Finish}
use Rattle.droid_recovery.specs.BareWorlds.{Bare, bare_world, needs_bytes}
use Rattle.droid_core_spec.specs.Files.{Finding, finished_reply}
use Rattle.droid_core_spec.specs.Histories.{Entry, History, IsLegal, IsNext, world_of}
use Rattle.droid_core_spec.specs.Setting.{Setting}
use Rattle.droid_core.specs.Changes.{stamp_of}
use Rattle.droid_core.specs.Replies.{KeepsReplies}
use Rattle.droid_core.specs.HoldingsStanding.{IsIn}
use Rattle.droid_core.specs.declared.holdings.Holdings.{Holdings}
use Rattle.droid_core.specs.declared.stamps.Stamp.{Stamp}
use Rattle.droid_store.specs.Changes.{IsWord}

-- The holdings keep the replies of the history, and are in its world but for the bytes of bare files.
pub record Recovers (setting : Setting) (bare : Bare) (holdings : Holdings) (history : History) : Type 0 where
  pub legal : IsLegal setting history
  pub replies : KeepsReplies history holdings.store
  pub world : IsIn setting (bare_world bare (world_of setting history)) holdings

-- the entry may come next, and needs no bytes of a bare file
pub record IsWhole (setting : Setting) (bare : Bare) (history : History) (entry : Entry) (stamp : Stamp) : Type 0 where
  pub may : IsNext setting history entry
  pub needs_none : needs_bytes bare may.request ≡ false
  pub stamped : stamp ≡ stamp_of entry.frame

-- the entry may come next, and is a piece of a bare file
pub record IsBarePiece (setting : Setting) (bare : Bare) (history : History) (entry : Entry) (stamp : Stamp)
    : Type 0 where
  pub may : IsNext setting history entry
  pub profile : ℕ
  pub file : ℕ
  pub index : ℕ
  pub bytes : List ℕ
  pub asks : may.request ≡ Piece profile file index bytes
  pub is_bare : bare profile file ≡ true
  pub stamped : stamp ≡ stamp_of entry.frame

-- The entry may come next, and is the Finish of this bare file. No identifier of a format that was found has a space,
-- so the store can keep them.
pub record IsBareFinish (setting : Setting) (bare : Bare) (history : History) (entry : Entry) (stamp : Stamp)
    (profile file : ℕ) : Type 0 where
  pub may : IsNext setting history entry
  pub asks : may.request ≡ Finish profile file
  pub is_bare : bare profile file ≡ true
  pub words : (finding : Finding) → entry.reply ≡ finished_reply finding → AllByRecursion IsWord finding.puids
  pub stamped : stamp ≡ stamp_of entry.frame
