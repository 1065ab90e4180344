-- What an upload does, in order: what the tree returned, what was asked of the service, what the watcher learned (this
-- project's own).
use Rattle.std.specs.Prelude.{◌≡◌}
use Rattle.droid_tree.specs.Heard.{Heard}
use Rattle.droid_tree.specs.Observation.{Observation}
use Rattle.droid_upload.specs.Calls.{Call}
use Rattle.droid_upload.specs.declared.upload.Upload.{Upload}

-- one step of a submission, at its tree, its client or its watcher
pub data Deed : Type 0 where
  -- the tree returned this
  Observed : (observation : Observation) → Deed
  -- the client was called
  Called : (call : Call) → Deed
  -- the watcher learned this
  Informed : (heard : Heard) → Deed

-- A deed changes its own part of an upload, and nothing else. A run is
-- `GoesOver (Does observes calls hears) old deeds new`.
abbrev pub Does : {T C W : Type 0} → (T → Observation → T → Type 0) → (C → Call → C → Type 0) → (W → Heard → W → Type 0)
    → Upload T C W → Deed → Upload T C W → Type 0
Does observes calls hears old (Observed observation) new =
    observes old.tree observation new.tree × (new ≡ record old { tree = new.tree })
Does observes calls hears old (Called call) new =
    calls old.client call new.client × (new ≡ record old { client = new.client })
Does observes calls hears old (Informed heard) new =
    hears old.watcher heard new.watcher × (new ≡ record old { watcher = new.watcher })
