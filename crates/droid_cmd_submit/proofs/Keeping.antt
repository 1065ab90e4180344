-- A recorder keeps exactly what was skipped, in order.
use Rattle.std.proofs.Common.{◌≡◌, ◌∙◌, true, List, [], ◌∷◌, ◌++◌, ap, sym, append-nil, append_assoc}
use Rattle.std.specs.List.{flat_map}
use Rattle.droid_tree.specs.Heard.{Heard}
use Rattle.droid_tree.specs.Observation.{GoesOver, Observation}
use Rattle.droid_upload.specs.Calls.{Call}
use Rattle.droid_upload.specs.Deeds.{Called, Deed, Does, Informed, Observed}
use Rattle.droid_upload.specs.declared.upload.Upload.{Upload}
use Rattle.droid_terminal.specs.SkippedPaths.{Records}
use Rattle.droid_cmd_submit.specs.SkippedEntries.{skipped_by}
use Rattle.droid_terminal.specs.declared.skipped.recorder.Recorder.{Recorder}

-- an entry more or none
pub nothing_more : {X : Type 0} (items : List X) → items ≡ items ++ []
nothing_more items = sym (append-nil items)

module _ {T C W : Type 0} (observes : T → Observation → T → Type 0) (calls : C → Call → C → Type 0) (hears : W → Heard → W → Type 0) where
  abbrev Keeps : Upload T C (Recorder W) → List Deed → Upload T C (Recorder W) → Type 0
  Keeps old deeds new = (old.watcher.has_all ≡ true) × (new.watcher.skipped.items ≡ old.watcher.skipped.items ++ flat_map skipped_by deeds)

  same_watcher : (old new : Upload T C (Recorder W)) → new.watcher ≡ old.watcher → new.watcher.has_all ≡ true → (old.watcher.has_all ≡ true) × (new.watcher.skipped.items ≡ old.watcher.skipped.items ++ [])
  same_watcher old new same all = (ap (λ (w : Recorder W). w.has_all) (sym same) ∙ all, ap (λ (w : Recorder W). w.skipped.items) same ∙ nothing_more old.watcher.skipped.items)

  one_deed : (deed : Deed) (old new : Upload T C (Recorder W)) → Does observes calls (Records hears) old deed new → new.watcher.has_all ≡ true
      → (old.watcher.has_all ≡ true) × (new.watcher.skipped.items ≡ old.watcher.skipped.items ++ skipped_by deed)
  one_deed (Observed observation) old new step all = same_watcher old new (ap (λ (u : Upload T C (Recorder W)). u.watcher) step.1) all
  one_deed (Called call) old new step all = same_watcher old new (ap (λ (u : Upload T C (Recorder W)). u.watcher) step.1) all
  one_deed (Informed heard) old new step all = step.0.kept all

  pub all_kept : (deeds : List Deed) (old new : Upload T C (Recorder W)) → GoesOver (Does observes calls (Records hears)) old deeds new → new.watcher.has_all ≡ true → Keeps old deeds new
  all_kept [] old new goes all = same_watcher old new (ap (λ (u : Upload T C (Recorder W)). u.watcher) goes) all
  all_kept (deed ∷ deeds) old new goes all =
      let rest = all_kept deeds goes.0 new goes.2 all in
      let first = one_deed deed old goes.0 goes.1 rest.0 in
      (first.0, rest.1 ∙ (ap (λ (front : List _). front ++ flat_map skipped_by deeds) first.1 ∙ append_assoc old.watcher.skipped.items (skipped_by deed) (flat_map skipped_by deeds)))
