-- What a recorder and a keeper have after a walk.
use Rattle.std.proofs.Common.{◌≡◌, ◌∙◌, Bool, true, List, [], ◌∷◌, ◌++◌, sym, ap, append-nil, append_assoc}
use Rattle.std.specs.List.{flat_map}
use Rattle.droid_frame.specs.declared.record.Record.{Record}
use Rattle.droid_lists.specs.declared.format_lists.file_formats.FileFormats.{FileFormats}
use Rattle.droid_frame.specs.declared.item.Item.{Item}
use Rattle.droid_tree.specs.Heard.{Heard}
use Rattle.droid_tree.specs.Observation.{GoesOver}
use Rattle.droid_terminal.specs.SkippedPaths.{Records}
use Rattle.droid_terminal.specs.SkippedTexts.{skipped_in}
use Rattle.droid_terminal.specs.declared.skipped.recorder.Recorder.{Recorder}
use Rattle.droid_terminal.specs.declared.skipped.skipped_entry.SkippedEntry.{SkippedEntry}
use Rattle.droid_cmd_verify.specs.CheckedTrees.{formats_of, items_of}
use Rattle.droid_cmd_verify.specs.KeptItems.{Keeps, formats_by, items_by}
use Rattle.droid_cmd_verify.specs.declared.item_keeper.ItemKeeper.{ItemKeeper}

-- a recorder that kept all has what was skipped, behind what it had
abbrev Recorded : {W : Type 0} → Recorder W → List Heard → Recorder W → Type 0
Recorded old heard new = (old.has_all ≡ true) × (new.skipped.items ≡ old.skipped.items ++ flat_map skipped_in heard)

pub all_recorded : {W : Type 0} (hears : W → Heard → W → Type 0) (heard : List Heard) (old new : Recorder W) → GoesOver (Records hears) old heard new → new.has_all ≡ true → Recorded old heard new
all_recorded {W} hears [] old new same all =
    (ap (λ (r : Recorder W). r.has_all) (sym same) ∙ all, ap (λ (r : Recorder W). r.skipped.items) same ∙ sym (append-nil old.skipped.items))
all_recorded {W} hears (item ∷ heard) old new goes all =
    let rest = all_recorded hears heard goes.0 new goes.2 all in
    let first = goes.1.kept rest.0 in
    (first.0, rest.1 ∙ (ap (λ (front : List SkippedEntry). front ++ flat_map skipped_in heard) first.1 ∙ append_assoc old.skipped.items (skipped_in item) (flat_map skipped_in heard)))

-- a keeper has the items of the records, behind what it had
abbrev Kept : ItemKeeper → List Record → ItemKeeper → Type 0
Kept old shown new = new.items.items ≡ old.items.items ++ items_of old.files_only shown

all_kept : (shown : List Record) (old new : ItemKeeper) → GoesOver Keeps old shown new → Kept old shown new
all_kept [] old new same = ap (λ (k : ItemKeeper). k.items.items) same ∙ sym (append-nil old.items.items)
all_kept (next ∷ shown) old new goes =
    let rest = all_kept shown goes.0 new goes.2 in
    rest
    ∙ (ap (λ (only : Bool). goes.0.items.items ++ items_of only shown) goes.1.0
    ∙ (ap (λ (front : List Item). front ++ items_of old.files_only shown) goes.1.1
    ∙ append_assoc old.items.items (items_by old.files_only next) (items_of old.files_only shown)))

-- one that had nothing
pub found_items : (files_only : Bool) (shown : List Record) (begun kept : ItemKeeper) → GoesOver Keeps begun shown kept → begun.files_only ≡ files_only → begun.items.items ≡ []
    → kept.items.items ≡ items_of files_only shown
found_items files_only shown begun kept goes files none =
    all_kept shown begun kept goes
    ∙ (ap (λ (front : List Item). front ++ items_of begun.files_only shown) none ∙ ap (λ (only : Bool). items_of only shown) files)

-- the same of formats
formats_kept : (shown : List Record) (old new : ItemKeeper) → GoesOver Keeps old shown new → new.formats.items ≡ old.formats.items ++ formats_of old.identify shown
formats_kept [] old new same = ap (λ (k : ItemKeeper). k.formats.items) same ∙ sym (append-nil old.formats.items)
formats_kept (next ∷ shown) old new goes =
    let rest = formats_kept shown goes.0 new goes.2 in
    rest
    ∙ (ap (λ (asked : Bool). goes.0.formats.items ++ formats_of asked shown) goes.1.2
    ∙ (ap (λ (front : List FileFormats). front ++ formats_of old.identify shown) goes.1.3
    ∙ append_assoc old.formats.items (formats_by old.identify next) (formats_of old.identify shown)))

pub found_formats : (identify : Bool) (shown : List Record) (begun kept : ItemKeeper) → GoesOver Keeps begun shown kept → begun.identify ≡ identify → begun.formats.items ≡ []
    → kept.formats.items ≡ formats_of identify shown
found_formats identify shown begun kept goes asked none =
    formats_kept shown begun kept goes
    ∙ (ap (λ (front : List FileFormats). front ++ formats_of begun.identify shown) none ∙ ap (λ (b : Bool). formats_of b shown) asked)
