-- What stands when the profile of a tree was written, or ended early.
use Rattle.std.proofs.Common.{◌≡◌, ℕ, Bool, true, false, List, Option, Ok, Err, ◌∙◌}
use Rattle.droid_frame.specs.Seen.{IsSound}
use Rattle.droid_frame.specs.declared.io.stream_fault.WriteFault.{WriteFault}
use Rattle.droid_frame.specs.declared.io.stream_record.Seen.{Seen}
use Rattle.droid_pronom.specs.Registry.{Contents}
use Rattle.droid_tree.specs.Heard.{Heard}
use Rattle.droid_tree.specs.Observation.{Observation}
use Rattle.droid_profile.specs.EarlyEnds.{EndsEarly}
use Rattle.droid_profile.specs.ProfileRecords.{records_of}
use Rattle.droid_profile.specs.Profiles.{ProfilesTree}
use Rattle.droid_profile.specs.declared.fault.ProfileFault.{ProfileFault}
use Rattle.droid_profile.specs.declared.fault.ProfileFault.TheVariants as walk_faults
use Rattle.droid_profile.specs.declared.options.Options.{Options}
use Rattle.droid_profile.specs.declared.recipient.RecipientFault.TheVariants as recipient_faults
use Rattle.droid_profile.specs.Taking.{EndsRest, Fails, TakesSoon, WritesRest, stopped_writer}
use Rattle.droid_profile.specs.WrittenTrees.{After, During, EndsWriting, Explains, IsOfWriter, ReportsCsv, ReportsList, WritesTree}
use Rattle.droid_profile.specs.declared.csv_fault.CsvFault.{CsvFault}
use Rattle.droid_profile.specs.declared.csv_fault.CsvFault.TheVariants as faults
use Rattle.droid_profile.specs.declared.csv_recipient.CsvRecipient.{CsvRecipient}
use Rattle.droid_profile.proofs.EarlyWritten.{csv_at_end, fronts_rest, fronts_walk}
use Rattle.droid_profile.proofs.Endings.{ends_listed, profiled_list}
use Rattle.droid_profile.proofs.Takings.{takes_all}
use Rattle.droid_profile.proofs.TreeWritten.{Begins, at_old, csv_lasts, list_lasts_on, writes_tree}

module _ {T W O M : Type 0} (observes : T → Observation → T → Type 0) (hears : W → Heard → W → Type 0) (contents : O → Option (List ℕ)) (seen : O → Seen) (room : O → Option ℕ) (list_contents : M → Option (List ℕ)) (list_seen : M → Seen) (list_room : M → Option ℕ) where
  -- it was written
  pub record EndsWell (options : Options) (whole : Bool) (tree tree_after : T) (watcher watcher_after : W) (old new : CsvRecipient O M) : Type 0 where
    pub written : WritesTree observes hears list_contents old.registry.now options whole tree tree_after watcher watcher_after (contents old.csv) (contents new.csv) old.manifest new.manifest
    pub csv_stopped : IsSound (seen old.csv) → ReportsCsv (seen old.csv) (seen new.csv) (room new.csv) (Ok whole)
    pub manifest_stopped : ReportsList list_seen list_room old.manifest new.manifest (Ok whole)
    pub registry : new.registry.now ≡ old.registry.now

  pub ends_well : (options : Options) (whole : Bool) (tree tree_after : T) (watcher watcher_after : W) (old start middle new : CsvRecipient O M) → Begins options old start
      → ProfilesTree observes hears (TakesSoon contents seen list_contents list_seen) start.registry.now options whole tree tree_after watcher watcher_after start middle
      → WritesRest contents seen list_contents list_seen middle new
      → EndsWell options whole tree tree_after watcher watcher_after old new
  ends_well options whole tree tree_after watcher watcher_after old start middle new begins walk rest =
      let shown = records_of start.registry.now options walk.visits in
      let goes = takes_all contents seen list_contents list_seen start shown middle walk.taken in
      record {
        written = at_old (λ (registry : Contents) (csv : O) (manifest : Option M). WritesTree observes hears list_contents registry options whole tree tree_after watcher watcher_after (contents csv) (contents new.csv) manifest new.manifest) options old start begins
            (writes_tree contents seen list_contents list_seen observes hears options whole tree tree_after watcher watcher_after start middle new begins.begun walk rest);
        csv_stopped = at_old (λ (registry : Contents) (csv : O) (manifest : Option M). IsSound (seen csv) → ReportsCsv (seen csv) (seen new.csv) (room new.csv) (Ok whole)) options old start begins
            (csv_lasts contents seen list_contents list_seen shown start middle new goes rest);
        manifest_stopped = at_old (λ (registry : Contents) (csv : O) (manifest : Option M). ReportsList list_seen list_room manifest new.manifest (Ok whole)) options old start begins
            (list_lasts_on contents seen list_contents list_seen list_room (Ok whole) shown start middle new goes rest (λ before after left lasts. lasts));
        registry = rest.registry ∙ (goes.registry ∙ begins.registry);
      }

  -- it ended early
  pub record EndsBadly (options : Options) (fault : CsvFault) (tree tree_after : T) (watcher watcher_after : W) (old new : CsvRecipient O M) : Type 0 where
    pub ended : EndsWriting observes hears list_contents old.registry.now options fault tree tree_after watcher watcher_after (contents old.csv) (contents new.csv) old.manifest new.manifest
    pub csv_stopped : IsSound (seen old.csv) → ReportsCsv (seen old.csv) (seen new.csv) (room new.csv) (Err fault)
    pub manifest_stopped : ReportsList list_seen list_room old.manifest new.manifest (Err fault)
    pub registry : new.registry.now ≡ old.registry.now

  from_start : (options : Options) (fault : CsvFault) (tree tree_after : T) (watcher watcher_after : W) (old start new : CsvRecipient O M) → Begins options old start
      → EndsBadly options fault tree tree_after watcher watcher_after start new → EndsBadly options fault tree tree_after watcher watcher_after old new
  from_start options fault tree tree_after watcher watcher_after old start new begins ends = record {
    ended = at_old (λ (registry : Contents) (csv : O) (manifest : Option M). EndsWriting observes hears list_contents registry options fault tree tree_after watcher watcher_after (contents csv) (contents new.csv) manifest new.manifest) options old start begins ends.ended;
    csv_stopped = at_old (λ (registry : Contents) (csv : O) (manifest : Option M). IsSound (seen csv) → ReportsCsv (seen csv) (seen new.csv) (room new.csv) (Err fault)) options old start begins ends.csv_stopped;
    manifest_stopped = at_old (λ (registry : Contents) (csv : O) (manifest : Option M). ReportsList list_seen list_room manifest new.manifest (Err fault)) options old start begins ends.manifest_stopped;
    registry = ends.registry ∙ begins.registry;
  }

  -- after the walk
  pub ends_after : (options : Options) (whole : Bool) (fault : CsvFault) (tree tree_after : T) (watcher watcher_after : W) (old start middle new : CsvRecipient O M) → Begins options old start
      → ProfilesTree observes hears (TakesSoon contents seen list_contents list_seen) start.registry.now options whole tree tree_after watcher watcher_after start middle
      → IsOfWriter fault × EndsRest contents seen room list_contents list_seen list_room fault middle new
      → EndsBadly options fault tree tree_after watcher watcher_after old new
  ends_after options whole fault tree tree_after watcher watcher_after old start middle new begins walk stops =
      let shown = records_of start.registry.now options walk.visits in
      let goes = takes_all contents seen list_contents list_seen start shown middle walk.taken in
      let fronts = fronts_rest contents seen room list_contents list_seen list_room options shown start begins.begun fault middle new goes stops.1 in
      from_start options fault tree tree_after watcher watcher_after old start new begins (record {
        ended = After shown whole (profiled_list walk) stops.0 (csv_at_end contents seen room list_contents list_seen list_room options shown start begins.begun fault middle new goes stops.1) fronts.list;
        csv_stopped = fronts.csv_reports;
        manifest_stopped = fronts.list_reports;
        registry = fronts.registry;
      })

  -- during the walk
  pub ends_during : (options : Options) (why : ProfileFault) (fault : CsvFault) (tree tree_after : T) (watcher watcher_after : W) (old start middle new : CsvRecipient O M) → Begins options old start
      → EndsEarly observes hears (TakesSoon contents seen list_contents list_seen) (Fails contents seen room list_contents list_seen list_room) start.registry.now options why tree tree_after watcher watcher_after start middle
      → Explains why fault
      → ((stopped : WriteFault) → why ≡ walk_faults.Recipient (recipient_faults.Write stopped) → (new ≡ middle) × (fault ≡ stopped_writer middle.wrote_list))
      → (((stopped : WriteFault) → ¬ (why ≡ walk_faults.Recipient (recipient_faults.Write stopped))) → EndsRest contents seen room list_contents list_seen list_room fault middle new)
      → EndsBadly options fault tree tree_after watcher watcher_after old new
  ends_during options why fault tree tree_after watcher watcher_after old start middle new begins walk explains writer rest =
      let listed = ends_listed contents seen room list_contents list_seen list_room observes hears start.registry.now options why tree tree_after watcher watcher_after start middle walk in
      let fronts = fronts_walk contents seen room list_contents list_seen list_room options listed.shown start begins.begun why fault middle new listed.leaves (record { writer = writer; rest = rest }) in
      from_start options fault tree tree_after watcher watcher_after old start new begins (record {
        ended = During listed.shown why listed.ended explains fronts.csv fronts.list;
        csv_stopped = fronts.csv_reports;
        manifest_stopped = fronts.list_reports;
        registry = fronts.registry;
      })
