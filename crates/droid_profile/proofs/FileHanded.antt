-- What is handed out of a file that was read to its end.
use Rattle.std.proofs.Common.{◌≡◌, inl, inr, ℕ, ◌<◌, true, List, [], ◌∷◌, length, slice_get, Some, IsTrue, refl, sym, subst}
use Rattle.std.specs.List.{AllByRecursion}
use Rattle.droid_core_spec.specs.Conditions.{is_moment}
use Rattle.droid_frame.specs.declared.record.Record.{Record}
use Rattle.droid_pronom.specs.Registry.{Contents}
use Rattle.droid_tree.specs.Heard.{Heard}
use Rattle.droid_profile.specs.Calls.{Call}
use Rattle.droid_profile.specs.EarlyEnds.{Took, Failed}
use Rattle.droid_profile.specs.Kids.{found_of, heard_of_file}
use Rattle.droid_profile.specs.Readings.{Reading, Ending, AtEnd, TooShort, TooLong, NoneCame, OtherFile, NotYet, bytes_of, is_whole}
use Rattle.droid_profile.specs.declared.fault.ProfileFault.{ProfileFault}
use Rattle.droid_profile.specs.declared.fault.ProfileFault.TheVariants as faults
use Rattle.droid_profile.specs.declared.options.Options.{Options}
use Rattle.droid_profile.specs.declared.recipient.RecipientFault.{RecipientFault}
use Rattle.droid_profile.specs.BatchFits.{whole_record}
use Rattle.droid_profile.specs.FilesRead.{IsSettled, Settles}
use Rattle.droid_profile.specs.declared.lanes.file_row.FileRow.{FileRow}
use Rattle.droid_profile.specs.declared.lanes.file_row.FileState.{FileState}
use Rattle.droid_profile.specs.declared.lanes.file_row.FileState.TheVariants.{Waits, InLane, Whole, Dropped}
use Rattle.droid_profile.proofs.Places.{item_at}
use Rattle.droid_profile.specs.RowsTaken.{HasMoment, records_by}
use Rattle.droid_profile.specs.HandedOut.{HandsFront}
use Rattle.droid_profile.proofs.ChosenReadings.{all_at, all_from_places, within_list}

-- nothing was handed out, since memory ran out
pub front_of_memory : {W R : Type 0} (hears : W → Heard → W → Type 0) (takes : R → Record → R → Type 0) (fails : R → Record → RecipientFault → R → Type 0) (entries : List Heard) (records : List Record) (watcher : W) (recipient : R)
    → HandsFront hears takes fails entries records faults.Memory watcher watcher recipient recipient
front_of_memory hears takes fails entries records watcher recipient = record {
  heard = [];
  are_first = record { rest = entries; are = refl };
  informed = refl;
  given = [];
  taken = Took (record { rest = records; are = refl }) refl (λ why is. absurd cc);
  reported = refl;
  explained = inl refl;
}

-- the recipient did not take the first record
pub front_of_recipient : {W R : Type 0} (hears : W → Heard → W → Type 0) (takes : R → Record → R → Type 0) (fails : R → Record → RecipientFault → R → Type 0) (entries : List Heard) (shown : Record) (more : List Record) (why : RecipientFault) (fault : ProfileFault) (watcher : W) (recipient recipient_after : R)
    → fault ≡ faults.Recipient why → fails recipient shown why recipient_after → HandsFront hears takes fails entries (shown ∷ more) fault watcher watcher recipient recipient_after
front_of_recipient hears takes fails entries shown more why fault watcher recipient recipient_after is failed = record {
  heard = [];
  are_first = record { rest = entries; are = refl };
  informed = refl;
  given = [];
  taken = Failed shown recipient why (record { rest = more; are = refl }) refl failed is;
  reported = refl;
  explained = inr (why, is);
}

module _ {W R : Type 0} (hears : W → Heard → W → Type 0) (takes : R → Record → R → Type 0) (fails : R → Record → RecipientFault → R → Type 0) (registry : Contents) (options : Options) (was : FileRow) (reading : Reading) where
  abbrev entries_of : Ending → List Heard
  entries_of ending = heard_of_file registry options was.record.path was.entry reading ending

  abbrev given_of : Ending → List Record
  given_of ending = records_by registry options was reading ending

  -- the record of the file that was read whole
  abbrev whole : Record
  whole = whole_record options was.record (found_of registry options was.entry (bytes_of reading)) (bytes_of reading)

  pub front_whole : (ending : Ending) (shown : Record) (why : RecipientFault) (fault : ProfileFault) (watcher : W) (recipient recipient_after : R) → is_whole ending ≡ true → shown ≡ whole → fault ≡ faults.Recipient why → fails recipient shown why recipient_after
      → HandsFront hears takes fails (entries_of ending) (given_of ending) fault watcher watcher recipient recipient_after
  front_whole (AtEnd wanted bytes) shown why fault watcher recipient recipient_after is same faulty failed =
      front_of_recipient hears takes fails (entries_of (AtEnd wanted bytes)) whole [] why fault watcher recipient recipient_after faulty (subst (λ (r : Record). fails recipient r why recipient_after) same failed)
  front_whole (TooShort wanted bytes) shown why fault watcher recipient recipient_after is same faulty failed = absurd cc
  front_whole (TooLong wanted bytes) shown why fault watcher recipient recipient_after is same faulty failed = absurd cc
  front_whole (NoneCame wanted) shown why fault watcher recipient recipient_after is same faulty failed = absurd cc
  front_whole (OtherFile wanted) shown why fault watcher recipient recipient_after is same faulty failed = absurd cc
  front_whole NotYet shown why fault watcher recipient recipient_after is same faulty failed = absurd cc

-- ---- the files keep their moments

moment_kept : (registry : Contents) (options : Options) (was row : FileRow) (reading : Reading) (state : FileState) → IsSettled registry options was row reading state → HasMoment was → HasMoment row
moment_kept registry options was row reading Waits settled has = absurd settled
moment_kept registry options was row reading (InLane j) settled has = absurd settled
moment_kept registry options was row reading Whole settled has = subst (λ (r : Record). IsTrue (is_moment r.modified)) (sym settled.1) has
moment_kept registry options was row reading (Dropped why) settled has = subst (λ (r : Record). IsTrue (is_moment r.modified)) (sym settled.1) has

pub moments_kept : (registry : Contents) (options : Options) (first files : List FileRow) (calls : List Call) → length files ≡ length first
    → ((place : ℕ) (was row : FileRow) → slice_get first place ≡ Some was → slice_get files place ≡ Some row → Settles registry options calls was row) → AllByRecursion HasMoment first → AllByRecursion HasMoment files
moments_kept registry options first files calls counted settles have = all_from_places HasMoment files (λ place row there.
    let at = item_at first place (subst (λ (n : ℕ). place < n) counted (within_list files place row there)) in
    let its = settles place at.0 row at.1 there in
    moment_kept registry options at.0 row its.reading row.state its.state (all_at HasMoment first place at.0 have at.1))
