-- A lane whose file has ended holds that file's ends.
use Rattle.std.proofs.Common.{◌≡◌, ℕ, Bool, true, List, length, slice_get, Some, MatchBool, refl, sym, ap, subst, ◌∙◌}
use Rattle.droid_pronom.specs.Registry.{Contents}
use Rattle.droid_hash.specs.Ends.{Came}
use Rattle.droid_frame.specs.declared.record.Record.{Record}
use Rattle.droid_tree.specs.declared.folder_entry.FolderEntry.{FolderEntry}
use Rattle.droid_profile.specs.Calls.{Call}
use Rattle.droid_profile.specs.Readings.{NotYet, bytes_of, is_whole, joined}
use Rattle.droid_profile.specs.declared.options.Options.{Options}
use Rattle.droid_profile.specs.BatchFits.{BatchFits, StateFits}
use Rattle.droid_profile.specs.LaneEnds.{HasEnded, HasRead}
use Rattle.droid_profile.specs.declared.lanes.batch.Batch.{Batch}
use Rattle.droid_profile.specs.declared.lanes.file_lane.FileLane.{FileLane}
use Rattle.droid_profile.specs.declared.lanes.file_row.FileRow.{FileRow}
use Rattle.droid_profile.specs.declared.lanes.file_row.FileState.TheVariants.{InLane}
use Rattle.droid_profile.proofs.Places.{same_item}
use Rattle.droid_profile.proofs.ReadingSteps.{whole_length}

pub has_read : (registry : Contents) (options : Options) (first : List FileRow) (batch : Batch) (calls : List Call) → BatchFits registry options first batch calls → (j place : ℕ) (lane : FileLane) (row : FileRow)
    → slice_get batch.lanes.items j ≡ Some lane → slice_get batch.files.items place ≡ Some row → row.state ≡ InLane j → HasEnded lane → HasRead options lane row
has_read registry options first batch calls fits j place lane row lane_there row_there in_lane ended =
    let its = fits.rows place row row_there in
    let state : StateFits registry options batch place its.was row its.reading (InLane j) = subst (StateFits registry options batch place its.was row its.reading) in_lane its.state in
    let same : state.0.lane ≡ lane = same_item (slice_get batch.lanes.items j) state.0.lane lane state.0.there lane_there in
    let whole : is_whole its.reading.ending ≡ true =
    subst (λ (b : Bool). MatchBool b (is_whole its.reading.ending ≡ true) ((its.reading.ending ≡ NotYet) × (state.0.lane.from ≡ length (joined its.reading.pieces)))) (ap (λ (l : FileLane). l.at_end) same ∙ ended.at_end) state.0.ending in
    record {
      bytes = bytes_of its.reading;
      came = subst (λ (l : FileLane). Came l.ends (bytes_of its.reading)) same state.0.came;
      counted = whole_length its.reading its.was.entry.len its.reading.ending refl whole its.is_reading.ending ∙ sym (ap (λ (e : FolderEntry). e.len) its.entry);
      size = sym (ap (λ (l : FileLane). l.ends.size) same) ∙ (state.0.size ∙ sym (ap (λ (e : FolderEntry). e.len) its.entry));
      limit = fits.made.limits j lane lane_there;
      few = fits.made.few;
      named = ap (λ (r : Record). r.name) state.1 ∙ (fits.fresh.named place its.was its.there ∙ sym (ap (λ (e : FolderEntry). e.name) its.entry));
    }
