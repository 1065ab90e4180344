-- How the files of a batch were read, as a function of their numbers.
use Rattle.std.proofs.Common.{◌≡◌, inl, inr, ℕ, zero, suc, ◌<◌, ◌==◌, if◌then◌else◌, true, List, [], ◌∷◌, ◌++◌, length, slice_get, slice_index_or, Some, Contains, append-nil, refl, sym, ap, subst, ◌∙◌, arith}
use Rattle.std.specs.List.{AllByRecursion}
use Rattle.std.proofs.lemmas.Bool.Decides.{eqb_tells}
use Rattle.droid_pronom.specs.Registry.{Contents}
use Rattle.droid_tree.specs.Observation.{Observation}
use Rattle.droid_tree.specs.declared.skip_reason.Skipped.{Skipped}
use Rattle.droid_profile.specs.Calls.{Call, folder_calls, reads_of}
use Rattle.droid_profile.specs.Readings.{Reading, Ending, AtEnd, TooShort, TooLong, NoneCame, OtherFile, NotYet, IsReading, has_ended, is_whole, reads_in, unread}
use Rattle.droid_profile.specs.declared.options.Options.{Options}
use Rattle.droid_profile.specs.BatchFits.{IsDropped}
use Rattle.droid_profile.specs.FileStates.{AreDistinct, numbers_in}
use Rattle.droid_profile.specs.FilesRead.{AreReads, IsSettled, ReadsSome, Settles}
use Rattle.droid_profile.specs.declared.lanes.file_row.FileRow.{FileRow}
use Rattle.droid_profile.specs.declared.lanes.file_row.FileState.{FileState}
use Rattle.droid_profile.specs.declared.lanes.file_row.FileState.TheVariants.{Waits, InLane, Whole, Dropped}
use Rattle.droid_profile.proofs.Places.{item_at, same_item}
use Rattle.droid_profile.specs.RowsTaken.{HaveEnded, MayBeRead, Readings, reads_of_files}
use Rattle.droid_profile.specs.HandedOut.{AreSettled, WasRead}

-- ---- what holds of each file

-- no list has an item at no place
pub none_there : {A : Type 0} (place : ℕ) (x : A) → slice_get [] place ≡ Some x → ⊥
none_there place x there = cc

pub all_from_places : {A : Type 0} (P : A → Type 0) (xs : List A) → ((place : ℕ) (x : A) → slice_get xs place ≡ Some x → P x) → AllByRecursion P xs
all_from_places P [] each = tt
all_from_places P (x ∷ xs) each = (each zero x refl, all_from_places P xs (λ place y there. each (suc place) y there))

pub all_at : {A : Type 0} (P : A → Type 0) (xs : List A) (place : ℕ) (x : A) → AllByRecursion P xs → slice_get xs place ≡ Some x → P x
all_at P [] place x all there = absurd (none_there place x there)
all_at P (y ∷ ys) zero x all there = subst P (same_item (Some y) y x refl there) all.0
all_at P (y ∷ ys) (suc place) x all there = all_at P ys place x all.1 there

pub within_list : {A : Type 0} (xs : List A) (place : ℕ) (x : A) → slice_get xs place ≡ Some x → place < length xs
within_list [] place x there = absurd (none_there place x there)
within_list (y ∷ ys) zero x there = omega arith
within_list (y ∷ ys) (suc place) x there = omega (arith, within_list ys place x there)

distinct_rest : (file : FileRow) (files : List FileRow) → AreDistinct (file ∷ files) → AreDistinct files
distinct_rest file files distinct = λ one other a b one_there other_there same. omega (arith, distinct (suc one) (suc other) a b one_there other_there same)

-- ---- one reading for each number

-- these readings are such as is wanted of the file at each place
pub record Chosen (P : ℕ → FileRow → Reading → Type 0) (files : List FileRow) : Type 0 where
  pub readings : Readings
  pub each : (place : ℕ) (was : FileRow) → slice_get files place ≡ Some was → P place was (readings was.record.id)

with_reading : ℕ → Reading → Readings → Readings
with_reading number its readings = λ (n : ℕ). if n == number then its else readings n

it_is : (number : ℕ) (its : Reading) (readings : Readings) → with_reading number its readings number ≡ its
unfolding with_reading
it_is number its readings = elim (eqb_tells number number) [
  | inl t ↦ rw t.0 refl
  | inr t ↦ absurd (t.1 refl)
]

the_rest_is : (number other : ℕ) (its : Reading) (readings : Readings) → (other ≡ number → ⊥) → with_reading number its readings other ≡ readings other
unfolding with_reading
the_rest_is number other its readings apart = elim (eqb_tells other number) [
  | inl t ↦ absurd (apart t.1)
  | inr t ↦ rw t.0 refl
]

each_more : (P : ℕ → FileRow → Reading → Type 0) (file : FileRow) (files : List FileRow) → AreDistinct (file ∷ files) → (first : Reading) → P zero file first → (readings : Readings)
    → ((place : ℕ) (was : FileRow) → slice_get files place ≡ Some was → P (suc place) was (readings was.record.id))
    → (place : ℕ) (was : FileRow) → slice_get (file ∷ files) place ≡ Some was → P place was (with_reading file.record.id first readings was.record.id)
each_more P file files distinct first its readings rest zero was there =
    subst (λ (w : FileRow). P zero w (with_reading file.record.id first readings w.record.id)) (same_item (Some file) file was refl there) (subst (P zero file) (sym (it_is file.record.id first readings)) its)
each_more P file files distinct first its readings rest (suc place) was there =
    let apart : was.record.id ≡ file.record.id → ⊥ = λ same. omega (arith, distinct (suc place) zero was file there refl same) in
    subst (P (suc place) was) (sym (the_rest_is file.record.id was.record.id first readings apart)) (rest place was there)

choose : (P : ℕ → FileRow → Reading → Type 0) (files : List FileRow) → AreDistinct files → ((place : ℕ) (was : FileRow) → slice_get files place ≡ Some was → (reading : Reading) × P place was reading) → Chosen P files
choose P [] distinct some = record { readings = λ (n : ℕ). unread; each = λ place was there. absurd (none_there place was there) }
choose P (file ∷ files) distinct some =
    let first : (reading : Reading) × P zero file reading = some zero file refl in
    let rest : Chosen (λ (place : ℕ). P (suc place)) files = choose (λ (place : ℕ). P (suc place)) files (distinct_rest file files distinct) (λ place was there. some (suc place) was there) in
    record { readings = with_reading file.record.id first.0 rest.readings; each = each_more P file files distinct first.0 first.1 rest.readings rest.each }

-- ---- the reads of each number

-- the file that has this number
with_number : (files : List FileRow) (k number : ℕ) → k < length (numbers_in files) → slice_index_or (numbers_in files) k number ≡ number → (was : FileRow) × (slice_get files k ≡ Some was) × (was.record.id ≡ number)
with_number [] k number within is = absurd (omega (arith, within))
with_number (file ∷ files) zero number within is = (file, refl, is)
with_number (file ∷ files) (suc k) number within is = with_number files k number (omega (arith, within)) is

no_reads : (number : ℕ) (readings : Readings) (files : List FileRow) → ¬ (Contains (numbers_in files) number) → reads_of_files number readings files ≡ []
no_reads number readings [] absent = refl
no_reads number readings (file ∷ files) absent = elim (eqb_tells file.record.id number) [
  | inl t ↦ absurd (absent (zero, omega arith, t.1))
  | inr t ↦ rw t.0 (no_reads number readings files (λ has. absent (suc has.0, omega (arith, has.1), has.2)))
]

reads_at : (number : ℕ) (readings : Readings) (files : List FileRow) → AreDistinct files → (reads : List Observation)
    → ((place : ℕ) (was : FileRow) → slice_get files place ≡ Some was → was.record.id ≡ number → reads ≡ reads_in was.record.path was.entry (readings was.record.id))
    → (¬ (Contains (numbers_in files) number) → reads ≡ []) → reads ≡ reads_of_files number readings files
reads_at number readings [] distinct reads each none = none (λ has. omega (arith, has.1))
reads_at number readings (file ∷ files) distinct reads each none = elim (eqb_tells file.record.id number) [
  | inl t ↦
      let absent : ¬ (Contains (numbers_in files) number) = λ has.
      let other = with_number files has.0 number has.1 has.2 in
      omega (arith, distinct zero (suc has.0) file other.0 refl other.1 (t.1 ∙ sym other.2)) in
      let its : List Observation = reads_in file.record.path file.entry (readings file.record.id) in
      rw t.0 (each zero file refl t.1 ∙ sym (ap (λ (l : List Observation). its ++ l) (no_reads number readings files absent) ∙ append-nil its))
  | inr t ↦
      rw t.0 (reads_at number readings files (distinct_rest file files distinct) reads (λ place was there same. each (suc place) was there same)
      (λ absent. none (λ has. in_rest absent t.1 has.0 has.1 has.2)))
]
  where
    in_rest : ¬ (Contains (numbers_in files) number) → ¬ (file.record.id ≡ number) → (k : ℕ) → k < length (numbers_in (file ∷ files)) → slice_index_or (numbers_in (file ∷ files)) k number ≡ number → ⊥
    in_rest absent apart zero within is = apart is
    in_rest absent apart (suc k) within is = absent (k, omega (arith, within), is)

-- the files were read like this, and by these calls
pub record ReadLike (readings : Readings) (files : List FileRow) (calls : List Call) : Type 0 where
  pub may : MayBeRead readings files
  pub reads : (number : ℕ) → reads_of number calls ≡ reads_of_files number readings files
  pub no_folders : folder_calls calls ≡ []

-- one file was read like this
record IsRead (calls : List Call) (was : FileRow) (reading : Reading) : Type 0 where
  pub is_reading : IsReading was.entry.len reading
  pub reads : reads_of was.record.id calls ≡ reads_in was.record.path was.entry reading

like : (readings : Readings) (files : List FileRow) (calls : List Call) → AreDistinct files → AreReads files calls → ((place : ℕ) (was : FileRow) → slice_get files place ≡ Some was → IsRead calls was (readings was.record.id)) → ReadLike readings files calls
like readings files calls distinct are each = record {
  may = all_from_places (λ (file : FileRow). IsReading file.entry.len (readings file.record.id)) files (λ place was there. (each place was there).is_reading);
  reads = λ number. reads_at number readings files distinct (reads_of number calls)
      (λ place was there same. subst (λ (n : ℕ). reads_of n calls ≡ reads_in was.record.path was.entry (readings was.record.id)) same (each place was there).reads)
      (are.others number);
  no_folders = are.no_folders;
}

-- ---- the first reads of each file

pub record BegunAs (files : List FileRow) (calls : List Call) : Type 0 where
  pub readings : Readings
  pub like : ReadLike readings files calls

pub begun_as : (files : List FileRow) (calls : List Call) → AreDistinct files → AreReads files calls → ((place : ℕ) (was : FileRow) → slice_get files place ≡ Some was → ReadsSome calls was) → BegunAs files calls
begun_as files calls distinct are some =
    let P : ℕ → FileRow → Reading → Type 0 = λ place was reading. IsRead calls was reading in
    let chosen : Chosen P files = choose P files distinct (λ place was there.
    let its = some place was there in
    (its.reading, record { is_reading = its.is_reading; reads = its.reads })) in
    record { readings = chosen.readings; like = like chosen.readings files calls distinct are chosen.each }

-- ---- each file read to its end

ended_if_whole : (ending : Ending) → is_whole ending ≡ true → has_ended ending ≡ true
ended_if_whole (AtEnd wanted bytes) is = refl
ended_if_whole (TooShort wanted bytes) is = refl
ended_if_whole (TooLong wanted bytes) is = refl
ended_if_whole (NoneCame wanted) is = refl
ended_if_whole (OtherFile wanted) is = refl
ended_if_whole NotYet is = absurd cc

ended_if_dropped : (ending : Ending) (why : Skipped) → IsDropped ending why → has_ended ending ≡ true
ended_if_dropped (AtEnd wanted bytes) why is = refl
ended_if_dropped (TooShort wanted bytes) why is = refl
ended_if_dropped (TooLong wanted bytes) why is = refl
ended_if_dropped (NoneCame wanted) why is = refl
ended_if_dropped (OtherFile wanted) why is = refl
ended_if_dropped NotYet why is = absurd is

ended_if_settled : (registry : Contents) (options : Options) (was row : FileRow) (reading : Reading) (state : FileState) → IsSettled registry options was row reading state → has_ended reading.ending ≡ true
ended_if_settled registry options was row reading Waits settled = absurd settled
ended_if_settled registry options was row reading (InLane j) settled = absurd settled
ended_if_settled registry options was row reading Whole settled = ended_if_whole reading.ending settled.0
ended_if_settled registry options was row reading (Dropped why) settled = ended_if_dropped reading.ending why settled.0

-- the files were read to their ends like this
pub record ReadAs (registry : Contents) (options : Options) (first files : List FileRow) (calls : List Call) : Type 0 where
  pub readings : Readings
  pub like : ReadLike readings first calls
  pub ended : HaveEnded readings first
  pub settled : AreSettled registry options readings first files

-- what is known of the file at one place
record SettledLike (registry : Contents) (options : Options) (files : List FileRow) (calls : List Call) (place : ℕ) (was : FileRow) (reading : Reading) : Type 0 where
  pub read : IsRead calls was reading
  pub row : FileRow
  pub there : slice_get files place ≡ Some row
  pub settled : IsSettled registry options was row reading row.state

one_settled : (registry : Contents) (options : Options) (first files : List FileRow) (calls : List Call) → length files ≡ length first
    → ((place : ℕ) (was row : FileRow) → slice_get first place ≡ Some was → slice_get files place ≡ Some row → Settles registry options calls was row)
    → (place : ℕ) (was : FileRow) → slice_get first place ≡ Some was → (reading : Reading) × SettledLike registry options files calls place was reading
one_settled registry options first files calls counted settles place was there =
    let at = item_at files place (subst (λ (n : ℕ). place < n) (sym counted) (within_list first place was there)) in
    let its = settles place was at.0 there at.1 in
    (its.reading, record { read = record { is_reading = its.is_reading; reads = its.reads }; row = at.0; there = at.1; settled = its.state })

each_settled : (registry : Contents) (options : Options) (first files : List FileRow) (calls : List Call) → length files ≡ length first → (chosen : Chosen (SettledLike registry options files calls) first)
    → (place : ℕ) (row : FileRow) → slice_get files place ≡ Some row → WasRead registry options chosen.readings first place row
each_settled registry options first files calls counted chosen place row there =
    let at = item_at first place (subst (λ (n : ℕ). place < n) counted (within_list files place row there)) in
    let its = chosen.each place at.0 at.1 in
    record {
      was = at.0;
      there = at.1;
      settled = subst (λ (r : FileRow). IsSettled registry options at.0 r (chosen.readings at.0.record.id) r.state) (same_item (slice_get files place) its.row row its.there there) its.settled;
    }

pub read_as : (registry : Contents) (options : Options) (first files : List FileRow) (calls : List Call) → AreDistinct first → AreReads first calls → length files ≡ length first
    → ((place : ℕ) (was row : FileRow) → slice_get first place ≡ Some was → slice_get files place ≡ Some row → Settles registry options calls was row) → ReadAs registry options first files calls
read_as registry options first files calls distinct are counted settles =
    let chosen : Chosen (SettledLike registry options files calls) first = choose (SettledLike registry options files calls) first distinct (one_settled registry options first files calls counted settles) in
    record {
      readings = chosen.readings;
      like = like chosen.readings first calls distinct are (λ place was there. (chosen.each place was there).read);
      ended = all_from_places (λ (file : FileRow). has_ended (chosen.readings file.record.id).ending ≡ true) first
          (λ place was there. let its = chosen.each place was there in ended_if_settled registry options was its.row (chosen.readings was.record.id) its.row.state its.settled);
      settled = record { each = each_settled registry options first files calls counted chosen };
    }
