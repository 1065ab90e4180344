-- What a step takes at most, and that it leaves less to be taken.
use Rattle.std.proofs.Common.{◌≡◌, inl, inr, ℕ, suc, ◌+◌, ◌-◌, ◌*◌, ◌<◌, ◌≤◌, Bool, List, [], ◌∷◌, ◌++◌, length, length-append, map, filter, Option, Some, None, refl, sym, ap, ◌∙◌, ◌^◌, arith}
use Rattle.std.specs.List.{count_by}
use Rattle.std.proofs.lemmas.List.Elements.{filter-append}
use Rattle.std.proofs.lemmas.List.Sums.{count_by-le-length, length-filter}
use Rattle.std.proofs.Math.Nat.{mul-le-mul_right, suc-mul}
use Rattle.droid_tree.specs.Observation.{Observation}
use Rattle.droid_tree.specs.Paths.{below}
use Rattle.droid_tree.specs.declared.folder_entry.FolderEntry.{FolderEntry}
use Rattle.droid_tree.specs.declared.pending_folder.PendingFolder.{PendingFolder}
use Rattle.droid_profile.specs.declared.lanes.file_row.FileRow.{FileRow}
use Rattle.droid_profile.specs.RowsPushed.{repeated_row}
use Rattle.droid_profile.specs.RowsTaken.{is_counted_row}
use Rattle.droid_profile.specs.ScanFits.{AddsFew}
use Rattle.droid_profile.specs.StepsTaken.{ListsFolder, TakesFile, TakesFolder, left_of, many, scan_left, unlisted_rows}
use Rattle.droid_profile.specs.declared.walk.row.Row.{Row}
use Rattle.droid_profile.specs.declared.walk.scan.Scan.{Scan}

-- ---- how many items pass a test

pub counts_append : {A : Type 0} (test : A → Bool) (xs ys : List A) → count_by test (xs ++ ys) ≡ count_by test xs + count_by test ys
counts_append {A = A} test xs ys =
    omega (arith, length-filter test (xs ++ ys), length-filter test xs, length-filter test ys, ap (λ (l : List A). length l) (filter-append test xs ys), length-append (filter test xs) (filter test ys))

pub counts_one : {A : Type 0} (test : A → Bool) (x : A) → count_by test (x ∷ []) ≤ 1
counts_one test x = omega (arith, count_by-le-length test (x ∷ []))

-- ---- a bound of what is added

pub few_none : (scan : Scan) (rows : List Row) → AddsFew 0 scan scan rows rows
few_none scan rows = record { numbers = omega arith; rows = omega arith }

pub few_then : (some more most : ℕ) (scan now after : Scan) (first middle last : List Row) → some + more ≤ most → AddsFew some scan now first middle → AddsFew more now after middle last → AddsFew most scan after first last
few_then some more most scan now after first middle last within one two = record { numbers = omega (arith, within, one.numbers, two.numbers); rows = omega (arith, within, one.rows, two.rows) }

-- one row more, and at most one number
pub few_row : (scan scan_after : Scan) (before after : List Row) (row : Row) → after ≡ before ++ row ∷ [] → scan_after.number ≤ scan.number + 1 → AddsFew 1 scan scan_after before after
few_row scan scan_after before after row is few = record { numbers = few; rows = omega (arith, ap (count_by is_counted_row) is, counts_append is_counted_row before (row ∷ []), counts_one is_counted_row row) }

pub file_few : (entry : FolderEntry) (scan scan_after : Scan) (before after : List Row) {files files_after : List FileRow} → TakesFile entry scan scan_after before after files files_after → AddsFew 1 scan scan_after before after
file_few entry scan scan_after before after takes = few_row scan scan_after before after _ takes.rows_are (omega (arith, ap (λ (s : Scan). s.number) takes.scan_is))

none_counted : (path : List ℕ) (repeated : List FolderEntry) → count_by is_counted_row (map (repeated_row path) repeated) ≡ 0
none_counted path [] = refl
none_counted path (entry ∷ repeated) = none_counted path repeated

unlisted_few : (path : List ℕ) (observed : Option (List FolderEntry)) → count_by is_counted_row (unlisted_rows path observed) ≤ 1
unlisted_few path None = omega arith
unlisted_few path (Some observed) = omega arith

-- ---- less is left

-- fewer folders are left, whatever entries
fewer_folders : (m n entries before : ℕ) → m < n → entries < many → m * many + entries < n * many + before
fewer_folders m n entries before less few = omega (arith, suc-mul m many, mul-le-mul_right {m = suc m} {n = n} many less, few)

-- one folder less waits
listed_less : (waiting number entries : ℕ) → entries < many → left_of waiting number entries < left_of (suc waiting) number 0
listed_less waiting number entries few = fewer_folders (waiting + (4294967295 - number)) (suc waiting + (4294967295 - number)) entries 0 (omega arith) few

pub below_many : (n : ℕ) → n < 2 ^ 64 → n < many
unfolding many
below_many n less = less

-- no folder more is left
pub no_more : (waiting number waiting_after number_after entries : ℕ) → waiting_after + (4294967295 - number_after) ≤ waiting + (4294967295 - number) → left_of waiting_after number_after entries ≤ left_of waiting number entries
no_more waiting number waiting_after number_after entries less =
    omega (arith, mul-le-mul_right {m = waiting_after + (4294967295 - number_after)} {n = waiting + (4294967295 - number)} many less)

pub file_less : (entry : FolderEntry) (scan scan_after : Scan) (before after : List Row) {files files_after : List FileRow} → TakesFile entry scan scan_after before after files files_after → scan_left scan_after ≤ scan_left scan
file_less entry scan scan_after before after takes =
    omega (arith, ap scan_left takes.scan_is, no_more (length scan.waiting.items) scan.number (length scan.waiting.items) (scan.number + 1) (length scan.entries.items) (omega arith))

module _ {T : Type 0} (observes : T → Observation → T → Type 0) where
  pub folder_few : (entry : FolderEntry) (scan scan_after : Scan) (before after : List Row) (tree tree_after : T) → TakesFolder observes entry scan scan_after before after tree tree_after → AddsFew 1 scan scan_after before after
  folder_few entry scan scan_after before after tree tree_after (inl opens) = few_row scan scan_after before after _ opens.rows_are (omega (arith, ap (λ (s : Scan). s.number) opens.scan_is))
  folder_few entry scan scan_after before after tree tree_after (inr closes) = few_row scan scan_after before after _ closes.rows_are (omega (arith, ap (λ (s : Scan). s.number) closes.scan_is))

  pub folder_less : (entry : FolderEntry) (scan scan_after : Scan) (before after : List Row) (tree tree_after : T) → TakesFolder observes entry scan scan_after before after tree tree_after → scan_left scan_after ≤ scan_left scan
  folder_less entry scan scan_after before after tree tree_after (inl opens) =
      let waits : PendingFolder = record { path = below scan.folder.path entry.name; number = scan.number + 1 } in
      let one_more : length scan_after.waiting.items ≡ length scan.waiting.items + 1 = omega (arith, ap length opens.waits, length-append scan.waiting.items (waits ∷ [])) in
      omega (
        arith,
        ap scan_left opens.scan_is,
        no_more (length scan.waiting.items) scan.number (length scan_after.waiting.items) (scan.number + 1) (length scan.entries.items) (omega (arith, one_more, opens.few)),
      )
  folder_less entry scan scan_after before after tree tree_after (inr closes) = omega (arith, ap scan_left closes.scan_is)

  pub listing_less : (folder : PendingFolder) (scan popped listed : Scan) (before after : List Row) (tree tree_after : T) → scan.entries.items ≡ [] → scan.waiting.items ≡ folder ∷ popped.waiting.items → popped.number ≡ scan.number
      → ListsFolder observes folder popped listed before after tree tree_after → length listed.entries.items < many → scan_left listed < scan_left scan
  listing_less folder scan popped listed before after tree tree_after empty first same lists few =
      let now : scan_left listed ≡ left_of (length popped.waiting.items) popped.number (length listed.entries.items) = ap (λ (s : Scan). left_of (length s.waiting.items) s.number (length listed.entries.items)) lists.scan_is in
      let more : length scan.waiting.items ≡ suc (length popped.waiting.items) = omega (arith, ap length first) in
      let was : scan_left scan ≡ left_of (suc (length popped.waiting.items)) popped.number 0 =
      ap (λ (n : ℕ). left_of n scan.number (length scan.entries.items)) more
      ∙ (ap (λ (n : ℕ). left_of (suc (length popped.waiting.items)) n (length scan.entries.items)) (sym same)
      ∙ ap (λ (l : List FolderEntry). left_of (suc (length popped.waiting.items)) popped.number (length l)) empty) in
      omega (arith, now, was, listed_less (length popped.waiting.items) popped.number (length listed.entries.items) few)

  pub listing_few : (folder : PendingFolder) (scan scan_after after_all : Scan) (before after : List Row) (tree tree_after : T) → ListsFolder observes folder scan scan_after before after tree tree_after → after_all.number ≡ scan_after.number → AddsFew 1 scan after_all before after
  listing_few folder scan scan_after after_all before after tree tree_after lists same = record {
    numbers = omega (arith, same, ap (λ (s : Scan). s.number) lists.scan_is);
    rows = omega (
      arith,
      ap (count_by is_counted_row) lists.rows_are,
      counts_append is_counted_row before (unlisted_rows folder.path lists.observed ++ map (repeated_row folder.path) lists.repeated),
      counts_append is_counted_row (unlisted_rows folder.path lists.observed) (map (repeated_row folder.path) lists.repeated),
      unlisted_few folder.path lists.observed,
      none_counted folder.path lists.repeated,
    );
  }
