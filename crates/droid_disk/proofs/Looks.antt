-- Entries whose metadata are read one after the other.
use Rattle.std.proofs.Common.{◌≡◌, ◌∙◌, inl, inr, ℕ, List, [], ◌∷◌, ◌++◌, Option, Result, Ok, Err, IfOk, ap, ap₂, refl, subst, map}
use Rattle.std.proofs.lemmas.List.{map-append}
use Rattle.droid_tree.specs.Observation.{GoesOver}
use Rattle.droid_tree.specs.Paths.{below}
use Rattle.droid_tree.specs.declared.folder_entry.FolderEntry.{FolderEntry}
use Rattle.droid_tree.proofs.Runs.{over_more, over_one}
use Rattle.droid_disk.specs.Said.{Said, Names, Looked}
use Rattle.droid_disk.specs.FolderObservation.{ListsAll, LooksAt, SaysOfText, Shows}
use Rattle.droid_disk.specs.OpenFiles.{Unseen}
use Rattle.droid_disk.specs.declared.disk.FileMetadata.{FileMetadata}

-- as many names as entries, each the name of its entry
pub record Looking {D : Type 0} (says : D → Said → D → Type 0) (folder : List ℕ) (names : List (List ℕ)) (entries : List FolderEntry) (disk disk_now : D) : Type 0 where
  pub theirs : map (λ entry. entry.name) entries ≡ names
  pub looks : GoesOver (LooksAt says folder) disk entries disk_now

pub none_yet : {D : Type 0} (says : D → Said → D → Type 0) (folder : List ℕ) (disk : D) → Looking says folder [] [] disk disk
none_yet says folder disk = record { theirs = refl; looks = refl }

pub one_more : {D : Type 0} (says : D → Said → D → Type 0) (folder : List ℕ) (names : List (List ℕ)) (name : List ℕ) (entries entries_after : List FolderEntry) (entry : FolderEntry) (disk disk_now disk_after : D)
    → Looking says folder names entries disk disk_now → entry.name ≡ name → LooksAt says folder disk_now entry disk_after → entries_after ≡ entries ++ entry ∷ []
    → Looking says folder (names ++ name ∷ []) entries_after disk disk_after
one_more says folder names name entries entries_after entry disk disk_now disk_after so_far is looks added = rw added record {
  theirs = map-append _ entries (entry ∷ []) ∙ ap₂ (λ (a b : List (List ℕ)). a ++ b) so_far.theirs (ap (λ (n : List ℕ). n ∷ []) is);
  looks = over_more (LooksAt says folder) disk disk_now disk_after entries (entry ∷ []) so_far.looks (over_one (LooksAt says folder) disk_now disk_after entry looks);
}

-- ---- going back after the last look

-- the looks end in this state, if they begin in another one that is unseen
record Left {D : Type 0} (says : D → Said → D → Type 0) (folder : List ℕ) (first : D) (entries : List FolderEntry) (disk_after : D) : Type 0 where
  pub begin : D
  pub unseen : Unseen says first begin
  pub looks : GoesOver (LooksAt says folder) begin entries disk_after

looked_left : {D : Type 0} (says : D → Said → D → Type 0) (folder : List ℕ) (first : D) (entry : FolderEntry) (entries : List FolderEntry) (middle disk_after : D) (found : Option FileMetadata)
    → SaysOfText says folder entry.name found first middle → Shows folder found entry → Left says folder middle entries disk_after → Left says folder first (entry ∷ entries) disk_after
looked_left says folder first entry entries middle disk_after found (inl said) shows later = record {
  begin = first;
  unseen = λ before said its. its;
  looks = (later.begin, (found, inl (said.0, later.unseen first (Looked (below folder entry.name) found) said.1), shows), later.looks);
}
looked_left says folder first entry entries middle disk_after found (inr nothing) shows later = record {
  begin = later.begin;
  unseen = subst (λ disk. Unseen says disk later.begin) nothing.2 later.unseen;
  looks = (later.begin, (found, inr (nothing.0, nothing.1, refl), shows), later.looks);
}

looks_left : {D : Type 0} (says : D → Said → D → Type 0) (folder : List ℕ) (first : D) (entries : List FolderEntry) (disk disk_after : D)
    → GoesOver (LooksAt says folder) first entries disk → Unseen says disk disk_after → Left says folder first entries disk_after
looks_left says folder first [] disk disk_after is unseen = record { begin = disk_after; unseen = subst (λ it. Unseen says it disk_after) is unseen; looks = refl }
looks_left says folder first (entry ∷ entries) disk disk_after over unseen =
    looked_left says folder first entry entries over.0 disk_after over.1.0 over.1.1 over.1.2 (looks_left says folder over.0 entries disk disk_after over.2 unseen)

-- a folder is listed, and what comes then is unseen
pub listed_left : {D : Type 0} (says : D → Said → D → Type 0) (path folder : List ℕ) (entries : List FolderEntry) (disk disk_now disk_after : D)
    → ListsAll says path folder entries disk disk_now → Unseen says disk_now disk_after → ListsAll says path folder entries disk disk_after
listed_left says path folder entries disk disk_now disk_after is unseen =
    let left = looks_left says folder is.middle entries disk_now disk_after is.looks unseen in
    record { middle = left.begin; names = left.unseen disk (Names path (map (λ entry. entry.name) entries)) is.names; looks = left.looks }

-- the same of a call that may fail
pub listed_then_left : {D X E : Type 0} (says : D → Said → D → Type 0) (path folder : List ℕ) (entries_of : X → List FolderEntry) (disk disk_now disk_after : D) (result : Result X E)
    → IfOk result (λ listed. ListsAll says path folder (entries_of listed) disk disk_now) → Unseen says disk_now disk_after → IfOk result (λ listed. ListsAll says path folder (entries_of listed) disk disk_after)
listed_then_left says path folder entries_of disk disk_now disk_after (Ok listed) is unseen = listed_left says path folder (entries_of listed) disk disk_now disk_after is unseen
listed_then_left says path folder entries_of disk disk_now disk_after (Err fault) is unseen = is
