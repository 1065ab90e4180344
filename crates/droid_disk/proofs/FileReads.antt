-- What a read says of the file that it goes to.
use Rattle.std.proofs.Common.{◌≡◌, ◌<◌, inl, inr, ℕ, Bool, true, false, cond, List, get_or, length, subst}
use Rattle.std.specs.Prelude.{MatchBool}
use Rattle.droid_tree.specs.declared.folder_entry.FolderEntry.{FolderEntry}
use Rattle.droid_disk.specs.FolderObservation.{EndsOther, Reaches, ReadFails, ReadsAt}
use Rattle.droid_disk.specs.Given.{EndsAsOther, ReadsOn, SeesSame}
use Rattle.droid_disk.specs.OpenFiles.{without}
use Rattle.droid_disk.specs.Said.{Said, Gave, GaveNone}
use Rattle.droid_disk.specs.declared.disk.FileMetadata.{FileMetadata}
use Rattle.droid_disk.proofs.HeldFiles.{held_path, same_there}

-- the file is then open or closed, by whether it ended
after_for : {D F : Type 0} (says : D → Said → D → Type 0) (path name : List ℕ) (entry : FolderEntry) (found : FileMetadata) (ended : Bool) (closed files_now files_after : List F) (disk disk_after : D)
    → name ≡ path → MatchBool ended (SeesSame says name entry found disk disk_after) (disk_after ≡ disk) → files_after ≡ cond ended closed files_now
    → MatchBool ended (SeesSame says path entry found disk disk_after × (files_after ≡ closed)) ((disk_after ≡ disk) × (files_after ≡ files_now))
after_for says path name entry found true closed files_now files_after disk disk_after is seen closes = (subst (λ it. SeesSame says it entry found disk disk_after) is seen, closes)
after_for says path name entry found false closed files_now files_after disk disk_after is seen closes = (seen, closes)

module _ {D F : Type 0} (says : D → Said → D → Type 0) (path_of : F → List ℕ) (metadata_of : F → FileMetadata) (path : List ℕ) (entry : FolderEntry) (from wanted : ℕ) (files files_now files_after : List F) (file : F) (disk disk_now disk_after : D) where
  -- the file was opened by this path
  pub path_reached : Reaches says path_of metadata_of path entry from files files_now file disk disk_now → path_of file ≡ path
  path_reached (inl begins) = begins.opened_by
  path_reached (inr goes_on) = held_path path_of path files file goes_on.is_open

  -- what was found of the file at a place is so of whatever is read there
  pub reached_there : (place : ℕ) → place < length files_now → (reached : (there : F) × (there ≡ get_or files_now place there) × Reaches says path_of metadata_of path entry from files files_now there disk disk_now)
      → file ≡ get_or files_now place file → Reaches says path_of metadata_of path entry from files files_now file disk disk_now
  reached_there place within reached is =
      subst (λ (it : F). Reaches says path_of metadata_of path entry from files files_now it disk disk_now) (same_there files_now place reached.0 file within reached.1 is) reached.2

  pub reads_at : (before after : List ℕ) (ended : Bool) → Reaches says path_of metadata_of path entry from files files_now file disk disk_now
      → (read : ReadsOn says (path_of file) (metadata_of file) entry from wanted before after ended disk_now disk_after) → files_after ≡ cond ended (without path_of path files_now) files_now
      → ReadsAt says path_of metadata_of path entry from wanted read.bytes files files_after disk disk_after
  reads_at before after ended reached read closes =
      let named = path_reached reached in
      record {
        files_now = files_now;
        file = file;
        disk_now = disk_now;
        reached = reached;
        disk_read = read.disk_read;
        gave = subst (λ it. says disk_now (Gave it (metadata_of file) from wanted read.bytes) read.disk_read) named read.gave;
        after = subst (λ (end : Bool). MatchBool end (SeesSame says path entry (metadata_of file) read.disk_read disk_after × (files_after ≡ without path_of path files_now)) ((disk_after ≡ read.disk_read) × (files_after ≡ files_now)))
            read.is_end (after_for says path (path_of file) entry (metadata_of file) ended (without path_of path files_now) files_now files_after read.disk_read disk_after named read.seen closes);
      }

  pub read_fails : Reaches says path_of metadata_of path entry from files files_now file disk disk_now → says disk_now (GaveNone (path_of file) (metadata_of file) from wanted) disk_after
      → files_after ≡ without path_of path files_now → ReadFails says path_of metadata_of path entry from wanted files files_after disk disk_after
  read_fails reached failed closed = record {
    files_now = files_now;
    file = file;
    disk_now = disk_now;
    reached = reached;
    failed = subst (λ it. says disk_now (GaveNone it (metadata_of file) from wanted) disk_after) (path_reached reached) failed;
    closed = closed;
  }

  pub ends_other : Reaches says path_of metadata_of path entry from files files_now file disk disk_now → EndsAsOther says (path_of file) (metadata_of file) entry from wanted disk_now disk_after
      → files_after ≡ without path_of path files_now → EndsOther says path_of metadata_of path entry from wanted files files_after disk disk_after
  ends_other reached ends closed = record {
    files_now = files_now;
    file = file;
    disk_now = disk_now;
    reached = reached;
    ends = subst (λ it. EndsAsOther says it (metadata_of file) entry from wanted disk_now disk_after) (path_reached reached) ends;
    closed = closed;
  }
