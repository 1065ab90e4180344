-- What a walk skipped, and which paths that explains (this project's own).
use Rattle.std.specs.Prelude.{◌≡◌, ℕ, zero, suc, Bool, true, false, ◌==◌, ◌&&◌, ◌||◌, List, ◌++◌, length, take, get_or}
use Rattle.std.specs.Prelude.{bytes_eq}
use Rattle.std.specs.BTreeMap.{BTreeMap, get_by}
use Rattle.std.specs.Borrow.{Bor}
use Rattle.std.specs.Cmp.Lexicographic.{slice_cmp}
use Rattle.std.specs.List.{list_any}
use Rattle.std.specs.Option.{is_some}
use Rattle.std.specs.Ordering.{nat_cmp}
use Rattle.droid_tree.specs.Heard.{Heard}
use Rattle.droid_terminal.specs.SkippedTexts.{skipped_in}
use Rattle.droid_terminal.specs.declared.skipped.recorder.Recorder.{Recorder}
use Rattle.droid_terminal.specs.declared.skipped.skipped_entry.SkippedEntry.{SkippedEntry}

-- the other watcher learns it; and if all skipped entries are kept now, they were before, and this one is
pub record Records {W : Type 0} (hears : W → Heard → W → Type 0) (old : Recorder W) (heard : Heard) (new : Recorder W)
    : Type 0 where
  pub watched : hears old.watcher heard new.watcher
  pub kept : new.has_all ≡ true → (old.has_all ≡ true) × (new.skipped.items ≡ old.skipped.items ++ skipped_in heard)

-- ---- which paths are explained

-- whether a number below this one passes the test
abbrev pub some_below : (ℕ → Bool) → ℕ → Bool
some_below test zero = false
some_below test (suc n) = test n || some_below test n

-- whether one of these entries has this path
abbrev pub has_path : List SkippedEntry → List ℕ → Bool
has_path skipped path = list_any (λ entry. bytes_eq entry.path path) skipped

-- whether a `/` or the end of the path follows its first `place` bytes
abbrev pub ends_name : List ℕ → ℕ → Bool
ends_name path place = get_or path place 47 == 47

-- whether the first `place` bytes of a path are a path that is held, the path itself or a folder above it
abbrev pub holds_front : (List ℕ → Bool) → List ℕ → ℕ → Bool
holds_front held path place = ends_name path place && held (take place path)

-- whether a path or a folder above it is held
abbrev pub holds_above : (List ℕ → Bool) → List ℕ → Bool
holds_above held path = some_below (holds_front held path) (suc (length path))

-- whether a path was skipped, or lies below a folder that was skipped
abbrev pub is_explained : List SkippedEntry → List ℕ → Bool
is_explained skipped path = holds_above (has_path skipped) path

-- For inner clauses and proofs: whether a map has this path.
abbrev pub is_held : BTreeMap (Bor (List ℕ)) Bool → List ℕ → Bool
is_held paths path = is_some (get_by (λ key. slice_cmp nat_cmp path key.now) paths)
