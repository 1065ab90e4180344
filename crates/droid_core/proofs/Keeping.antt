-- What the list of unfinished files keeps goes on holding.
use Rattle.std.proofs.Common.{◌≡◌, ℕ, zero, suc, ◌+◌, ◌<◌, ◌≤◌, List, [], ◌∷◌, ◌++◌, length, set, get_or, Option, None, refl, ap, arith, vec_len, vec_capacity, OnOk, OnErr, Result, Ok, Err}
use Rattle.std.specs.List.{remove}
use Rattle.std.specs.Vec.{with_item}
use Rattle.std.proofs.lemmas.Option.{slice_get_read}
use Rattle.droid_assembly.specs.Pieces.{Piece}
use Rattle.droid_assembly.specs.State.{State, with_pending}
use Rattle.droid_core.specs.Files.{OpenFile, IsAt, open_at, with_assembly}
use Rattle.droid_core.specs.Kept.{AreNarrow, IsKept}
use Rattle.droid_core.specs.declared.unfinished.files.UnfinishedFiles.TheInside.{Inside}
use Rattle.droid_core.proofs.FilesLookedUp.{distinct_added, distinct_removed, distinct_set}

pub narrow_added : (files : List OpenFile) (file : OpenFile) → AreNarrow files → file.assembly.scan_limit ≤ 65536 → AreNarrow (files ++ file ∷ [])
narrow_added [] file narrow fits = (fits, tt)
narrow_added (one ∷ files) file narrow fits = (narrow.0, narrow_added files file narrow.1 fits)

pub narrow_removed : (files : List OpenFile) (place : ℕ) → AreNarrow files → AreNarrow (remove files place)
narrow_removed [] zero narrow = tt
narrow_removed [] (suc place) narrow = tt
narrow_removed (one ∷ files) zero narrow = narrow.1
narrow_removed (one ∷ files) (suc place) narrow = (narrow.0, narrow_removed files place narrow.1)

narrow_set : (files : List OpenFile) (place : ℕ) (file : OpenFile) → AreNarrow files → file.assembly.scan_limit ≤ 65536 → AreNarrow (set files place file)
narrow_set [] place file narrow fits = tt
narrow_set (one ∷ files) zero file narrow fits = (fits, narrow.1)
narrow_set (one ∷ files) (suc place) file narrow fits = (narrow.0, narrow_set files place file narrow.1 fits)

narrow_at : (files : List OpenFile) (place : ℕ) (file : OpenFile) → AreNarrow files → IsAt files place file → file.assembly.scan_limit ≤ 65536
narrow_at [] place file narrow here = cc
narrow_at (one ∷ files) zero file narrow here =
    let same : one ≡ file = cc in
    rw same at narrow.0
narrow_at (one ∷ files) (suc place) file narrow here = narrow_at files place file narrow.1 here

-- the file that was read at a place is a narrow one
pub narrow_read : (kept : Inside) → IsKept kept → (place : ℕ) (one : OpenFile) → one ≡ get_or kept.files.items place one → place < length kept.files.items → one.assembly.scan_limit ≤ 65536
narrow_read kept is place one read within =
    narrow_at kept.files.items place one is.narrow (slice_get_read kept.files.items (length kept.files.items) place one refl within read)

-- another assembly at a place, which scans as many bytes
pub kept_changed : (kept : Inside) → IsKept kept → (place : ℕ) (one : OpenFile) (assembly : State) → one ≡ get_or kept.files.items place one → place < length kept.files.items
    → assembly.scan_limit ≡ one.assembly.scan_limit → IsKept (record { files = with_item kept.files place (with_assembly one assembly); limit = kept.limit })
kept_changed kept is place one assembly read within same =
    let here : IsAt kept.files.items place one = slice_get_read kept.files.items (length kept.files.items) place one refl within read in
    let fits : assembly.scan_limit ≤ 65536 = rw same (narrow_read kept is place one read within) in
    record {
      few = is.few;
      within = is.within;
      room = is.room;
      distinct = distinct_set kept.files.items place one assembly here is.distinct;
      narrow = narrow_set kept.files.items place (with_assembly one assembly) is.narrow fits;
    }

-- a piece that was put or refused
pub put_scan_limit : {E : Type 0} (result : Result (Unit {0}) E) (old new : State) (pending : Option Piece) → OnOk result (new ≡ with_pending old pending) → OnErr result (new ≡ old) → new.scan_limit ≡ old.scan_limit
put_scan_limit (Ok x) old new pending ok err = ap (λ (a : State). a.scan_limit) ok
put_scan_limit (Err e) old new pending ok err = ap (λ (a : State). a.scan_limit) err

-- one file more, which is not among them
pub kept_added : (kept new : Inside) → IsKept kept → (file : OpenFile) → new.files.items ≡ kept.files.items ++ file ∷ [] → new.limit ≡ kept.limit
    → vec_len new.files ≤ kept.limit → kept.limit ≤ vec_capacity new.files → open_at file.profile file.file kept.files.items ≡ None → file.assembly.scan_limit ≤ 65536 → IsKept new
kept_added kept new is file items limit within room fresh fits = record {
  few = rw limit is.few;
  within = rw limit within;
  room = rw limit room;
  distinct = rw items (distinct_added kept.files.items file is.distinct fresh);
  narrow = rw items (narrow_added kept.files.items file is.narrow fits);
}

-- one file less
pub kept_removed : (kept new : Inside) → IsKept kept → (place : ℕ) → new.files.items ≡ remove kept.files.items place → new.limit ≡ kept.limit
    → vec_len new.files + 1 ≡ vec_len kept.files → vec_capacity new.files ≡ vec_capacity kept.files → IsKept new
kept_removed kept new is place items limit len capacity = record {
  few = rw limit is.few;
  within = omega (arith, limit, len, is.within);
  room = omega (arith, limit, capacity, is.room);
  distinct = rw items (distinct_removed kept.files.items place is.distinct);
  narrow = rw items (narrow_removed kept.files.items place is.narrow);
}
