-- What is known of the file at a place, from what was read of it.
use Rattle.std.proofs.Common.{◌≡◌, ℕ, ◌<◌, List, length, set, get_or, refl, sym, ap, ◌∙◌, OnOk, OnErr, Result, Ok, Err}
use Rattle.std.proofs.lemmas.Option.{get_or_from_slice_get, slice_get_read}
use Rattle.std.proofs.lemmas.List.{set-get_or}
use Rattle.droid_assembly.specs.State.{State}
use Rattle.droid_core.specs.Files.{OpenFile, OpenFiles, AreDistinct, IsAt, At, Turns, IsAlikeBut, with_assembly}
use Rattle.droid_core.specs.Kept.{files_of}
use Rattle.droid_core.specs.declared.unfinished.files.UnfinishedFiles.TheInside.{Inside}
use Rattle.droid_core.proofs.FilesLookedUp.{at_set, injective_some}

-- what was read at the place is the file there
read_at : (files : List OpenFile) (place : ℕ) (one file : OpenFile) → one ≡ get_or files place one → IsAt files place file → one ≡ file
read_at files place one file read here = read ∙ get_or_from_slice_get files place file one here

-- what holds of its assembly holds of the assembly at the place
pub of_read : (all : OpenFiles) (place : ℕ) (one : OpenFile) → one ≡ get_or all.files place one → (P : State → Type 0) → P one.assembly → At all place P
of_read all place one read P holds file here =
    let same : one ≡ file = read_at all.files place one file read here in
    rw same at holds

-- and the other way round
pub to_read : (all : OpenFiles) (place : ℕ) (one : OpenFile) → one ≡ get_or all.files place one → place < length all.files → (P : State → Type 0) → At all place P → P one.assembly
to_read all place one read within P holds = holds one (slice_get_read all.files (length all.files) place one refl within read)

-- the list with another assembly at the place
abbrev pub changed : OpenFiles → ℕ → OpenFile → State → OpenFiles
changed all place one assembly = record { limit = all.limit; files = set all.files place (with_assembly one assembly) }

pub alike : (all : OpenFiles) (place : ℕ) (one : OpenFile) (assembly : State) → AreDistinct all.files → one ≡ get_or all.files place one → place < length all.files → IsAlikeBut place all (changed all place one assembly)
alike all place one assembly distinct read within = record {
  limit = refl;
  distinct = distinct;
  before = one;
  after = assembly;
  was = slice_get_read all.files (length all.files) place one refl within read;
  files = refl;
}

-- what holds of the two assemblies holds of what the assembly at the place was and has become
pub turned : (all : OpenFiles) (place : ℕ) (one : OpenFile) (assembly : State) → one ≡ get_or all.files place one → (P : State → State → Type 0) → P one.assembly assembly → Turns all (changed all place one assembly) place P
turned all place one assembly read P holds before after was is =
    let same : one ≡ before = read_at all.files place one before read was in
    let here : IsAt all.files place one = rw same was in
    let new : with_assembly one assembly ≡ after = injective_some (sym (at_set place one assembly all.files here) ∙ is) in
    let old : P before.assembly assembly = rw same at holds in
    rw (ap (λ (file : OpenFile). file.assembly) new) at old

-- the same of a call that can refuse
pub turned_ok : {T E : Type 0} (result : Result T E) (all : OpenFiles) (place : ℕ) (one : OpenFile) (assembly : State) → one ≡ get_or all.files place one → (P : State → State → Type 0) → OnOk result (P one.assembly assembly) → OnOk result (Turns all (changed all place one assembly) place P)
turned_ok (Ok x) all place one assembly read P holds = turned all place one assembly read P holds
turned_ok (Err e) all place one assembly read P holds = tt

-- and what a refusal leaves
pub same_err : {T E : Type 0} (result : Result T E) (all : OpenFiles) (place : ℕ) (one : OpenFile) (assembly : State) → one ≡ get_or all.files place one → OnErr result (assembly ≡ one.assembly) → OnErr result (changed all place one assembly ≡ all)
same_err (Ok x) all place one assembly read same = tt
same_err (Err e) all place one assembly read same =
    let back : set all.files place (with_assembly one assembly) ≡ all.files =
    ap (λ (a : State). set all.files place (with_assembly one a)) same ∙ ap (set all.files place) read ∙ set-get_or all.files place one in
    rw back refl

-- a place of the list is one of what it keeps
pub inside : (kept : Inside) (now : OpenFiles) (place : ℕ) → files_of kept ≡ now → place < length now.files → place < length kept.files.items
inside kept now place view within = rw (sym (ap (λ (all : OpenFiles). length all.files) view)) at within
