-- The assemblies of a world in which a profile has one node more.
use Rattle.std.proofs.Common.{◌≡◌, ◌≢◌, inl, inr, ℕ, ℤ, ◌+◌, ◌<◌, ◌==◌, List, [], ◌∷◌, ◌++◌, length, Bool, true, false, Option, Some, None, refl, sym, ap, ◌∙◌, arith, length-append}
use Rattle.std.specs.Prelude.{nat_lt, MatchBool}
use Rattle.std.specs.Option.{option_or}
use Rattle.std.proofs.lemmas.Bool.{cases_Bool, ltb-true, ltb-false, eqb-true, eqb-false}
use Rattle.std.proofs.lemmas.List.Folds.{find-append}
use Rattle.droid_assembly.specs.State.{State}
use Rattle.droid_core_spec.specs.Judging.{world_set, with_node}
use Rattle.droid_core_spec.specs.World.{Content, Node, Folder, File, Abandoned, Profile, World, numbered}
use Rattle.droid_core.proofs.Items.{numbered_before, numbered_last, numbered_past, numbered_set_same, numbered_set_other}
use Rattle.droid_core.proofs.UnfinishedRows.{unfinished_added}
use Rattle.droid_core.proofs.FilesLookedUp.{is_own, key_of}
use Rattle.droid_core.specs.Files.{OpenFile, OpenFiles, is_of, open_at}
use Rattle.droid_core.specs.NewAssemblies.{IsNew}
use Rattle.droid_core.specs.Assemblies.{IsOpenFor, HasItsAssembly, HasItsAssemblyIn, HasAssemblies}

-- the scan limit stays, and nothing else of the profile counts
still_open : (profile : Profile) (node : Node) (content : Content) (found : Option OpenFile) → IsOpenFor profile content found → IsOpenFor (with_node profile node) content found
still_open profile node content found is = record {
  file = is.file;
  there = is.there;
  assembled = record {
    size = is.assembled.size;
    piece_size = is.assembled.piece_size;
    scan_limit = is.assembled.scan_limit;
    hash = is.assembled.hash;
    pieces = is.assembled.pieces;
    none_pending = is.assembled.none_pending;
  };
}

if_open : (b : Bool) (P : Type 0) {Q R : Type 0} → (Q → R) → MatchBool b P Q → MatchBool b P R
if_open true P f it = it
if_open false P f it = f it

still_its : (profile : Profile) (node : Node) (one : Option Node) (found : Option OpenFile) → HasItsAssembly profile one found → HasItsAssembly (with_node profile node) one found
still_its profile node None found has = has
still_its profile node (Some (Folder parent modified name)) found has = has
still_its profile node (Some (File parent modified name content)) found has = if_open content.finished (found ≡ None) (still_open profile node content found) has
still_its profile node (Some Abandoned) found has = has

-- a number that the profile has not reached has no file
none_past : (profile : Profile) (found : Option OpenFile) (id : ℕ) → length profile.nodes < id → HasItsAssembly profile (numbered profile.nodes id) found → found ≡ None
none_past profile found id past has = rw (numbered_past profile.nodes id past) at has

module _ (world : World) (number : ℕ) (profile : Profile) (node : Node) (old : OpenFiles) (found : numbered world.profiles number ≡ Some profile) (has : HasAssemblies world old) where
  in_this : (id : ℕ) → HasItsAssembly profile (numbered profile.nodes id) (open_at number id old.files)
  in_this id = rw found at (has.each number id)

  -- the new node's number has no file yet
  pub none_yet : open_at number (length profile.nodes + 1) old.files ≡ None
  none_yet = none_past profile _ (length profile.nodes + 1) (omega arith) (in_this (length profile.nodes + 1))

  earlier_or_none : (id : ℕ) → id ≢ length profile.nodes + 1 → HasItsAssembly (with_node profile node) (numbered (profile.nodes ++ node ∷ []) id) (open_at number id old.files)
  earlier_or_none id apart = elim (cases_Bool (nat_lt id (length profile.nodes + 1))) [
    | inl low ↦
        let before = numbered_before profile.nodes (node ∷ []) id (ltb-true id (length profile.nodes + 1) low) in
        rw before (still_its profile node (numbered profile.nodes id) (open_at number id old.files) (in_this id))
    | inr high ↦
        let past = ltb-false id (length profile.nodes + 1) high in
        let long = length-append profile.nodes (node ∷ []) in
        rw (numbered_past (profile.nodes ++ node ∷ []) id (omega arith)) (none_past profile _ id (omega (arith, past)) (in_this id))
  ]

  -- files that are found as before, but for the new node's, which has what it is to have
  module _ (new : OpenFiles) (others : (other id : ℕ) → ((other ≡ number) × (id ≡ length profile.nodes + 1) → ⊥) → open_at other id new.files ≡ open_at other id old.files)
      (its : HasItsAssembly (with_node profile node) (Some node) (open_at number (length profile.nodes + 1) new.files)) where
    of_this : (id : ℕ) → HasItsAssembly (with_node profile node) (numbered (profile.nodes ++ node ∷ []) id) (open_at number id new.files)
    of_this id = elim (cases_Bool (id == length profile.nodes + 1)) [
      | inl is ↦
          let last = eqb-true id (length profile.nodes + 1) is in
          rw (numbered_last profile.nodes node id last, last) its
      | inr isnt ↦
          let apart = eqb-false id (length profile.nodes + 1) isnt in
          rw (others number id (λ both. apart both.1)) (earlier_or_none id apart)
    ]

    pub each_added : (other id : ℕ) → HasItsAssemblyIn (numbered (world_set world number (with_node profile node)).profiles other) id (open_at other id new.files)
    each_added other id = elim (cases_Bool (other == number)) [
      | inl is ↦
          let same = eqb-true other number is in
          rw (same, numbered_set_same world.profiles number profile (with_node profile node) found) (of_this id)
      | inr isnt ↦
          let apart = eqb-false other number isnt in
          rw (numbered_set_other world.profiles number other profile (with_node profile node) found apart, others other id (λ both. apart both.0)) (has.each other id)
    ]

-- ---- a folder

pub assemblies_with_folder : (world : World) (number : ℕ) (profile : Profile) (parent : ℕ) (modified : ℤ) (name : List ℕ) (files : OpenFiles) → numbered world.profiles number ≡ Some profile
    → HasAssemblies world files → HasAssemblies (world_set world number (with_node profile (Folder parent modified name))) files
assemblies_with_folder world number profile parent modified name files found has =
    let more = unfinished_added world number profile found (Folder parent modified name) in
    record {
      each = each_added world number profile (Folder parent modified name) files found has files (λ other id apart. refl)
          (none_yet world number profile (Folder parent modified name) files found has);
      count = omega (arith, has.count, more);
    }

-- ---- a file

-- what a new file has: no piece of it was taken
abbrev pub new_content : ℕ → ℕ → Content
new_content size piece_size = record { size = size; piece_size = piece_size; pieces = []; finished = false }

module _ (world : World) (number : ℕ) (profile : Profile) (parent : ℕ) (modified : ℤ) (size piece_size : ℕ) (name : List ℕ) (old new : OpenFiles) (assembly : State)
    (found : numbered world.profiles number ≡ Some profile) (has : HasAssemblies world old)
    (files : new.files ≡ old.files ++ record { profile = number; file = length profile.nodes + 1; assembly = assembly } ∷ [])
    (new_assembly : IsNew assembly size piece_size profile.scan_limit profile.hash) where
  abbrev id_of : ℕ
  id_of = length profile.nodes + 1

  abbrev file : OpenFile
  file = record { profile = number; file = id_of; assembly = assembly }

  abbrev node : Node
  node = File parent modified name (new_content size piece_size)

  opened : (other id : ℕ) → open_at other id new.files ≡ option_or (open_at other id old.files) (open_at other id (file ∷ []))
  opened other id = ap (open_at other id) files ∙ find-append (is_of other id) old.files (file ∷ [])

  first_or : {X : Type 0} (o : Option X) → option_or o None ≡ o
  first_or None = refl
  first_or (Some x) = refl

  others_as_before : (other id : ℕ) → ((other ≡ number) × (id ≡ id_of) → ⊥) → open_at other id new.files ≡ open_at other id old.files
  others_as_before other id apart = elim (cases_Bool (is_of other id file)) [
    | inl is ↦ let key = key_of other id file is in absurd (apart (sym key.0, sym key.1))
    | inr isnt ↦ opened other id ∙ rw isnt (first_or (open_at other id old.files))
  ]

  its_own : open_at number id_of new.files ≡ Some file
  its_own = opened number id_of ∙ rw (none_yet world number profile node old found has, is_own file) refl

  pub assemblies_with_file : HasAssemblies (world_set world number (with_node profile node)) new
  assemblies_with_file =
      let more = unfinished_added world number profile found node in
      let one = length-append old.files (file ∷ []) in
      let long = ap length files in
      record {
        each = each_added world number profile node old found has new others_as_before (record {
          file = file;
          there = its_own;
          assembled = record {
            size = new_assembly.size;
            piece_size = new_assembly.piece_size;
            scan_limit = new_assembly.scan_limit;
            hash = new_assembly.hash;
            pieces = new_assembly.pieces;
            none_pending = new_assembly.none_pending;
          };
        });
        count = omega (arith, has.count, more, one, long);
      }
