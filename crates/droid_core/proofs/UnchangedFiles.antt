-- The assemblies of the files where one was only looked at.
use Rattle.std.proofs.Common.{◌≡◌, inl, inr, ℕ, slice_get, Bool, true, false, Option, Some, None, refl, sym, ap₂, subst, ◌∙◌}
use Rattle.std.proofs.lemmas.Bool.{cases_Bool}
use Rattle.std.specs.Prelude.{MatchBool}
use Rattle.droid_assembly.specs.State.{State, IsUnchanged}
use Rattle.droid_core_spec.specs.World.{Content, Node, Folder, File, Abandoned, Profile, World, numbered}
use Rattle.droid_core.specs.Files.{OpenFile, OpenFiles, Turns, IsAlikeBut, IsStillOpen, is_of, open_at, with_assembly}
use Rattle.droid_core.proofs.FilesLookedUp.{key_of, key_found, found_at, still_open, others_open, same_count}
use Rattle.droid_core.specs.Assemblies.{IsAssemblyOf, IsOpenFor, HasItsAssembly, HasItsAssemblyIn, HasAssemblies}

some_is : {X : Type 0} {x y : X} → Some x ≡ Some y → x ≡ y
some_is is = cc

module _ (file : OpenFile) (after : State) (same : IsUnchanged file.assembly after) where
  still_for : (profile : Profile) (content : Content) → IsOpenFor profile content (Some file) → IsOpenFor profile content (Some (with_assembly file after))
  still_for profile content is =
      let this : is.file ≡ file = sym (some_is is.there) in
      let was = subst (λ (one : OpenFile). IsAssemblyOf profile content one.assembly) this is.assembled in
      record {
        file = with_assembly file after;
        there = refl;
        assembled = record {
          size = same.same_file.size ∙ was.size;
          piece_size = same.same_file.piece_size ∙ was.piece_size;
          scan_limit = same.same_file.scan_limit ∙ was.scan_limit;
          hash = same.same_file.hash_kind ∙ was.hash;
          pieces = same.stands content.pieces was.pieces;
          none_pending = same.pending ∙ was.none_pending;
        };
      }

  either : (finished : Bool) (profile : Profile) (content : Content) → MatchBool finished (Some file ≡ None) (IsOpenFor profile content (Some file))
      → MatchBool finished (Some (with_assembly file after) ≡ None) (IsOpenFor profile content (Some (with_assembly file after)))
  either true profile content is = absurd (let it : Some file ≡ None = is in cc)
  either false profile content is = still_for profile content is

  still_its : (profile : Profile) (node : Option Node) → HasItsAssembly profile node (Some file) → HasItsAssembly profile node (Some (with_assembly file after))
  still_its profile None is = absurd (let it : Some file ≡ None = is in cc)
  still_its profile (Some (Folder parent modified name)) is = absurd (let it : Some file ≡ None = is in cc)
  still_its profile (Some (File parent modified name content)) is = either content.finished profile content is
  still_its profile (Some Abandoned) is = absurd (let it : Some file ≡ None = is in cc)

  still_in : (profile : Option Profile) (id : ℕ) → HasItsAssemblyIn profile id (Some file) → HasItsAssemblyIn profile id (Some (with_assembly file after))
  still_in None id is = absurd (let it : Some file ≡ None = is in cc)
  still_in (Some profile) id is = still_its profile (numbered profile.nodes id) is

module _ (world : World) (old new : OpenFiles) (place : ℕ) (has : HasAssemblies world old) (alike : IsAlikeBut place old new) (same : Turns old new place IsUnchanged) where
  still : IsStillOpen place new alike.before
  still = still_open place old new alike alike.before alike.was

  unchanged_there : IsUnchanged alike.before.assembly still.after
  unchanged_there = same alike.before (with_assembly alike.before still.after) alike.was still.at

  was_found : open_at alike.before.profile alike.before.file old.files ≡ Some alike.before
  was_found = found_at old.files alike.distinct place alike.before alike.was

  each : (number id : ℕ) → HasItsAssemblyIn (numbered world.profiles number) id (open_at number id new.files)
  each number id = elim (cases_Bool (is_of number id alike.before)) [
    | inl is ↦ let key = key_of number id alike.before is in
        let found : open_at number id new.files ≡ Some (with_assembly alike.before still.after) = ap₂ (λ n i. open_at n i new.files) (sym key.0) (sym key.1) ∙ still.found in
        let was : open_at number id old.files ≡ Some alike.before = ap₂ (λ n i. open_at n i old.files) (sym key.0) (sym key.1) ∙ was_found in
        subst (HasItsAssemblyIn (numbered world.profiles number) id) (sym found)
        (still_in alike.before still.after unchanged_there (numbered world.profiles number) id (subst (HasItsAssemblyIn (numbered world.profiles number) id) was (has.each number id)))
    | inr isnt ↦ subst (HasItsAssemblyIn (numbered world.profiles number) id) (sym (others_open place old new alike alike.before alike.was number id isnt)) (has.each number id)
  ]

  pub assemblies_unchanged : HasAssemblies world new
  assemblies_unchanged = record { each = each; count = same_count place old new alike ∙ has.count }

  -- the place is still that of the file
  pub place_still : (number id : ℕ) → slice_get old.files place ≡ open_at number id old.files → slice_get new.files place ≡ open_at number id new.files
  place_still number id at_place =
      let key = key_found number id old.files alike.before (sym at_place ∙ alike.was) in
      still.at ∙ sym (ap₂ (λ n i. open_at n i new.files) (sym key.0) (sym key.1) ∙ still.found)
