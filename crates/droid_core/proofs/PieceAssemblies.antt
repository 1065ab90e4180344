-- The assemblies of the files after a piece of one was put, and then taken for good or taken back.
use Rattle.std.proofs.Common.{◌≡◌, inl, inr, ℕ, zero, suc, ◌+◌, List, [], ◌∷◌, ◌++◌, length, set, slice_get, Bool, true, false, Option, Some, None, IsSome, is_some, refl, sym, ap, ap₂, ◌∙◌}
use Rattle.std.proofs.lemmas.Bool.{cases_Bool}
use Rattle.std.specs.Prelude.{ℤ, MatchBool}
use Rattle.droid_assembly.specs.Pieces.{Piece}
use Rattle.droid_assembly.specs.State.{State, StandsFor, IsOfSameFile, hash_kind_of, with_pending}
use Rattle.droid_core_spec.specs.Files.{with_piece}
use Rattle.droid_core_spec.specs.Judging.{world_set, node_set}
use Rattle.droid_core_spec.specs.World.{Content, File, Profile, World, numbered, node_at}
use Rattle.droid_core.proofs.InPlace.{at_file}
use Rattle.droid_core.proofs.UnfinishedRows.{weight}
use Rattle.droid_core.specs.Files.{OpenFile, OpenFiles, IsAt, At, Turns, IsAlikeBut, IsStillOpen, is_of, open_at, with_assembly}
use Rattle.droid_core.proofs.FilesLookedUp.{key_of, key_found, still_open, others_open, same_count}
use Rattle.droid_core.specs.Assemblies.{IsAssemblyOf, IsOpenFor, HasAssemblies}
use Rattle.droid_core.proofs.Assembled.{assembly_of, assemblies_turned}

-- an item put in a place twice, where it is the first one again
set_back : {X : Type 0} (xs : List X) (k : ℕ) (was once again : X) → slice_get xs k ≡ Some was → slice_get (set (set xs k once) k again) k ≡ Some was → set (set xs k once) k again ≡ xs
set_back [] k was once again here now = refl
set_back (x ∷ xs) zero was once again here now =
    let first : x ≡ was = cc in
    let last : again ≡ was = cc in
    ap (λ one. one ∷ xs) (last ∙ sym first)
set_back (x ∷ xs) (suc k) was once again here now = ap (λ those. x ∷ those) (set_back xs k was once again here now)

pub not_this : (file : OpenFile) (number id that_number that_id : ℕ) → file.profile ≡ number → file.file ≡ id → (that_number ≡ number → that_id ≡ id → ⊥) → is_of that_number that_id file ≡ false
not_this file number id that_number that_id of_number of_id apart = elim (cases_Bool (is_of that_number that_id file)) [
  | inl is ↦ absurd (let key = key_of that_number that_id file is in apart (sym key.0 ∙ of_number) (sym key.1 ∙ of_id))
  | inr isnt ↦ isnt
]

unfinished_has : (finished : Bool) (P Q : Type 0) → finished ≡ false → Q → MatchBool finished P Q
unfinished_has true P Q is it = absurd cc
unfinished_has false P Q is it = it

-- the piece that was put is pending
pub is_pending : (old mid : OpenFiles) (place index : ℕ) (bytes : List ℕ) → IsAlikeBut place old mid → Turns old mid place (λ before after. after ≡ with_pending before (Some (index, bytes))) → At mid place (λ assembly. IsSome assembly.pending)
is_pending old mid place index bytes alike put file here = ap (λ (a : State). is_some a.pending) (put alike.before file alike.was here)

-- two changes at one place
module _ (old mid new : OpenFiles) (place : ℕ) (first : IsAlikeBut place old mid) (second : IsAlikeBut place mid new) (file : OpenFile) (here : IsAt old.files place file) where
  pub middle : IsStillOpen place mid file
  middle = still_open place old mid first file here

  pub last : IsStillOpen place new (with_assembly file middle.after)
  last = still_open place mid new second (with_assembly file middle.after) middle.at

  others_same : (number id : ℕ) → is_of number id file ≡ false → open_at number id new.files ≡ open_at number id old.files
  others_same number id other =
      others_open place mid new second (with_assembly file middle.after) middle.at number id other ∙ others_open place old mid first file here number id other

  count_same : length new.files ≡ length old.files
  count_same = same_count place mid new second ∙ same_count place old mid first

  module _ (index : ℕ) (bytes : List ℕ) (put : Turns old mid place (λ before after. after ≡ with_pending before (Some (index, bytes)))) where
    put_at : middle.after ≡ with_pending file.assembly (Some (index, bytes))
    put_at = put file (with_assembly file middle.after) here middle.at

    -- the piece was taken
    pub grown : Turns old mid place (λ before after. (pieces : List Piece) → StandsFor before pieces → StandsFor after pieces)
        → Turns mid new place (λ before after. (pieces : List Piece) (piece : Piece) → StandsFor before pieces → before.pending ≡ Some piece → StandsFor after (pieces ++ piece ∷ []))
        → Turns mid new place IsOfSameFile → Turns mid new place (λ before after. after.pending ≡ None)
        → (profile after : Profile) (content : Content) → profile.scan_limit ≡ after.scan_limit → profile.hash ≡ after.hash → IsAssemblyOf profile content file.assembly → IsAssemblyOf after (with_piece content index bytes) last.after
    grown stood settled same_file none_pending profile after content scan_limit kind is =
        let was = with_assembly file middle.after in
        let now = with_assembly was last.after in
        let same = same_file was now middle.at last.at in
        record {
          size = same.size ∙ ap (λ (a : State). a.size) put_at ∙ is.size;
          piece_size = same.piece_size ∙ ap (λ (a : State). a.piece_size) put_at ∙ is.piece_size;
          scan_limit = same.scan_limit ∙ ap (λ (a : State). a.scan_limit) put_at ∙ is.scan_limit ∙ scan_limit;
          hash = same.hash_kind ∙ ap hash_kind_of put_at ∙ is.hash ∙ kind;
          pieces = settled was now middle.at last.at content.pieces (index, bytes) (stood file was here middle.at content.pieces is.pieces) (ap (λ (a : State). a.pending) put_at);
          none_pending = none_pending was now middle.at last.at;
        }

    -- the piece was taken back
    pub as_before : Turns mid new place (λ before after. after ≡ with_pending before None) → file.assembly.pending ≡ None → new.files ≡ old.files
    as_before back none =
        let was = with_assembly file middle.after in
        let again : last.after ≡ file.assembly =
        back was (with_assembly was last.after) middle.at last.at
        ∙ ap (λ (a : State). with_pending a None) put_at
        ∙ ap (λ (pending : Option Piece). with_pending file.assembly pending) (sym none) in
        let now : slice_get new.files place ≡ Some file = last.at ∙ ap (λ (a : State). Some (with_assembly file a)) again in
        let twice : new.files ≡ set (set old.files place (with_assembly first.before first.after)) place (with_assembly second.before second.after) =
        second.files ∙ ap (λ (files : List OpenFile). set files place (with_assembly second.before second.after)) first.files in
        twice ∙ set_back old.files place file (with_assembly first.before first.after) (with_assembly second.before second.after) here (ap (λ (files : List OpenFile). slice_get files place) (sym twice) ∙ now)

-- ---- the world's assemblies

module _ (world : World) (old mid new : OpenFiles) (place : ℕ) (first : IsAlikeBut place old mid) (second : IsAlikeBut place mid new) (index : ℕ) (bytes : List ℕ)
    (put : Turns old mid place (λ before after. after ≡ with_pending before (Some (index, bytes))))
    (has : HasAssemblies world old) (number : ℕ) (profile : Profile) (id parent : ℕ) (modified : ℤ) (name : List ℕ) (content : Content)
    (is : numbered world.profiles number ≡ Some profile) (there : node_at profile.nodes id ≡ Some (File parent modified name content)) (unfinished : content.finished ≡ false)
    (at_place : slice_get old.files place ≡ open_at number id old.files) where
  its : IsOpenFor profile content (open_at number id old.files)
  its = assembly_of world old has number profile id parent modified name content is there unfinished

  pub assemblies_grown : Turns old mid place (λ before after. (pieces : List Piece) → StandsFor before pieces → StandsFor after pieces)
      → Turns mid new place (λ before after. (pieces : List Piece) (piece : Piece) → StandsFor before pieces → before.pending ≡ Some piece → StandsFor after (pieces ++ piece ∷ []))
      → Turns mid new place IsOfSameFile → Turns mid new place (λ before after. after.pending ≡ None)
      → HasAssemblies (world_set world number (node_set profile id (File parent modified name (with_piece content index bytes)))) new
  assemblies_grown stood settled same_file none_pending =
      let before = File parent modified name content in
      let more = with_piece content index bytes in
      let after = File parent modified name more in
      let here : IsAt old.files place its.file = at_place ∙ its.there in
      let key = key_found number id old.files its.file its.there in
      let ends = last old mid new place first second its.file here in
      let found : open_at number id new.files ≡ Some (with_assembly its.file ends.after) = ap₂ (λ n i. open_at n i new.files) (sym key.0) (sym key.1) ∙ ends.found in
      let assembled = grown old mid new place first second its.file here index bytes put stood settled same_file none_pending profile (node_set profile id after) content refl refl its.assembled in
      assemblies_turned world number profile id before after old new has is (at_file (numbered profile.nodes id) parent modified name content there)
      (λ that_number that_id apart. others_same old mid new place first second its.file here that_number that_id (not_this its.file number id that_number that_id key.0 key.1 apart))
      (unfinished_has content.finished _ _ unfinished (record { file = with_assembly its.file ends.after; there = found; assembled = assembled }))
      (ap (λ n. n + weight before) (count_same old mid new place first second its.file here))

  pub assemblies_as_before : Turns mid new place (λ before after. after ≡ with_pending before None) → new.files ≡ old.files
  assemblies_as_before back = as_before old mid new place first second its.file (at_place ∙ its.there) index bytes put back its.assembled.none_pending
