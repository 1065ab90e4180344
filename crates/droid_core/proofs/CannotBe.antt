-- States in which no service is: what a request answers there never comes.
use Rattle.std.proofs.Common.{◌≡◌, ℕ, ◌+◌, ◌^◌, ◌<◌, length, slice_get, true, Some, None, IsSome, IsTrue, sym, ◌∙◌, arith}
use Rattle.droid_assembly.specs.Pieces.{piece_count}
use Rattle.droid_export.specs.Text.{HaveMoments}
use Rattle.droid_core_spec.specs.Conditions.{is_scan_limit}
use Rattle.droid_core_spec.specs.Setting.{Setting}
use Rattle.droid_core_spec.specs.World.{Profile, World, numbered}
use Rattle.droid_store.specs.Rows.{Rows, is_unfinished, records_of}
use Rattle.droid_core.specs.Files.{At, OpenFiles, open_at}
use Rattle.droid_core.specs.Assemblies.{HasAssemblies, HasItsAssemblyIn, IsOpenFor}
use Rattle.droid_core.specs.Sound.{IsSoundWorld}
use Rattle.droid_core.specs.HoldingsStanding.{IsIn}
use Rattle.droid_core.specs.declared.holdings.Holdings.{Holdings}
use Rattle.droid_core.proofs.Items.{numbered_past}
use Rattle.droid_core.proofs.LookUps.{records_found}
use Rattle.droid_core.proofs.Sizes.{piece_size_within, size_within}
use Rattle.droid_core.proofs.Soundness.{sound_profile, sound_sizes}
use Rattle.droid_core.specs.FileLookUps.{HasFile}
use Rattle.droid_core.specs.declared.file_rows.FileRow.{FileRow}
use Rattle.droid_core.proofs.FileVerdicts.{its_assembly}
use Rattle.droid_core.proofs.Moments.{moments_found}

-- ---- of a file that was found

module _ (world : World) (number id : ℕ) (row : FileRow) (has : HasFile world number id row) where
  module _ (files : OpenFiles) (assembled : HasAssemblies world files) (is : is_unfinished row.node.state ≡ true) where
    its : IsOpenFor has.profile has.content (open_at number id files.files)
    its = its_assembly world number id row has files assembled is

    -- it has no assembly
    pub no_assembly : open_at number id files.files ≡ None → ⊥
    no_assembly none = let both = sym none ∙ its.there in absurd cc

    -- a piece of it is pending
    pub one_pending : (place : ℕ) → slice_get files.files place ≡ open_at number id files.files → At files place (λ file. IsSome file.pending) → ⊥
    one_pending place at_place pending =
        let some = pending its.file (at_place ∙ its.there) in
        let none = its.assembled.none_pending in
        absurd (let wrong = rw none at some in cc)

  -- its pieces can't be counted
  pub no_count : IsSoundWorld world → (0 < row.node.piece_size → piece_count row.node.item.size row.node.piece_size < 2 ^ 32 → ⊥) → ⊥
  no_count sound none =
      let sized = sound_sizes world number has.profile id has.parent has.modified has.name has.content sound has.there has.at in
      let cut = piece_size_within 2 has.content.piece_size sized.pieces in
      let whole = size_within has.content.size has.content.piece_size sized.whole in
      (rw (has.size_is, has.piece_size_is) at none) (omega (arith, cut.0)) (omega (arith, whole.1))

-- ---- of a profile

-- one of its records has a moment that can't be written
pub moments_written : (setting : Setting) (world : World) (old : Holdings) (store : Rows) (number : ℕ) (profile : Profile) → IsIn setting world old → store ≡ old.store → numbered world.profiles number ≡ Some profile → HaveMoments (records_of number store)
moments_written setting world old store number profile is_in same there =
    rw (same, records_found setting world old.store number profile is_in.rows.nodes there) (moments_found setting world number profile is_in.sound there)

-- a new node has an assembly already
pub no_file_yet : (world : World) (files : OpenFiles) (number id : ℕ) (profile : Profile) → HasAssemblies world files → numbered world.profiles number ≡ Some profile → id ≡ length profile.nodes + 1 → open_at number id files.files ≡ None
no_file_yet world files number id profile has there next =
    let its : HasItsAssemblyIn (Some profile) id (open_at number id files.files) = rw there at (has.each number id) in
    rw (numbered_past profile.nodes id (omega (arith, next))) at its

-- its scan limit is out of range
pub scan_limit_within : (world : World) (number : ℕ) (profile : Profile) → IsSoundWorld world → numbered world.profiles number ≡ Some profile → IsTrue (is_scan_limit profile.scan_limit)
scan_limit_within world number profile sound there = (sound_profile world number profile sound there).scan_limit
