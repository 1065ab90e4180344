-- A file that was announced with pieces that version 1 allows has an assembly with such pieces.
use Rattle.std.proofs.Common.{◌≡◌, ◌≤◌, ◌<◌, ℕ, Bool, true, false, cond, inl, inr, length, slice_get, Option, Some, None, IfSome, sym, ◌∙◌, arith}
use Rattle.std.proofs.lemmas.Option.{slice_get_cases}
use Rattle.std.specs.Prelude.{MatchBool}
use Rattle.droid_core.specs.KeptBytes.{of_node, in_profile, piece_size_of}
use Rattle.droid_core_spec.specs.World.{Content, Node, Folder, File, Abandoned, Profile, World, numbered, unless_abandoned}
use Rattle.droid_core.specs.Files.{OpenFile, OpenFiles, At, open_at}
use Rattle.droid_core.specs.Assemblies.{IsOpenFor, HasItsAssembly, HasItsAssemblyIn, HasAssemblies}

module _ (file : OpenFile) where
  abbrev AreSmall : Option ℕ → Type 0
  AreSmall size = IfSome size (λ n. n ≤ 1048576)

  by_finished : (finished : Bool) (profile : Profile) (content : Content) → MatchBool finished (Some file ≡ None) (IsOpenFor profile content (Some file))
      → AreSmall (cond finished None (Some content.piece_size)) → file.assembly.piece_size ≤ 1048576
  by_finished true profile content its small = absurd cc
  by_finished false profile content its small =
      let same : file ≡ its.file = cc in
      rw (same, its.assembled.piece_size) small

  by_node : (profile : Profile) (node : Option Node) → HasItsAssembly profile node (Some file) → AreSmall (of_node (λ profile content. content.piece_size) profile (unless_abandoned node))
      → file.assembly.piece_size ≤ 1048576
  by_node profile None its small = absurd cc
  by_node profile (Some (Folder parent modified name)) its small = absurd cc
  by_node profile (Some (File parent modified name content)) its small = by_finished content.finished profile content its small
  by_node profile (Some Abandoned) its small = absurd cc

  by_profile : (profile : Option Profile) (id : ℕ) → HasItsAssemblyIn profile id (Some file) → AreSmall (in_profile (λ profile content. content.piece_size) profile id) → file.assembly.piece_size ≤ 1048576
  by_profile None id its small = absurd cc
  by_profile (Some profile) id its small = by_node profile (numbered profile.nodes id) its small

pub small_assembly : (world : World) (files : OpenFiles) (number id : ℕ) (file : OpenFile) → HasAssemblies world files → open_at number id files.files ≡ Some file
    → IfSome (piece_size_of world number id) (λ n. n ≤ 1048576) → file.assembly.piece_size ≤ 1048576
small_assembly world files number id file has there small = by_profile file (numbered world.profiles number) id (rw there at (has.each number id)) small

-- what holds of the file at its place where its pieces are small holds of it in such a world
pub bounded_there : (world : World) (files : OpenFiles) (number id place kept most : ℕ) → HasAssemblies world files → place < length files.files → slice_get files.files place ≡ open_at number id files.files
    → At files place (λ file. file.piece_size ≤ 1048576 → kept ≤ most) → IfSome (piece_size_of world number id) (λ n. n ≤ 1048576) → kept ≤ most
bounded_there world files number id place kept most has within at_place bound small = elim (slice_get_cases files.files place).1 [
  | inl there ↦ bound there.0 there.2 (small_assembly world files number id there.0 has (sym at_place ∙ there.2) small)
  | inr past ↦ absurd (let end = past.0 in omega (arith, end, within))
]
