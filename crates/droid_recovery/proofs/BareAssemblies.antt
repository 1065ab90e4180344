-- The assemblies after a bare file was finished: its own is gone, and the others are as before.
use Rattle.std.proofs.Common.{◌≡◌, inl, inr, ℕ, ◌==◌, List, [], slice_get, false, Some, None, refl, sym, ◌∙◌, arith}
use Rattle.std.proofs.lemmas.Bool.{cases_Bool, eqb-true, ne_eqb}
use Rattle.std.specs.Prelude.{ℤ}
use Rattle.droid_core.proofs.FilesLookedUp.{key_found}
use Rattle.droid_core.specs.Files.{OpenFile, OpenFiles, IsAt, is_of, open_at}
use Rattle.droid_core.proofs.Assembled.{IsWithout, assembly_of, assemblies_turned}
use Rattle.droid_core_spec.specs.Files.{as_finished}
use Rattle.droid_core_spec.specs.Judging.{world_set, node_set}
use Rattle.droid_core_spec.specs.World.{Content, File, Profile, World, numbered, node_at}
use Rattle.droid_core.proofs.InPlace.{at_file}
use Rattle.droid_core.proofs.UnfinishedRows.{weight}
use Rattle.droid_core.specs.Assemblies.{HasAssemblies}

another : (file : OpenFile) (that_number that_id : ℕ) → (file.profile ≡ that_number → file.file ≡ that_id → ⊥) → is_of that_number that_id file ≡ false
another file that_number that_id apart = elim (cases_Bool (file.profile == that_number)) [
  | inl same ↦ rw same (ne_eqb file.file that_id (apart (eqb-true file.profile that_number same)))
  | inr other ↦ rw other refl
]

pub bare_assembly_gone : (world : World) (number : ℕ) (profile : Profile) (id parent : ℕ) (modified : ℤ) (name : List ℕ) (content : Content) (old new : OpenFiles) (place : ℕ)
    → HasAssemblies world old → numbered world.profiles number ≡ Some profile → node_at profile.nodes id ≡ Some (File parent modified name (record content { pieces = [] })) → content.finished ≡ false
    → slice_get old.files place ≡ open_at number id old.files → IsWithout place old new
    → HasAssemblies (world_set world number (node_set profile id (File parent modified name (as_finished content)))) new
bare_assembly_gone world number profile id parent modified name content old new place has is there unfinished at_place removed =
    let bare : Content = record content { pieces = [] } in
    let before = File parent modified name bare in
    let after = File parent modified name (as_finished content) in
    let its = assembly_of world old has number profile id parent modified name bare is there unfinished in
    let file = its.file in
    let file_there : IsAt old.files place file = at_place ∙ its.there in
    let key = key_found number id old.files file its.there in
    let none : open_at number id new.files ≡ None = (let it = removed.gone file file_there in rw (key.0, key.1) at it) in
    let weighs : weight before ≡ 1 = rw unfinished refl in
    let weightless : weight after ≡ 0 = refl in
    assemblies_turned world number profile id before after old new has is (at_file (numbered profile.nodes id) parent modified name bare there)
    (λ that_number that_id apart. removed.others file that_number that_id file_there (another file that_number that_id (λ one two. apart (sym one ∙ key.0) (sym two ∙ key.1))))
    none
    (omega (arith, weightless, weighs, removed.count))
