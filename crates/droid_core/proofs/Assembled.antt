-- The assemblies of a world's unfinished files: which one a file has, and what is left of them after a node was put in
-- a file's place.
use Rattle.std.proofs.Common.{◌≡◌, inl, inr, ℕ, ◌+◌, ◌==◌, List, [], ◌∷◌, length, find, slice_get, Bool, true, false, Option, Some, None, refl, sym, subst, ◌∙◌, arith}
use Rattle.std.proofs.lemmas.Bool.{cases_Bool, eqb-true, eqb-false, ne_eqb, and_parts}
use Rattle.std.specs.Prelude.{ℤ, MatchBool}
use Rattle.droid_core_spec.specs.Files.{as_finished}
use Rattle.droid_core_spec.specs.Judging.{world_set, node_set}
use Rattle.droid_core_spec.specs.World.{Content, Node, Folder, File, Abandoned, Profile, World, numbered, node_at}
use Rattle.droid_core.proofs.InPlace.{at_file}
use Rattle.droid_core.proofs.Items.{numbered_set_same, numbered_set_other}
use Rattle.droid_core.proofs.UnfinishedRows.{weight, unfinished_set}
use Rattle.droid_core.specs.Files.{OpenFile, OpenFiles, IsAt, is_of, open_at}
use Rattle.droid_core.specs.Assemblies.{IsOpenFor, HasItsAssembly, HasItsAssemblyIn, HasAssemblies}

by_finished : (finished : Bool) (P Q R : Type 0) → MatchBool finished P Q → (Q → R) → MatchBool finished P R
by_finished true P Q R it turn = it
by_finished false P Q R it turn = turn it

unfinished_only : (finished : Bool) (P Q : Type 0) → finished ≡ false → MatchBool finished P Q → Q
unfinished_only true P Q isnt it = absurd cc
unfinished_only false P Q isnt it = it

-- ---- the assembly of a file

module _ (world : World) (files : OpenFiles) (has : HasAssemblies world files) (number : ℕ) (profile : Profile) (id parent : ℕ) (modified : ℤ) (name : List ℕ) (content : Content)
    (is : numbered world.profiles number ≡ Some profile) (there : node_at profile.nodes id ≡ Some (File parent modified name content)) where
  of_file : MatchBool content.finished (open_at number id files.files ≡ None) (IsOpenFor profile content (open_at number id files.files))
  of_file =
      let each = has.each number id in
      let here = at_file (numbered profile.nodes id) parent modified name content there in
      rw (is, here) at each

  -- an unfinished file has one
  pub assembly_of : content.finished ≡ false → IsOpenFor profile content (open_at number id files.files)
  assembly_of unfinished = unfinished_only content.finished _ _ unfinished of_file

-- which assembly a node has to have depends on its profile's scan limit and hash alone
same_assembly : (before after : Profile) (node : Option Node) (found : Option OpenFile) → before.scan_limit ≡ after.scan_limit → before.hash ≡ after.hash → HasItsAssembly before node found → HasItsAssembly after node found
same_assembly before after None found scan_limit hash has = has
same_assembly before after (Some (Folder parent modified name)) found scan_limit hash has = has
same_assembly before after (Some (File parent modified name content)) found scan_limit hash has = by_finished content.finished _ (IsOpenFor before content found) (IsOpenFor after content found) has (λ it. record {
  file = it.file;
  there = it.there;
  assembled = record {
    size = it.assembled.size;
    piece_size = it.assembled.piece_size;
    scan_limit = it.assembled.scan_limit ∙ scan_limit;
    hash = it.assembled.hash ∙ hash;
    pieces = it.assembled.pieces;
    none_pending = it.assembled.none_pending;
  };
})
same_assembly before after (Some Abandoned) found scan_limit hash has = has

-- ---- one node in the place of another

module _ (world : World) (number : ℕ) (profile : Profile) (id : ℕ) (before after : Node) (old new : OpenFiles) (has : HasAssemblies world old)
    (is : numbered world.profiles number ≡ Some profile) (there : numbered profile.nodes id ≡ Some before)
    (others : (that_number that_id : ℕ) → (that_number ≡ number → that_id ≡ id → ⊥) → open_at that_number that_id new.files ≡ open_at that_number that_id old.files)
    (here : HasItsAssembly (node_set profile id after) (Some after) (open_at number id new.files)) where
  in_profile : (that_id : ℕ) → HasItsAssembly (node_set profile id after) (numbered (node_set profile id after).nodes that_id) (open_at number that_id new.files)
  in_profile that_id = elim (cases_Bool (that_id == id)) [
    | inl equal ↦ let same : id ≡ that_id = sym (eqb-true that_id id equal) in
        subst (λ n. HasItsAssembly (node_set profile id after) (numbered (node_set profile id after).nodes n) (open_at number n new.files)) same
        (rw (numbered_set_same profile.nodes id before after there) here)
    | inr unequal ↦ let apart : that_id ≡ id → ⊥ = eqb-false that_id id unequal in
        let was : HasItsAssembly profile (numbered profile.nodes that_id) (open_at number that_id old.files) = (let each = has.each number that_id in rw is at each) in
        rw (numbered_set_other profile.nodes id that_id before after there apart, others number that_id (λ _ same. apart same))
        (same_assembly profile (node_set profile id after) (numbered profile.nodes that_id) (open_at number that_id old.files) refl refl was)
  ]

  each_after : (that_number that_id : ℕ) → HasItsAssemblyIn (numbered (world_set world number (node_set profile id after)).profiles that_number) that_id (open_at that_number that_id new.files)
  each_after that_number that_id = elim (cases_Bool (that_number == number)) [
    | inl equal ↦ let same : number ≡ that_number = sym (eqb-true that_number number equal) in
        subst (λ n. HasItsAssemblyIn (numbered (world_set world number (node_set profile id after)).profiles n) that_id (open_at n that_id new.files)) same
        (rw (numbered_set_same world.profiles number profile (node_set profile id after) is) (in_profile that_id))
    | inr unequal ↦ let apart : that_number ≡ number → ⊥ = eqb-false that_number number unequal in
        rw (numbered_set_other world.profiles number that_number profile (node_set profile id after) is apart, others that_number that_id (λ same _. apart same))
        (has.each that_number that_id)
  ]

  -- the node's assembly is as it has to be, and the others are as before
  pub assemblies_turned : length new.files + weight before ≡ length old.files + weight after → HasAssemblies (world_set world number (node_set profile id after)) new
  assemblies_turned count =
      let turned = unfinished_set world number profile is id before after there in
      let counted = has.count in
      record { each = each_after; count = omega (arith, turned, counted, count) }

-- ---- a file's assembly goes away

-- the file at the place was removed, and the others are found as before
pub record IsWithout (place : ℕ) (old new : OpenFiles) : Type 0 where
  pub gone : (file : OpenFile) → IsAt old.files place file → open_at file.profile file.file new.files ≡ None
  pub others : (file : OpenFile) (number id : ℕ) → IsAt old.files place file → is_of number id file ≡ false → open_at number id new.files ≡ open_at number id old.files
  pub count : length new.files + 1 ≡ length old.files
  pub limit : new.limit ≡ old.limit

found_is : {X : Type 0} (p : X → Bool) (xs : List X) (x : X) → find p xs ≡ Some x → p x ≡ true
found_is p [] x is = absurd cc
found_is p (y ∷ ys) x is = elim (cases_Bool (p y)) [
  | inl yes_it ↦ (let found : Some y ≡ Some x = rw yes_it at is in let same : y ≡ x = cc in rw same at yes_it)
  | inr not_it ↦ found_is p ys x (rw not_it at is)
]

module _ (world : World) (number : ℕ) (profile : Profile) (id parent : ℕ) (modified : ℤ) (name : List ℕ) (content : Content) (old new : OpenFiles) (place : ℕ) (has : HasAssemblies world old)
    (is : numbered world.profiles number ≡ Some profile) (there : node_at profile.nodes id ≡ Some (File parent modified name content)) (unfinished : content.finished ≡ false)
    (at_place : slice_get old.files place ≡ open_at number id old.files) (removed : IsWithout place old new) where
  without : (after : Node) → weight after ≡ 0 → ((found : Option OpenFile) → found ≡ None → HasItsAssembly (node_set profile id after) (Some after) found)
      → HasAssemblies (world_set world number (node_set profile id after)) new
  without after weightless has_none =
      let before = File parent modified name content in
      let its = assembly_of world old has number profile id parent modified name content is there unfinished in
      let file = its.file in
      let file_there : IsAt old.files place file = at_place ∙ its.there in
      let parts = and_parts (file.profile == number) (file.file == id) (found_is (is_of number id) old.files file its.there) in
      let of_number : file.profile ≡ number = eqb-true file.profile number parts.0 in
      let of_id : file.file ≡ id = eqb-true file.file id parts.1 in
      let none : open_at number id new.files ≡ None = (let it = removed.gone file file_there in rw (of_number, of_id) at it) in
      let weighs : weight before ≡ 1 = rw unfinished refl in
      assemblies_turned world number profile id before after old new has is (at_file (numbered profile.nodes id) parent modified name content there)
      (λ that_number that_id apart. removed.others file that_number that_id file_there (another file that_number that_id (λ one two. apart (sym one ∙ of_number) (sym two ∙ of_id))))
      (has_none (open_at number id new.files) none)
      (omega (arith, weightless, weighs, removed.count))
    where
      another : (file : OpenFile) (that_number that_id : ℕ) → (file.profile ≡ that_number → file.file ≡ that_id → ⊥) → is_of that_number that_id file ≡ false
      another file that_number that_id apart = elim (cases_Bool (file.profile == that_number)) [
        | inl same ↦ rw same (ne_eqb file.file that_id (apart (eqb-true file.profile that_number same)))
        | inr other ↦ rw other refl
      ]

  -- the file was abandoned
  pub assemblies_abandoned : HasAssemblies (world_set world number (node_set profile id Abandoned)) new
  assemblies_abandoned = without Abandoned refl (λ found none. none)

  -- the file was finished
  pub assemblies_finished : HasAssemblies (world_set world number (node_set profile id (File parent modified name (as_finished content)))) new
  assemblies_finished = without (File parent modified name (as_finished content)) refl (λ found none. none)
