-- What holds of a world and still holds after a request, by what it is refused for and what comes of it.
use Rattle.std.proofs.Common.{◌≡◌, ℕ, zero, suc, ℤ, List, Option, Some, None, refl}
use Rattle.std.specs.List.{AllByRecursion}
use Rattle.droid_frame.specs.declared.refusal.Refusal.{Refusal}
use Rattle.droid_core_spec.specs.Histories.{world_after}
use Rattle.droid_core_spec.specs.Judging.{Verdict, unless_refused, in_profile, in_file}
use Rattle.droid_core_spec.specs.World.{Content, Node, Folder, File, Abandoned, Profile, World, numbered, node_at, unless_abandoned}
use Rattle.droid_core_spec.proofs.Each.{each_at}

-- ---- a profile of a world, and a file of a profile

pub profile_there : (P : Profile → Type 0) (profiles : List Profile) (number : ℕ) (profile : Profile) → AllByRecursion P profiles → numbered profiles number ≡ Some profile → P profile
profile_there P profiles zero profile all is = absurd cc
profile_there P profiles (suc place) profile all is = each_at P profiles place profile all is

same_content : (found : Option Node) (parent : ℕ) (modified : ℤ) (name : List ℕ) (content : Content) → unless_abandoned found ≡ Some (File parent modified name content)
    → found ≡ Some (File parent modified name content)
same_content None parent modified name content is = absurd cc
same_content (Some (Folder p m n)) parent modified name content is = is
same_content (Some (File p m n c)) parent modified name content is = is
same_content (Some Abandoned) parent modified name content is = absurd cc

pub file_there : (P : Node → Type 0) (nodes : List Node) (id parent : ℕ) (modified : ℤ) (name : List ℕ) (content : Content) → AllByRecursion P nodes → node_at nodes id ≡ Some (File parent modified name content)
    → P (File parent modified name content)
file_there P nodes zero parent modified name content all is = absurd cc
file_there P nodes (suc place) parent modified name content all is =
    each_at P nodes place (File parent modified name content) all (same_content _ parent modified name content is)

-- ---- after a request

module _ (world : World) (P : World → Type 0) (before : P world) where
  pub after_checks : (refused : Option Refusal) (verdict : Verdict) → (refused ≡ None → P (world_after world verdict)) → P (world_after world (unless_refused refused verdict))
  after_checks (Some refusal) verdict accepted = before
  after_checks None verdict accepted = accepted refl

  pub after_profile : (found : Option Profile) (judge_there : Profile → Verdict) → ((profile : Profile) → found ≡ Some profile → P (world_after world (judge_there profile)))
      → P (world_after world (in_profile found judge_there))
  after_profile None judge_there there = before
  after_profile (Some profile) judge_there there = there profile refl

  pub after_file : (found : Option Node) (judge_there : ℕ → ℤ → List ℕ → Content → Verdict)
      → ((parent : ℕ) (modified : ℤ) (name : List ℕ) (content : Content) → found ≡ Some (File parent modified name content) → P (world_after world (judge_there parent modified name content)))
      → P (world_after world (in_file found judge_there))
  after_file None judge_there there = before
  after_file (Some (Folder parent modified name)) judge_there there = before
  after_file (Some (File parent modified name content)) judge_there there = there parent modified name content refl
  after_file (Some Abandoned) judge_there there = before
