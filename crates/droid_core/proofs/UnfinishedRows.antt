-- How many files of the world are unfinished after a command.
use Rattle.std.proofs.Common.{◌≡◌, ℕ, zero, suc, ◌+◌, ◌-◌, List, [], ◌∷◌, ◌++◌, cond, Some, slice_get, slice_set, sum_by, count_by, ap, arith}
use Rattle.std.proofs.lemmas.List.Sums.{sum_by_push, sum_by-cons}
use Rattle.droid_core_spec.specs.Files.{is_unfinished, unfinished_in}
use Rattle.droid_core_spec.specs.Judging.{world_set, with_node, node_set}
use Rattle.droid_core_spec.specs.World.{Node, Profile, World, world_with, numbered}

-- what a node adds to the count
abbrev pub weight : Node → ℕ
weight node = cond (is_unfinished node) 1 0

-- the unfinished files of one profile
abbrev pub unfinished_of : Profile → ℕ
unfinished_of profile = count_by is_unfinished profile.nodes

-- a sum with one element changed
sum_changed : {X : Type 0} (f : X → ℕ) (xs : List X) (place : ℕ) (old new : X) → slice_get xs place ≡ Some old → sum_by f (slice_set xs place new) + f old ≡ sum_by f xs + f new
sum_changed f [] place old new is = absurd cc
sum_changed f (x ∷ xs) zero old new is =
    let same : x ≡ old = cc in
    rw (sum_by-cons f x xs, sum_by-cons f new xs, same) (omega arith)
sum_changed f (x ∷ xs) (suc place) old new is =
    let rest = sum_changed f xs place old new is in
    rw (sum_by-cons f x xs, sum_by-cons f x (slice_set xs place new)) (omega (arith, rest))

-- the element with this number, counted from 1
sum_numbered : {X : Type 0} (f : X → ℕ) (xs : List X) (number : ℕ) (old new : X) → numbered xs number ≡ Some old → sum_by f (slice_set xs (number - 1) new) + f old ≡ sum_by f xs + f new
sum_numbered f xs zero old new is = absurd cc
sum_numbered f xs (suc place) old new is =
    let here : suc place - 1 ≡ place = omega arith in
    rw here (sum_changed f xs place old new is)

pub unfinished_made : (world : World) (fresh : Profile) → fresh.nodes ≡ [] → unfinished_in (world_with world (world.profiles ++ fresh ∷ [])) ≡ unfinished_in world
unfinished_made world fresh empty =
    let more = sum_by_push unfinished_of world.profiles fresh in
    let none : unfinished_of fresh ≡ 0 = ap (count_by is_unfinished) empty in
    omega (arith, more, none)

module _ (world : World) (number : ℕ) (profile : Profile) (is : numbered world.profiles number ≡ Some profile) where
  pub unfinished_added : (node : Node) → unfinished_in (world_set world number (with_node profile node)) ≡ unfinished_in world + weight node
  unfinished_added node =
      let one = sum_by_push weight profile.nodes node in
      let all = sum_numbered unfinished_of world.profiles number profile (with_node profile node) is in
      omega (arith, one, all)

  pub unfinished_set : (id : ℕ) (before after : Node) → numbered profile.nodes id ≡ Some before → unfinished_in (world_set world number (node_set profile id after)) + weight before ≡ unfinished_in world + weight after
  unfinished_set id before after there =
      let one = sum_numbered weight profile.nodes id before after there in
      let all = sum_numbered unfinished_of world.profiles number profile (node_set profile id after) is in
      omega (arith, one, all)
