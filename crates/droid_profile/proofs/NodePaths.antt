-- The paths of nodes, one node after the other.
use Rattle.std.proofs.Common.{◌≡◌, ℕ, zero, suc, ◌+◌, ◌≤◌, List, [], ◌∷◌, ◌++◌, length, fold, length-append, refl, sym, ap, ◌∙◌, append-nil, append_assoc, arith}
use Rattle.std.proofs.lemmas.List.{get_or_append_left, get_or_at}
use Rattle.std.proofs.lemmas.Option.{unwrap_or-slice_get}
use Rattle.droid_core_spec.specs.World.{Node, path_among, path_below}
use Rattle.droid_tree.specs.Paths.{top}
use Rattle.droid_tree.specs.declared.pending_folder.PendingFolder.{PendingFolder}

-- a path that is there stays where it is
pub path_front : (paths more : List (List ℕ)) (id : ℕ) → id ≤ length paths → path_among (paths ++ more) id ≡ path_among paths id
path_front paths more zero within = refl
path_front paths more (suc place) within =
    unwrap_or-slice_get (paths ++ more) place [] ∙ (get_or_append_left paths more [] place (omega (arith, within)) ∙ sym (unwrap_or-slice_get paths place []))

-- the next number is that of the next path
pub path_next : (paths : List (List ℕ)) (path : List ℕ) (more : List (List ℕ)) (id : ℕ) → id ≡ length paths + 1 → path_among (paths ++ path ∷ more) id ≡ path
path_next paths path more zero is = absurd (omega (arith, is))
path_next paths path more (suc place) is =
    unwrap_or-slice_get (paths ++ path ∷ more) place [] ∙ get_or_at paths path more [] place (omega (arith, is))

-- the paths with those of these nodes
abbrev pub with_paths : List (List ℕ) → List Node → List (List ℕ)
with_paths paths nodes = fold (λ before node. before ++ path_below before node ∷ []) paths nodes

-- the paths that are there come first
pub record Grows (before after : List (List ℕ)) : Type 0 where
  pub more : List (List ℕ)
  pub are : after ≡ before ++ more

pub grows : (paths : List (List ℕ)) (nodes : List Node) → Grows paths (with_paths paths nodes)
grows paths [] = record { more = []; are = sym (append-nil paths) }
grows paths (node ∷ nodes) =
    let rest = grows (paths ++ path_below paths node ∷ []) nodes in
    record { more = path_below paths node ∷ rest.more; are = rest.are ∙ append_assoc paths (path_below paths node ∷ []) rest.more }

pub path_stays : (before after : List (List ℕ)) (id : ℕ) → Grows before after → id ≤ length before → path_among after id ≡ path_among before id
path_stays before after id more within = ap (λ (l : List (List ℕ)). path_among l id) more.are ∙ path_front before more.more id within

pub grows_length : (before after : List (List ℕ)) → Grows before after → length before ≤ length after
grows_length before after more = omega (arith, ap length more.are, length-append before more.more)

-- the folder's path is among these, at its number
pub record Known (paths : List (List ℕ)) (folder : PendingFolder) : Type 0 where
  pub there : folder.number ≤ length paths
  pub its : path_among paths folder.number ≡ folder.path

pub known_later : (before after : List (List ℕ)) (folder : PendingFolder) → Grows before after → Known before folder → Known after folder
known_later before after folder more known = record {
  there = omega (arith, known.there, grows_length before after more);
  its = path_stays before after folder.number more known.there ∙ known.its;
}

pub known_top : Known [] top
known_top = record { there = omega arith; its = refl }
