-- Paths of nodes: what a node at the end, or one in another's place, leaves of them.
use Rattle.std.proofs.Common.{◌≡◌, ℕ, zero, suc, ◌+◌, ◌-◌, ◌<◌, ℕ, List, [], ◌∷◌, ◌++◌, length, slice_get, slice_set, Some, unwrap_or, refl, sym, ap, ◌∙◌, arith, length-append}
use Rattle.std.proofs.lemmas.List.Sums.{fold-append}
use Rattle.std.specs.Prelude.{fold, ℤ}
use Rattle.droid_core_spec.specs.World.{Content, Node, File, numbered, path_among, path_below, paths, path}
use Rattle.droid_core.proofs.Items.{numbered_before, numbered_last}

-- the paths after one node more
abbrev pub step : List (List ℕ) → Node → List (List ℕ)
step before node = before ++ path_below before node ∷ []

paths_more : (before : List (List ℕ)) (nodes : List Node) → length (fold step before nodes) ≡ length before + length nodes
paths_more before [] = omega arith
paths_more before (node ∷ nodes) =
    let rest = paths_more (step before node) nodes in
    let one = length-append before (path_below before node ∷ []) in
    omega arith

-- each node has a path
pub length_paths : (nodes : List Node) → length (paths nodes) ≡ length nodes
length_paths nodes = let it = paths_more [] nodes in omega arith

-- ---- a node at the end

pub paths_last : (nodes : List Node) (node : Node) → paths (nodes ++ node ∷ []) ≡ paths nodes ++ path_below (paths nodes) node ∷ []
paths_last nodes node = fold-append step [] nodes (node ∷ [])

-- the paths of the others stay
pub path_kept : (nodes : List Node) (node : Node) (id : ℕ) → id < length nodes + 1 → path (nodes ++ node ∷ []) id ≡ path nodes id
path_kept nodes node id less =
    ap (λ all. path_among all id) (paths_last nodes node)
    ∙ ap (λ found. unwrap_or found []) (numbered_before (paths nodes) (path_below (paths nodes) node ∷ []) id (let long = length_paths nodes in omega arith))

-- its own path is its folder's, then its name
pub path_last : (nodes : List Node) (node : Node) → path (nodes ++ node ∷ []) (length nodes + 1) ≡ path_below (paths nodes) node
path_last nodes node =
    ap (λ all. path_among all (length nodes + 1)) (paths_last nodes node)
    ∙ ap (λ found. unwrap_or found []) (numbered_last (paths nodes) (path_below (paths nodes) node) (length nodes + 1) (let long = length_paths nodes in omega arith))

-- ---- a node in another's place

-- one with the same folder and name leaves all paths
paths_as : (before : List (List ℕ)) (nodes : List Node) (place : ℕ) (old new : Node) → slice_get nodes place ≡ Some old
    → ((all : List (List ℕ)) → path_below all new ≡ path_below all old) → fold step before (slice_set nodes place new) ≡ fold step before nodes
paths_as before [] place old new is same = absurd cc
paths_as before (node ∷ nodes) zero old new is same =
    let here : node ≡ old = (let it : Some node ≡ Some old = is in cc) in
    ap (λ below. fold step (before ++ below ∷ []) nodes) (same before ∙ ap (path_below before) (sym here))
paths_as before (node ∷ nodes) (suc place) old new is same = paths_as (step before node) nodes place old new is same

pub paths_of_file : (nodes : List Node) (id parent : ℕ) (modified : ℤ) (name : List ℕ) (old new : Content) → numbered nodes id ≡ Some (File parent modified name old)
    → paths (slice_set nodes (id - 1) (File parent modified name new)) ≡ paths nodes
paths_of_file nodes zero parent modified name old new is = absurd cc
paths_of_file nodes (suc place) parent modified name old new is =
    let less : suc place - 1 ≡ place = omega arith in
    rw less (paths_as [] nodes place (File parent modified name old) (File parent modified name new) is (λ all. refl))
