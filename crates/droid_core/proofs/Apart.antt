-- Paths of nodes of which one was abandoned, where no node lies in it.
use Rattle.std.proofs.Common.{◌≡◌, inl, inr, ℕ, zero, suc, ◌+◌, ◌-◌, ◌<◌, ◌==◌, List, [], ◌∷◌, ◌++◌, length, slice_set, true, false, Some, None, unwrap_or, refl, sym, ap, subst, ◌∙◌, arith, length-append}
use Rattle.std.proofs.lemmas.Bool.{cases_Bool, ltb-true, ltb-false, eqb-true, eqb-false}
use Rattle.std.specs.List.{AllByRecursion}
use Rattle.std.specs.Prelude.{IsTrue, ℤ, fold, nat_lt}
use Rattle.droid_core_spec.specs.World.{Content, Node, Folder, File, Abandoned, node_at, path_among, path_below, path}
use Rattle.droid_core.specs.Sound.{is_folder, IsPlace, IsSoundNode}
use Rattle.droid_core.proofs.Items.{numbered_before, numbered_last, numbered_past}
use Rattle.droid_core.proofs.NodePaths.{step}

-- the node doesn't lie in the one with this number
abbrev IsApart : ℕ → Node → Type 0
IsApart id (Folder parent modified name) = parent ≡ id → ⊥
IsApart id (File parent modified name content) = parent ≡ id → ⊥
IsApart id Abandoned = Unit {0}

-- as many paths, and the same but that with this number
abbrev AreAlike : ℕ → List (List ℕ) → List (List ℕ) → Type 0
AreAlike id these those = (length these ≡ length those) × ((other : ℕ) → (other ≡ id → ⊥) → path_among these other ≡ path_among those other)

below_alike : (id : ℕ) (these those : List (List ℕ)) (node : Node) → AreAlike id these those → IsApart id node → path_below these node ≡ path_below those node
below_alike id these those (Folder parent modified name) alike apart = ap (λ way. way ++ 47 ∷ name) (alike.1 parent apart)
below_alike id these those (File parent modified name content) alike apart = ap (λ way. way ++ 47 ∷ name) (alike.1 parent apart)
below_alike id these those Abandoned alike apart = refl

-- ---- one path more

among_last : (ways : List (List ℕ)) (way : List ℕ) (id : ℕ) → (id < length ways + 1 → path_among (ways ++ way ∷ []) id ≡ path_among ways id)
    × (id ≡ length ways + 1 → path_among (ways ++ way ∷ []) id ≡ way) × (length ways + 1 < id → path_among (ways ++ way ∷ []) id ≡ [])
among_last ways way id = (
  λ less. ap (λ found. unwrap_or found []) (numbered_before ways (way ∷ []) id less),
  λ last. ap (λ found. unwrap_or found []) (numbered_last ways way id last),
  λ past. let long = length-append ways (way ∷ []) in ap (λ found. unwrap_or found []) (numbered_past (ways ++ way ∷ []) id (omega arith)),
)

alike_last : (id : ℕ) (these those : List (List ℕ)) (this that : List ℕ) → AreAlike id these those → ((length these + 1 ≡ id → ⊥) → this ≡ that) → AreAlike id (these ++ this ∷ []) (those ++ that ∷ [])
alike_last id these those this that alike same =
    let long = length-append these (this ∷ []) in
    let as_long = length-append those (that ∷ []) in
    let counts = alike.0 in (
      omega arith,
      λ other apart. elim (cases_Bool (nat_lt other (length these + 1))) [
        | inl low ↦ let less = ltb-true other (length these + 1) low in
            (among_last these this other).0 less ∙ alike.1 other apart ∙ sym ((among_last those that other).0 (omega arith))
        | inr high ↦ let least = ltb-false other (length these + 1) high in
            elim (cases_Bool (other == length these + 1)) [
              | inl is ↦ let last = eqb-true other (length these + 1) is in
                  (among_last these this other).1 last ∙ same (λ here. apart (last ∙ here)) ∙ sym ((among_last those that other).1 (omega arith))
              | inr isnt ↦ let past : length these + 1 < other = omega (arith, eqb-false other (length these + 1) isnt) in
                  (among_last these this other).2 past ∙ sym ((among_last those that other).2 (omega arith))
            ]
      ],
    )

-- ---- nodes that all lie elsewhere

rest_alike : (id : ℕ) (nodes : List Node) (these those : List (List ℕ)) → AllByRecursion (IsApart id) nodes → AreAlike id these those → AreAlike id (fold step these nodes) (fold step those nodes)
rest_alike id [] these those apart alike = alike
rest_alike id (node ∷ nodes) these those apart alike =
    rest_alike id nodes (step these node) (step those node) apart.1 (alike_last id these those (path_below these node) (path_below those node) alike (λ other. below_alike id these those node alike apart.0))

set_alike : (id place : ℕ) (nodes : List Node) (new : Node) (before : List (List ℕ)) → AllByRecursion (IsApart id) nodes → length before + 1 + place ≡ id
    → AreAlike id (fold step before nodes) (fold step before (slice_set nodes place new))
set_alike id place [] new before apart at_id = (refl, λ other elsewhere. refl)
set_alike id zero (node ∷ nodes) new before apart at_id =
    let here : length before + 1 ≡ id = omega arith in
    rest_alike id nodes (step before node) (step before new) apart.1
    (alike_last id before before (path_below before node) (path_below before new) (refl, λ other elsewhere. refl) (λ other. absurd (other here)))
set_alike id (suc place) (node ∷ nodes) new before apart at_id =
    let long = length-append before (path_below before node ∷ []) in
    set_alike id place nodes new (step before node) apart.1 (omega arith)

-- ---- sound nodes lie in folders, and so in no file

no_folder : (nodes : List Node) (id parent : ℕ) (its_parent : ℕ) (modified : ℤ) (name : List ℕ) (content : Content) → node_at nodes id ≡ Some (File its_parent modified name content) → IsPlace nodes parent
    → parent ≡ id → ⊥
no_folder nodes id zero its_parent modified name content is place same =
    let none : None ≡ Some (File its_parent modified name content) = subst (λ n. node_at nodes n ≡ Some (File its_parent modified name content)) (sym same) is in
    absurd cc
no_folder nodes id (suc parent) its_parent modified name content is place same =
    let file : node_at nodes (suc parent) ≡ Some (File its_parent modified name content) = subst (λ n. node_at nodes n ≡ Some (File its_parent modified name content)) (sym same) is in
    let wrong : false ≡ true = subst (λ found. IsTrue (is_folder found)) file place in absurd cc

apart_nodes : (nodes : List Node) (id its_parent : ℕ) (modified : ℤ) (name : List ℕ) (content : Content) → node_at nodes id ≡ Some (File its_parent modified name content)
    → (some : List Node) → AllByRecursion (IsSoundNode nodes) some → AllByRecursion (IsApart id) some
apart_nodes nodes id its_parent modified name content is [] sound = tt
apart_nodes nodes id its_parent modified name content is (Folder parent when called ∷ some) sound =
    (no_folder nodes id parent its_parent modified name content is sound.0.0, apart_nodes nodes id its_parent modified name content is some sound.1)
apart_nodes nodes id its_parent modified name content is (File parent when called what ∷ some) sound =
    (no_folder nodes id parent its_parent modified name content is sound.0.0, apart_nodes nodes id its_parent modified name content is some sound.1)
apart_nodes nodes id its_parent modified name content is (Abandoned ∷ some) sound = (tt, apart_nodes nodes id its_parent modified name content is some sound.1)

-- a node in the place of a file leaves the other paths, where all nodes are sound
pub path_elsewhere : (nodes : List Node) (id parent : ℕ) (modified : ℤ) (name : List ℕ) (content : Content) (new : Node) → node_at nodes id ≡ Some (File parent modified name content) → AllByRecursion (IsSoundNode nodes) nodes
    → (other : ℕ) → (other ≡ id → ⊥) → path nodes other ≡ path (slice_set nodes (id - 1) new) other
path_elsewhere nodes zero parent modified name content new is sound other apart = absurd cc
path_elsewhere nodes (suc place) parent modified name content new is sound other apart =
    let less : suc place - 1 ≡ place = omega arith in
    rw less ((set_alike (suc place) place nodes new [] (apart_nodes nodes (suc place) parent modified name content is nodes sound) (omega arith)).1 other apart)
