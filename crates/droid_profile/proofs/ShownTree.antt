-- The records of the nodes of a tree, folder by folder.
use Rattle.std.proofs.Common.{◌≡◌, ℕ, ◌+◌, List, [], ◌∷◌, ◌++◌, length, map, length-append, refl, sym, ap, subst, ◌∙◌, append_assoc, arith}
use Rattle.std.specs.List.{flat_map, AllByRecursion}
use Rattle.std.proofs.lemmas.List.Sums.{fold-append}
use Rattle.droid_core_spec.specs.Records.{records_from}
use Rattle.droid_core_spec.specs.Setting.{Setting}
use Rattle.droid_core_spec.specs.World.{Node, paths, path_below}
use Rattle.droid_frame.specs.declared.record.Record.{Record}
use Rattle.droid_pronom.specs.Registry.{Contents}
use Rattle.droid_tree.specs.declared.pending_folder.PendingFolder.{PendingFolder}
use Rattle.droid_profile.specs.Kids.{Kid, numbers_in, subfolders_of_kid}
use Rattle.droid_profile.specs.ProfileNodes.{AreNodesOf, Identifies, Lying, all_lying, lying_in}
use Rattle.droid_profile.specs.ProfileRecords.{records_of, records_of_kid, records_of_visit}
use Rattle.droid_profile.specs.Visits.{Follow, InTurn, Visit, numbers_of, subfolders_of}
use Rattle.droid_profile.specs.declared.options.Options.{Options}
use Rattle.droid_profile.proofs.NodePaths.{Grows, Known, grows, known_later, with_paths}
use Rattle.droid_profile.proofs.ShownEntries.{kid_shown, records_append, whole}

-- what holds of all of two lists
all_append : {A : Type 0} (P : A → Type 0) (xs ys : List A) → AllByRecursion P xs → AllByRecursion P ys → AllByRecursion P (xs ++ ys)
all_append P [] ys all more = more
all_append P (x ∷ xs) ys all more = (all.0, all_append P xs ys all.1 more)

all_later : (before after : List (List ℕ)) (folders : List PendingFolder) → Grows before after → AllByRecursion (Known before) folders → AllByRecursion (Known after) folders
all_later before after [] more all = tt
all_later before after (folder ∷ folders) more all = (known_later before after folder more all.0, all_later before after folders more all.1)

-- paths that grow twice
grows_twice : (first middle last : List (List ℕ)) → Grows first middle → Grows middle last → Grows first last
grows_twice first middle last one two = record {
  more = one.more ++ two.more;
  are = two.are ∙ (ap (λ (l : List (List ℕ)). l ++ two.more) one.are ∙ append_assoc first one.more two.more);
}

paths_append : (before : List (List ℕ)) (xs ys : List Node) → with_paths before (xs ++ ys) ≡ with_paths (with_paths before xs) ys
paths_append before xs ys = fold-append (λ (l : List (List ℕ)) (node : Node). l ++ path_below l node ∷ []) before xs ys

-- the nodes of two lists of entries
pub record Splits (xs ys : List Lying) (nodes : List Node) : Type 0 where
  pub its : List Node
  pub rest : List Node
  pub are : nodes ≡ its ++ rest
  pub first : AreNodesOf xs its
  pub more : AreNodesOf ys rest

split : (xs ys : List Lying) (nodes : List Node) → AreNodesOf (xs ++ ys) nodes → Splits xs ys nodes
split [] ys nodes are = record { its = []; rest = nodes; are = refl; first = refl; more = are }
split (x ∷ xs) ys nodes are =
    let next = split xs ys are.1 are.4 in
    record {
      its = are.0 ++ next.its;
      rest = next.rest;
      are = are.3 ∙ (ap (λ (l : List Node). are.0 ++ l) next.are ∙ sym (append_assoc are.0 next.its next.rest));
      first = (are.0, next.its, are.2, refl, next.first);
      more = next.more;
    }

module _ (registry : Contents) (setting : Setting) (options : Options) (identifies : Identifies registry setting) (nodes : List Node) where
  -- the entries of one folder
  pub record ShowsKids (folder : PendingFolder) (kids : List Kid) (its : List Node) (before : List (List ℕ)) (more : List ℕ) : Type 0 where
    pub shown : records_from setting (whole options nodes) (length before + 1) its ≡ flat_map (records_of_kid registry options folder) kids
    pub known : AllByRecursion (Known (with_paths before its)) (flat_map (subfolders_of_kid folder.path) kids)
    pub counted : length (with_paths before its) ≡ length before + length its
    pub follow : Follow (length (with_paths before its)) more

  pub kids_shown : (folder : PendingFolder) (kids : List Kid) (its : List Node) (before : List (List ℕ)) (more : List ℕ) → Known before folder → AreNodesOf (map (λ (kid : Kid). (folder, kid)) kids) its
      → Follow (length before) (flat_map numbers_in kids ++ more) → Grows (with_paths before its) (paths nodes) → ShowsKids folder kids its before more
  kids_shown folder [] its before more known are follow all =
      let same : with_paths before its ≡ before = ap (with_paths before) are in
      record {
        shown = ap (records_from setting (whole options nodes) (length before + 1)) are;
        known = tt;
        counted = omega (arith, ap length same, ap length are);
        follow = subst (λ (l : List (List ℕ)). Follow (length l) more) (sym same) follow;
      }
  kids_shown folder (kid ∷ kids) its before more known are follow all =
      let own = are.0 in
      let rest = are.1 in
      let then : List (List ℕ) = with_paths before own in
      let split_paths : with_paths before its ≡ with_paths then rest = ap (with_paths before) are.3 ∙ paths_append before own rest in
      let end : Grows (with_paths then rest) (paths nodes) = subst (λ (l : List (List ℕ)). Grows l (paths nodes)) split_paths all in
      let first = kid_shown registry setting options identifies nodes folder before known (flat_map numbers_in kids ++ more) kid own are.2
      (subst (Follow (length before)) (append_assoc (numbers_in kid) (flat_map numbers_in kids) more) follow)
      (grows_twice then (with_paths then rest) (paths nodes) (grows then rest) end) in
      let next = kids_shown folder kids rest then more (known_later before then folder (grows before own) known) are.4 first.follow end in
      let at : (length before + 1) + length own ≡ length then + 1 = omega (arith, first.counted) in
      record {
        shown = ap (records_from setting (whole options nodes) (length before + 1)) are.3
            ∙ (records_append setting (whole options nodes) (length before + 1) own rest
            ∙ (ap (λ (k : ℕ). records_from setting (whole options nodes) (length before + 1) own ++ records_from setting (whole options nodes) k rest) at
            ∙ (ap (λ (l : List Record). l ++ records_from setting (whole options nodes) (length then + 1) rest) first.shown
            ∙ ap (λ (l : List Record). records_of_kid registry options folder kid ++ l) next.shown)));
        known = all_append (Known (with_paths before its)) (subfolders_of_kid folder.path kid) (flat_map (subfolders_of_kid folder.path) kids)
            (subst (λ (l : List (List ℕ)). AllByRecursion (Known l) (subfolders_of_kid folder.path kid)) (sym split_paths) (all_later then (with_paths then rest) (subfolders_of_kid folder.path kid) (grows then rest) first.known))
            (subst (λ (l : List (List ℕ)). AllByRecursion (Known l) (flat_map (subfolders_of_kid folder.path) kids)) (sym split_paths) next.known);
        counted = omega (arith, ap length split_paths, next.counted, first.counted, ap length are.3, length-append own rest);
        follow = subst (λ (l : List (List ℕ)). Follow (length l) more) (sym split_paths) next.follow;
      }

  pub visits_shown : (visits : List Visit) (waiting left : List PendingFolder) (its : List Node) (before : List (List ℕ)) → InTurn waiting visits left → AllByRecursion (Known before) waiting
      → Follow (length before) (flat_map numbers_of visits) → AreNodesOf (all_lying visits) its → Grows (with_paths before its) (paths nodes)
      → records_from setting (whole options nodes) (length before + 1) its ≡ records_of registry options visits
  visits_shown [] waiting left its before turn known follow are all = ap (records_from setting (whole options nodes) (length before + 1)) are
  visits_shown (visit ∷ visits) [] left its before turn known follow are all = absurd turn
  visits_shown (visit ∷ visits) (folder ∷ waiting) left its before turn known follow are all =
      let parts = split (lying_in visit) (all_lying visits) its are in
      let then : List (List ℕ) = with_paths before parts.its in
      let split_paths : with_paths before its ≡ with_paths then parts.rest = ap (with_paths before) parts.are ∙ paths_append before parts.its parts.rest in
      let end : Grows (with_paths then parts.rest) (paths nodes) = subst (λ (l : List (List ℕ)). Grows l (paths nodes)) split_paths all in
      let first = kids_shown visit.folder visit.kids parts.its before (flat_map numbers_of visits) (subst (Known before) (sym turn.0) known.0) parts.first follow
      (grows_twice then (with_paths then parts.rest) (paths nodes) (grows then parts.rest) end) in
      let rest = visits_shown visits (waiting ++ subfolders_of visit) left parts.rest then turn.1
      (all_append (Known then) waiting (subfolders_of visit) (all_later before then waiting (grows before parts.its) known.1) first.known) first.follow parts.more end in
      let at : (length before + 1) + length parts.its ≡ length then + 1 = omega (arith, first.counted) in
      ap (records_from setting (whole options nodes) (length before + 1)) parts.are
      ∙ (records_append setting (whole options nodes) (length before + 1) parts.its parts.rest
      ∙ (ap (λ (k : ℕ). records_from setting (whole options nodes) (length before + 1) parts.its ++ records_from setting (whole options nodes) k parts.rest) at
      ∙ (ap (λ (l : List Record). l ++ records_from setting (whole options nodes) (length then + 1) parts.rest) first.shown
      ∙ ap (λ (l : List Record). records_of_visit registry options visit ++ l) rest)))
