-- Where everything was taken, each entry that was listed is a node.
use Rattle.std.proofs.Common.{◌≡◌, ℕ, ◌==◌, ◌&&◌, Bool, true, List, [], ◌∷◌, ◌++◌, Option, Some, None, length, map, refl, sym, subst, append-nil, arith}
use Rattle.std.specs.Prelude.{IsPermutation, is_some}
use Rattle.std.specs.List.{flat_map, list_all, AllByRecursion, Contains}
use Rattle.std.proofs.lemmas.Bool.{and_parts}
use Rattle.std.proofs.lemmas.Bool.Decides.{nat_tests}
use Rattle.std.proofs.lemmas.List.Elements.{All-contains, All-from_recursion, Contains-append_left, Contains-append_right, Contains-push}
use Rattle.std.proofs.lemmas.List.Sorted.{Contains-permutation}
use Rattle.droid_tree.specs.Listings.{AreThose}
use Rattle.droid_tree.specs.Paths.{below}
use Rattle.droid_tree.specs.declared.folder_entry.FolderEntry.{FolderEntry}
use Rattle.droid_tree.specs.declared.folder_entry.EntryKind.TheVariants as kinds
use Rattle.droid_upload.specs.FolderVisits.{Visit, IsVisit, is_whole, nodes_of_visit}
use Rattle.droid_upload.specs.Kids.{Kid, Subfolder, RefusedFolder, AFile, OtherKind, NoText, MayCome, entry_of, file_node, folder_node, is_taken, is_taken_file, nodes_of_file, nodes_of_kid}
use Rattle.droid_upload.specs.Submissions.{HasNode, IsComplete, IsVisitIn, into_of}
use Rattle.droid_upload.specs.declared.node.Node.{Node}
use Rattle.droid_upload.specs.declared.tree_submission.Options.{Options}
use Rattle.droid_upload.specs.FileOutcomes.{uploaded_of}
use Rattle.droid_upload.specs.declared.upload.Destination.{Destination}
use Rattle.droid_upload.specs.declared.upload.Uploaded.{Uploaded}
use Rattle.droid_upload.specs.declared.upload.Uploaded.TheVariants as uploads

-- ---- lists

all_weaker : {A : Type 0} (P Q : A → Type 0) (xs : List A) → ((x : A) → P x → Q x) → AllByRecursion P xs → AllByRecursion Q xs
all_weaker P Q [] weaker all = tt
all_weaker P Q (x ∷ xs) weaker all = (weaker x all.0, all_weaker P Q xs weaker all.1)

-- what this item gives is there
abbrev IsGiven : {A B : Type 0} → (A → List B) → List B → A → Type 0
IsGiven {A} {B} f ys x = (y : B) → Contains (f x) y → Contains ys y

all_given : {A B : Type 0} (f : A → List B) (xs : List A) → AllByRecursion (IsGiven f (flat_map f xs)) xs
all_given {A} {B} f [] = tt
all_given {A} {B} f (x ∷ xs) = (
  λ y. Contains-append_left (f x) (flat_map f xs) y,
  all_weaker (IsGiven f (flat_map f xs)) (IsGiven f (f x ++ flat_map f xs)) xs (λ (other : A) (given : IsGiven f (flat_map f xs) other) (y : B) is. Contains-append_right (f x) (flat_map f xs) y (given y is)) (all_given f xs),
)

zero_of : (n : ℕ) → (n == 0) ≡ true → n ≡ 0
zero_of n is = grind (arith, nat_tests)

none_of : (entries : List FolderEntry) → (length entries == 0) ≡ true → entries ≡ []
none_of [] is = refl
none_of (entry ∷ entries) is = absurd (omega (arith, zero_of (length (entry ∷ entries)) is))

-- ---- an entry

module _ (into : Destination) (path : List ℕ) where
  file_there : (entry : FolderEntry) (uploaded : Uploaded) → entry.kind ≡ kinds.File → is_taken_file uploaded ≡ true → HasNode (nodes_of_file into (below path entry.name) entry uploaded) path entry
  file_there entry (uploads.Taken file) is_file taken =
      let node : Node = file_node into (below path entry.name) entry file in
      record { node = node; is_there = Contains-push [] node; path_is = refl; kind_is = sym is_file; modified_is = refl }
  file_there entry (uploads.Differs file) is_file taken = absurd cc
  file_there entry uploads.Skipped is_file taken = absurd cc

  kid_there : (kid : Kid) → is_taken into kid ≡ true → MayCome into kid → HasNode (nodes_of_kid into path kid) path (entry_of kid)
  kid_there (Subfolder entry number) taken may =
      let node : Node = folder_node into (below path entry.name) number entry in
      record { node = node; is_there = Contains-push [] node; path_is = refl; kind_is = sym may.1; modified_is = refl }
  kid_there (AFile entry outcome) taken may = file_there entry (uploaded_of into entry outcome) may.1 taken
  kid_there (RefusedFolder entry refusal) taken may = absurd cc
  kid_there (OtherKind entry) taken may = absurd cc
  kid_there (NoText entry) taken may = absurd cc

  kids_there : (kids : List Kid) (nodes : List Node) → list_all (is_taken into) kids ≡ true → AllByRecursion (MayCome into) kids → AllByRecursion (IsGiven (nodes_of_kid into path) nodes) kids
      → AllByRecursion (HasNode nodes path) (map entry_of kids)
  kids_there [] nodes taken may given = tt
  kids_there (kid ∷ kids) nodes taken may given =
      let both = and_parts (is_taken into kid) (list_all (is_taken into) kids) taken in
      let own = kid_there kid both.0 may.0 in (
        record { node = own.node; is_there = given.0 own.node own.is_there; path_is = own.path_is; kind_is = own.kind_is; modified_is = own.modified_is },
        kids_there kids nodes both.1 may.1 given.1,
      )

-- ---- a folder

record Listed (observed : Option (List FolderEntry)) (entries repeated : List FolderEntry) : Type 0 where
  listed : List FolderEntry
  is : observed ≡ Some listed
  same : IsPermutation listed (entries ++ repeated)

was_listed : (observed : Option (List FolderEntry)) (entries repeated : List FolderEntry) → is_some observed ≡ true → AreThose observed entries repeated → Listed observed entries repeated
was_listed None entries repeated is same = absurd cc
was_listed (Some listed) entries repeated is same = record { listed = listed; is = refl; same = same }

visit_complete : (into : Destination) (visit : Visit) (nodes : List Node) → is_whole into visit ≡ true → IsVisit into visit → IsGiven (nodes_of_visit into) nodes visit → IsComplete nodes visit
visit_complete into visit nodes whole is given =
    let entries : List FolderEntry = map entry_of visit.kids in
    let path : List ℕ = visit.folder.path in
    let first = and_parts (is_some visit.observed) ((length visit.repeated == 0) && list_all (is_taken into) visit.kids) whole in
    let second = and_parts (length visit.repeated == 0) (list_all (is_taken into) visit.kids) first.1 in
    let all = was_listed visit.observed entries visit.repeated first.0 is.listed.same in
    let kids_given : AllByRecursion (IsGiven (nodes_of_kid into path) nodes) visit.kids =
    all_weaker (IsGiven (nodes_of_kid into path) (nodes_of_visit into visit)) (IsGiven (nodes_of_kid into path) nodes) visit.kids
    (λ (kid : Kid) (own : IsGiven (nodes_of_kid into path) (nodes_of_visit into visit) kid) (node : Node) is_there. given node (own node is_there)) (all_given (nodes_of_kid into path) visit.kids) in
    let there = kids_there into path visit.kids nodes second.1 is.kids kids_given in
    record {
      listed = all.listed;
      observed = all.is;
      entries = λ entry in_listed.
          let in_all = Contains-permutation all.listed (entries ++ visit.repeated) entry all.same in_listed in
          let in_entries : Contains entries entry = subst (λ (l : List FolderEntry). Contains l entry) (append-nil entries) (subst (λ (l : List FolderEntry). Contains (entries ++ l) entry) (none_of visit.repeated second.0) in_all) in
          All-contains (HasNode nodes path) entries entry (All-from_recursion (HasNode nodes path) entries there) in_entries;
    }

-- ---- a tree

module _ (options : Options) (profile : ℕ) where
  abbrev whole_in : Visit → Bool
  whole_in visit = is_whole (into_of options profile visit.folder) visit

  abbrev nodes_in : Visit → List Node
  nodes_in visit = nodes_of_visit (into_of options profile visit.folder) visit

  visits_complete : (visits : List Visit) (nodes : List Node) → list_all whole_in visits ≡ true → AllByRecursion (IsVisitIn options profile) visits → AllByRecursion (IsGiven nodes_in nodes) visits → AllByRecursion (IsComplete nodes) visits
  visits_complete [] nodes whole are given = tt
  visits_complete (visit ∷ visits) nodes whole are given =
      let both = and_parts (whole_in visit) (list_all whole_in visits) whole in
      (visit_complete (into_of options profile visit.folder) visit nodes both.0 are.0 given.0, visits_complete visits nodes both.1 are.1 given.1)

  pub tree_complete : (visits : List Visit) (nodes : List Node) → list_all whole_in visits ≡ true → AllByRecursion (IsVisitIn options profile) visits → nodes ≡ flat_map nodes_in visits → AllByRecursion (IsComplete nodes) visits
  tree_complete visits nodes whole are is = visits_complete visits nodes whole are (subst (λ (l : List Node). AllByRecursion (IsGiven nodes_in l) visits) (sym is) (all_given nodes_in visits))
