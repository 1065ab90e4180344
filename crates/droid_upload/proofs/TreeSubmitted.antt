-- Folders one after the other, and how a submission ends early.
use Rattle.std.proofs.Common.{◌≡◌, inl, ℕ, ◌+◌, ◌≤◌, ◌&&◌, Bool, true, List, [], ◌∷◌, ◌++◌, length, map, drop, length-append, length-drop, refl, sym, ap, subst, ◌∙◌, append_assoc, append-nil, arith}
use Rattle.std.specs.List.{flat_map, list_all, AllByRecursion}
use Rattle.std.proofs.lemmas.List.{map-append}
use Rattle.droid_frame.specs.declared.reply.Reply.TheVariants as replies
use Rattle.droid_tree.specs.Observation.{GoesOver}
use Rattle.droid_tree.specs.Paths.{top}
use Rattle.droid_tree.specs.declared.folder_entry.FolderEntry.{FolderEntry}
use Rattle.droid_tree.specs.declared.pending_folder.PendingFolder.{PendingFolder}
use Rattle.droid_upload.specs.FolderVisits.{Visit, AreListed, IsBegun, IsVisit, deeds_of_visit, is_whole, nodes_of_visit, subfolders_of_visit}
use Rattle.droid_upload.specs.Kids.{entry_of}
use Rattle.droid_upload.specs.SubmissionSteps.{AreOfVisit, TakesVisit}
use Rattle.droid_upload.specs.Submissions.{AreBegun, AreOfFront, EachFolderOnce, IsVisitIn, SubmitsTree, deeds_in, deeds_of_tree, into_of, profile_request}
use Rattle.droid_upload.specs.declared.findings.Found.{Found}
use Rattle.droid_upload.specs.declared.node.Node.{Node}
use Rattle.droid_upload.specs.declared.tree_submission.Options.{Options}
use Rattle.droid_upload.specs.Calls.{Answered}
use Rattle.droid_upload.specs.Deeds.{Deed, Called}
use Rattle.droid_upload.specs.Fronts.{EndsAsking, EndsEarly, Front, ManyFolders}
use Rattle.droid_upload.specs.declared.submission_fault.SubmissionFault.{SubmissionFault}
use Rattle.droid_upload.specs.declared.submission_fault.SubmissionFault.TheVariants as faults
use Rattle.droid_upload.specs.declared.upload.Upload.{Upload}
use Rattle.droid_upload.proofs.FoldersListed.{listings_of_tree}
use Rattle.droid_upload.proofs.ListItems.{all_append, given_more, passed_more}
use Rattle.droid_upload.proofs.WholeTree.{tree_complete}
use Rattle.droid_upload.proofs.Early.{just_ends, memory_ends, over_more, over_one, part_ends}

-- a list that loses nothing with its first item is empty
pub none_left : (pending : List PendingFolder) → pending ≡ drop 1 pending → pending ≡ []
none_left [] none = refl
none_left (folder ∷ pending) none = absurd (omega (arith, ap length none, length-drop 1 (folder ∷ pending)))

-- the submission after `turns` turns: these folders were visited, and the pending ones were found
pub record Submitting {S : Type 0} (does : S → Deed → S → Type 0) (options : Options) (profile turns : ℕ) (whole : Bool) (found : Found) (old now : S) : Type 0 where
  pub visits : List Visit
  pub counted : length visits ≡ turns
  pub each_folder : EachFolderOnce visits found.pending.items
  pub visited : AllByRecursion (IsVisitIn options profile) visits
  pub happened : GoesOver does old (deeds_of_tree options profile visits) now
  pub whole_is : whole ≡ list_all (λ visit. is_whole (into_of options profile visit.folder) visit) visits
  pub nodes_are : found.nodes.items ≡ flat_map (λ visit. nodes_of_visit (into_of options profile visit.folder) visit) visits

module _ (options : Options) (profile : ℕ) where
  abbrev whole_in : Visit → Bool
  whole_in visit = is_whole (into_of options profile visit.folder) visit

  abbrev nodes_in : Visit → List Node
  nodes_in visit = nodes_of_visit (into_of options profile visit.folder) visit

  -- ---- whole and begun visits

  begun_of : (visit : Visit) → IsVisitIn options profile visit → IsBegun (into_of options profile visit.folder) visit
  begun_of visit is = record { rest = []; listed = subst (λ (l : List FolderEntry). AreListed visit.observed l visit.repeated) (sym (append-nil (map entry_of visit.kids))) is.listed; kids = is.kids }

  all_begun : (visits : List Visit) → AllByRecursion (IsVisitIn options profile) visits → AreBegun options profile visits
  all_begun [] all = tt
  all_begun (visit ∷ []) all = begun_of visit all.0
  all_begun (visit ∷ (next ∷ visits)) all = (all.0, all_begun (next ∷ visits) all.1)

  begun_more : (visits : List Visit) (last : Visit) → AllByRecursion (IsVisitIn options profile) visits → IsBegun (into_of options profile last.folder) last → AreBegun options profile (visits ++ last ∷ [])
  begun_more [] last all begun = begun
  begun_more (visit ∷ []) last all begun = (all.0, begun)
  begun_more (visit ∷ (next ∷ visits)) last all begun = (all.0, begun_more (next ∷ visits) last all.1 begun)

  -- one folder more was visited, and its subfolders are pending
  folders_more : (visits : List Visit) (visit : Visit) (folder : PendingFolder) (pending left pending_after : List PendingFolder) → EachFolderOnce visits pending → pending ≡ folder ∷ left → visit.folder ≡ folder
      → pending_after ≡ left ++ subfolders_of_visit visit → EachFolderOnce (visits ++ visit ∷ []) pending_after
  folders_more visits visit folder pending left pending_after each popped its after =
      let here : List PendingFolder = map (λ (v : Visit). v.folder) visits in
      let found : List PendingFolder = subfolders_of_visit visit in
      let pushed : map (λ (v : Visit). v.folder) (visits ++ visit ∷ []) ≡ here ++ folder ∷ [] = map-append (λ (v : Visit). v.folder) visits (visit ∷ []) ∙ ap (λ (p : PendingFolder). here ++ p ∷ []) its in
      let regrouped : (here ++ folder ∷ []) ++ (left ++ found) ≡ (here ++ (folder ∷ left)) ++ found = append_assoc here (folder ∷ []) (left ++ found) ∙ sym (append_assoc here (folder ∷ left) found) in
      ap (λ (l : List PendingFolder). map (λ (v : Visit). v.folder) (visits ++ visit ∷ []) ++ l) after
      ∙ (ap (λ (l : List PendingFolder). l ++ (left ++ found)) pushed
      ∙ (regrouped
      ∙ (ap (λ (l : List PendingFolder). (here ++ l) ++ found) (sym popped)
      ∙ (ap (λ (l : List PendingFolder). l ++ found) each ∙ ap (λ (l : List PendingFolder). top ∷ l) (sym (given_more subfolders_of_visit visits visit))))))

  module _ {T C W : Type 0} (does : Upload T C W → Deed → Upload T C W → Type 0) where
    -- ---- the beginning

    abbrev made : Deed
    made = Called (Answered 0 (profile_request options) (replies.Made profile))

    pub begun : (found : Found) (old now : Upload T C W) → found.pending.items ≡ top ∷ [] → found.nodes.items ≡ [] → does old made now → Submitting does options profile 0 true found old now
    begun found old now only none called = record { visits = []; counted = refl; each_folder = only; visited = tt; happened = over_one does old now made called; whole_is = refl; nodes_are = none }

    -- no memory was left for the list of pending folders
    pub begun_ends : (old now : Upload T C W) → does old made now → EndsEarly does (AreOfFront options) faults.Memory old now
    begun_ends old now called =
        memory_ends does (AreOfFront options) faults.Memory (made ∷ []) [] old now now refl (over_one does old now made called) (inl refl)
        (record { profile = profile; visits = []; pending = top ∷ []; each_folder = refl; begun = tt; are = refl })

    -- ---- one folder more

    module _ (folder : PendingFolder) (left : List PendingFolder) (found : Found) (turns : ℕ) (whole : Bool) (old now new : Upload T C W) (front : Submitting does options profile turns whole found old now) (popped : found.pending.items ≡ folder ∷ left) where
      pub more_visited : (found_now found_after : Found) (taken both : Bool) → found_now.pending.items ≡ left → found_now.nodes.items ≡ found.nodes.items
          → TakesVisit does (into_of options profile folder) folder taken now new found_now found_after → both ≡ (whole && taken) → Submitting does options profile (turns + 1) both found_after old new
      more_visited found_now found_after taken both left_is same next is =
          let its : folder ≡ next.visit.folder = sym next.its in
          record {
            visits = front.visits ++ next.visit ∷ [];
            counted = omega (arith, length-append front.visits (next.visit ∷ []), front.counted);
            each_folder = folders_more front.visits next.visit folder found.pending.items left found_after.pending.items front.each_folder popped next.its
                (next.pending ∙ ap (λ (l : List PendingFolder). l ++ subfolders_of_visit next.visit) left_is);
            visited = all_append (IsVisitIn options profile) front.visits (next.visit ∷ []) front.visited (subst (λ (f : PendingFolder). IsVisit (into_of options profile f) next.visit) its next.is_visit, tt);
            happened = subst (λ (l : List Deed). GoesOver does old (made ∷ l) new) (sym (given_more (deeds_in options profile) front.visits next.visit))
                (over_more does old now new (deeds_of_tree options profile front.visits) (deeds_in options profile next.visit) front.happened
                (subst (λ (f : PendingFolder). GoesOver does now (deeds_of_visit (into_of options profile f) next.visit) new) its next.happened));
            whole_is = passed_more whole_in front.visits next.visit whole taken both front.whole_is (next.whole_is ∙ ap (λ (f : PendingFolder). is_whole (into_of options profile f) next.visit) its) is;
            nodes_are = next.nodes
                ∙ (ap (λ (l : List Node). l ++ nodes_of_visit (into_of options profile folder) next.visit) (same ∙ front.nodes_are)
                ∙ (ap (λ (f : PendingFolder). flat_map nodes_in front.visits ++ nodes_of_visit (into_of options profile f) next.visit) its ∙ sym (given_more nodes_in front.visits next.visit)));
          }

      -- the deeds of the visits before and of this one are those of the first folders
      front_after : (deeds : List Deed) → AreOfVisit (into_of options profile folder) folder deeds → AreOfFront options (deeds_of_tree options profile front.visits ++ (deeds ++ []))
      front_after deeds are =
          let its : folder ≡ are.visit.folder = sym are.its in
          let here : deeds ++ [] ≡ deeds_in options profile are.visit = append-nil deeds ∙ (are.are ∙ ap (λ (f : PendingFolder). deeds_of_visit (into_of options profile f) are.visit) its) in
          record {
            profile = profile;
            visits = front.visits ++ are.visit ∷ [];
            pending = left ++ subfolders_of_visit are.visit;
            each_folder = folders_more front.visits are.visit folder found.pending.items left (left ++ subfolders_of_visit are.visit) front.each_folder popped are.its refl;
            begun = begun_more front.visits are.visit front.visited (subst (λ (f : PendingFolder). IsBegun (into_of options profile f) are.visit) its are.is_begun);
            are = ap (λ (l : List Deed). made ∷ (flat_map (deeds_in options profile) front.visits ++ l)) here ∙ ap (λ (l : List Deed). made ∷ l) (sym (given_more (deeds_in options profile) front.visits are.visit));
          }

      pub visit_ends : (fault : SubmissionFault) → EndsEarly does (AreOfVisit (into_of options profile folder) folder) fault now new → EndsEarly does (AreOfFront options) fault old new
      visit_ends fault part =
          part_ends does (AreOfVisit (into_of options profile folder) folder) (AreOfFront options) fault (deeds_of_tree options profile front.visits) old now new front.happened part (λ deeds are. ([], front_after deeds are))

    -- ---- the end

    -- as many folders were visited as a profile can't have
    pub folders_end : (found : Found) (turns : ℕ) (whole : Bool) (old now : Upload T C W) → Submitting does options profile turns whole found old now → 100002 ≤ turns → EndsEarly does (AreOfFront options) faults.Folders old now
    folders_end found turns whole old now front many =
        let deeds : List Deed = deeds_of_tree options profile front.visits in
        record {
          deeds = deeds;
          whole = deeds;
          reached = now;
          happened = front.happened;
          stands = inl refl;
          are = record { profile = profile; visits = front.visits; pending = found.pending.items; each_folder = front.each_folder; begun = all_begun front.visits front.visited; are = refl };
          front = Front [] (sym (append-nil deeds));
          explained = ManyFolders refl (omega (arith, many, front.counted, listings_of_tree options profile front.visits));
        }

    pub submitted : (found : Found) (turns : ℕ) (whole : Bool) (old now : Upload T C W) → Submitting does options profile turns whole found old now → found.pending.items ≡ []
        → SubmitsTree does options (record { profile = profile; whole = whole; nodes = found.nodes }) old now
    submitted found turns whole old now front none = record {
      visits = front.visits;
      each_folder = subst (λ (l : List PendingFolder). EachFolderOnce front.visits l) none front.each_folder;
      visited = front.visited;
      happened = front.happened;
      whole_is = front.whole_is;
      nodes_are = front.nodes_are;
      complete = λ is. tree_complete options profile front.visits found.nodes.items (sym front.whole_is ∙ is) front.visited front.nodes_are;
    }

module _ {T C W : Type 0} (does : Upload T C W → Deed → Upload T C W → Type 0) where
  -- the profile was not created
  pub unbegun_submission_ends : (options : Options) (fault : SubmissionFault) (old new : Upload T C W) → EndsAsking does 0 (profile_request options) fault old new → EndsEarly does (AreOfFront options) fault old new
  unbegun_submission_ends options fault old new ends =
      just_ends does (AreOfFront options) fault (Called (Answered 0 (profile_request options) (replies.Made 0)) ∷ []) [] old new (ends (replies.Made 0))
      (record { profile = 0; visits = []; pending = top ∷ []; each_folder = refl; begun = tt; are = refl })
