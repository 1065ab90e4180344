-- One folder: what was done in it, and how its visit ends early.
use Rattle.std.proofs.Common.{◌≡◌, inl, inr, ℕ, ◌+◌, ◌<◌, ◌≤◌, ◌==◌, ◌&&◌, Bool, false, List, [], ◌∷◌, ◌++◌, Some, None, length, map, take, drop, refl, sym, ap, subst, ◌∙◌, get_or, append-nil}
use Rattle.std.proofs.lemmas.List.{map-append, take-append-drop, take_all}
use Rattle.std.proofs.lemmas.List.Elements.{All-nil}
use Rattle.droid_tree.specs.Heard.{Left}
use Rattle.droid_tree.specs.Listings.{HasNameOf}
use Rattle.droid_tree.specs.Observation.{GoesOver, Listed, Unlisted}
use Rattle.droid_tree.specs.declared.folder_entry.FolderEntry.{FolderEntry}
use Rattle.droid_tree.specs.declared.pending_folder.PendingFolder.{PendingFolder}
use Rattle.droid_tree.specs.declared.skip_reason.Skipped.{Skipped}
use Rattle.droid_tree.specs.declared.skip_reason.Skipped.TheVariants as reasons
use Rattle.droid_upload.specs.FolderVisits.{AreListed, Visit, deeds_of_listing, report_repeated}
use Rattle.droid_upload.specs.SubmissionSteps.{AreOfFirst, AreOfListing, AreOfVisit, ListsFolder, TakesKids, TakesListing, TakesVisit}
use Rattle.droid_upload.specs.declared.findings.Found.{Found}
use Rattle.droid_upload.specs.Deeds.{Deed, Observed, Informed}
use Rattle.droid_upload.specs.Fronts.{AreJust, EndsEarly}
use Rattle.droid_upload.specs.declared.submission_fault.SubmissionFault.{SubmissionFault}
use Rattle.droid_upload.specs.declared.submission_fault.SubmissionFault.TheVariants as faults
use Rattle.droid_upload.specs.declared.upload.Destination.{Destination}
use Rattle.droid_upload.specs.declared.upload.Upload.{Upload}
use Rattle.droid_upload.proofs.ListItems.{one_more}
use Rattle.droid_upload.proofs.Early.{just_ends, memory_ends, over_more, over_one, part_ends}

nothing_listed : AreListed None [] []
nothing_listed = record { same = (refl, refl); in_order = λ k first second one two. absurd cc; are_repeated = All-nil (HasNameOf []) }

module _ {T C W : Type 0} (does : Upload T C W → Deed → Upload T C W → Type 0) (folder : PendingFolder) where
  abbrev reports : List FolderEntry → List Deed
  reports repeated = map (report_repeated folder.path) repeated

  -- ---- the repeated entries

  module _ (repeated : List FolderEntry) (at : ℕ) (old now : Upload T C W) (front : GoesOver does old (reports (take at repeated)) now) where
    pub more_reported : (entry : FolderEntry) (new : Upload T C W) → does now (report_repeated folder.path entry) new → at < length repeated → entry ≡ get_or repeated at entry → GoesOver does old (reports (take (at + 1) repeated)) new
    more_reported entry new next within there =
        let is : reports (take (at + 1) repeated) ≡ reports (take at repeated) ++ report_repeated folder.path entry ∷ [] =
        ap reports (one_more repeated at entry within there) ∙ map-append (report_repeated folder.path) (take at repeated) (entry ∷ []) in
        subst (λ (l : List Deed). GoesOver does old l new) (sym is)
        (over_more does old now new (reports (take at repeated)) (report_repeated folder.path entry ∷ []) front (over_one does now new (report_repeated folder.path entry) next))

    pub all_reported : length repeated ≤ at → GoesOver does old (reports repeated) now
    all_reported over = subst (λ (l : List FolderEntry). GoesOver does old (reports l) now) (take_all at repeated over) front

    -- memory ran out behind the first reports
    pub report_ends : (fault : SubmissionFault) (new : Upload T C W) → fault ≡ faults.Memory → new ≡ now → EndsEarly does (AreJust (reports repeated)) fault old new
    report_ends fault new memory same =
        memory_ends does (AreJust (reports repeated)) fault (reports (take at repeated)) (reports (drop at repeated)) old now new memory front (inl same)
        (sym (map-append (report_repeated folder.path) (take at repeated) (drop at repeated)) ∙ ap reports (take-append-drop at repeated))

  module _ (into : Destination) where
    -- ---- the listing

    module _ (entries repeated : List FolderEntry) where
      pub reports_end : (fault : SubmissionFault) (old new : Upload T C W) → EndsEarly does (AreJust (reports repeated)) fault old new → EndsEarly does (AreOfListing into folder.path entries repeated) fault old new
      reports_end fault old new part =
          just_ends does (AreOfListing into folder.path entries repeated) fault (reports repeated) [] old new part (record { kids = []; rest = entries; its = refl; may_come = tt; are = refl })

      module _ (old now new : Upload T C W) (reported : GoesOver does old (reports repeated) now) where
        pub entries_end : (fault : SubmissionFault) → EndsEarly does (AreOfFirst into folder.path entries) fault now new → EndsEarly does (AreOfListing into folder.path entries repeated) fault old new
        entries_end fault part =
            part_ends does (AreOfFirst into folder.path entries) (AreOfListing into folder.path entries repeated) fault (reports repeated) old now new reported part
            (λ whole are. ([], record { kids = are.kids; rest = are.rest; its = are.its; may_come = are.may_come; are = ap (λ (l : List Deed). reports repeated ++ l) (append-nil whole ∙ are.are) }))

        pub listing_taken : (taken whole : Bool) (found found_after : Found) → TakesKids does into folder entries taken now new found found_after → whole ≡ ((length repeated == 0) && taken)
            → TakesListing does into folder entries repeated whole old new found found_after
        listing_taken taken whole found found_after kids is = record {
          kids = kids.kids;
          its = kids.its;
          may_come = kids.may_come;
          whole_is = is ∙ ap (λ (b : Bool). (length repeated == 0) && b) kids.taken_is;
          happened = over_more does old now new (reports repeated) _ reported kids.happened;
          pending = kids.pending;
          nodes = kids.nodes;
        }

    -- ---- the visit

    abbrev unlisted_visit : Visit
    unlisted_visit = record { folder = folder; observed = None; repeated = []; kids = [] }

    pub unlisted_visited : (why : Skipped) (path bytes : List ℕ) (old now new : Upload T C W) (found : Found) → path ≡ folder.path → bytes ≡ folder.path
        → (why ≡ reasons.Unreadable) × does old (Observed (Unlisted path)) now → does now (Informed (Left bytes why)) new → TakesVisit does into folder false old new found found
    unlisted_visited why path bytes old now new found same_path same_bytes unread left = record {
      visit = unlisted_visit;
      its = refl;
      is_visit = record { listed = nothing_listed; kids = tt };
      whole_is = refl;
      happened = (
        now,
        subst (λ (p : List ℕ). does old (Observed (Unlisted p)) now) same_path unread.1,
        (
          new,
          subst (λ (r : Skipped). does now (Informed (Left folder.path r)) new) unread.0 (subst (λ (p : List ℕ). does now (Informed (Left p why)) new) same_bytes left),
          refl,
        ),
      );
      pending = sym (append-nil found.pending.items);
      nodes = sym (append-nil found.nodes.items);
    }

    -- memory ran out while the folder was listed
    pub unlisted_ends : (fault : SubmissionFault) (old new : Upload T C W) → (fault ≡ faults.Memory) × (new ≡ record old { tree = new.tree }) → EndsEarly does (AreOfVisit into folder) fault old new
    unlisted_ends fault old new memory =
        memory_ends does (AreOfVisit into folder) fault [] (deeds_of_listing folder.path None []) old old new memory.0 refl (inr memory)
        (record { visit = unlisted_visit; its = refl; is_begun = record { rest = []; listed = nothing_listed; kids = tt }; are = refl })

    module _ (path : List ℕ) (entries repeated : List FolderEntry) (old now new : Upload T C W) (same_path : path ≡ folder.path) (lists : ListsFolder does path entries repeated old now) where
      listed_here : does old (Observed (Listed folder.path lists.observed)) now
      listed_here = subst (λ (p : List ℕ). does old (Observed (Listed p lists.observed)) now) same_path lists.happened

      pub listed_visited : (whole : Bool) (found found_after : Found) → TakesListing does into folder entries repeated whole now new found found_after → TakesVisit does into folder whole old new found found_after
      listed_visited whole found found_after taken = record {
        visit = record { folder = folder; observed = Some lists.observed; repeated = repeated; kids = taken.kids };
        its = refl;
        is_visit = record { listed = subst (λ (l : List FolderEntry). AreListed (Some lists.observed) l repeated) (sym taken.its) lists.listed; kids = taken.may_come };
        whole_is = taken.whole_is;
        happened = (now, listed_here, taken.happened);
        pending = taken.pending;
        nodes = taken.nodes;
      }

      -- what was done of the listing belongs to a visit that is begun
      begun_visit : (deeds : List Deed) → AreOfListing into folder.path entries repeated deeds → AreOfVisit into folder (Observed (Listed folder.path lists.observed) ∷ (deeds ++ []))
      begun_visit deeds are = record {
        visit = record { folder = folder; observed = Some lists.observed; repeated = repeated; kids = are.kids };
        its = refl;
        is_begun = record { rest = are.rest; listed = subst (λ (l : List FolderEntry). AreListed (Some lists.observed) l repeated) (sym are.its) lists.listed; kids = are.may_come };
        are = ap (λ (l : List Deed). Observed (Listed folder.path lists.observed) ∷ l) (append-nil deeds ∙ are.are);
      }

      pub listed_ends : (fault : SubmissionFault) → EndsEarly does (AreOfListing into folder.path entries repeated) fault now new → EndsEarly does (AreOfVisit into folder) fault old new
      listed_ends fault part =
          part_ends does (AreOfListing into folder.path entries repeated) (AreOfVisit into folder) fault (Observed (Listed folder.path lists.observed) ∷ []) old now new
          (over_one does old now (Observed (Listed folder.path lists.observed)) listed_here) part (λ deeds are. ([], begun_visit deeds are))
