-- Each folder that is visited is listed, or found to be unreadable.
use Rattle.std.proofs.Common.{◌≡◌, ℕ, ◌+◌, ◌≤◌, List, [], ◌∷◌, ◌++◌, Option, Some, None, length, map, arith}
use Rattle.std.specs.Prelude.{cond, count_by}
use Rattle.std.specs.List.{flat_map}
use Rattle.std.proofs.lemmas.List.Sums.{sum_by-append}
use Rattle.droid_frame.specs.declared.reply.Reply.TheVariants as replies
use Rattle.droid_tree.specs.Heard.{Left}
use Rattle.droid_tree.specs.Observation.{Listed, Unlisted}
use Rattle.droid_tree.specs.declared.folder_entry.FolderEntry.{FolderEntry}
use Rattle.droid_tree.specs.declared.skip_reason.Skipped.TheVariants as reasons
use Rattle.droid_upload.specs.FolderVisits.{Visit, deeds_of_listing, report_repeated}
use Rattle.droid_upload.specs.Kids.{deeds_of_kid}
use Rattle.droid_upload.specs.Submissions.{deeds_in, deeds_of_tree, into_of, profile_request}
use Rattle.droid_upload.specs.declared.tree_submission.Options.{Options}
use Rattle.droid_upload.specs.Calls.{Answered}
use Rattle.droid_upload.specs.Deeds.{Deed, Observed, Called, Informed}
use Rattle.droid_upload.specs.Fronts.{is_listing}

-- two lists have together as many listings as each by itself
listings_append : (xs ys : List Deed) → count_by is_listing (xs ++ ys) ≡ count_by is_listing xs + count_by is_listing ys
listings_append xs ys = sum_by-append (λ (deed : Deed). cond (is_listing deed) 1 0) xs ys

one_listing : (path : List ℕ) (observed : Option (List FolderEntry)) (repeated : List FolderEntry) (rest : List Deed) → 1 ≤ count_by is_listing (deeds_of_listing path observed repeated ++ rest)
one_listing path None repeated rest = omega (arith, listings_append (Observed (Unlisted path) ∷ []) (Informed (Left path reasons.Unreadable) ∷ rest))
one_listing path (Some observed) repeated rest = omega (arith, listings_append (Observed (Listed path observed) ∷ []) (map (report_repeated path) repeated ++ rest))

module _ (options : Options) (profile : ℕ) where
  listings_of_visits : (visits : List Visit) → length visits ≤ count_by is_listing (flat_map (deeds_in options profile) visits)
  listings_of_visits [] = omega arith
  listings_of_visits (visit ∷ visits) =
      let here : 1 ≤ count_by is_listing (deeds_in options profile visit) =
      one_listing visit.folder.path visit.observed visit.repeated (flat_map (deeds_of_kid (into_of options profile visit.folder) visit.folder.path) visit.kids) in
      omega (arith, here, listings_append (deeds_in options profile visit) (flat_map (deeds_in options profile) visits), listings_of_visits visits)

  pub listings_of_tree : (visits : List Visit) → length visits ≤ count_by is_listing (deeds_of_tree options profile visits)
  listings_of_tree visits =
      omega (arith, listings_append (Called (Answered 0 (profile_request options) (replies.Made profile)) ∷ []) (flat_map (deeds_in options profile) visits), listings_of_visits visits)
