-- The entries of a folder, one after the other.
use Rattle.std.proofs.Common.{◌≡◌, ℕ, ◌+◌, ◌<◌, ◌≤◌, ◌&&◌, Bool, true, List, [], ◌∷◌, ◌++◌, length, map, take, drop, refl, sym, ap, subst, ◌∙◌, get_or, append_assoc, append-nil}
use Rattle.std.specs.List.{flat_map}
use Rattle.std.proofs.lemmas.List.{map-append, take_all}
use Rattle.std.proofs.lemmas.Grind.{flat_map-append}
use Rattle.droid_tree.specs.Observation.{GoesOver}
use Rattle.droid_tree.specs.declared.folder_entry.FolderEntry.{FolderEntry}
use Rattle.droid_tree.specs.declared.pending_folder.PendingFolder.{PendingFolder}
use Rattle.droid_upload.specs.Kids.{MayCome, deeds_of_kid, entry_of, is_taken, nodes_of_kid, subfolders_of_kid}
use Rattle.droid_upload.specs.SubmissionSteps.{AreOfFirst, TakesKid, TakesKids}
use Rattle.droid_upload.specs.declared.findings.Found.{Found}
use Rattle.droid_upload.specs.Deeds.{Deed}
use Rattle.droid_upload.specs.Fronts.{EndsEarly}
use Rattle.droid_upload.specs.declared.submission_fault.SubmissionFault.{SubmissionFault}
use Rattle.droid_upload.specs.declared.upload.Destination.{Destination}
use Rattle.droid_upload.specs.declared.upload.Upload.{Upload}
use Rattle.droid_upload.proofs.ListItems.{all_append, around, given_more, one_more, passed_more, regroup}
use Rattle.droid_upload.proofs.Early.{over_more, part_ends}

-- one item more behind those that were found
found_more : {A B : Type 0} (f : A → List B) (xs : List A) (x : A) (first now last : List B) → now ≡ first ++ flat_map f xs → last ≡ now ++ f x → last ≡ first ++ flat_map f (xs ++ x ∷ [])
found_more {A} {B} f xs x first now last front next =
    next ∙ (ap (λ (l : List B). l ++ f x) front ∙ (append_assoc first (flat_map f xs) (f x) ∙ ap (λ (l : List B). first ++ l) (sym (given_more f xs x))))

module _ {T C W : Type 0} (does : Upload T C W → Deed → Upload T C W → Type 0) (into : Destination) (folder : PendingFolder) where
  pub none_taken : (old : Upload T C W) (found : Found) → TakesKids does into folder [] true old old found found
  none_taken old found = record { kids = []; its = refl; may_come = tt; taken_is = refl; happened = refl; pending = sym (append-nil found.pending.items); nodes = sym (append-nil found.nodes.items) }

  module _ (entries : List FolderEntry) (at : ℕ) where
    module _ (entry : FolderEntry) (old now new : Upload T C W) (found found_now : Found) (all : Bool) (front : TakesKids does into folder (take at entries) all old now found found_now) (within : at < length entries) (there : entry ≡ get_or entries at entry) where
      pub more_taken : (taken both : Bool) (found_after : Found) → TakesKid does into folder entry taken now new found_now found_after → both ≡ (all && taken) → TakesKids does into folder (take (at + 1) entries) both old new found found_after
      more_taken taken both found_after next is = record {
        kids = front.kids ++ next.kid ∷ [];
        its = map-append entry_of front.kids (next.kid ∷ [])
            ∙ (ap (λ (l : List FolderEntry). l ++ entry_of next.kid ∷ []) front.its ∙ (ap (λ (e : FolderEntry). take at entries ++ e ∷ []) next.its ∙ sym (one_more entries at entry within there)));
        may_come = all_append (MayCome into) front.kids (next.kid ∷ []) front.may_come (next.may_come, tt);
        taken_is = passed_more (is_taken into) front.kids next.kid all taken both front.taken_is next.taken_is is;
        happened = subst (λ (l : List Deed). GoesOver does old l new) (sym (given_more (deeds_of_kid into folder.path) front.kids next.kid))
            (over_more does old now new (flat_map (deeds_of_kid into folder.path) front.kids) (deeds_of_kid into folder.path next.kid) front.happened next.happened);
        pending = found_more (subfolders_of_kid folder.path) front.kids next.kid found.pending.items found_now.pending.items found_after.pending.items front.pending next.pending;
        nodes = found_more (nodes_of_kid into folder.path) front.kids next.kid found.nodes.items found_now.nodes.items found_after.nodes.items front.nodes next.nodes;
      }

      -- the deeds of the entries before and of this one are those of the first entries
      first_after : (whole : List Deed) → AreOfFirst into folder.path (entry ∷ []) whole → AreOfFirst into folder.path entries (flat_map (deeds_of_kid into folder.path) front.kids ++ (whole ++ []))
      first_after whole are =
          let done : List Deed = flat_map (deeds_of_kid into folder.path) front.kids in
          let behind : List FolderEntry = drop (at + 1) entries in
          let kids_are : map entry_of (front.kids ++ are.kids) ≡ take at entries ++ map entry_of are.kids =
          map-append entry_of front.kids are.kids ∙ ap (λ (l : List FolderEntry). l ++ map entry_of are.kids) front.its in
          record {
            kids = front.kids ++ are.kids;
            rest = are.rest ++ behind;
            its = ap (λ (l : List FolderEntry). l ++ (are.rest ++ behind)) kids_are
                ∙ (regroup (take at entries) (map entry_of are.kids) are.rest behind ∙ (ap (λ (l : List FolderEntry). (take at entries ++ l) ++ behind) are.its ∙ around entries at entry within there));
            may_come = all_append (MayCome into) front.kids are.kids front.may_come are.may_come;
            are = ap (λ (l : List Deed). done ++ l) (append-nil whole ∙ are.are) ∙ sym (flat_map-append (deeds_of_kid into folder.path) front.kids are.kids);
          }

      pub entry_ends : (fault : SubmissionFault) → EndsEarly does (AreOfFirst into folder.path (entry ∷ [])) fault now new → EndsEarly does (AreOfFirst into folder.path entries) fault old new
      entry_ends fault part =
          part_ends does (AreOfFirst into folder.path (entry ∷ [])) (AreOfFirst into folder.path entries) fault (flat_map (deeds_of_kid into folder.path) front.kids) old now new front.happened part
          (λ whole are. ([], first_after whole are))

    pub all_taken : (all : Bool) (old now : Upload T C W) (found found_now : Found) → TakesKids does into folder (take at entries) all old now found found_now → length entries ≤ at → TakesKids does into folder entries all old now found found_now
    all_taken all old now found found_now front over = subst (λ (l : List FolderEntry). TakesKids does into folder l all old now found found_now) (take_all at entries over) front
