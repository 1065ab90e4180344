-- One entry: its outcome, and how its submission ends early.
use Rattle.std.proofs.Common.{◌≡◌, inl, ℕ, Bool, true, false, List, [], ◌∷◌, ◌++◌, refl, sym, ap, subst, ◌∙◌, append-nil}
use Rattle.std.specs.Prelude.{IsUtf8}
use Rattle.droid_frame.specs.declared.refusal.Refusal.{Refusal}
use Rattle.droid_frame.specs.declared.reply.Reply.{Reply}
use Rattle.droid_frame.specs.declared.reply.Reply.TheVariants as replies
use Rattle.droid_frame.specs.declared.request.Request.TheVariants.{AddFolder}
use Rattle.droid_tree.specs.Heard.{Left, TookFolder}
use Rattle.droid_tree.specs.Kinds.{IsNoNode, reason_of_kind}
use Rattle.droid_tree.specs.Observation.{GoesOver}
use Rattle.droid_tree.specs.Paths.{below}
use Rattle.droid_tree.specs.declared.folder_entry.FolderEntry.{FolderEntry}
use Rattle.droid_tree.specs.declared.folder_entry.EntryKind.{EntryKind}
use Rattle.droid_tree.specs.declared.folder_entry.EntryKind.TheVariants as kinds
use Rattle.droid_tree.specs.declared.pending_folder.PendingFolder.{PendingFolder}
use Rattle.droid_tree.specs.declared.skip_reason.Skipped.TheVariants as reasons
use Rattle.droid_upload.specs.Kids.{Kid, Subfolder, RefusedFolder, AFile, OtherKind, NoText, MayCome, deeds_of_kid, entry_of, folder_node, is_taken_file, nodes_of_file}
use Rattle.droid_upload.specs.SubmissionSteps.{AreOfFirst, TakesKid}
use Rattle.droid_upload.specs.declared.findings.Found.{Found}
use Rattle.droid_upload.specs.Calls.{Answered}
use Rattle.droid_upload.specs.Deeds.{Deed, Called, Informed}
use Rattle.droid_upload.specs.Faults.{skips}
use Rattle.droid_upload.specs.FileOutcomes.{AreOfFile, Uploads, deeds_of_file}
use Rattle.droid_upload.specs.Fronts.{EndsAsking, EndsEarly}
use Rattle.droid_upload.specs.declared.submission_fault.SubmissionFault.{SubmissionFault}
use Rattle.droid_upload.specs.declared.submission_fault.SubmissionFault.TheVariants as faults
use Rattle.droid_upload.specs.declared.upload.Destination.{Destination}
use Rattle.droid_upload.specs.declared.upload.Upload.{Upload}
use Rattle.droid_upload.specs.declared.upload.Uploaded.{Uploaded}
use Rattle.droid_upload.proofs.Early.{just_ends, memory_ends, over_one, part_ends}

module _ {T C W : Type 0} (does : Upload T C W → Deed → Upload T C W → Type 0) (into : Destination) (folder : PendingFolder) (entry : FolderEntry) where
  abbrev here : List ℕ
  here = below folder.path entry.name

  -- the deeds of this entry are those of the first of these entries
  first_of_kid : (kid : Kid) (deeds : List Deed) → entry_of kid ≡ entry → MayCome into kid → deeds ≡ deeds_of_kid into folder.path kid → AreOfFirst into folder.path (entry ∷ []) deeds
  first_of_kid kid deeds its may is = record {
    kids = kid ∷ [];
    rest = [];
    its = ap (λ (e : FolderEntry). e ∷ []) its;
    may_come = (may, tt);
    are = is ∙ sym (append-nil (deeds_of_kid into folder.path kid));
  }

  -- memory ran out before anything was done
  pub unbegun_ends : (fault : SubmissionFault) (old new : Upload T C W) → fault ≡ faults.Memory → new ≡ old → EndsEarly does (AreOfFirst into folder.path (entry ∷ [])) fault old new
  unbegun_ends fault old new memory same =
      memory_ends does (AreOfFirst into folder.path (entry ∷ [])) fault [] [] old old new memory refl (inl same) (record { kids = []; rest = entry ∷ []; its = refl; may_come = tt; are = refl })

  -- ---- neither a folder nor a file

  module _ (old new : Upload T C W) (found : Found) where
    pub without_text_taken : ¬ (IsUtf8 entry.name) → does old (Informed (Left here reasons.Name)) new → TakesKid does into folder entry false old new found found
    without_text_taken isnt left = record {
      kid = NoText entry;
      its = refl;
      may_come = isnt;
      taken_is = refl;
      happened = over_one does old new (Informed (Left here reasons.Name)) left;
      pending = sym (append-nil found.pending.items);
      nodes = sym (append-nil found.nodes.items);
    }

    pub other_taken : (path : List ℕ) → path ≡ here → IsUtf8 entry.name → (kind : EntryKind) → entry.kind ≡ kind → IsNoNode kind → does old (Informed (Left path (reason_of_kind kind))) new → TakesKid does into folder entry false old new found found
    other_taken path is_here text kind is none left = record {
      kid = OtherKind entry;
      its = refl;
      may_come = (text, subst IsNoNode (sym is) none);
      taken_is = refl;
      happened = over_one does old new (Informed (Left here (reason_of_kind entry.kind))) (subst (λ (k : EntryKind). does old (Informed (Left here (reason_of_kind k))) new) (sym is) (subst (λ (p : List ℕ). does old (Informed (Left p (reason_of_kind kind))) new) is_here left));
      pending = sym (append-nil found.pending.items);
      nodes = sym (append-nil found.nodes.items);
    }

  -- ---- a folder

  module _ (name : List ℕ) (named : name ≡ entry.name) (text : IsUtf8 entry.name) (is_folder : entry.kind ≡ kinds.Folder) where
    abbrev added : List ℕ → Reply → Deed
    added n reply = Called (Answered 0 (AddFolder into.profile into.folder entry.modified n) reply)

    pub folder_ends : (fault : SubmissionFault) (old new : Upload T C W) → EndsAsking does 0 (AddFolder into.profile into.folder entry.modified name) fault old new → EndsEarly does (AreOfFirst into folder.path (entry ∷ [])) fault old new
    folder_ends fault old new ends =
        let whole : List Deed = added name (replies.Node 0) ∷ Informed (TookFolder here) ∷ [] in
        just_ends does (AreOfFirst into folder.path (entry ∷ [])) fault (added name (replies.Node 0) ∷ []) (Informed (TookFolder here) ∷ []) old new (ends (replies.Node 0))
        (first_of_kid (Subfolder entry 0) whole refl (text, is_folder) (ap (λ (n : List ℕ). added n (replies.Node 0) ∷ Informed (TookFolder here) ∷ []) named))

    module _ (path : List ℕ) (is_here : path ≡ here) (old now new : Upload T C W) where
      folder_over : (number : ℕ) → does old (added name (replies.Node number)) now → does now (Informed (TookFolder path)) new → GoesOver does old (deeds_of_kid into folder.path (Subfolder entry number)) new
      folder_over number called informed = (
        now,
        subst (λ (n : List ℕ). does old (added n (replies.Node number)) now) named called,
        (new, subst (λ (p : List ℕ). does now (Informed (TookFolder p)) new) is_here informed, refl),
      )

      -- the folder is in the profile, but no memory was left to say so
      pub added_folder_ends : (number : ℕ) → does old (added name (replies.Node number)) now → does now (Informed (TookFolder path)) new → EndsEarly does (AreOfFirst into folder.path (entry ∷ [])) faults.Memory old new
      added_folder_ends number called informed =
          memory_ends does (AreOfFirst into folder.path (entry ∷ [])) faults.Memory (deeds_of_kid into folder.path (Subfolder entry number)) [] old new new refl (folder_over number called informed) (inl refl)
          (first_of_kid (Subfolder entry number) (deeds_of_kid into folder.path (Subfolder entry number)) refl (text, is_folder) refl)

      module _ (found : Found) where
        pub folder_taken : (number : ℕ) (found_after : Found) → does old (added name (replies.Node number)) now → does now (Informed (TookFolder path)) new
            → found_after.pending.items ≡ found.pending.items ++ record { path = path; number = number } ∷ [] → found_after.nodes.items ≡ found.nodes.items ++ folder_node into path number entry ∷ []
            → TakesKid does into folder entry true old new found found_after
        folder_taken number found_after called informed pending nodes = record {
          kid = Subfolder entry number;
          its = refl;
          may_come = (text, is_folder);
          taken_is = refl;
          happened = folder_over number called informed;
          pending = pending ∙ ap (λ (p : List ℕ). found.pending.items ++ record { path = p; number = number } ∷ []) is_here;
          nodes = nodes ∙ ap (λ (p : List ℕ). found.nodes.items ++ folder_node into p number entry ∷ []) is_here;
        }

        pub refused_folder_taken : (refusal : Refusal) → skips refusal ≡ true → does old (added name (replies.Refused refusal)) now → does now (Informed (Left path (reasons.Refused refusal))) new
            → TakesKid does into folder entry false old new found found
        refused_folder_taken refusal skipped called informed = record {
          kid = RefusedFolder entry refusal;
          its = refl;
          may_come = (text, is_folder, skipped);
          taken_is = refl;
          happened = (
            now,
            subst (λ (n : List ℕ). does old (added n (replies.Refused refusal)) now) named called,
            (new, subst (λ (p : List ℕ). does now (Informed (Left p (reasons.Refused refusal))) new) is_here informed, refl),
          );
          pending = sym (append-nil found.pending.items);
          nodes = sym (append-nil found.nodes.items);
        }

  -- ---- a file

  module _ (text : IsUtf8 entry.name) (is_file : entry.kind ≡ kinds.File) (path : List ℕ) (is_here : path ≡ here) (old new : Upload T C W) where
    pub file_ends : (fault : SubmissionFault) → EndsEarly does (AreOfFile into path entry) fault old new → EndsEarly does (AreOfFirst into folder.path (entry ∷ [])) fault old new
    file_ends fault part =
        part_ends does (AreOfFile into path entry) (AreOfFirst into folder.path (entry ∷ [])) fault [] old old new refl part
        (λ whole are. ([], first_of_kid (AFile entry are.0) (whole ++ []) refl (text, is_file, are.1) (append-nil whole ∙ (are.2 ∙ ap (λ (p : List ℕ). deeds_of_file into p entry are.0) is_here))))

    -- the file was uploaded, but no memory was left to say so
    pub uploaded_file_ends : (uploaded : Uploaded) → Uploads does into path entry uploaded old new → EndsEarly does (AreOfFirst into folder.path (entry ∷ [])) faults.Memory old new
    uploaded_file_ends uploaded came =
        let deeds : List Deed = deeds_of_file into path entry came.outcome in
        memory_ends does (AreOfFirst into folder.path (entry ∷ [])) faults.Memory deeds [] old new new refl came.happened (inl refl)
        (first_of_kid (AFile entry came.outcome) (deeds ++ []) refl (text, is_file, came.may_come) (append-nil deeds ∙ ap (λ (p : List ℕ). deeds_of_file into p entry came.outcome) is_here))

    pub file_taken : (uploaded : Uploaded) (taken : Bool) (found found_after : Found) → Uploads does into path entry uploaded old new → taken ≡ is_taken_file uploaded
        → found_after.pending.items ≡ found.pending.items → found_after.nodes.items ≡ found.nodes.items ++ nodes_of_file into path entry uploaded
        → TakesKid does into folder entry taken old new found found_after
    file_taken uploaded taken found found_after came is same nodes = record {
      kid = AFile entry came.outcome;
      its = refl;
      may_come = (text, is_file, came.may_come);
      taken_is = is ∙ ap is_taken_file came.uploaded_is;
      happened = subst (λ (p : List ℕ). GoesOver does old (deeds_of_file into p entry came.outcome) new) is_here came.happened;
      pending = same ∙ sym (append-nil found.pending.items);
      nodes = nodes
          ∙ (ap (λ (p : List ℕ). found.nodes.items ++ nodes_of_file into p entry uploaded) is_here ∙ ap (λ (u : Uploaded). found.nodes.items ++ nodes_of_file into here entry u) came.uploaded_is);
    }
