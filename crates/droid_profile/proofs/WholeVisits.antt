-- Whether nothing was skipped shows in what the watcher learned.
use Rattle.std.proofs.Common.{◌≡◌, inl, inr, ◌&&◌, ◌==◌, Bool, true, false, List, [], ◌∷◌, ◌++◌, ℕ, length, Option, Some, None, is_some, refl, sym, ap₂, ◌∙◌, arith}
use Rattle.std.specs.List.{flat_map, list_all, AllByRecursion}
use Rattle.std.proofs.lemmas.Bool.Decides.{eqb_tells}
use Rattle.std.proofs.lemmas.List.Folds.{list_all-append}
use Rattle.droid_pronom.specs.Registry.{Contents}
use Rattle.droid_tree.specs.Heard.{Heard}
use Rattle.droid_tree.specs.Kinds.{IsNoNode, reason_of_kind}
use Rattle.droid_tree.specs.declared.folder_entry.EntryKind.{EntryKind}
use Rattle.droid_tree.specs.declared.folder_entry.EntryKind.TheVariants as kinds
use Rattle.droid_tree.specs.declared.folder_entry.FolderEntry.{FolderEntry}
use Rattle.droid_profile.specs.Kids.{Kid, Subfolder, ClosedFolder, AFile, AnotherKind, NoText, RefusedEntry, MayCome, heard_of_file, heard_of_kid, is_done, is_link, is_taken}
use Rattle.droid_profile.specs.Readings.{Reading, Ending, AtEnd, TooShort, TooLong, NoneCame, OtherFile, NotYet, has_ended, is_whole}
use Rattle.droid_profile.specs.Visits.{Visit, IsVisit, heard_of_listing, heard_of_repeated, heard_of_visit, is_complete, is_whole_visit}
use Rattle.droid_profile.specs.declared.options.Options.{Options}
use Rattle.droid_profile.specs.RowsTaken.{is_kept, is_link_reason}

both_true : (a b : Bool) → (a && b) ≡ true → (a ≡ true) × (b ≡ true)
both_true true b is = (refl, is)
both_true false b is = absurd cc

and_true : (a : Bool) → (a && true) ≡ a
and_true true = refl
and_true false = refl

file_kept : (registry : Contents) (options : Options) (path : List ℕ) (entry : FolderEntry) (reading : Reading) (ending : Ending) → has_ended ending ≡ true → list_all is_kept (heard_of_file registry options path entry reading ending) ≡ is_whole ending
file_kept registry options path entry reading (AtEnd wanted bytes) ended = refl
file_kept registry options path entry reading (TooShort wanted bytes) ended = refl
file_kept registry options path entry reading (TooLong wanted bytes) ended = refl
file_kept registry options path entry reading (NoneCame wanted) ended = refl
file_kept registry options path entry reading (OtherFile wanted) ended = refl
file_kept registry options path entry reading NotYet ended = absurd cc

link_kept : (kind : EntryKind) → IsNoNode kind → is_link_reason (reason_of_kind kind) ≡ is_link kind
link_kept kinds.Folder is = absurd is
link_kept kinds.File is = absurd is
link_kept kinds.Link is = refl
link_kept kinds.Other is = refl
link_kept kinds.TooLong is = refl

kid_kept : (registry : Contents) (options : Options) (path : List ℕ) (kid : Kid) → MayCome path kid → is_done kid ≡ true → list_all is_kept (heard_of_kid registry options path kid) ≡ is_taken kid
kid_kept registry options path (Subfolder entry number) may done = refl
kid_kept registry options path (ClosedFolder entry) may done = refl
kid_kept registry options path (AFile entry number reading) may done = file_kept registry options _ entry reading reading.ending done
kid_kept registry options path (AnotherKind entry) may done = and_true (is_link_reason (reason_of_kind entry.kind)) ∙ link_kept entry.kind may.1
kid_kept registry options path (NoText entry) may done = refl
kid_kept registry options path (RefusedEntry entry refusal) may done = refl

kids_kept : (registry : Contents) (options : Options) (path : List ℕ) (kids : List Kid) → AllByRecursion (MayCome path) kids → list_all is_done kids ≡ true → list_all is_kept (flat_map (heard_of_kid registry options path) kids) ≡ list_all is_taken kids
kids_kept registry options path [] may done = refl
kids_kept registry options path (kid ∷ kids) may done =
    let each = both_true (is_done kid) (list_all is_done kids) done in
    list_all-append is_kept (heard_of_kid registry options path kid) (flat_map (heard_of_kid registry options path) kids)
    ∙ ap₂ (λ (a b : Bool). a && b) (kid_kept registry options path kid may.0 each.0) (kids_kept registry options path kids may.1 each.1)

listing_kept : (path : List ℕ) (observed : Option (List FolderEntry)) → list_all is_kept (heard_of_listing path observed) ≡ is_some observed
listing_kept path None = refl
listing_kept path (Some entries) = refl

repeated_kept : (path : List ℕ) (repeated : List FolderEntry) → list_all is_kept (heard_of_repeated path repeated) ≡ (length repeated == 0)
repeated_kept path [] = refl
repeated_kept path (entry ∷ repeated) = elim (eqb_tells (length (entry ∷ repeated)) 0) [
  | inl t ↦ absurd (omega (arith, t.1))
  | inr t ↦ sym t.0
]

visit_kept : (registry : Contents) (options : Options) (visit : Visit) → IsVisit visit → is_complete visit ≡ true → list_all is_kept (heard_of_visit registry options visit) ≡ is_whole_visit visit
visit_kept registry options visit is complete =
    let path : List ℕ = visit.folder.path in
    let kids : List Heard = flat_map (heard_of_kid registry options path) visit.kids in
    list_all-append is_kept (heard_of_listing path visit.observed) (heard_of_repeated path visit.repeated ++ kids)
    ∙ ap₂ (λ (a b : Bool). a && b) (listing_kept path visit.observed)
    (list_all-append is_kept (heard_of_repeated path visit.repeated) kids
    ∙ ap₂ (λ (a b : Bool). a && b) (repeated_kept path visit.repeated) (kids_kept registry options path visit.kids is.kids complete))

pub visits_kept : (registry : Contents) (options : Options) (visits : List Visit) → AllByRecursion IsVisit visits → list_all is_complete visits ≡ true → list_all is_kept (flat_map (heard_of_visit registry options) visits) ≡ list_all is_whole_visit visits
visits_kept registry options [] are complete = refl
visits_kept registry options (visit ∷ visits) are complete =
    let each = both_true (is_complete visit) (list_all is_complete visits) complete in
    list_all-append is_kept (heard_of_visit registry options visit) (flat_map (heard_of_visit registry options) visits)
    ∙ ap₂ (λ (a b : Bool). a && b) (visit_kept registry options visit are.0 each.0) (visits_kept registry options visits are.1 each.1)
