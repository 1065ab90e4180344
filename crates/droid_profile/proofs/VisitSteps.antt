-- One entry more, and one folder more: for whoever makes a profile.
use Rattle.std.proofs.Common.{◌≡◌, ℕ, ◌+◌, List, [], ◌∷◌, ◌++◌, length, map, append-nil, append_assoc, refl, sym, ap, subst, ◌∙◌, arith}
use Rattle.std.specs.List.{flat_map, AllByRecursion}
use Rattle.std.proofs.lemmas.List.{map-append}
use Rattle.std.proofs.lemmas.List.Concat.{flat_map-append}
use Rattle.droid_tree.specs.declared.folder_entry.FolderEntry.{FolderEntry}
use Rattle.droid_tree.specs.declared.pending_folder.PendingFolder.{PendingFolder}
use Rattle.droid_profile.specs.Kids.{Kid, MayCome, entry_of}
use Rattle.droid_profile.specs.Visits.{Visit, AreListed, Follow, InTurn, IsBegun, subfolders_of}

-- one more entry has this outcome
abbrev pub with_kid : Visit → Kid → Visit
with_kid visit kid = record visit { kids = visit.kids ++ kid ∷ [] }

-- one item more of what each item gives
pub given_more : {A B : Type 0} (f : A → List B) (xs : List A) (x : A) → flat_map f (xs ++ x ∷ []) ≡ flat_map f xs ++ f x
given_more {A} {B} f xs x = flat_map-append f xs (x ∷ []) ∙ ap (λ (l : List B). flat_map f xs ++ l) (append-nil (f x))

-- what the last folder gives more, all folders give more
pub last_gives_more : {B : Type 0} (f : Visit → List B) (before : List Visit) (last after : Visit) (more : List B) → f after ≡ f last ++ more → flat_map f (before ++ after ∷ []) ≡ flat_map f (before ++ last ∷ []) ++ more
last_gives_more {B} f before last after more is =
    given_more f before after
    ∙ (ap (λ (l : List B). flat_map f before ++ l) is
    ∙ (sym (append_assoc (flat_map f before) (f last) more) ∙ ap (λ (l : List B). l ++ more) (sym (given_more f before last))))

pub all_append : {A : Type 0} (P : A → Type 0) (xs ys : List A) → AllByRecursion P xs → AllByRecursion P ys → AllByRecursion P (xs ++ ys)
all_append P [] ys all more = more
all_append P (x ∷ xs) ys all more = (all.0, all_append P xs ys all.1 more)

-- ---- the order of folders

pub in_turn_kid : (waiting : List PendingFolder) (before : List Visit) (last after : Visit) (left more : List PendingFolder) → after.folder ≡ last.folder → subfolders_of after ≡ subfolders_of last ++ more
    → InTurn waiting (before ++ last ∷ []) left → InTurn waiting (before ++ after ∷ []) (left ++ more)
in_turn_kid [] [] last after left more same found turn = absurd turn
in_turn_kid (folder ∷ waiting) [] last after left more same found turn = (
  same ∙ turn.0,
  ap (λ (l : List PendingFolder). l ++ more) turn.1 ∙ (append_assoc waiting (subfolders_of last) more ∙ ap (λ (l : List PendingFolder). waiting ++ l) (sym found)),
)
in_turn_kid [] (visit ∷ before) last after left more same found turn = absurd turn
in_turn_kid (folder ∷ waiting) (visit ∷ before) last after left more same found turn = (turn.0, in_turn_kid (waiting ++ subfolders_of visit) before last after left more same found turn.1)

pub in_turn_visit : (waiting : List PendingFolder) (visits : List Visit) (visit : Visit) (folder : PendingFolder) (left : List PendingFolder) → visit.folder ≡ folder
    → InTurn waiting visits (folder ∷ left) → InTurn waiting (visits ++ visit ∷ []) (left ++ subfolders_of visit)
in_turn_visit waiting [] visit folder left same turn = subst (λ (l : List PendingFolder). InTurn l (visit ∷ []) (left ++ subfolders_of visit)) turn (same, refl)
in_turn_visit [] (first ∷ visits) visit folder left same turn = absurd turn
in_turn_visit (next ∷ waiting) (first ∷ visits) visit folder left same turn = (turn.0, in_turn_visit (waiting ++ subfolders_of first) visits visit folder left same turn.1)

-- ---- numbers

pub follow_more : (before : ℕ) (numbers : List ℕ) (number : ℕ) → number ≡ (before + length numbers) + 1 → Follow before numbers → Follow before (numbers ++ number ∷ [])
follow_more before [] number is follow = (omega (arith, is), tt)
follow_more before (first ∷ numbers) number is follow = (follow.0, follow_more first numbers number (omega (arith, is, follow.0)) follow.1)

-- ---- entries

pub begun_kid : (rest : List FolderEntry) (visit : Visit) (kid : Kid) (entry : FolderEntry) → entry_of kid ≡ entry → MayCome visit.folder.path kid → IsBegun (entry ∷ rest) visit → IsBegun rest (with_kid visit kid)
begun_kid rest visit kid entry its may begun = record {
  listed = subst (λ (l : List FolderEntry). AreListed visit.observed l visit.repeated) entries begun.listed;
  kids = all_append (MayCome visit.folder.path) visit.kids (kid ∷ []) begun.kids (may, tt);
}
  where
    entries : map entry_of visit.kids ++ entry ∷ rest ≡ map entry_of (visit.kids ++ kid ∷ []) ++ rest
    entries =
        ap (λ (e : FolderEntry). map entry_of visit.kids ++ e ∷ rest) (sym its)
        ∙ (sym (append_assoc (map entry_of visit.kids) (entry_of kid ∷ []) rest)
        ∙ ap (λ (l : List FolderEntry). l ++ rest) (sym (map-append entry_of visit.kids (kid ∷ []))))
