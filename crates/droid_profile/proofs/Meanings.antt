-- What the conditions say, spelled out.
use Rattle.std.proofs.Common.{◌≡◌, ℕ, Bool, true, false, not, List, [], ◌∷◌, length, Some, None, refl, ap}
use Rattle.std.specs.Prelude.{nat_lt}
use Rattle.droid_core_spec.specs.Conditions.{is_moment, is_bad_name}
use Rattle.droid_core_spec.specs.Judging.{Check, refusal_of}
use Rattle.droid_frame.specs.declared.refusal.Refusal.TheVariants.{BadName, PathTooLong, BadOption}
use Rattle.droid_tree.specs.Paths.{below}
use Rattle.droid_tree.specs.declared.folder_entry.FolderEntry.{FolderEntry}
use Rattle.droid_profile.specs.Kids.{entry_refusal}

-- ---- the first refusal

abbrev checks : Bool → Bool → Bool → List Check
checks bad long late = (bad, BadName) ∷ (long, PathTooLong) ∷ (late, BadOption) ∷ []

for_name : (bad long late : Bool) → bad ≡ true → Some BadName ≡ refusal_of (checks bad long late)
for_name bad long late is = rw is refl

for_path : (bad long late : Bool) → bad ≡ false → long ≡ true → Some PathTooLong ≡ refusal_of (checks bad long late)
for_path bad long late good is = rw (good, is) refl

for_moment : (bad long late : Bool) → bad ≡ false → long ≡ false → late ≡ true → Some BadOption ≡ refusal_of (checks bad long late)
for_moment bad long late good short is = rw (good, short, is) refl

for_nothing : (bad long late : Bool) → bad ≡ false → long ≡ false → late ≡ false → None ≡ refusal_of (checks bad long late)
for_nothing bad long late good short is = rw (good, short, is) refl

module _ (path : List ℕ) (entry : FolderEntry) where
  pub refused_for_name : is_bad_name entry.name ≡ true → Some BadName ≡ entry_refusal path entry
  unfolding entry_refusal
  refused_for_name bad = for_name (is_bad_name entry.name) (nat_lt 4096 (length (below path entry.name))) (not (is_moment entry.modified)) bad

  pub refused_for_path : is_bad_name entry.name ≡ false → nat_lt 4096 (length (below path entry.name)) ≡ true → Some PathTooLong ≡ entry_refusal path entry
  unfolding entry_refusal
  refused_for_path good long = for_path (is_bad_name entry.name) (nat_lt 4096 (length (below path entry.name))) (not (is_moment entry.modified)) good long

  pub refused_for_moment : is_bad_name entry.name ≡ false → nat_lt 4096 (length (below path entry.name)) ≡ false → is_moment entry.modified ≡ false → Some BadOption ≡ entry_refusal path entry
  unfolding entry_refusal
  refused_for_moment good short late = for_moment (is_bad_name entry.name) (nat_lt 4096 (length (below path entry.name))) (not (is_moment entry.modified)) good short (ap not late)

  pub not_refused : is_bad_name entry.name ≡ false → nat_lt 4096 (length (below path entry.name)) ≡ false → is_moment entry.modified ≡ true → None ≡ entry_refusal path entry
  unfolding entry_refusal
  not_refused good short timely = for_nothing (is_bad_name entry.name) (nat_lt 4096 (length (below path entry.name))) (not (is_moment entry.modified)) good short (ap not timely)
