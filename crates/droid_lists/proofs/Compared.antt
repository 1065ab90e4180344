-- The differences, one by one.
use Rattle.std.proofs.Common.{◌≡◌, ◌∙◌, ◌<◌, ◌≤◌, ◌+◌, ℕ, Bool, List, [], ◌∷◌, ◌++◌, append_assoc, append-nil, length, map, drop, get_or, refl, sym, ap}
use Rattle.std.specs.Option.{option_map}
use Rattle.std.proofs.lemmas.List.{drop_all, drop_more}
use Rattle.droid_lists.specs.Differences.{difference_with, differences_of, is_known, known_from, more_by}
use Rattle.droid_lists.specs.EntryMaps.{Kept, StandsFor, kept_by, kept_in, kept_of, listed_at}
use Rattle.droid_lists.specs.ProfileRows.{Entry, found_in}
use Rattle.droid_lists.specs.declared.entries.Entries.{Entries}
use Rattle.droid_lists.specs.declared.entries.Listed.{Listed}
use Rattle.droid_lists.specs.declared.known.Difference.{Difference}
use Rattle.droid_lists.specs.declared.known.Known.{Known}

-- ---- what is known

-- what is found so far and what is left give all
abbrev pub KnownSoFar : Entries → List Known → List Difference → List Difference → ℕ → Type 0
KnownSoFar entries known old found place =
    (all : List Entry) → StandsFor entries all → old ++ known_from 0 known all ≡ found ++ known_from place (drop place known) all

pub one_known : (entries : Entries) (known : List Known) (old found new : List Difference) (place : ℕ) (one : Known) → place < length known → one ≡ get_or known place one
    → new ≡ found ++ difference_with place one (option_map kept_of (listed_at entries one.path)) → KnownSoFar entries known old found place → KnownSoFar entries known old new (place + 1)
one_known entries known old found new place one below is more so_far = λ all stands.
    let front : drop place known ≡ one ∷ drop (place + 1) known = drop_more known place one below ∙ ap (λ (it : Known). it ∷ drop (place + 1) known) (sym is) in
    let here : difference_with place one (option_map kept_of (listed_at entries one.path)) ≡ difference_with place one (option_map kept_by (found_in all one.path)) =
    ap (difference_with place one) (stands.listed one.path) in
    so_far all stands
    ∙ (ap (λ (left : List Known). found ++ known_from place left all) front
    ∙ (sym (append_assoc found (difference_with place one (option_map kept_by (found_in all one.path))) (known_from (place + 1) (drop (place + 1) known) all))
    ∙ ap (λ (it : List Difference). it ++ known_from (place + 1) (drop (place + 1) known) all) (ap (λ (it : List Difference). found ++ it) (sym here) ∙ sym more)))

pub all_known : (entries : Entries) (known : List Known) (old found : List Difference) (place : ℕ) → length known ≤ place → KnownSoFar entries known old found place
    → (all : List Entry) → StandsFor entries all → found ≡ old ++ known_from 0 known all
all_known entries known old found place past so_far all stands =
    sym (so_far all stands ∙ (ap (λ (left : List Known). found ++ known_from place left all) (drop_all place known past) ∙ append-nil found))

-- ---- what is more

more_same : (test other : List ℕ → Bool) (kept : List Kept) → ((path : List ℕ) → test path ≡ other path) → more_by test kept ≡ more_by other kept
more_same test other [] same = refl
more_same test other (one ∷ kept) same = rw (same _, more_same test other kept same) refl

-- both together
pub all_differences : (entries : Entries) (known : List Known) (empty found new : List Difference) (listed : List Listed) (test : List ℕ → Bool) → empty ≡ []
    → ((all : List Entry) → StandsFor entries all → found ≡ empty ++ known_from 0 known all) → ((path : List ℕ) → test path ≡ is_known known path)
    → new ≡ found ++ more_by test (map kept_of listed) → listed ≡ entries.listed.items
    → (all : List Entry) → StandsFor entries all → new ≡ differences_of known all
all_differences entries known empty found new listed test none finds same more is all stands =
    let kept : map kept_of listed ≡ kept_in all = ap (map kept_of) is ∙ stands.kept in
    more
    ∙ (ap (λ (it : List Difference). it ++ more_by test (map kept_of listed)) (finds all stands ∙ ap (λ (it : List Difference). it ++ known_from 0 known all) none)
    ∙ (ap (λ (it : List Kept). known_from 0 known all ++ more_by test it) kept
    ∙ ap (λ (it : List Difference). known_from 0 known all ++ it) (more_same test (is_known known) (kept_in all) same)))
