-- A text whose lines have one end each.
use Rattle.std.proofs.Common.{◌≡◌, ◌∙◌, ℕ, ◌+◌, ◌<◌, ◌==◌, ◌&&◌, ◌||◌, Bool, true, false, not, List, [], ◌∷◌, ◌++◌, length, drop, get_or, refl, sym, ap, append_assoc}
use Rattle.std.specs.List.{list_any}
use Rattle.std.specs.Prelude.{if◌then◌else◌}
use Rattle.std.proofs.lemmas.Bool.{or_parts}
use Rattle.std.proofs.lemmas.List.{drop_more}
use Rattle.droid_fixity.specs.Texts.{has_returns, unpaired, unpaired_from}
use Rattle.droid_fixity.specs.declared.checksum_lists.form.ManifestForm.{ManifestForm}
use Rattle.droid_fixity.specs.declared.checksum_lists.form.ManifestForm.TheVariants.{Checksums, Bag}

-- ---- one byte more

-- a byte, unless it is the second that ends a line
abbrev pub kept : Bool → ℕ → List ℕ
kept second b = if second then [] else b ∷ []

step_after : (feed : Bool) (b : ℕ) (text : List ℕ)
    → (if feed then unpaired_from false text else b ∷ unpaired_from (b == 13) text) ≡ kept feed b ++ unpaired_from (not feed && (b == 13)) text
step_after true b text = refl
step_after false b text = refl

step : (after : Bool) (b : ℕ) (text : List ℕ) → unpaired_from after (b ∷ text) ≡ kept (after && (b == 10)) b ++ unpaired_from (not (after && (b == 10)) && (b == 13)) text
step true b text = step_after (b == 10) b text
step false b text = refl

pub byte_kept : (text copy next : List ℕ) (place : ℕ) (after second return : Bool) (all : List ℕ) → place < length text → second ≡ (after && (get_or text place 0 == 10)) → return ≡ (not second && (get_or text place 0 == 13))
    → copy ++ unpaired_from after (drop place text) ≡ all → next ≡ copy ++ kept second (get_or text place 0) → next ++ unpaired_from return (drop (place + 1) text) ≡ all
byte_kept text copy next place after second return all below tests returns so_far added =
    let b = get_or text place 0 in
    let rest = drop (place + 1) text in
    let here : unpaired_from after (drop place text) ≡ kept second b ++ unpaired_from return rest =
    ap (unpaired_from after) (drop_more text place 0 below)
    ∙ (step after b rest
    ∙ (ap (λ (t : Bool). kept t b ++ unpaired_from (not t && (b == 13)) rest) (sym tests)
    ∙ ap (λ (t : Bool). kept second b ++ unpaired_from t rest) (sym returns))) in
    ap (λ (n : List ℕ). n ++ unpaired_from return rest) added
    ∙ (append_assoc copy (kept second b) (unpaired_from return rest)
    ∙ (ap (λ (r : List ℕ). copy ++ r) (sym here) ∙ so_far))

-- ---- a text that stays

no_returns : (text : List ℕ) → list_any (λ b. b == 13) text ≡ false → unpaired_from false text ≡ text
no_returns [] none = refl
no_returns (b ∷ text) none =
    let both = or_parts (b == 13) (list_any (λ b. b == 13) text) none in
    ap (λ (after : Bool). b ∷ unpaired_from after text) both.0 ∙ ap (λ (rest : List ℕ). b ∷ rest) (no_returns text both.1)

pub stays : (form : ManifestForm) (text : List ℕ) → has_returns form text ≡ false → unpaired form text ≡ text
stays Checksums text none = refl
stays Bag text none = no_returns text none

pub of_bag : (form : ManifestForm) (text : List ℕ) → has_returns form text ≡ true → unpaired form text ≡ unpaired_from false text
of_bag Checksums text some = absurd cc
of_bag Bag text some = refl
