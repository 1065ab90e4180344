-- Totals, classes and sums of groups, one row or group more.
use Rattle.std.proofs.Common.{◌≡◌, ◌∙◌, ℕ, ◌+◌, ◌-◌, ◌^◌, ◌<◌, min, Bool, true, false, cond, List, [], ◌∷◌, ◌++◌, add-zero, count_by, get_or, length, take, refl, sym, ap, subst, arith}
use Rattle.std.specs.List.{sum_by}
use Rattle.std.proofs.lemmas.List.{get_or-replicate, length-replicate}
use Rattle.std.proofs.lemmas.List.Sums.{sum_by_more, sum_by_push}
use Rattle.droid_report.specs.Classes.{IsCountedIn, IsTally, is_in, last_class, no_files}
use Rattle.droid_report.specs.Ranks.{together, with_group}
use Rattle.droid_report.specs.Rows.{Line}
use Rattle.droid_report.specs.Totals.{AreTotals, bytes_of, counted, held, is_counted, no_totals, total, totals_after}
use Rattle.droid_report.specs.declared.classes.By.{By}
use Rattle.droid_report.specs.declared.ranks.Group.{Group}
use Rattle.droid_report.specs.declared.ranks.GroupsTotal.{GroupsTotal}
use Rattle.droid_report.specs.declared.totals.Totals.{Totals}
use Rattle.droid_report.specs.declared.totals.What.{What}
use Rattle.droid_report.specs.declared.totals.What.TheVariants as what

pub cap_more : (k n j m : ℕ) → n ≡ min k m → min (n + j) m ≡ min (k + j) m
cap_more k n j m e = omega arith

cap_zero : (m : ℕ) → 0 ≡ min 0 m
cap_zero m = omega arith

pub nothing_held : 0 ≡ held 0
nothing_held = cap_zero (2 ^ 64 - 1)

one_more : (test : Bool) (k n : ℕ) → n ≡ held k → cond test (held (n + 1)) n ≡ held (k + cond test 1 0)
one_more true k n e = cap_more k n 1 (2 ^ 64 - 1) e
one_more false k n e = e ∙ ap held (sym (add-zero k))

pub count_more : (test : Line → Bool) (lines : List Line) (line : Line) (n : ℕ) → n ≡ held (count_by test lines) → cond (test line) (held (n + 1)) n ≡ held (count_by test (lines ++ line ∷ []))
count_more test lines line n e =
    one_more (test line) (count_by test lines) n e ∙ ap held (sym (sum_by_push (λ (one : Line). cond (test one) 1 0) lines line))

total_more : (one : What) (lines : List Line) (line : Line) (n : ℕ) → n ≡ total one lines → counted one n line ≡ total one (lines ++ line ∷ [])
total_more one lines line n e = count_more (is_counted one) lines line n e

pub totals_more : (lines : List Line) (line : Line) (old new : Totals) → new ≡ totals_after old line → AreTotals lines old → AreTotals (lines ++ line ∷ []) new
totals_more lines line old new step are =
    subst (AreTotals (lines ++ line ∷ [])) (sym step) (record {
      folders = total_more what.Folders lines line old.folders are.folders;
      files = total_more what.Files lines line old.files are.files;
      by_signature = total_more what.BySignature lines line old.by_signature are.by_signature;
      by_extension = total_more what.ByExtension lines line old.by_extension are.by_extension;
      unidentified = total_more what.Unidentified lines line old.unidentified are.unidentified;
      mismatches = total_more what.Mismatches lines line old.mismatches are.mismatches;
      several_formats = total_more what.SeveralFormats lines line old.several_formats are.several_formats;
      empty = total_more what.Empty lines line old.empty are.empty;
      bytes = cap_more _ old.bytes (bytes_of line) (2 ^ 64 - 1) are.bytes ∙ ap held (sym (sum_by_push bytes_of lines line));
    })

pub totals_none : (totals : Totals) → totals ≡ no_totals → AreTotals [] totals
totals_none totals is =
    subst (AreTotals []) (sym is) (record {
      folders = nothing_held;
      files = nothing_held;
      by_signature = nothing_held;
      by_extension = nothing_held;
      unidentified = nothing_held;
      mismatches = nothing_held;
      several_formats = nothing_held;
      empty = nothing_held;
      bytes = nothing_held;
    })

pub tally_more : (by : By) (lines : List Line) (line : Line) (old new : List ℕ) → IsCountedIn by line old new → IsTally by lines old → IsTally by (lines ++ line ∷ []) new
tally_more by lines line old new step are =
    record {
      all_classes = step.same_length ∙ are.all_classes;
      counts = λ class below.
          let here : class < length old = omega (arith, are.all_classes, below) in
          step.counts class here ∙ count_more (is_in by class) lines line (get_or old class 0) (are.counts class below);
    }

pub tally_none : (by : By) (table : List ℕ) → table ≡ no_files by → IsTally by [] table
unfolding no_files
tally_none by table is =
    subst (IsTally by []) (sym is) (record {
      all_classes = length-replicate (last_class by + 1) 0;
      counts = λ class below. get_or-replicate (last_class by + 1) class 0 0 below ∙ nothing_held;
    })

-- ---- groups

sum_more : (f : Group → ℕ) (groups : List Group) (i : ℕ) (past : Group) → i < length groups → held (held (sum_by f (take i groups)) + f (get_or groups i past)) ≡ held (sum_by f (take (i + 1) groups))
sum_more f groups i past below =
    cap_more (sum_by f (take i groups)) (held (sum_by f (take i groups))) (f (get_or groups i past)) (2 ^ 64 - 1) refl ∙ ap held (sym (sum_by_more f groups i past below))

abbrev made : ℕ → ℕ → ℕ → GroupsTotal
made count bytes saved = record { count = count; bytes = bytes; saved = saved }

made_same : (a b c d e f : ℕ) → a ≡ b → c ≡ d → e ≡ f → made a c e ≡ made b d f
made_same a b c d e f p q r = ap (λ (n : ℕ). made n c e) p ∙ (ap (λ (n : ℕ). made b n e) q ∙ ap (λ (n : ℕ). made b d n) r)

pub together_more : (groups : List Group) (i : ℕ) (past : Group) → i < length groups → with_group (together (take i groups)) (get_or groups i past) ≡ together (take (i + 1) groups)
together_more groups i past below =
    made_same _ _ _ _ _ _ (sum_more (λ g. g.count) groups i past below) (sum_more (λ g. g.bytes) groups i past below) (sum_more (λ g. g.saved) groups i past below)
