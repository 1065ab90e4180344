-- Runs of pieces over a document: they have one end.
use Rattle.std.proofs.Common.{◌≡◌, ℕ, List, [], ◌∷◌, ◌++◌, Option, Some, None, refl, sym, ap, subst, ◌∙◌}
use Rattle.std.specs.Prelude.{Result, Ok, Err}
use Rattle.droid_xml.specs.Documents.{Place, Run, next_at}
use Rattle.droid_xml.specs.Pieces.{Part}
use Rattle.droid_xml.specs.declared.problem.Problem.{Problem}

-- one piece more at the end of a run
pub run_more : (parts : List Part) (part : Part) (first place behind : Place) → Run first parts place → next_at place ≡ Ok (Some (part, behind)) → Run first (parts ++ part ∷ []) behind
run_more [] part first place behind run is = (behind, sym (ap next_at run) ∙ is, refl)
run_more (p ∷ parts) part first place behind run is = (run.0, run.1, run_more parts part run.0 place behind run.2 is)

-- what a step gave, or another pair
stepped : Result (Option (Part × Place)) (Problem × ℕ) → Part × Place → Part × Place
stepped (Ok (Some x)) other = x
stepped (Ok None) other = other
stepped (Err e) other = other

one_step : (at : Result (Option (Part × Place)) (Problem × ℕ)) (x y : Part × Place) → at ≡ Ok (Some x) → at ≡ Ok (Some y) → x ≡ y
unfolding stepped
one_step at x y first second = ap (λ r. stepped r x) (sym first ∙ second)

-- two runs to the end are of the same pieces
pub same_rest : (parts others : List Part) (place last end : Place) → Run place parts last → next_at last ≡ Ok None → Run place others end → next_at end ≡ Ok None → parts ≡ others
same_rest [] [] place last end run is other too = refl
same_rest [] (q ∷ others) place last end run is other too = let impossible : next_at place ≡ Ok None = sym (ap next_at run) ∙ is in let step = other.1 in absurd cc
same_rest (p ∷ parts) [] place last end run is other too = let impossible : next_at place ≡ Ok None = sym (ap next_at other) ∙ too in let step = run.1 in absurd cc
same_rest (p ∷ parts) (q ∷ others) place last end run is other too =
    let same : (p, run.0) ≡ (q, other.0) = one_step (next_at place) (p, run.0) (q, other.0) run.1 other.1 in
    let moved : Run run.0 others end = subst (λ (behind : Place). Run behind others end) (sym (ap (λ (x : Part × Place). x.1) same)) other.2 in
    let tails : parts ≡ others = same_rest parts others run.0 last end run.2 is moved too in
    let heads : p ≡ q = ap (λ (x : Part × Place). x.0) same in
    ap (λ (part : Part). part ∷ parts) heads ∙ ap (λ (rest : List Part). q ∷ rest) tails

-- a run that comes to a problem doesn't come to the end
pub no_rest : (parts others : List Part) (place last end : Place) (e : Problem × ℕ) → Run place parts last → next_at last ≡ Err e → Run place others end → next_at end ≡ Ok None → ⊥
no_rest [] [] place last end e run is other too = let one : next_at place ≡ Err e = sym (ap next_at run) ∙ is in let two : next_at place ≡ Ok None = sym (ap next_at other) ∙ too in absurd cc
no_rest [] (q ∷ others) place last end e run is other too = let one : next_at place ≡ Err e = sym (ap next_at run) ∙ is in let step = other.1 in absurd cc
no_rest (p ∷ parts) [] place last end e run is other too = let two : next_at place ≡ Ok None = sym (ap next_at other) ∙ too in let step = run.1 in absurd cc
no_rest (p ∷ parts) (q ∷ others) place last end e run is other too =
    let same : (p, run.0) ≡ (q, other.0) = one_step (next_at place) (p, run.0) (q, other.0) run.1 other.1 in
    let moved : Run run.0 others end = subst (λ (behind : Place). Run behind others end) (sym (ap (λ (x : Part × Place). x.1) same)) other.2 in
    no_rest parts others run.0 last end e run.2 is moved too
