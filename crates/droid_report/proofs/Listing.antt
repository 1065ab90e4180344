-- Lists of files, one row more.
use Rattle.std.proofs.Common.{◌≡◌, ◌∙◌, ℕ, zero, suc, ◌+◌, ◌<◌, ◌≤◌, ◌&&◌, nat_lt, not, Bool, true, false, cond, List, [], ◌∷◌, ◌++◌, append-nil, filter, Some, None, unwrap_or, length, length-append, length-take, take, take_all, refl, sym, ap, arith}
use Rattle.std.specs.List.{insert, position_or_len}
use Rattle.std.proofs.lemmas.Bool.{lt-ltb, ltb-true, ltb-false}
use Rattle.std.proofs.lemmas.List.{take-append-le, take-take}
use Rattle.std.proofs.lemmas.List.Elements.{filter-append}
use Rattle.std.proofs.lemmas.List.Sums.{fold_push, prefix_len-le-length}
use Rattle.droid_report.specs.Lists.{AreLists, ListsAfter, first_after, firsts, in_order, is_ranked, place_for, placed, rank_of, ranked, ranked_after}
use Rattle.droid_report.specs.Lines.{lines_in}
use Rattle.droid_report.specs.Rows.{Line}
use Rattle.droid_report.specs.Totals.{is_counted}
use Rattle.droid_report.specs.declared.lists.Lists.{Lists}
use Rattle.droid_report.specs.declared.lists.Rank.{Rank}
use Rattle.droid_report.specs.declared.lists.Rank.TheVariants as ranks
use Rattle.droid_report.specs.declared.totals.What.{What}
use Rattle.droid_report.specs.declared.totals.What.TheVariants as what

-- ---- the first that count

first_by : {X : Type 0} (room here : Bool) (n : ℕ) (xs : List X) (x : X) → nat_lt (length (take n xs)) n ≡ room
    → cond (room && here) (take n xs ++ x ∷ []) (take n xs) ≡ take n (xs ++ cond here (x ∷ []) [])
first_by {X = X} true true n xs x is =
    let cut : length (take n xs) < n = ltb-true (length (take n xs)) n is in
    let short : length xs ≤ n = omega (arith, length-take n xs) in
    let all : length (xs ++ x ∷ []) ≤ n = omega (arith, length-take n xs, length-append xs (x ∷ [])) in
    ap (λ (ys : List X). ys ++ x ∷ []) (take_all n xs short) ∙ sym (take_all n (xs ++ x ∷ []) all)
first_by false true n xs x is =
    let full : n ≤ length xs = omega (arith, ltb-false (length (take n xs)) n is, length-take n xs) in
    sym (take-append-le n xs (x ∷ []) full)
first_by true false n xs x is = ap (take n) (sym (append-nil xs))
first_by false false n xs x is = ap (take n) (sym (append-nil xs))

firsts_more : (one : What) (n : ℕ) (lines : List Line) (line : Line) (old : List Line) → old ≡ firsts one n lines → first_after one n old line ≡ firsts one n (lines ++ line ∷ [])
firsts_more one n lines line old is =
    ap (λ (ls : List Line). first_after one n ls line) is
    ∙ (first_by (nat_lt (length (firsts one n lines)) n) (is_counted one line) n (filter (is_counted one) lines) line refl
    ∙ ap (take n) (sym (filter-append (is_counted one) lines (line ∷ []))))

-- ---- the first of an order

put : {X : Type 0} → (X → Bool) → X → List X → List X
put test x [] = x ∷ []
put test x (y ∷ ys) = cond (test y) (x ∷ y ∷ ys) (y ∷ put test x ys)

put_by : {X : Type 0} (here : Bool) (x y : X) (ys after : List X) (n : ℕ) → insert ys n x ≡ after → insert (y ∷ ys) (cond (not here) (1 + n) 0) x ≡ cond here (x ∷ y ∷ ys) (y ∷ after)
put_by true x y ys after n is = refl
put_by {X = X} false x y ys after n is =
    let next : 1 + n ≡ suc n = omega arith in
    ap (λ (k : ℕ). insert (y ∷ ys) k x) next ∙ ap (λ (zs : List X). y ∷ zs) is

put_is : {X : Type 0} (test : X → Bool) (x : X) (ys : List X) → insert ys (position_or_len test ys) x ≡ put test x ys
unfolding put
put_is test x [] = refl
put_is test x (y ∷ ys) = put_by (test y) x y ys (put test x ys) (position_or_len test ys) (put_is test x ys)

cut_by : {X : Type 0} (here : Bool) (n : ℕ) (x y : X) (ys cut whole : List X) → take n cut ≡ take n whole
    → take (suc n) (cond here (x ∷ y ∷ take n ys) (y ∷ cut)) ≡ take (suc n) (cond here (x ∷ y ∷ ys) (y ∷ whole))
cut_by {X = X} true n x y ys cut whole is =
    let below : n ≤ suc n = omega arith in
    ap (λ (zs : List X). x ∷ zs) (take-take n (suc n) (y ∷ ys) below)
cut_by {X = X} false n x y ys cut whole is = ap (λ (zs : List X). y ∷ zs) is

cut_put : {X : Type 0} (test : X → Bool) (x : X) (n : ℕ) (ys : List X) → take n (put test x (take n ys)) ≡ take n (put test x ys)
unfolding put
cut_put test x zero ys = refl
cut_put test x (suc n) [] = refl
cut_put test x (suc n) (y ∷ ys) = cut_by (test y) n x y ys (put test x (take n ys)) (put test x ys) (cut_put test x n ys)

past_by : {X : Type 0} (here : Bool) (n m : ℕ) (x y : X) (ys after : List X) → suc n ≤ cond (not here) (1 + m) 0 → (n ≤ m → take n after ≡ take n ys)
    → take (suc n) (cond here (x ∷ y ∷ ys) (y ∷ after)) ≡ take (suc n) (y ∷ ys)
past_by true n m x y ys after below more = absurd (omega arith)
past_by {X = X} false n m x y ys after below more =
    let rest : n ≤ m = omega arith in
    ap (λ (zs : List X). y ∷ zs) (more rest)

past_put : {X : Type 0} (test : X → Bool) (x : X) (n : ℕ) (ys : List X) → n ≤ position_or_len test ys → take n (put test x ys) ≡ take n ys
unfolding put
past_put test x zero ys below = refl
past_put test x (suc n) [] below = absurd (omega arith)
past_put test x (suc n) (y ∷ ys) below = past_by (test y) n (position_or_len test ys) x y ys (put test x ys) below (past_put test x n ys)

placed_by : (room : Bool) (rank : Rank) (n : ℕ) (order : List Line) (line : Line) → nat_lt (place_for rank line (take n order)) n ≡ room
    → cond room (take n (placed rank (take n order) line)) (take n order) ≡ take n (placed rank order line)
placed_by true rank n order line is =
    let test : Line → Bool = λ other. nat_lt (rank_of rank line) (rank_of rank other) in
    ap (take n) (put_is test line (take n order)) ∙ (cut_put test line n order ∙ ap (take n) (sym (put_is test line order)))
placed_by false rank n order line is =
    let test : Line → Bool = λ other. nat_lt (rank_of rank line) (rank_of rank other) in
    let past : n ≤ position_or_len test (take n order) = ltb-false (place_for rank line (take n order)) n is in
    let below : n ≤ n = omega arith in
    sym (take-take n n order below) ∙ (sym (past_put test line n (take n order) past)
    ∙ (cut_put test line n order ∙ ap (take n) (sym (put_is test line order))))

ranked_by : (here : Bool) (rank : Rank) (n : ℕ) (kept : List Line) (line : Line)
    → cond (here && nat_lt (place_for rank line (take n (in_order rank kept))) n) (take n (placed rank (take n (in_order rank kept)) line)) (take n (in_order rank kept))
    ≡ take n (in_order rank (kept ++ cond here (line ∷ []) []))
ranked_by true rank n kept line =
    placed_by (nat_lt (place_for rank line (take n (in_order rank kept))) n) rank n (in_order rank kept) line refl ∙ ap (take n) (sym (fold_push (placed rank) [] kept line))
ranked_by false rank n kept line = ap (λ (ls : List Line). take n (in_order rank ls)) (sym (append-nil kept))

ranked_more : (rank : Rank) (n : ℕ) (lines : List Line) (line : Line) (old : List Line) → old ≡ ranked rank n lines → ranked_after rank n old line ≡ ranked rank n (lines ++ line ∷ [])
ranked_more rank n lines line old is =
    ap (λ (ls : List Line). ranked_after rank n ls line) is
    ∙ (ranked_by (is_ranked rank line) rank n (filter (is_ranked rank) lines) line
    ∙ ap (λ (ls : List Line). take n (in_order rank ls)) (sym (filter-append (is_ranked rank) lines (line ∷ []))))

or_end : (place end : ℕ) (within : Bool) → nat_lt place end ≡ within → place ≤ end → unwrap_or (cond within (Some place) None) end ≡ place
or_end place end true is most = refl
or_end place end false is most =
    let past : end ≤ place = ltb-false place end is in
    omega arith

pub place_or_end : {X : Type 0} (test : X → Bool) (xs : List X) → unwrap_or (cond (nat_lt (position_or_len test xs) (length xs)) (Some (position_or_len test xs)) None) (length xs) ≡ position_or_len test xs
place_or_end test xs = or_end (position_or_len test xs) (length xs) (nat_lt (position_or_len test xs) (length xs)) refl (prefix_len-le-length (λ x. not (test x)) xs)

pub ranked_in : (rank : Rank) (n : ℕ) (lines : List Line) (line : Line) (place : ℕ) → place ≡ place_for rank line lines → is_ranked rank line ≡ true → place < n → take n (insert lines place line) ≡ ranked_after rank n lines line
ranked_in rank n lines line place is here below =
    let test : (is_ranked rank line && nat_lt (place_for rank line lines) n) ≡ true
    = ap (λ (b : Bool). b && nat_lt (place_for rank line lines) n) here ∙ (ap (λ (p : ℕ). nat_lt p n) (sym is) ∙ lt-ltb place n below) in
    ap (λ (p : ℕ). take n (insert lines p line)) is ∙ sym (ap (λ (b : Bool). cond b (take n (placed rank lines line)) lines) test)

pub lists_none : (lists : Lists) → lists.unidentified.items ≡ [] → lists.mismatches.items ≡ [] → lists.several_formats.items ≡ [] → lists.largest.items ≡ [] → lists.oldest.items ≡ [] → lists.newest.items ≡ [] → AreLists [] lists
lists_none lists a b c d e f =
    record {
      unidentified = ap lines_in a;
      mismatches = ap lines_in b;
      several_formats = ap lines_in c;
      largest = ap lines_in d;
      oldest = ap lines_in e;
      newest = ap lines_in f;
    }

pub lists_more : (lines : List Line) (line : Line) (old new : Lists) → ListsAfter line old new → AreLists lines old → AreLists (lines ++ line ∷ []) new
lists_more lines line old new step are =
    record {
      unidentified = step.unidentified ∙ firsts_more what.Unidentified 200 lines line (lines_in old.unidentified.items) are.unidentified;
      mismatches = step.mismatches ∙ firsts_more what.Mismatches 200 lines line (lines_in old.mismatches.items) are.mismatches;
      several_formats = step.several_formats ∙ firsts_more what.SeveralFormats 200 lines line (lines_in old.several_formats.items) are.several_formats;
      largest = step.largest ∙ ranked_more ranks.Largest 50 lines line (lines_in old.largest.items) are.largest;
      oldest = step.oldest ∙ ranked_more ranks.Oldest 20 lines line (lines_in old.oldest.items) are.oldest;
      newest = step.newest ∙ ranked_more ranks.Newest 20 lines line (lines_in old.newest.items) are.newest;
    }
