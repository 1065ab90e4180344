-- Records that were handed to a machine, and where they stand in a file.
use Rattle.std.proofs.Common.{◌≡◌, ℕ, ◌+◌, ◌-◌, ◌*◌, ◌<◌, ◌≤◌, Bool, true, false, List, [], ◌∷◌, ◌++◌, length, take, drop, refl, sym, ap, subst, ◌∙◌, append_assoc, arith, inl, inr}
use Rattle.std.specs.Prelude.{MatchBool}
use Rattle.std.proofs.lemmas.Bool.{cases_lt}
use Rattle.std.proofs.lemmas.List.{append-nil, length-append, length-take, length-drop, take-append-drop, drop-append-le, drop_at, drop-drop, drop-take, take_all}
use Rattle.std.proofs.Math.Seq.{take-append-add}
use Rattle.droid_frame.specs.declared.frame.Frame.{Frame}
use Rattle.droid_frame.specs.declared.reply.Reply.{Reply}
use Rattle.droid_journal.specs.Chains.{BeginsNoRecord, HasLater, IsLater, IsMark, StandsLater, chain_bytes, place_behind, place_with}
use Rattle.droid_journal.specs.Records.{Record, has_marks, place_after, record_bytes, turn_mark}
use Rattle.droid_journal.specs.declared.records.key.Key.{Key}
use Rattle.droid_journal.specs.declared.records.place.Place.{Place}
use Rattle.droid_journal.proofs.Chains.{at_behind, chain_append, fit_append, none_within, place_append, records_behind}
use Rattle.droid_journal.proofs.RecordLaws.{length-mark, record_within, stands_short}
use Rattle.droid_journal.specs.Opening.{Hands, StandIn}
use Rattle.droid_journal.specs.Replaying.{Fails, Gave, Refutes, Replays}

chain_empty : (key : Key) (place : Place) (its : List Record) → length (chain_bytes key place its) ≡ 0 → its ≡ []
chain_empty key place [] none = refl
chain_empty key place (it ∷ its) none =
    let within = record_within key place it in
    absurd (omega (arith, none, length-append (record_bytes key place it) (chain_bytes key (place_after key place it) its), within.0))

pub gave_append : (gives : List Record → Frame → Reply → Bool → Type 0) (before xs ys : List Record) → Gave gives before xs → Gave gives (before ++ xs) ys → Gave gives before (xs ++ ys)
gave_append gives before [] ys p q = subst (λ (b : List Record). Gave gives b ys) (append-nil before) q
gave_append gives before (x ∷ xs) ys p q =
    (p.0, gave_append gives (before ++ x ∷ []) xs ys p.1 (subst (λ (b : List Record). Gave gives b ys) (sym (append_assoc before (x ∷ []) xs)) q))

module _ {S M : Type 0} (stands : S → M → List Record → Type 0) (gives : S → List Record → Frame → Reply → Bool → Type 0) (key : Key) where
  pub at_is : (old new : M) (from to : Place) (its : List Record) → Hands stands gives key old from new to its → to.at ≡ from.at + length (chain_bytes key from its)
  at_is old new from to its hands = ap (λ (p : Place). p.at) hands.to_is ∙ at_behind key from its

  pub records_is : (old new : M) (from to : Place) (its : List Record) → Hands stands gives key old from new to its → to.records ≡ from.records + length its
  records_is old new from to its hands = ap (λ (p : Place). p.records) hands.to_is ∙ records_behind key from its

  pub handed : (bytes : List ℕ) (old new : M) (from to : Place) (r : Replays stands gives key from bytes old to new) → Hands stands gives key old from new to r.its
  handed bytes old new from to r = record { fit = r.fit; to_is = r.to_is; stood = r.stood; gave = r.gave }

  pub stand_in : (s bytes : List ℕ) (old new : M) (from to : Place) (r : Replays stands gives key from bytes old to new) → bytes ≡ take 16777216 (drop from.at s) → StandIn key s from to r.its
  stand_in s bytes old new from to r is =
      let x : List ℕ = drop from.at s in
      let chain : List ℕ = chain_bytes key from r.its in
      let behind : List ℕ = r.rest ++ drop 16777216 x in
      let at : to.at ≡ from.at + length chain = ap (λ (p : Place). p.at) r.to_is ∙ at_behind key from r.its in
      let whole : x ≡ chain ++ behind = sym (take-append-drop 16777216 x) ∙ ap (λ (t : List ℕ). t ++ drop 16777216 x) (sym is ∙ r.joined) ∙ append_assoc chain r.rest (drop 16777216 x) in
      let there : drop to.at s ≡ behind = ap (λ (n : ℕ). drop n s) at ∙ sym (drop-drop (length chain) from.at s) ∙ ap (λ (t : List ℕ). drop (length chain) t) whole ∙ drop_at chain behind (length chain) refl in
      whole ∙ ap (λ (t : List ℕ). chain ++ t) (sym there)

  pub ends_there : (s bytes : List ℕ) (old new : M) (from to : Place) → Replays stands gives key from bytes old to new → bytes ≡ take 16777216 (drop from.at s) → to.at ≡ from.at → BeginsNoRecord key to (drop to.at s)
  ends_there s bytes old new from to r is same =
      let at : to.at ≡ from.at + length (chain_bytes key from r.its) = ap (λ (p : Place). p.at) r.to_is ∙ at_behind key from r.its in
      let none : r.its ≡ [] = chain_empty key from r.its (omega (arith, at, same)) in
      let front : take 16777216 (drop from.at s) ≡ r.rest = sym is ∙ r.joined ∙ ap (λ (its : List Record). chain_bytes key from its ++ r.rest) none in
      subst (λ (n : ℕ). BeginsNoRecord key to (drop n s)) (sym same)
      (none_within key to (drop from.at s) 16777216 (omega arith) (subst (BeginsNoRecord key to) (sym front) r.ends))

  pub hands_none : (machine : M) (from : Place) → Hands stands gives key machine from machine from []
  hands_none machine from = record {
    fit = tt;
    to_is = refl;
    stood = λ setting before st. subst (stands setting machine) (sym (append-nil before)) st;
    gave = λ setting before st. tt;
  }

  pub hands_on : (old mid new : M) (a b c : Place) (xs ys : List Record) → Hands stands gives key old a mid b xs → Hands stands gives key mid b new c ys → Hands stands gives key old a new c (xs ++ ys)
  hands_on old mid new a b c xs ys p q = record {
    fit = fit_append xs ys p.fit q.fit;
    to_is = q.to_is ∙ ap (λ (k : Place). place_behind key k ys) p.to_is ∙ sym (place_append key a xs ys);
    stood = λ setting before st. subst (stands setting new) (append_assoc before xs ys) (q.stood setting (before ++ xs) (p.stood setting before st));
    gave = λ setting before st. gave_append (gives setting) before xs ys (p.gave setting before st) (q.gave setting (before ++ xs) (p.stood setting before st));
  }

  pub stand_on : (s : List ℕ) (old mid : M) (a b c : Place) (xs ys : List Record) → Hands stands gives key old a mid b xs → StandIn key s a b xs → StandIn key s b c ys → StandIn key s a c (xs ++ ys)
  stand_on s old mid a b c xs ys p one other =
      one ∙ ap (λ (t : List ℕ). chain_bytes key a xs ++ t) (other ∙ ap (λ (k : Place). chain_bytes key k ys ++ drop c.at s) p.to_is)
      ∙ sym (append_assoc (chain_bytes key a xs) (chain_bytes key (place_behind key a xs) ys) (drop c.at s))
      ∙ ap (λ (t : List ℕ). t ++ drop c.at s) (sym (chain_append key a xs ys))

  -- ---- a record that no journal of the machine wrote

  pub fails_in : (x bytes : List ℕ) (from : Place) (number : ℕ) (old : M) → bytes ≡ take 16777216 x → Fails stands gives key from bytes old number → Fails stands gives key from x old number
  fails_in x bytes from number old is f =
      let chain : List ℕ = chain_bytes key from (f.its ++ f.it ∷ []) in
      record {
        its = f.its;
        it = f.it;
        rest = f.rest ++ drop 16777216 x;
        fit = f.fit;
        fits = f.fits;
        joined = sym (take-append-drop 16777216 x) ∙ ap (λ (t : List ℕ). t ++ drop 16777216 x) (sym is ∙ f.joined) ∙ append_assoc chain f.rest (drop 16777216 x);
        count = f.count;
        why = f.why;
      }

  pub fails_on : (s : List ℕ) (old mid : M) (a b : Place) (xs : List Record) (number : ℕ) → Hands stands gives key old a mid b xs → StandIn key s a b xs → Fails stands gives key b (drop b.at s) mid number
      → Fails stands gives key a (drop a.at s) old number
  fails_on s old mid a b xs number p one f =
      let last : List Record = f.its ++ f.it ∷ [] in
      let front : List ℕ = chain_bytes key a xs in
      let after : Place = place_behind key a xs in
      record {
        its = xs ++ f.its;
        it = f.it;
        rest = f.rest;
        fit = fit_append xs f.its p.fit f.fit;
        fits = f.fits;
        joined =
            one ∙ ap (λ (t : List ℕ). front ++ t) (f.joined ∙ ap (λ (k : Place). chain_bytes key k last ++ f.rest) p.to_is)
            ∙ sym (append_assoc front (chain_bytes key after last) f.rest) ∙ ap (λ (t : List ℕ). t ++ f.rest) (sym (chain_append key a xs last))
            ∙ ap (λ (its : List Record). chain_bytes key a its ++ f.rest) (sym (append_assoc xs f.its (f.it ∷ [])));
        count = omega (arith, f.count, records_is old mid a b xs p, length-append xs f.its);
        why = λ setting before st. subst (λ (b : List Record). Refutes (gives setting) b f.it.request f.it.reply) (append_assoc before xs f.its) (f.why setting (before ++ xs) (p.stood setting before st));
      }

-- ---- the beginnings of later turns

module _ (key : Key) where
  -- the front of a later record of version 3 is one too, if it has room for the longest record
  later_front : (m : ℕ) (y : List ℕ) → 8388624 ≤ m → IsLater key y → IsLater key (take m y)
  later_front m y most later =
      let one : List ℕ = record_bytes key (place_with later.check) later.it in
      let both : List ℕ = later.check ++ one in
      let within = record_within key (place_with later.check) later.it in
      let whole : y ≡ both ++ later.rest = later.there ∙ sym (append_assoc later.check one later.rest) in
      let long : m ≡ length both + (m - length both) = omega (arith, within.1, later.fits.size, later.size, length-append later.check one) in
      let left = m - length both in
      record {
        check = later.check;
        it = later.it;
        rest = take left later.rest;
        size = later.size;
        is_sealed = later.is_sealed;
        fits = later.fits;
        first = later.first;
        there = ap (λ (t : List ℕ). take m t) whole ∙ ap (λ (n : ℕ). take n (both ++ later.rest)) long ∙ take-append-add both later.rest left ∙ append_assoc later.check one (take left later.rest);
      }

  pub mark_front : (at m : ℕ) (y : List ℕ) → 17 ≤ m → IsMark key at y → IsMark key at (take m y)
  mark_front at m y most mark =
      let front : List ℕ = turn_mark key at in
      let long : m ≡ length front + (m - length front) = omega (arith, length-mark key at, most) in
      (take (m - length front) mark.0, ap (λ (t : List ℕ). take m t) mark.1 ∙ ap (λ (n : ℕ). take n (front ++ mark.0)) long ∙ take-append-add front mark.0 (m - length front))

  pub mark_untaken : (at m : ℕ) (y : List ℕ) → IsMark key at (take m y) → IsMark key at y
  mark_untaken at m y mark =
      let front : List ℕ = turn_mark key at in
      (mark.0 ++ drop m y, sym (take-append-drop m y) ∙ ap (λ (t : List ℕ). t ++ drop m y) mark.1 ∙ append_assoc front mark.0 (drop m y))

  front_by : (marks : Bool) (at m : ℕ) (y : List ℕ) → 8388624 ≤ m → MatchBool marks (IsMark key at y) (IsLater key y) → MatchBool marks (IsMark key at (take m y)) (IsLater key (take m y))
  front_by true at m y most later = mark_front at m y (omega arith) later
  front_by false at m y most later = later_front m y most later

  stands_taken : (at n k : ℕ) (x : List ℕ) → k + 8388624 ≤ n → StandsLater key at (drop k x) → StandsLater key at (drop k (take n x))
  stands_taken at n k x most later =
      let split : n ≡ k + (n - k) = omega arith in
      subst (StandsLater key at) (sym (ap (λ (m : ℕ). drop k (take m x)) split ∙ drop-take k (n - k) x)) (front_by (has_marks key.form) at (n - k) (drop k x) (omega arith) later)

  later_more : (y more : List ℕ) → IsLater key y → IsLater key (y ++ more)
  later_more y more later =
      let one : List ℕ = record_bytes key (place_with later.check) later.it in
      record {
        check = later.check;
        it = later.it;
        rest = later.rest ++ more;
        size = later.size;
        is_sealed = later.is_sealed;
        fits = later.fits;
        first = later.first;
        there = ap (λ (t : List ℕ). t ++ more) later.there ∙ append_assoc later.check (one ++ later.rest) more ∙ ap (λ (t : List ℕ). later.check ++ t) (append_assoc one later.rest more);
      }

  more_by : (marks : Bool) (at : ℕ) (y more : List ℕ) → MatchBool marks (IsMark key at y) (IsLater key y) → MatchBool marks (IsMark key at (y ++ more)) (IsLater key (y ++ more))
  more_by true at y more mark = (mark.0 ++ more, ap (λ (t : List ℕ). t ++ more) mark.1 ∙ append_assoc (turn_mark key at) mark.0 more)
  more_by false at y more later = later_more y more later

  stands_untaken : (at n k : ℕ) (x : List ℕ) → StandsLater key at (drop k (take n x)) → StandsLater key at (drop k x)
  stands_untaken at n k x later =
      elim (cases_lt (length (take n x)) k) [
        | inl past ↦ absurd (stands_short key (drop k (take n x)) at (omega (arith, length-drop k (take n x))) later)
        | inr within ↦
            let split : drop k x ≡ drop k (take n x) ++ drop n x = ap (λ (t : List ℕ). drop k t) (sym (take-append-drop n x)) ∙ drop-append-le k (take n x) (drop n x) within in
            subst (StandsLater key at) (sym split) (more_by (has_marks key.form) at (drop k (take n x)) (drop n x) later)
      ]

  -- a place behind one place, from another before it
  moved : (s : List ℕ) (from at k : ℕ) → at ≤ from + k → drop k (drop from s) ≡ drop (from + k - at) (drop at s)
  moved s from at k le =
      let same : from + k ≡ at + (from + k - at) = omega arith in
      drop-drop k from s ∙ ap (λ (n : ℕ). drop n s) same ∙ sym (drop-drop (from + k - at) at s)

  -- the same of what stands there
  stands_moved : (s : List ℕ) (from at k : ℕ) → at ≤ from + k → StandsLater key (from + k) (drop k (drop from s)) → StandsLater key (at + (from + k - at)) (drop (from + k - at) (drop at s))
  stands_moved s from at k le later =
      let same : from + k ≡ at + (from + k - at) = omega arith in
      subst (λ (n : ℕ). StandsLater key n (drop (from + k - at) (drop at s))) same (subst (StandsLater key (from + k)) (moved s from at k le) later)

  abbrev pub NoneBelow : List ℕ → ℕ → ℕ → Type 0
  NoneBelow s from at = (k : ℕ) → from + k < at → StandsLater key (from + k) (drop k (drop from s)) → ⊥

  pub none_more : (s bytes : List ℕ) (from at next : ℕ) → bytes ≡ take 16777216 (drop at s) → NoneBelow s from at → (HasLater key at bytes → ⊥) → next ≡ at + 8388592 → NoneBelow s from next
  none_more s bytes from at next is below none more k lt later =
      elim (cases_lt (from + k) at) [
        | inl before ↦ below k before later
        | inr behind ↦
            let j = from + k - at in
            let there : StandsLater key (at + j) (drop j (drop at s)) = stands_moved s from at k behind later in
            none (j, subst (λ (t : List ℕ). StandsLater key (at + j) (drop j t)) (sym is) (stands_taken (at + j) 16777216 j (drop at s) (omega (arith, more)) there))
      ]

  pub none_there : (s bytes : List ℕ) (from at count : ℕ) → bytes ≡ take 16777216 (drop at s) → length bytes ≡ count → count < 16777216 → NoneBelow s from at → (HasLater key at bytes → ⊥) → HasLater key from (drop from s) → ⊥
  none_there s bytes from at count is size short below none later =
      let all : bytes ≡ drop at s = is ∙ take_all 16777216 (drop at s) (omega (arith, ap length is, size, length-take 16777216 (drop at s))) in
      elim (cases_lt (from + later.0) at) [
        | inl before ↦ below later.0 before later.1
        | inr behind ↦
            let j = from + later.0 - at in
            none (j, subst (λ (t : List ℕ). StandsLater key (at + j) (drop j t)) (sym all) (stands_moved s from at later.0 behind later.1))
      ]

  pub some_there : (s bytes : List ℕ) (from at : ℕ) → from ≤ at → bytes ≡ take 16777216 (drop at s) → HasLater key at bytes → HasLater key from (drop from s)
  some_there s bytes from at le is later =
      let k = at - from + later.0 in
      let sum : from + k ≡ at + later.0 = omega arith in
      let here : StandsLater key (at + later.0) (drop later.0 (drop at s)) = stands_untaken (at + later.0) 16777216 later.0 (drop at s) (subst (λ (t : List ℕ). StandsLater key (at + later.0) (drop later.0 t)) is later.1) in
      let same : drop later.0 (drop at s) ≡ drop k (drop from s) = drop-drop later.0 at s ∙ ap (λ (n : ℕ). drop n s) (sym sum) ∙ sym (drop-drop k from s) in
      (k, subst (λ (n : ℕ). StandsLater key n (drop k (drop from s))) (sym sum) (subst (StandsLater key (at + later.0)) same here))
