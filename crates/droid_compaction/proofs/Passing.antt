-- Records that were taken, and where they stand in a file.
use Rattle.std.proofs.Common.{◌≡◌, ℕ, ◌+◌, List, [], ◌∷◌, ◌++◌, length, take, drop, refl, sym, ap, subst, ◌∙◌, append_assoc, arith}
use Rattle.std.proofs.lemmas.List.{append-nil, length-append, take-append-drop, drop_at, drop-drop}
use Rattle.droid_journal.specs.Chains.{BeginsNoRecord, chain_bytes, place_behind}
use Rattle.droid_journal.specs.Records.{Record, place_after, record_bytes}
use Rattle.droid_journal.specs.declared.records.key.Key.{Key}
use Rattle.droid_journal.specs.declared.records.place.Place.{Place}
use Rattle.droid_journal.proofs.Chains.{at_behind, chain_append, fit_append, none_within, place_append, records_behind}
use Rattle.droid_journal.proofs.RecordLaws.{record_within}
use Rattle.droid_compaction.specs.Taking.{Passes, StandIn, Takes}

chain_empty : (key : Key) (place : Place) (its : List Record) → length (chain_bytes key place its) ≡ 0 → its ≡ []
chain_empty key place [] none = refl
chain_empty key place (it ∷ its) none =
    let within = record_within key place it in
    absurd (omega (arith, none, length-append (record_bytes key place it) (chain_bytes key (place_after key place it) its), within.0))

module _ {S T : Type 0} (took : S → T → List Record → Type 0) (key : Key) where
  pub at_is : (old new : T) (from to : Place) (its : List Record) → Passes took key old from new to its → to.at ≡ from.at + length (chain_bytes key from its)
  at_is old new from to its passes = ap (λ (p : Place). p.at) passes.to_is ∙ at_behind key from its

  pub records_is : (old new : T) (from to : Place) (its : List Record) → Passes took key old from new to its → to.records ≡ from.records + length its
  records_is old new from to its passes = ap (λ (p : Place). p.records) passes.to_is ∙ records_behind key from its

  pub passed : (bytes : List ℕ) (old new : T) (from to : Place) (r : Takes took key from bytes old to new) → Passes took key old from new to r.its
  passed bytes old new from to r = record { fit = r.fit; to_is = r.to_is; taken = r.taken }

  pub stand_in : (s bytes : List ℕ) (old new : T) (from to : Place) (r : Takes took key from bytes old to new) → bytes ≡ take 16777216 (drop from.at s) → StandIn key s from to r.its
  stand_in s bytes old new from to r is =
      let x : List ℕ = drop from.at s in
      let chain : List ℕ = chain_bytes key from r.its in
      let behind : List ℕ = r.rest ++ drop 16777216 x in
      let at : to.at ≡ from.at + length chain = ap (λ (p : Place). p.at) r.to_is ∙ at_behind key from r.its in
      let whole : x ≡ chain ++ behind = sym (take-append-drop 16777216 x) ∙ ap (λ (t : List ℕ). t ++ drop 16777216 x) (sym is ∙ r.joined) ∙ append_assoc chain r.rest (drop 16777216 x) in
      let there : drop to.at s ≡ behind = ap (λ (n : ℕ). drop n s) at ∙ sym (drop-drop (length chain) from.at s) ∙ ap (λ (t : List ℕ). drop (length chain) t) whole ∙ drop_at chain behind (length chain) refl in
      whole ∙ ap (λ (t : List ℕ). chain ++ t) (sym there)

  pub ends_there : (s bytes : List ℕ) (old new : T) (from to : Place) → Takes took key from bytes old to new → bytes ≡ take 16777216 (drop from.at s) → to.at ≡ from.at → BeginsNoRecord key to (drop to.at s)
  ends_there s bytes old new from to r is same =
      let at : to.at ≡ from.at + length (chain_bytes key from r.its) = ap (λ (p : Place). p.at) r.to_is ∙ at_behind key from r.its in
      let none : r.its ≡ [] = chain_empty key from r.its (omega (arith, at, same)) in
      let front : take 16777216 (drop from.at s) ≡ r.rest = sym is ∙ r.joined ∙ ap (λ (its : List Record). chain_bytes key from its ++ r.rest) none in
      subst (λ (n : ℕ). BeginsNoRecord key to (drop n s)) (sym same)
      (none_within key to (drop from.at s) 16777216 (omega arith) (subst (BeginsNoRecord key to) (sym front) r.ends))

  pub passes_none : (taker : T) (from : Place) → Passes took key taker from taker from []
  passes_none taker from = record {
    fit = tt;
    to_is = refl;
    taken = λ setting before st. subst (took setting taker) (sym (append-nil before)) st;
  }

  pub passes_on : (old mid new : T) (a b c : Place) (xs ys : List Record) → Passes took key old a mid b xs → Passes took key mid b new c ys → Passes took key old a new c (xs ++ ys)
  passes_on old mid new a b c xs ys p q = record {
    fit = fit_append xs ys p.fit q.fit;
    to_is = q.to_is ∙ ap (λ (k : Place). place_behind key k ys) p.to_is ∙ sym (place_append key a xs ys);
    taken = λ setting before st. subst (took setting new) (append_assoc before xs ys) (q.taken setting (before ++ xs) (p.taken setting before st));
  }

  pub stand_on : (s : List ℕ) (old mid : T) (a b c : Place) (xs ys : List Record) → Passes took key old a mid b xs → StandIn key s a b xs → StandIn key s b c ys → StandIn key s a c (xs ++ ys)
  stand_on s old mid a b c xs ys p one other =
      one ∙ ap (λ (t : List ℕ). chain_bytes key a xs ++ t) (other ∙ ap (λ (k : Place). chain_bytes key k ys ++ drop c.at s) p.to_is)
      ∙ sym (append_assoc (chain_bytes key a xs) (chain_bytes key (place_behind key a xs) ys) (drop c.at s))
      ∙ ap (λ (t : List ℕ). t ++ drop c.at s) (sym (chain_append key a xs ys))
