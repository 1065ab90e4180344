-- Records at the front of bytes that are taken one after another.
use Rattle.std.proofs.Common.{◌≡◌, ℕ, ◌+◌, ◌<◌, ◌≤◌, List, [], ◌∷◌, ◌++◌, length, refl, sym, ap, subst, ◌∙◌, append_assoc, arith}
use Rattle.std.proofs.lemmas.List.{append-nil, length-append}
use Rattle.droid_journal.specs.Chains.{BeginsNoRecord, BeginsWith, chain_bytes, place_behind}
use Rattle.droid_journal.specs.Records.{AllFit, Record, place_after, record_bytes}
use Rattle.droid_journal.specs.declared.records.key.Key.{Key}
use Rattle.droid_journal.specs.declared.records.place.Place.{Place}
use Rattle.droid_journal.proofs.Chains.{at_behind, chain_append, chain_long, fit_append, place_append, records_behind}
use Rattle.droid_journal.proofs.RecordLaws.{record_within}
use Rattle.droid_compaction.specs.Taking.{Takes}

module _ {S T : Type 0} (took : S → T → List Record → Type 0) (key : Key) (from : Place) (bytes : List ℕ) (old : T) where
  -- the records of the bytes up to this rest, which stands at this place, were taken
  pub record Going (rest : List ℕ) (to : Place) (new : T) : Type 0 where
    pub its : List Record
    pub fit : AllFit its
    pub joined : bytes ≡ chain_bytes key from its ++ rest
    pub to_is : to ≡ place_behind key from its
    pub taken : (setting : S) (before : List Record) → took setting old before → took setting new (before ++ its)

  pub begun : Going bytes from old
  begun = record {
    its = [];
    fit = tt;
    joined = refl;
    to_is = refl;
    taken = λ setting before st. subst (took setting old) (sym (append-nil before)) st;
  }

  -- with the next record
  one_more : (rest behind : List ℕ) (to next : Place) (mid : T) (it : Record) (so_far : Going rest to mid) → BeginsWith key to rest it next behind → bytes ≡ chain_bytes key from (so_far.its ++ it ∷ []) ++ behind
  one_more rest behind to next mid it so_far found =
      let its = so_far.its in
      let here : record_bytes key to it ≡ chain_bytes key (place_behind key from its) (it ∷ []) =
      sym (append-nil (record_bytes key to it)) ∙ ap (λ (k : Place). chain_bytes key k (it ∷ [])) so_far.to_is in
      so_far.joined ∙ ap (λ (t : List ℕ). chain_bytes key from its ++ t) (found.parts ∙ ap (λ (t : List ℕ). t ++ behind) here)
      ∙ sym (append_assoc (chain_bytes key from its) (chain_bytes key (place_behind key from its) (it ∷ [])) behind)
      ∙ ap (λ (t : List ℕ). t ++ behind) (sym (chain_append key from its (it ∷ [])))

  pub goes_on : (rest behind : List ℕ) (to next : Place) (mid new : T) (it : Record) (so_far : Going rest to mid) → BeginsWith key to rest it next behind
      → ((setting : S) (before : List Record) → took setting mid before → took setting new (before ++ it ∷ [])) → Going behind next new
  goes_on rest behind to next mid new it so_far found taken =
      let its = so_far.its in
      record {
        its = its ++ it ∷ [];
        fit = fit_append its (it ∷ []) so_far.fit (found.fits, tt);
        joined = one_more rest behind to next mid it so_far found;
        to_is = found.after_is ∙ ap (λ (k : Place). place_after key k it) so_far.to_is ∙ sym (place_append key from its (it ∷ []));
        taken = λ setting before st. subst (took setting new) (append_assoc before its (it ∷ [])) (taken setting (before ++ its) (so_far.taken setting before st));
      }

  -- where the rest stands: it ends where the bytes end, and no more records came than bytes
  pub within : (rest : List ℕ) (to : Place) (mid : T) → Going rest to mid → (to.at + length rest ≡ from.at + length bytes) × (to.records + length rest ≤ from.records + length bytes)
  within rest to mid so_far =
      let chain : List ℕ = chain_bytes key from so_far.its in
      let at : to.at ≡ from.at + length chain = ap (λ (p : Place). p.at) so_far.to_is ∙ at_behind key from so_far.its in
      let count : to.records ≡ from.records + length so_far.its = ap (λ (p : Place). p.records) so_far.to_is ∙ records_behind key from so_far.its in
      let size : length bytes ≡ length chain + length rest = ap length so_far.joined ∙ length-append chain rest in
      (omega (arith, at, size), omega (arith, count, size, chain_long key from so_far.its))

  pub went : (rest : List ℕ) (to : Place) (new : T) → Going rest to new → BeginsNoRecord key to rest → Takes took key from bytes old to new
  went rest to new so_far none = record {
    its = so_far.its;
    rest = rest;
    fit = so_far.fit;
    joined = so_far.joined;
    ends = none;
    to_is = so_far.to_is;
    taken = so_far.taken;
  }

pub shorter : (key : Key) (place : Place) (rest : List ℕ) (it : Record) (next : Place) (behind : List ℕ) → BeginsWith key place rest it next behind → length behind < length rest
shorter key place rest it next behind found =
    let within = record_within key place it in
    omega (arith, ap length found.parts, length-append (record_bytes key place it) behind, within.0)
