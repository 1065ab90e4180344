-- A journal that has nothing behind its records.
use Rattle.std.proofs.Common.{◌≡◌, ◌≢◌, ℕ, ◌+◌, ◌<◌, ◌≤◌, Bool, true, false, List, [], ◌∷◌, ◌++◌, length, take, drop, refl, sym, ap, subst, ◌∙◌, append_assoc, arith}
use Rattle.std.specs.Prelude.{if◌then◌else◌}
use Rattle.std.proofs.lemmas.List.{append-nil, drop_at, length-append, length-take, nil_from_length, take-append-drop, take_all, take_at}
use Rattle.droid_journal.specs.Opening.{HasHeader}
use Rattle.droid_journal.specs.Standing.{ahead_bytes}
use Rattle.droid_journal.specs.Chains.{BeginsNoRecord, Chain, chain_bytes, first_place, form_of, journal_bytes, key_of, last_place, place_behind}
use Rattle.droid_journal.specs.Records.{AllFit, Record, by_form, record_bytes, turn_mark}
use Rattle.droid_journal.specs.declared.records.key.Form.{Form}
use Rattle.droid_journal.specs.declared.records.key.Form.TheVariants as forms
use Rattle.droid_journal.specs.declared.records.key.Key.{Key}
use Rattle.droid_journal.specs.declared.records.place.Place.{Place}
use Rattle.droid_journal.proofs.Chains.{last_at, last_count, none_in_few, synced_is_read}
use Rattle.droid_journal.proofs.Fronts.{fronts_same}
use Rattle.droid_journal.proofs.RecordLaws.{length-mark}
use Rattle.droid_compaction.specs.Shortening.{HasBehind, IsWhole}
use Rattle.droid_compaction.specs.Sizes.{IsSizeOf}
use Rattle.droid_compaction.specs.Taking.{Passes, StandThere}

-- ---- the header

pub header_there : (header s seen : List ℕ) → seen ≡ take (length header) (drop 0 s) → seen ≡ header → HasHeader header s
header_there header s seen is same = (drop (length header) s, sym (take-append-drop (length header) s) ∙ ap (λ (t : List ℕ). t ++ drop (length header) s) (sym is ∙ same))

pub header_seen : (header s seen : List ℕ) → seen ≡ take (length header) (drop 0 s) → HasHeader header s → seen ≡ header
header_seen header s seen is has = is ∙ ap (λ (t : List ℕ). take (length header) t) has.1 ∙ take_at header has.0 (length header) refl

-- ---- the end

-- of a list, what its first 18 items say
pub all_seen : (seen rest : List ℕ) → seen ≡ take 18 rest → length seen < 18 → rest ≡ seen
all_seen seen rest is short = sym (take_all 18 rest (omega (arith, short, ap length is, length-take 18 rest))) ∙ sym is

pub none_seen : (seen rest : List ℕ) → seen ≡ take 18 rest → length seen ≡ 0 → rest ≡ []
none_seen seen rest is none = nil_from_length rest (omega (arith, none, ap length is, length-take 18 rest))

pub seen_none : (seen rest : List ℕ) → seen ≡ take 18 rest → 0 < length seen → rest ≢ []
seen_none seen rest is some end = omega (arith, some, ap length is, ap length end, length-take 18 rest)

pub seen_mark : (seen rest mark : List ℕ) → seen ≡ take 18 rest → length mark ≡ 17 → rest ≡ mark → seen ≡ mark
seen_mark seen rest mark is long same = is ∙ ap (λ (t : List ℕ). take 18 t) same ∙ take_all 18 mark (omega (arith, long))

-- what stands behind the records: the beginning of the next turn, or nothing
abbrev pub end_bytes : Key → ℕ → Bool → List ℕ
end_bytes key at ahead = if ahead then turn_mark key at else []

ahead_is : (header : List ℕ) (its : List Record) (ahead : Bool) → (ahead ≡ true → form_of header ≡ forms.Present) → end_bytes (key_of header) (last_place header its).at ahead ≡ ahead_bytes header its ahead
ahead_is header its true form = sym (ap (λ (f : Form). by_form f [] (turn_mark (key_of header) (last_place header its).at)) (form refl))
ahead_is header its false form = refl

end_long : (key : Key) (at : ℕ) (ahead : Bool) → length (end_bytes key at ahead) ≡ (if ahead then 17 else 0)
end_long key at true = omega (arith, length-mark key at)
end_long key at false = refl

few_by : (form : Form) (mark : List ℕ) → length mark ≡ 16 → length (by_form form [] (1 ∷ mark)) < 25
few_by forms.Before mark long = omega arith
few_by forms.Present mark long = omega (arith, long)

pub ahead_few : (header : List ℕ) (its : List Record) (ahead : Bool) → length (ahead_bytes header its ahead) < 25
ahead_few header its true = few_by (form_of header) _ (length-mark (key_of header) (last_place header its).at)
ahead_few header its false = omega arith

pub mark_few : (header : List ℕ) (its : List Record) → length (turn_mark (key_of header) (last_place header its).at) < 25
mark_few header its = omega (arith, length-mark (key_of header) (last_place header its).at)

-- of the two ends that a journal may have, neither is there
none_by : (form : Form) (rest mark : List ℕ) → (rest ≢ []) → (form ≡ forms.Present → rest ≢ mark) → rest ≢ by_form form [] mark
none_by forms.Before rest mark some other same = some same
none_by forms.Present rest mark some other same = other refl same

no_end : (header : List ℕ) (its : List Record) (rest : List ℕ) → (rest ≢ []) → (form_of header ≡ forms.Present → rest ≢ turn_mark (key_of header) (last_place header its).at) → (ahead : Bool) → rest ≢ ahead_bytes header its ahead
no_end header its rest some other true same = none_by (form_of header) rest (turn_mark (key_of header) (last_place header its).at) some other same
no_end header its rest some other false same = some same

-- ---- the records

module _ {S T : Type 0} (took : S → T → List Record → Type 0) (header s : List ℕ) (key : Key) (key_is : key ≡ key_of header) (old new : T) (from to : Place) (its : List Record) (start : from ≡ first_place header) (has : HasHeader header s) (p : Passes took key old from new to its) (there : StandThere key s from to its) where
  last_is : to ≡ last_place header its
  last_is = p.to_is ∙ ap (λ (k : Key). place_behind k from its) key_is ∙ ap (λ (f : Place). place_behind (key_of header) f its) start

  pub chain : Chain header s its (drop to.at s)
  chain =
      let rest : List ℕ = drop to.at s in
      let behind : has.0 ≡ drop from.at s = sym (ap (λ (f : Place). drop f.at s) start ∙ ap (λ (t : List ℕ). drop (length header) t) has.1 ∙ drop_at header has.0 (length header) refl) in
      let joined : drop from.at s ≡ chain_bytes (key_of header) (first_place header) its ++ rest =
      there.joined ∙ ap (λ (k : Key). chain_bytes k from its ++ rest) key_is ∙ ap (λ (f : Place). chain_bytes (key_of header) f its ++ rest) start in
      record {
        fit = p.fit;
        joined = has.1 ∙ ap (λ (t : List ℕ). header ++ t) (behind ∙ joined) ∙ sym (append_assoc header (chain_bytes (key_of header) (first_place header) its) rest);
        ends = subst (λ (k : Key). BeginsNoRecord k (last_place header its) rest) key_is (subst (λ (f : Place). BeginsNoRecord key f rest) last_is there.ends);
      }

  module _ (ahead : Bool) (end : drop to.at s ≡ end_bytes key to.at ahead) (form : ahead ≡ true → key.form ≡ forms.Present) where
    end_is : drop to.at s ≡ ahead_bytes header its ahead
    end_is =
        end ∙ ap (λ (k : Key). end_bytes k to.at ahead) key_is ∙ ap (λ (f : Place). end_bytes (key_of header) f.at ahead) last_is
        ∙ ahead_is header its ahead (λ shown. sym (ap (λ (k : Key). k.form) key_is) ∙ form shown)

    pub whole : IsWhole header s its
    whole = record { fit = p.fit; file_is = (ahead, chain.joined ∙ ap (λ (t : List ℕ). journal_bytes header its ++ t) end_is) }

    pub size_is : (bytes : ℕ) → bytes ≡ to.at + (if ahead then 17 else 0) → IsSizeOf s its (record { records = to.records; bytes = bytes })
    size_is bytes sum =
        let at : to.at ≡ (last_place header its).at = ap (λ (f : Place). f.at) last_is in
        record {
          records_are = ap (λ (f : Place). f.records) last_is ∙ last_count header its;
          bytes_are = omega (arith, sum, at, last_at header its, ap length chain.joined, ap length end, end_long key to.at ahead, length-append (journal_bytes header its) (drop to.at s));
        }

  pub behind : (drop to.at s ≢ []) → (key.form ≡ forms.Present → drop to.at s ≢ turn_mark key to.at) → HasBehind header s to.records
  behind some other =
      let rest : List ℕ = drop to.at s in
      let mark : turn_mark key to.at ≡ turn_mark (key_of header) (last_place header its).at = ap (λ (k : Key). turn_mark k to.at) key_is ∙ ap (λ (f : Place). turn_mark (key_of header) f.at) last_is in
      record {
        its = its;
        rest = rest;
        chain = chain;
        more = no_end header its rest some (λ form same. other (ap (λ (k : Key). k.form) key_is ∙ form) (same ∙ sym mark));
        count_is = ap (λ (f : Place). f.records) last_is ∙ last_count header its;
      }

-- ---- a journal has its records alone

pub whole_chain : (header s : List ℕ) (its : List Record) (whole : IsWhole header s its) → Chain header s its (ahead_bytes header its whole.file_is.0)
whole_chain header s its whole = record {
  fit = whole.fit;
  joined = whole.file_is.1;
  ends = none_in_few (key_of header) (last_place header its) (ahead_bytes header its whole.file_is.0) (ahead_few header its whole.file_is.0);
}

-- records and a few bytes behind them are read as these records
pub read_few : (header s tail : List ℕ) (its read : List Record) (rest : List ℕ) → AllFit its → s ≡ journal_bytes header its ++ tail → length tail < 25 → Chain header s read rest → read ≡ its
read_few header s tail its read rest fit is few chain =
    let one = synced_is_read header its s read rest fit (tail, is) chain in
    let own : Chain header s its tail = record { fit = fit; joined = is; ends = none_in_few (key_of header) (last_place header its) tail few } in
    let other = synced_is_read header read s its tail chain.fit (rest, chain.joined) own in
    fronts_same its read one other

pub read_is_whole : (header s : List ℕ) (its read : List Record) (rest : List ℕ) → IsWhole header s its → Chain header s read rest → read ≡ its
read_is_whole header s its read rest whole chain = read_few header s (ahead_bytes header its whole.file_is.0) its read rest whole.fit whole.file_is.1 (ahead_few header its whole.file_is.0) chain

pub same_records : (header s : List ℕ) (xs ys : List Record) → IsWhole header s xs → IsWhole header s ys → ys ≡ xs
same_records header s xs ys p q = read_is_whole header s xs ys (ahead_bytes header ys q.file_is.0) p (whole_chain header s ys q)
