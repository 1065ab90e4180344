-- What is changed in a journal is seen.
use Rattle.std.proofs.Common.{◌≡◌, ◌≢◌, ℕ, ◌+◌, ◌-◌, ◌<◌, ◌≤◌, true, List, [], ◌∷◌, ◌++◌, length, get_or, take, drop, refl, sym, ap, subst, ◌∙◌, append_assoc, arith, inl, inr}
use Rattle.std.proofs.lemmas.Bool.{cases_lt}
use Rattle.std.proofs.lemmas.List.{append-nil, drop-drop, drop_at, get_or-take, length-append, length-take, take-append-drop, take-append-le, take_at, get_or_append_left}
use Rattle.std.proofs.Math.Seq.{drop-append-add, get_or-append_seam}
use Rattle.droid_journal.specs.Fronts.{IsFront}
use Rattle.droid_journal.specs.Records.{Record, AllFit, record_bytes, place_after, turn_mark}
use Rattle.droid_journal.specs.Chains.{chain_bytes, checked, first_place, form_of, journal_bytes, key_of, last_place, marked_bytes, skipped, Chain, HasLater, IsMark, NotByChance, ShowsDamage}
use Rattle.droid_journal.specs.Changes.{ChecksHold, IsChanged, Sees}
use Rattle.droid_journal.specs.Changes.Sees.{NoHeader, Damaged, Unanswered}
use Rattle.droid_journal.specs.declared.records.key.Form.TheVariants as forms
use Rattle.droid_journal.proofs.Fronts.{fronts_same}
use Rattle.droid_journal.proofs.RecordLaws.{later_mark, length-mark, record_within}
use Rattle.droid_journal.proofs.Chains.{at_behind, journal_append, last_at, place_append, read_is_written, synced_is_read}

-- a mark behind the records, and not at their end, shows damage
pub mark_shows : (header : List ℕ) (its : List Record) (rest : List ℕ) (gap at : ℕ) → form_of header ≡ forms.Present → 1 ≤ gap → at ≡ (last_place header its).at + gap → IsMark (key_of header) at (drop gap rest)
    → ShowsDamage header its rest
mark_shows header its rest gap at form some at_is mark =
    let end : ℕ = (last_place header its).at in
    let one : skipped (form_of header) ≡ 1 = ap skipped form in
    let sum : 1 + (gap - 1) ≡ gap = omega (arith, some) in
    let behind : drop gap rest ≡ drop (gap - 1) (drop 1 rest) = ap (λ (n : ℕ). drop n rest) (sym sum) ∙ sym (drop-drop (gap - 1) 1 rest) in
    let place : at ≡ end + 1 + (gap - 1) = omega (arith, at_is, some) in
    let here : IsMark (key_of header) (end + 1 + (gap - 1)) (drop (gap - 1) (drop 1 rest)) =
    subst (λ (n : ℕ). IsMark (key_of header) n (drop (gap - 1) (drop 1 rest))) place (subst (λ (t : List ℕ). IsMark (key_of header) at t) behind mark) in
    subst (λ (k : ℕ). HasLater (key_of header) (end + k) (drop k rest)) (sym one) (gap - 1, later_mark (key_of header) (end + 1 + (gap - 1)) (drop (gap - 1) (drop 1 rest)) form here)

-- records behind others have bytes
some_bytes : (header : List ℕ) (its : List Record) (it : Record) (more : List Record) → 1 ≤ length (chain_bytes (key_of header) (last_place header its) (it ∷ more))
some_bytes header its it more =
    let within = record_within (key_of header) (last_place header its) it in
    let one : List ℕ = record_bytes (key_of header) (last_place header its) it in
    omega (arith, within.0, length-append one (chain_bytes (key_of header) (place_after (key_of header) (last_place header its) it) more))

front_is : (a b c d : List ℕ) → length a ≡ length c → a ++ b ≡ c ++ d → a ≡ c
front_is a b c d long is = sym (take_at a b (length c) long) ∙ ap (λ (t : List ℕ). take (length c) t) is ∙ take_at c d (length c) refl

module _ (header other : List ℕ) (its : List Record) (form : form_of header ≡ forms.Present) (size : length other ≡ length (journal_bytes header its)) (differs : other ≢ journal_bytes header its) where
  abbrev mark : List ℕ
  mark = turn_mark (key_of header) (last_place header its).at

  change_by : (read more : List Record) (rest : List ℕ) → its ≡ read ++ more → other ++ mark ≡ journal_bytes header read ++ rest → ShowsDamage header read rest
  change_by read [] rest parts joined =
      let all : its ≡ read = parts ∙ append-nil read in
      let long : length other ≡ length (journal_bytes header read) = size ∙ ap (λ (t : List Record). length (journal_bytes header t)) all in
      absurd (differs (front_is other mark (journal_bytes header read) rest long joined ∙ ap (journal_bytes header) (sym all)))
  change_by read (it ∷ more) rest parts joined =
      let front : List ℕ = journal_bytes header read in
      let behind : List ℕ = chain_bytes (key_of header) (last_place header read) (it ∷ more) in
      let gap : ℕ = length behind in
      let whole : length (journal_bytes header its) ≡ length front + gap =
      ap (λ (t : List Record). length (journal_bytes header t)) parts ∙ ap length (journal_append header read (it ∷ more)) ∙ length-append front behind in
      let there : drop gap rest ≡ mark =
      sym (drop-append-add front rest gap) ∙ ap (λ (n : ℕ). drop n (front ++ rest)) (sym whole ∙ sym size) ∙ ap (λ (t : List ℕ). drop (length other) t) (sym joined) ∙ drop_at other mark (length other) refl in
      mark_shows header read rest gap (last_place header its).at form (some_bytes header read it more) (omega (arith, last_at header its, last_at header read, whole)) ([], there ∙ sym (append-nil mark))

pub change_shows : (header other : List ℕ) (its : List Record) → form_of header ≡ forms.Present → length other ≡ length (journal_bytes header its) → other ≢ journal_bytes header its
    → NotByChance header its (other ++ turn_mark (key_of header) (last_place header its).at) → (read : List Record) (rest : List ℕ) → Chain header (other ++ turn_mark (key_of header) (last_place header its).at) read rest
    → ShowsDamage header read rest
change_shows header other its form size differs chance read rest chain =
    let front = read_is_written header its (other ++ turn_mark (key_of header) (last_place header its).at) read rest chance chain in
    change_by header other its form size differs read front.0 rest front.1 chain.joined

pub torn_end : (header file : List ℕ) (its turn : List Record) (rest : List ℕ) → form_of header ≡ forms.Present → Chain header file its rest → 0 < length turn
    → IsMark (key_of header) (last_place header (its ++ turn)).at (drop (last_place header (its ++ turn)).at file) → ShowsDamage header its rest
torn_end header file its [] rest form chain some mark = absurd (omega (arith, some))
torn_end header file its (it ∷ turn) rest form chain some mark =
    let front : List ℕ = journal_bytes header its in
    let gap : ℕ = length (chain_bytes (key_of header) (last_place header its) (it ∷ turn)) in
    let end : ℕ = (last_place header (its ++ it ∷ turn)).at in
    let at : end ≡ (last_place header its).at + gap =
    ap (λ (place : _). place.at) (place_append (key_of header) (first_place header) its (it ∷ turn)) ∙ at_behind (key_of header) (last_place header its) (it ∷ turn) in
    let far : end ≡ length front + gap = omega (arith, at, last_at header its) in
    let there : drop end file ≡ drop gap rest = ap (λ (t : List ℕ). drop end t) chain.joined ∙ ap (λ (n : ℕ). drop n (front ++ rest)) far ∙ drop-append-add front rest gap in
    mark_shows header its rest gap end form (some_bytes header its it turn) at (subst (λ (t : List ℕ). IsMark (key_of header) end t) there mark)

-- ---- one byte

-- what begins both lists before the changed place tells nothing, and behind it they are alike
drop_past : (front : List ℕ) (was is : ℕ) (back : List ℕ) (n : ℕ) → length front < n → drop n (front ++ was ∷ back) ≡ drop n (front ++ is ∷ back)
drop_past front was is back n past =
    let sum : n ≡ length front + (1 + (n - length front - 1)) = omega (arith, past) in
    let left : drop n (front ++ was ∷ back) ≡ drop (n - length front - 1) back =
    ap (λ (k : ℕ). drop k (front ++ was ∷ back)) sum ∙ drop-append-add front (was ∷ back) (1 + (n - length front - 1)) ∙ sym (drop-drop (n - length front - 1) 1 (was ∷ back)) in
    let right : drop n (front ++ is ∷ back) ≡ drop (n - length front - 1) back =
    ap (λ (k : ℕ). drop k (front ++ is ∷ back)) sum ∙ drop-append-add front (is ∷ back) (1 + (n - length front - 1)) ∙ sym (drop-drop (n - length front - 1) 1 (is ∷ back)) in
    left ∙ sym right

-- no front that reaches beyond the changed place begins both
no_common : (bytes other : List ℕ) (place : ℕ) → IsChanged bytes other place → (common : List ℕ) → place < length common → IsFront common bytes → IsFront common other → ⊥
no_common bytes other place changed common within one two =
    let short : length changed.front < length common = omega (arith, changed.size, within) in
    let first : get_or common (length changed.front) 0 ≡ changed.was =
    sym (get_or_append_left common one.0 0 (length changed.front) short) ∙ ap (λ (t : List ℕ). get_or t (length changed.front) 0) (sym one.1 ∙ changed.bytes_are)
    ∙ get_or-append_seam changed.front changed.was changed.back 0 in
    let second : get_or common (length changed.front) 0 ≡ changed.is =
    sym (get_or_append_left common two.0 0 (length changed.front) short) ∙ ap (λ (t : List ℕ). get_or t (length changed.front) 0) (sym two.1 ∙ changed.other_are)
    ∙ get_or-append_seam changed.front changed.is changed.back 0 in
    changed.differ (sym first ∙ second)

same_size : (bytes other : List ℕ) (place : ℕ) → IsChanged bytes other place → length other ≡ length bytes
same_size bytes other place changed =
    omega (arith, ap length changed.bytes_are, ap length changed.other_are, length-append changed.front (changed.was ∷ changed.back), length-append changed.front (changed.is ∷ changed.back))

-- a front that does not reach the changed place begins both
common_front : (bytes other : List ℕ) (place : ℕ) → IsChanged bytes other place → (common : List ℕ) → length common ≤ place → IsFront common bytes → IsFront common other
common_front bytes other place changed common short one =
    let n : ℕ = length common in
    let left : take n bytes ≡ take n changed.front = ap (λ (t : List ℕ). take n t) changed.bytes_are ∙ take-append-le n changed.front (changed.was ∷ changed.back) (omega (arith, changed.size, short)) in
    let right : take n other ≡ take n changed.front = ap (λ (t : List ℕ). take n t) changed.other_are ∙ take-append-le n changed.front (changed.is ∷ changed.back) (omega (arith, changed.size, short)) in
    let is : take n other ≡ common = right ∙ sym left ∙ ap (λ (t : List ℕ). take n t) one.1 ∙ take_at common one.0 n refl in
    (drop n other, sym (take-append-drop n other) ∙ ap (λ (t : List ℕ). t ++ drop n other) is)

module _ (front : List ℕ) (its : List Record) (other : List ℕ) (place : ℕ) (form : form_of (checked front) ≡ forms.Present) (fits : AllFit its) (changed : IsChanged (marked_bytes (checked front) its) other place) (holds : ChecksHold front its other) where
  abbrev header : List ℕ
  header = checked front

  abbrev whole : List ℕ
  whole = journal_bytes header its

  abbrev last : List ℕ
  last = turn_mark (key_of header) (last_place header its).at

  in_header : place < length header → Sees front its other place
  in_header before =
      let chain : List ℕ = chain_bytes (key_of header) (first_place header) its in
      let begins : IsFront header (whole ++ last) = (chain ++ last, append_assoc header chain last) in
      NoHeader (λ begun long there. no_common (whole ++ last) other place changed header before begins (subst (λ (t : List ℕ). IsFront (checked t) other) (holds.header begun long there) there))

  in_records : place < length whole → Sees front its other place
  in_records before =
      let n : ℕ = length whole in
      let some : List ℕ = take n other in
      let long : length other ≡ length (whole ++ last) = same_size (whole ++ last) other place changed in
      let size : length some ≡ n = omega (arith, length-take n other, long, length-append whole last) in
      let past : length changed.front < n = omega (arith, changed.size, before) in
      let behind : drop n other ≡ last =
      ap (λ (t : List ℕ). drop n t) changed.other_are ∙ sym (drop_past changed.front changed.was changed.is changed.back n past) ∙ ap (λ (t : List ℕ). drop n t) (sym changed.bytes_are) ∙ drop_at whole last n refl in
      let joined : other ≡ some ++ last = sym (take-append-drop n other) ∙ ap (λ (t : List ℕ). some ++ t) behind in
      let differs : some ≢ whole = λ same. no_common (whole ++ last) other place changed whole before (last, refl) (last, joined ∙ ap (λ (t : List ℕ). t ++ last) same) in
      let chance : NotByChance header its (some ++ last) = subst (λ (t : List ℕ). NotByChance header its t) joined holds.records in
      Damaged (λ read rest chain. change_shows header some its form size differs chance read rest (subst (λ (t : List ℕ). Chain header t read rest) joined chain))

  in_mark : length whole ≤ place → Sees front its other place
  in_mark behind =
      let begins : IsFront whole other = common_front (whole ++ last) other place changed whole behind (last, refl) in
      Unanswered behind (λ read rest chain. fronts_same its read (synced_is_read header its other read rest fits begins chain) (read_is_written header its other read rest holds.records chain))

  pub byte_seen : Sees front its other place
  byte_seen =
      elim (cases_lt place (length header)) [
        | inl lt ↦ in_header lt
        | inr le ↦ elim (cases_lt place (length whole)) [
          | inl lt ↦ in_records lt
          | inr le ↦ in_mark le
        ]
      ]
