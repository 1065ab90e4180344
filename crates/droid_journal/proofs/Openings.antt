-- A file that is opened: what it begins with, its records, and what stands behind them.
use Rattle.std.proofs.Common.{◌≡◌, ℕ, ◌+◌, ◌*◌, ◌<◌, ◌≤◌, Bool, true, false, List, [], ◌∷◌, ◌++◌, length, take, drop, refl, sym, ap, subst, ◌∙◌, append_assoc, arith, inl, inr}
use Rattle.std.specs.Prelude.{if◌then◌else◌}
use Rattle.std.proofs.lemmas.List.{append-nil, drop-drop, length-append, length-take, take_all, take_at, drop_at, take-take, take-append-drop}
use Rattle.droid_frame.specs.declared.frame.Frame.{Frame}
use Rattle.droid_frame.specs.declared.reply.Reply.{Reply}
use Rattle.droid_journal.specs.Chains.{BeginsNoRecord, Chain, HasLater, IsMark, NotByChance, ShowsDamage, chain_bytes, first_place, form_of, journal_bytes, key_of, last_place, marked_bytes, place_behind, skipped}
use Rattle.droid_journal.specs.Fronts.{IsFront}
use Rattle.droid_journal.specs.Records.{AllFit, Record, by_form, turn_mark}
use Rattle.droid_journal.specs.declared.records.key.Form.{Form}
use Rattle.droid_journal.specs.declared.records.key.Form.TheVariants as forms
use Rattle.droid_journal.specs.declared.records.key.Key.{Key}
use Rattle.droid_journal.specs.declared.records.place.Place.{Place}
use Rattle.droid_journal.proofs.Chains.{chain_long, journal_append, last_at, last_count, read_is_written, synced_is_read}
use Rattle.droid_journal.proofs.RecordLaws.{length-mark}
use Rattle.droid_journal.specs.Opening.{Begun, HandedOn, Hands, HasHeader, IsBegun, IsKept, IsReady, ReadsAll, Records, WasFound, WasRefuted}
use Rattle.droid_journal.specs.Faults.{IsOfReading}
use Rattle.droid_journal.specs.Replaying.{Fails}
use Rattle.droid_journal.specs.declared.journal_fault.Fault.{Fault}
use Rattle.droid_journal.specs.declared.journal_fault.Fault.TheVariants as faults
use Rattle.droid_journal.specs.declared.start.Opened.{Opened}
use Rattle.droid_journal.specs.Standing.{AreOnDisk, ahead_bytes}

-- ---- the header; `seen` are the first 16 MiB of the file

module _ (header s seen : List ℕ) (is : seen ≡ take 16777216 s) (small : length header ≤ 4096) where
  front_seen : take (length header) s ≡ take (length header) seen
  front_seen = sym (take-take (length header) 16777216 s (omega arith)) ∙ ap (λ (t : List ℕ). take (length header) t) (sym is)

  pub has_header : take (length header) seen ≡ header → HasHeader header s
  has_header same = (drop (length header) s, sym (take-append-drop (length header) s) ∙ ap (λ (t : List ℕ). t ++ drop (length header) s) (front_seen ∙ same))

  pub header_seen : HasHeader header s → take (length header) seen ≡ header
  header_seen has = sym front_seen ∙ ap (λ (t : List ℕ). take (length header) t) has.1 ∙ take_at header has.0 (length header) refl

  pub header_long : HasHeader header s → length header ≤ length seen
  header_long has = omega (arith, ap length (header_seen has), length-take (length header) seen)

  pub begun_short : (count : ℕ) → IsBegun header s count → length seen < length header
  begun_short count begun = omega (arith, begun.size, begun.short, ap length is, length-take 16777216 s)

  -- all of the file was seen
  all_seen : length seen < length header → s ≡ seen
  all_seen short = sym (take_all 16777216 s (omega (arith, ap length is, length-take 16777216 s))) ∙ sym is

  pub is_begun : length seen < length header → seen ≡ take (length seen) header → IsBegun header s (length seen)
  is_begun short same = record {
    front = (drop (length seen) header, sym (take-append-drop (length seen) header) ∙ ap (λ (t : List ℕ). t ++ drop (length seen) header) (sym same ∙ sym (all_seen short)));
    size = ap length (all_seen short);
    short = short;
  }

  pub begun_seen : (count : ℕ) → IsBegun header s count → seen ≡ take (length seen) header
  begun_seen count begun =
      let all : s ≡ seen = all_seen (begun_short count begun) in
      sym all ∙ sym (take_at s begun.front.0 (length s) refl) ∙ ap (λ (t : List ℕ). take (length s) t) (sym begun.front.1) ∙ ap (λ (n : ℕ). take n header) (ap length all)

-- what a header lacks, behind what there is of it
pub header_made : (header s : List ℕ) (count : ℕ) → IsBegun header s count → s ++ drop count header ≡ header
header_made header s count begun =
    let behind : drop count header ≡ begun.front.0 = ap (λ (t : List ℕ). drop count t) begun.front.1 ∙ drop_at s begun.front.0 count begun.size in
    ap (λ (t : List ℕ). s ++ t) behind ∙ sym begun.front.1

-- a file with all of the header is no begun one
pub no_begun : (header s : List ℕ) (its : List Record) (count : ℕ) → IsBegun header s count → s ≡ marked_bytes header its → ⊥
no_begun header s its count begun is =
    let mark : List ℕ = turn_mark (key_of header) (last_place header its).at in
    let chain : List ℕ = chain_bytes (key_of header) (first_place header) its in
    omega (arith, begun.size, begun.short, ap length is, length-append (journal_bytes header its) mark, length-append header chain)

-- ---- the records

module _ {S M : Type 0} (stands : S → M → List Record → Type 0) (gives : S → List Record → Frame → Reply → Bool → Type 0) (header s : List ℕ) (old new : M) (from to : Place) (its : List Record)
    (has : HasHeader header s) (start : from ≡ first_place header) (hands : Hands stands gives (key_of header) old from new to its) (on : HandedOn (key_of header) s from to its) where
  pub last_is : to ≡ last_place header its
  last_is = hands.to_is ∙ ap (λ (k : Place). place_behind (key_of header) k its) start

  pub chain_read : Chain header s its (drop to.at s)
  chain_read =
      let behind : drop from.at s ≡ has.0 = ap (λ (p : Place). drop p.at s) start ∙ ap (λ (t : List ℕ). drop (length header) t) has.1 ∙ drop_at header has.0 (length header) refl in
      let chain = chain_bytes (key_of header) (first_place header) its in
      let same : chain_bytes (key_of header) from its ≡ chain = ap (λ (k : Place). chain_bytes (key_of header) k its) start in
      record {
        fit = hands.fit;
        joined = has.1 ∙ ap (λ (t : List ℕ). header ++ t) (sym behind ∙ on.joined ∙ ap (λ (t : List ℕ). t ++ drop to.at s) same) ∙ sym (append_assoc header chain (drop to.at s));
        ends = subst (λ (k : Place). BeginsNoRecord (key_of header) k (drop to.at s)) last_is on.ends;
      }

  pub reads_all : (ShowsDamage header its (drop to.at s) → ⊥) → ReadsAll stands gives header s old new to its
  reads_all whole = record {
    chain = chain_read;
    to_is = last_is;
    whole = whole;
    stood = λ setting st. hands.stood setting [] st;
    gave = λ setting st. hands.gave setting [] st;
  }

-- what a search from behind the records finds shows damage, and nothing else does
pub damage_there : (header s : List ℕ) (its : List Record) (to : Place) (at : ℕ) → to ≡ last_place header its → at ≡ to.at + skipped (form_of header) → HasLater (key_of header) at (drop at s) → ShowsDamage header its (drop to.at s)
damage_there header s its to at is sum later =
    let skip : ℕ = skipped (form_of header) in
    let moved : HasLater (key_of header) (to.at + skip) (drop skip (drop to.at s)) =
    subst (HasLater (key_of header) (to.at + skip)) (sym (drop-drop skip to.at s)) (subst (λ (n : ℕ). HasLater (key_of header) n (drop n s)) sum later) in
    subst (λ (p : Place). HasLater (key_of header) (p.at + skip) (drop skip (drop to.at s))) is moved

pub damage_here : (header s : List ℕ) (its : List Record) (to : Place) (at : ℕ) → to ≡ last_place header its → at ≡ to.at + skipped (form_of header) → ShowsDamage header its (drop to.at s) → HasLater (key_of header) at (drop at s)
damage_here header s its to at is sum shows =
    let skip : ℕ = skipped (form_of header) in
    let moved : HasLater (key_of header) (to.at + skip) (drop skip (drop to.at s)) = subst (λ (p : Place). HasLater (key_of header) (p.at + skip) (drop skip (drop to.at s))) (sym is) shows in
    subst (λ (n : ℕ). HasLater (key_of header) n (drop n s)) (sym sum) (subst (HasLater (key_of header) (to.at + skip)) (drop-drop skip to.at s) moved)

-- ---- faults

pub no_damage : (fault : Fault) (n : ℕ) → IsOfReading fault → fault ≡ faults.Damage n → ⊥
no_damage fault n of is = subst IsOfReading is of

pub no_header : (fault : Fault) → IsOfReading fault → fault ≡ faults.Header → ⊥
no_header fault of is = subst IsOfReading is of

pub counts : (header : List ℕ) (its : List Record) (to : Place) (n : ℕ) → to.records ≡ n → to ≡ last_place header its → n ≡ length its
counts header its to n same is = sym same ∙ ap (λ (p : Place). p.records) is ∙ last_count header its

module _ {S M : Type 0} (stands : S → M → List Record → Type 0) (gives : S → List Record → Frame → Reply → Bool → Type 0) (header s : List ℕ) (old : M) (from : Place) (number : ℕ) (setting : S) where
  pub refuted_read : (has : HasHeader header s) → from ≡ first_place header → Fails stands gives (key_of header) from (drop from.at s) old number → stands setting old [] → WasRefuted (gives setting) header s number
  refuted_read has start f st =
      let behind : drop from.at s ≡ has.0 = ap (λ (p : Place). drop p.at s) start ∙ ap (λ (t : List ℕ). drop (length header) t) has.1 ∙ drop_at header has.0 (length header) refl in
      let last : List Record = f.its ++ f.it ∷ [] in
      let chain : List ℕ = chain_bytes (key_of header) (first_place header) last in
      let none : from.records ≡ 0 = ap (λ (p : Place). p.records) start in
      record {
        its = f.its;
        it = f.it;
        rest = f.rest;
        fit = f.fit;
        fits = f.fits;
        joined = has.1 ∙ ap (λ (t : List ℕ). header ++ t) (sym behind ∙ f.joined ∙ ap (λ (k : Place). chain_bytes (key_of header) k last ++ f.rest) start) ∙ sym (append_assoc header chain f.rest);
        count = omega (arith, f.count, none);
        why = f.why setting [] st;
      }

-- ---- behind the records

abbrev pub ahead_size : Bool → ℕ
ahead_size ahead = if ahead then 17 else 0

-- what was found ahead of the records' end: the beginning of a turn, exactly where it stands
pub record IsAhead (header : List ℕ) (its : List Record) (rest : List ℕ) (ahead : Bool) : Type 0 where
  pub form : ahead ≡ true → form_of header ≡ forms.Present
  pub there : ahead ≡ true → IsMark (key_of header) (last_place header its).at rest
  pub found : form_of header ≡ forms.Present → IsMark (key_of header) (last_place header its).at rest → ahead ≡ true

pub ahead_found : (header : List ℕ) (its : List Record) (rest : List ℕ) (ahead : Bool) (key : Key) (to : Place) → key ≡ key_of header → to ≡ last_place header its → (ahead ≡ true → key.form ≡ forms.Present) → (ahead ≡ true → IsMark key to.at rest)
    → (key.form ≡ forms.Present → IsMark key to.at rest → ahead ≡ true) → IsAhead header its rest ahead
ahead_found header its rest ahead key to key_is to_is form there found =
    let same : key.form ≡ form_of header = ap (λ (k : Key). k.form) key_is in
    record {
      form = λ shown. sym same ∙ form shown;
      there = λ shown. subst (λ (p : Place). IsMark (key_of header) p.at rest) to_is (subst (λ (k : Key). IsMark k to.at rest) key_is (there shown));
      found = λ present mark. found (same ∙ present) (subst (λ (k : Key). IsMark k to.at rest) (sym key_is) (subst (λ (p : Place). IsMark (key_of header) p.at rest) (sym to_is) mark));
    }

-- the bytes of it
ahead_is : (header : List ℕ) (its : List Record) (ahead : Bool) → (ahead ≡ true → form_of header ≡ forms.Present) → ahead_bytes header its ahead ≡ (if ahead then turn_mark (key_of header) (last_place header its).at else [])
ahead_is header its true form = ap (λ (f : Form). by_form f [] (turn_mark (key_of header) (last_place header its).at)) (form refl)
ahead_is header its false form = refl

ahead_long : (header : List ℕ) (its : List Record) (ahead : Bool) → (ahead ≡ true → form_of header ≡ forms.Present) → length (ahead_bytes header its ahead) ≡ ahead_size ahead
ahead_long header its true form = ap length (ahead_is header its true form) ∙ omega (arith, length-mark (key_of header) (last_place header its).at)
ahead_long header its false form = refl

form_few : (form : Form) (header : List ℕ) (its : List Record) → length (by_form form [] (turn_mark (key_of header) (last_place header its).at)) ≤ 17
form_few forms.Before header its = omega arith
form_few forms.Present header its = omega (arith, length-mark (key_of header) (last_place header its).at)

ahead_few : (header : List ℕ) (its : List Record) (ahead : Bool) → length (ahead_bytes header its ahead) ≤ 17
ahead_few header its true = form_few (form_of header) header its
ahead_few header its false = omega arith

rest_begins : (header : List ℕ) (its : List Record) (rest : List ℕ) (ahead : Bool) → IsAhead header its rest ahead → IsFront (ahead_bytes header its ahead) rest
rest_begins header its rest true is = subst (λ (t : List ℕ). IsFront t rest) (sym (ahead_is header its true is.form)) (is.there refl)
rest_begins header its rest false is = (rest, refl)

-- the file up to there
file_begins : (header s : List ℕ) (its : List Record) (rest : List ℕ) (ahead : Bool) → Chain header s its rest → IsAhead header its rest ahead → IsFront (journal_bytes header its ++ ahead_bytes header its ahead) s
file_begins header s its rest ahead chain is =
    let front = rest_begins header its rest ahead is in
    let mark : List ℕ = ahead_bytes header its ahead in
    (front.0, chain.joined ∙ ap (λ (t : List ℕ). journal_bytes header its ++ t) front.1 ∙ sym (append_assoc (journal_bytes header its) mark front.0))

whole_size : (header : List ℕ) (its : List Record) (ahead : Bool) → length (journal_bytes header its ++ ahead_bytes header its ahead) ≡ (last_place header its).at + length (ahead_bytes header its ahead)
whole_size header its ahead = omega (arith, last_at header its, length-append (journal_bytes header its) (ahead_bytes header its ahead))

end_is : (header : List ℕ) (its : List Record) (rest : List ℕ) (to : Place) (end : ℕ) (ahead : Bool) → IsAhead header its rest ahead → to ≡ last_place header its → end ≡ to.at + ahead_size ahead
    → length (journal_bytes header its ++ ahead_bytes header its ahead) ≡ end
end_is header its rest to end ahead is to_is sum =
    let at : to.at ≡ (last_place header its).at = ap (λ (p : Place). p.at) to_is in
    omega (arith, whole_size header its ahead, ahead_long header its ahead is.form, sum, at)

pub cut_leaves : (header s : List ℕ) (its : List Record) (rest : List ℕ) (to : Place) (end : ℕ) (ahead : Bool) → Chain header s its rest → IsAhead header its rest ahead → to ≡ last_place header its → end ≡ to.at + ahead_size ahead
    → take end s ≡ journal_bytes header its ++ ahead_bytes header its ahead
cut_leaves header s its rest to end ahead chain is to_is sum =
    let front = file_begins header s its rest ahead chain is in
    ap (λ (t : List ℕ). take end t) front.1 ∙ take_at (journal_bytes header its ++ ahead_bytes header its ahead) front.0 end (end_is header its rest to end ahead is to_is sum)

-- What is kept is within what is left. Where all records that were read were kept, the mark that was kept behind them is
-- found; else one more was read, which is longer than a mark.
same_kept : (header s : List ℕ) (its : List Record) (rest : List ℕ) (ahead : Bool) (form : Form) → form_of header ≡ form → Chain header s its rest → IsAhead header its rest ahead
    → IsFront (journal_bytes header its ++ by_form form [] (turn_mark (key_of header) (last_place header its).at)) s
    → length (by_form form [] (turn_mark (key_of header) (last_place header its).at)) ≤ length (ahead_bytes header its ahead)
same_kept header s its rest ahead forms.Before is chain found here = omega arith
same_kept header s its rest ahead forms.Present is chain found here =
    let whole : List ℕ = journal_bytes header its in
    let mark : List ℕ = turn_mark (key_of header) (last_place header its).at in
    let behind : rest ≡ mark ++ here.0 =
    sym (drop_at whole rest (length whole) refl) ∙ ap (λ (t : List ℕ). drop (length whole) t) (sym chain.joined ∙ here.1 ∙ append_assoc whole mark here.0) ∙ drop_at whole (mark ++ here.0) (length whole) refl in
    let shown : ahead ≡ true = found.found is (here.0, behind) in
    let long : length (ahead_bytes header its ahead) ≡ 17 = ahead_long header its ahead found.form ∙ ap ahead_size shown in
    omega (arith, long, length-mark (key_of header) (last_place header its).at)

kept_all : (header s : List ℕ) (its : List Record) (rest : List ℕ) (ahead was : Bool) → Chain header s its rest → IsAhead header its rest ahead → IsFront (journal_bytes header its ++ ahead_bytes header its was) s
    → length (ahead_bytes header its was) ≤ length (ahead_bytes header its ahead)
kept_all header s its rest ahead true chain is here = same_kept header s its rest ahead (form_of header) refl chain is here
kept_all header s its rest ahead false chain is here = omega arith

kept_within : (header s : List ℕ) (its : List Record) (rest : List ℕ) (ahead : Bool) (old more : List Record) (was : Bool) → Chain header s its rest → IsAhead header its rest ahead
    → IsFront (journal_bytes header old ++ ahead_bytes header old was) s → its ≡ old ++ more
    → (last_place header old).at + length (ahead_bytes header old was) ≤ (last_place header its).at + length (ahead_bytes header its ahead)
kept_within header s its rest ahead old [] was chain is front parts =
    let all : its ≡ old = parts ∙ append-nil old in
    let here : IsFront (journal_bytes header its ++ ahead_bytes header its was) s = subst (λ (t : List Record). IsFront (journal_bytes header t ++ ahead_bytes header t was) s) (sym all) front in
    let low : length (ahead_bytes header its was) ≤ length (ahead_bytes header its ahead) = kept_all header s its rest ahead was chain is here in
    let same : length (ahead_bytes header its was) ≡ length (ahead_bytes header old was) = ap (λ (t : List Record). length (ahead_bytes header t was)) all in
    let at : (last_place header its).at ≡ (last_place header old).at = ap (λ (t : List Record). (last_place header t).at) all in
    omega (arith, low, same, at)
kept_within header s its rest ahead old (it ∷ more) was chain is front parts =
    let next : List ℕ = chain_bytes (key_of header) (last_place header old) (it ∷ more) in
    let long : 25 * length (it ∷ more) ≤ length next = chain_long (key_of header) (last_place header old) (it ∷ more) in
    let size : length (journal_bytes header its) ≡ length (journal_bytes header old) + length next =
    ap (λ (t : List Record). length (journal_bytes header t)) parts ∙ ap length (journal_append header old (it ∷ more)) ∙ length-append (journal_bytes header old) next in
    omega (arith, long, size, last_at header its, last_at header old, ahead_few header old was)

pub cut_within : (header kept s : List ℕ) (its : List Record) (rest : List ℕ) (to : Place) (end : ℕ) (ahead : Bool) → IsKept header kept → IsFront kept s → Chain header s its rest → IsAhead header its rest ahead
    → to ≡ last_place header its → end ≡ to.at + ahead_size ahead → (length kept ≤ end) × (end ≤ length s)
cut_within header kept s its rest to end ahead is front chain there to_is sum =
    let begins = file_begins header s its rest ahead chain there in
    let far : length (journal_bytes header its ++ ahead_bytes header its ahead) ≡ end = end_is header its rest to end ahead there to_is sum in
    let enough : end ≤ length s = omega (arith, far, ap length begins.1, length-append (journal_bytes header its ++ ahead_bytes header its ahead) begins.0) in
    elim is [
      | inl none ↦ (omega (arith, ap length none), enough)
      | inr some ↦
          let old : List Record = some.0 in
          let was : Bool = some.2.0 in
          let mark : List ℕ = ahead_bytes header old was in
          let both : IsFront (journal_bytes header old ++ mark) s = subst (λ (k : List ℕ). IsFront k s) some.2.1 front in
          let records : IsFront (journal_bytes header old) s = (mark ++ both.0, both.1 ∙ append_assoc (journal_bytes header old) mark both.0) in
          let more = synced_is_read header old s its rest some.1 records chain in
          let low = kept_within header s its rest ahead old more.0 was chain there both more.1 in
          (omega (arith, ap length some.2.1, whole_size header old was, whole_size header its ahead, low, far), enough)
    ]

-- the records of a file that ends with their mark are read, and no other
pub marked_is_read : (header s : List ℕ) (its read : List Record) (rest : List ℕ) → AllFit its → s ≡ marked_bytes header its → Chain header s read rest → (read ≡ its) × (rest ≡ turn_mark (key_of header) (last_place header its).at)
marked_is_read header s its read rest fits is chain =
    let mark : List ℕ = turn_mark (key_of header) (last_place header its).at in
    let front = synced_is_read header its s read rest fits (mark, is) chain in
    by_more front.0 front.1
  where
    by_more : (more : List Record) → read ≡ its ++ more → (read ≡ its) × (rest ≡ turn_mark (key_of header) (last_place header its).at)
    by_more [] parts =
        let all : read ≡ its = parts ∙ append-nil its in
        let whole : List ℕ = journal_bytes header its in
        let mark : List ℕ = turn_mark (key_of header) (last_place header its).at in
        let joined : whole ++ rest ≡ whole ++ mark = ap (λ (t : List Record). journal_bytes header t ++ rest) (sym all) ∙ sym chain.joined ∙ is in
        (all, sym (drop_at whole rest (length whole) refl) ∙ ap (λ (t : List ℕ). drop (length whole) t) joined ∙ drop_at whole mark (length whole) refl)
    by_more (it ∷ more) parts =
        let next : List ℕ = chain_bytes (key_of header) (last_place header its) (it ∷ more) in
        let mark : List ℕ = turn_mark (key_of header) (last_place header its).at in
        let long : 25 * length (it ∷ more) ≤ length next = chain_long (key_of header) (last_place header its) (it ∷ more) in
        let size : length (journal_bytes header read) ≡ length (journal_bytes header its) + length next =
        ap (λ (t : List Record). length (journal_bytes header t)) parts ∙ ap length (journal_append header its (it ∷ more)) ∙ length-append (journal_bytes header its) next in
        absurd (omega (arith, long, size, ap length chain.joined, ap length is, length-append (journal_bytes header read) rest, length-append (journal_bytes header its) mark, length-mark (key_of header) (last_place header its).at))

-- so nothing of it is cut off
pub marked_stays : (header s : List ℕ) (its read : List Record) (rest : List ℕ) (to : Place) (end : ℕ) (ahead : Bool) → form_of header ≡ forms.Present → AllFit its → s ≡ marked_bytes header its → Chain header s read rest
    → IsAhead header read rest ahead → to ≡ last_place header read → end ≡ to.at + ahead_size ahead → take end s ≡ s
marked_stays header s its read rest to end ahead form fits is chain found to_is sum =
    let both = marked_is_read header s its read rest fits is chain in
    let mark : List ℕ = turn_mark (key_of header) (last_place header its).at in
    let there : IsMark (key_of header) (last_place header read).at rest =
    subst (λ (t : List Record). IsMark (key_of header) (last_place header t).at rest) (sym both.0) ([], both.1 ∙ sym (append-nil mark)) in
    let shown : ahead ≡ true = found.found form there in
    let far : end ≡ (last_place header its).at + 17 = omega (arith, sum, ap (λ (p : Place). p.at) to_is, ap (λ (t : List Record). (last_place header t).at) both.0, ap ahead_size shown) in
    take_all end s (omega (arith, far, ap length is, length-append (journal_bytes header its) mark, length-mark (key_of header) (last_place header its).at, last_at header its))

module _ {F M : Type 0} (has : F → List ℕ → Type 0) (kept : F → List ℕ) (stands : M → List Record → Type 0) (header : List ℕ) (file : F) (opened : Opened M) where
  pub ready : (its : List Record) (left : List ℕ) → left ≡ journal_bytes header its ++ ahead_bytes header its opened.ahead → has file left → kept file ≡ left → stands opened.machine its → opened.key ≡ key_of header → opened.place ≡ last_place header its
      → (opened.ahead ≡ true → form_of header ≡ forms.Present) → AllFit its → IsReady has kept stands header file opened its
  ready its left is there on_disk stood key place begins fits = record {
    machine = stood;
    file_is = subst (has file) is there;
    on_disk = (opened.ahead, on_disk ∙ is);
    key = key;
    place = place;
    begins = begins;
    fit = fits;
  }

  pub ready_begun : has file header → kept file ≡ header → stands opened.machine [] → opened.key ≡ key_of header → opened.place ≡ first_place header → opened.ahead ≡ false → IsReady has kept stands header file opened []
  ready_begun there on_disk stood key place ahead =
      let none : ahead_bytes header [] opened.ahead ≡ [] = ap (ahead_bytes header []) ahead in
      let is : header ≡ journal_bytes header [] ++ ahead_bytes header [] opened.ahead = sym (append-nil header) ∙ sym (append-nil (header ++ [])) ∙ ap (λ (t : List ℕ). (header ++ []) ++ t) (sym none) in
      ready [] header is there on_disk stood key place (λ shown. absurd cc) tt

-- what was found lies between what was synced and what was written
pub found_between : (header s : List ℕ) (its synced written : List Record) → WasFound header s its → AllFit synced → IsFront (journal_bytes header synced) s → NotByChance header written s → IsFront synced its × IsFront its written
found_between header s its synced written (Records rest chain whole) fits front chance = (synced_is_read header synced s its rest fits front chain, read_is_written header written s its rest chance chain)
found_between header s its synced written (Begun count begun none) fits front chance =
    absurd (omega (arith, begun.size, begun.short, ap length front.1, length-append (journal_bytes header synced) front.0, length-append header (chain_bytes (key_of header) (first_place header) synced)))
