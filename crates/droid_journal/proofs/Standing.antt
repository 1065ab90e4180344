-- How a journal comes to stand for its records.
use Rattle.std.proofs.Common.{◌≡◌, ℕ, Bool, true, false, List, [], ◌∷◌, ◌++◌, length, drop, not, refl, sym, ap, subst, ◌∙◌, append_assoc, arith}
use Rattle.std.specs.Prelude.{if◌then◌else◌}
use Rattle.std.specs.List.{AllByRecursion}
use Rattle.std.proofs.lemmas.List.{append-nil, drop_at}
use Rattle.droid_journal.specs.Chains.{first_place, form_of, journal_bytes, key_of, last_place}
use Rattle.droid_journal.specs.Fronts.{IsFront}
use Rattle.droid_journal.specs.Records.{AllFit, Fits, Record, by_form, front_by, front_bytes, body, mark_at, next_check, place_after, record_bytes, turn_mark}
use Rattle.droid_journal.specs.declared.records.key.Form.{Form}
use Rattle.droid_journal.specs.declared.records.key.Form.TheVariants as forms
use Rattle.droid_journal.specs.declared.records.key.Key.{Key}
use Rattle.droid_journal.specs.declared.records.place.Place.{Place}
use Rattle.droid_journal.proofs.Chains.{fit_append, journal_one, last_one}
use Rattle.droid_journal.proofs.RecordLaws.{length-mark}
use Rattle.droid_journal.specs.Standing.{AreOnDisk, Stands, ahead_bytes}
use Rattle.droid_journal.specs.Turns.{IsTurn}
use Rattle.droid_journal.specs.declared.journal.Journal.{Journal}

-- ---- a turn

abbrev IsOther : Record → Type 0
IsOther it = it.first ≡ false

pushed : (its : List Record) (it : Record) → AllByRecursion IsOther its → IsOther it → AllByRecursion IsOther (its ++ it ∷ [])
pushed [] it all is = (is, tt)
pushed (x ∷ its) it all is = (all.0, pushed its it all.1 is)

dropped : (its : List Record) (it : Record) → AllByRecursion IsOther (drop 1 its) → IsOther it → AllByRecursion IsOther (drop 1 (its ++ it ∷ []))
dropped [] it all is = tt
dropped (x ∷ its) it all is = pushed its it all is

-- one record more: the first of a turn where nothing was written since the last sync, and else another
pub turn_more : (synced all : List Record) (it : Record) (unsynced : Bool) → (unsynced ≡ false → synced ≡ all) → it.first ≡ not unsynced → IsTurn synced all → IsTurn synced (all ++ it ∷ [])
turn_more synced all it false clean first turn = record { turn = it ∷ []; parts = ap (λ (t : List Record). t ++ it ∷ []) (sym (clean refl)); others = tt }
turn_more synced all it true clean first turn = record {
  turn = turn.turn ++ it ∷ [];
  parts = ap (λ (t : List Record). t ++ it ∷ []) turn.parts ∙ append_assoc synced turn.turn (it ∷ []);
  others = dropped turn.turn it turn.others first;
}

pub turn_none : (all : List Record) → IsTurn all all
turn_none all = record { turn = []; parts = sym (append-nil all); others = tt }

-- ---- the beginning of a turn, which stands ahead of its first record

abbrev pub left_out : Bool → List ℕ → List ℕ
left_out ahead bytes = drop (if ahead then 17 else 0) bytes

-- a first record begins with the mark
first_bytes : (key : Key) (place : Place) (it : Record) → key.form ≡ forms.Present → it.first ≡ true → record_bytes key place it ≡ turn_mark key place.at ++ (body it ++ next_check key place it)
unfolding record_bytes
first_bytes key place it form first =
    let rest : List ℕ = body it ++ next_check key place it in
    ap (λ (b : Bool). front_bytes key place b ++ rest) first ∙ ap (λ (f : Form). front_by f (mark_at key place.at) true ++ rest) form

ahead_then : (key : Key) (place : Place) (it : Record) → key.form ≡ forms.Present → it.first ≡ true → turn_mark key place.at ++ drop 17 (record_bytes key place it) ≡ record_bytes key place it
ahead_then key place it form first =
    let mark : List ℕ = turn_mark key place.at in
    let rest : List ℕ = body it ++ next_check key place it in
    let is = first_bytes key place it form first in
    let long : length mark ≡ 17 = omega (arith, length-mark key place.at) in
    ap (λ (t : List ℕ). mark ++ drop 17 t) is ∙ ap (λ (t : List ℕ). mark ++ t) (drop_at mark rest 17 long) ∙ sym is

differ : (b : Bool) → b ≡ true → b ≡ false → ⊥
differ b is isnt = cc

-- nothing more was written, which is a front of anything
pub nothing : {F : Type 0} (has : F → List ℕ → Type 0) (file : F) (s wanted : List ℕ) → has file s → (part : List ℕ) × has file (s ++ part) × IsFront part wanted
nothing has file s wanted here = ([], subst (has file) (sym (append-nil s)) here, (wanted, refl))

-- what is appended, behind what stands ahead, is the whole record
appended : (header : List ℕ) (all : List Record) (ahead : Bool) (it : Record) → (ahead ≡ true → (it.first ≡ true) × (form_of header ≡ forms.Present))
    → (journal_bytes header all ++ ahead_bytes header all ahead) ++ left_out ahead (record_bytes (key_of header) (last_place header all) it) ≡ journal_bytes header (all ++ it ∷ [])
appended header all true it begins =
    let whole : List ℕ = journal_bytes header all in
    let mark : List ℕ = turn_mark (key_of header) (last_place header all).at in
    let one : List ℕ = record_bytes (key_of header) (last_place header all) it in
    ap (λ (f : Form). (whole ++ by_form f [] mark) ++ drop 17 one) (begins refl).1 ∙ append_assoc whole mark (drop 17 one) ∙ ap (λ (t : List ℕ). whole ++ t) (ahead_then (key_of header) (last_place header all) it (begins refl).1 (begins refl).0) ∙ sym (journal_one header all it)
appended header all false it begins =
    let whole : List ℕ = journal_bytes header all in
    let one : List ℕ = record_bytes (key_of header) (last_place header all) it in
    ap (λ (t : List ℕ). t ++ one) (append-nil whole) ∙ sym (journal_one header all it)

-- ---- the journal

module _ {F M : Type 0} (has : F → List ℕ → Type 0) (kept : F → List ℕ) (stands : M → List Record → Type 0) (header : List ℕ) where
  begins_first : (old : Journal F M) (synced all : List Record) (it : Record) → Stands has kept stands header old synced all → it.first ≡ not old.unsynced → old.ahead ≡ true → (it.first ≡ true) × (form_of header ≡ forms.Present)
  begins_first old synced all it before first ahead =
      let is = before.begins ahead in
      (first ∙ ap not is.0, is.1)

  same_record : (old : Journal F M) (synced all : List Record) (it : Record) → Stands has kept stands header old synced all → record_bytes old.key old.place it ≡ record_bytes (key_of header) (last_place header all) it
  same_record old synced all it before = ap (λ (k : Key). record_bytes k old.place it) before.key ∙ ap (λ (p : Place). record_bytes (key_of header) p it) before.place

  -- the file, the place and the machine, each with one record more
  pub noted : (old new : Journal F M) (synced all : List Record) (it : Record) → Stands has kept stands header old synced all → Fits it → it.first ≡ not old.unsynced
      → has new.file ((journal_bytes header all ++ ahead_bytes header all old.ahead) ++ left_out old.ahead (record_bytes old.key old.place it)) → kept new.file ≡ kept old.file → stands new.machine (all ++ it ∷ []) → new.key ≡ old.key
      → new.place ≡ place_after old.key old.place it → new.ahead ≡ false → new.unsynced ≡ true → Stands has kept stands header new synced (all ++ it ∷ [])
  noted old new synced all it before fits first there on_disk stood key place ahead dirty =
      let front : List ℕ = journal_bytes header all ++ ahead_bytes header all old.ahead in
      let more : List Record = all ++ it ∷ [] in
      let none : ahead_bytes header more new.ahead ≡ [] = ap (ahead_bytes header more) ahead in
      let same : front ++ left_out old.ahead (record_bytes old.key old.place it) ≡ journal_bytes header more ++ ahead_bytes header more new.ahead =
      ap (λ (t : List ℕ). front ++ left_out old.ahead t) (same_record old synced all it before) ∙ appended header all old.ahead it (begins_first old synced all it before first)
      ∙ sym (append-nil (journal_bytes header more)) ∙ ap (λ (t : List ℕ). journal_bytes header more ++ t) (sym none) in
      record {
        machine = stood;
        file = subst (has new.file) same there;
        on_disk = subst (AreOnDisk header synced) (sym on_disk) before.on_disk;
        turn = turn_more synced all it old.unsynced before.clean first before.turn;
        key = key ∙ before.key;
        place = place ∙ ap (λ (k : Key). place_after k old.place it) before.key ∙ ap (λ (p : Place). place_after (key_of header) p it) before.place ∙ sym (last_one header all it);
        fit = fit_append all (it ∷ []) before.fit (fits, tt);
        clean = λ no. absurd (differ new.unsynced dirty no);
        begins = λ shown. absurd (differ new.ahead shown ahead);
      }

  -- all is on the disk
  pub settled : (journal : Journal F M) (all : List Record) → stands journal.machine all → has journal.file (journal_bytes header all ++ ahead_bytes header all journal.ahead) → AreOnDisk header all (kept journal.file)
      → journal.key ≡ key_of header → journal.place ≡ last_place header all → AllFit all → (journal.ahead ≡ true → (journal.unsynced ≡ false) × (form_of header ≡ forms.Present)) → Stands has kept stands header journal all all
  settled journal all machine there on_disk key place fit begins = record {
    machine = machine;
    file = there;
    on_disk = on_disk;
    turn = turn_none all;
    key = key;
    place = place;
    fit = fit;
    clean = λ no. refl;
    begins = begins;
  }

  -- nothing was appended since the last sync
  pub was_clean : (journal : Journal F M) (synced all : List Record) → Stands has kept stands header journal synced all → journal.unsynced ≡ false → Stands has kept stands header journal all all
  was_clean journal synced all before clean = subst (λ (its : List Record). Stands has kept stands header journal its all) (before.clean clean) before

  -- the mark was written
  pub begun : (old new : Journal F M) (synced all : List Record) → Stands has kept stands header old synced all → old.unsynced ≡ false → old.ahead ≡ false → old.key.form ≡ forms.Present
      → has new.file ((journal_bytes header all ++ ahead_bytes header all old.ahead) ++ turn_mark old.key old.place.at) → kept new.file ≡ kept old.file → new.machine ≡ old.machine → new.key ≡ old.key → new.place ≡ old.place → new.unsynced ≡ old.unsynced
      → new.ahead ≡ true → Stands has kept stands header new all all
  begun old new synced all before clean ahead form there on_disk machine key place unsynced shown =
      let whole : List ℕ = journal_bytes header all in
      let mark : turn_mark old.key old.place.at ≡ turn_mark (key_of header) (last_place header all).at =
      ap (λ (k : Key). turn_mark k old.place.at) before.key ∙ ap (λ (p : Place). turn_mark (key_of header) p.at) before.place in
      let none : ahead_bytes header all old.ahead ≡ [] = ap (ahead_bytes header all) ahead in
      let present : form_of header ≡ forms.Present = sym (ap (λ (k : Key). k.form) before.key) ∙ form in
      let some : ahead_bytes header all new.ahead ≡ turn_mark (key_of header) (last_place header all).at =
      ap (ahead_bytes header all) shown ∙ ap (λ (f : Form). by_form f [] (turn_mark (key_of header) (last_place header all).at)) present in
      let same : (whole ++ ahead_bytes header all old.ahead) ++ turn_mark old.key old.place.at ≡ whole ++ ahead_bytes header all new.ahead =
      ap (λ (t : List ℕ). (whole ++ t) ++ turn_mark old.key old.place.at) none ∙ ap (λ (t : List ℕ). t ++ turn_mark old.key old.place.at) (append-nil whole) ∙ ap (λ (t : List ℕ). whole ++ t) (mark ∙ sym some) in
      settled new all (subst (λ (m : M). stands m all) (sym machine) before.machine) (subst (has new.file) same there)
      (subst (AreOnDisk header all) (sym on_disk) (subst (λ (its : List Record). AreOnDisk header its (kept old.file)) (before.clean clean) before.on_disk)) (key ∙ before.key) (place ∙ before.place) before.fit (λ is. (unsynced ∙ clean, present))

  -- a front of the next record's bytes
  pub part_front : (journal : Journal F M) (synced all : List Record) (it : Record) (part : List ℕ) → Stands has kept stands header journal synced all → it.first ≡ not journal.unsynced
      → IsFront part (left_out journal.ahead (record_bytes journal.key journal.place it)) → IsFront ((journal_bytes header all ++ ahead_bytes header all journal.ahead) ++ part) (journal_bytes header (all ++ it ∷ []))
  part_front journal synced all it part before first front =
      let start : List ℕ = journal_bytes header all ++ ahead_bytes header all journal.ahead in
      let same = appended header all journal.ahead it (begins_first journal synced all it before first) in (
        front.0,
        sym same ∙ ap (λ (t : List ℕ). start ++ left_out journal.ahead t) (sym (same_record journal synced all it before)) ∙ ap (λ (t : List ℕ). start ++ t) front.1 ∙ sym (append_assoc start part front.0),
      )
