-- What a file may be after a crash, and the records that are read from it.
use Rattle.std.proofs.Common.{◌≡◌, ℕ, ◌+◌, ◌*◌, ◌-◌, ◌<◌, ◌≤◌, true, List, [], ◌∷◌, ◌++◌, length, take, drop, refl, sym, ap, subst, ◌∙◌, append_assoc, arith}
use Rattle.std.proofs.lemmas.List.{append-nil, length-append}
use Rattle.std.proofs.Math.Seq.{take-append-add}
use Rattle.md5.specs.Md5.{md5}
use Rattle.droid_journal.specs.Fronts.{IsFront}
use Rattle.droid_journal.specs.Records.{Record, Fits, AllFit, digest, next_check, place_after, record_bytes}
use Rattle.droid_journal.specs.Chains.{chain_bytes, first_place, form_of, journal_bytes, key_of, last_place, place_behind, place_with, BeginsNoRecord, Chain, IsLater, NotByChance}
use Rattle.droid_journal.specs.Reading.{record_at}
use Rattle.droid_journal.specs.declared.records.key.Form.TheVariants as forms
use Rattle.droid_journal.specs.declared.records.key.Key.{Key}
use Rattle.droid_journal.specs.declared.records.place.Place.{Place}
use Rattle.droid_journal.proofs.Bytes.{some_is}
use Rattle.droid_journal.proofs.RecordLaws.{check_sealed, length-check, record_again, record_within}

-- two places of the same parts
abbrev place_by : ℕ → List ℕ → ℕ → Place
place_by at check records = record { at = at; check = check; records = records }

pub place_same : (a b : Place) → a.at ≡ b.at → a.check ≡ b.check → a.records ≡ b.records → a ≡ b
place_same a b at check records =
    let one : a ≡ place_by b.at a.check a.records = ap (λ (n : ℕ). place_by n a.check a.records) at in
    let two : place_by b.at a.check a.records ≡ place_by b.at b.check a.records = ap (λ (k : List ℕ). place_by b.at k a.records) check in
    let three : place_by b.at b.check a.records ≡ b = ap (λ (n : ℕ). place_by b.at b.check n) records in
    one ∙ two ∙ three

module _ (key : Key) where
  pub chain_append : (place : Place) (xs ys : List Record) → chain_bytes key place (xs ++ ys) ≡ chain_bytes key place xs ++ chain_bytes key (place_behind key place xs) ys
  chain_append place [] ys = refl
  chain_append place (x ∷ xs) ys =
      ap (λ (t : List ℕ). record_bytes key place x ++ t) (chain_append (place_after key place x) xs ys)
      ∙ sym (append_assoc (record_bytes key place x) (chain_bytes key (place_after key place x) xs) (chain_bytes key (place_behind key (place_after key place x) xs) ys))

  pub place_append : (place : Place) (xs ys : List Record) → place_behind key place (xs ++ ys) ≡ place_behind key (place_behind key place xs) ys
  place_append place [] ys = refl
  place_append place (x ∷ xs) ys = place_append (place_after key place x) xs ys

  -- where the records end, and how many they are
  pub at_behind : (place : Place) (its : List Record) → (place_behind key place its).at ≡ place.at + length (chain_bytes key place its)
  at_behind place [] = omega arith
  at_behind place (it ∷ its) =
      let one : List ℕ = record_bytes key place it in
      omega (arith, at_behind (place_after key place it) its, length-append one (chain_bytes key (place_after key place it) its))

  pub records_behind : (place : Place) (its : List Record) → (place_behind key place its).records ≡ place.records + length its
  records_behind place [] = omega arith
  records_behind place (it ∷ its) = omega (arith, records_behind (place_after key place it) its)

  -- each record has at least 25 bytes
  pub chain_long : (place : Place) (its : List Record) → 25 * length its ≤ length (chain_bytes key place its)
  chain_long place [] = omega arith
  chain_long place (it ∷ its) =
      let one : List ℕ = record_bytes key place it in
      let within = record_within key place it in
      omega (arith, chain_long (place_after key place it) its, length-append one (chain_bytes key (place_after key place it) its), within.0)

  -- no record begins another
  pub same_record : (place : Place) (e f : Record) (x y : List ℕ) → Fits e → Fits f → record_bytes key place e ++ x ≡ record_bytes key place f ++ y → (e ≡ f) × (x ≡ y)
  same_record place e f x y fe ff same =
      let both : (e, next_check key place e, x) ≡ (f, next_check key place f, y) =
      some_is _ _ (sym (record_again key place e x fe) ∙ ap (record_at key place) same ∙ record_again key place f y ff) in
      (ap (λ (p : Record × List ℕ × List ℕ). p.0) both, ap (λ (p : Record × List ℕ × List ℕ). p.2) both)

  -- what is read from bytes that begin with these records begins with them
  pub synced_from : (place : Place) (synced : List Record) (tail : List ℕ) (its : List Record) (rest : List ℕ) → AllFit synced → AllFit its
      → BeginsNoRecord key (place_behind key place its) rest → chain_bytes key place synced ++ tail ≡ chain_bytes key place its ++ rest → IsFront synced its
  synced_from place [] tail its rest fs fe ends same = (its, refl)
  synced_from place (s ∷ synced) tail [] rest fs fe ends same =
      absurd (ends s (chain_bytes key (place_after key place s) synced ++ tail) fs.0 (sym same ∙ append_assoc (record_bytes key place s) (chain_bytes key (place_after key place s) synced) tail))
  synced_from place (s ∷ synced) tail (e ∷ its) rest fs fe ends same =
      let left = append_assoc (record_bytes key place s) (chain_bytes key (place_after key place s) synced) tail in
      let right = append_assoc (record_bytes key place e) (chain_bytes key (place_after key place e) its) rest in
      let one = same_record place s e (chain_bytes key (place_after key place s) synced ++ tail) (chain_bytes key (place_after key place e) its ++ rest) fs.0 fe.0 (sym left ∙ same ∙ right) in
      let tails : chain_bytes key (place_after key place e) synced ++ tail ≡ chain_bytes key (place_after key place e) its ++ rest =
      ap (λ (f : Record). chain_bytes key (place_after key place f) synced ++ tail) (sym one.0) ∙ one.1 in
      let more = synced_from (place_after key place e) synced tail its rest fs.1 fe.1 ends tails in
      (more.0, ap (λ (f : Record). f ∷ its) (sym one.0) ∙ ap (λ (t : List Record). s ∷ t) more.1)

  -- a record that begins bytes begins their first 8 MiB
  pub begins_within : (place : Place) (bytes : List ℕ) (it : Record) (rest : List ℕ) (n : ℕ) → Fits it → 8388608 ≤ n → bytes ≡ record_bytes key place it ++ rest
      → take n bytes ≡ record_bytes key place it ++ take (n - length (record_bytes key place it)) rest
  begins_within place bytes it rest n fit most is =
      let within = record_within key place it in
      let bytes_of = record_bytes key place it in
      let more : n ≡ length bytes_of + (n - length bytes_of) = omega (arith, within.1, fit.size) in
      ap (λ (t : List ℕ). take n t) is ∙ ap (λ (k : ℕ). take k (bytes_of ++ rest)) more ∙ take-append-add bytes_of rest (n - length bytes_of)

  -- so bytes of which the first 8 MiB begin with no record begin with none
  pub none_within : (place : Place) (bytes : List ℕ) (n : ℕ) → 8388608 ≤ n → BeginsNoRecord key place (take n bytes) → BeginsNoRecord key place bytes
  none_within place bytes n most none it rest fit is = none it _ fit (begins_within place bytes it rest n fit most is)

  -- few bytes begin with no record
  pub none_in_few : (place : Place) (bytes : List ℕ) → length bytes < 25 → BeginsNoRecord key place bytes
  none_in_few place bytes few it rest fit is =
      let within = record_within key place it in
      omega (arith, within.0, ap length is, length-append (record_bytes key place it) rest)

pub fit_append : (xs ys : List Record) → AllFit xs → AllFit ys → AllFit (xs ++ ys)
fit_append [] ys fits more = more
fit_append (x ∷ xs) ys fits more = (fits.0, fit_append xs ys fits.1 more)

fit_front : (xs ys : List Record) → AllFit (xs ++ ys) → AllFit xs
fit_front [] ys fits = tt
fit_front (x ∷ xs) ys fits = (fits.0, fit_front xs ys fits.1)

pub front_fit : (xs ys : List Record) → IsFront xs ys → AllFit ys → AllFit xs
front_fit xs ys front fits = fit_front xs front.0 (subst AllFit front.1 fits)

same_behind : (header a b : List ℕ) → header ++ a ≡ header ++ b → a ≡ b
same_behind [] a b is = is
same_behind (x ∷ header) a b is = same_behind header a b (ap (λ (t : List ℕ). drop 1 t) is)

module _ (header : List ℕ) where
  abbrev key : Key
  key = key_of header

  abbrev from : Place
  from = first_place header

  pub journal_append : (xs ys : List Record) → journal_bytes header (xs ++ ys) ≡ journal_bytes header xs ++ chain_bytes key (last_place header xs) ys
  journal_append xs ys = ap (λ (t : List ℕ). header ++ t) (chain_append key from xs ys) ∙ sym (append_assoc header (chain_bytes key from xs) (chain_bytes key (last_place header xs) ys))

  pub journal_one : (xs : List Record) (it : Record) → journal_bytes header (xs ++ it ∷ []) ≡ journal_bytes header xs ++ record_bytes key (last_place header xs) it
  journal_one xs it = journal_append xs (it ∷ []) ∙ ap (λ (t : List ℕ). journal_bytes header xs ++ t) (append-nil (record_bytes key (last_place header xs) it))

  pub last_one : (xs : List Record) (it : Record) → last_place header (xs ++ it ∷ []) ≡ place_after key (last_place header xs) it
  last_one xs it = place_append key from xs (it ∷ [])

  pub last_at : (its : List Record) → (last_place header its).at ≡ length (journal_bytes header its)
  last_at its = omega (arith, at_behind key from its, length-append header (chain_bytes key from its))

  pub last_count : (its : List Record) → (last_place header its).records ≡ length its
  last_count its = omega (arith, records_behind key from its)

  -- the bytes of a front are a front of the bytes
  pub journal_front : (xs ys : List Record) → IsFront xs ys → IsFront (journal_bytes header xs) (journal_bytes header ys)
  journal_front xs ys p = (chain_bytes key (last_place header xs) p.0, ap (journal_bytes header) p.1 ∙ journal_append xs p.0)

  pub synced_is_read : (synced : List Record) (file : List ℕ) (its : List Record) (rest : List ℕ) → AllFit synced → IsFront (journal_bytes header synced) file → Chain header file its rest → IsFront synced its
  synced_is_read synced file its rest fs front chain =
      let left = append_assoc header (chain_bytes key from synced) front.0 in
      let right = append_assoc header (chain_bytes key from its) rest in
      synced_from key from synced front.0 its rest fs chain.fit chain.ends (same_behind header _ _ (sym left ∙ sym front.1 ∙ chain.joined ∙ right))

  -- what is read is a front of what was written, by the premise
  written_from : (written : List Record) (file : List ℕ) (done todo : List Record) (rest : List ℕ) → NotByChance header written file → IsFront done written → AllFit todo
      → file ≡ journal_bytes header (done ++ todo) ++ rest → IsFront (done ++ todo) written
  written_from written file done [] rest chance front fits is = subst (λ (t : List Record). IsFront t written) (sym (append-nil done)) front
  written_from written file done (e ∷ todo) rest chance front fits is =
      let regroup : (done ++ e ∷ []) ++ todo ≡ done ++ e ∷ todo = append_assoc done (e ∷ []) todo in
      let here : file ≡ journal_bytes header (done ++ e ∷ []) ++ (chain_bytes key (last_place header (done ++ e ∷ [])) todo ++ rest) =
      is ∙ ap (λ (t : List Record). journal_bytes header t ++ rest) (sym regroup) ∙ ap (λ (t : List ℕ). t ++ rest) (journal_append (done ++ e ∷ []) todo)
      ∙ append_assoc (journal_bytes header (done ++ e ∷ [])) (chain_bytes key (last_place header (done ++ e ∷ [])) todo) rest in
      let next = chance done e (chain_bytes key (last_place header (done ++ e ∷ [])) todo ++ rest) front fits.0 here in
      subst (λ (t : List Record). IsFront t written) regroup
      (written_from written file (done ++ e ∷ []) todo rest chance next fits.1 (is ∙ ap (λ (t : List Record). journal_bytes header t ++ rest) (sym regroup)))

  pub read_is_written : (written : List Record) (file : List ℕ) (its : List Record) (rest : List ℕ) → NotByChance header written file → Chain header file its rest → IsFront its written
  read_is_written written file its rest chance chain = written_from written file [] its rest chance (written, refl) chain.fit chain.joined

  -- ---- version 3

  -- of the place in front of a record it needs the check value alone
  same_bytes : (form : _) (start : List ℕ) (place : Place) (it : Record) → form ≡ forms.Before → record_bytes (record { form = form; start = start }) place it ≡ record_bytes (record { form = form; start = start }) (place_with place.check) it
  unfolding record_bytes next_check digest
  same_bytes forms.Before start place it is = refl
  same_bytes forms.Present start place it is = absurd cc

  pub turn_shows : (before : List Record) (last it : Record) (rest : List ℕ) → form_of header ≡ forms.Before → Fits it → it.first ≡ true
      → IsLater key (next_check key (last_place header before) last ++ (record_bytes key (last_place header (before ++ last ∷ [])) it ++ rest))
  turn_shows before last it rest form fit first =
      let check : List ℕ = next_check key (last_place header before) last in
      let behind : record_bytes key (last_place header (before ++ last ∷ [])) it ≡ record_bytes key (place_with check) it =
      ap (λ (place : Place). record_bytes key place it) (last_one before last) ∙ same_bytes (form_of header) key.start (place_after key (last_place header before) last) it form in
      record {
        check = check;
        it = it;
        rest = rest;
        size = length-check key (last_place header before) last;
        is_sealed = check_sealed key (last_place header before) last form;
        fits = fit;
        first = first;
        there = ap (λ (t : List ℕ). check ++ (t ++ rest)) behind;
      }

  -- ---- a file that lost an end, and has nothing in its place

  pub plain_tear : (written : List Record) (file : List ℕ) → AllFit written → IsFront file (journal_bytes header written) → NotByChance header written file
  plain_tear written file fits torn before it rest front fit is =
      let front_fits : AllFit before = front_fit before written front fits in
      let whole : journal_bytes header (before ++ it ∷ []) ++ (rest ++ torn.0) ≡ journal_bytes header written ++ [] =
      sym (append_assoc (journal_bytes header (before ++ it ∷ [])) rest torn.0) ∙ ap (λ (t : List ℕ). t ++ torn.0) (sym is) ∙ sym torn.1 ∙ sym (append-nil (journal_bytes header written)) in
      let left = append_assoc header (chain_bytes key from (before ++ it ∷ [])) (rest ++ torn.0) in
      let right = append_assoc header (chain_bytes key from written) [] in
      synced_from key from (before ++ it ∷ []) (rest ++ torn.0) written [] (fit_append before (it ∷ []) front_fits (fit, tt)) fits (none_in_few key (last_place header written) [] (omega arith))
      (same_behind header _ _ (sym left ∙ whole ∙ right))
