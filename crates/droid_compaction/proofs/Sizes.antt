-- How many bytes a smaller journal has.
use Rattle.std.proofs.Common.{◌≡◌, ℕ, ◌+◌, ◌*◌, ◌≤◌, Bool, true, false, cond, List, [], ◌∷◌, ◌++◌, length, map, refl, sym, ap, subst, ◌∙◌, arith}
use Rattle.std.proofs.lemmas.Bool.{ltb-false}
use Rattle.std.proofs.lemmas.List.{length-append, length-drop}
use Rattle.std.proofs.lemmas.List.Sums.{sum_by-cons}
use Rattle.std.specs.List.{AllByRecursion, sum_by}
use Rattle.droid_compaction.specs.BareFrames.{bare_finish_bytes, bare_piece_bytes}
use Rattle.droid_journal.specs.Chains.{chain_bytes, first_place, journal_bytes, key_of, last_place, marked_bytes}
use Rattle.droid_journal.specs.Records.{Record, body, front_bytes, next_check, place_after, record_bytes, turn_mark}
use Rattle.droid_journal.specs.declared.records.key.Key.{Key}
use Rattle.droid_journal.specs.declared.records.place.Place.{Place}
use Rattle.droid_journal.proofs.RecordLaws.{length-body, length-check, length-mark}
use Rattle.droid_compaction.specs.Fields.{file_in, is_about, stamp_in}
use Rattle.droid_compaction.specs.Shortening.{has_ended, has_stamp, once, shortened, smaller, smaller_request}
use Rattle.droid_compaction.specs.Sizes.{size_of}
use Rattle.droid_compaction.proofs.BareSizes.{bare_finish_long, bare_piece_long}

-- a record that begins no turn
pub record_size : (key : Key) (place : Place) (it : Record) → it.first ≡ false → length (record_bytes key place it) ≡ size_of it
unfolding record_bytes
record_size key place it first =
    let rest : List ℕ = body it ++ next_check key place it in
    let one : length (front_bytes key place it.first) ≡ 1 = ap (λ (b : Bool). length (front_bytes key place b)) first in
    omega (arith, one, length-append (front_bytes key place it.first) rest, length-append (body it) (next_check key place it), length-body it, length-check key place it)

-- no record begins a turn
abbrev pub AreOthers : List Record → Type 0
AreOthers its = AllByRecursion (λ it. it.first ≡ false) its

chain_size : (key : Key) (place : Place) (its : List Record) → AreOthers its → length (chain_bytes key place its) ≡ sum_by size_of its
chain_size key place [] all = refl
chain_size key place (it ∷ its) all =
    omega (
      arith,
      length-append (record_bytes key place it) (chain_bytes key (place_after key place it) its),
      record_size key place it all.0,
      chain_size key (place_after key place it) its all.1,
      sum_by-cons size_of it its,
    )

smaller_others : (ended : ℕ → Bool) (its : List Record) → AreOthers (map (smaller ended) its)
smaller_others ended [] = tt
smaller_others ended (it ∷ its) = (refl, smaller_others ended its)

smaller_size : (change : Record → Record) (its : List Record) → sum_by size_of (map change its) ≡ sum_by (λ it. size_of (change it)) its
smaller_size change [] = refl
smaller_size change (it ∷ its) =
    sum_by-cons size_of (change it) (map change its) ∙ ap (λ (n : ℕ). size_of (change it) + n) (smaller_size change its) ∙ sym (sum_by-cons (λ (x : Record). size_of (change x)) it its)

kept_size : (f : Record → ℕ) (b : Bool) (it : Record) (its : List Record) (most : ℕ) → sum_by f its ≤ most → sum_by f (cond b its (it ∷ its)) ≤ f it + most
kept_size f true it its most le = omega arith
kept_size f false it its most le = omega (arith, sum_by-cons f it its)

once_size : (f : Record → ℕ) (before its : List Record) → sum_by f (once before its) ≤ sum_by f its
once_size f before [] = omega arith
once_size f before (it ∷ its) =
    let again = has_stamp before (stamp_in it.request) in
    let kept : List Record = once (before ++ it ∷ []) its in
    subst (λ (n : ℕ). sum_by f (cond again kept (it ∷ kept)) ≤ n) (sym (sum_by-cons f it its)) (kept_size f again it kept (sum_by f its) (once_size f (before ++ it ∷ []) its))

pub total_size : (header : List ℕ) (its : List Record) → length (marked_bytes header (shortened its)) ≤ length header + 17 + sum_by (λ it. size_of (smaller (has_ended (once [] its)) it)) its
total_size header its =
    let change : Record → Record = smaller (has_ended (once [] its)) in
    let chain : List ℕ = chain_bytes (key_of header) (first_place header) (shortened its) in
    omega (
      arith,
      length-append (header ++ chain) (turn_mark (key_of header) (last_place header (shortened its)).at),
      length-mark (key_of header) (last_place header (shortened its)).at,
      length-append header chain,
      chain_size (key_of header) (first_place header) (shortened its) (smaller_others (has_ended (once [] its)) (once [] its)),
      smaller_size change (once [] its),
      once_size (λ it. size_of (change it)) [] its,
    )

-- ---- one record

not_few : (few rest : Bool) → cond few false rest ≡ true → few ≡ false
not_few true rest is = absurd cc
not_few false rest is = refl

stays : (a b : Bool) (x y request : List ℕ) → cond a (cond false x request) (cond b (cond false y request) request) ≡ request
stays true b x y request = refl
stays false true x y request = refl
stays false false x y request = refl

module _ (ended : ℕ → Bool) (it : Record) where
  least : (kind : ℕ) → is_about kind it.request it.reply ≡ true → 26 ≤ length it.request
  least kind about = ltb-false _ _ (not_few _ _ about)

  pub piece_size : is_about 4 it.request it.reply ≡ true → ended (file_in it.request) ≡ true → length it.reply ≡ 22 → size_of (smaller ended it) ≡ 85
  piece_size about has reply =
      let same : smaller_request ended it.request it.reply ≡ bare_piece_bytes it.request it.reply = rw (about, has) refl in
      let long : 26 ≤ length it.request = least 4 about in
      omega (arith, ap length same, bare_piece_long it.request it.reply (omega arith), length-drop 18 it.reply, reply)

  pub finish_size : is_about 4 it.request it.reply ≡ false → is_about 5 it.request it.reply ≡ true → ended (file_in it.request) ≡ true → size_of (smaller ended it) ≤ length it.request + 2 * length it.reply + 25
  finish_size other about has =
      let same : smaller_request ended it.request it.reply ≡ bare_finish_bytes it.request it.reply = rw (other, about, has) refl in
      let long : 26 ≤ length it.request = least 5 about in
      omega (arith, ap length same, bare_finish_long it.request it.reply (omega arith), length-drop 18 it.reply)

  as_it_is : smaller_request ended it.request it.reply ≡ it.request → size_of (smaller ended it) ≡ size_of it
  as_it_is same = ap (λ (r : List ℕ). length r + length it.reply + 25) same

  pub unfinished_size : ended (file_in it.request) ≡ false → size_of (smaller ended it) ≡ size_of it
  unfinished_size open_yet =
      as_it_is (rw open_yet (stays (is_about 4 it.request it.reply) (is_about 5 it.request it.reply) (bare_piece_bytes it.request it.reply) (bare_finish_bytes it.request it.reply) it.request))

  pub other_size : is_about 4 it.request it.reply ≡ false → is_about 5 it.request it.reply ≡ false → size_of (smaller ended it) ≡ size_of it
  other_size piece finish = as_it_is (rw (piece, finish) refl)
