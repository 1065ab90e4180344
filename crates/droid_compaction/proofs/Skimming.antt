-- The front of a record, and what is noted of one record after another.
use Rattle.std.proofs.Common.{◌≡◌, ℕ, ◌+◌, ◌-◌, ◌*◌, ◌^◌, ◌<◌, ◌≤◌, Bool, true, false, cond, ltb, List, [], ◌∷◌, ◌++◌, Option, Some, None, length, get_or, take, drop, refl, sym, ap, subst, ◌∙◌, append_assoc, arith}
use Rattle.std.specs.Prelude.{MatchOption, slice_index}
use Rattle.std.specs.Int.{w32, w64, from_be_bytes, to_be_bytes}
use Rattle.std.proofs.lemmas.Bool.{le-ltb}
use Rattle.std.proofs.lemmas.List.{append-nil, drop-drop, drop-take, drop_at, get_or-take, length-append, length-take, take-take, take_at}
use Rattle.std.proofs.lemmas.Nat.{from_be_bytes-to_be_bytes_4}
use Rattle.droid_journal.specs.Chains.{chain_bytes, first_place, form_of, journal_bytes, key_of}
use Rattle.droid_journal.specs.Records.{AllFit, Fits, Record, body, first_byte, front_bytes, front_by, mark_at, next_check, place_after, record_bytes, string}
use Rattle.droid_journal.specs.declared.records.key.Form.{Form}
use Rattle.droid_journal.specs.declared.records.key.Form.TheVariants as forms
use Rattle.droid_journal.specs.declared.records.key.Key.{Key}
use Rattle.droid_journal.specs.declared.records.place.Place.{Place}
use Rattle.droid_journal.proofs.Bytes.{some_is}
use Rattle.droid_journal.proofs.RecordLaws.{length-body, length-check, length-mark, record_within}
use Rattle.droid_compaction.specs.Fields.{file_in, is_end, is_end_by, stamp_in}
use Rattle.droid_compaction.specs.Noting.{AreNoted}
use Rattle.droid_compaction.specs.Shortening.{IsWhole}
use Rattle.droid_journal.specs.Standing.{ahead_bytes}
use Rattle.droid_compaction.specs.Skimming.{IsFrontOf}
use Rattle.droid_compaction.specs.declared.numbers.Numbers.{Numbers}
use Rattle.droid_compaction.specs.declared.skim.Front.{Front}

-- ---- numbers

abbrev pub number_in : List ℕ → Option ℕ
number_in seen = cond (ltb (length seen) 4) None (Some (from_be_bytes w32 (take 4 seen)))

number_seen : (seen : List ℕ) (n : ℕ) → n < 2 ^ 32 → take 4 seen ≡ to_be_bytes w32 n → number_in seen ≡ Some n
number_seen seen n lt is =
    let long : ltb (length seen) 4 ≡ false = le-ltb _ _ (omega (arith, ap length is, length-take 4 seen)) in
    ap (λ (b : Bool). cond b None (Some (from_be_bytes w32 (take 4 seen)))) long ∙ ap (λ (t : List ℕ). Some (from_be_bytes w32 t)) is ∙ ap (λ (m : ℕ). Some m) (from_be_bytes-to_be_bytes_4 n lt)

pub number_read : (seen all rest : List ℕ) (n : ℕ) → n < 2 ^ 32 → seen ≡ take 4 all → all ≡ to_be_bytes w32 n ++ rest → number_in seen ≡ Some n
number_read seen all rest n lt is there =
    number_seen seen n lt (ap (λ (t : List ℕ). take 4 t) is ∙ take-take 4 4 all (omega arith) ∙ ap (λ (t : List ℕ). take 4 t) there ∙ take_at (to_be_bytes w32 n) rest 4 refl)

-- ---- parts of a front

within : (d k n : ℕ) (xs : List ℕ) → d + k ≤ n → take k (drop d (take n xs)) ≡ take k (drop d xs)
within d k n xs le =
    let n_is : n ≡ d + (n - d) = omega (arith, le) in
    ap (λ (m : ℕ). take k (drop d (take m xs))) n_is ∙ ap (λ (t : List ℕ). take k t) (drop-take d (n - d) xs) ∙ take-take k (n - d) (drop d xs) (omega (arith, le))

-- bytes within a list, and within a front of it with something behind
part_is : (d k n : ℕ) (front xs tail : List ℕ) → front ≡ take n (xs ++ tail) → d + k ≤ n → d + k ≤ length xs → take k (drop d front) ≡ take k (drop d xs)
part_is d k n front xs tail is one other =
    ap (λ (t : List ℕ). take k (drop d t)) is ∙ within d k n (xs ++ tail) one ∙ sym (within d k (length xs) (xs ++ tail) other)
    ∙ ap (λ (t : List ℕ). take k (drop d t)) (take_at xs tail (length xs) refl)

second_is : (xs : List ℕ) → slice_index xs 1 ≡ slice_index (take 1 (drop 1 xs)) 0
second_is [] = refl
second_is (a ∷ []) = refl
second_is (a ∷ b ∷ rest) = refl

kind_same : (n : ℕ) (front xs tail : List ℕ) → front ≡ take n (xs ++ tail) → 26 ≤ n → 18 ≤ length xs → slice_index front 1 ≡ slice_index xs 1
kind_same n front xs tail is big long =
    second_is front ∙ ap (λ (t : List ℕ). slice_index t 0) (part_is 1 1 n front xs tail is (omega (arith, big)) (omega (arith, long))) ∙ sym (second_is xs)

stamp_same : (n : ℕ) (front xs tail : List ℕ) → front ≡ take n (xs ++ tail) → 26 ≤ n → 18 ≤ length xs → stamp_in front ≡ stamp_in xs
stamp_same n front xs tail is big long =
    let client : take 4 (drop 2 front) ≡ take 4 (drop 2 xs) = part_is 2 4 n front xs tail is (omega (arith, big)) (omega (arith, long)) in
    let number : take 8 (drop 6 front) ≡ take 8 (drop 6 xs) = part_is 6 8 n front xs tail is (omega (arith, big)) (omega (arith, long)) in
    ap (λ (t : List ℕ). from_be_bytes w32 t * 18446744073709551616 + from_be_bytes w64 (take 8 (drop 6 front))) client
    ∙ ap (λ (t : List ℕ). from_be_bytes w32 (take 4 (drop 2 xs)) * 18446744073709551616 + from_be_bytes w64 t) number

file_same : (n : ℕ) (front xs tail : List ℕ) → front ≡ take n (xs ++ tail) → 26 ≤ n → 26 ≤ length xs → file_in front ≡ file_in xs
file_same n front xs tail is big long = ap (λ (t : List ℕ). from_be_bytes w64 t) (part_is 18 8 n front xs tail is (omega (arith, big)) (omega (arith, long)))

-- ---- a record at the front of bytes

-- the first byte says how many bytes the beginning has
front_long : (form : Form) (mark : List ℕ) (first : Bool) → length mark ≡ 16 → (1 ≤ length (front_by form mark first)) × (length (front_by form mark first) ≤ 17)
front_long forms.Before mark true long = (omega arith, omega arith)
front_long forms.Before mark false long = (omega arith, omega arith)
front_long forms.Present mark true long = (omega (arith, long), omega (arith, long))
front_long forms.Present mark false long = (omega arith, omega arith)

module _ (key : Key) (place : Place) (it : Record) (rest : List ℕ) (fit : Fits it) where
  abbrev front : List ℕ
  front = front_bytes key place it.first

  abbrev ahead : ℕ
  ahead = length front

  -- what stands behind the request's length, and behind the request
  abbrev behind : List ℕ
  behind = string it.reply ++ (next_check key place it ++ rest)

  around : (1 ≤ ahead) × (ahead ≤ 17)
  around = front_long key.form (mark_at key place.at) it.first (length-mark key place.at)

  grouped : record_bytes key place it ++ rest ≡ front ++ (to_be_bytes w32 (length it.request) ++ (it.request ++ behind))
  unfolding record_bytes
  grouped =
      append_assoc front (body it ++ next_check key place it) rest
      ∙ ap (λ (t : List ℕ). front ++ t) (append_assoc (body it) (next_check key place it) rest
      ∙ append_assoc (string it.request) (string it.reply) (next_check key place it ++ rest) ∙ append_assoc (to_be_bytes w32 (length it.request)) it.request behind)

  from_length : drop ahead (record_bytes key place it ++ rest) ≡ to_be_bytes w32 (length it.request) ++ (it.request ++ behind)
  from_length = ap (λ (t : List ℕ). drop ahead t) grouped ∙ drop_at front (to_be_bytes w32 (length it.request) ++ (it.request ++ behind)) ahead refl

  from_request : drop (ahead + 4) (record_bytes key place it ++ rest) ≡ it.request ++ behind
  from_request =
      sym (drop-drop 4 ahead (record_bytes key place it ++ rest)) ∙ ap (λ (t : List ℕ). drop 4 t) from_length ∙ drop_at (to_be_bytes w32 (length it.request)) (it.request ++ behind) 4 refl

  small : length it.request < 2 ^ 32
  small = omega (arith, fit.size)

  size : length (record_bytes key place it) ≡ ahead + length it.request + length it.reply + 24
  unfolding record_bytes
  size = omega (arith, length-append front (body it ++ next_check key place it), length-append (body it) (next_check key place it), length-body it, length-check key place it)

  long : ahead + 42 ≤ length (record_bytes key place it ++ rest)
  long = omega (arith, length-append (record_bytes key place it) rest, size, fit.header)

  module _ (seen : List ℕ) (is : seen ≡ take 80 (record_bytes key place it ++ rest)) where
    pub enough : ahead + 42 ≤ length seen
    enough = omega (arith, ap length is, length-take 80 (record_bytes key place it ++ rest), long, around.1)

    pub size_is : number_in (drop ahead seen) ≡ Some (length it.request)
    size_is =
        let whole : List ℕ = record_bytes key place it ++ rest in
        let four : take 4 (drop ahead seen) ≡ to_be_bytes w32 (length it.request) =
        ap (λ (t : List ℕ). take 4 (drop ahead t)) is ∙ within ahead 4 80 whole (omega (arith, around.1)) ∙ ap (λ (t : List ℕ). take 4 t) from_length ∙ take_at (to_be_bytes w32 (length it.request)) (it.request ++ behind) 4 refl in
        number_seen (drop ahead seen) (length it.request) small four

    -- `lengths` is what stands from the length of the request on, and `own` from the request on
    pub front_right : (lengths own : List ℕ) (front : Front) → lengths ≡ drop ahead seen → own ≡ drop 4 (drop ahead seen) → front.ahead ≡ ahead → number_in lengths ≡ Some front.request → front.kind ≡ slice_index own 1
        → front.stamp ≡ stamp_in own → front.file ≡ file_in own → IsFrontOf ahead it.request front
    front_right lengths own front lengths_are own_is before request kind stamp file =
        let n : ℕ = 80 - (ahead + 4) in
        let big : 26 ≤ n = omega (arith, around.1) in
        let sum : 80 ≡ (ahead + 4) + n = omega (arith, around.1) in
        let part : own ≡ take n (it.request ++ behind) =
        own_is ∙ drop-drop 4 ahead seen ∙ ap (λ (t : List ℕ). drop (ahead + 4) t) is ∙ ap (λ (m : ℕ). drop (ahead + 4) (take m (record_bytes key place it ++ rest))) sum
        ∙ drop-take (ahead + 4) n (record_bytes key place it ++ rest) ∙ ap (λ (t : List ℕ). take n t) from_request in
        record {
          ahead_is = before;
          request_is = some_is front.request (length it.request) (sym request ∙ ap number_in lengths_are ∙ size_is);
          kind_is = kind ∙ kind_same n own it.request behind part big fit.header;
          stamp_is = stamp ∙ stamp_same n own it.request behind part big fit.header;
          file_is = λ about. file ∙ file_same n own it.request behind part big about;
        }

  module _ (s : List ℕ) (at : ℕ) (there : drop at s ≡ record_bytes key place it ++ rest) where
    -- the length of the reply, and the next record
    pub reply_there : (spot : ℕ) → spot ≡ at + (length it.request + ahead + 4) → drop spot s ≡ to_be_bytes w32 (length it.reply) ++ (it.reply ++ (next_check key place it ++ rest))
    reply_there spot is =
        let sum : spot ≡ (at + (ahead + 4)) + length it.request = omega (arith, is) in
        ap (λ (n : ℕ). drop n s) sum ∙ sym (drop-drop (length it.request) (at + (ahead + 4)) s)
        ∙ ap (λ (t : List ℕ). drop (length it.request) t) (sym (drop-drop (ahead + 4) at s) ∙ ap (λ (t : List ℕ). drop (ahead + 4) t) there ∙ from_request)
        ∙ drop_at it.request behind (length it.request) refl ∙ append_assoc (to_be_bytes w32 (length it.reply)) it.reply (next_check key place it ++ rest)

    pub next_there : drop (at + length (record_bytes key place it)) s ≡ rest
    next_there =
        sym (drop-drop (length (record_bytes key place it)) at s) ∙ ap (λ (t : List ℕ). drop (length (record_bytes key place it)) t) there
        ∙ drop_at (record_bytes key place it) rest (length (record_bytes key place it)) refl

  pub next_is : (at spot next : ℕ) → spot ≡ at + (length it.request + ahead + 4) → next ≡ spot + (length it.reply + 20) → next ≡ at + length (record_bytes key place it)
  next_is at spot next is more = omega (arith, is, more, size)

  pub reply_small : length it.reply < 2 ^ 32
  reply_small = omega (arith, fit.size)

-- what the first byte says
first_seen : (form : Form) (mark : List ℕ) (first : Bool) (more : List ℕ) → length mark ≡ 16 → get_or (front_by form mark first ++ more) 0 0 ≡ first_byte first
first_seen forms.Before mark true more long = refl
first_seen forms.Before mark false more long = refl
first_seen forms.Present mark true more long = refl
first_seen forms.Present mark false more long = refl

-- the byte 1 begins a mark, and so 17 bytes; another is the beginning
ahead_by : (form : Form) (mark : List ℕ) (first : Bool) (byte : ℕ) → length mark ≡ 16 → form ≡ forms.Present → byte ≡ first_byte first → ((byte ≡ 1 → length (front_by form mark first) ≡ 17) × ((byte ≡ 1 → ⊥) → length (front_by form mark first) ≡ 1))
ahead_by forms.Present mark true byte long form is = (λ one. omega (arith, long), λ other. absurd (other is))
ahead_by forms.Present mark false byte long form is = (λ one. absurd (omega (arith, one, is)), λ other. refl)
ahead_by forms.Before mark first byte long form is = absurd cc

pub ahead_before : (key : Key) (place : Place) (it : Record) → key.form ≡ forms.Before → length (front_bytes key place it.first) ≡ 1
ahead_before key place it form = one_by key.form (mark_at key place.at) it.first form
  where
    one_by : (form : Form) (mark : List ℕ) (first : Bool) → form ≡ forms.Before → length (front_by form mark first) ≡ 1
    one_by forms.Before mark true is = refl
    one_by forms.Before mark false is = refl
    one_by forms.Present mark first is = absurd cc

pub ahead_seen : (key : Key) (place : Place) (it : Record) (rest seen : List ℕ) (n : ℕ) → key.form ≡ forms.Present → 1 ≤ n → seen ≡ take n (record_bytes key place it ++ rest)
    → ((get_or seen 0 0 ≡ 1 → length (front_bytes key place it.first) ≡ 17) × ((get_or seen 0 0 ≡ 1 → ⊥) → length (front_bytes key place it.first) ≡ 1))
unfolding record_bytes
ahead_seen key place it rest seen n form some is =
    let mark : List ℕ = mark_at key place.at in
    let more : List ℕ = body it ++ next_check key place it in
    let byte : get_or seen 0 0 ≡ first_byte it.first =
    ap (λ (t : List ℕ). get_or t 0 0) is ∙ get_or-take n ((front_bytes key place it.first ++ more) ++ rest) 0 0 some
    ∙ ap (λ (t : List ℕ). get_or t 0 0) (append_assoc (front_bytes key place it.first) more rest) ∙ first_seen key.form mark it.first (more ++ rest) (length-mark key place.at) in
    ahead_by key.form mark it.first (get_or seen 0 0) (length-mark key place.at) form byte

-- ---- one record after another

-- the records up to a place are noted; behind them all stand a few bytes
pub record Skims (s : List ℕ) (key : Key) (tail : List ℕ) (its : List Record) (at : ℕ) (files stamps : Numbers) : Type 0 where
  pub before : List Record
  pub after : List Record
  pub place : Place
  pub split : its ≡ before ++ after
  pub fit : AllFit after
  pub left : drop at s ≡ chain_bytes key place after ++ tail
  pub noted : AreNoted files stamps before

-- a record at a place is noted, and then the next place is behind it
abbrev pub NotesNext : List ℕ → Key → ℕ → ℕ → Numbers → Numbers → Numbers → Numbers → Type 0
NotesNext s key at next files stamps more_files more_stamps =
    (place : Place) (before : List Record) (it : Record) (rest : List ℕ) → Fits it → drop at s ≡ record_bytes key place it ++ rest → AreNoted files stamps before
    → (next ≡ at + length (record_bytes key place it)) × AreNoted more_files more_stamps (before ++ it ∷ [])

module _ (s : List ℕ) (key : Key) (tail : List ℕ) (few : length tail < 25) (its : List Record) (at : ℕ) (files stamps : Numbers) where
  on : (next : ℕ) (more_files more_stamps : Numbers) (before after : List Record) (place : Place) → its ≡ before ++ after → AllFit after → drop at s ≡ chain_bytes key place after ++ tail → AreNoted files stamps before
      → NotesNext s key at next files stamps more_files more_stamps → (length (drop at s) < 25 → ⊥) → Skims s key tail its next more_files more_stamps
  on next more_files more_stamps before [] place split fit left noted notes none = absurd (none (omega (arith, few, ap length left)))
  on next more_files more_stamps before (it ∷ after) place split fit left noted notes none =
      let rest : List ℕ = chain_bytes key (place_after key place it) after ++ tail in
      let there : drop at s ≡ record_bytes key place it ++ rest = left ∙ append_assoc (record_bytes key place it) (chain_bytes key (place_after key place it) after) tail in
      let one = notes place before it rest fit.0 there noted in
      record {
        before = before ++ it ∷ [];
        after = after;
        place = place_after key place it;
        split = split ∙ sym (append_assoc before (it ∷ []) after);
        fit = fit.1;
        left = ap (λ (n : ℕ). drop n s) one.0 ∙ next_there key place it rest fit.0 s at there;
        noted = one.1;
      }

  pub skims_on : (next : ℕ) (more_files more_stamps : Numbers) → Skims s key tail its at files stamps → NotesNext s key at next files stamps more_files more_stamps → (length (drop at s) < 25 → ⊥) → Skims s key tail its next more_files more_stamps
  skims_on next more_files more_stamps so_far = on next more_files more_stamps so_far.before so_far.after so_far.place so_far.split so_far.fit so_far.left so_far.noted

  end : (more_files more_stamps : Numbers) (before after : List Record) (place : Place) → its ≡ before ++ after → AllFit after → drop at s ≡ chain_bytes key place after ++ tail → AreNoted files stamps before
      → ((place : Place) (it : Record) (rest : List ℕ) → Fits it → drop at s ≡ record_bytes key place it ++ rest → AreNoted files stamps before → ⊥)
      → (length (drop at s) < 25 → (more_files ≡ files) × (more_stamps ≡ stamps)) → AreNoted more_files more_stamps its
  end more_files more_stamps before [] place split fit left noted more same =
      let kept = same (omega (arith, few, ap length left)) in
      subst (AreNoted more_files more_stamps) (sym (split ∙ append-nil before))
      (subst (λ (f : Numbers). AreNoted f more_stamps before) (sym kept.0) (subst (λ (t : Numbers). AreNoted files t before) (sym kept.1) noted))
  end more_files more_stamps before (it ∷ after) place split fit left noted more same =
      let chain : List ℕ = chain_bytes key (place_after key place it) after in
      absurd (more place it (chain ++ tail) fit.0 (left ∙ append_assoc (record_bytes key place it) chain tail) noted)

  pub skims_end : (more_files more_stamps : Numbers) (so_far : Skims s key tail its at files stamps)
      → ((place : Place) (it : Record) (rest : List ℕ) → Fits it → drop at s ≡ record_bytes key place it ++ rest → AreNoted files stamps so_far.before → ⊥)
      → (length (drop at s) < 25 → (more_files ≡ files) × (more_stamps ≡ stamps)) → AreNoted more_files more_stamps its
  skims_end more_files more_stamps so_far = end more_files more_stamps so_far.before so_far.after so_far.place so_far.split so_far.fit so_far.left so_far.noted

-- a journal's records alone are noted: what stands behind them is no record
pub behind_header : (header s : List ℕ) (its : List Record) (whole : IsWhole header s its) → drop (length header) s ≡ chain_bytes (key_of header) (first_place header) its ++ ahead_bytes header its whole.file_is.0
behind_header header s its whole =
    let chain : List ℕ = chain_bytes (key_of header) (first_place header) its in
    let mark : List ℕ = ahead_bytes header its whole.file_is.0 in
    ap (λ (t : List ℕ). drop (length header) t) (whole.file_is.1 ∙ append_assoc header chain mark) ∙ drop_at header (chain ++ mark) (length header) refl

-- ---- the fields of a request, from the front of its record

pub end_same : (ahead : ℕ) (request reply : List ℕ) (front : Front) (size : ℕ) → IsFrontOf ahead request front → size ≡ length reply → is_end request reply ≡ is_end_by front.kind front.request size
end_same ahead request reply front size is size_is =
    ap (λ (n : ℕ). is_end_by (slice_index request 1) (length request) n) (sym size_is) ∙ ap (λ (n : ℕ). is_end_by (slice_index request 1) n size) (sym is.request_is) ∙ ap (λ (n : ℕ). is_end_by n front.request size) (sym is.kind_is)

pub end_long : (ahead : ℕ) (request : List ℕ) (front : Front) → IsFrontOf ahead request front → 26 ≤ front.request → 26 ≤ length request
end_long ahead request front is long = omega (arith, long, is.request_is)

-- ---- what was found, or nothing

pub none_left : {A : Type 0} (P : A → Type 0) (seen : Option A) → seen ≡ None → MatchOption seen ⊥ P → ⊥
none_left P None is shown = shown
none_left P (Some x) is shown = absurd cc

pub some_left : {A : Type 0} (P : A → Type 0) (seen : Option A) (x : A) → seen ≡ Some x → MatchOption seen ⊥ P → P x
some_left P None x is shown = absurd shown
some_left P (Some y) x is shown = subst P (some_is y x is) shown

pub not_both : {A : Type 0} (seen : Option A) (x : A) → seen ≡ None → seen ≡ Some x → ⊥
not_both seen x none some = cc
