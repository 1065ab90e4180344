-- A record that is read is the one that was written, and what was written is read again.
use Rattle.std.proofs.Common.{◌≡◌, ℕ, ◌+◌, ◌<◌, ◌≤◌, Bool, true, false, cond, eqb, ltb, leb, List, [], ◌∷◌, ◌++◌, length, get_or, take, drop, Option, Some, None, refl, sym, ap, ap₂, subst, ◌∙◌, append_assoc, arith}
use Rattle.std.specs.Prelude.{MatchBool}
use Rattle.std.specs.Int.{w32, to_be_bytes}
use Rattle.std.specs.Str.{bytes_eq}
use Rattle.std.proofs.lemmas.Bool.{eqb-true, ltb-false, le-ltb, leb-true, le-leb}
use Rattle.std.proofs.lemmas.List.{take_at, drop_at, take-append-drop, length-append, length-take, get_or-drop}
use Rattle.std.proofs.lemmas.Slice.Eq.{bytes_eq-Decides}
use Rattle.md5.specs.Md5.{md5}
use Rattle.md5.proofs.StandardFacts.{length-md5}
use Rattle.droid_journal.specs.Records.{Record, made, Fits, by_form, digest, first_byte, front_by, front_bytes, has_marks, mark_at, string, body, next_check, place_after, record_bytes, sealed, turn_mark}
use Rattle.droid_journal.specs.Chains.{BeginsNoRecord, BeginsWith, IsLater, IsMark, StandsLater, place_with}
use Rattle.droid_journal.specs.Reading.{◌>>=◌, behind_mark, front_at, is_right, string_at, fits, check_at, record_at, rest_at}
use Rattle.droid_journal.specs.declared.records.key.Form.{Form}
use Rattle.droid_journal.specs.declared.records.key.Form.TheVariants as forms
use Rattle.droid_journal.specs.declared.records.key.Key.{Key}
use Rattle.droid_journal.specs.declared.records.place.Place.{Place}
use Rattle.droid_journal.proofs.Bytes.{IsBytes, IsBytes-drop, Takes-then, bind_some, guard_some, test_some, some_is, string_takes, string_again}

-- ---- sizes

pub length-mark : (key : Key) (at : ℕ) → length (mark_at key at) ≡ 16
unfolding mark_at
length-mark key at = length-md5 _

length-digest : (key : Key) (place : Place) (it : Record) → length (digest key place it) ≡ 16
unfolding digest
length-digest key place it = length-md5 _

length-sealed : (start bytes : List ℕ) → length (sealed start bytes) ≡ length bytes + 4
length-sealed start bytes =
    let seal : List ℕ = md5 (start ++ bytes) in
    let long : length seal ≡ 16 = length-md5 (start ++ bytes) in
    omega (arith, long, length-take 4 seal, length-append bytes (take 4 seal))

either_long : (form : Form) (before present : List ℕ) (n : ℕ) → length before ≡ n → length present ≡ n → length (by_form form before present) ≡ n
either_long forms.Before before present n b p = b
either_long forms.Present before present n b p = p

pub length-check : (key : Key) (place : Place) (it : Record) → length (next_check key place it) ≡ 16
unfolding next_check
length-check key place it =
    let sum : List ℕ = digest key place it in
    let long : length sum ≡ 16 = length-digest key place it in
    let before : length (sealed key.start (take 12 sum)) ≡ 16 = omega (arith, long, length-take 12 sum, length-sealed key.start (take 12 sum)) in
    either_long key.form (sealed key.start (take 12 sum)) sum 16 before long

-- a check value of version 3 is sealed
sealed_by : (form : Form) (start sum : List ℕ) → form ≡ forms.Before → length sum ≡ 16
    → by_form form (sealed start (take 12 sum)) sum ≡ sealed start (take 12 (by_form form (sealed start (take 12 sum)) sum))
sealed_by forms.Before start sum is long =
    let front : List ℕ = take 12 sum in
    let short : length front ≡ 12 = omega (arith, long, length-take 12 sum) in
    ap (λ (t : List ℕ). sealed start t) (sym (take_at front (take 4 (md5 (start ++ front))) 12 short))
sealed_by forms.Present start sum is long = absurd cc

pub check_sealed : (key : Key) (place : Place) (it : Record) → key.form ≡ forms.Before → next_check key place it ≡ sealed key.start (take 12 (next_check key place it))
unfolding next_check
check_sealed key place it is = sealed_by key.form key.start (digest key place it) is (length-digest key place it)

pub length-body : (it : Record) → length (body it) ≡ length it.request + length it.reply + 8
length-body it =
    let first : length (to_be_bytes w32 (length it.request)) ≡ 4 = refl in
    let second : length (to_be_bytes w32 (length it.reply)) ≡ 4 = refl in
    omega (arith, first, second, length-append (string it.request) (string it.reply), length-append (to_be_bytes w32 (length it.request)) it.request, length-append (to_be_bytes w32 (length it.reply)) it.reply)

front_within : (form : Form) (mark : List ℕ) (first : Bool) → length mark ≡ 16 → (1 ≤ length (front_by form mark first)) × (length (front_by form mark first) ≤ 17)
front_within forms.Before mark true long = (omega arith, omega arith)
front_within forms.Before mark false long = (omega arith, omega arith)
front_within forms.Present mark true long = (omega (arith, long), omega (arith, long))
front_within forms.Present mark false long = (omega arith, omega arith)

-- a record has at least 25 and at most 41 bytes beside its frames
pub record_within : (key : Key) (place : Place) (it : Record) → (length it.request + length it.reply + 25 ≤ length (record_bytes key place it)) × (length (record_bytes key place it) ≤ length it.request + length it.reply + 41)
unfolding record_bytes
record_within key place it =
    let front : List ℕ = front_bytes key place it.first in
    let check : List ℕ = next_check key place it in
    let whole : length (front ++ (body it ++ check)) ≡ length front + (length it.request + length it.reply + 24) =
    omega (arith, length-body it, length-append front (body it ++ check), length-append (body it) check, length-check key place it) in
    let around = front_within key.form (mark_at key place.at) it.first (length-mark key place.at) in (omega (arith, whole, around.0), omega (arith, whole, around.1))

-- ---- the test of the sizes

fits_test : Bool → ℕ → Bool
fits_test few size = cond few false (leb size 8388608)

at_true : (few : Bool) (rest : Bool) → cond few false rest ≡ true → (few ≡ false) × (rest ≡ true)
at_true true rest is = absurd cc
at_true false rest is = (refl, is)

pub fits_true : (first : Bool) (request reply : List ℕ) → fits request reply ≡ true → Fits (made first request reply)
fits_true first request reply is =
    let both = at_true (ltb (length request) 18) (leb (length request + length reply + 41) 8388608) is in
    record { header = ltb-false _ _ both.0; size = leb-true _ _ both.1 }

pub fits_again : (it : Record) → Fits it → fits it.request it.reply ≡ true
fits_again it fit = rw (le-ltb (length it.request) 18 fit.header) (le-leb _ _ fit.size)

-- ---- the check value

pub check_takes : (wanted bytes rest : List ℕ) → check_at wanted bytes ≡ Some rest → bytes ≡ wanted ++ rest
unfolding check_at
check_takes wanted bytes rest e =
    let g = long_enough (ltb (length bytes) 16) (cond (bytes_eq (take 16 bytes) wanted) (Some (drop 16 bytes)) None) rest e in
    let t = test_some (bytes_eq (take 16 bytes) wanted) (drop 16 bytes) rest g.1 in
    sym (take-append-drop 16 bytes) ∙ ap (λ (t : List ℕ). t ++ drop 16 bytes) ((bytes_eq-Decides (take 16 bytes) wanted).0 t.0) ∙ ap (λ (t : List ℕ). wanted ++ t) t.1
  where
    long_enough : (b : Bool) (o : Option (List ℕ)) (x : List ℕ) → cond b None o ≡ Some x → (b ≡ false) × (o ≡ Some x)
    long_enough true o x is = absurd cc
    long_enough false o x is = (refl, is)

pub check_again : (wanted rest : List ℕ) → length wanted ≡ 16 → check_at wanted (wanted ++ rest) ≡ Some rest
unfolding check_at
check_again wanted rest long =
    let enough : ltb (length (wanted ++ rest)) 16 ≡ false = le-ltb _ _ (omega (arith, length-append wanted rest)) in
    let front : take 16 (wanted ++ rest) ≡ wanted = take_at wanted rest 16 long in
    let behind : drop 16 (wanted ++ rest) ≡ rest = drop_at wanted rest 16 long in
    rw (enough, front, behind, (bytes_eq-Decides wanted wanted).1 refl) refl

-- ---- the beginning of a record

by_mark : (form : Form) (mark bytes behind : List ℕ) (byte : ℕ) → byte ≡ 1 → behind_mark form bytes ≡ Some behind → is_right form mark true (byte ∷ bytes) ≡ true → byte ∷ bytes ≡ front_by form mark true ++ behind
unfolding behind_mark is_right
by_mark forms.Before mark bytes behind byte one e right = ap (λ (b : ℕ). b ∷ bytes) one ∙ ap (λ (t : List ℕ). 1 ∷ t) (some_is _ _ e)
by_mark forms.Present mark bytes behind byte one e right =
    let g = guard_some (ltb (length bytes) 16) (drop 16 bytes) behind e in
    let t = at_true (ltb (length (byte ∷ bytes)) 17) (bytes_eq (take 16 bytes) mark) right in
    let front : take 16 bytes ≡ mark = (bytes_eq-Decides (take 16 bytes) mark).0 t.1 in
    let whole : bytes ≡ mark ++ behind = sym (take-append-drop 16 bytes) ∙ ap (λ (t : List ℕ). t ++ drop 16 bytes) front ∙ ap (λ (t : List ℕ). mark ++ t) g.1 in
    ap (λ (b : ℕ). b ∷ bytes) one ∙ ap (λ (t : List ℕ). 1 ∷ t) whole

by_zero : (form : Form) (mark : List ℕ) (byte : ℕ) (bytes : List ℕ) (x : Bool × List ℕ) (zeroed oned : Bool) → (zeroed ≡ true → byte ≡ 0) → (oned ≡ true → byte ≡ 1)
    → cond zeroed (Some (false, bytes)) (cond oned (behind_mark form bytes >>= λ behind. Some (true, behind)) None) ≡ Some x → is_right form mark x.0 (byte ∷ bytes) ≡ true → byte ∷ bytes ≡ front_by form mark x.0 ++ x.1
by_zero form mark byte bytes x true oned zero one e right =
    let is : (false, bytes) ≡ x = some_is _ _ e in
    ap (λ (b : ℕ). b ∷ bytes) (zero refl) ∙ ap (λ (p : Bool × List ℕ). front_by form mark p.0 ++ p.1) is
by_zero form mark byte bytes x false true zero one e right =
    let b = bind_some (behind_mark form bytes) (λ behind. Some (true, behind)) x e in
    let is : (true, b.0) ≡ x = some_is _ _ b.2 in
    let marked : is_right form mark true (byte ∷ bytes) ≡ true = subst (λ (p : Bool × List ℕ). is_right form mark p.0 (byte ∷ bytes) ≡ true) (sym is) right in
    by_mark form mark bytes b.0 byte (one refl) b.1 marked ∙ ap (λ (p : Bool × List ℕ). front_by form mark p.0 ++ p.1) is
by_zero form mark byte bytes x false false zero one e right = absurd cc

pub front_takes : (form : Form) (mark bytes : List ℕ) (x : Bool × List ℕ) → front_at form bytes ≡ Some x → is_right form mark x.0 bytes ≡ true → bytes ≡ front_by form mark x.0 ++ x.1
front_takes form mark [] x e right = absurd cc
front_takes form mark (byte ∷ bytes) x e right = by_zero form mark byte bytes x (eqb byte 0) (eqb byte 1) (eqb-true byte 0) (eqb-true byte 1) e right

-- what is behind the beginning is an end of the bytes
behind_end : (form : Form) (bytes behind : List ℕ) → behind_mark form bytes ≡ Some behind → (n : ℕ) × (behind ≡ drop n bytes)
unfolding behind_mark
behind_end forms.Before bytes behind e = (0, sym (some_is _ _ e))
behind_end forms.Present bytes behind e = (16, sym (guard_some (ltb (length bytes) 16) (drop 16 bytes) behind e).1)

small_by : (form : Form) (bytes : List ℕ) (x : Bool × List ℕ) (zeroed oned : Bool) → IsBytes bytes → cond zeroed (Some (false, bytes)) (cond oned (behind_mark form bytes >>= λ behind. Some (true, behind)) None) ≡ Some x → IsBytes x.1
small_by form bytes x true oned small e = subst (λ (p : Bool × List ℕ). IsBytes p.1) (some_is _ _ e) small
small_by form bytes x false true small e =
    let b = bind_some (behind_mark form bytes) (λ behind. Some (true, behind)) x e in
    let end = behind_end form bytes b.0 b.1 in
    subst (λ (p : Bool × List ℕ). IsBytes p.1) (some_is _ _ b.2) (subst IsBytes (sym end.1) (IsBytes-drop end.0 bytes small))
small_by form bytes x false false small e = absurd cc

front_small : (form : Form) (bytes : List ℕ) (x : Bool × List ℕ) → IsBytes bytes → front_at form bytes ≡ Some x → IsBytes x.1
front_small form [] x small e = absurd cc
front_small form (byte ∷ bytes) x small e = small_by form bytes x (eqb byte 0) (eqb byte 1) (IsBytes-drop 1 (byte ∷ bytes) small) e

front_again : (form : Form) (mark : List ℕ) (first : Bool) (rest : List ℕ) → length mark ≡ 16 → front_at form (front_by form mark first ++ rest) ≡ Some (first, rest)
unfolding behind_mark
front_again forms.Before mark true rest long = refl
front_again forms.Before mark false rest long = refl
front_again forms.Present mark true rest long =
    let enough : ltb (length (mark ++ rest)) 16 ≡ false = le-ltb _ _ (omega (arith, length-append mark rest, long)) in
    rw (enough, drop_at mark rest 16 long) refl
front_again forms.Present mark false rest long = refl

right_again : (form : Form) (mark : List ℕ) (first : Bool) (rest : List ℕ) → length mark ≡ 16 → is_right form mark first (front_by form mark first ++ rest) ≡ true
unfolding is_right
right_again forms.Before mark true rest long = refl
right_again forms.Before mark false rest long = refl
right_again forms.Present mark true rest long =
    let enough : ltb (length (1 ∷ (mark ++ rest))) 17 ≡ false = le-ltb _ _ (omega (arith, length-append mark rest, long)) in
    rw (enough, take_at mark rest 16 long, (bytes_eq-Decides mark mark).1 refl) refl
right_again forms.Present mark false rest long = refl

-- ---- a record

abbrev pub Answer : Type 0
Answer = Record × List ℕ × List ℕ

abbrev answer : Key → Place → Record → List ℕ → Option Answer
answer key place it rest = Some (it, next_check key place it, rest)

by_fit : (b : Bool) (o : Option (List ℕ)) (x : List ℕ) → cond b o None ≡ Some x → (b ≡ true) × (o ≡ Some x)
by_fit true o x is = (refl, is)
by_fit false o x is = absurd cc

-- what was read from bytes
pub record IsRead (key : Key) (place : Place) (bytes : List ℕ) (x : Answer) : Type 0 where
  pub begins : BeginsWith key place bytes x.0 (place_after key place x.0) x.2
  pub check_is : x.1 ≡ next_check key place x.0

pub record_takes : (key : Key) (place : Place) (bytes : List ℕ) (x : Answer) → IsBytes bytes → record_at key place bytes ≡ Some x → IsRead key place bytes x
unfolding record_at record_bytes
record_takes key place bytes x small e =
    let f = bind_some (front_at key.form bytes) (λ first. string_at first.1 >>= λ request. string_at request.1 >>= λ reply. rest_at key place bytes (made first.0 request.0 reply.0) reply.1 >>= λ rest. answer key place (made first.0 request.0 reply.0) rest) x e in
    let a = bind_some (string_at f.0.1) (λ request. string_at request.1 >>= λ reply. rest_at key place bytes (made f.0.0 request.0 reply.0) reply.1 >>= λ rest. answer key place (made f.0.0 request.0 reply.0) rest) x f.2 in
    let b = bind_some (string_at a.0.1) (λ reply. rest_at key place bytes (made f.0.0 a.0.0 reply.0) reply.1 >>= λ rest. answer key place (made f.0.0 a.0.0 reply.0) rest) x a.2 in
    let c = bind_some (rest_at key place bytes (made f.0.0 a.0.0 b.0.0) b.0.1) (λ rest. answer key place (made f.0.0 a.0.0 b.0.0) rest) x b.2 in
    let it : Record = made f.0.0 a.0.0 b.0.0 in
    let mark : List ℕ = mark_at key place.at in
    let g = by_fit (fits a.0.0 b.0.0) (cond (is_right key.form mark f.0.0 bytes) (check_at (next_check key place it) b.0.1) None) c.0 c.1 in
    let h = by_fit (is_right key.form mark f.0.0 bytes) (check_at (next_check key place it) b.0.1) c.0 g.1 in
    let front : List ℕ = front_by key.form mark f.0.0 in
    let head : bytes ≡ front ++ f.0.1 = front_takes key.form mark bytes f.0 f.1 h.0 in
    let t0 = string_takes f.0.1 a.0.0 a.0.1 (front_small key.form bytes f.0 small f.1) a.1 in
    let t1 = string_takes a.0.1 b.0.0 b.0.1 t0.0.rest_fits b.1 in
    let last : b.0.1 ≡ next_check key place it ++ c.0 = check_takes (next_check key place it) b.0.1 c.0 h.1 in
    let both : f.0.1 ≡ body it ++ b.0.1 = (Takes-then f.0.1 (string a.0.0) a.0.1 (string b.0.0) b.0.1 t0.0 t1.0).parts in
    let joined : body it ++ (next_check key place it ++ c.0) ≡ (body it ++ next_check key place it) ++ c.0 = sym (append_assoc (body it) (next_check key place it) c.0) in
    let whole : bytes ≡ (front ++ (body it ++ next_check key place it)) ++ c.0 =
    head ∙ ap (λ (t : List ℕ). front ++ t) (both ∙ ap (λ (t : List ℕ). body it ++ t) last ∙ joined) ∙ sym (append_assoc front (body it ++ next_check key place it) c.0) in
    let is : IsRead key place bytes (it, next_check key place it, c.0) = record { begins = record { parts = whole; fits = fits_true f.0.0 a.0.0 b.0.0 g.0; after_is = refl }; check_is = refl } in
    subst (λ (y : Answer). IsRead key place bytes y) (some_is _ _ c.2) is

pub record_again : (key : Key) (place : Place) (it : Record) (rest : List ℕ) → Fits it → record_at key place (record_bytes key place it ++ rest) ≡ Some (it, next_check key place it, rest)
unfolding record_at record_bytes
record_again key place it rest fit =
    let sum = next_check key place it in
    let mark : List ℕ = mark_at key place.at in
    let front : List ℕ = front_bytes key place it.first in
    let behind : List ℕ = sum ++ rest in
    let tail : List ℕ = string it.request ++ (string it.reply ++ behind) in
    let grouped : record_bytes key place it ++ rest ≡ front ++ tail =
    append_assoc front (body it ++ sum) rest ∙ ap (λ (t : List ℕ). front ++ t) (append_assoc (body it) sum rest ∙ append_assoc (string it.request) (string it.reply) behind) in
    let bytes : List ℕ = front ++ tail in
    let zeroth : front_at key.form bytes ≡ Some (it.first, tail) = front_again key.form mark it.first tail (length-mark key place.at) in
    let first : string_at tail ≡ Some (it.request, string it.reply ++ behind) = string_again it.request (string it.reply ++ behind) (omega (arith, fit.size)) in
    let second : string_at (string it.reply ++ behind) ≡ Some (it.reply, behind) = string_again it.reply behind (omega (arith, fit.size)) in
    let right : is_right key.form mark it.first bytes ≡ true = right_again key.form mark it.first tail (length-mark key place.at) in
    let third : check_at sum behind ≡ Some rest = check_again sum rest (length-check key place it) in
    ap (record_at key place) grouped
    ∙ ap (λ (r : Option (Bool × List ℕ)). r >>= λ first. string_at first.1 >>= λ request. string_at request.1 >>= λ reply. rest_at key place bytes (made first.0 request.0 reply.0) reply.1 >>= λ rest. answer key place (made first.0 request.0 reply.0) rest) zeroth
    ∙ ap (λ (r : Option (List ℕ × List ℕ)). r >>= λ request. string_at request.1 >>= λ reply. rest_at key place bytes (made it.first request.0 reply.0) reply.1 >>= λ rest. answer key place (made it.first request.0 reply.0) rest) first
    ∙ ap (λ (r : Option (List ℕ × List ℕ)). r >>= λ reply. rest_at key place bytes (made it.first it.request reply.0) reply.1 >>= λ rest. answer key place (made it.first it.request reply.0) rest) second
    ∙ ap (λ (b : Bool). cond b (cond (is_right key.form mark it.first bytes) (check_at sum behind) None) None >>= λ rest. answer key place it rest) (fits_again it fit)
    ∙ ap (λ (b : Bool). cond b (check_at sum behind) None >>= λ rest. answer key place it rest) right
    ∙ ap (λ (r : Option (List ℕ)). r >>= λ rest. answer key place it rest) third

pub begins_none : (key : Key) (place : Place) (bytes : List ℕ) → record_at key place bytes ≡ None → BeginsNoRecord key place bytes
begins_none key place bytes none it rest fit is =
    let some : record_at key place bytes ≡ Some (it, next_check key place it, rest) = ap (record_at key place) is ∙ record_again key place it rest fit in
    cc

-- the size of what was read
pub read_size : (key : Key) (place : Place) (bytes : List ℕ) (it : Record) (rest : List ℕ) → bytes ≡ record_bytes key place it ++ rest
    → (length bytes ≡ length (record_bytes key place it) + length rest) × (1 ≤ length (record_bytes key place it))
read_size key place bytes it rest is =
    let within = record_within key place it in (ap length is ∙ length-append (record_bytes key place it) rest, omega (arith, within.0))

-- ---- a mark

pub mark_short : (key : Key) (at : ℕ) (bytes : List ℕ) → length bytes < 17 → IsMark key at bytes → ⊥
mark_short key at bytes short is = omega (arith, length-mark key at, ap length is.1, length-append (turn_mark key at) is.0)

pub mark_byte : (key : Key) (at : ℕ) (bytes : List ℕ) → IsMark key at bytes → get_or bytes 0 0 ≡ 1
mark_byte key at bytes is = ap (λ (t : List ℕ). get_or t 0 0) is.1

pub mark_front : (key : Key) (at : ℕ) (bytes : List ℕ) → IsMark key at bytes → take 17 bytes ≡ turn_mark key at
mark_front key at bytes is = ap (λ (t : List ℕ). take 17 t) is.1 ∙ take_at (turn_mark key at) is.0 17 (omega (arith, length-mark key at))

pub mark_found : (key : Key) (at : ℕ) (bytes : List ℕ) → take 17 bytes ≡ turn_mark key at → IsMark key at bytes
mark_found key at bytes is = (drop 17 bytes, sym (take-append-drop 17 bytes) ∙ ap (λ (t : List ℕ). t ++ drop 17 bytes) is)

-- what stands later, by the form
pub later_mark : (key : Key) (at : ℕ) (bytes : List ℕ) → key.form ≡ forms.Present → IsMark key at bytes → StandsLater key at bytes
later_mark key at bytes form is = subst (λ (f : Form). MatchBool (has_marks f) (IsMark key at bytes) (IsLater key bytes)) (sym form) is

pub mark_later : (key : Key) (at : ℕ) (bytes : List ℕ) → key.form ≡ forms.Present → StandsLater key at bytes → IsMark key at bytes
mark_later key at bytes form is = subst (λ (f : Form). MatchBool (has_marks f) (IsMark key at bytes) (IsLater key bytes)) form is

pub later_before : (key : Key) (at : ℕ) (bytes : List ℕ) → key.form ≡ forms.Before → IsLater key bytes → StandsLater key at bytes
later_before key at bytes form is = subst (λ (f : Form). MatchBool (has_marks f) (IsMark key at bytes) (IsLater key bytes)) (sym form) is

pub before_later : (key : Key) (at : ℕ) (bytes : List ℕ) → key.form ≡ forms.Before → StandsLater key at bytes → IsLater key bytes
before_later key at bytes form is = subst (λ (f : Form). MatchBool (has_marks f) (IsMark key at bytes) (IsLater key bytes)) form is

-- ---- a record of version 3 that was written later

front_byte : (form : Form) (mark : List ℕ) (first : Bool) (rest : List ℕ) → get_or (front_by form mark first ++ rest) 0 0 ≡ first_byte first
front_byte forms.Before mark true rest = refl
front_byte forms.Before mark false rest = refl
front_byte forms.Present mark true rest = refl
front_byte forms.Present mark false rest = refl

byte_of : (key : Key) (place : Place) (it : Record) (rest : List ℕ) → get_or (record_bytes key place it ++ rest) 0 0 ≡ first_byte it.first
unfolding record_bytes
byte_of key place it rest =
    ap (λ (t : List ℕ). get_or t 0 0) (append_assoc (front_bytes key place it.first) (body it ++ next_check key place it) rest)
    ∙ front_byte key.form (mark_at key place.at) it.first ((body it ++ next_check key place it) ++ rest)

module _ (key : Key) (bytes : List ℕ) where
  front_is : (later : IsLater key bytes) → take 16 bytes ≡ later.check
  front_is later = ap (λ (t : List ℕ). take 16 t) later.there ∙ take_at later.check (record_bytes key (place_with later.check) later.it ++ later.rest) 16 later.size

  back_is : (later : IsLater key bytes) → drop 16 bytes ≡ record_bytes key (place_with later.check) later.it ++ later.rest
  back_is later = ap (λ (t : List ℕ). drop 16 t) later.there ∙ drop_at later.check (record_bytes key (place_with later.check) later.it ++ later.rest) 16 later.size

  is_read : (later : IsLater key bytes) → record_at key (place_with (take 16 bytes)) (drop 16 bytes) ≡ Some (later.it, next_check key (place_with later.check) later.it, later.rest)
  is_read later =
      ap (λ (t : List ℕ). record_at key (place_with t) (drop 16 bytes)) (front_is later) ∙ ap (record_at key (place_with later.check)) (back_is later) ∙ record_again key (place_with later.check) later.it later.rest later.fits

  pub later_found : (x : Answer) → IsBytes bytes → 16 ≤ length bytes → take 16 bytes ≡ sealed key.start (take 12 (take 16 bytes)) → record_at key (place_with (take 16 bytes)) (drop 16 bytes) ≡ Some x → x.0.first ≡ true
      → IsLater key bytes
  later_found x small long is_sealed e first =
      let taken = record_takes key (place_with (take 16 bytes)) (drop 16 bytes) x (IsBytes-drop 16 bytes small) e in
      record {
        check = take 16 bytes;
        it = x.0;
        rest = x.2;
        size = omega (arith, length-take 16 bytes);
        is_sealed = is_sealed;
        fits = taken.begins.fits;
        first = first;
        there = sym (take-append-drop 16 bytes) ∙ ap (λ (t : List ℕ). take 16 bytes ++ t) taken.begins.parts;
      }

  pub later_first : (x : Answer) → record_at key (place_with (take 16 bytes)) (drop 16 bytes) ≡ Some x → IsLater key bytes → x.0.first ≡ true
  later_first x e later =
      let same : x ≡ (later.it, next_check key (place_with later.check) later.it, later.rest) = some_is _ _ (sym e ∙ is_read later) in
      ap (λ (y : Answer). y.0.first) same ∙ later.first

  pub later_none : record_at key (place_with (take 16 bytes)) (drop 16 bytes) ≡ None → IsLater key bytes → ⊥
  later_none none later = let some = is_read later in cc

  pub later_short : length bytes ≤ 16 → IsLater key bytes → ⊥
  later_short short later =
      let one : List ℕ = record_bytes key (place_with later.check) later.it in
      let within = record_within key (place_with later.check) later.it in
      omega (arith, ap length later.there, length-append later.check (one ++ later.rest), length-append one later.rest, within.0, later.size)

  pub later_sealed : IsLater key bytes → take 16 bytes ≡ sealed key.start (take 12 (take 16 bytes))
  later_sealed later = front_is later ∙ later.is_sealed ∙ ap (λ (t : List ℕ). sealed key.start (take 12 t)) (sym (front_is later))

  pub later_byte : IsLater key bytes → get_or bytes 16 0 ≡ 1
  later_byte later =
      sym (get_or-drop 16 bytes 0 0) ∙ ap (λ (t : List ℕ). get_or t 0 0) (back_is later) ∙ byte_of key (place_with later.check) later.it later.rest ∙ ap first_byte later.first

  either_short : (marks : Bool) (at : ℕ) → length bytes ≤ 16 → MatchBool marks (IsMark key at bytes) (IsLater key bytes) → ⊥
  either_short true at short is = mark_short key at bytes (omega arith) is
  either_short false at short is = later_short short is

  pub stands_short : (at : ℕ) → length bytes ≤ 16 → StandsLater key at bytes → ⊥
  stands_short at short is = either_short (has_marks key.form) at short is
