-- What one call took, by its parts: the bytes of a header, and then those of a body.
use Rattle.std.proofs.Common.{◌≡◌, ℕ, zero, suc, ◌+◌, ◌-◌, ◌<◌, ◌≤◌, min, List, [], ◌∷◌, ◌++◌, length, take, drop, Result, Ok, Err, refl, sym, ap, subst, ◌∙◌, arith, append_assoc, inl, inr, ◌⊎◌}
use Rattle.std.proofs.lemmas.Bool.{cases_lt}
use Rattle.std.proofs.lemmas.List.{append-nil, length-append, length-drop, length-take, take-append-drop}
use Rattle.std.specs.Prelude.{IsErrAnd, vec_capacity}
use Rattle.std.specs.declared.alloc.Global.{Global}
use Rattle.std.specs.declared.vec.Vec.{Vec}
use Rattle.droid_frame.specs.Fields.{IsBytes}
use Rattle.droid_frame.specs.Streams.{BeginsNoFrame}
use Rattle.droid_frame.specs.declared.streams.fault.FrameFault.{FrameFault}
use Rattle.droid_frame.specs.declared.streams.fault.FrameFault.TheVariants.{Truncated, BadVersion, TooLong, Memory, Read}
use Rattle.droid_frame.specs.declared.frame.Frame.{Frame}
use Rattle.droid_turns.specs.Feeding.{Brings, Fails, Feeds, IsFaulty, MayGoOn, Waits}
use Rattle.droid_frame.specs.Headers.{header_bytes}
use Rattle.droid_frame.specs.StreamReads.{IsHeader, judged}
use Rattle.droid_turns.specs.Headers.{judged_at}
use Rattle.droid_turns.specs.Parts.{IsBetween, Lacks, came}
use Rattle.droid_turns.specs.declared.feeding.parts.Parts.{Parts}
use Rattle.droid_turns.specs.declared.feeding.feed_result.Fed.{Fed}
use Rattle.droid_frame.specs.declared.streams.header.Header.{Header}
use Rattle.droid_turns.proofs.Fronts.{Judged, cut_goes_on, faulty_is, frame_bytes_are, good_is, judged_bytes, judged_is, names_some, other_version, readable_is, short_goes_on, too_long}

-- ---- lists

pub take_whole : {A : Type 0} (n : ℕ) (xs : List A) → length xs ≤ n → take n xs ≡ xs
take_whole zero [] le = refl
take_whole zero (x ∷ xs) le = absurd (omega (arith, le))
take_whole (suc n) [] le = refl
take_whole (suc n) (x ∷ xs) le = ap (λ ys. x ∷ ys) (take_whole n xs (omega (arith, le)))

take_sum : {A : Type 0} (n m k : ℕ) (xs : List A) → k ≡ n + m → take k xs ≡ take n xs ++ take m (drop n xs)
take_sum zero m k xs e = let same : k ≡ m = omega (arith, e) in ap (λ i. take i xs) same
take_sum (suc n) m zero xs e = absurd (omega (arith, e))
take_sum (suc n) zero (suc k) [] e = refl
take_sum (suc n) (suc m) (suc k) [] e = refl
take_sum (suc n) m (suc k) (x ∷ xs) e = ap (λ ys. x ∷ ys) (take_sum n m k xs (omega (arith, e)))

-- ---- the header's bytes

-- the first bytes of the piece went into the header
pub record Filled (old mid : Parts) (piece : List ℕ) (head : ℕ) : Type 0 where
  pub count : head ≡ min (18 - old.filled) (length piece)
  pub filled : mid.filled ≡ old.filled + head
  pub bytes : take mid.filled mid.header ≡ take old.filled old.header ++ take head piece
  pub front : take old.filled mid.header ≡ take old.filled old.header
  pub body : mid.body ≡ old.body

-- what came so far is what was held, and the first bytes of the piece
pub with_head : (old mid : Parts) (piece : List ℕ) (head : ℕ) → IsBetween old → Filled old mid piece head → came mid ≡ came old ++ take head piece
with_head old mid piece head is made =
    elim (cases_lt old.filled 18) [
      | inl less ↦ (let none : old.body.items ≡ [] = is.short less in
          let later : mid.body.items ≡ [] = ap (λ (v : Vec ℕ Global). v.items) made.body ∙ none in
          let was : came old ≡ take old.filled old.header = ap (λ (l : List ℕ). take old.filled old.header ++ l) none ∙ append-nil (take old.filled old.header) in
          ap (λ (l : List ℕ). take mid.filled mid.header ++ l) later ∙ (append-nil (take mid.filled mid.header) ∙ (made.bytes ∙ ap (λ (l : List ℕ). l ++ take head piece) (sym was))))
      | inr full ↦ (let no_head : head ≡ 0 = omega (arith, made.count, full) in
          let bytes : take mid.filled mid.header ≡ take old.filled old.header = made.bytes ∙ (ap (λ (n : ℕ). take old.filled old.header ++ take n piece) no_head ∙ append-nil (take old.filled old.header)) in
          ap (λ (l : List ℕ). l ++ mid.body.items) bytes ∙ (ap (λ (v : Vec ℕ Global). take old.filled old.header ++ v.items) made.body
          ∙ sym (ap (λ (n : ℕ). came old ++ take n piece) no_head ∙ append-nil (came old))))
    ]

-- a header that is still short: the whole piece was taken
pub short_waits : (old mid : Parts) (piece : List ℕ) (head : ℕ) → IsBetween old → Filled old mid piece head → mid.filled < 18 → Waits (came old) piece (came mid) head
short_waits old mid piece head is made less =
    let all : head ≡ length piece = omega (arith, made.count, made.filled, less) in
    let none : mid.body.items ≡ [] = ap (λ (v : Vec ℕ Global). v.items) made.body ∙ is.short (omega (arith, made.filled, less)) in
    let size : length (came mid) < 18 = rw none (omega (arith, less, length-append (take mid.filled mid.header) [], length-take mid.filled mid.header)) in
    record {
      all = all;
      held = with_head old mid piece head is made ∙ ap (λ (l : List ℕ). came old ++ l) (take_whole head piece (omega (arith, all)));
      goes_on = short_goes_on (came mid) size;
    }

pub short_between : (old mid : Parts) (piece : List ℕ) (head : ℕ) → IsBetween old → Filled old mid piece head → mid.filled < 18 → IsBetween mid
short_between old mid piece head is made less = record {
  within = omega (arith, less);
  short = λ _. ap (λ (v : Vec ℕ Global). v.items) made.body ∙ is.short (omega (arith, made.filled, less));
  lacks = λ full. absurd (omega (arith, full, less));
  no_frame = (short_waits old mid piece head is made less).goes_on.no_frame;
  none = subst (λ (v : Vec ℕ Global). length v.items ≡ 0 → vec_capacity v ≡ 0) (sym made.body) is.none;
}

-- ---- a whole header: it begins all that came

-- what a reader held before this piece, and what is there once the header is whole
pub record IsBegun (old piece body : List ℕ) (h : Header) (head : ℕ) : Type 0 where
  pub is_header : IsHeader h
  pub came : header_bytes h ++ body ≡ old ++ take head piece

-- the header is whole now
pub record IsWhole (old mid : Parts) (piece : List ℕ) (h : Header) (head : ℕ) : Type 0 where
  pub is : IsBetween old
  pub made : Filled old mid piece head
  pub full : mid.filled ≡ 18
  pub sized : length mid.header ≡ 18
  pub sized_before : length old.header ≡ 18
  pub spelled : header_bytes h ≡ mid.header
  pub is_header : IsHeader h

-- it begins what is held
pub held_whole : (parts : Parts) (h : Header) → header_bytes h ≡ parts.header → parts.filled ≡ 18 → came parts ≡ header_bytes h ++ parts.body.items
held_whole parts h spelled full = rw (sym spelled, full) refl

pub begun : (old mid : Parts) (piece : List ℕ) (h : Header) (head : ℕ) → IsWhole old mid piece h head → IsBegun (came old) piece mid.body.items h head
begun old mid piece h head whole = record {
  is_header = whole.is_header;
  came = sym (held_whole mid h whole.spelled whole.full) ∙ with_head old mid piece head whole.is whole.made;
}

-- if it was whole before, it is the same
same_header : (old mid : Parts) (piece : List ℕ) (h : Header) (head : ℕ) → IsWhole old mid piece h head → old.filled ≡ 18 → mid.header ≡ old.header
same_header old mid piece h head whole full =
    sym (take_whole 18 mid.header (omega (arith, whole.sized))) ∙ ((rw full at whole.made.front) ∙ take_whole 18 old.header (omega (arith, whole.sized_before)))

judged_mid : (old mid : Parts) (piece : List ℕ) (h : Header) (head : ℕ) → IsWhole old mid piece h head → judged_at mid.header ≡ judged h
judged_mid old mid piece h head whole = ap judged_at (sym whole.spelled) ∙ judged_bytes h whole.is_header

-- by the judgement of the header: nothing of a body came, or less than it announces
pub lacks_now : (old mid : Parts) (piece : List ℕ) (h : Header) (head : ℕ) (r : Result ℕ FrameFault) → IsWhole old mid piece h head → judged h ≡ r → (length mid.body.items ≡ 0) ⊎ Lacks r (length mid.body.items)
lacks_now old mid piece h head r whole e =
    elim (cases_lt old.filled 18) [
      | inl less ↦ inl (ap length (ap (λ (v : Vec ℕ Global). v.items) whole.made.body ∙ whole.is.short less))
      | inr more ↦ (let full : old.filled ≡ 18 = omega (arith, more, whole.is.within) in
          let judged_old : judged_at old.header ≡ r = ap judged_at (sym (same_header old mid piece h head whole full)) ∙ (judged_mid old mid piece h head whole ∙ e) in
          inr (subst (λ (v : Vec ℕ Global). Lacks r (length v.items)) (sym whole.made.body) (subst (λ (j : Result ℕ FrameFault). Lacks j (length old.body.items)) judged_old (whole.is.lacks full))))
    ]

pub body_within : (old mid : Parts) (piece : List ℕ) (h : Header) (head n : ℕ) → IsWhole old mid piece h head → judged h ≡ Ok n → length mid.body.items ≤ n
body_within old mid piece h head n whole e =
    elim (lacks_now old mid piece h head (Ok n) whole e) [
      | inl none ↦ omega (arith, none)
      | inr less ↦ omega (arith, less)
    ]

none_by : {A : Type 0} (xs : List A) → length xs ≡ 0 → xs ≡ []
none_by [] e = refl
none_by (x ∷ xs) e = absurd (omega (arith, e))

no_body_by : (old mid : Parts) (piece : List ℕ) (h : Header) (head : ℕ) (fault : FrameFault) → IsWhole old mid piece h head → judged h ≡ Err fault → mid.body.items ≡ []
no_body_by old mid piece h head fault whole e =
    elim (lacks_now old mid piece h head (Err fault) whole e) [
      | inl none ↦ none_by mid.body.items none
      | inr none ↦ none_by mid.body.items none
    ]

-- all that came, by the header
begun_all : (old piece body : List ℕ) (h : Header) (head : ℕ) → IsBegun old piece body h head → old ++ piece ≡ header_bytes h ++ (body ++ drop head piece)
begun_all old piece body h head begun =
    ap (λ (l : List ℕ). old ++ l) (sym (take-append-drop head piece)) ∙ (sym (append_assoc old (take head piece) (drop head piece))
    ∙ (ap (λ (l : List ℕ). l ++ drop head piece) (sym begun.came) ∙ append_assoc (header_bytes h) body (drop head piece)))

-- with the first bytes of what follows, too
begun_part : (old piece body : List ℕ) (h : Header) (head count : ℕ) → IsBegun old piece body h head → old ++ take (head + count) piece ≡ header_bytes h ++ (body ++ take count (drop head piece))
begun_part old piece body h head count begun =
    ap (λ (l : List ℕ). old ++ l) (take_sum head count (head + count) piece refl) ∙ (sym (append_assoc old (take head piece) (take count (drop head piece)))
    ∙ (ap (λ (l : List ℕ). l ++ take count (drop head piece)) (sym begun.came) ∙ append_assoc (header_bytes h) body (take count (drop head piece))))

fails_by : (old piece : List ℕ) (h : Header) (head : ℕ) (fault : FrameFault) → IsBegun old piece [] h head → Judged h (Err fault) → IsFaulty (header_bytes h) fault → Fails old piece (header_bytes h) fault
fails_by old piece h head BadVersion begun (other_version o) faulty = record { rest = drop head piece; parts = begun_all old piece [] h head begun; faulty = faulty }
fails_by old piece h head TooLong begun (too_long o l) faulty = record { rest = drop head piece; parts = begun_all old piece [] h head begun; faulty = faulty }
fails_by old piece h head Truncated begun j faulty = elim j [ ]
fails_by old piece h head Memory begun j faulty = elim j [ ]
fails_by old piece h head Read begun j faulty = elim j [ ]

-- a header with a fault
pub header_fails : (old mid : Parts) (piece : List ℕ) (h : Header) (head : ℕ) (fault : FrameFault) → IsWhole old mid piece h head → judged h ≡ Err fault → Fails (came old) piece (came mid) fault
header_fails old mid piece h head fault whole e =
    let none = no_body_by old mid piece h head fault whole e in
    let starts : IsBegun (came old) piece [] h head = subst (λ (l : List ℕ). IsBegun (came old) piece l h head) none (begun old mid piece h head whole) in
    let now : came mid ≡ header_bytes h = held_whole mid h whole.spelled whole.full ∙ (ap (λ (l : List ℕ). header_bytes h ++ l) none ∙ append-nil (header_bytes h)) in
    subst (λ (l : List ℕ). Fails (came old) piece l fault) (sym now) (fails_by (came old) piece h head fault starts (judged_is h (Err fault) e) (faulty_is h fault whole.is_header e))

pub header_between : (old mid : Parts) (piece : List ℕ) (h : Header) (head : ℕ) (fault : FrameFault) → IsWhole old mid piece h head → judged h ≡ Err fault → IsBetween mid
header_between old mid piece h head fault whole e =
    let none = no_body_by old mid piece h head fault whole e in
    record {
      within = omega (arith, whole.full);
      short = λ less. absurd (omega (arith, whole.full, less));
      lacks = λ _. subst (λ (j : Result ℕ FrameFault). Lacks j (length mid.body.items)) (sym (judged_mid old mid piece h head whole ∙ e)) (ap length none);
      no_frame = subst BeginsNoFrame (sym (held_whole mid h whole.spelled whole.full ∙ ap (λ (l : List ℕ). header_bytes h ++ l) none)) ((faulty_is h fault whole.is_header e).no_frame []);
      none = subst (λ (v : Vec ℕ Global). length v.items ≡ 0 → vec_capacity v ≡ 0) (sym whole.made.body) whole.is.none;
    }

-- out of memory for the body: the header is as short as before
pub record Restored (old mid new : Parts) : Type 0 where
  pub filled : new.filled ≡ old.filled
  pub header : new.header ≡ mid.header
  pub items : new.body.items ≡ mid.body.items
  pub memory : vec_capacity mid.body ≡ 0 → length new.body.items ≡ 0 → vec_capacity new.body ≡ 0

pub came_again : (old mid new : Parts) (piece : List ℕ) (h : Header) (head : ℕ) → IsWhole old mid piece h head → Restored old mid new → came new ≡ came old
came_again old mid new piece h head whole back =
    rw (back.filled, back.header, back.items) (ap (λ (l : List ℕ). l ++ mid.body.items) whole.made.front ∙ ap (λ (v : Vec ℕ Global). take old.filled old.header ++ v.items) whole.made.body)

pub memory_fails : (old mid new : Parts) (piece : List ℕ) (h : Header) (head n : ℕ) → IsWhole old mid piece h head → judged h ≡ Ok n → length mid.body.items < n → Restored old mid new → Fails (came old) piece (came new) Memory
memory_fails old mid new piece h head n whole e some back = (
  came_again old mid new piece h head whole back,
  rw (begun_all (came old) piece mid.body.items h head (begun old mid piece h head whole)) (names_some h n (mid.body.items ++ drop head piece) (good_is h n whole.is_header e) (omega (arith, some))),
)

pub memory_between : (old mid new : Parts) (piece : List ℕ) (h : Header) (head : ℕ) → IsWhole old mid piece h head → Restored old mid new → IsBetween new
memory_between old mid new piece h head whole back =
    let items : new.body.items ≡ old.body.items = back.items ∙ ap (λ (v : Vec ℕ Global). v.items) whole.made.body in
    record {
      within = omega (arith, back.filled, whole.is.within);
      short = λ less. items ∙ whole.is.short (omega (arith, back.filled, less));
      lacks = λ full.
          let was : old.filled ≡ 18 = sym back.filled ∙ full in
          rw (back.header, same_header old mid piece h head whole was, items) (whole.is.lacks was);
      no_frame = subst BeginsNoFrame (sym (came_again old mid new piece h head whole back)) whole.is.no_frame;
      none = λ empty. back.memory (subst (λ (v : Vec ℕ Global). vec_capacity v ≡ 0) (sym whole.made.body) (whole.is.none (ap length (sym items) ∙ empty))) empty;
    }

-- bytes of the body came
pub record Grown (mid new : Parts) (piece : List ℕ) (head count n : ℕ) : Type 0 where
  pub within : head ≤ length piece
  pub counted : count ≡ min (n - length mid.body.items) (length (drop head piece))
  pub filled : new.filled ≡ mid.filled
  pub header : new.header ≡ mid.header
  pub items : new.body.items ≡ mid.body.items ++ take count (drop head piece)
  pub memory : vec_capacity mid.body ≡ 0 → length new.body.items ≡ 0 → vec_capacity new.body ≡ 0

pub grown_size : (mid new : Parts) (piece : List ℕ) (head count n : ℕ) → Grown mid new piece head count n → length new.body.items ≡ length mid.body.items + count
grown_size mid new piece head count n grown =
    ap length grown.items ∙ omega (arith, length-append mid.body.items (take count (drop head piece)), length-take count (drop head piece), grown.counted)

grown_came : (mid new : Parts) (piece : List ℕ) (h : Header) (head count n : ℕ) → header_bytes h ≡ mid.header → mid.filled ≡ 18 → Grown mid new piece head count n → came new ≡ header_bytes h ++ new.body.items
grown_came mid new piece h head count n spelled full grown = held_whole new h (spelled ∙ sym grown.header) (grown.filled ∙ full)

-- a body that isn't whole yet
pub body_waits : (old mid new : Parts) (piece : List ℕ) (h : Header) (head count n : ℕ) → IsWhole old mid piece h head → judged h ≡ Ok n → Grown mid new piece head count n → length new.body.items < n → Waits (came old) piece (came new) (head + count)
body_waits old mid new piece h head count n whole e grown short =
    let all : count ≡ length piece - head = omega (arith, grown.counted, short, grown_size mid new piece head count n grown, length-drop head piece) in
    let later : new.body.items ≡ mid.body.items ++ drop head piece = grown.items ∙ ap (λ (l : List ℕ). mid.body.items ++ l) (take_whole count (drop head piece) (omega (arith, all, length-drop head piece))) in
    let now = grown_came mid new piece h head count n whole.spelled whole.full grown in
    record {
      all = omega (arith, all, grown.within);
      held = now ∙ (ap (λ (l : List ℕ). header_bytes h ++ l) later ∙ sym (begun_all (came old) piece mid.body.items h head (begun old mid piece h head whole)));
      goes_on = subst MayGoOn (sym now) (cut_goes_on h n new.body.items (good_is h n whole.is_header e) short);
    }

pub body_between : (old mid new : Parts) (piece : List ℕ) (h : Header) (head count n : ℕ) → IsWhole old mid piece h head → judged h ≡ Ok n → Grown mid new piece head count n → length new.body.items < n → IsBetween new
body_between old mid new piece h head count n whole e grown short =
    let full : new.filled ≡ 18 = grown.filled ∙ whole.full in
    record {
      within = omega (arith, full);
      short = λ less. absurd (omega (arith, full, less));
      lacks = λ _. subst (λ (j : Result ℕ FrameFault). Lacks j (length new.body.items)) (sym (ap judged_at grown.header ∙ (judged_mid old mid piece h head whole ∙ e))) short;
      no_frame = (body_waits old mid new piece h head count n whole e grown short).goes_on.no_frame;
      none = λ empty. grown.memory (subst (λ (v : Vec ℕ Global). vec_capacity v ≡ 0) (sym whole.made.body) (whole.is.none
          (omega (arith, ap length (ap (λ (v : Vec ℕ Global). v.items) whole.made.body), grown_size mid new piece head count n grown, empty)))) empty;
    }

-- a body that is whole: the frame of it
pub record Framed (h : Header) (frame : Frame) (bytes : List ℕ) : Type 0 where
  pub version : frame.version ≡ h.version
  pub kind : frame.kind ≡ h.kind
  pub client : frame.client ≡ h.client
  pub number : frame.number ≡ h.number
  pub body : frame.body ≡ bytes

pub body_brings : (old mid new : Parts) (piece after : List ℕ) (h : Header) (frame : Frame) (head count n : ℕ) → IsWhole old mid piece h head → judged h ≡ Ok n → Grown mid new piece head count n → length new.body.items ≡ n
    → Framed h frame new.body.items → IsBytes frame.body → after ≡ [] → Brings (came old) piece after (head + count) frame
body_brings old mid new piece after h frame head count n whole e grown size framed are empty =
    let good = good_is h n whole.is_header e in
    let sized : length frame.body ≡ n = ap length framed.body ∙ size in
    record {
      readable = readable_is h n frame good framed.version framed.kind framed.client framed.number sized are;
      spelled = begun_part (came old) piece mid.body.items h head count (begun old mid piece h head whole)
          ∙ (ap (λ (l : List ℕ). header_bytes h ++ l) (sym grown.items ∙ sym framed.body) ∙ frame_bytes_are h n frame good framed.version framed.kind framed.client framed.number sized);
      empty = empty;
    }

pub came_none : (new : Parts) → new.filled ≡ 0 → new.body.items ≡ [] → came new ≡ []
came_none new none empty = rw (none, empty) refl

pub none_between : (new : Parts) → new.filled ≡ 0 → new.body.items ≡ [] → vec_capacity new.body ≡ 0 → IsBetween new
none_between new none empty memory = record {
  within = omega (arith, none);
  short = λ _. empty;
  lacks = λ full. absurd (omega (arith, full, none));
  no_frame = subst BeginsNoFrame (sym (came_none new none empty)) (short_goes_on [] (omega arith)).no_frame;
  none = λ _. memory;
}

-- what `?` passes on
pub passed_on : (old piece new : List ℕ) (r : Result Fed FrameFault) (fault : FrameFault) → IsErrAnd r (λ e. e ≡ fault) → Fails old piece new fault → Feeds old piece new r
passed_on old piece new (Ok fed) fault is fails = absurd is
passed_on old piece new (Err other) fault is fails = subst (λ (f : FrameFault). Fails old piece new f) (sym is) fails

-- what is left of a piece behind its first bytes
pub rest_is : (head : ℕ) (piece : List ℕ) → take (length piece - head) (drop head piece) ≡ drop head piece
rest_is head piece = take_whole (length piece - head) (drop head piece) (omega (arith, length-drop head piece))
