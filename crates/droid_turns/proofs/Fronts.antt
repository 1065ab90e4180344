-- What bytes that begin with a header are: no frame, for which reason, or a frame.
use Rattle.std.proofs.Common.{◌≡◌, ℕ, ◌<◌, ◌≤◌, Bool, true, false, cond, ltb, eqb, List, [], ◌∷◌, ◌++◌, length, Result, Ok, Err, refl, sym, ap, subst, ◌∙◌, arith, inl, inr}
use Rattle.std.proofs.lemmas.Bool.{lt-ltb, le-ltb, ltb-true, ltb-false, ne_eqb}
use Rattle.std.proofs.lemmas.List.{length-append}
use Rattle.std.proofs.lemmas.Nat.{from_be_bytes-to_be_bytes_4}
use Rattle.droid_frame.specs.Fields.{IsBytes}
use Rattle.droid_frame.specs.Frames.{frame_bytes}
use Rattle.droid_frame.specs.Limits.{body_limit}
use Rattle.droid_frame.specs.StreamReads.{IsGoodHeader, IsHeader, NamesSomeBody, judged}
use Rattle.droid_frame.specs.Streams.{BeginsNoFrame, IsFrame, IsReadable, header_size, length_in, version_in, why}
use Rattle.droid_frame.specs.Versions.{is_version}
use Rattle.droid_frame.specs.declared.streams.arrival.Arrival.TheVariants as arrivals
use Rattle.droid_frame.specs.declared.streams.fault.FrameFault.{FrameFault}
use Rattle.droid_frame.specs.declared.streams.fault.FrameFault.TheVariants.{Truncated, BadVersion, TooLong, Memory, Read}
use Rattle.droid_frame.specs.declared.frame.Frame.{Frame}
use Rattle.droid_frame.proofs.BodyLimits.{limit_at_most, version_not}
use Rattle.droid_turns.specs.Feeding.{IsFaulty, MayGoOn}
use Rattle.droid_frame.specs.Headers.{header_bytes}
use Rattle.droid_turns.specs.Headers.{judged_at}
use Rattle.droid_frame.specs.declared.streams.header.Header.{Header}

-- ---- what stands in the bytes

pub length_in-header : (h : Header) (r : List ℕ) → IsHeader h → length_in (header_bytes h ++ r) ≡ h.length
length_in-header h r is = from_be_bytes-to_be_bytes_4 h.length is.length_fits

length_in-frame : (frame : Frame) (rest : List ℕ) → IsFrame frame → length_in (frame_bytes frame ++ rest) ≡ length frame.body
length_in-frame frame rest is = from_be_bytes-to_be_bytes_4 (length frame.body) (omega (arith, is.body_fits, limit_at_most frame.version))

pub judged_bytes : (h : Header) → IsHeader h → judged_at (header_bytes h) ≡ judged h
unfolding judged judged_at
judged_bytes h is =
    ap (λ (n : ℕ). cond (is_version h.version) (cond (ltb (body_limit h.version) n) (Err TooLong) (Ok n)) (Err BadVersion)) (from_be_bytes-to_be_bytes_4 h.length is.length_fits)

-- ---- why no frame follows

why_by : (input : List ℕ) (empty short is_one long : Bool) → eqb (length input) 0 ≡ empty → ltb (length input) header_size ≡ short → is_version (version_in input) ≡ is_one → ltb (body_limit (version_in input)) (length_in input) ≡ long
    → why input ≡ cond empty (Ok arrivals.End) (cond short (Err Truncated) (cond is_one (cond long (Err TooLong) (Err Truncated)) (Err BadVersion)))
unfolding why
why_by input empty short is_one long e s o l = cc

pub why_short : (input : List ℕ) → 0 < length input → length input < header_size → why input ≡ Err Truncated
why_short input some short =
    why_by input false true (is_version (version_in input)) (ltb (body_limit (version_in input)) (length_in input)) (ne_eqb (length input) 0 (λ e. omega arith)) (lt-ltb (length input) header_size short) refl refl

why_whole : (h : Header) (r : List ℕ) (is_one long : Bool) → IsHeader h → is_version h.version ≡ is_one → ltb (body_limit h.version) h.length ≡ long
    → why (header_bytes h ++ r) ≡ cond is_one (cond long (Err TooLong) (Err Truncated)) (Err BadVersion)
why_whole h r is_one long is o l =
    why_by (header_bytes h ++ r) false false is_one long
    (ne_eqb (length (header_bytes h ++ r)) 0 (λ e. omega arith))
    (le-ltb (length (header_bytes h ++ r)) header_size (omega arith))
    o (ap (ltb (body_limit h.version)) (length_in-header h r is) ∙ l)

-- a good header, whatever follows: if no frame does, the stream would be cut
pub why_good : (bytes : List ℕ) → IsGoodHeader bytes → why bytes ≡ Err Truncated
why_good bytes is =
    why_by bytes false false true false
    (ne_eqb (length bytes) 0 (λ e. omega (arith, is.whole)))
    (le-ltb (length bytes) header_size is.whole)
    is.version_is (le-ltb (body_limit (version_in bytes)) (length_in bytes) is.length_fits)

-- ---- no frame

no_frame_in_short : (input : List ℕ) → length input < header_size → BeginsNoFrame input
no_frame_in_short input short = λ frame rest readable e. let size : length input ≡ length (frame_bytes frame ++ rest) = ap length e in omega arith

no_frame_of_version : (h : Header) (r : List ℕ) → is_version h.version ≡ false → BeginsNoFrame (header_bytes h ++ r)
no_frame_of_version h r other = λ frame rest readable e.
    let same : h.version ≡ frame.version = ap version_in e in
    version_not (is_version h.version) other (ap is_version same ∙ readable.version_is)

-- the length that stands in the header is that of the frame's body
same_length : (h : Header) (r : List ℕ) (frame : Frame) (rest : List ℕ) → IsHeader h → IsFrame frame → header_bytes h ++ r ≡ frame_bytes frame ++ rest → h.length ≡ length frame.body
same_length h r frame rest is is_frame e = sym (length_in-header h r is) ∙ (ap length_in e ∙ length_in-frame frame rest is_frame)

-- what is within a limit isn't past it
beyond : (limit other size same : ℕ) → limit ≡ other → size ≡ same → same ≤ other → limit < size → ⊥
beyond limit other size same a b within past = omega arith

no_frame_too_long : (h : Header) (r : List ℕ) → IsHeader h → body_limit h.version < h.length → BeginsNoFrame (header_bytes h ++ r)
no_frame_too_long h r is long = λ frame rest readable e.
    let version : h.version ≡ frame.version = ap version_in e in
    beyond (body_limit h.version) (body_limit frame.version) h.length (length frame.body) (ap body_limit version)
    (same_length h r frame rest is readable.is_frame e) readable.is_frame.body_fits long

no_frame_cut : (h : Header) (r : List ℕ) → IsHeader h → length r < h.length → BeginsNoFrame (header_bytes h ++ r)
no_frame_cut h r is short = λ frame rest readable e.
    let same : h.length ≡ length frame.body = same_length h r frame rest is readable.is_frame e in
    let size : length (header_bytes h ++ r) ≡ length (frame_bytes frame ++ rest) = ap length e in
    omega (arith, length-append frame.body rest)

-- ---- what a header was judged

-- a header that was judged: it has another version; or is too long; or is good
pub data Judged (h : Header) : Result ℕ FrameFault → Type 0 where
  other_version : is_version h.version ≡ false → Judged h (Err BadVersion)
  too_long : is_version h.version ≡ true → ltb (body_limit h.version) h.length ≡ true → Judged h (Err TooLong)
  good : is_version h.version ≡ true → ltb (body_limit h.version) h.length ≡ false → Judged h (Ok h.length)

judged_by : (h : Header) (is_one long : Bool) → is_version h.version ≡ is_one → ltb (body_limit h.version) h.length ≡ long → Judged h (cond is_one (cond long (Err TooLong) (Ok h.length)) (Err BadVersion))
judged_by h false long o l = other_version o
judged_by h true true o l = too_long o l
judged_by h true false o l = good o l

pub judged_is : (h : Header) (r : Result ℕ FrameFault) → judged h ≡ r → Judged h r
unfolding judged
judged_is h r e = subst (Judged h) e (judged_by h (is_version h.version) (ltb (body_limit h.version) h.length) refl refl)

pub record IsGood (h : Header) (n : ℕ) : Type 0 where
  pub is_header : IsHeader h
  pub one : is_version h.version ≡ true
  pub fits : ltb (body_limit h.version) h.length ≡ false
  pub length_is : n ≡ h.length

good_by : (h : Header) (n : ℕ) → IsHeader h → Judged h (Ok n) → IsGood h n
good_by h n is (good o l) = record { is_header = is; one = o; fits = l; length_is = refl }

pub good_is : (h : Header) (n : ℕ) → IsHeader h → judged h ≡ Ok n → IsGood h n
good_is h n is e = good_by h n is (judged_is h (Ok n) e)

pub good_small : (h : Header) (n : ℕ) → IsGood h n → n ≤ 4194368
good_small h n is =
    let within : h.length ≤ body_limit h.version = ltb-false (body_limit h.version) h.length is.fits in
    let same : n ≡ h.length = is.length_is in
    omega (arith, limit_at_most h.version)

-- ---- the bytes, by that

pub why_cut : (h : Header) (n : ℕ) (body : List ℕ) → IsGood h n → why (header_bytes h ++ body) ≡ Err Truncated
why_cut h n body is = why_whole h body true false is.is_header is.one is.fits

pub short_goes_on : (bytes : List ℕ) → length bytes < header_size → MayGoOn bytes
short_goes_on [] short = record { no_frame = no_frame_in_short [] short; between = inl refl }
short_goes_on (byte ∷ bytes) short = record { no_frame = no_frame_in_short (byte ∷ bytes) short; between = inr (why_short (byte ∷ bytes) (omega arith) short) }

pub cut_goes_on : (h : Header) (n : ℕ) (body : List ℕ) → IsGood h n → length body < n → MayGoOn (header_bytes h ++ body)
cut_goes_on h n body is short = record {
  no_frame = no_frame_cut h body is.is_header (let same : n ≡ h.length = is.length_is in omega arith);
  between = inr (why_cut h n body is);
}

faulty_by : (h : Header) (fault : FrameFault) → IsHeader h → Judged h (Err fault) → IsFaulty (header_bytes h) fault
faulty_by h BadVersion is (other_version o) = record {
  no_frame = λ more. no_frame_of_version h more o;
  reason = λ more. why_whole h more false (ltb (body_limit h.version) h.length) is o refl;
}
faulty_by h TooLong is (too_long o l) = record {
  no_frame = λ more. no_frame_too_long h more is (ltb-true (body_limit h.version) h.length l);
  reason = λ more. why_whole h more true true is o l;
}
faulty_by h Truncated is j = elim j [ ]
faulty_by h Memory is j = elim j [ ]
faulty_by h Read is j = elim j [ ]

pub faulty_is : (h : Header) (fault : FrameFault) → IsHeader h → judged h ≡ Err fault → IsFaulty (header_bytes h) fault
faulty_is h fault is e = faulty_by h fault is (judged_is h (Err fault) e)

pub names_some : (h : Header) (n : ℕ) (part : List ℕ) → IsGood h n → 0 < n → NamesSomeBody (header_bytes h ++ part)
names_some h n part is some = record {
  good = record {
    whole = omega arith;
    version_is = is.one;
    length_fits = rw (length_in-header h part is.is_header) (ltb-false (body_limit h.version) h.length is.fits);
  };
  some = rw (length_in-header h part is.is_header) (let same : n ≡ h.length = is.length_is in omega arith);
}

-- ---- a frame

pub frame_bytes_are : (h : Header) (n : ℕ) (frame : Frame) → IsGood h n → frame.version ≡ h.version → frame.kind ≡ h.kind → frame.client ≡ h.client → frame.number ≡ h.number → length frame.body ≡ n
    → header_bytes h ++ frame.body ≡ frame_bytes frame
frame_bytes_are h n frame is v k c m size =
    let length_is : length frame.body ≡ h.length = size ∙ is.length_is in
    rw (v, k, c, m, length_is) refl

pub readable_is : (h : Header) (n : ℕ) (frame : Frame) → IsGood h n → frame.version ≡ h.version → frame.kind ≡ h.kind → frame.client ≡ h.client → frame.number ≡ h.number → length frame.body ≡ n → IsBytes frame.body
    → IsReadable frame
readable_is h n frame is v k c m size are =
    let within : h.length ≤ body_limit h.version = ltb-false (body_limit h.version) h.length is.fits in
    let length_is : length frame.body ≡ h.length = size ∙ is.length_is in
    let header = is.is_header in
    record {
      is_frame = record {
        version_fits = rw v header.version_fits;
        kind_fits = rw k header.kind_fits;
        client_fits = rw c header.client_fits;
        number_fits = rw m header.number_fits;
        body_fits = rw (length_is, v) within;
        body_is_bytes = are;
      };
      version_is = rw v is.one;
    }
