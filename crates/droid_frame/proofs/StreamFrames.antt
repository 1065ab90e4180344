-- Which bytes begin with no frame, and why; and what the parts of one call leave together.
use Rattle.std.proofs.Common.{◌≡◌, ℕ, ◌<◌, ◌≤◌, Bool, true, false, cond, ltb, eqb, List, [], ◌++◌, length, Result, Ok, Err, refl, ap, subst, ◌∙◌, arith}
use Rattle.std.proofs.lemmas.Bool.{lt-ltb, le-ltb, ne_eqb}
use Rattle.std.proofs.lemmas.List.{length-append}
use Rattle.std.proofs.lemmas.Nat.{from_be_bytes-to_be_bytes_4}
use Rattle.droid_frame.specs.declared.frame.Frame.{Frame}
use Rattle.droid_frame.specs.Limits.{body_limit}
use Rattle.droid_frame.specs.declared.streams.arrival.Arrival.TheVariants as arrivals
use Rattle.droid_frame.specs.declared.streams.fault.FrameFault.{FrameFault}
use Rattle.droid_frame.specs.declared.streams.fault.FrameFault.TheVariants.{Truncated, BadVersion, TooLong}
use Rattle.droid_frame.specs.declared.streams.header.Header.{Header}
use Rattle.droid_frame.specs.Frames.{frame_bytes}
use Rattle.droid_frame.specs.Headers.{header_bytes}
use Rattle.droid_frame.specs.Streams.{IsFrame, BeginsNoFrame, header_size, version_in, length_in, why}
use Rattle.droid_frame.specs.StreamReads.{IsHeader, judged}
use Rattle.droid_frame.specs.Versions.{is_version}
use Rattle.droid_frame.proofs.BodyLimits.{version_not}
use Rattle.droid_frame.proofs.FrameLaws.{reported_header, header_of, header_of-is}

-- ---- what stands in bytes that begin with a header

pub length_in-header : (h : Header) (r : List ℕ) → IsHeader h → length_in (header_bytes h ++ r) ≡ h.length
length_in-header h r is = from_be_bytes-to_be_bytes_4 h.length is.length_fits

-- ---- why

why_by : (input : List ℕ) (empty short is_one long : Bool) → eqb (length input) 0 ≡ empty → ltb (length input) header_size ≡ short → is_version (version_in input) ≡ is_one → ltb (body_limit (version_in input)) (length_in input) ≡ long
    → why input ≡ cond empty (Ok arrivals.End) (cond short (Err Truncated) (cond is_one (cond long (Err TooLong) (Err Truncated)) (Err BadVersion)))
unfolding why
why_by input empty short is_one long e s o l = cc

pub why_nothing : why [] ≡ Ok arrivals.End
unfolding why
why_nothing = refl

pub why_short : (input : List ℕ) → 0 < length input → length input < header_size → why input ≡ Err Truncated
why_short input some short =
    why_by input false true (is_version (version_in input)) (ltb (body_limit (version_in input)) (length_in input)) (ne_eqb (length input) 0 (λ e. omega arith)) (lt-ltb (length input) header_size short) refl refl

pub why_whole : (h : Header) (r : List ℕ) (is_one long : Bool) → IsHeader h → is_version h.version ≡ is_one → ltb (body_limit h.version) h.length ≡ long
    → why (header_bytes h ++ r) ≡ cond is_one (cond long (Err TooLong) (Err Truncated)) (Err BadVersion)
why_whole h r is_one long is o l =
    why_by (header_bytes h ++ r) false false is_one long
    (ne_eqb (length (header_bytes h ++ r)) 0 (λ e. omega arith))
    (le-ltb (length (header_bytes h ++ r)) header_size (omega arith))
    o (ap (ltb (body_limit h.version)) (length_in-header h r is) ∙ l)

-- ---- no frame

pub no_frame_in_short : (input : List ℕ) → length input < header_size → BeginsNoFrame input
no_frame_in_short input short = λ frame rest readable e. let size : length input ≡ length (frame_bytes frame ++ rest) = ap length e in omega arith

-- a frame's header is the one that stands there
header_there : (h : Header) (r : List ℕ) (frame : Frame) (rest : List ℕ) → IsHeader h → IsFrame frame → header_bytes h ++ r ≡ frame_bytes frame ++ rest → (h ≡ header_of frame) × (r ≡ frame.body ++ rest)
header_there h r frame rest is is_frame e = reported_header h (header_of frame) r (frame.body ++ rest) is (header_of-is frame is_frame) e

pub no_frame_of_version : (h : Header) (r : List ℕ) → IsHeader h → is_version h.version ≡ false → BeginsNoFrame (header_bytes h ++ r)
no_frame_of_version h r is other = λ frame rest readable e.
    let same : h.version ≡ frame.version = ap (λ (k : Header). k.version) (header_there h r frame rest is readable.is_frame e).0 in
    version_not (is_version h.version) other (ap is_version same ∙ readable.version_is)

-- what is within a limit isn't past it
beyond : (limit other size same : ℕ) → limit ≡ other → size ≡ same → same ≤ other → limit < size → ⊥
beyond limit other size same a b within past = omega arith

pub no_frame_too_long : (h : Header) (r : List ℕ) → IsHeader h → body_limit h.version < h.length → BeginsNoFrame (header_bytes h ++ r)
no_frame_too_long h r is long = λ frame rest readable e.
    let there = (header_there h r frame rest is readable.is_frame e).0 in
    let same : h.length ≡ length frame.body = ap (λ (k : Header). k.length) there in
    let limit : body_limit h.version ≡ body_limit frame.version = ap (λ (k : Header). body_limit k.version) there in
    beyond (body_limit h.version) (body_limit frame.version) h.length (length frame.body) limit same readable.is_frame.body_fits long

pub no_frame_cut : (h : Header) (r : List ℕ) → IsHeader h → length r < h.length → BeginsNoFrame (header_bytes h ++ r)
no_frame_cut h r is short = λ frame rest readable e.
    let there = header_there h r frame rest is readable.is_frame e in
    let same : h.length ≡ length frame.body = ap (λ (k : Header). k.length) there.0 in
    let size : length r ≡ length (frame.body ++ rest) = ap length there.1 in
    omega (arith, length-append frame.body rest)

-- ---- what a header is refused for

-- a header that was judged: it has another version; or is too long; or is good
pub data Judged (h : Header) : Result ℕ FrameFault → Type 0 where
  other_version : is_version h.version ≡ false → Judged h (Err BadVersion)
  too_long : is_version h.version ≡ true → ltb (body_limit h.version) h.length ≡ true → Judged h (Err TooLong)
  good : is_version h.version ≡ true → ltb (body_limit h.version) h.length ≡ false → Judged h (Ok h.length)

judged_by : (h : Header) (is_one long : Bool) → is_version h.version ≡ is_one → ltb (body_limit h.version) h.length ≡ long → Judged h (cond is_one (cond long (Err TooLong) (Ok h.length)) (Err BadVersion))
judged_by h false long o l = other_version o
judged_by h true true o l = too_long o l
judged_by h true false o l = good o l

pub judged_is : (h : Header) (r : Result ℕ FrameFault) → judged h ≡ r → Judged h r
unfolding judged
judged_is h r e = subst (Judged h) e (judged_by h (is_version h.version) (ltb (body_limit h.version) h.length) refl refl)
