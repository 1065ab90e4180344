-- Each stream is the spellings of frames and a rest that begins with none, in one way.
use Rattle.std.proofs.Common.{◌≡◌, ℕ, zero, suc, ◌+◌, ◌<◌, ◌≤◌, ◌^◌, true, false, ltb, List, [], ◌∷◌, ◌++◌, length, take, drop, Result, refl, sym, ap, subst, ◌∙◌, arith, append_assoc, inl, inr, ◌⊎◌}
use Rattle.std.specs.Int.{w32, w64, from_be_bytes}
use Rattle.std.specs.List.{flat_map}
use Rattle.std.proofs.lemmas.Bool.{le-ltb, ltb-true, ltb-false, cases_lt}
use Rattle.std.proofs.lemmas.List.{length-append, length-take, take-append-drop}
use Rattle.droid_frame.specs.declared.frame.Frame.{Frame}
use Rattle.droid_frame.specs.Limits.{body_limit}
use Rattle.droid_frame.specs.declared.streams.fault.FrameFault.{FrameFault}
use Rattle.droid_frame.specs.declared.streams.header.Header.{Header}
use Rattle.droid_frame.specs.Fields.{IsBytes, u32_bytes, u64_bytes}
use Rattle.droid_frame.specs.Frames.{frame_bytes}
use Rattle.droid_frame.specs.Versions.{is_version}
use Rattle.droid_frame.specs.Headers.{header_bytes}
use Rattle.droid_frame.specs.Streams.{IsReadable, BeginsNoFrame, Frames, header_size}
use Rattle.droid_frame.specs.StreamReads.{IsHeader, judged}
use Rattle.droid_frame.specs.StreamLaws.{HasFrames}
use Rattle.droid_frame.proofs.FieldLaws.{IsFront, u32_field, u64_field, IsBytes-take, IsBytes-drop, IsBytes-rest}
use Rattle.droid_frame.proofs.FrameLaws.{reported_frame}
use Rattle.droid_frame.proofs.StreamFrames.{Judged, other_version, too_long, good, judged_is, no_frame_in_short, no_frame_of_version, no_frame_too_long, no_frame_cut}
use Rattle.droid_frame.proofs.StreamArrivals.{made}

-- ---- one way at most

pub one_way : (stream : List ℕ) (first second : List Frame) (rest more : List ℕ) → Frames stream first rest → Frames stream second more → (first ≡ second) × (rest ≡ more)
one_way stream [] [] rest more reads other = (refl, sym reads.joined ∙ other.joined)
one_way stream [] (frame ∷ frames) rest more reads other =
    absurd (reads.none_more frame (flat_map frame_bytes frames ++ more) other.readable.0
    (sym reads.joined ∙ (other.joined ∙ append_assoc (frame_bytes frame) (flat_map frame_bytes frames) more)))
one_way stream (frame ∷ frames) [] rest more reads other =
    absurd (other.none_more frame (flat_map frame_bytes frames ++ rest) reads.readable.0
    (sym other.joined ∙ (reads.joined ∙ append_assoc (frame_bytes frame) (flat_map frame_bytes frames) rest)))
one_way stream (frame ∷ frames) (frame' ∷ frames') rest more reads other =
    let same : frame_bytes frame ++ (flat_map frame_bytes frames ++ rest) ≡ frame_bytes frame' ++ (flat_map frame_bytes frames' ++ more) =
    sym (append_assoc (frame_bytes frame) (flat_map frame_bytes frames) rest) ∙ (sym reads.joined ∙ (other.joined ∙ append_assoc (frame_bytes frame') (flat_map frame_bytes frames') more)) in
    let reported = reported_frame frame frame' _ _ reads.readable.0.is_frame other.readable.0.is_frame same in
    let behind = one_way (flat_map frame_bytes frames ++ rest) frames frames' rest more
    (record { readable = reads.readable.1; joined = refl; none_more = reads.none_more })
    (record { readable = other.readable.1; joined = reported.1; none_more = other.none_more }) in
    (ap (λ (f : Frame). f ∷ frames) reported.0 ∙ ap (λ (l : List Frame). frame' ∷ l) behind.0, behind.1)

-- ---- one way at least: the header that stands at the front

record NumberAt (limit : ℕ) (spelled : ℕ → List ℕ) (bytes : List ℕ) : Type 0 where
  pub value : ℕ
  pub rest : List ℕ
  pub front : IsFront bytes (spelled value) rest
  pub fits : value < limit

u32_there : (bytes : List ℕ) → IsBytes bytes → 4 ≤ length bytes → NumberAt (2 ^ 32) u32_bytes bytes
u32_there bytes are long =
    let x : ℕ × List ℕ = (from_be_bytes w32 (take 4 bytes), drop 4 bytes) in
    let read = u32_field.reads bytes x are (rw (le-ltb (length bytes) 4 long) refl) in
    record { value = x.0; rest = x.1; front = read.0; fits = read.1 }

u64_there : (bytes : List ℕ) → IsBytes bytes → 8 ≤ length bytes → NumberAt (2 ^ 64) u64_bytes bytes
u64_there bytes are long =
    let x : ℕ × List ℕ = (from_be_bytes w64 (take 8 bytes), drop 8 bytes) in
    let read = u64_field.reads bytes x are (rw (le-ltb (length bytes) 8 long) refl) in
    record { value = x.0; rest = x.1; front = read.0; fits = read.1 }

record HeaderAt (bytes : List ℕ) : Type 0 where
  pub header : Header
  pub rest : List ℕ
  pub is_header : IsHeader header
  pub parts : bytes ≡ header_bytes header ++ rest
  pub bytes_follow : IsBytes rest

header_at : (bytes : List ℕ) → IsBytes bytes → header_size ≤ length bytes → HeaderAt bytes
header_at [] are long = absurd (omega arith)
header_at (version ∷ []) are long = absurd (omega arith)
header_at (version ∷ kind ∷ bytes) are long =
    let follow : IsBytes bytes = IsBytes-rest kind bytes (IsBytes-rest version (kind ∷ bytes) are) in
    let client = u32_there bytes follow (omega arith) in
    let client_size : length bytes ≡ 4 + length client.rest = ap length client.front.parts ∙ omega arith in
    let number = u64_there client.rest client.front.bytes_follow (omega arith) in
    let number_size : length client.rest ≡ 8 + length number.rest = ap length number.front.parts ∙ omega arith in
    let size = u32_there number.rest number.front.bytes_follow (omega arith) in
    record {
      header = record { version = version; kind = kind; client = client.value; number = number.value; length = size.value };
      rest = size.rest;
      is_header = record { version_fits = are 0; kind_fits = are 1; client_fits = client.fits; number_fits = number.fits; length_fits = size.fits };
      parts = ap (λ (l : List ℕ). version ∷ kind ∷ l)
          (client.front.parts ∙ ap (λ (l : List ℕ). u32_bytes client.value ++ l) (number.front.parts ∙ ap (λ (l : List ℕ). u64_bytes number.value ++ l) size.front.parts));
      bytes_follow = size.front.bytes_follow;
    }

-- ---- the frame that stands at the front, or none

record Next (bytes : List ℕ) : Type 0 where
  pub frame : Frame
  pub rest : List ℕ
  pub readable : IsReadable frame
  pub parts : bytes ≡ frame_bytes frame ++ rest
  pub bytes_follow : IsBytes rest

next_of : (h : Header) (rest : List ℕ) → IsHeader h → IsBytes rest → is_version h.version ≡ true → ltb (body_limit h.version) h.length ≡ false → h.length ≤ length rest → Next (header_bytes h ++ rest)
next_of h rest is are one fits long =
    let body = take h.length rest in
    let size : length body ≡ h.length = omega (arith, length-take h.length rest) in
    let within : h.length ≤ body_limit h.version = ltb-false (body_limit h.version) h.length fits in
    let same : header_bytes h ++ rest ≡ frame_bytes (made h body) ++ drop h.length rest =
    rw size (ap (λ (l : List ℕ). header_bytes h ++ l) (sym (take-append-drop h.length rest))) in
    record {
      frame = made h body;
      rest = drop h.length rest;
      readable = record {
        is_frame = record {
          version_fits = is.version_fits;
          kind_fits = is.kind_fits;
          client_fits = is.client_fits;
          number_fits = is.number_fits;
          body_fits = rw size within;
          body_is_bytes = IsBytes-take h.length rest are;
        };
        version_is = one;
      };
      parts = same;
      bytes_follow = IsBytes-drop h.length rest are;
    }

behind_header : (h : Header) (rest : List ℕ) (r : Result ℕ FrameFault) → IsHeader h → IsBytes rest → Judged h r → Next (header_bytes h ++ rest) ⊎ BeginsNoFrame (header_bytes h ++ rest)
behind_header h rest r is are (other_version o) = inr (no_frame_of_version h rest is o)
behind_header h rest r is are (too_long o l) = inr (no_frame_too_long h rest is (ltb-true (body_limit h.version) h.length l))
behind_header h rest r is are (good o l) =
    elim (cases_lt (length rest) h.length) [
      | inl short ↦ inr (no_frame_cut h rest is short)
      | inr long ↦ inl (next_of h rest is are o l long)
    ]

next_or_none : (bytes : List ℕ) → IsBytes bytes → Next bytes ⊎ BeginsNoFrame bytes
next_or_none bytes are =
    elim (cases_lt (length bytes) header_size) [
      | inl short ↦ inr (no_frame_in_short bytes short)
      | inr long ↦ (let there = header_at bytes are long in
          subst (λ (l : List ℕ). Next l ⊎ BeginsNoFrame l) (sym there.parts) (behind_header there.header there.rest (judged there.header) there.is_header there.bytes_follow (judged_is there.header (judged there.header) refl)))
    ]

-- ---- all frames, one after the other: by recursion over a bound of the stream's length

with_next : (most : ℕ) (stream : List ℕ) → length stream ≤ suc most → ((rest : List ℕ) → IsBytes rest → length rest ≤ most → HasFrames rest) → Next stream → HasFrames stream
with_next most stream fits behind next =
    let size : length stream ≡ length (frame_bytes next.frame ++ next.rest) = ap length next.parts in
    let more = behind next.rest next.bytes_follow (omega (arith, size, length-append next.frame.body next.rest)) in
    record {
      frames = next.frame ∷ more.frames;
      rest = more.rest;
      reads = record {
        readable = (next.readable, more.reads.readable);
        joined = next.parts ∙ (ap (λ (l : List ℕ). frame_bytes next.frame ++ l) more.reads.joined ∙ sym (append_assoc (frame_bytes next.frame) (flat_map frame_bytes more.frames) more.rest));
        none_more = more.reads.none_more;
      };
    }

with_none : (stream : List ℕ) → BeginsNoFrame stream → HasFrames stream
with_none stream none = record { frames = []; rest = stream; reads = record { readable = tt; joined = refl; none_more = none } }

one_way_of : (most : ℕ) (stream : List ℕ) → IsBytes stream → length stream ≤ most → HasFrames stream
one_way_of zero stream are fits = with_none stream (no_frame_in_short stream (omega arith))
one_way_of (suc most) stream are fits =
    elim (next_or_none stream are) [
      | inl next ↦ with_next most stream fits (λ rest follow less. one_way_of most rest follow less) next
      | inr none ↦ with_none stream none
    ]

pub one_way_there : (stream : List ℕ) → IsBytes stream → HasFrames stream
one_way_there stream are = one_way_of (length stream) stream are (omega arith)
