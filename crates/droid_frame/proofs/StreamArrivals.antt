-- What one call leaves, by what its parts left; and what that says of the input.
use Rattle.std.proofs.Common.{◌≡◌, ℕ, ◌<◌, ◌≤◌, true, false, ltb, List, [], ◌++◌, length, Option, Some, None, Result, Ok, Err, IfSome, refl, sym, ap, subst, ◌∙◌, arith, inl, inr}
use Rattle.std.specs.Prelude.{IsErrAnd}
use Rattle.std.specs.Io.KnownBytes.{Consumes, IsAtEnd}
use Rattle.std.proofs.KnownBytes.{Consumes-trans}
use Rattle.std.proofs.lemmas.Bool.{ltb-true, ltb-false}
use Rattle.std.proofs.lemmas.List.{append-nil}
use Rattle.droid_frame.specs.declared.frame.Frame.{Frame}
use Rattle.droid_frame.specs.Limits.{body_limit}
use Rattle.droid_frame.specs.declared.streams.arrival.Arrival.{Arrival}
use Rattle.droid_frame.specs.declared.streams.arrival.Arrival.TheVariants as arrivals
use Rattle.droid_frame.specs.declared.streams.fault.FrameFault.{FrameFault}
use Rattle.droid_frame.specs.declared.streams.fault.FrameFault.TheVariants.{Truncated, BadVersion, TooLong, Memory, Read}
use Rattle.droid_frame.specs.declared.streams.header.Header.{Header}
use Rattle.droid_frame.specs.Frames.{frame_bytes}
use Rattle.droid_frame.specs.Versions.{is_version}
use Rattle.droid_frame.specs.Headers.{header_bytes}
use Rattle.droid_frame.specs.Streams.{IsReadable, BeginsNoFrame, header_size, why}
use Rattle.droid_frame.specs.StreamReads.{IsGoodHeader, NamesSomeBody, ReadsNoFrame, Brings, EndsBy, ImpliedBy, UnlessRefused, IsHeader, HeaderCame, BodyCame, judged, Arrives}
use Rattle.droid_frame.proofs.FrameLaws.{reported_frame}
use Rattle.droid_frame.proofs.StreamFrames.{Judged, other_version, too_long, good, judged_is, length_in-header, why_nothing, why_short, why_whole, no_frame_in_short, no_frame_of_version, no_frame_too_long, no_frame_cut}

-- ---- known bytes

-- what is said of all that was read, where that is all there was
at_end_all : (old new : Option (List ℕ)) (bytes : List ℕ) (P : List ℕ → Type 0) → Consumes old new bytes → IsAtEnd new → P bytes → IfSome old P
at_end_all None new bytes P read end p = tt
at_end_all (Some input) None bytes P read end p = absurd read
at_end_all (Some input) (Some left) bytes P read end p =
    subst P (sym (read ∙ (ap (λ (l : List ℕ). bytes ++ l) end ∙ append-nil bytes))) p

-- what is said of all that these bytes begin
begun_all : (old new : Option (List ℕ)) (bytes : List ℕ) (P : List ℕ → Type 0) → Consumes old new bytes → ((left : List ℕ) → P (bytes ++ left)) → IfSome old P
begun_all None new bytes P read p = tt
begun_all (Some input) None bytes P read p = absurd read
begun_all (Some input) (Some left) bytes P read p = subst P (sym read) (p left)

-- a reader that gave none of its bytes and is at its end had none
pub nothing_was_there : (old new : Option (List ℕ)) → Consumes old new [] → IsAtEnd new → IsAtEnd old
nothing_was_there None new read end = tt
nothing_was_there (Some input) None read end = absurd read
nothing_was_there (Some input) (Some left) read end = read ∙ end

-- ---- where no header came

short_reported : (bytes : List ℕ) → 0 < length bytes → length bytes < header_size → EndsBy bytes (Err Truncated)
short_reported bytes some short = record { no_frame = no_frame_in_short bytes short; reason = why_short bytes some short }

pub header_fault : (old new : Option (List ℕ)) (fault : FrameFault) → HeaderCame old new (Err fault) → Arrives old new (Err fault)
header_fault old new Truncated came = (
  at_end_all old new came.bytes (ImpliedBy Truncated) came.consumed came.at_end (short_reported came.bytes (omega (arith, came.some)) came.short),
  record { bytes = came.bytes; consumed = came.consumed; no_frame = no_frame_in_short came.bytes came.short; within = inl (omega (arith, came.short)) },
)
header_fault old new Read came = (begun_all old new came.bytes (ImpliedBy Read) came.consumed (λ left. tt), record { bytes = came.bytes; consumed = came.consumed; no_frame = no_frame_in_short came.bytes came.fewer; within = inl (omega (arith, came.fewer)) })
header_fault old new BadVersion came = absurd came
header_fault old new TooLong came = absurd came
header_fault old new Memory came = absurd came

-- ---- where the header was refused

refused_reported : (h : Header) (fault : FrameFault) (left : List ℕ) → IsHeader h → Judged h (Err fault) → ImpliedBy fault (header_bytes h ++ left)
refused_reported h BadVersion left is (other_version o) = record {
  no_frame = no_frame_of_version h left is o;
  reason = why_whole h left false (ltb (body_limit h.version) h.length) is o refl;
}
refused_reported h TooLong left is (too_long o l) = record {
  no_frame = no_frame_too_long h left is (ltb-true (body_limit h.version) h.length l);
  reason = why_whole h left true true is o l;
}
refused_reported h Truncated left is j = elim j [ ]
refused_reported h Memory left is j = elim j [ ]
refused_reported h Read left is j = elim j [ ]

-- a header that is refused is all that was read
refused_by : (old new : Option (List ℕ)) (h : Header) (fault : FrameFault) → IsHeader h → Consumes old new (header_bytes h) → Judged h (Err fault) → Arrives old new (Err fault)
refused_by old new h BadVersion is read (other_version o) = (
  begun_all old new (header_bytes h) (ImpliedBy BadVersion) read (λ left. refused_reported h BadVersion left is (other_version o)),
  record { bytes = header_bytes h; consumed = read; no_frame = no_frame_of_version h [] is o; within = inl (omega arith) },
)
refused_by old new h TooLong is read (too_long o l) = (
  begun_all old new (header_bytes h) (ImpliedBy TooLong) read (λ left. refused_reported h TooLong left is (too_long o l)),
  record { bytes = header_bytes h; consumed = read; no_frame = no_frame_too_long h [] is (ltb-true (body_limit h.version) h.length l); within = inl (omega arith) },
)
refused_by old new h Truncated is read j = elim j [ ]
refused_by old new h Memory is read j = elim j [ ]
refused_by old new h Read is read j = elim j [ ]

pub length_fault : (old new : Option (List ℕ)) (h : Header) (fault : FrameFault) → IsHeader h → Consumes old new (header_bytes h) → judged h ≡ Err fault → Arrives old new (Err fault)
length_fault old new h fault is read e = refused_by old new h fault is read (judged_is h (Err fault) e)

-- ---- where the header was good

pub record IsGood (h : Header) (n : ℕ) : Type 0 where
  pub is_header : IsHeader h
  pub one : is_version h.version ≡ true
  pub fits : ltb (body_limit h.version) h.length ≡ false
  pub length_is : n ≡ h.length

good_by : (h : Header) (n : ℕ) → IsHeader h → Judged h (Ok n) → IsGood h n
good_by h n is (good o l) = record { is_header = is; one = o; fits = l; length_is = refl }

pub good_is : (h : Header) (n : ℕ) → IsHeader h → judged h ≡ Ok n → IsGood h n
good_is h n is e = good_by h n is (judged_is h (Ok n) e)

good_header : (h : Header) (n : ℕ) (part : List ℕ) → IsGood h n → IsGoodHeader (header_bytes h ++ part)
good_header h n part is = record {
  whole = omega arith;
  version_is = is.one;
  length_fits = rw (length_in-header h part is.is_header) (ltb-false (body_limit h.version) h.length is.fits);
}

names_some : (h : Header) (n : ℕ) (part : List ℕ) → IsGood h n → 0 < n → NamesSomeBody (header_bytes h ++ part)
names_some h n part is some = record {
  good = good_header h n part is;
  some = rw (length_in-header h part is.is_header) (let same : n ≡ h.length = is.length_is in omega arith);
}

-- a good header and less than its body were read
cut_body : (old mid new : Option (List ℕ)) (h : Header) (n : ℕ) (part : List ℕ) → IsGood h n → Consumes old mid (header_bytes h) → Consumes mid new part → length part < n → ReadsNoFrame old new
cut_body old mid new h n part is read more short = record {
  bytes = header_bytes h ++ part;
  consumed = Consumes-trans old mid new (header_bytes h) part read more;
  no_frame = no_frame_cut h part is.is_header (let same : n ≡ h.length = is.length_is in omega arith);
  within = inr (good_header h n part is, rw (length_in-header h part is.is_header) (let same : n ≡ h.length = is.length_is in omega arith));
}

pub body_fault : (old mid new : Option (List ℕ)) (h : Header) (n : ℕ) (fault : FrameFault) → IsGood h n → Consumes old mid (header_bytes h) → BodyCame mid new n (Err fault) → Arrives old new (Err fault)
unfolding cut_body
body_fault old mid new h n Truncated is read came =
    let all = header_bytes h ++ came.bytes in
    let cut = cut_body old mid new h n came.bytes is read came.consumed came.short in
    (at_end_all old new all (ImpliedBy Truncated) cut.consumed came.at_end (record { no_frame = cut.no_frame; reason = why_whole h came.bytes true false is.is_header is.one is.fits }), cut)
body_fault old mid new h n Memory is read came =
    let cut = cut_body old mid new h n [] is read came.0 came.1 in
    let names = names_some h n [] is came.1 in (
      begun_all old new (header_bytes h) (ImpliedBy Memory) cut.consumed (λ left. names_some h n left is came.1),
      cut,
      record { bytes = header_bytes h; consumed = cut.consumed; size = refl; names_body = names },
    )
body_fault old mid new h n Read is read came =
    let cut = cut_body old mid new h n came.bytes is read came.consumed came.fewer in
    (begun_all old new (header_bytes h ++ came.bytes) (ImpliedBy Read) cut.consumed (λ left. tt), cut)
body_fault old mid new h n BadVersion is read came = absurd came
body_fault old mid new h n TooLong is read came = absurd came

-- a frame of a header and a body
abbrev pub made : Header → List ℕ → Frame
made h body = record { version = h.version; kind = h.kind; client = h.client; number = h.number; body = body }

pub frame_came : (old mid new : Option (List ℕ)) (h : Header) (n : ℕ) (body : List ℕ) → IsGood h n → Consumes old mid (header_bytes h) → BodyCame mid new n (Ok body) → Brings old new (arrivals.Frame (made h body))
frame_came old mid new h n body is read came =
    let size : length body ≡ h.length = came.1 ∙ is.length_is in
    let same : header_bytes h ++ body ≡ frame_bytes (made h body) = rw size refl in
    let fits : h.length ≤ body_limit h.version = ltb-false (body_limit h.version) h.length is.fits in
    let header = is.is_header in (
      record {
        is_frame = record {
          version_fits = header.version_fits;
          kind_fits = header.kind_fits;
          client_fits = header.client_fits;
          number_fits = header.number_fits;
          body_fits = rw size fits;
          body_is_bytes = came.0;
        };
        version_is = is.one;
      },
      subst (Consumes old new) same (Consumes-trans old mid new (header_bytes h) body read came.2),
    )

-- ---- what that says of the input

pub accepted : (old new : Option (List ℕ)) (r : Result Arrival FrameFault) (frame : Frame) (rest : List ℕ) → Arrives old new r → IsReadable frame → old ≡ Some (frame_bytes frame ++ rest)
    → UnlessRefused r ((r ≡ Ok (arrivals.Frame frame)) × (new ≡ Some rest))
accepted None new r frame rest arrives readable e = absurd cc
accepted (Some input) None (Ok (arrivals.Frame other)) frame rest arrives readable e = absurd arrives.1
accepted (Some input) (Some left) (Ok (arrivals.Frame other)) frame rest arrives readable e =
    let at_front : input ≡ frame_bytes frame ++ rest = cc in
    let reported = reported_frame frame other rest left readable.is_frame arrives.0.is_frame (sym at_front ∙ arrives.1) in
    (ap (λ (f : Frame). Ok (arrivals.Frame f)) (sym reported.0), ap (λ (l : List ℕ). Some l) (sym reported.1))
accepted (Some input) new (Ok arrivals.End) frame rest arrives readable e =
    let at_front : input ≡ frame_bytes frame ++ rest = cc in
    absurd (let size : length (frame_bytes frame ++ rest) ≡ 0 = ap length (sym at_front ∙ arrives.0) in omega arith)
accepted (Some input) new (Err Truncated) frame rest arrives readable e = absurd (arrives.0.no_frame frame rest readable cc)
accepted (Some input) new (Err BadVersion) frame rest arrives readable e = absurd (arrives.0.no_frame frame rest readable cc)
accepted (Some input) new (Err TooLong) frame rest arrives readable e = absurd (arrives.0.no_frame frame rest readable cc)
accepted (Some input) new (Err Memory) frame rest arrives readable e = tt
accepted (Some input) new (Err Read) frame rest arrives readable e = tt

pub ended : (old new : Option (List ℕ)) (r : Result Arrival FrameFault) (input : List ℕ) → Arrives old new r → old ≡ Some input → BeginsNoFrame input → UnlessRefused r (r ≡ why input)
ended None new r input arrives e none = absurd cc
ended (Some bytes) None (Ok (arrivals.Frame frame)) input arrives e none = absurd arrives.1
ended (Some bytes) (Some left) (Ok (arrivals.Frame frame)) input arrives e none =
    let same : bytes ≡ input = cc in absurd (none frame left arrives.0 (sym same ∙ arrives.1))
ended (Some bytes) new (Ok arrivals.End) input arrives e none =
    let same : bytes ≡ input = cc in sym (ap why (sym same ∙ arrives.0) ∙ why_nothing)
ended (Some bytes) new (Err Truncated) input arrives e none = let same : bytes ≡ input = cc in sym (ap why (sym same) ∙ arrives.0.reason)
ended (Some bytes) new (Err BadVersion) input arrives e none = let same : bytes ≡ input = cc in sym (ap why (sym same) ∙ arrives.0.reason)
ended (Some bytes) new (Err TooLong) input arrives e none = let same : bytes ≡ input = cc in sym (ap why (sym same) ∙ arrives.0.reason)
ended (Some bytes) new (Err Memory) input arrives e none = tt
ended (Some bytes) new (Err Read) input arrives e none = tt

-- what `?` passes on
pub passed_fault : (old new : Option (List ℕ)) (r : Result Arrival FrameFault) (fault : FrameFault) → IsErrAnd r (λ e. e ≡ fault) → Arrives old new (Err fault) → Arrives old new r
passed_fault old new (Ok arrival) fault is arrives = absurd is
passed_fault old new (Err e) fault is arrives = subst (λ (f : FrameFault). Arrives old new (Err f)) (sym is) arrives
