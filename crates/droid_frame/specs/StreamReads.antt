-- The bytes that reading one frame consumes, for each result.
use Rattle.std.specs.Prelude.{◌≡◌, ℕ, ◌+◌, ◌<◌, ◌≤◌, ◌^◌, nat_lt, if◌then◌else◌, ◌⊎◌, List, [], Option, Some, None}
use Rattle.std.specs.Prelude.{IfSome, Result, Ok, Err, length}
use Rattle.std.specs.Io.KnownBytes.{Consumes, IsAtEnd}
use Rattle.droid_frame.specs.Limits.{body_limit}
use Rattle.droid_frame.specs.declared.streams.arrival.Arrival.{Arrival}
use Rattle.droid_frame.specs.declared.streams.arrival.Arrival.TheVariants as arrivals
use Rattle.droid_frame.specs.declared.streams.fault.FrameFault.{FrameFault}
use Rattle.droid_frame.specs.declared.streams.fault.FrameFault.TheVariants.{Truncated, BadVersion, TooLong, Memory}
use Rattle.droid_frame.specs.declared.streams.fault.FrameFault.TheVariants.{Read}
use Rattle.droid_frame.specs.declared.streams.header.Header.{Header}
use Rattle.droid_frame.specs.Fields.{IsBytes, IsU32}
use Rattle.droid_frame.specs.Frames.{frame_bytes}
use Rattle.droid_frame.specs.Versions.{IsVersion, is_version}
use Rattle.droid_frame.specs.Headers.{header_bytes}
use Rattle.droid_frame.specs.declared.io.stream_record.Seen.{Seen}
use Rattle.droid_frame.specs.Reads.{ConsumesFewer}
use Rattle.droid_frame.specs.Seen.{Counts, GivesUp}
use Rattle.droid_frame.specs.Streams.{IsReadable, BeginsNoFrame, header_size, version_in, length_in, why}

-- the reader consumed all that was left: at least `least` bytes, and fewer than `wanted`
pub record ConsumesShort (old new : Option (List ℕ)) (least wanted : ℕ) : Type 0 where
  pub bytes : List ℕ
  pub consumed : Consumes old new bytes
  pub at_end : IsAtEnd new
  pub some : least ≤ length bytes
  pub short : length bytes < wanted

-- the bytes begin with a valid header: its version is 1 or 2, and the body that it announces is within the limit
pub record IsGoodHeader (bytes : List ℕ) : Type 0 where
  pub whole : header_size ≤ length bytes
  pub version_is : IsVersion (version_in bytes)
  pub length_fits : length_in bytes ≤ body_limit (version_in bytes)

-- the bytes begin with a valid header that announces a body of at least one byte
pub record NamesSomeBody (bytes : List ℕ) : Type 0 where
  pub good : IsGoodHeader bytes
  pub some : 0 < length_in bytes

-- the reader consumed bytes that contain no whole frame: at most a header, or a valid header and less than the body
-- that it announces
pub record ReadsNoFrame (old new : Option (List ℕ)) : Type 0 where
  pub bytes : List ℕ
  pub consumed : Consumes old new bytes
  pub no_frame : BeginsNoFrame bytes
  pub within : (length bytes ≤ header_size) ⊎ (IsGoodHeader bytes × (length bytes < header_size + length_in bytes))

-- the reader consumed exactly a valid header that announces a body of at least one byte
pub record ReadsGoodHeader (old new : Option (List ℕ)) : Type 0 where
  pub bytes : List ℕ
  pub consumed : Consumes old new bytes
  pub size : length bytes ≡ header_size
  pub names_body : NamesSomeBody bytes

-- a readable frame, and exactly its bytes were consumed; or the end, and no bytes were left
abbrev pub Brings : Option (List ℕ) → Option (List ℕ) → Arrival → Type 0
Brings old new (arrivals.Frame frame) = IsReadable frame × Consumes old new (frame_bytes frame)
Brings old new arrivals.End = IsAtEnd old × Consumes old new []

-- the input begins with no frame, and `why` gives this result
pub record EndsBy (input : List ℕ) (why_it_ends : Result Arrival FrameFault) : Type 0 where
  pub no_frame : BeginsNoFrame input
  pub reason : why input ≡ why_it_ends

-- the property of the input that each fault implies
abbrev pub ImpliedBy : FrameFault → List ℕ → Type 0
ImpliedBy Truncated input = EndsBy input (Err Truncated)
ImpliedBy BadVersion input = EndsBy input (Err BadVersion)
ImpliedBy TooLong input = EndsBy input (Err TooLong)
ImpliedBy Memory input = NamesSomeBody input
ImpliedBy Read input = Unit {0}

-- P holds, unless memory ran out or the reader failed
abbrev pub UnlessRefused : Result Arrival FrameFault → Type 0 → Type 0
UnlessRefused (Ok arrival) P = P
UnlessRefused (Err Truncated) P = P
UnlessRefused (Err BadVersion) P = P
UnlessRefused (Err TooLong) P = P
UnlessRefused (Err Memory) P = Unit {0}
UnlessRefused (Err Read) P = Unit {0}

-- ---- the parts of a frame

-- each field of a header is in its range
pub record IsHeader (header : Header) : Type 0 where
  pub version_fits : header.version < 2 ^ 8
  pub kind_fits : header.kind < 2 ^ 8
  pub client_fits : IsU32 header.client
  pub number_fits : header.number < 2 ^ 64
  pub length_fits : IsU32 header.length

-- after reading a header: its bytes were consumed; or no bytes were left; or less than a header was left; or the
-- reader failed
abbrev pub HeaderCame : Option (List ℕ) → Option (List ℕ) → Result (Option Header) FrameFault → Type 0
HeaderCame old new (Ok (Some header)) = IsHeader header × Consumes old new (header_bytes header)
HeaderCame old new (Ok None) = Consumes old new [] × IsAtEnd new
HeaderCame old new (Err Truncated) = ConsumesShort old new 1 header_size
HeaderCame old new (Err Read) = ConsumesFewer old new header_size
HeaderCame old new (Err BadVersion) = ⊥
HeaderCame old new (Err TooLong) = ⊥
HeaderCame old new (Err Memory) = ⊥

-- after reading a body of `wanted` bytes: it was consumed; or less was left; or memory ran out, nothing was consumed
-- and the body is not empty; or the reader failed
abbrev pub BodyCame : Option (List ℕ) → Option (List ℕ) → ℕ → Result (List ℕ) FrameFault → Type 0
BodyCame old new wanted (Ok body) = IsBytes body × (length body ≡ wanted) × Consumes old new body
BodyCame old new wanted (Err Truncated) = ConsumesShort old new 0 wanted
BodyCame old new wanted (Err Memory) = Consumes old new [] × (0 < wanted)
BodyCame old new wanted (Err Read) = ConsumesFewer old new wanted
BodyCame old new wanted (Err BadVersion) = ⊥
BodyCame old new wanted (Err TooLong) = ⊥

-- after a fault: `Read` means that the reader was given up; after any other the count of interruptions is right
abbrev pub FaultCounts : ℕ → Seen → ℕ → FrameFault → Type 0
FaultCounts start seen count Truncated = Counts start seen count
FaultCounts start seen count BadVersion = Counts start seen count
FaultCounts start seen count TooLong = Counts start seen count
FaultCounts start seen count Memory = Counts start seen count
FaultCounts start seen count Read = GivesUp start seen

-- after some of the reads: on success too the count of interruptions is right
abbrev pub ReadsOn : {T : Type 0} → ℕ → Seen → ℕ → Result T FrameFault → Type 0
ReadsOn start seen count (Ok value) = Counts start seen count
ReadsOn start seen count (Err fault) = FaultCounts start seen count fault

-- the length that a header announces, or its fault: the version is checked first, then the length
unfoldable pub judged : Header → Result ℕ FrameFault
judged header =
    if is_version header.version
    then (if nat_lt (body_limit header.version) header.length then Err TooLong else Ok header.length)
    else Err BadVersion

-- the whole effect of reading one frame
abbrev pub Arrives : Option (List ℕ) → Option (List ℕ) → Result Arrival FrameFault → Type 0
Arrives old new (Ok arrival) = Brings old new arrival
Arrives old new (Err Memory) = IfSome old (ImpliedBy Memory) × ReadsNoFrame old new × ReadsGoodHeader old new
Arrives old new (Err fault) = IfSome old (ImpliedBy fault) × ReadsNoFrame old new
