-- What a writer holds after the parts of a reply so far.
use Rattle.std.proofs.Common.{◌≡◌, ℕ, suc, ◌+◌, ◌-◌, ◌^◌, ◌<◌, ◌≤◌, List, [], ◌∷◌, ◌++◌, length, take, drop, get_or, Option, refl, sym, ap, subst, ◌∙◌, append_assoc, arith}
use Rattle.std.specs.Io.KnownBytes.{Appends}
use Rattle.std.proofs.KnownBytes.{Appends-trans}
use Rattle.std.proofs.Math.Seq.{drop-cons}
use Rattle.std.proofs.lemmas.Grind.{flat_map-append}
use Rattle.std.proofs.lemmas.List.{append-nil, length-append, take-append-drop}
use Rattle.droid_frame.specs.declared.reply.Reply.{Reply}
use Rattle.droid_frame.specs.Headers.{header_bytes}
use Rattle.droid_frame.specs.Replies.{reply_bytes, reply_kind}
use Rattle.droid_frame.specs.ReplyFrames.{reply_frame}
use Rattle.droid_frame.specs.ReplyFronts.{reply_front, reply_rest}
use Rattle.droid_frame.specs.StreamWrites.{Stops}
use Rattle.droid_frame.specs.Writes.{StopsWithin}
use Rattle.droid_frame.specs.TextLists.{sized_bytes, texts_bytes}
use Rattle.droid_frame.proofs.ReplyFronts.{front_and_rest}
use Rattle.droid_frame.proofs.StreamWrites.{Sent, sent_nothing, stops_after}

-- where a write stopped within a part, behind others of which `at` bytes stand before the whole
pub stops_on : (start mid now : Option (List ℕ)) (front part rest all : List ℕ) (at before count : ℕ) → Appends start mid front → before ≡ at + length front → StopsWithin mid now part before count → all ≡ front ++ (part ++ rest) → StopsWithin start now all at count
stops_on start mid now front part rest all at before count sent counted stops is_all =
    let on : at + length front ≤ count = omega (arith, counted, stops.counts_on) in
    let left : count - before ≡ (count - at) - length front = omega (arith, counted, stops.counts_on) in
    let within : StopsWithin mid now part (length front) (count - at) = record {
      counts_on = omega arith;
      some_left = omega (arith, left, stops.some_left);
      front = subst (λ (n : ℕ). Appends mid now (take n part)) left stops.front;
    } in
    let sent_front : Sent start mid front (length front) = record { counted = refl; appended = sent } in
    let whole : Stops start now all (count - at) = stops_after start mid now front part rest all (length front) (count - at) sent_front within is_all in
    record {
      counts_on = omega arith;
      some_left = whole.some_left;
      front = whole.front;
    }

-- the first identifiers, one more, and the others
pub puids_split : (puids : List (List ℕ)) (i : ℕ) (puid : List ℕ) → i < length puids → puid ≡ get_or puids i puid → texts_bytes puids ≡ texts_bytes (take i puids) ++ (sized_bytes puid ++ texts_bytes (drop (suc i) puids))
puids_split puids i puid below is =
    let others : drop i puids ≡ puid ∷ drop (suc i) puids = drop-cons puids i puid below ∙ ap (λ (t : List ℕ). t ∷ drop (suc i) puids) (sym is) in
    ap texts_bytes (sym (take-append-drop i puids))
    ∙ (flat_map-append sized_bytes (take i puids) (drop i puids)
    ∙ ap (λ (ps : List (List ℕ)). texts_bytes (take i puids) ++ texts_bytes ps) others)

-- one more identifier is within them all
pub puid_room : (puids : List (List ℕ)) (i : ℕ) (puid : List ℕ) → i < length puids → puid ≡ get_or puids i puid → length (texts_bytes (take i puids)) + length (sized_bytes puid) ≤ length (texts_bytes puids)
puid_room puids i puid below is =
    let others = texts_bytes (drop (suc i) puids) in
    let split : length (texts_bytes puids) ≡ length (texts_bytes (take i puids) ++ (sized_bytes puid ++ others)) = ap (λ (bytes : List ℕ). length bytes) (puids_split puids i puid below is) in
    omega (arith, split, length-append (texts_bytes (take i puids)) (sized_bytes puid ++ others), length-append (sized_bytes puid) others)

-- ---- the header, the first fields, and the rest

-- the parts of a reply's frame, and how many bytes the header has
pub record IsFrameOf (frame header front rest : List ℕ) : Type 0 where
  pub parts : frame ≡ header ++ (front ++ rest)
  pub header_size : length header ≡ 18

pub frame_is : (version client number kind size : ℕ) (reply : Reply) (header front : List ℕ) → kind ≡ reply_kind reply → size ≡ length (reply_bytes version reply) → header ≡ header_bytes (record { version = version; kind = kind; client = client; number = number; length = size }) → front ≡ reply_front version reply → IsFrameOf (reply_frame version client number reply) header front (reply_rest reply)
frame_is version client number kind size reply header front kind_is size_is header_is front_is = record {
  parts =
      ap (λ (body : List ℕ). header_bytes (record { version = version; kind = reply_kind reply; client = client; number = number; length = length (reply_bytes version reply) }) ++ body) (sym (front_and_rest version reply))
      ∙ sym (rw (header_is, kind_is, size_is, front_is) refl);
  header_size = rw header_is refl;
}

pub frame_size : (frame header front rest : List ℕ) (before after : ℕ) → IsFrameOf frame header front rest → before ≡ length header → after ≡ before + length front → length frame ≡ after + length rest
frame_size frame header front rest before after is sent both =
    omega (arith, ap (λ (bytes : List ℕ). length bytes) is.parts, sent, both, length-append header (front ++ rest), length-append front rest)

pub rest_room : (version client number : ℕ) (reply : Reply) (header front : List ℕ) (written : ℕ) → IsFrameOf (reply_frame version client number reply) header front (reply_rest reply) → length (reply_bytes version reply) ≤ 1048640 → front ≡ reply_front version reply → written ≡ length (header ++ front) → written + length (reply_rest reply) < 2 ^ 64
rest_room version client number reply header front written frame short front_is counted =
    let body : length (reply_front version reply ++ reply_rest reply) ≡ length (reply_bytes version reply) = ap (λ (bytes : List ℕ). length bytes) (front_and_rest version reply) in
    let size : length front ≡ length (reply_front version reply) = ap (λ (bytes : List ℕ). length bytes) front_is in
    omega (arith, frame.header_size, body, size, counted, short, length-append (reply_front version reply) (reply_rest reply), length-append header front)

pub stops_in_header : (old new : Option (List ℕ)) (frame header front rest : List ℕ) (before count : ℕ) → IsFrameOf frame header front rest → before ≡ 0 → StopsWithin old new header before count → Stops old new frame count
stops_in_header old new frame header front rest before count is none stops =
    stops_after old old new [] header (front ++ rest) frame before count (sent_nothing old before none) stops is.parts

pub stops_in_front : (old mid new : Option (List ℕ)) (frame header front rest : List ℕ) (before count : ℕ) → IsFrameOf frame header front rest → Sent old mid header before → StopsWithin mid new front before count → Stops old new frame count
stops_in_front old mid new frame header front rest before count is sent stops =
    stops_after old mid new header front rest frame before count sent stops is.parts

pub stops_in_rest : (old mid new : Option (List ℕ)) (frame header front rest : List ℕ) (before count : ℕ) → IsFrameOf frame header front rest → Sent old mid (header ++ front) before → StopsWithin mid new rest before count → Stops old new frame count
stops_in_rest old mid new frame header front rest before count is sent stops =
    stops_after old mid new (header ++ front) rest [] frame before count sent stops
    (is.parts ∙ (sym (append_assoc header front rest) ∙ ap (λ (r : List ℕ). (header ++ front) ++ r) (sym (append-nil rest))))

pub all_sent : (old mid new : Option (List ℕ)) (frame header front rest : List ℕ) (before : ℕ) → IsFrameOf frame header front rest → Sent old mid (header ++ front) before → Appends mid new rest → Appends old new frame
all_sent old mid new frame header front rest before is sent more =
    subst (Appends old new) (append_assoc header front rest ∙ sym is.parts) (Appends-trans old mid new (header ++ front) rest sent.appended more)
