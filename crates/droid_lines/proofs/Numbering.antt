-- The frames that were written are numbered from the core's next number on.
use Rattle.std.proofs.Common.{◌≡◌, ℕ, ◌+◌, Bool, true, false, cond, List, [], ◌∷◌, ◌++◌, length, Option, Some, None, refl, sym, ap, subst, ◌∙◌, arith, length-append, eqb}
use Rattle.std.specs.Io.KnownBytes.{Appends}
use Rattle.std.specs.List.{cons_option, flat_map}
use Rattle.std.proofs.lemmas.List.{length-set}
use Rattle.droid_frame.specs.Frames.{frame_bytes}
use Rattle.droid_frame.specs.declared.frame.Frame.{Frame}
use Rattle.droid_frame.specs.declared.reply.Reply.{Reply}
use Rattle.droid_lines.specs.declared.parser.VersionedRequest.{VersionedRequest}
use Rattle.droid_client.specs.Cores.{Core, core_hearing, core_submitting, new_slot, next_frame, next_number, slot_at, slot_hearing, slots_hearing}
use Rattle.droid_client.specs.declared.slot.Slot.{Slot}
use Rattle.droid_lines.specs.Exchanges.{Exchange, GoodLine, LinesSent, sent_bytes}
use Rattle.droid_lines.specs.Numbering.{WritesNumbered, numbered_frames, requests_of}
use Rattle.droid_lines.specs.Sending.{Sends}

-- ---- one line

-- the core is the same client's, and `count` requests further
record Goes (old new : Core) (count : ℕ) : Type 0 where
  client : new.client ≡ old.client
  next : next_number new ≡ next_number old + count

slots_stay : (core : Core) (version number : ℕ) (reply : Reply) (slot : Option Slot) → length (slots_hearing core version number reply slot) ≡ length core.slots
slots_stay core version number reply None = refl
slots_stay core version number reply (Some slot) = length-set core.slots _ (slot_hearing slot version reply)

hearing_by : (same : Bool) (core : Core) (slots : List Slot) → length slots ≡ length core.slots → Goes core (cond same (record core { slots = slots }) core) 0
hearing_by true core slots stay = record { client = refl; next = omega (arith, stay) }
hearing_by false core slots stay = record { client = refl; next = omega arith }

hearing_goes : (core : Core) (version client number : ℕ) (reply : Reply) → Goes core (core_hearing core version client number reply) 0
hearing_goes core version client number reply =
    hearing_by (eqb client core.client) core (slots_hearing core version number reply (slot_at core number)) (slots_stay core version number reply (slot_at core number))

submitting_goes : (core : Core) (asked : VersionedRequest) → Goes core (core_submitting core asked.version asked.request) 1
submitting_goes core asked = record { client = refl; next = omega (arith, length-append core.slots (new_slot (next_frame core asked.version asked.request) ∷ [])) }

good_goes : (core : Core) (line : List ℕ) (exchange : Exchange) (after : Core) → GoodLine core line exchange after → Goes core after 1
good_goes core line exchange after good =
    let submitted = core_submitting core good.asked.version good.asked.request in
    let came = exchange.came in
    let sent = submitting_goes core good.asked in
    let heard = hearing_goes submitted came.version came.client came.number exchange.reply in
    subst (λ (c : Core). Goes core c 1) (sym good.exchanges.hears.after_is) (record { client = heard.client ∙ sent.client; next = omega (arith, heard.next, sent.next) })

-- ---- all lines

-- what the lines of these requests wrote
record Numbered (core : Core) (requests : List VersionedRequest) (written : List ℕ) (after : Core) : Type 0 where
  are : written ≡ flat_map frame_bytes (numbered_frames core.client (next_number core) requests)
  goes : Goes core after (length requests)

written_next : (core middle : Core) (requests : List VersionedRequest) (written : List ℕ) → Goes core middle 1 → written ≡ flat_map frame_bytes (numbered_frames middle.client (next_number middle) requests)
    → written ≡ flat_map frame_bytes (numbered_frames core.client (next_number core + 1) requests)
written_next core middle requests written one are =
    are ∙ (ap (λ (c : ℕ). flat_map frame_bytes (numbered_frames c (next_number middle) requests)) one.client ∙ ap (λ (n : ℕ). flat_map frame_bytes (numbered_frames core.client n requests)) one.next)

numbered : (core : Core) (lines : List (List ℕ)) (exchanges : List (Option Exchange)) (after : Core) → LinesSent core lines exchanges after
    → Numbered core (requests_of lines) (flat_map sent_bytes exchanges) after
numbered core [] [] after sent = record { are = refl; goes = subst (λ (c : Core). Goes core c 0) (sym sent) (record { client = refl; next = omega arith }) }
numbered core [] (e ∷ exchanges) after sent = absurd sent
numbered core (line ∷ lines) [] after sent = absurd sent
numbered core (line ∷ lines) (None ∷ exchanges) after sent =
    let others = numbered core lines exchanges after (subst (λ (c : Core). LinesSent c lines exchanges after) sent.1.same sent.2) in
    subst (λ (o : Option VersionedRequest). Numbered core (cons_option o (requests_of lines)) (flat_map sent_bytes exchanges) after) (sym sent.1.asks) others
numbered core (line ∷ lines) (Some exchange ∷ exchanges) after sent =
    let one = good_goes core line exchange sent.0 sent.1 in
    let others = numbered sent.0 lines exchanges after sent.2 in
    let rest = written_next core sent.0 (requests_of lines) (flat_map sent_bytes exchanges) one others.are in
    subst (λ (o : Option VersionedRequest). Numbered core (cons_option o (requests_of lines)) (frame_bytes exchange.sent ++ flat_map sent_bytes exchanges) after) (sym sent.1.asks) (record {
      are = ap (λ (f : Frame). frame_bytes f ++ flat_map sent_bytes exchanges) sent.1.exchanges.sent_is ∙ ap (λ (l : List ℕ). frame_bytes (next_frame core sent.1.asked.version sent.1.asked.request) ++ l) rest;
      goes = record { client = others.goes.client ∙ one.client; next = omega (arith, others.goes.next, one.next) };
    })

pub writes_numbered : (core : Core) (lines : List (List ℕ)) (input left old_frames new_frames old_text new_text : Option (List ℕ)) (after : Core)
    → Sends core lines input left old_frames new_frames old_text new_text after → WritesNumbered core lines old_frames new_frames after
writes_numbered core lines input left old_frames new_frames old_text new_text after sends =
    let all = numbered core lines sends.exchanges after sends.sent in
    record { written = subst (Appends old_frames new_frames) all.are sends.frames; client = all.goes.client; next = all.goes.next }
