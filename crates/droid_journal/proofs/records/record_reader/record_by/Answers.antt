use Rattle.std.proofs.Common.{◌≡◌, ◌+◌, ◌≤◌, ℕ, List, Some, length, sym, arith}
use Rattle.droid_journal.specs.Records.{made, place_after, record_bytes}
use Rattle.droid_journal.specs.Reading.{record_at}
use Rattle.droid_journal.specs.declared.records.key.Key.{Key}
use Rattle.droid_journal.specs.declared.records.place.Place.{Place}
use Rattle.droid_journal.proofs.Bytes.{IsBytes}
use Rattle.droid_journal.proofs.Chains.{place_same}
use Rattle.droid_journal.proofs.RecordLaws.{Answer, begins_none, read_size, record_takes}
use Rattle.droid_journal.proofs.records.record_reader.record_by.Goals as goal

-- the sizes of what was read
sizes : (key : Key) (place : Place) (bytes : List ℕ) (x : Answer) → IsBytes bytes → record_at key place bytes ≡ Some x
    → (length bytes ≡ length (record_bytes key place x.0) + length x.2) × (1 ≤ length (record_bytes key place x.0))
sizes key place bytes x small read = let taken = record_takes key place bytes x small read in read_size key place bytes x.0 x.2 taken.begins.parts

pub returns-in_default-clause-none : goal.returns-in_default-clause-none
returns-in_default-clause-none c = begins_none c.args.key c.args.place c.args.bytes.now c.in_default.ensures.read

pub overflow_sub-size : goal.overflow_sub-size
overflow_sub-size c =
    let read = c.in-Some.read in
    let x : Answer = (made read.first read.request.now read.reply.now, read.check, read.rest.now) in
    let size = sizes c.args.key c.args.place c.args.bytes.now x (λ i. omega (arith, c.type_inv.bytes i)) c.in-Some.ensures.read in
    omega (arith, size.0)

pub overflow_add-after-2 : goal.overflow_add-after-2
overflow_add-after-2 c =
    let read = c.in-Some.read in
    let x : Answer = (made read.first read.request.now read.reply.now, read.check, read.rest.now) in
    let size = sizes c.args.key c.args.place c.args.bytes.now x (λ i. omega (arith, c.type_inv.bytes i)) c.in-Some.ensures.read in
    record { fits = omega (arith, size.0, size.1, c.requires.records) }

pub returns-clause-found : goal.returns-clause-found
returns-clause-found c =
    let key = c.args.key in
    let place = c.args.place in
    let bytes = c.args.bytes.now in
    let read = c.in-Some.read in
    let x : Answer = (made read.first read.request.now read.reply.now, read.check, read.rest.now) in
    let taken = record_takes key place bytes x (λ i. omega (arith, c.type_inv.bytes i)) c.in-Some.ensures.read in
    let size = read_size key place bytes x.0 x.2 taken.begins.parts in
    record { parts = taken.begins.parts; fits = taken.begins.fits; after_is = place_same _ (place_after key place x.0) (omega (arith, size.0)) taken.check_is (omega arith) }
