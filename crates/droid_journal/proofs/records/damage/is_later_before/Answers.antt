use Rattle.std.proofs.Common.{rules, ◌≡◌, ◌∙◌, ℕ, List, get_or, take, drop, Some, None, sym, ap, ap₂, subst, arith}
use Rattle.std.specs.Prelude.{IsTrue}
use Rattle.droid_journal.specs.Chains.{place_with}
use Rattle.droid_journal.specs.Records.{made, sealed}
use Rattle.droid_journal.specs.Reading.{record_at}
use Rattle.droid_journal.specs.declared.records.place.Place.{Place}
use Rattle.droid_journal.proofs.RecordLaws.{Answer, later_byte, later_found, later_first, later_none, later_sealed, later_short}
use Rattle.droid_journal.proofs.records.damage.is_later_before.Goals as goal

pub returns-then-bytes-le-CHECK : goal.returns-then-bytes-le-CHECK
returns-then-bytes-le-CHECK c = (λ is. absurd cc, λ later. absurd (later_short c.args.key c.args.bytes.now (omega arith) later))

pub returns-then-bytes-ne1 : goal.returns-then-bytes-ne1
returns-then-bytes-ne1 c = (
  λ is. absurd cc,
  λ later. absurd (let byte : get_or c.args.bytes.now 16 0 ≡ 1 = later_byte c.args.key c.args.bytes.now later in omega arith),
)

pub returns-then-not-is_sealed : goal.returns-then-not-is_sealed
returns-then-not-is_sealed c = (
  λ is. absurd cc,
  λ later.
      let was = later_sealed c.args.key c.args.bytes.now later in
      let shown : IsTrue c.is_sealed.result = c.is_sealed.ensures.1 (subst (λ (t : List ℕ). t ≡ sealed c.args.key.start (take 12 t)) (sym c.split_at.ensures.front) was) in
      absurd cc,
)

pub returns-in-Some : goal.returns-in-Some
returns-in-Some c =
    let key = c.args.key in
    let bytes = c.args.bytes.now in
    let x : Answer = (made c.in-Some.found.first c.in-Some.found.request.now c.in-Some.found.reply.now, c.in-Some.found.after.check, c.in-Some.found.rest.now) in
    let there = ap (λ (front : List ℕ). place_with front) (sym c.split_at.ensures.front) ∙ sym c.place_behind.ensures in
    let read : record_at key (place_with (take 16 bytes)) (drop 16 bytes) ≡ Some x = ap₂ (λ (place : Place) (behind : List ℕ). record_at key place behind) there (sym c.split_at.ensures.back) ∙ c.in-Some.ensures.read in
    let shown : IsTrue c.is_sealed.result = search rules in
    let is_sealed : take 16 bytes ≡ sealed key.start (take 12 (take 16 bytes)) =
    subst (λ (t : List ℕ). t ≡ sealed key.start (take 12 t)) c.split_at.ensures.front (c.is_sealed.ensures.0 shown) in (
      λ first. later_found key bytes x (λ i. omega (arith, c.type_inv.bytes i)) (omega arith) is_sealed read first,
      λ later. later_first key bytes x read later,
    )

pub returns-in-None : goal.returns-in-None
returns-in-None c =
    let key = c.args.key in
    let bytes = c.args.bytes.now in
    let there = ap (λ (front : List ℕ). place_with front) (sym c.split_at.ensures.front) ∙ sym c.place_behind.ensures in
    let read : record_at key (place_with (take 16 bytes)) (drop 16 bytes) ≡ None = ap₂ (λ (place : Place) (behind : List ℕ). record_at key place behind) there (sym c.split_at.ensures.back) ∙ c.in-None.ensures.read in (
      λ is. absurd cc,
      λ later. absurd (later_none key bytes read later),
    )
