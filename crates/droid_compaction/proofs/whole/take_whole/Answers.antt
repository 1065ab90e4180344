use Rattle.std.proofs.Common.{rules, ◌≡◌, [], ap, subst, arith}
use Rattle.std.specs.Prelude.{IsTrue}
use Rattle.droid_journal.specs.Opening.{HasHeader}
use Rattle.droid_journal.specs.declared.records.place.Place.{Place}
use Rattle.droid_compaction.specs.Shortening.{HasBehind}
use Rattle.droid_compaction.proofs.Wholes.{behind, size_is, whole}
use Rattle.droid_compaction.proofs.whole.take_whole.Goals as goal

pub take_all-requires-clause-count : goal.take_all-requires-clause-count
take_all-requires-clause-count g c =
    let none : c.first_place-from.result.records ≡ 0 = ap (λ (p : Place). p.records) c.first_place-from.ensures in
    omega (arith, none)

pub returns-clause-whole : goal.returns-clause-whole
returns-clause-whole g c = λ s here.
    let shown : IsTrue c.in-Ok.has = search rules in
    let has : HasHeader c.args.header.now s = (c.in-Ok.ensures.header s here).0 shown in
    let p = c.in-Ok-take_all.ensures.passes in
    let ahead = c.in-Some.ahead in
    let end = (rw c.in-Some.is at (c.in-Ok-end_at.ensures.there s here)) in
    let form = (rw c.in-Some.is at c.in-Ok-end_at.ensures.form) in (
      p.0,
      whole g.T.Taker.took c.args.header.now s c.key_of-key.result c.key_of-key.ensures c.args.taker.now c.take_all.new.taker c.first_place-from.result c.in-Ok-take_all.to p.0 c.first_place-from.ensures has p.1 (p.2 s here) ahead end form,
      λ setting st. p.1.taken setting [] st,
      size_is g.T.Taker.took c.args.header.now s c.key_of-key.result c.key_of-key.ensures c.args.taker.now c.take_all.new.taker c.first_place-from.result c.in-Ok-take_all.to p.0 c.first_place-from.ensures has p.1 (p.2 s here) ahead end form c.in-Some-size_of.bytes c.in-Some-size_of.ensures,
    )

pub returns-in_default-clause-behind : goal.returns-in_default-clause-behind
returns-in_default-clause-behind g c = λ n shown s here.
    let same : c.in-Ok-take_all.to.records ≡ n = cc in
    let yes_has : IsTrue c.in-Ok.has = search rules in
    let has : HasHeader c.args.header.now s = (c.in-Ok.ensures.header s here).0 yes_has in
    let p = c.in-Ok-take_all.ensures.passes in
    let other = (rw c.in_default.is at (c.in-Ok-end_at.ensures.other s here)) in
    subst (HasBehind c.args.header.now s) same (behind g.T.Taker.took c.args.header.now s c.key_of-key.result c.key_of-key.ensures c.args.taker.now c.take_all.new.taker c.first_place-from.result c.in-Ok-take_all.to p.0 c.first_place-from.ensures has p.1 (p.2 s here) other.0 other.1)
