use Rattle.std.proofs.Common.{rules, ◌≡◌, false, IsTrue, arith}
use Rattle.droid_journal.proofs.Openings.{begun_seen, begun_short, has_header, header_long, header_seen, is_begun}
use Rattle.droid_journal.proofs.start.beginning_in.Goals as goal

pub returns-then-not-is_same-clause-other : goal.returns-then-not-is_same-clause-other
returns-then-not-is_same-clause-other c = λ reported s is.
    let header = c.args.header.now in
    let seen = c.args.seen.now in
    let isnt : c.is_same.result ≡ false = search rules in (
      λ has. let same : IsTrue c.is_same.result = c.is_same.ensures.1 (header_seen header s seen is c.requires has) in absurd cc,
      λ count begun. let short = begun_short header s seen is c.requires count begun in absurd (omega arith),
    )

pub returns-then-seen-header-clause-begins : goal.returns-then-seen-header-clause-begins
returns-then-seen-header-clause-begins c = λ s is.
    let same : IsTrue c.is_same.result = search rules in
    has_header c.args.header.now s c.args.seen.now is c.requires (c.is_same.ensures.0 same)

pub returns-then-not-is_same-2-clause-other : goal.returns-then-not-is_same-2-clause-other
returns-then-not-is_same-2-clause-other c = λ reported s is.
    let header = c.args.header.now in
    let seen = c.args.seen.now in
    let isnt : c.is_same-2.result ≡ false = search rules in (
      λ has. let long = header_long header s seen is c.requires has in absurd (omega arith),
      λ count begun. let same : IsTrue c.is_same-2.result = c.is_same-2.ensures.1 (begun_seen header s seen is c.requires count begun) in absurd cc,
    )

pub returns-clause-begins : goal.returns-clause-begins
returns-clause-begins c = λ s is.
    let same : IsTrue c.is_same-2.result = search rules in
    is_begun c.args.header.now s c.args.seen.now is c.requires (omega arith) (c.is_same-2.ensures.0 same)
