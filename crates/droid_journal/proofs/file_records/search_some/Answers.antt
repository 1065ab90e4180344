use Rattle.std.proofs.Common.{rules, ◌≡◌, ◌<◌, ◌∙◌, ℕ, List, length, take, drop, ap, subst, arith}
use Rattle.std.specs.Prelude.{◌↔◌, IsTrue}
use Rattle.std.proofs.lemmas.List.{length-take}
use Rattle.droid_journal.specs.Chains.{HasLater}
use Rattle.droid_journal.proofs.file_records.search_some.Goals as goal

pub returns-clause-later : goal.returns-clause-later
returns-clause-later g c = λ s here.
    let same : take c.in-Ok.count c.read_at.new.buffer ≡ take 16777216 (drop c.args.at s) = c.in-Ok.ensures.read s here ∙ ap (λ (n : ℕ). take n (drop c.args.at s)) c.requires.window in
    subst (λ (t : List ℕ). IsTrue c.has_later.result ↔ HasLater c.args.key c.args.at t) same c.has_later.ensures

pub returns-clause-ends : goal.returns-clause-ends
returns-clause-ends g c = λ s here short.
    let same : take c.in-Ok.count c.read_at.new.buffer ≡ take 16777216 (drop c.args.at s) = c.in-Ok.ensures.read s here ∙ ap (λ (n : ℕ). take n (drop c.args.at s)) c.requires.window in
    let below : c.in-Ok.count < 16777216 = search rules in
    omega (arith, ap length same, length-take c.in-Ok.count c.read_at.new.buffer)
