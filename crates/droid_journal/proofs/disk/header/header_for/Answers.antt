use Rattle.std.proofs.Common.{rules, ◌≡◌, ◌∙◌, ◌++◌, ℕ, List, length, take, drop, ap}
use Rattle.droid_journal.proofs.HeaderLaws.{begun_header, whole_header}
use Rattle.droid_journal.proofs.disk.header.header_for.Goals as goal

pub returns-clause-whole : goal.returns-clause-whole
returns-clause-whole g c = λ s here long front.
    let fixed = c.args.fixed.now in
    let fresh = c.args.fresh.now in
    let header = c.extend_from_slice.new.self.items in
    let full : length fresh ≡ 16 = search rules in
    let text : header ≡ fixed ++ (take 16 (drop (length fixed) s) ++ drop (length (take 16 (drop (length fixed) s))) fresh) =
    c.in_ok-extend_from_slice.ensures.items ∙ ap (λ (t : List ℕ). t ++ c.in-Ok.random) c.in_ok-header.ensures.items ∙ ap (λ (t : List ℕ). fixed ++ t) (c.in-Ok.ensures s here) in
    whole_header fixed s fresh header full text long front

pub returns-clause-begun : goal.returns-clause-begun
returns-clause-begun g c = λ s here short fronts.
    let fixed = c.args.fixed.now in
    let fresh = c.args.fresh.now in
    let header = c.extend_from_slice.new.self.items in
    let full : length fresh ≡ 16 = search rules in
    let text : header ≡ fixed ++ (take 16 (drop (length fixed) s) ++ drop (length (take 16 (drop (length fixed) s))) fresh) =
    c.in_ok-extend_from_slice.ensures.items ∙ ap (λ (t : List ℕ). t ++ c.in-Ok.random) c.in_ok-header.ensures.items ∙ ap (λ (t : List ℕ). fixed ++ t) (c.in-Ok.ensures s here) in
    begun_header fixed s fresh header full text short fronts
