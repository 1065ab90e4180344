-- No cell, one more, and all of them.
use Rattle.std.proofs.Common.{◌≡◌, ◌++◌, ◌+◌, ◌∷◌, [], take, take_all, sym, ap, ◌∙◌, arith}
use Rattle.std.proofs.lemmas.List.{append-nil, take_more}
use Rattle.droid_pattern.proofs.StarLemmas.{token_more}
use Rattle.droid_pattern.proofs.compact_form.pack.Goals as goal

pub loop-token-preserved : goal.loop-token-preserved
loop-token-preserved c =
    let tokens = c.args.tokens.now in
    let i = c.loop-token.token-index in
    let token = c.token-item.result in
    let next : take (i + 1) tokens ≡ take i tokens ++ token ∷ [] = take_more tokens i token (omega arith) ∙ ap (λ x. take i tokens ++ x ∷ []) (sym c.token-item.is) in
    rw next (
    token_more c.loop-token.pool.items c.put.new.pool.items c.loop-token.cells.items c.add.new.cells.items (take i tokens) c.in_ok-cell.cell token
    c.in_ok-cell.ensures.grown c.in_ok-cell.ensures.one c.in_ok-cell.ensures.stays c.in_ok-add.ensures c.loop-token.invariant
    )

pub returns : goal.returns
returns c =
    let tokens = c.args.tokens.now in
    let i = c.loop-token.token-index in
    let all = c.loop-token.invariant [] in
    rw (take_all i tokens (omega arith), append-nil c.loop-token.pool.items) at all
