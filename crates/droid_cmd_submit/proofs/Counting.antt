-- Counting the files that were not read.
use Rattle.std.proofs.Common.{◌≡◌, ℕ, ◌+◌, ◌<◌, ◌≤◌, Bool, true, false, cond, List, [], ◌∷◌, ◌++◌, length, take, get_or, sym, ap, ◌∙◌, arith}
use Rattle.std.proofs.lemmas.List.{take_more, take_all}
use Rattle.std.proofs.lemmas.List.Sums.{sum_by-append}
use Rattle.droid_upload.specs.declared.node.Node.{Node}
use Rattle.droid_cmd_submit.specs.KnownNodes.{is_unread, unread_in}

at_most : (truth : Bool) → cond truth 1 0 ≤ 1
at_most true = omega arith
at_most false = omega arith

pub one_at_most : (node : Node) → cond (is_unread node) 1 0 ≤ 1
one_at_most node = at_most (is_unread node)

-- one node more
pub unread_more : (nodes : List Node) (at : ℕ) (node : Node) (count more : ℕ) → count ≡ unread_in (take at nodes) → more ≡ cond (is_unread node) 1 0 → at < length nodes → node ≡ get_or nodes at node
    → count + more ≡ unread_in (take (at + 1) nodes)
unread_more nodes at node count more front is within there =
    let each : Node → ℕ = λ one. cond (is_unread one) 1 0 in
    let one_more : take (at + 1) nodes ≡ take at nodes ++ node ∷ [] = take_more nodes at node within ∙ ap (λ (n : Node). take at nodes ++ n ∷ []) (sym there) in
    let sum : unread_in (take (at + 1) nodes) ≡ unread_in (take at nodes) + unread_in (node ∷ []) = ap unread_in one_more ∙ sum_by-append each (take at nodes) (node ∷ []) in
    omega (arith, front, is, sum)

pub unread_all : (nodes : List Node) (at count : ℕ) → count ≡ unread_in (take at nodes) → length nodes ≤ at → count ≡ unread_in nodes
unread_all nodes at count front over = front ∙ ap unread_in (take_all at nodes over)
