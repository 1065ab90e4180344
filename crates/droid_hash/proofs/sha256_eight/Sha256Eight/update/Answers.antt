use Rattle.std.proofs.Common.{ℕ, List, ◌++◌, lit<}
use Rattle.droid_hash.specs.Sha256.{Holds}
use Rattle.droid_hash.proofs.Eight.{below_eight, of_element}
use Rattle.droid_hash.specs.Halves.{HoldsOf}
use Rattle.droid_hash.proofs.sha256_eight.Sha256Eight.update.Goals as goal

pub returns : goal.returns
unfolding HoldsOf
returns c = below_eight _
    (λ m held. of_element (λ x. x.now) (λ (p : List ℕ). Holds c.update.new.self 0 (m ++ p)) c.args.pieces 0 _ (c.update.ensures 0 (lit< tt) m held))
    (λ m held. of_element (λ x. x.now) (λ (p : List ℕ). Holds c.update.new.self 1 (m ++ p)) c.args.pieces 1 _ (c.update.ensures 1 (lit< tt) m held))
    (λ m held. of_element (λ x. x.now) (λ (p : List ℕ). Holds c.update.new.self 2 (m ++ p)) c.args.pieces 2 _ (c.update.ensures 2 (lit< tt) m held))
    (λ m held. of_element (λ x. x.now) (λ (p : List ℕ). Holds c.update.new.self 3 (m ++ p)) c.args.pieces 3 _ (c.update.ensures 3 (lit< tt) m held))
    (λ m held. of_element (λ x. x.now) (λ (p : List ℕ). Holds c.update-2.new.self 0 (m ++ p)) c.args.pieces 4 _ (c.update-2.ensures 0 (lit< tt) m held))
    (λ m held. of_element (λ x. x.now) (λ (p : List ℕ). Holds c.update-2.new.self 1 (m ++ p)) c.args.pieces 5 _ (c.update-2.ensures 1 (lit< tt) m held))
    (λ m held. of_element (λ x. x.now) (λ (p : List ℕ). Holds c.update-2.new.self 2 (m ++ p)) c.args.pieces 6 _ (c.update-2.ensures 2 (lit< tt) m held))
    (λ m held. of_element (λ x. x.now) (λ (p : List ℕ). Holds c.update-2.new.self 3 (m ++ p)) c.args.pieces 7 _ (c.update-2.ensures 3 (lit< tt) m held))
