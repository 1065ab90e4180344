use Rattle.std.proofs.Common.{◌≡◌, List, ℕ, ap, subst}
use Rattle.droid_turns.specs.Feeding.{Feeds}
use Rattle.droid_turns.specs.Held.{Held}
use Rattle.droid_turns.specs.Parts.{came}
use Rattle.droid_turns.proofs.Ends.{few_held, no_body}
use Rattle.droid_turns.proofs.Results.{bound_of, fault_of, frame_of, stays}
use Rattle.droid_turns.proofs.Streams.{reads_on}
use Rattle.droid_turns.proofs.feeding.frame_feed.FrameFeed.take.Goals as goal

pub returns-clause-bound : goal.returns-clause-bound
returns-clause-bound c = bound_of _ _ _ c.take.result c.take.ensures.feeds

pub returns-clause-frame : goal.returns-clause-frame
returns-clause-frame c =
    let was : came c.self.inside.parts ≡ c.args.self.now.bytes = ap (λ (h : Held). h.bytes) c.self.view_is in
    frame_of _ _ _ c.take.result (subst (λ (l : List ℕ). Feeds l c.args.piece.now (came c.take.new.self) c.take.result) was c.take.ensures.feeds)

pub returns-clause-fault : goal.returns-clause-fault
returns-clause-fault c =
    let was : came c.self.inside.parts ≡ c.args.self.now.bytes = ap (λ (h : Held). h.bytes) c.self.view_is in
    fault_of _ _ _ c.take.result (subst (λ (l : List ℕ). Feeds l c.args.piece.now (came c.take.new.self) c.take.result) was c.take.ensures.feeds)

pub returns-clause-for_ever : goal.returns-clause-for_ever
returns-clause-for_ever c = λ fault other faulty.
    let was : came c.self.inside.parts ≡ c.args.self.now.bytes = ap (λ (h : Held). h.bytes) c.self.view_is in
    stays _ _ _ c.take.result fault (subst (λ (l : List ℕ). Feeds l c.args.piece.now (came c.take.new.self) c.take.result) was c.take.ensures.feeds) other faulty

pub returns-clause-rest : goal.returns-clause-rest
returns-clause-rest c = c.take.ensures.between.no_frame

pub returns-clause-memory : goal.returns-clause-memory
returns-clause-memory c = λ few. no_body c.take.new.self c.take.ensures.between c.take.ensures.sized few

pub returns-clause-reads : goal.returns-clause-reads
returns-clause-reads c = λ stream frames reads.
    let was : came c.self.inside.parts ≡ c.args.self.now.bytes = ap (λ (h : Held). h.bytes) c.self.view_is in
    reads_on stream _ _ _ frames c.take.result reads c.take.ensures.between.no_frame (subst (λ (l : List ℕ). Feeds l c.args.piece.now (came c.take.new.self) c.take.result) was c.take.ensures.feeds)

pub returns-clause-limit : goal.returns-clause-limit
returns-clause-limit c = few_held c.take.new.self c.take.ensures.between
