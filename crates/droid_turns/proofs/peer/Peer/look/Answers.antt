use Rattle.std.proofs.Common.{◌≡◌, ◌≤◌, false, true, length, sym, subst, ◌∙◌, arith, inl, inr}
use Rattle.std.proofs.lemmas.Bool.{and_from, cases_Bool, false≢true, lt-ltb}
use Rattle.droid_turns.specs.Peers.{Looks, has_bytes, may_be_read}
use Rattle.droid_turns.proofs.Moments.{moves_as, moves_none}
use Rattle.droid_turns.proofs.ReadSteps.{has_from, looks_none}
use Rattle.droid_turns.proofs.peer.Peer.look.Goals as goal

-- it may not be read
pub returns-then-not-may_be_read-clause-looks : goal.returns-then-not-may_be_read-clause-looks
returns-then-not-may_be_read-clause-looks g c =
    let old = c.args.self.now in
    let new = record old { drained = false; read = 0 } in
    moves_none g.C.Connections.does c.args.connections.now (Looks c.args.now old new) (looks_none c.args.now old (λ none. c.may_be_read.ensures.rests c.if-not-may_be_read.true))

-- bytes of it wait
pub returns-then-self-clause-looks : goal.returns-then-self-clause-looks
returns-then-self-clause-looks g c =
    let old = c.args.self.now in
    let new = record old { drained = false; read = 0 } in
    let may : may_be_read old ≡ true = sym c.may_be_read.ensures.is ∙ c.if-not-may_be_read.false in
    let has : has_bytes old ≡ true = and_from (may_be_read old) _ may (lt-ltb old.start old.end (omega (arith, c.if-self.true))) in
    moves_none g.C.Connections.does c.args.connections.now (Looks c.args.now old new) (looks_none c.args.now old (λ none. absurd (false≢true (sym none ∙ has))))

-- it was read
pub returns-clause-looks : goal.returns-clause-looks
returns-clause-looks g c =
    let old = c.args.self.now in
    let new = c.receive.new.self in
    moves_as g.C.Connections.does c.args.connections.now c.receive.new.connections _ (Looks c.args.now old new)
    (λ steps so. record {
      goes = so.0;
      turns = so.1;
      few = omega (arith, c.receive.ensures.bound);
      dry = so.2;
      rests = λ none. elim (cases_Bool c.receive.result) [
        | inl came ↦
            let on = c.receive.ensures.goes_on came in
            absurd (false≢true (sym none ∙ has_from new on.0 (subst (λ q. length q.bytes ≤ 8388608) (sym c.receive.ensures.queue) (c.may_be_read.ensures.few c.if-not-may_be_read.false)) on.3))
        | inr nothing ↦ c.receive.ensures.rests nothing
      ];
      counted = c.receive.ensures.frames;
    }) c.receive.ensures.moves
