use Rattle.std.proofs.Common.{◌≡◌, ◌∙◌, ℕ, List, ◌+◌, ◌%◌, ◌++◌, ◌∷◌, [], Option, None, Some, length, set, sym, ap, arith, length-set, length-append}
use Rattle.std.specs.List.{concat}
use Rattle.std.proofs.lemmas.List.{set-get_or, append-nil}
use Rattle.std.proofs.lemmas.List.Folds.{concat-append}
use Rattle.droid_assembly.specs.State.{slot}
use Rattle.droid_assembly.proofs.Along.{placed-step, passed-step, emptied-step}
use Rattle.droid_assembly.proofs.places.gather.Goals as goal

pub loop-index-preserved : goal.loop-index-preserved
loop-index-preserved c =
    let now = c.loop-index in
    let out = c.in-Some.ensures.places in
    let bytes = c.in-Some.bytes in
    let at : slot now.waiting now.index ≡ Some bytes = sym c.in-Some.ensures.piece in
    let one_more : length c.push.new.self ≡ length now.several + 1 = omega (arith, ap length c.push.ensures, length-append now.several (bytes ∷ [])) in
    let longer : length (concat c.push.new.self) ≡ length (concat now.several) + length bytes =
    ap (λ several. length (concat several)) c.push.ensures
    ∙ ap length (concat-append now.several (bytes ∷ []))
    ∙ length-append (concat now.several) (bytes ++ [])
    ∙ ap (λ last. length (concat now.several) + length last) (append-nil bytes) in
    record {
      places = omega (arith, ap length out, now.invariant.places, length-set {A = Option (List ℕ)});
      next = omega (arith, one_more, now.invariant.next);
      total = omega (arith, longer, now.invariant.total, c.len.ensures);
      placed = λ pieces total count begun.
          rw out (placed-step now.waiting now.index pieces total count bytes now.invariant.places at (now.invariant.placed pieces total count begun));
      passed = λ pieces total count begun.
          rw (one_more, c.push.ensures)
          (passed-step now.waiting c.args.from (length now.several) now.index pieces total count bytes now.several now.invariant.next at (now.invariant.placed pieces total count begun) (now.invariant.passed pieces total count begun));
      emptied = rw out (emptied-step now.waiting c.args.from now.index now.invariant.places now.invariant.emptied);
    }

pub returns-in-None-clause-placed : goal.returns-in-None-clause-placed
returns-in-None-clause-placed c pieces total count begun =
    let now = c.loop-index in
    let same : c.take_out.new.waiting ≡ now.waiting =
    c.in-None.ensures.places ∙ ap (λ place. set now.waiting (now.index % 16) place) c.in-None.ensures.piece ∙ set-get_or now.waiting (now.index % 16) None in
    rw (same, now.invariant.next) (now.invariant.placed pieces total count begun)

pub returns-clause-placed : goal.returns-clause-placed
returns-clause-placed c pieces total count begun =
    rw c.loop-index.invariant.next (c.loop-index.invariant.placed pieces total count begun)
