use Rattle.std.proofs.Common.{◌∙◌, ◌++◌, take, length, refl, ap, arith}
use Rattle.droid_assembly.specs.Pieces.{last_window}
use Rattle.droid_assembly.proofs.Ends.{first_more, last-last}
use Rattle.droid_assembly.proofs.front.Front.take.Goals as goal

pub returns-clause-knows : goal.returns-clause-knows
returns-clause-knows c before knows =
    let front = c.args.self.now in
    let bytes = c.args.bytes.now in
    record {
      begun = c.append.ensures.items
          ∙ ap (λ first. first ++ take c.min-count.result bytes) knows.begun
          ∙ first_more front.width c.min-count.result before bytes (before ++ bytes) refl (omega (arith, ap length knows.begun));
      ended = ap (λ buffer. buffer.items) c.extend_from_slice.ensures
          ∙ ap (λ w. last_window w (front.last.items ++ bytes)) c.requires.same_width
          ∙ ap (λ last. last_window front.width (last ++ bytes)) knows.ended
          ∙ last-last front.width before bytes;
      hashed = c.update.ensures.holds before knows.hashed;
    }
