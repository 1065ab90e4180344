-- One more byte sequence, one that a registry cannot hold, and all of them.
use Rattle.std.proofs.Common.{◌≡◌, ℕ, ◌+◌, ◌*◌, ◌<◌, ◌≤◌, List, length, inl, inr, refl, sym, ap, ◌∙◌, subst, arith}
use Rattle.std.proofs.lemmas.Bool.{eqb-false}
use Rattle.std.proofs.lemmas.List.{take_all}
use Rattle.droid_signature_file.specs.Records.{ByteSequenceRecord}
use Rattle.droid_signature_pattern.proofs.Exits.{any_at, passed_on}
use Rattle.droid_signature_pattern.specs.Choices.{AreAllTaken, IsReasonOf, ways}
use Rattle.droid_signature_pattern.specs.Reasons.{IsReasonOfOne}
use Rattle.droid_signature_pattern.proofs.Ways.{taken_more, ways_more}
use Rattle.droid_signature_pattern.proofs.choices.choices_of_sequences.Goals as goal

pub returns-in_err-choices-clause-left_out : goal.returns-in_err-choices-clause-left_out
returns-in_err-choices-clause-left_out c = passed_on (IsReasonOf c.args.sequences.now) (λ reason. IsReasonOfOne reason c.sequence-item.result) c.from_residual.result _ c.from_residual.ensures.1
    (λ reason h. inr (inr (any_at (IsReasonOfOne reason) c.args.sequences.now c.loop-sequence.sequence-index c.sequence-item.result (omega arith) c.sequence-item.is h))) c.in_err-choices.ensures.left_out

pub loop-sequence-preserved : goal.loop-sequence-preserved
loop-sequence-preserved c =
    let i = c.loop-sequence.sequence-index in
    let taken = c.in_ok-choices.choices in (
      taken_more c.args.sequences.now i c.sequence-item.result c.loop-sequence.all.items c.push.new.self.items taken (omega arith) c.sequence-item.is c.loop-sequence.invariant.0 c.in_ok-choices.ensures.taken c.in_ok-push.ensures.items,
      ways_more c.loop-sequence.all.items c.push.new.self.items taken c.loop-sequence.count _ c.in_ok-push.ensures.items c.loop-sequence.invariant.1 (ap (λ n. c.loop-sequence.count * n) c.len-count.ensures),
      omega arith,
      c.in_ok-push.ensures.len ∙ ap (λ n. n + 1) c.loop-sequence.invariant.3,
    )

pub returns-clause-taken : goal.returns-clause-taken
returns-clause-taken c =
    let P : List ByteSequenceRecord → Type 0 = λ l. AreAllTaken l c.loop-sequence.all.items in
    let Q : ℕ → Type 0 = λ n. n ≤ 64 in
    let some = eqb-false (length c.args.sequences.now) 0 (sym c.if-is_empty.ensures) in
    let counted = c.loop-sequence.invariant.3 in
    record {
      some = omega (arith, c.loop-sequence.all.ok);
      each = subst P (take_all c.loop-sequence.sequence-index c.args.sequences.now (omega arith)) c.loop-sequence.invariant.0;
      few = subst Q c.loop-sequence.invariant.1 c.loop-sequence.invariant.2;
    }

pub returns-then-count-gt-MOST_WAYS-clause-left_out : goal.returns-then-count-gt-MOST_WAYS-clause-left_out
returns-then-count-gt-MOST_WAYS-clause-left_out c =
    let i = c.loop-sequence.sequence-index in
    let taken = c.in_ok-choices.choices in
    let new = c.push.new.self.items in
    let product = c.loop-sequence.count * c.len-count.result in
    let counted : product ≡ ways new = ways_more c.loop-sequence.all.items new taken c.loop-sequence.count product c.in_ok-push.ensures.items c.loop-sequence.invariant.1 (ap (λ n. c.loop-sequence.count * n) c.len-count.ensures) in
    let Q : ℕ → Type 0 = λ n. 64 < n in
    inr (inl (
      refl,
      record {
        count = i + 1;
        all = new;
        each = taken_more c.args.sequences.now i c.sequence-item.result c.loop-sequence.all.items new taken (omega arith) c.sequence-item.is c.loop-sequence.invariant.0 c.in_ok-choices.ensures.taken c.in_ok-push.ensures.items;
        many = subst Q counted (omega arith);
      },
    ))
