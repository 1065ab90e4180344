-- One more fragment, one that is not read, and all of them.
use Rattle.std.proofs.Common.{inl, inr, arith, subst, List}
use Rattle.std.proofs.lemmas.List.{take_all}
use Rattle.droid_signature_file.specs.declared.subsequence.Fragment.{Fragment}
use Rattle.droid_signature_pattern.proofs.Exits.{any_at, left_out, passed_on}
use Rattle.droid_signature_pattern.specs.Parts.{AreReadFragments}
use Rattle.droid_signature_pattern.specs.Reasons.{IsReasonOfFragment, IsReasonOfSide}
use Rattle.droid_signature_pattern.proofs.ReadTexts.{fragments_more}
use Rattle.droid_signature_pattern.proofs.sequence_reader.read_fragments.Goals as goal

pub returns-in_err-see_positions-clause-err : goal.returns-in_err-see_positions-clause-err
returns-in_err-see_positions-clause-err c = left_out (IsReasonOfSide c.args.fragments.now) c.from_residual.result _ c.from_residual.ensures.1 (inl c.in_err-see_positions.ensures.err)

pub returns-in_err-more-clause-err : goal.returns-in_err-more-clause-err
returns-in_err-more-clause-err c = passed_on (IsReasonOfSide c.args.fragments.now) (λ reason. IsReasonOfFragment reason c.fragment-item.result) c.from_residual-in_err-more.result _ c.from_residual-in_err-more.ensures.1
    (λ reason h. inr (any_at (IsReasonOfFragment reason) c.args.fragments.now c.loop-fragment.fragment-index c.fragment-item.result (omega arith) c.fragment-item.is h)) c.in_err-more.ensures.err

pub loop-fragment-preserved : goal.loop-fragment-preserved
loop-fragment-preserved c = fragments_more c.args.fragments.now c.loop-fragment.fragment-index c.fragment-item.result c.loop-fragment.read.items c.push.new.self.items c.in_ok-more.more (omega arith) c.fragment-item.is
    c.loop-fragment.invariant c.in_ok-more.ensures.ok c.in_ok-push.ensures.items

pub returns-clause-ok : goal.returns-clause-ok
returns-clause-ok c =
    let P : List Fragment → Type 0 = λ l. AreReadFragments l c.loop-fragment.read.items in
    subst P (take_all c.loop-fragment.fragment-index c.args.fragments.now (omega arith)) c.loop-fragment.invariant
