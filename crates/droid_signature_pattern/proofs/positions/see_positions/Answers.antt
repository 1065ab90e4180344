-- One more fragment, and all of them.
use Rattle.std.proofs.Common.{◌++◌, ◌∷◌, [], ◌∙◌, List, take, arith, ap, subst, sym}
use Rattle.std.specs.List.{AllByRecursion}
use Rattle.std.proofs.lemmas.List.{take_all, take_more}
use Rattle.droid_signature_file.specs.declared.subsequence.Fragment.{Fragment}
use Rattle.droid_signature_pattern.proofs.Exits.{all_append}
use Rattle.droid_signature_pattern.specs.Positions.{IsPosition}
use Rattle.droid_signature_pattern.proofs.positions.see_positions.Goals as goal

pub loop-fragment-preserved : goal.loop-fragment-preserved
loop-fragment-preserved c =
    let fragments = c.args.fragments.now in
    let i = c.loop-fragment.fragment-index in
    let fragment = c.fragment-item.result in
    let Q : List Fragment → Type 0 = λ l. AllByRecursion IsPosition l in
    subst Q (ap (λ (y : Fragment). take i fragments ++ y ∷ []) c.fragment-item.is ∙ sym (take_more fragments i fragment (omega arith)))
    (all_append IsPosition (take i fragments) (fragment ∷ []) c.loop-fragment.invariant ((omega arith, omega arith), tt))

pub returns-clause-ok : goal.returns-clause-ok
returns-clause-ok c =
    let P : List Fragment → Type 0 = λ l. AllByRecursion IsPosition l in
    record { each = subst P (take_all c.loop-fragment.fragment-index c.args.fragments.now (omega arith)) c.loop-fragment.invariant; whole = c.in_ok-see_each.ensures.ok }
