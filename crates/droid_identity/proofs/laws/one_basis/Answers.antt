use Rattle.droid_identity.proofs.OneBasis as lemma
use Rattle.droid_identity.proofs.laws.one_basis.Goals as goal

pub returns-clause-nearest : goal.returns-clause-nearest
returns-clause-nearest c file limit sequence one other a b = lemma.one_match file limit sequence one other a b

pub returns-clause-basis : goal.returns-clause-basis
returns-clause-basis c file limit signatures place one other a b = lemma.one_basis file limit signatures place one other a b
