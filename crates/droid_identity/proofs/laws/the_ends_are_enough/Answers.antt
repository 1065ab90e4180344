use Rattle.droid_identity.proofs.FileLemmas.{hits_same, nearest_same, basis_same}
use Rattle.droid_identity.proofs.laws.the_ends_are_enough.Goals as goal

pub returns-clause-hits : goal.returns-clause-hits
returns-clause-hits c file first last limit ends sequence = hits_same file first last limit ends sequence

pub returns-clause-nearest : goal.returns-clause-nearest
returns-clause-nearest c file first last limit ends sequence its is = nearest_same file first last limit ends sequence its is

pub returns-clause-basis : goal.returns-clause-basis
returns-clause-basis c file first last limit ends signatures place its is = basis_same file first last limit ends signatures place its is
