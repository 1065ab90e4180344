use Rattle.std.proofs.Common.{[], append-nil, sym, ◌∷◌}
use Rattle.droid_profile.proofs.NodePaths.{known_top}
use Rattle.droid_profile.proofs.ShownTree.{visits_shown}
use Rattle.droid_tree.specs.Paths.{top}
use Rattle.droid_profile.proofs.laws.a_tree_is_shown_as_its_profile.Goals as goal

pub returns : goal.returns
returns c = λ registry setting options visits left nodes identifies turn follow are.
    visits_shown registry setting options identifies nodes visits (top ∷ []) left nodes [] turn (known_top, tt) follow are (record { more = []; are = sym (append-nil _) })
