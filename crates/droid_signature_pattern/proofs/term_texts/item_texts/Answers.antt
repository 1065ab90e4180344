-- An item that one pattern stands for.
use Rattle.std.proofs.Common.{sym, ◌∙◌}
use Rattle.droid_signature_pattern.specs.TermValues.{atom_of}
use Rattle.droid_signature_pattern.proofs.TermLevels.{one_atom, other_item}
use Rattle.droid_signature_pattern.proofs.term_texts.item_texts.Goals as goal

pub returns-in_ok-texts-in-Byte-clause-ok : goal.returns-in_ok-texts-in-Byte-clause-ok
returns-in_ok-texts-in-Byte-clause-ok c = c.in_ok-texts-in-Byte.ensures ∙ sym (one_atom (atom_of c.args.item.now) (other_item c.args.item.now c.in-Byte.is))
