-- One more ID.
use Rattle.std.specs.BTreeMap.{get_by}
use Rattle.std.specs.Ordering.{nat_cmp}
use Rattle.droid_signature.proofs.Naming.{named_push}
use Rattle.droid_signature.proofs.nameless_signatures.Named.note.Goals as goal

pub returns : goal.returns
returns c = λ ids are. record { each = λ q. named_push ids c.args.id q (get_by (nat_cmp q) c.args.self.now.ids) (get_by (nat_cmp q) c.insert.new.self) (c.in_ok-insert.ensures.updates.0 q) (are.each q) }
