-- One more has an ID.
use Rattle.std.specs.BTreeMap.{get_by}
use Rattle.std.specs.Ordering.{nat_cmp}
use Rattle.droid_signature.proofs.Holdings.{noted}
use Rattle.droid_signature.proofs.ids.Ids.note.Goals as goal

pub returns : goal.returns
returns c = λ ids are at. record {
  each = λ q. noted c.args.id q c.args.place ids c.one_more-holder.result c.holder.result (get_by (nat_cmp q) c.args.self.now.holders) (get_by (nat_cmp q) c.insert.new.self) (c.in_ok-insert.ensures.updates.0 q)
      (are.each q) c.one_more-holder.ensures (c.holder.ensures ids are) at;
}
