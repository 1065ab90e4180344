-- One more at its place.
use Rattle.std.proofs.Common.{◌∙◌, ◌+◌, ◌-◌, ◌^◌, ◌==◌, min, cond, ap}
use Rattle.std.specs.BTreeMap.{get_by}
use Rattle.std.specs.Ordering.{nat_cmp}
use Rattle.droid_signature.specs.AllLeftOut.{count_at}
use Rattle.droid_signature.proofs.Omitting.{added}
use Rattle.droid_signature.proofs.omissions.Counts.add.Goals as goal

pub returns : goal.returns
returns c =
    let place = c.args.place in
    let old = c.args.self.now in
    record {
      each = λ q.
          added place q c.one_more-count.result (get_by (nat_cmp q) old.counts) (get_by (nat_cmp q) c.insert.new.self) (c.in_ok-insert.ensures.updates.0 q)
          ∙ ap (λ n. cond (place == q) n (count_at old q)) (c.one_more-count.ensures ∙ ap (λ n. min (n + 1) (2 ^ 64 - 1)) c.at.ensures);
    }
