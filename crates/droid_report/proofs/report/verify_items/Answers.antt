use Rattle.droid_report.proofs.report.verify_items.Goals as goal

pub returns-in-Ok-of : goal.returns-in-Ok-of
returns-in-Ok-of c = λ records are. (
  c.in-Ok.profile.items.items,
  (c.in-Ok.ensures records are).items,
  record { sorted = c.in-Ok-of.inventory; same = c.in-Ok-of.ensures.same; in_order = c.as_slice-items.ensures.in_order },
)
