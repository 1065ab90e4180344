use Rattle.droid_identity.proofs.search.first_within.Goals as goal

pub is_between-requires : goal.is_between-requires
is_between-requires c = c.new-classes.ensures c.args.bytes.now
