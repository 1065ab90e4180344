-- Nothing is cached yet.
use Rattle.droid_pattern.proofs.pattern.Pattern.matches_from.Goals as goal

pub begins_with-requires : goal.begins_with-requires
begins_with-requires c = c.new-classes.ensures c.args.bytes.now
