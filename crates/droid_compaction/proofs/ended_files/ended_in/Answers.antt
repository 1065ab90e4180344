use Rattle.std.proofs.Common.{◌≡◌, sym, ap}
use Rattle.droid_journal.specs.Standing.{ahead_bytes}
use Rattle.droid_journal.specs.Chains.{first_place, key_of}
use Rattle.droid_journal.specs.declared.records.key.Key.{Key}
use Rattle.droid_compaction.proofs.Skimming.{behind_header}
use Rattle.droid_compaction.proofs.Wholes.{ahead_few}
use Rattle.droid_compaction.proofs.ended_files.ended_in.Goals as goal

pub returns-in-Ok-clause-ended : goal.returns-in-Ok-clause-ended
returns-in-Ok-clause-ended g c = λ s its here whole.
    let header = c.args.header.now in
    let ahead = whole.file_is.0 in
    (c.in-Ok.ensures.noted s (key_of header) (first_place header) its (ahead_bytes header its ahead) (sym (ap (λ (k : Key). k.form) c.key_of.ensures)) here whole.fit (ahead_few header its ahead) (behind_header header s its whole)
    (record { files_are = c.new.ensures; stamps_are = c.new-2.ensures })).files_are
