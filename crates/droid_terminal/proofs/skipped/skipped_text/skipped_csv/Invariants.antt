use Rattle.std.proofs.Common.{◌++◌, [], ◌∷◌, codes, take}
use Rattle.std.specs.List.{flat_map}
use Rattle.droid_export.specs.Csv.{line}
use Rattle.droid_export.specs.CsvBuffer.{Holds}
use Rattle.droid_terminal.specs.SkippedTexts.{entry_record}
use Rattle.droid_terminal.proofs.skipped.skipped_text.skipped_csv.Given as goal

abbrev pub invariant-loop-entry : goal.invariant-loop-entry
invariant-loop-entry l = Holds l.writer (line (codes "path" ∷ codes "reason" ∷ []) ++ flat_map (λ entry. line (entry_record entry)) (take l.entry-index l.skipped))
