use Rattle.std.proofs.Common.{◌++◌, ℕ, List, [], ◌∷◌, codes, take, sym, subst, append-nil}
use Rattle.std.specs.List.{flat_map}
use Rattle.droid_export.specs.Csv.{line}
use Rattle.droid_export.specs.CsvBuffer.{Holds}
use Rattle.droid_terminal.specs.SkippedTexts.{entry_record}
use Rattle.droid_terminal.proofs.SkippedTexts.{texts_more}
use Rattle.droid_terminal.proofs.skipped.skipped_text.skipped_csv.Goals as goal

pub loop-entry-init : goal.loop-entry-init
loop-entry-init c =
    subst (λ (t : List ℕ). Holds c.write_pair.new.writer t) (sym (append-nil (line (codes "path" ∷ codes "reason" ∷ [])))) (c.in_ok-write_pair.ensures [] c.new_csv-writer.ensures)

pub loop-entry-preserved : goal.loop-entry-preserved
loop-entry-preserved c =
    subst (λ (t : List ℕ). Holds c.write_entry.new.writer t)
    (texts_more (λ entry. line (entry_record entry)) c.args.skipped.now c.loop-entry.entry-index c.entry-item.result (line (codes "path" ∷ codes "reason" ∷ [])) c.loop-entry-test.true c.entry-item.is)
    (c.in_ok-write_entry.ensures (line (codes "path" ∷ codes "reason" ∷ []) ++ flat_map (λ entry. line (entry_record entry)) (take c.loop-entry.entry-index c.args.skipped.now)) c.loop-entry.invariant)
