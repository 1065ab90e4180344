use Rattle.std.proofs.Common.{◌≡◌, List, ℕ, ◌∷◌, [], map, refl, subst, sym}
use Rattle.std.specs.List.{flat_map}
use Rattle.csv.specs.Machine.{next_record}
use Rattle.csv.specs.Reading.{AreRecords, default_config, strip_bom}
use Rattle.csv.specs.declared.parser.State.TheVariants as st
use Rattle.droid_frame.specs.declared.hash_kind.HashKind.{HashKind}
use Rattle.droid_export.specs.Csv.{quoted, joined, line}
use Rattle.droid_export.specs.Rows.{Row, fields, header}
use Rattle.droid_export.specs.Text.{chosen_rows, row_text, shown_rows, text}
use Rattle.droid_export.proofs.CsvRoundTrip.{read_rows}
use Rattle.droid_export.proofs.laws.text_is_read_back.Goals as goal

-- the text begins with no byte order mark
no_mark : (hash : HashKind) (rows : List Row) → strip_bom (flat_map row_text (header hash ∷ rows)) ≡ flat_map row_text (header hash ∷ rows)
unfolding strip_bom quoted joined line
no_mark hash rows = refl

pub returns : goal.returns
unfolding text next_record
returns c = λ registry criteria hash nodes.
    subst (λ (t : List ℕ). AreRecords default_config st.StartRecord t (map fields (shown_rows registry criteria hash nodes)))
    (sym (no_mark hash (chosen_rows registry criteria nodes)))
    (st.StartRecord, [], read_rows (shown_rows registry criteria hash nodes), refl)
