-- the rows so far were handed out
use Rattle.std.proofs.Common.{List, take}
use Rattle.std.specs.List.{flat_map}
use Rattle.droid_pronom.specs.Registry.{Contents}
use Rattle.droid_profile.specs.declared.options.Options.{Options}
use Rattle.droid_profile.specs.declared.lanes.file_row.FileRow.{FileRow}
use Rattle.droid_profile.specs.RowsTaken.{Readings, heard_of_row, records_of_row}
use Rattle.droid_profile.specs.HandedOut.{AreSettled, Hands}
use Rattle.droid_profile.proofs.delivery.hand_out.Given as goal

abbrev pub invariant-loop-row : goal.invariant-loop-row
invariant-loop-row g l = (registry : Contents) (options : Options) (readings : Readings) (first : List FileRow) → AreSettled registry options readings first l.files
    → Hands g.W.Watcher.hears g.R.Recipient.takes (flat_map (heard_of_row registry options readings first) (take l.row-index l.rows)) (flat_map (records_of_row registry options readings first) (take l.row-index l.rows)) l.whole l.fn.watcher l.watcher l.fn.recipient l.recipient
