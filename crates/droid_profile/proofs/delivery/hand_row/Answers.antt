use Rattle.std.proofs.Common.{◌<◌, List, [], ◌∷◌, length, Option, refl, sym, subst}
use Rattle.std.proofs.lemmas.Option.{slice_get_read}
use Rattle.std.proofs.lemmas.Result.{err_from_is_err_and}
use Rattle.droid_tree.specs.Heard.{TookFolder}
use Rattle.droid_profile.specs.declared.lanes.file_row.FileRow.{FileRow}
use Rattle.droid_profile.specs.RowsTaken.{IsReady, heard_at, heard_of_row, records_at, records_of_row}
use Rattle.droid_profile.specs.declared.walk.row.Row.{Row}
use Rattle.droid_profile.specs.HandedOut.{Hands, HandsFront}
use Rattle.droid_profile.proofs.FileHanded.{front_of_recipient}
use Rattle.droid_profile.proofs.delivery.hand_row.Goals as goal

pub returns-in_err-give-in-Folder-clause-ended : goal.returns-in_err-give-in-Folder-clause-ended
returns-in_err-give-in-Folder-clause-ended g c =
    let hears = g.W.Watcher.hears in
    let takes = g.R.Recipient.takes in
    let fails = g.R.Recipient.fails in
    let files : List FileRow = c.args.files.now in
    let fault = err_from_is_err_and c.from_residual.result c.from_residual.ensures.1 in
    let failed = c.in_err-give-in-Folder.ensures.failed in
    rw (fault.1, fault.2) (λ registry options readings first settled.
    subst (λ (row : Row). HandsFront hears takes fails (heard_of_row registry options readings first row) (records_of_row registry options readings first row) c.in_err-give-in-Folder.field-0.0 c.args.watcher.now c.args.watcher.now c.args.recipient.now c.give.new.recipient) (sym c.in-Folder.is)
    (front_of_recipient hears takes fails (TookFolder c.in-Folder.record.path ∷ []) c.in-Folder.record [] failed.0 c.in_err-give-in-Folder.field-0.0 c.args.watcher.now c.args.recipient.now c.give.new.recipient failed.1 failed.2))

pub returns-in_err-kept-in-File-clause-ended : goal.returns-in_err-kept-in-File-clause-ended
returns-in_err-kept-in-File-clause-ended g c =
    let hears = g.W.Watcher.hears in
    let takes = g.R.Recipient.takes in
    let fails = g.R.Recipient.fails in
    let files : List FileRow = c.args.files.now in
    let within : c.in-File.place < length files = subst (IsReady (length files)) c.in-File.is c.requires.ready in
    let fault = err_from_is_err_and c.from_residual-in_err-kept-in-File.result c.from_residual-in_err-kept-in-File.ensures.1 in
    rw (fault.1, fault.2) (λ registry options readings first settled.
    let read = settled.each c.in-File.place c.index-files-place.result (slice_get_read files (length files) c.in-File.place c.index-files-place.result refl within c.index-files-place.is) in
    subst (λ (row : Row). HandsFront hears takes fails (heard_of_row registry options readings first row) (records_of_row registry options readings first row) c.in_err-kept-in-File.field-0.0 c.args.watcher.now c.hand_file.new.watcher c.args.recipient.now c.hand_file.new.recipient) (sym c.in-File.is)
    (subst (λ (its : Option FileRow). HandsFront hears takes fails (heard_at registry options readings its) (records_at registry options readings its) c.in_err-kept-in-File.field-0.0 c.args.watcher.now c.hand_file.new.watcher c.args.recipient.now c.hand_file.new.recipient) (sym read.there)
    (c.in_err-kept-in-File.ensures.ended registry options read.was (readings read.was.record.id) read.settled)))

pub returns-in_ok-kept-in-File-clause-handed : goal.returns-in_ok-kept-in-File-clause-handed
returns-in_ok-kept-in-File-clause-handed g c = λ registry options readings first settled.
    let hears = g.W.Watcher.hears in
    let takes = g.R.Recipient.takes in
    let files : List FileRow = c.args.files.now in
    let within : c.in-File.place < length files = subst (IsReady (length files)) c.in-File.is c.requires.ready in
    let read = settled.each c.in-File.place c.index-files-place.result (slice_get_read files (length files) c.in-File.place c.index-files-place.result refl within c.index-files-place.is) in
    subst (λ (row : Row). Hands hears takes (heard_of_row registry options readings first row) (records_of_row registry options readings first row) c.in_ok-kept-in-File.kept c.args.watcher.now c.hand_file.new.watcher c.args.recipient.now c.hand_file.new.recipient) (sym c.in-File.is)
    (subst (λ (its : Option FileRow). Hands hears takes (heard_at registry options readings its) (records_at registry options readings its) c.in_ok-kept-in-File.kept c.args.watcher.now c.hand_file.new.watcher c.args.recipient.now c.hand_file.new.recipient) (sym read.there)
    (c.in_ok-kept-in-File.ensures.handed registry options read.was (readings read.was.record.id) read.settled))
