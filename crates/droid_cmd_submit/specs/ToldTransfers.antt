-- The ending by the table of faults of a submission that ended early after requests were begun, and of an export that
-- was not read (this project's own).
use Rattle.std.specs.Prelude.{[], Some, decimal}
use Rattle.droid_arguments.specs.declared.submit.Destination.{Destination}
use Rattle.droid_arguments.specs.declared.submit.SubmitOptions.{SubmitOptions}
use Rattle.droid_frame.specs.declared.refusal.Limit.TheVariants as limits
use Rattle.droid_frame.specs.declared.refusal.Refusal.{Refusal}
use Rattle.droid_frame.specs.declared.refusal.Refusal.TheVariants as refusals
use Rattle.droid_remote.specs.declared.transfer.transfer_fault.TransferFault.{TransferFault}
use Rattle.droid_remote.specs.declared.transfer.transfer_fault.TransferFault.TheVariants as sending
use Rattle.droid_remote.specs.declared.remote_fault.RemoteFault.{RemoteFault}
use Rattle.droid_remote.specs.declared.remote_fault.RemoteFault.TheVariants as submitting
use Rattle.droid_upload.specs.declared.submission_fault.SubmissionFault.{SubmissionFault}
use Rattle.droid_upload.specs.declared.submission_fault.SubmissionFault.TheVariants as walking
use Rattle.droid_terminal.specs.Endings.{Said, Told, by, detailed, of_path, of_port}
use Rattle.droid_terminal.specs.FaultTable as table

-- the row of a refusal that ends a submission
abbrev pub refusal_row : Refusal → Said
refusal_row refusals.Malformed = table.malformed
refusal_row refusals.NumberReused = table.number_reused
refusal_row refusals.NoSuchProfile = table.no_such_profile
refusal_row refusals.NoSuchNode = table.no_such_node
refusal_row refusals.NotAFolder = table.not_a_folder_there
refusal_row refusals.NotAFile = table.not_a_file_there
refusal_row refusals.BadName = table.bad_name
refusal_row refusals.PathTooLong = table.path_too_long
refusal_row refusals.NameTaken = table.name_taken
refusal_row refusals.BadOption = table.bad_option
refusal_row refusals.TooLarge = table.too_large
refusal_row refusals.AlreadyFinished = table.already_finished
refusal_row refusals.BadPiece = table.bad_piece
refusal_row refusals.PieceHeld = table.piece_held
refusal_row (refusals.TooFarAhead missing) = table.too_far_ahead
refusal_row (refusals.Incomplete missing) = table.incomplete
refusal_row (refusals.LimitReached limits.Profiles) = table.full_service
refusal_row (refusals.LimitReached limits.Nodes) = table.nodes
refusal_row (refusals.LimitReached limits.Unfinished) = table.unfinished
refusal_row refusals.Memory = table.service_memory
refusal_row refusals.Store = table.store_failed

-- where a request got no reply that the client accepts
abbrev pub told_transfer : TransferFault → Destination → Told
told_transfer sending.Memory to = by table.memory_somewhere []
told_transfer sending.Broken to = detailed table.broken (of_port to.port) (Some (decimal to.wait))
told_transfer sending.Stranger to = by table.stranger (of_port to.port)
told_transfer sending.Restarted to = by table.restarted (of_port to.port)
told_transfer (sending.Refused refusal) to = by (refusal_row refusal) (of_port to.port)
told_transfer sending.Busy to = detailed table.busy (of_port to.port) (Some (decimal to.wait))

-- of a `SubmissionFault`: where the walk ended early, after requests were begun
abbrev pub told_submission_fault : SubmissionFault → SubmitOptions → Told
told_submission_fault walking.Memory options = told_transfer sending.Memory options.to
told_submission_fault walking.Ended options = told_transfer sending.Broken options.to
told_submission_fault walking.Reply options = by table.strange_reply (of_port options.to.port)
told_submission_fault (walking.Refused refusal) options = by (refusal_row refusal) (of_port options.to.port)
told_submission_fault walking.TooLong options = by table.long_request (of_path options.folder.now)
told_submission_fault walking.Folders options = by table.new_folders (of_path options.folder.now)

-- where a submission ended early
abbrev pub told_unsubmitted : RemoteFault → SubmitOptions → Told
told_unsubmitted (submitting.Walking fault) options = told_submission_fault fault options
told_unsubmitted (submitting.Sending fault) options = told_transfer fault options.to
