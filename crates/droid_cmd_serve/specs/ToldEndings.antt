-- The ending of a command by the table of faults (this project's own).
use Rattle.std.specs.Prelude.{ℕ, [], Option, Some, None, decimal}
use Rattle.std.specs.declared.io.ErrorKind.{ErrorKind}
use Rattle.std.specs.declared.io.ErrorKind.TheVariants as kinds
use Rattle.droid_frame.specs.declared.streams.fault.FrameFault.{FrameFault}
use Rattle.droid_frame.specs.declared.streams.fault.FrameFault.TheVariants as frames
use Rattle.droid_lines.specs.declared.send_fault.SendFault.{SendFault}
use Rattle.droid_lines.specs.declared.send_fault.SendFault.TheVariants as sends
use Rattle.droid_script.specs.declared.script_fault.ScriptFault.{ScriptFault}
use Rattle.droid_script.specs.declared.script_fault.ScriptFault.TheVariants as scripts
use Rattle.droid_store.specs.declared.fault.StoreFault.{StoreFault}
use Rattle.droid_store.specs.declared.fault.StoreFault.TheVariants as stores
use Rattle.droid_wire.specs.declared.serve_fault.ServeFault.TheVariants as streams
use Rattle.droid_terminal.specs.Endings as endings
use Rattle.droid_terminal.specs.Endings.{Said, Told, by, detailed, of_port, of_unheard}
use Rattle.droid_terminal.specs.FaultTable as table
use Rattle.droid_cmd_serve.specs.ToldJournals.{journal_of, told_journal}
use Rattle.droid_cmd_serve.specs.ToldRegistries.{registry_of, told_registry}
use Rattle.droid_cmd_serve.specs.declared.command_end.Used.{Used}
use Rattle.droid_cmd_serve.specs.declared.command_end.Used.TheVariants as uses
use Rattle.droid_cmd_serve.specs.declared.exit.Ending.{Ending}
use Rattle.droid_cmd_serve.specs.declared.exit.Ending.TheVariants.{Done, Registry, NoService, Script, Stream, Send}
use Rattle.droid_cmd_serve.specs.declared.exit.Ending.TheVariants.{Socket, Journal, BadLine}

-- the row where no service could be made
abbrev pub service_row : StoreFault → Said
service_row stores.Memory = table.service_without_memory
service_row stores.Refused = table.service_refused

-- the row of a script that ended early
abbrev pub script_row : ScriptFault → Said
script_row scripts.TooLong = table.input_too_long
script_row scripts.Read = table.input_unread
script_row scripts.Memory = table.memory
script_row scripts.Write = table.output_stopped

-- the row of a frame of standard input that could not be read
abbrev pub frame_row : FrameFault → Said
frame_row frames.Truncated = table.frame_truncated
frame_row frames.BadVersion = table.frame_version
frame_row frames.TooLong = table.frame_too_long
frame_row frames.Memory = table.memory
frame_row frames.Read = table.input_unread

-- the row of a reply whose frame could not be read
abbrev pub reply_row : FrameFault → Said
reply_row frames.Truncated = table.reply_truncated
reply_row frames.BadVersion = table.reply_version
reply_row frames.TooLong = table.reply_too_long
reply_row frames.Memory = table.reply_memory
reply_row frames.Read = table.reply_unread

-- the port that a command used
abbrev pub port_of : Used → ℕ
port_of (uses.Port port) = port
port_of other = 0

-- where sending ended early
abbrev pub told_send : SendFault → ℕ → Told
told_send sends.Lines port = by table.input_unread []
told_send sends.Memory port = by table.memory []
told_send sends.NumbersUsedUp port = by table.sent_numbers []
told_send sends.Frames port = by table.sent_broken (of_port port)
told_send sends.Closed port = by table.sent_closed (of_port port)
told_send (sends.Replies fault) port = by (reply_row fault) (of_port port)
told_send sends.Malformed port = by table.sent_malformed (of_port port)
told_send sends.Stranger port = by table.sent_stranger (of_port port)
told_send sends.Repeated port = by table.sent_repeated (of_port port)
told_send sends.Text port = by table.output_stopped []

-- where a port could not be used; without a cause no connection could be accepted
abbrev pub told_port : ℕ → Option ErrorKind → Told
told_port port None = by table.port_stopped (of_port port)
told_port port (Some kinds.AddrInUse) = detailed table.port_in_use [] (Some (decimal port))
told_port port (Some kinds.ConnectionRefused) = by table.port_unheard (of_unheard port)
told_port port (Some kinds.PermissionDenied) = by table.port_denied (of_port port)
told_port port (Some kind) = detailed table.port_unusable (of_port port) None

-- the ending by the table
abbrev pub told_by : Ending → Used → Option ErrorKind → Told
told_by Done used cause = endings.Whole
told_by BadLine used cause = endings.Partly
told_by (Registry fault) used cause = told_registry fault (registry_of used) cause
told_by (NoService fault) used cause = by (service_row fault) []
told_by (Script fault) used cause = by (script_row fault) []
told_by (Stream (streams.Frame fault)) used cause = by (frame_row fault) []
told_by (Stream (streams.Write written)) used cause = by table.output_stopped []
told_by (Send fault) used cause = told_send fault (port_of used)
told_by Socket used cause = told_port (port_of used) cause
told_by (Journal fault) used cause = told_journal fault (journal_of used)
