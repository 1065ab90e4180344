-- The faults of sending, from the faults of its parts, and their names (this project's own rule).
use Rattle.std.specs.Prelude.{ℕ, List, codes}
use Rattle.droid_frame.specs.declared.streams.fault.FrameFault.{FrameFault}
use Rattle.droid_frame.specs.declared.streams.fault.FrameFault.TheVariants as frames
use Rattle.droid_client.specs.declared.client_fault.SubmitFault.{SubmitFault}
use Rattle.droid_client.specs.declared.client_fault.SubmitFault.TheVariants as submits
use Rattle.droid_client.specs.declared.client_fault.HearFault.{HearFault}
use Rattle.droid_client.specs.declared.client_fault.HearFault.TheVariants as hears
use Rattle.droid_lines.specs.declared.send_fault.SendFault.{SendFault}
use Rattle.droid_lines.specs.declared.send_fault.SendFault.TheVariants.{Lines, Memory, NumbersUsedUp, Frames, Closed}
use Rattle.droid_lines.specs.declared.send_fault.SendFault.TheVariants.{Replies, Malformed, Stranger, Repeated, Text}

-- a request could not be submitted
abbrev pub submit_fault : SubmitFault → SendFault
submit_fault submits.NumbersUsedUp = NumbersUsedUp
submit_fault submits.Memory = Memory

-- a reply was not taken
abbrev pub hear_fault : HearFault → SendFault
hear_fault hears.Malformed = Malformed
hear_fault hears.Memory = Memory

-- why no frame could be read
abbrev pub frame_fault_name : FrameFault → List ℕ
frame_fault_name frames.Truncated = codes "Truncated"
frame_fault_name frames.BadVersion = codes "BadVersion"
frame_fault_name frames.TooLong = codes "TooLong"
frame_fault_name frames.Memory = codes "Memory"
frame_fault_name frames.Read = codes "Read"

-- why sending ended early
abbrev pub send_fault_name : SendFault → List ℕ
send_fault_name Lines = codes "Read"
send_fault_name Memory = codes "Memory"
send_fault_name NumbersUsedUp = codes "NumbersUsedUp"
send_fault_name Frames = codes "Write"
send_fault_name Closed = codes "Closed"
send_fault_name (Replies fault) = frame_fault_name fault
send_fault_name Malformed = codes "Malformed"
send_fault_name Stranger = codes "Stranger"
send_fault_name Repeated = codes "Repeated"
send_fault_name Text = codes "Write"
