-- What the bytes of a frame's header announce (this project's own).
use Rattle.std.specs.Prelude.{ℕ, nat_lt, if◌then◌else◌, List, Result, Ok, Err}
use Rattle.droid_frame.specs.Limits.{body_limit}
use Rattle.droid_frame.specs.Streams.{length_in, version_in}
use Rattle.droid_frame.specs.Versions.{is_version}
use Rattle.droid_frame.specs.declared.streams.fault.FrameFault.{FrameFault}
use Rattle.droid_frame.specs.declared.streams.fault.FrameFault.TheVariants.{BadVersion, TooLong}

-- the length of the body that a header's bytes announce, or their fault: the version is checked first
unfoldable pub judged_at : List ℕ → Result ℕ FrameFault
judged_at bytes =
    if is_version (version_in bytes)
    then (if nat_lt (body_limit (version_in bytes)) (length_in bytes) then Err TooLong else Ok (length_in bytes))
    else Err BadVersion
