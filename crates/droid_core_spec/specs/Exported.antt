-- The part of an export that a request asks for.
use Rattle.std.specs.Prelude.{ℕ, List, length, take, drop}
use Rattle.droid_frame.specs.declared.filter.Filter.{Filter}
use Rattle.droid_frame.specs.declared.reply.Reply.{Reply}
use Rattle.droid_frame.specs.declared.reply.Reply.TheVariants as replies
use Rattle.droid_core_spec.specs.Records.{records}
use Rattle.droid_core_spec.specs.Setting.{Setting}
use Rattle.droid_core_spec.specs.World.{Profile}

-- the number of accepted commands, the length of the whole text, and at most this many of its bytes from this place on;
-- no bytes if the text ends before it
abbrev pub part : ℕ → List ℕ → ℕ → ℕ → Reply
part accepted text from max = replies.Part accepted (length text) (take max (drop from text))

-- the reply to an Export of this profile: that part of the text of its records that the filter keeps
abbrev pub part_of : Setting → ℕ → Profile → ℕ → ℕ → Filter → Reply
part_of setting accepted profile from max filter =
    part accepted (setting.export_text (records setting profile) filter profile.hash) from max
