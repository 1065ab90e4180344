-- The text of the last export, which is kept for its further parts (this project's own).
use Rattle.std.specs.Prelude.{◌≡◌, ◌≤◌, ◌^◌, ◌-◌, ◌&&◌, ℕ, Bool, false, nat_lt, nat_le, List, [], length, Option, None}
use Rattle.std.specs.Prelude.{Some, ⊤}
use Rattle.droid_frame.specs.declared.filter.Filter.{Filter}
use Rattle.droid_frame.specs.declared.reply.Reply.{Reply}
use Rattle.droid_frame.specs.declared.reply.Reply.TheVariants.{Part}
use Rattle.droid_core_spec.specs.Records.{records}
use Rattle.droid_core_spec.specs.Setting.{Setting}
use Rattle.droid_core_spec.specs.World.{Profile, World, numbered}
use Rattle.droid_core.specs.declared.queries.kept_text.KeptText.{KeptText}

-- the text is that of an export of its profile by its filter in this world, and has at most 256 MiB
pub record IsTextIn (setting : Setting) (world : World) (kept : KeptText) : Type 0 where
  pub profile : Profile
  pub there : numbered world.profiles kept.profile ≡ Some profile
  pub text : kept.text ≡ setting.export_text (records setting profile) kept.filter profile.hash
  pub size : length kept.text ≤ 2 ^ 28

-- a kept text, if there is one, is that of an export in this world
abbrev pub IsLastText : Setting → World → Option KeptText → Type 0
IsLastText setting world None = ⊤
IsLastText setting world (Some kept) = IsTextIn setting world kept

-- the text is kept of this profile and by this filter
abbrev pub IsFor : ℕ → Filter → Option KeptText → Type 0
IsFor profile filter None = ⊥
IsFor profile filter (Some kept) = (kept.profile ≡ profile) × (kept.filter ≡ filter)

-- the bytes of the kept text, if there is one
abbrev pub bytes_in : Option KeptText → List ℕ
bytes_in None = []
bytes_in (Some kept) = kept.text

-- whether a part of at most max bytes from this place on leaves something unread of a text of this length, and the text
-- has at most 256 MiB
abbrev pub leaves_more : ℕ → ℕ → ℕ → Bool
leaves_more total from max = nat_lt max (total - from) && nat_le total (2 ^ 28)

-- whether the reply is a part that leaves something unread
abbrev pub is_followed : ℕ → ℕ → Reply → Bool
is_followed from max (Part as_of total bytes) = leaves_more total from max
is_followed from max _ = false
