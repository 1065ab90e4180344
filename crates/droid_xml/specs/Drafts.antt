-- A value while it is read, without where it lies in memory.
use Rattle.std.specs.String.{string_bytes}
use Rattle.droid_xml.specs.Bytes.{only_if}
use Rattle.droid_xml.specs.Values.{Partial}
use Rattle.droid_xml.specs.declared.values.Draft.{Draft}

-- the value that is read so far
abbrev pub partial : Draft → Partial
partial draft = record { text = string_bytes draft.text; name = only_if draft.is_inside (string_bytes draft.name) }
