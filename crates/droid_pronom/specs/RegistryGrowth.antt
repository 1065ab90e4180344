-- What one more record adds to a registry.
use Rattle.std.specs.Prelude.{List, [], ◌∷◌, ◌++◌}
use Rattle.droid_pronom.specs.Registry.{Contents, Signed}
use Rattle.droid_pronom.specs.declared.format.Format.{Format}
use Rattle.droid_pronom.specs.declared.rows.ListedExtension.{ListedExtension}
use Rattle.droid_pronom.specs.declared.rows.Priority.{Priority}
use Rattle.droid_pronom.specs.declared.rows.ByteSequence.{ByteSequence}

-- one more format
abbrev pub with_format : Contents → Format → Contents
with_format registry format = record registry { formats = registry.formats ++ format ∷ [] }

-- one more extension that a format lists
abbrev pub with_extension : Contents → ListedExtension → Contents
with_extension registry row = record registry { extensions = registry.extensions ++ row ∷ [] }

-- one more priority
abbrev pub with_priority : Contents → Priority → Contents
with_priority registry row = record registry { priorities = registry.priorities ++ row ∷ [] }

-- one more signature
abbrev pub with_signature : Contents → Signed → Contents
with_signature registry signature = record registry { signatures = registry.signatures ++ signature ∷ [] }

-- one more byte sequence at the end of the last signature
abbrev pub extended : ByteSequence → List Signed → List Signed
extended sequence [] = []
extended sequence (last ∷ []) = record last { sequences = last.sequences ++ sequence ∷ [] } ∷ []
extended sequence (first ∷ second ∷ more) = first ∷ extended sequence (second ∷ more)

-- the registry with one more byte sequence of its last signature
abbrev pub with_sequence : Contents → ByteSequence → Contents
with_sequence registry sequence = record registry { signatures = extended sequence registry.signatures }
