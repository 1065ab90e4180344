-- How the command ends (this project's own).
use Rattle.std.specs.Prelude.{ℕ, List, [], Some, None, codes}
use Rattle.std.specs.declared.io.ErrorKind.TheVariants as kinds
use Rattle.droid_signature_file.specs.declared.fault.FileFault.{FileFault}
use Rattle.droid_signature_file.specs.declared.fault.FileFault.TheVariants as files
use Rattle.droid_signature_file.specs.declared.fault.Wrong.{Wrong}
use Rattle.droid_signature_file.specs.declared.fault.Wrong.TheVariants as wrongs
use Rattle.droid_terminal.specs.Endings as endings
use Rattle.droid_terminal.specs.Endings.{Said, Told, by, detailed, numbered, of_beside, of_path}
use Rattle.droid_terminal.specs.FaultTable as table
use Rattle.droid_xml.specs.declared.problem.Problem.{Problem}
use Rattle.droid_xml.specs.declared.problem.Problem.TheVariants as problems
use Rattle.droid_cmd_registry.specs.declared.registry_places.Unput.{Unput}
use Rattle.droid_cmd_registry.specs.declared.registry_places.Unput.TheVariants as unput
use Rattle.droid_cmd_registry.specs.declared.registry_places.Unread.{Unread}
use Rattle.droid_cmd_registry.specs.declared.registry_places.Unread.TheVariants as unread
use Rattle.droid_cmd_registry.specs.declared.registry_ending.RegistryEnding.{RegistryEnding}
use Rattle.droid_cmd_registry.specs.declared.registry_ending.RegistryEnding.TheVariants.{Whole, Partial, NoFile}
use Rattle.droid_cmd_registry.specs.declared.registry_ending.RegistryEnding.TheVariants.{NoSignatures, LongRegistry}
use Rattle.droid_cmd_registry.specs.declared.registry_ending.RegistryEnding.TheVariants.{NoMemory, NoRegistry, NoNote}

-- the ending where a file is no signature file; running out of memory says nothing of the file
abbrev pub unconverted : FileFault → RegistryEnding
unconverted files.Memory = NoMemory
unconverted (files.Document problem line) = NoSignatures (files.Document problem line)
unconverted (files.NotASignatureFile wrong) = NoSignatures (files.NotASignatureFile wrong)

-- the row of a problem of the document
abbrev pub problem_row : Problem → Said
problem_row problems.NotWellFormed = table.not_well_formed
problem_row problems.Doctype = table.doctype
problem_row problems.TooDeep = table.too_deep
problem_row problems.TooManyAttributes = table.too_many_attributes
problem_row problems.Encoding = table.encoding

-- the row of a document that is no signature file
abbrev pub wrong_row : Wrong → Said
wrong_row wrongs.Root = table.other_root
wrong_row wrongs.Number = table.wrong_number
wrong_row wrongs.Sequence = table.wrong_sequence

-- the row of a file that could not be written
abbrev pub unput_row : Unput → Said
unput_row unput.SameFile = table.signature_file_itself
unput_row unput.Refused = table.registry_refused
unput_row unput.Unwritten = table.unwritten
unput_row unput.Memory = table.memory

-- the ending where the signature file could not be read
abbrev pub told_unread : Unread → List ℕ → Told
told_unread (unread.Unopened kinds.NotFound) file = by table.unopened_missing (of_path file)
told_unread (unread.Unopened kinds.IsADirectory) file = by table.unopened_folder (of_path file)
told_unread (unread.Unopened kind) file = detailed table.unopened (of_path file) None
told_unread unread.Failed file = by table.reading_failed (of_path file)
told_unread unread.TooLong file = by table.long_signature_file (of_path file)
told_unread unread.Memory file = by table.memory []

-- the ending where a file is no signature file
abbrev pub told_of_file : FileFault → List ℕ → Told
told_of_file files.Memory file = by table.memory []
told_of_file (files.Document problem line) file = numbered (problem_row problem) (of_path file) line
told_of_file (files.NotASignatureFile wrong) file = by (wrong_row wrong) (of_path file)

-- the ending by the table
abbrev pub told_by : RegistryEnding → List ℕ → List ℕ → Told
told_by Whole file output = endings.Whole
told_by Partial file output = endings.Partly
told_by (NoFile why) file output = told_unread why file
told_by (NoSignatures fault) file output = told_of_file fault file
told_by LongRegistry file output = by table.long_registry (of_path file)
told_by NoMemory file output = by table.memory []
told_by (NoRegistry why) file output = by (unput_row why) (of_path output)
told_by (NoNote why) file output =
    detailed (unput_row why) (of_beside output (codes ".txt")) (Some (codes "; the registry itself is complete"))
