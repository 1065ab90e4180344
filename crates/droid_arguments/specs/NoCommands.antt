-- A command line that asks for nothing that can be run (this project's own).
use Rattle.std.specs.Prelude.{ℕ}
use Rattle.std.specs.declared.io.ErrorKind.{ErrorKind as InputErrorKind}
use Rattle.std.specs.declared.io.ErrorKind.TheVariants as reading
use Rattle.clap.specs.declared.error.Error.{Error}
use Rattle.clap.specs.declared.error.kind.ErrorKind.{ErrorKind}
use Rattle.clap.specs.declared.error.kind.ErrorKind.TheVariants as parsing
use Rattle.droid_arguments.specs.declared.no_command.NoCommand.{NoCommand}
use Rattle.droid_arguments.specs.declared.no_command.NoCommand.TheVariants.{Help, Wrong, NoText, Memory}

-- the exit status
abbrev pub status_without : NoCommand → ℕ
status_without (Help error) = 0
status_without (Wrong error) = 2
status_without NoText = 2
status_without Memory = 6

-- its words could not be read: out of memory, or one of them is not UTF-8
abbrev pub unread_words : InputErrorKind → NoCommand
unread_words reading.OutOfMemory = Memory
unread_words _ = NoText

-- its words were read: out of memory, they ask for help or the version, or they are wrong
abbrev pub unused_words : ErrorKind → Error → NoCommand
unused_words parsing.OutOfMemory error = Memory
unused_words parsing.DisplayHelp error = Help error
unused_words parsing.DisplayVersion error = Help error
unused_words _ error = Wrong error
