-- Options and words, as a parse reads them (this project's own).
use Rattle.std.specs.Prelude.{ℕ, true, Some, codes}
use Rattle.clap.specs.Lexer.{usize_max}
use Rattle.clap.specs.Words.{Rule, Text, new_rule}
use Rattle.clap.specs.declared.builder.action.ArgAction.TheVariants.{Append, Set, SetTrue}
use Rattle.clap.specs.declared.builder.value_parser.ValueParser.TheVariants.{Unsigned}

-- an option with one value: `--NAME VALUE`
abbrev pub option_named : Text → Rule
option_named name = record (new_rule name) { long = Some name; value_names = 1; action = Some Set }

-- an option with a number from `least` to `most`
abbrev pub number_named : Text → ℕ → ℕ → Rule
number_named name least most = record (option_named name) { parser = Some (Unsigned least most) }

-- the option must be there
abbrev pub needed : Rule → Rule
needed rule = record rule { required = true }

-- a word that stands by itself, and must be there
abbrev pub word_named : Text → Rule
word_named name = record (new_rule name) { value_names = 1; action = Some Set; required = true }

-- an option without a value: `--NAME`
abbrev pub flag_named : Text → Rule
flag_named name = record (new_rule name) { long = Some name; action = Some SetTrue }

-- an option without a value, with a short name too
abbrev pub short_flag_named : Text → ℕ → Rule
short_flag_named name short = record (flag_named name) { short = Some short }

-- words that stand by themselves, any number of them
abbrev pub words_named : Text → Rule
words_named name = record (new_rule name) {
  value_names = 1;
  action = Some Append;
  range = Some (record { start_inclusive = 0; end_inclusive = usize_max });
}

abbrev pub registry_option : Rule
registry_option = option_named (codes "registry")

abbrev pub port_option : Rule
port_option = needed (number_named (codes "port") 1 65535)

abbrev pub client_option : Rule
client_option = needed (number_named (codes "client") 0 4294967295)

abbrev pub folder_word : Rule
folder_word = word_named (codes "folder")

abbrev pub limit_option : Rule
limit_option = number_named (codes "limit") 1 65536
