-- The program's commands and their options, as a parse reads them (this project's own). A `.._option` or `.._flag` is
-- the rule of the option of that name: which values it takes. A `.._command` is the command of that name with its
-- rules, in the order in which they are declared; other commands are the first part of one.
use Rattle.std.specs.Prelude.{true, Some, codes}
use Rattle.clap.specs.Words.{App, Rule, new_app, with_rule, with_subcommand}
use Rattle.clap.specs.declared.builder.value_parser.ValueParser.TheVariants.{NonEmptyString}
use Rattle.droid_arguments.specs.Rules.{client_option, flag_named, folder_word, limit_option, needed, number_named}
use Rattle.droid_arguments.specs.Rules.{option_named, port_option, registry_option, short_flag_named, word_named}
use Rattle.droid_arguments.specs.Rules.{words_named}

abbrev pub connections_option : Rule
connections_option = number_named (codes "connections") 1 1000

abbrev pub at_once_option : Rule
at_once_option = number_named (codes "at-once") 1 64

abbrev pub idle_option : Rule
idle_option = number_named (codes "idle") 1 3600

abbrev pub first_option : Rule
first_option = number_named (codes "first") 0 9223372036854775807

abbrev pub everyday_flag : Rule
everyday_flag = flag_named (codes "everyday")

abbrev pub hash_option : Rule
hash_option = option_named (codes "hash")

abbrev pub output_option : Rule
output_option = option_named (codes "output")

abbrev pub manifest_option : Rule
manifest_option = option_named (codes "manifest")

-- the submission's name: any text but the empty one
abbrev pub name_option : Rule
name_option = record (option_named (codes "name")) { parser = Some NonEmptyString }

abbrev pub wait_option : Rule
wait_option = number_named (codes "wait") 0 86400

abbrev pub timeout_option : Rule
timeout_option = number_named (codes "timeout") 1 86400

abbrev pub piece_size_option : Rule
piece_size_option = number_named (codes "piece-size") 1 4194304

abbrev pub export_option : Rule
export_option = option_named (codes "export")

abbrev pub skipped_option : Rule
skipped_option = option_named (codes "skipped")

-- where a page of the profile goes
abbrev pub report_option : Rule
report_option = option_named (codes "report")

-- what is profiled, and by what
abbrev pub profile_input : App
profile_input = with_rule (with_rule (with_rule (new_app (codes "profile")) folder_word) registry_option) limit_option

-- what is done with each file, and where the CSV goes
abbrev pub profile_files : App
profile_files =
    with_rule (with_rule (with_rule profile_input (flag_named (codes "match-all"))) hash_option) output_option

abbrev pub profile_command : App
profile_command =
    with_rule (with_rule (with_rule (with_rule profile_files manifest_option) skipped_option) report_option)
    (flag_named (codes "quiet"))

-- what is submitted, and where it goes
abbrev pub submit_input : App
submit_input = with_rule (with_rule (with_rule (new_app (codes "submit")) folder_word) port_option) client_option

-- as which submission, and how long it waits
abbrev pub submit_connection : App
submit_connection = with_rule (with_rule (with_rule submit_input name_option) wait_option) timeout_option

-- what is done with each file
abbrev pub submit_files : App
submit_files =
    with_rule
    (with_rule
    (with_rule (with_rule (with_rule submit_connection piece_size_option) limit_option)
    (flag_named (codes "match-all")))
    hash_option)
    (flag_named (codes "check"))

abbrev pub submit_command : App
submit_command =
    with_rule (with_rule (with_rule (with_rule submit_files export_option) skipped_option) report_option)
    (flag_named (codes "quiet"))

abbrev pub against_option : Rule
against_option = needed (option_named (codes "against"))

-- what is compared, and by what
abbrev pub verify_input : App
verify_input =
    with_rule
    (with_rule (with_rule (with_rule (new_app (codes "verify")) folder_word) against_option)
    (flag_named (codes "quick")))
    (flag_named (codes "sizes-only"))

-- by what its files are identified
abbrev pub verify_files : App
verify_files =
    with_rule (with_rule (with_rule verify_input (flag_named (codes "identify"))) registry_option) everyday_flag

abbrev pub verify_command : App
verify_command =
    with_rule (with_rule (with_rule verify_files limit_option) (flag_named (codes "match-all")))
    (flag_named (codes "quiet"))

-- what a page is made of, its title, and where it goes
abbrev pub report_command : App
report_command =
    with_rule
    (with_rule (with_rule (new_app (codes "report")) (word_named (codes "profile"))) (option_named (codes "title")))
    output_option

-- the files to identify
abbrev pub files_word : Rule
files_word = words_named (codes "file")

-- which files are identified
abbrev pub identify_input : App
identify_input =
    with_rule
    (with_rule
    (with_rule
    (with_rule (with_rule (new_app (codes "identify")) files_word) (short_flag_named (codes "recursive") 114))
    (option_named (codes "files-from")))
    (short_flag_named (codes "null") 48))
    (option_named (codes "name"))

-- how what is said of them is printed
abbrev pub identify_forms : App
identify_forms =
    with_rule
    (with_rule
    (with_rule
    (with_rule
    (with_rule (with_rule identify_input (flag_named (codes "puid"))) (flag_named (codes "csv")))
    (flag_named (codes "json")))
    (flag_named (codes "json-sf")))
    (option_named (codes "why")))
    hash_option

-- by what they are identified
abbrev pub identify_command : App
identify_command =
    with_rule (with_rule (with_rule (with_rule identify_forms registry_option) everyday_flag) limit_option)
    (flag_named (codes "match-all"))

-- what a registry is made of, and where it goes
abbrev pub registry_command : App
registry_command =
    with_rule (with_rule (with_rule (new_app (codes "registry")) (word_named (codes "file"))) output_option)
    (flag_named (codes "quiet"))

abbrev pub script_command : App
script_command = with_rule (with_rule (new_app (codes "script")) everyday_flag) registry_option

-- the file that keeps what a service accepts
abbrev pub journal_option : Rule
journal_option = option_named (codes "journal")

abbrev pub run_command : App
run_command = with_rule (with_rule (with_rule (new_app (codes "run")) everyday_flag) registry_option) journal_option

abbrev pub serve_numbers : App
serve_numbers = with_rule (with_rule (new_app (codes "serve")) port_option) connections_option

abbrev pub serve_many : App
serve_many =
    with_rule
    (with_rule (with_rule (with_rule serve_numbers at_once_option) idle_option) (flag_named (codes "forever")))
    (flag_named (codes "verbose"))

abbrev pub serve_command : App
serve_command = with_rule (with_rule (with_rule serve_many everyday_flag) registry_option) journal_option

abbrev pub send_command : App
send_command = with_rule (with_rule (with_rule (new_app (codes "send")) port_option) client_option) first_option

-- which journal becomes smaller, and the registry that it was made with
abbrev pub compact_command : App
compact_command =
    with_rule
    (with_rule (with_rule (with_rule (new_app (codes "compact")) (word_named (codes "file"))) everyday_flag)
    registry_option)
    (flag_named (codes "quiet"))

-- one of the commands must be named, unless `--version` asks for the version
abbrev pub top_command : App → App
top_command a = record a { top = record a.top { subcommand_required = true; has_version = true } }

-- the program with all its commands
abbrev pub program : App
program =
    with_subcommand
    (with_subcommand
    (with_subcommand
    (with_subcommand
    (with_subcommand
    (with_subcommand
    (with_subcommand
    (with_subcommand
    (with_subcommand
    (with_subcommand
    (with_subcommand (top_command (new_app (codes "droid_desk"))) profile_command.top)
    submit_command.top)
    verify_command.top)
    report_command.top)
    identify_command.top)
    registry_command.top)
    script_command.top)
    run_command.top)
    serve_command.top)
    send_command.top)
    compact_command.top
