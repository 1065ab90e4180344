-- What the command line asks for (this project's own).
use Rattle.std.specs.Prelude.{◌≡◌, ◌&&◌, ℕ, Bool, true, false, List, [], Option, Some, None, codes}
use Rattle.std.specs.Prelude.{option_map}
use Rattle.clap.specs.Words.{App, Row, Text, fault_of, first_of, kind_of, one_of, subcommand_of}
use Rattle.clap.specs.declared.error.Error.{Error}
use Rattle.clap.specs.declared.error.kind.ErrorKind.TheVariants as parsing
use Rattle.droid_arguments.specs.Commands.{program}
use Rattle.droid_arguments.specs.declared.arguments.Asked.{Asked}
use Rattle.droid_arguments.specs.declared.arguments.Asked.TheVariants.{Profile, Submit, Verify, Report, Identify}
use Rattle.droid_arguments.specs.declared.arguments.Asked.TheVariants.{Registry}
use Rattle.droid_arguments.specs.declared.arguments.Asked.TheVariants.{Script, Run, Serve, Send, Compact}
use Rattle.droid_arguments.specs.declared.registry_options.RegistryOptions.{RegistryOptions}
use Rattle.droid_arguments.specs.declared.connection_options.ServeOptions.{ServeOptions}
use Rattle.droid_arguments.specs.declared.profile.ProfileOptions.{ProfileOptions}
use Rattle.droid_arguments.specs.declared.no_command.NoCommand.{NoCommand}
use Rattle.droid_arguments.specs.declared.no_command.NoCommand.TheVariants.{Memory}
use Rattle.droid_arguments.specs.declared.report_options.ReportOptions.{ReportOptions}
use Rattle.droid_arguments.specs.declared.submit.Destination.{Destination}
use Rattle.droid_arguments.specs.declared.submit.SubmitOptions.{SubmitOptions}
use Rattle.droid_arguments.specs.declared.verify.VerifyOptions.{VerifyOptions}
use Rattle.droid_arguments.specs.Identifying.{IsIdentify}
use Rattle.droid_arguments.specs.Registries.{names_two}
use Rattle.droid_arguments.specs.Values.{IsFlag, IsGiven, IsHash, IsNumberOr, IsSource}
use Rattle.droid_frame.specs.declared.hash_kind.HashKind.{HashKind}
use Rattle.droid_frame.specs.declared.hash_kind.HashKind.TheVariants as hashes

-- whether a list of checksums is asked for, and files get no hash
abbrev pub has_no_checksums : HashKind → Option Text → Bool
has_no_checksums hashes.Nothing (Some path) = true
has_no_checksums hashes.Nothing None = false
has_no_checksums hashes.Md5 manifest = false
has_no_checksums hashes.Sha256 manifest = false

-- the options of `profile`; a list of checksums needs a hash
pub record IsProfile (rows : List Row) (options : ProfileOptions) : Type 0 where
  pub folder : Some options.folder.now ≡ first_of (codes "folder") rows
  pub registry : option_map (λ path. path.now) options.registry ≡ first_of (codes "registry") rows
  pub limit : IsNumberOr 32 65536 (one_of (codes "limit") rows) options.limit
  pub match_all : IsFlag (one_of (codes "match-all") rows) options.match_all
  pub hash : IsHash (first_of (codes "hash") rows) options.hash
  pub output : option_map (λ path. path.now) options.output ≡ first_of (codes "output") rows
  pub manifest : option_map (λ path. path.now) options.manifest ≡ first_of (codes "manifest") rows
  pub checksums : has_no_checksums options.hash (option_map (λ path. path.now) options.manifest) ≡ false
  pub skipped : option_map (λ path. path.now) options.skipped ≡ first_of (codes "skipped") rows
  pub report : option_map (λ path. path.now) options.report ≡ first_of (codes "report") rows
  pub quiet : IsFlag (one_of (codes "quiet") rows) options.quiet

-- where a submission goes, and how long it waits for the service
pub record IsSentTo (rows : List Row) (to : Destination) : Type 0 where
  pub port : IsGiven 16 (one_of (codes "port") rows) to.port
  pub client : IsGiven 32 (one_of (codes "client") rows) to.client
  pub wait : IsNumberOr 32 60 (one_of (codes "wait") rows) to.wait
  pub timeout : IsNumberOr 32 60 (one_of (codes "timeout") rows) to.timeout

-- whether finished files are to be read again, and no hash is there to compare
abbrev pub checks_nothing : Bool → HashKind → Bool
checks_nothing true hashes.Nothing = true
checks_nothing true hashes.Md5 = false
checks_nothing true hashes.Sha256 = false
checks_nothing false hash = false

-- the options of `submit`
pub record IsSubmit (rows : List Row) (options : SubmitOptions) : Type 0 where
  pub folder : Some options.folder.now ≡ first_of (codes "folder") rows
  pub destination : IsSentTo rows options.to
  pub name : option_map (λ text. text.now) options.name ≡ first_of (codes "name") rows
  pub piece_size : IsNumberOr 32 262144 (one_of (codes "piece-size") rows) options.piece_size
  pub limit : IsNumberOr 32 65536 (one_of (codes "limit") rows) options.limit
  pub match_all : IsFlag (one_of (codes "match-all") rows) options.match_all
  pub hash : IsHash (first_of (codes "hash") rows) options.hash
  pub check : IsFlag (one_of (codes "check") rows) options.check
  pub compared : checks_nothing options.check options.hash ≡ false
  pub export : option_map (λ path. path.now) options.export ≡ first_of (codes "export") rows
  pub skipped : option_map (λ path. path.now) options.skipped ≡ first_of (codes "skipped") rows
  pub report : option_map (λ path. path.now) options.report ≡ first_of (codes "report") rows
  pub quiet : IsFlag (one_of (codes "quiet") rows) options.quiet

-- whether formats are to be compared, and no file is read
abbrev pub reads_nothing : Bool → Bool → Bool
reads_nothing quick identify = quick && identify

-- whether sizes alone are to be compared, and modification times too
abbrev pub measures_twice : Bool → Bool → Bool
measures_twice quick sizes_only = quick && sizes_only

-- the options of `verify`
pub record IsVerify (rows : List Row) (options : VerifyOptions) : Type 0 where
  pub folder : Some options.folder.now ≡ first_of (codes "folder") rows
  pub against : Some options.against.now ≡ first_of (codes "against") rows
  pub quick : IsFlag (one_of (codes "quick") rows) options.quick
  pub sizes_only : IsFlag (one_of (codes "sizes-only") rows) options.sizes_only
  pub identify : IsFlag (one_of (codes "identify") rows) options.identify
  pub registry : option_map (λ path. path.now) options.registry ≡ first_of (codes "registry") rows
  pub everyday : Bool
  pub is_flag : IsFlag (one_of (codes "everyday") rows) everyday
  pub names_one : names_two everyday (option_map (λ path. path.now) options.registry) ≡ false
  pub reads_files : reads_nothing options.quick options.identify ≡ false
  pub one_measure : measures_twice options.quick options.sizes_only ≡ false
  pub limit : IsNumberOr 32 65536 (one_of (codes "limit") rows) options.limit
  pub match_all : IsFlag (one_of (codes "match-all") rows) options.match_all
  pub quiet : IsFlag (one_of (codes "quiet") rows) options.quiet

-- the options of `report`
pub record IsReport (rows : List Row) (options : ReportOptions) : Type 0 where
  pub profile : Some options.profile.now ≡ first_of (codes "profile") rows
  pub title : option_map (λ text. text.now) options.title ≡ first_of (codes "title") rows
  pub output : option_map (λ path. path.now) options.output ≡ first_of (codes "output") rows

-- the options of `registry`
pub record IsConversion (rows : List Row) (options : RegistryOptions) : Type 0 where
  pub file : Some options.file.now ≡ first_of (codes "file") rows
  pub output : option_map (λ path. path.now) options.output ≡ first_of (codes "output") rows
  pub quiet : IsFlag (one_of (codes "quiet") rows) options.quiet

-- how many connections are served: there is no end, or this many
abbrev pub IsCount : List Row → Option ℕ → Type 0
IsCount rows None = IsFlag (one_of (codes "forever") rows) true × (first_of (codes "connections") rows ≡ None)
IsCount rows (Some count) =
    IsFlag (one_of (codes "forever") rows) false × IsNumberOr 32 1 (one_of (codes "connections") rows) count

-- neither `--at-once` nor `--idle` is given
abbrev pub NamesNeither : List Row → Type 0
NamesNeither rows = (first_of (codes "at-once") rows ≡ None) × (first_of (codes "idle") rows ≡ None)

-- after how many seconds an idle connection is closed: never, where neither is given; else after those of `--idle`, 60
-- without it
abbrev pub IsIdleLimit : List Row → Option ℕ → Type 0
IsIdleLimit rows None = NamesNeither rows
IsIdleLimit rows (Some idle) = (NamesNeither rows → ⊥) × IsNumberOr 32 60 (one_of (codes "idle") rows) idle

-- the options of `serve`
pub record IsServing (rows : List Row) (options : ServeOptions) : Type 0 where
  pub seats : IsNumberOr 32 1 (one_of (codes "at-once") rows) options.seats
  pub connections : IsCount rows options.connections
  pub idle : IsIdleLimit rows options.idle
  pub verbose : IsFlag (one_of (codes "verbose") rows) options.verbose

-- what the options of the command with this name ask for
abbrev pub IsAskedBy : Text → List Row → Asked → Type 0
IsAskedBy name rows (Profile options) = (name ≡ codes "profile") × IsProfile rows options
IsAskedBy name rows (Submit options) = (name ≡ codes "submit") × IsSubmit rows options
IsAskedBy name rows (Verify options) = (name ≡ codes "verify") × IsVerify rows options
IsAskedBy name rows (Report options) = (name ≡ codes "report") × IsReport rows options
IsAskedBy name rows (Identify options) = (name ≡ codes "identify") × IsIdentify rows options
IsAskedBy name rows (Registry options) = (name ≡ codes "registry") × IsConversion rows options
IsAskedBy name rows (Script registry) = (name ≡ codes "script") × IsSource rows registry
IsAskedBy name rows (Run registry journal) =
    (name ≡ codes "run") × IsSource rows registry
    × (option_map (λ path. path.now) journal ≡ first_of (codes "journal") rows)
IsAskedBy name rows (Serve registry journal port options) =
    (name ≡ codes "serve") × IsSource rows registry
    × (option_map (λ path. path.now) journal ≡ first_of (codes "journal") rows)
    × IsGiven 16 (one_of (codes "port") rows) port × IsServing rows options
IsAskedBy name rows (Send port client first) =
    (name ≡ codes "send") × IsGiven 16 (one_of (codes "port") rows) port
    × IsGiven 32 (one_of (codes "client") rows) client
    × IsNumberOr 64 1 (one_of (codes "first") rows) first
IsAskedBy name rows (Compact registry file quiet) =
    (name ≡ codes "compact") × IsSource rows registry × (Some file.now ≡ first_of (codes "file") rows)
    × IsFlag (one_of (codes "quiet") rows) quiet

-- a parse came to this command, and its options ask for that
pub record IsAsked (entered : Option (Text × List Row)) (asked : Asked) : Type 0 where
  pub name : Text
  pub rows : List Row
  pub is_entered : entered ≡ Some (name, rows)
  pub asks : IsAskedBy name rows asked

-- the words of a command line, the program's own name first, ask for that
abbrev pub WordsAsk : List Text → Asked → Type 0
WordsAsk words asked = IsAsked (subcommand_of program words) asked

-- Words without a fault that ask for something get it, unless memory runs out: so says an error of the parse, and the
-- reason why there is no command to run.
abbrev pub FailsBy : App → List Text → Error → Type 0
FailsBy app words error =
    fault_of app words ≡ [] → (asked : Asked) → IsAsked (subcommand_of app words) asked
    → kind_of error ≡ parsing.OutOfMemory

-- valid words that ask for something are refused only for lack of memory
abbrev pub RefusesWords : List Text → NoCommand → Type 0
RefusesWords words why = fault_of program words ≡ [] → (asked : Asked) → WordsAsk words asked → why ≡ Memory

-- words without a fault are refused only where memory runs out: so says an error of the parse
abbrev pub FailsFaulty : App → List Text → Error → Type 0
FailsFaulty app words error = fault_of app words ≡ [] → kind_of error ≡ parsing.OutOfMemory

-- the same of the reason why there is no command to run
abbrev pub RefusesFaulty : List Text → NoCommand → Type 0
RefusesFaulty words why = fault_of program words ≡ [] → why ≡ Memory
