-- Why the words of a command ask for nothing.
use Rattle.std.proofs.Common.{◌≡◌, ◌∙◌, ◌↔◌, ℕ, ap, sym, subst, refl, inl, inr, Bool, true, false, List, [], Option, Some, None, codes, option_map}
use Rattle.std.proofs.lemmas.Slice.Eq.{bytes_eq-Decides}
use Rattle.std.specs.Bool.{MatchBool}
use Rattle.std.specs.Str.{bytes_eq}
use Rattle.std.specs.Box.{box_value}
use Rattle.std.specs.Prelude.{Box}
use Rattle.clap.specs.Words.{HasKind, IsAmong, Kinds, Row, Text, first_of, kind_of, one_of, subcommand_name_of, subcommand_rows, subcommand_rows_of}
use Rattle.clap.specs.declared.error.Error.{Error}
use Rattle.clap.specs.declared.error.kind.ErrorKind.TheVariants.{OutOfMemory}
use Rattle.clap.specs.declared.parser.matches.ArgMatches.{ArgMatches}
use Rattle.clap.specs.declared.parser.matches.ArgMatches.TheViews.{out-ArgMatches, out-SubCommand}
use Rattle.clap.specs.declared.parser.matches.SubCommand.{SubCommand}
use Rattle.droid_arguments.specs.Asking.{IsAsked, IsAskedBy, IsConversion, IsCount, IsProfile, IsReport, IsServing, IsSubmit, IsVerify, checks_nothing, has_no_checksums, measures_twice, reads_nothing}
use Rattle.droid_arguments.specs.Registries.{names_two}
use Rattle.droid_arguments.specs.declared.arguments.Asked.{Asked}
use Rattle.droid_arguments.specs.declared.arguments.Asked.TheVariants.{Profile, Submit, Verify, Report, Identify, Registry, Script, Run, Serve, Send, Compact}
use Rattle.droid_arguments.specs.Identifying.{IsIdentify}
use Rattle.droid_arguments.specs.declared.identify.IdentifyOptions.{IdentifyOptions}
use Rattle.droid_arguments.specs.declared.registry_options.RegistryOptions.{RegistryOptions}
use Rattle.droid_arguments.specs.declared.connection_options.ServeOptions.{ServeOptions}
use Rattle.droid_arguments.specs.declared.profile.ProfileOptions.{ProfileOptions}
use Rattle.droid_arguments.specs.declared.report_options.ReportOptions.{ReportOptions}
use Rattle.droid_arguments.specs.declared.submit.SubmitOptions.{SubmitOptions}
use Rattle.droid_arguments.specs.declared.verify.VerifyOptions.{VerifyOptions}
use Rattle.droid_arguments.proofs.Options.{same_flag}
use Rattle.droid_arguments.specs.Values.{IsFlag, IsGiven, IsHash, IsSource}
use Rattle.droid_arguments.specs.declared.source.RegistrySource.{RegistrySource}
use Rattle.droid_frame.specs.declared.hash_kind.HashKind.{HashKind}
use Rattle.droid_frame.specs.declared.hash_kind.HashKind.TheVariants as hashes

-- two texts
apart : (one other : Text) → bytes_eq one other ≡ false → one ≡ other → ⊥
apart one other not is = let bad : true ≡ false = sym ((bytes_eq-Decides one other).1 is) ∙ not in cc

-- an option that was not found was not given
pub not_found : {X : Type 0} (found given : Option X) (x : X) → None ≡ found → Some x ≡ given → found ≡ given → ⊥
not_found found given x none some same = let bad : None ≡ Some x = none ∙ (same ∙ sym some) in cc

-- a word names one hash
pub same_hash : (word : Option Text) (one other : HashKind) → IsHash word one → IsHash word other → one ≡ other
same_hash None one other is also = is ∙ sym also
same_hash (Some text) hashes.Nothing hashes.Nothing is also = refl
same_hash (Some text) hashes.Nothing hashes.Md5 is also = absurd (apart (codes "none") (codes "md5") refl (sym is ∙ also))
same_hash (Some text) hashes.Nothing hashes.Sha256 is also = absurd (apart (codes "none") (codes "sha256") refl (sym is ∙ also))
same_hash (Some text) hashes.Md5 hashes.Nothing is also = absurd (apart (codes "md5") (codes "none") refl (sym is ∙ also))
same_hash (Some text) hashes.Md5 hashes.Md5 is also = refl
same_hash (Some text) hashes.Md5 hashes.Sha256 is also = absurd (apart (codes "md5") (codes "sha256") refl (sym is ∙ also))
same_hash (Some text) hashes.Sha256 hashes.Nothing is also = absurd (apart (codes "sha256") (codes "none") refl (sym is ∙ also))
same_hash (Some text) hashes.Sha256 hashes.Md5 is also = absurd (apart (codes "sha256") (codes "md5") refl (sym is ∙ also))
same_hash (Some text) hashes.Sha256 hashes.Sha256 is also = refl

-- a list of checksums without a hash
pub no_checksums : (rows : List Row) (hash : HashKind) (manifest : Option Text) → IsHash (first_of (codes "hash") rows) hash → manifest ≡ first_of (codes "manifest") rows
    → true ≡ has_no_checksums hash manifest → (options : ProfileOptions) → IsProfile rows options → ⊥
no_checksums rows hash manifest named there none options is =
    let one : hash ≡ options.hash = same_hash (first_of (codes "hash") rows) hash options.hash named is.hash in
    let file : manifest ≡ option_map (λ path. path.now) options.manifest = there ∙ sym is.manifest in
    let bad : true ≡ false = none ∙ (ap (λ (h : HashKind). has_no_checksums h manifest) one ∙ (ap (λ (m : Option Text). has_no_checksums options.hash m) file ∙ is.checksums)) in
    cc

-- hashes to compare where files get none
pub checked_by_nothing : (rows : List Row) (check : Bool) (hash : HashKind) → IsFlag (one_of (codes "check") rows) check → IsHash (first_of (codes "hash") rows) hash
    → true ≡ checks_nothing check hash → (options : SubmitOptions) → IsSubmit rows options → ⊥
checked_by_nothing rows check hash flag named nothing options is =
    let one : check ≡ options.check = same_flag (one_of (codes "check") rows) check options.check flag is.check in
    let other : hash ≡ options.hash = same_hash (first_of (codes "hash") rows) hash options.hash named is.hash in
    let bad : true ≡ false = nothing ∙ (ap (λ (b : Bool). checks_nothing b hash) one ∙ (ap (λ (h : HashKind). checks_nothing options.check h) other ∙ is.compared)) in
    cc

-- formats of files that are not read, two measures, and two registries
pub nothing_read : (rows : List Row) (quick identify : Bool) → IsFlag (one_of (codes "quick") rows) quick → IsFlag (one_of (codes "identify") rows) identify
    → true ≡ reads_nothing quick identify → (options : VerifyOptions) → IsVerify rows options → ⊥
nothing_read rows quick identify is_quick is_identify none options is =
    let one : quick ≡ options.quick = same_flag (one_of (codes "quick") rows) quick options.quick is_quick is.quick in
    let other : identify ≡ options.identify = same_flag (one_of (codes "identify") rows) identify options.identify is_identify is.identify in
    let bad : true ≡ false = none ∙ (ap (λ (b : Bool). reads_nothing b identify) one ∙ (ap (λ (b : Bool). reads_nothing options.quick b) other ∙ is.reads_files)) in
    cc

pub measured_twice : (rows : List Row) (quick sizes_only : Bool) → IsFlag (one_of (codes "quick") rows) quick → IsFlag (one_of (codes "sizes-only") rows) sizes_only
    → true ≡ measures_twice quick sizes_only → (options : VerifyOptions) → IsVerify rows options → ⊥
measured_twice rows quick sizes_only is_quick is_sizes twice options is =
    let one : quick ≡ options.quick = same_flag (one_of (codes "quick") rows) quick options.quick is_quick is.quick in
    let other : sizes_only ≡ options.sizes_only = same_flag (one_of (codes "sizes-only") rows) sizes_only options.sizes_only is_sizes is.sizes_only in
    let bad : true ≡ false = twice ∙ (ap (λ (b : Bool). measures_twice b sizes_only) one ∙ (ap (λ (b : Bool). measures_twice options.quick b) other ∙ is.one_measure)) in
    cc

pub two_named : (rows : List Row) (everyday : Bool) (registry : Option Text) → IsFlag (one_of (codes "everyday") rows) everyday → registry ≡ first_of (codes "registry") rows
    → true ≡ names_two everyday registry → (options : VerifyOptions) → IsVerify rows options → ⊥
two_named rows everyday registry flag there two options is =
    let one : everyday ≡ is.everyday = same_flag (one_of (codes "everyday") rows) everyday is.everyday flag is.is_flag in
    let file : registry ≡ option_map (λ path. path.now) options.registry = there ∙ sym is.registry in
    let bad : true ≡ false = two ∙ (ap (λ (b : Bool). names_two b registry) one ∙ (ap (λ (r : Option Text). names_two is.everyday r) file ∙ is.names_one)) in
    cc

-- no end beside a number
pub no_count : (rows : List Row) (number : Text) → IsFlag (one_of (codes "forever") rows) true → Some number ≡ first_of (codes "connections") rows
    → (count : Option ℕ) → IsCount rows count → ⊥
no_count rows number forever given None is = let bad : Some number ≡ None = given ∙ is.1 in cc
no_count rows number forever given (Some count) is = let bad : true ≡ false = same_flag (one_of (codes "forever") rows) true false forever is.0 in cc

-- what the options of the command with this name give, if they ask for anything
abbrev AsksServe : List Row → Type 0
AsksServe rows =
    ((registry : RegistrySource) × IsSource rows registry) × ((port : ℕ) × IsGiven 16 (one_of (codes "port") rows) port) × ((options : ServeOptions) × IsServing rows options)

abbrev AsksSend : List Row → Type 0
AsksSend rows = ((port : ℕ) × IsGiven 16 (one_of (codes "port") rows) port) × ((client : ℕ) × IsGiven 32 (one_of (codes "client") rows) client)

abbrev AsksCompact : List Row → Type 0
AsksCompact rows = ((registry : RegistrySource) × IsSource rows registry) × ((file : Text) × (Some file ≡ first_of (codes "file") rows))

abbrev AsksBy : Text → List Row → Type 0
AsksBy name rows =
    MatchBool (bytes_eq name (codes "profile")) ((options : ProfileOptions) × IsProfile rows options)
    (MatchBool (bytes_eq name (codes "submit")) ((options : SubmitOptions) × IsSubmit rows options)
    (MatchBool (bytes_eq name (codes "verify")) ((options : VerifyOptions) × IsVerify rows options)
    (MatchBool (bytes_eq name (codes "report")) ((options : ReportOptions) × IsReport rows options)
    (MatchBool (bytes_eq name (codes "identify")) ((options : IdentifyOptions) × IsIdentify rows options)
    (MatchBool (bytes_eq name (codes "registry")) ((options : RegistryOptions) × IsConversion rows options)
    (MatchBool (bytes_eq name (codes "script")) ((registry : RegistrySource) × IsSource rows registry)
    (MatchBool (bytes_eq name (codes "run")) ((registry : RegistrySource) × IsSource rows registry)
    (MatchBool (bytes_eq name (codes "serve")) (AsksServe rows)
    (MatchBool (bytes_eq name (codes "send")) (AsksSend rows)
    (MatchBool (bytes_eq name (codes "compact")) (AsksCompact rows) ⊥))))))))))

pub asks_by : (name : Text) (rows : List Row) (asked : Asked) → IsAskedBy name rows asked → AsksBy name rows
asks_by name rows (Profile options) is = subst (λ (n : Text). AsksBy n rows) (sym is.0) (options, is.1)
asks_by name rows (Submit options) is = subst (λ (n : Text). AsksBy n rows) (sym is.0) (options, is.1)
asks_by name rows (Verify options) is = subst (λ (n : Text). AsksBy n rows) (sym is.0) (options, is.1)
asks_by name rows (Report options) is = subst (λ (n : Text). AsksBy n rows) (sym is.0) (options, is.1)
asks_by name rows (Identify options) is = subst (λ (n : Text). AsksBy n rows) (sym is.0) (options, is.1)
asks_by name rows (Registry options) is = subst (λ (n : Text). AsksBy n rows) (sym is.0) (options, is.1)
asks_by name rows (Script registry) is = subst (λ (n : Text). AsksBy n rows) (sym is.0) (registry, is.1)
asks_by name rows (Run registry journal) is = subst (λ (n : Text). AsksBy n rows) (sym is.0) (registry, is.1)
asks_by name rows (Serve registry journal port options) is = subst (λ (n : Text). AsksBy n rows) (sym is.0) ((registry, is.1), (port, is.3), (options, is.4))
asks_by name rows (Send port client first) is = subst (λ (n : Text). AsksBy n rows) (sym is.0) ((port, is.1), (client, is.2))
asks_by name rows (Compact registry file quiet) is = subst (λ (n : Text). AsksBy n rows) (sym is.0) ((registry, is.1), (file.now, is.2))

-- no command has this name
not_by : (name : Text) (asked : Asked) (rows : List Row) → (Some name ≡ Some (codes "profile") → ⊥) → (Some name ≡ Some (codes "submit") → ⊥) → (Some name ≡ Some (codes "verify") → ⊥)
    → (Some name ≡ Some (codes "report") → ⊥) → (Some name ≡ Some (codes "identify") → ⊥) → (Some name ≡ Some (codes "registry") → ⊥) → (Some name ≡ Some (codes "script") → ⊥) → (Some name ≡ Some (codes "run") → ⊥)
    → (Some name ≡ Some (codes "serve") → ⊥) → (Some name ≡ Some (codes "send") → ⊥) → (Some name ≡ Some (codes "compact") → ⊥) → IsAskedBy name rows asked → ⊥
not_by name (Profile options) rows profile submit verify report identify registry script run serve send compact is = profile (ap (λ (t : Text). Some t) is.0)
not_by name (Submit options) rows profile submit verify report identify registry script run serve send compact is = submit (ap (λ (t : Text). Some t) is.0)
not_by name (Verify options) rows profile submit verify report identify registry script run serve send compact is = verify (ap (λ (t : Text). Some t) is.0)
not_by name (Report options) rows profile submit verify report identify registry script run serve send compact is = report (ap (λ (t : Text). Some t) is.0)
not_by name (Identify options) rows profile submit verify report identify registry script run serve send compact is = identify (ap (λ (t : Text). Some t) is.0)
not_by name (Registry options) rows profile submit verify report identify registry script run serve send compact is = registry (ap (λ (t : Text). Some t) is.0)
not_by name (Script source) rows profile submit verify report identify registry script run serve send compact is = script (ap (λ (t : Text). Some t) is.0)
not_by name (Run source journal) rows profile submit verify report identify registry script run serve send compact is = run (ap (λ (t : Text). Some t) is.0)
not_by name (Serve source journal port options) rows profile submit verify report identify registry script run serve send compact is = serve (ap (λ (t : Text). Some t) is.0)
not_by name (Send port client first) rows profile submit verify report identify registry script run serve send compact is = send (ap (λ (t : Text). Some t) is.0)
not_by name (Compact source file quiet) rows profile submit verify report identify registry script run serve send compact is = compact (ap (λ (t : Text). Some t) is.0)

-- the parse met a subcommand of this name
pub name_met : {Z : Type 0} (met : Option (Box SubCommand Z)) (name : Text) (rows : List Row) → subcommand_rows met ≡ Some (name, rows) → option_map (λ b. (out-SubCommand (box_value b)).name.now) met ≡ Some name
name_met None name rows is = ap (λ (entered : Option (Text × List Row)). option_map (λ p. p.0) entered) is
name_met (Some b) name rows is = ap (λ (entered : Option (Text × List Row)). option_map (λ p. p.0) entered) is

pub none_met : {P : Type 0} → (false ≡ true) ↔ P → P → ⊥
none_met either is = let bad : false ≡ true = either.1 is in cc

pub no_command : (m : ArgMatches) → (subcommand_name_of m ≡ Some (codes "profile") → ⊥) → (subcommand_name_of m ≡ Some (codes "submit") → ⊥) → (subcommand_name_of m ≡ Some (codes "verify") → ⊥)
    → (subcommand_name_of m ≡ Some (codes "report") → ⊥) → (subcommand_name_of m ≡ Some (codes "identify") → ⊥) → (subcommand_name_of m ≡ Some (codes "registry") → ⊥) → (subcommand_name_of m ≡ Some (codes "script") → ⊥)
    → (subcommand_name_of m ≡ Some (codes "run") → ⊥) → (subcommand_name_of m ≡ Some (codes "serve") → ⊥) → (subcommand_name_of m ≡ Some (codes "send") → ⊥)
    → (subcommand_name_of m ≡ Some (codes "compact") → ⊥) → (asked : Asked) → IsAsked (subcommand_rows_of m) asked → ⊥
no_command m profile submit verify report identify registry script run serve send compact asked is =
    let named : subcommand_name_of m ≡ Some is.name = name_met (out-ArgMatches m).subcommand is.name is.rows is.is_entered in
    not_by is.name asked is.rows (λ n. profile (named ∙ n)) (λ n. submit (named ∙ n)) (λ n. verify (named ∙ n)) (λ n. report (named ∙ n)) (λ n. identify (named ∙ n)) (λ n. registry (named ∙ n)) (λ n. script (named ∙ n))
    (λ n. run (named ∙ n)) (λ n. serve (named ∙ n)) (λ n. send (named ∙ n)) (λ n. compact (named ∙ n)) is.asks

-- an error of words without a fault
pub memory_alone : (faults : Kinds) (error : Error) → faults ≡ [] → HasKind faults error → kind_of error ≡ OutOfMemory
memory_alone faults error none (inl memory) = memory
memory_alone faults error none (inr other) = absurd (subst (λ (kinds : Kinds). IsAmong (kind_of error) kinds) none other)
