-- How the comparison of a folder ends (this project's own).
use Rattle.std.specs.Prelude.{◌≡◌, ℕ, List, [], Some, None, codes}
use Rattle.std.specs.declared.io.ErrorKind.{ErrorKind}
use Rattle.std.specs.declared.io.ErrorKind.TheVariants as kinds
use Rattle.droid_fixity.specs.declared.checksum_lists.list_fault.ManifestFault.{ManifestFault}
use Rattle.droid_fixity.specs.declared.checksum_lists.list_fault.ManifestFault.TheVariants as manifests
use Rattle.droid_cmd_profile.specs.Endings.{at_number, told_no_csv}
use Rattle.droid_terminal.specs.Endings as endings
use Rattle.droid_terminal.specs.Endings.{Told, by, detailed, of_path}
use Rattle.droid_terminal.specs.FaultTable as table
use Rattle.droid_terminal.specs.Paths.{shown_text}
use Rattle.droid_terminal.specs.SeenAgain.{IsNoFolder}
use Rattle.droid_lists.specs.declared.list_content.UnreadList.{UnreadList}
use Rattle.droid_lists.specs.declared.list_content.UnreadList.TheVariants as lists
use Rattle.droid_cmd_verify.specs.declared.tree_check.CheckFault.{CheckFault}
use Rattle.droid_cmd_verify.specs.declared.tree_check.CheckFault.TheVariants as faults
use Rattle.droid_cmd_verify.specs.declared.verify_ending.VerifyEnding.{VerifyEnding}
use Rattle.droid_cmd_verify.specs.declared.verify_ending.VerifyEnding.TheVariants.{Same, Differing, NoFolder, Unopened}
use Rattle.droid_cmd_verify.specs.declared.verify_ending.VerifyEnding.TheVariants.{NoList, HasHashes, NoFormats}
use Rattle.droid_cmd_verify.specs.declared.verify_ending.VerifyEnding.TheVariants.{NoMemory, Numbers, Twice, Unwritten}

-- of a list that cannot be read
abbrev pub unlisted : UnreadList → VerifyEnding
unlisted lists.Memory = NoMemory
unlisted (lists.Profile fault) = NoList (lists.Profile fault)
unlisted (lists.Manifest fault) = NoList (lists.Manifest fault)
unlisted (lists.Twice same) = NoList (lists.Twice same)

-- of a tree that could not be compared
abbrev pub unchecked : CheckFault → VerifyEnding
unchecked faults.Memory = NoMemory
unchecked faults.Numbers = Numbers
unchecked (faults.Twice same) = Twice

-- of a list that could not be opened or read
abbrev pub told_unopened : ErrorKind → List ℕ → Told
told_unopened kinds.NotFound list = by table.list_missing (of_path list)
told_unopened kind list = detailed table.list_unopened (of_path list) None

-- of a list of checksums that is malformed or names no file
abbrev pub told_no_manifest : ManifestFault → List ℕ → Told
told_no_manifest manifests.Memory list = by table.memory []
told_no_manifest manifests.Empty list = by table.list_of_nothing (of_path list)
told_no_manifest (manifests.Line line) list = at_number table.list_line list line
told_no_manifest (manifests.Path line) list = at_number table.list_outside list line
told_no_manifest (manifests.Digest line) list = at_number table.list_digest list line

-- of a list that can't be read, for any of these reasons
abbrev pub told_no_list : UnreadList → List ℕ → Told
told_no_list lists.Memory list = by table.memory []
told_no_list (lists.Profile fault) list = told_no_csv fault list
told_no_list (lists.Manifest fault) list = told_no_manifest fault list
told_no_list (lists.Twice same) list = detailed table.list_twice (of_path list) (Some (shown_text same.path))

-- the ending by the table
abbrev pub Tells : VerifyEnding → List ℕ → List ℕ → Told → Type 0
Tells Same list folder it = it ≡ endings.Whole
Tells Differing list folder it = it ≡ endings.Partly
Tells NoFolder list folder it = IsNoFolder folder it
Tells (Unopened kind) list folder it = it ≡ told_unopened kind list
Tells (NoList fault) list folder it = it ≡ told_no_list fault list
Tells HasHashes list folder it = it ≡ by table.has_hashes (of_path list)
Tells NoFormats list folder it = it ≡ by table.no_formats (of_path list)
Tells NoMemory list folder it = it ≡ by table.memory []
Tells Numbers list folder it = it ≡ by table.too_many (of_path folder)
Tells Twice list folder it = it ≡ by table.listed_twice (of_path folder)
Tells Unwritten list folder it = it ≡ by table.unwritten (of_path (codes "standard output"))
