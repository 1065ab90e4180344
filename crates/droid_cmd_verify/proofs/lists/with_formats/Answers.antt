use Rattle.std.proofs.Common.{◌≡◌, ◌∙◌, ◌&&◌, ap, refl, sym}
use Rattle.std.specs.Prelude.{Bool, Some, None, if◌then◌else◌}
use Rattle.droid_lists.specs.ListForms.{names_files_alone}
use Rattle.droid_cmd_verify.proofs.lists.with_formats.Goals as goal

pub returns-then-not-identify : goal.returns-then-not-identify
returns-then-not-identify c = rw c.if-not-identify.true (refl, refl, refl, refl)

pub returns-then-names_files_alone : goal.returns-then-names_files_alone
returns-then-names_files_alone c = (c.if-not-identify.false, sym c.names_files_alone.ensures ∙ c.if-names_files_alone.true)

pub returns : goal.returns
returns c =
    let alone : names_files_alone c.args.listed.form ≡ _ = sym c.names_files_alone.ensures ∙ c.if-names_files_alone.false in
    rw (c.if-not-identify.false, alone) (refl, refl, refl, refl)
