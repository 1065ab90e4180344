use Rattle.std.proofs.Common.{◌∙◌, codes, sym}
use Rattle.std.specs.Str.Parse.{ExplainsUnsignedError, HasUnsignedDigitsIfOk, ParsesUnsigned}
use Rattle.clap.specs.Words.{found_of, rows_of}
use Rattle.clap.proofs.WalkLemmas.{first_value-rows}
use Rattle.droid_arguments.proofs.Options.{number_or}
use Rattle.droid_arguments.proofs.Refusals.{measured_twice, not_found, nothing_read, two_named}
use Rattle.droid_arguments.proofs.verify.verify_options.Goals as goal

pub returns : goal.returns
returns c =
    let found = found_of c.args.verify.now in
    record {
      folder = c.in_ok-folder.ensures ∙ first_value-rows found (codes "folder");
      against = c.in_ok-against.ensures ∙ first_value-rows found (codes "against");
      quick = c.flag_of-quick.ensures;
      sizes_only = c.flag_of-sizes_only.ensures;
      identify = c.flag_of-identify.ensures;
      registry = c.get_str-registry.ensures ∙ first_value-rows found (codes "registry");
      everyday = c.flag_of-everyday.result;
      is_flag = c.flag_of-everyday.ensures;
      names_one = sym c.names_two.ensures ∙ c.if-names_two.false;
      reads_files = sym c.reads_nothing.ensures ∙ c.if-reads_nothing.false;
      one_measure = sym c.measures_twice.ensures ∙ c.if-measures_twice.false;
      limit = number_or (λ bs r. ParsesUnsigned 32 10 bs r × ExplainsUnsignedError 10 bs r × HasUnsignedDigitsIfOk bs r) 32 (λ text r gives. gives.0) 65536
          found (codes "limit") c.get_one.result c.unwrap_or-limit.result c.get_one.ensures.none c.get_one.ensures.value c.unwrap_or-limit.ensures;
      match_all = c.flag_of-match_all.ensures;
      quiet = c.flag_of-quiet.ensures;
    }

pub returns-in_err-folder : goal.returns-in_err-folder
returns-in_err-folder c = rw c.from_residual.ensures (λ options is. not_found _ _ options.folder.now c.in_err-folder.ensures is.folder (first_value-rows (found_of c.args.verify.now) (codes "folder")))

pub returns-in_err-against : goal.returns-in_err-against
returns-in_err-against c = rw c.from_residual-in_err-against.ensures (λ options is. not_found _ _ options.against.now c.in_err-against.ensures is.against (first_value-rows (found_of c.args.verify.now) (codes "against")))

pub returns-then-reads_nothing : goal.returns-then-reads_nothing
returns-then-reads_nothing c =
    nothing_read (rows_of (found_of c.args.verify.now)) _ _ c.flag_of-quick.ensures c.flag_of-identify.ensures (sym c.if-reads_nothing.true ∙ c.reads_nothing.ensures)

pub returns-then-measures_twice : goal.returns-then-measures_twice
returns-then-measures_twice c =
    measured_twice (rows_of (found_of c.args.verify.now)) _ _ c.flag_of-quick.ensures c.flag_of-sizes_only.ensures (sym c.if-measures_twice.true ∙ c.measures_twice.ensures)

pub returns-then-names_two : goal.returns-then-names_two
returns-then-names_two c =
    let found = found_of c.args.verify.now in
    two_named (rows_of found) _ _ c.flag_of-everyday.ensures (c.get_str-registry.ensures ∙ first_value-rows found (codes "registry")) (sym c.if-names_two.true ∙ c.names_two.ensures)
