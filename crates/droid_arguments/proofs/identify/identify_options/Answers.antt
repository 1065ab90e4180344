use Rattle.std.proofs.Common.{◌∙◌, Option, codes, subst, sym}
use Rattle.std.specs.Str.Parse.{ExplainsUnsignedError, HasUnsignedDigitsIfOk, ParsesUnsigned}
use Rattle.clap.specs.Words.{Text, found_of, rows_of}
use Rattle.clap.proofs.WalkLemmas.{first_value-rows}
use Rattle.droid_arguments.specs.Identifying.{IsHashOrNone}
use Rattle.droid_arguments.proofs.Options.{number_or}
use Rattle.droid_arguments.proofs.IdentifyRefusals.{same_fit, two_forms, two_registries, unfit}
use Rattle.droid_arguments.proofs.identify.identify_options.Goals as goal

pub returns : goal.returns
returns c =
    let found = found_of c.args.identify.now in
    record {
      recursive = c.flag_of-recursive.ensures;
      list = c.get_str-list.ensures ∙ first_value-rows found (codes "files-from");
      zero = c.flag_of-zero.ensures;
      name = c.get_str-name.ensures ∙ first_value-rows found (codes "name");
      registry = c.get_str-registry.ensures ∙ first_value-rows found (codes "registry");
      everyday = c.flag_of-everyday.result;
      is_flag = c.flag_of-everyday.ensures;
      names_one = sym c.names_two.ensures ∙ c.if-names_two.false;
      limit = number_or (λ bs r. ParsesUnsigned 32 10 bs r × ExplainsUnsignedError 10 bs r × HasUnsignedDigitsIfOk bs r) 32 (λ text r gives. gives.0) 65536
          found (codes "limit") c.get_one.result c.unwrap_or-limit.result c.get_one.ensures.none c.get_one.ensures.value c.unwrap_or-limit.ensures;
      match_all = c.flag_of-match_all.ensures;
      hash = subst (λ (o : Option Text). IsHashOrNone o c.in_ok-hash.hash) (c.get_str-hash_word.ensures ∙ first_value-rows found (codes "hash")) c.in_ok-hash.ensures;
      form = record {
        csv = c.flag_of-csv.result;
        is_csv = c.flag_of-csv.ensures;
        json = c.flag_of-json.result;
        is_json = c.flag_of-json.ensures;
        siegfried = c.flag_of-siegfried.result;
        is_siegfried = c.flag_of-siegfried.ensures;
        puid = c.flag_of-puid.result;
        is_puid = c.flag_of-puid.ensures;
        one = sym c.in_ok-form.ensures;
      };
      why = c.get_str-why.ensures ∙ first_value-rows found (codes "why");
      fit = sym (same_fit (rows_of found) c.files_of-files.result.now _ _ _ _ _ _ _ c.files_of-files.ensures c.dashes-inputs.ensures c.misfits.ensures) ∙ c.if-misfits.false;
    }

pub returns-then-names_two : goal.returns-then-names_two
returns-then-names_two c =
    let found = found_of c.args.identify.now in
    two_registries (rows_of found) _ _ c.flag_of-everyday.ensures (c.get_str-registry.ensures ∙ first_value-rows found (codes "registry")) (sym c.if-names_two.true ∙ c.names_two.ensures)

pub returns-in_err-hash : goal.returns-in_err-hash
returns-in_err-hash c = rw c.from_residual.ensures (λ options is.
    let word = c.get_str-hash_word.ensures ∙ first_value-rows (found_of c.args.identify.now) (codes "hash") in
    c.in_err-hash.ensures options.hash (subst (λ (o : Option Text). IsHashOrNone o options.hash) (sym word) is.hash))

pub returns-in_err-form : goal.returns-in_err-form
returns-in_err-form c = rw c.from_residual-in_err-form.ensures (
    two_forms (rows_of (found_of c.args.identify.now)) _ _ _ _ c.flag_of-csv.ensures c.flag_of-json.ensures c.flag_of-siegfried.ensures c.flag_of-puid.ensures c.in_err-form.ensures)

pub returns-then-misfits : goal.returns-then-misfits
returns-then-misfits c =
    let found = found_of c.args.identify.now in
    unfit (rows_of found) _ _ _ _ c.in_ok-form.form (c.get_str-list.ensures ∙ first_value-rows found (codes "files-from")) (c.get_str-name.ensures ∙ first_value-rows found (codes "name"))
    (c.get_str-why.ensures ∙ first_value-rows found (codes "why")) c.flag_of-zero.ensures
    (record {
      csv = c.flag_of-csv.result;
      is_csv = c.flag_of-csv.ensures;
      json = c.flag_of-json.result;
      is_json = c.flag_of-json.ensures;
      siegfried = c.flag_of-siegfried.result;
      is_siegfried = c.flag_of-siegfried.ensures;
      puid = c.flag_of-puid.result;
      is_puid = c.flag_of-puid.ensures;
      one = sym c.in_ok-form.ensures;
    })
    (sym c.if-misfits.true ∙ same_fit (rows_of found) c.files_of-files.result.now _ _ _ _ _ _ _ c.files_of-files.ensures c.dashes-inputs.ensures c.misfits.ensures)
