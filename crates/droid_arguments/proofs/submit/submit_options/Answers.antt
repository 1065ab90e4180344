use Rattle.std.proofs.Common.{◌∙◌, Option, codes, subst, sym}
use Rattle.std.specs.Str.Parse.{ExplainsUnsignedError, HasUnsignedDigitsIfOk, ParsesUnsigned}
use Rattle.clap.specs.Words.{Text, found_of, rows_of}
use Rattle.clap.proofs.WalkLemmas.{first_value-rows}
use Rattle.droid_arguments.specs.Values.{IsHash}
use Rattle.droid_arguments.proofs.Options.{number_or}
use Rattle.droid_arguments.proofs.Refusals.{checked_by_nothing, not_found}
use Rattle.droid_arguments.proofs.submit.submit_options.Goals as goal

pub returns : goal.returns
returns c =
    let found = found_of c.args.submit.now in
    let folder = c.in_ok-folder.ensures ∙ first_value-rows found (codes "folder") in
    let name = c.get_str-name.ensures ∙ first_value-rows found (codes "name") in
    let piece_size = number_or (λ bs r. ParsesUnsigned 32 10 bs r × ExplainsUnsignedError 10 bs r × HasUnsignedDigitsIfOk bs r) 32 (λ text r gives. gives.0) 262144
    found (codes "piece-size") c.get_one.result c.unwrap_or-piece_size.result c.get_one.ensures.none c.get_one.ensures.value c.unwrap_or-piece_size.ensures in
    let limit = number_or (λ bs r. ParsesUnsigned 32 10 bs r × ExplainsUnsignedError 10 bs r × HasUnsignedDigitsIfOk bs r) 32 (λ text r gives. gives.0) 65536
    found (codes "limit") c.get_one-2.result c.unwrap_or-limit.result c.get_one-2.ensures.none c.get_one-2.ensures.value c.unwrap_or-limit.ensures in
    let hash = subst (λ (o : Option Text). IsHash o c.in_ok-hash.hash) (c.get_str-hash_word.ensures ∙ first_value-rows found (codes "hash")) c.in_ok-hash.ensures in
    let export = c.get_str-export.ensures ∙ first_value-rows found (codes "export") in
    let skipped = c.get_str-skipped.ensures ∙ first_value-rows found (codes "skipped") in
    let report = c.get_str-report.ensures ∙ first_value-rows found (codes "report") in
    record {
      folder = folder;
      destination = c.in_ok-to.ensures;
      name = name;
      piece_size = piece_size;
      limit = limit;
      match_all = c.flag_of-match_all.ensures;
      hash = hash;
      check = c.flag_of-check.ensures;
      compared = sym c.checks_nothing.ensures ∙ c.if-checks_nothing.false;
      export = export;
      skipped = skipped;
      report = report;
      quiet = c.flag_of-quiet.ensures;
    }

pub returns-in_err-to : goal.returns-in_err-to
returns-in_err-to c = rw c.from_residual.ensures (λ options is. c.in_err-to.ensures options.to is.destination)

pub returns-in_err-folder : goal.returns-in_err-folder
returns-in_err-folder c = rw c.from_residual-in_err-folder.ensures (λ options is. not_found _ _ options.folder.now c.in_err-folder.ensures is.folder (first_value-rows (found_of c.args.submit.now) (codes "folder")))

pub returns-in_err-hash : goal.returns-in_err-hash
returns-in_err-hash c = rw c.from_residual-in_err-hash.ensures (λ options is.
    let word = c.get_str-hash_word.ensures ∙ first_value-rows (found_of c.args.submit.now) (codes "hash") in
    c.in_err-hash.ensures options.hash (subst (λ (o : Option Text). IsHash o options.hash) (sym word) is.hash))

pub returns-then-checks_nothing : goal.returns-then-checks_nothing
returns-then-checks_nothing c =
    let found = found_of c.args.submit.now in
    checked_by_nothing (rows_of found) _ c.in_ok-hash.hash c.flag_of-check.ensures
    (subst (λ (o : Option Text). IsHash o c.in_ok-hash.hash) (c.get_str-hash_word.ensures ∙ first_value-rows found (codes "hash")) c.in_ok-hash.ensures)
    (sym c.if-checks_nothing.true ∙ c.checks_nothing.ensures)
