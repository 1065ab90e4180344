use Rattle.std.proofs.Common.{◌∙◌, Option, codes, subst, sym}
use Rattle.std.specs.Str.Parse.{ExplainsUnsignedError, HasUnsignedDigitsIfOk, ParsesUnsigned}
use Rattle.clap.specs.Words.{Text, found_of, rows_of}
use Rattle.clap.proofs.WalkLemmas.{first_value-rows}
use Rattle.droid_arguments.specs.Values.{IsHash}
use Rattle.droid_arguments.proofs.Options.{number_or}
use Rattle.droid_arguments.proofs.Refusals.{no_checksums, not_found}
use Rattle.droid_arguments.proofs.profile.profile_options.Goals as goal

pub returns : goal.returns
returns c =
    let found = found_of c.args.profile.now in
    let folder = c.in_ok-folder.ensures ∙ first_value-rows found (codes "folder") in
    let registry = c.get_str-registry.ensures ∙ first_value-rows found (codes "registry") in
    let limit = number_or (λ bs r. ParsesUnsigned 32 10 bs r × ExplainsUnsignedError 10 bs r × HasUnsignedDigitsIfOk bs r) 32 (λ text r gives. gives.0) 65536
    found (codes "limit") c.get_one.result c.unwrap_or-limit.result c.get_one.ensures.none c.get_one.ensures.value c.unwrap_or-limit.ensures in
    let hash = subst (λ (o : Option Text). IsHash o c.in_ok-hash.hash) (c.get_str-hash_word.ensures ∙ first_value-rows found (codes "hash")) c.in_ok-hash.ensures in
    let output = c.get_str-output.ensures ∙ first_value-rows found (codes "output") in
    let manifest = c.get_str-manifest.ensures ∙ first_value-rows found (codes "manifest") in
    let skipped = c.get_str-skipped.ensures ∙ first_value-rows found (codes "skipped") in
    let report = c.get_str-report.ensures ∙ first_value-rows found (codes "report") in
    record {
      folder = folder;
      registry = registry;
      limit = limit;
      match_all = c.flag_of-match_all.ensures;
      hash = hash;
      output = output;
      manifest = manifest;
      checksums = sym c.has_no_checksums.ensures ∙ c.if-has_no_checksums.false;
      skipped = skipped;
      report = report;
      quiet = c.flag_of-quiet.ensures;
    }

pub returns-in_err-folder : goal.returns-in_err-folder
returns-in_err-folder c = rw c.from_residual.ensures (λ options is. not_found _ _ options.folder.now c.in_err-folder.ensures is.folder (first_value-rows (found_of c.args.profile.now) (codes "folder")))

pub returns-in_err-hash : goal.returns-in_err-hash
returns-in_err-hash c = rw c.from_residual-in_err-hash.ensures (λ options is.
    let word = c.get_str-hash_word.ensures ∙ first_value-rows (found_of c.args.profile.now) (codes "hash") in
    c.in_err-hash.ensures options.hash (subst (λ (o : Option Text). IsHash o options.hash) (sym word) is.hash))

pub returns-then-has_no_checksums : goal.returns-then-has_no_checksums
returns-then-has_no_checksums c =
    let found = found_of c.args.profile.now in
    no_checksums (rows_of found) c.in_ok-hash.hash _
    (subst (λ (o : Option Text). IsHash o c.in_ok-hash.hash) (c.get_str-hash_word.ensures ∙ first_value-rows found (codes "hash")) c.in_ok-hash.ensures)
    (c.get_str-manifest.ensures ∙ first_value-rows found (codes "manifest"))
    (sym c.if-has_no_checksums.true ∙ c.has_no_checksums.ensures)
