use Rattle.std.proofs.Common.{rules, FitsSigned, w64, refl, ◌∙◌}
use Rattle.std.proofs.lemmas.Int.{to_z-of_z}
use Rattle.droid_cmd_identify.proofs.telling.tell_identity.Goals as goal

pub returns : goal.returns
returns g c = record {
  shown = record {
    path = c.args.told.shown;
    size = c.args.told.size;
    modified = c.as_str.result;
    method = c.args.identity.now.found.method;
    mismatch = c.args.identity.now.found.mismatch;
    text = c.args.identity.now.text;
    hash = c.shown_hash.result;
    formats = c.as_slice-shown.result;
  };
  its = record {
    its_path = refl;
    its_size = refl;
    its_modified = λ form is.
        let fits : FitsSigned w64 c.args.told.modified = search rules in
        let its = rw (to_z-of_z w64 c.args.told.modified fits) at (c.in_ok-modified.ensures form) in
        c.as_str.ensures.value ∙ its is;
    method = refl;
    mismatch = refl;
    text = refl;
    its_hash = rw c.of-digits.ensures at c.shown_hash.ensures;
    formats = λ file scan_limit match_all is. rw c.as_slice-shown.ensures.value (c.in_ok-formats.ensures file scan_limit match_all is);
  };
  came = c.outcome_of-outcome.ensures;
  printed = c.in_ok-print_file.ensures;
}
