use Rattle.std.proofs.Common.{◌∙◌, [], List, Option, ap, codes, unwrap_or}
use Rattle.clap.proofs.WalkLemmas.{raw_values-rows}
use Rattle.clap.specs.Words.{Text, found_of}
use Rattle.droid_arguments.proofs.identify.files_of.Goals as goal

pub returns : goal.returns
returns c =
    c.files_or_none.ensures
    ∙ ap (λ (o : Option (List Text)). unwrap_or o []) (c.get_strs-files.ensures ∙ raw_values-rows (found_of c.args.identify.now) (codes "file"))
