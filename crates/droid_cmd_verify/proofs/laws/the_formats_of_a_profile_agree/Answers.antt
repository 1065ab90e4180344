use Rattle.droid_cmd_verify.proofs.FormatAgreement.{no_format_differs}
use Rattle.droid_cmd_verify.proofs.laws.the_formats_of_a_profile_agree.Goals as goal

pub returns : goal.returns
returns c = λ registry criteria hash nodes rows are back has. no_format_differs registry criteria hash nodes rows back are.paths has
