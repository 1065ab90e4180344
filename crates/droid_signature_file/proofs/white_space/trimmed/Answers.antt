-- By what the trimmed text is.
use Rattle.std.proofs.Common.{refl}
use Rattle.std.proofs.lemmas.Str.Ascii.{trim_ascii_is}
use Rattle.droid_signature_file.specs.Signatures.{trimmed_front}
use Rattle.droid_signature_file.proofs.white_space.trimmed.Goals as goal

pub returns : goal.returns
returns c = trim_ascii_is c.args.text.now c.trim_ascii.result.now (trimmed_front c.args.text.now) refl c.trim_ascii.ensures.value
