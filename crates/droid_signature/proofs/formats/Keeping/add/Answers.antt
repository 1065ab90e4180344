-- One more format.
use Rattle.std.proofs.Common.{◌≡◌, ◌∙◌, length, sym}
use Rattle.droid_signature.specs.Formats.{format_of, formats_of}
use Rattle.droid_signature.specs.Views.{all_of}
use Rattle.droid_signature.specs.declared.formats.Keeping.{Keeping}
use Rattle.droid_signature.specs.declared.formats.Kept.{Kept}
use Rattle.droid_signature.proofs.Keepings.{formats_length, keeps_taken}
use Rattle.droid_signature.proofs.formats.Keeping.add.Goals as goal

pub returns : goal.returns
returns c = λ xs keeps fits.
    let new : Keeping = record { table = c.push.new.self; kept = c.push-2.new.self; places = c.add.new.self } in
    let it : Kept = record { place = c.args.place; format = c.args.format } in
    let formats = formats_of (all_of c.args.self.now.kept.items) in
    let count : c.len-count.result ≡ length formats = c.len-count.ensures ∙ c.args.self.now.kept.ok.0 ∙ sym (formats_length c.args.self.now.kept.items) in
    keeps_taken xs c.args.self.now new it keeps fits c.in_ok-push-2.ensures.items
    (rw (c.puid_of-puid.ensures, c.name.ensures, c.version.ensures, c.mime.ensures) at c.in_ok-push.ensures)
    (c.in_ok-add.ensures formats (format_of c.args.format.now) keeps.places (sym c.puid_of-puid.ensures) fits.fresh count)
