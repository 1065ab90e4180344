-- A format is left out.
use Rattle.std.proofs.Common.{◌≡◌, ◌∙◌, length, refl, sym}
use Rattle.droid_signature.specs.Formats.{formats_of}
use Rattle.droid_signature.specs.Views.{all_of}
use Rattle.droid_signature.specs.declared.formats.Keeping.{Keeping}
use Rattle.droid_signature.proofs.Keepings.{formats_length, keeps_left}
use Rattle.droid_signature.proofs.formats.Keeping.keep.Goals as goal

pub returns-in_ok-leave_out-in-Some : goal.returns-in_ok-leave_out-in-Some
returns-in_ok-leave_out-in-Some c = λ xs keeps.
    let new : Keeping = record { table = c.leave_out.new.self; kept = c.args.self.now.kept; places = c.args.self.now.places } in
    let formats = formats_of (all_of c.args.self.now.kept.items) in
    let count : c.len.result ≡ length formats = c.len.ensures ∙ c.args.self.now.kept.ok.0 ∙ sym (formats_length c.args.self.now.kept.items) in
    keeps_left xs c.args.self.now new c.args.place c.args.format.now c.in-Some.why keeps (c.in-Some.ensures.some formats keeps.places count) refl refl c.in_ok-leave_out-in-Some.ensures
