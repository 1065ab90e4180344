use Rattle.std.proofs.Common.{◌≡◌, List, ℕ, Some, ap, sym, subst}
use Rattle.std.specs.Prelude.{string_bytes}
use Rattle.std.specs.Str.{IsUtf8}
use Rattle.std.proofs.lemmas.Str.{IsUtf8-string_bytes}
use Rattle.droid_frame.proofs.Utf8.{text_at-utf8, text_at-other}
use Rattle.droid_frame.proofs.reading.fields.text_of.Goals as goal

pub returns-in-Ok : goal.returns-in-Ok
returns-in-Ok c =
    let same : string_bytes c.in-Ok.text ≡ c.args.bytes.items = ap (λ v. v.items) c.in-Ok.ensures.ok in
    let utf8 : IsUtf8 c.args.bytes.items = subst IsUtf8 same (IsUtf8-string_bytes c.in-Ok.text) in
    rw (text_at-utf8 c.args.bytes.items utf8, ← same) (ap (λ (t : List ℕ). Some t) c.from.ensures)

pub returns : goal.returns
returns c = sym (text_at-other c.args.bytes.items (λ h. let impossible = c.in-Err.ensures.succeeds h in cc))
