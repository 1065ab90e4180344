-- An extension is left out, or becomes a row.
use Rattle.std.proofs.Common.{◌∷◌, [], ◌∙◌, ℕ, List, Some, refl, sym, subst, arith}
use Rattle.std.specs.Prelude.{codes}
use Rattle.droid_signature.specs.RegistryTables.{ExtensionRow}
use Rattle.droid_signature.specs.Extensions.{Extension}
use Rattle.droid_signature.specs.Formats.{puid_in}
use Rattle.droid_signature.specs.Tables.{HasRow}
use Rattle.droid_signature.specs.Views.{kept_of}
use Rattle.droid_signature.specs.declared.left_out.Item.TheVariants as items
use Rattle.droid_signature.specs.declared.left_out.LeftOut.{LeftOut}
use Rattle.droid_signature.specs.declared.left_out.Why.TheVariants as why
use Rattle.droid_signature.proofs.Sifting.{fills_left, fills_taken}
use Rattle.droid_signature.proofs.extensions.add_extension.Goals as goal

pub returns-then-not-is_extension : goal.returns-then-not-is_extension
returns-then-not-is_extension c = λ xs fills.
    let x : Extension = record { place = c.args.place; of = kept_of c.args.of.now; at = c.args.at; text = c.args.text.now } in
    let left : LeftOut = record { format = Some c.args.of.now.place; item = items.Extension c.args.at; why = why.BadExtension } in
    fills_left x left c.leave_out.new.self fills c.in_ok-leave_out.ensures (λ before count. record { why = why.BadExtension; listed = refl; holds = sym c.is_extension.ensures ∙ c.if-not-is_extension.true })

pub returns-then-table-ge-EXTENSIONS_LIMIT : goal.returns-then-table-ge-EXTENSIONS_LIMIT
returns-then-table-ge-EXTENSIONS_LIMIT c = λ xs fills.
    let x : Extension = record { place = c.args.place; of = kept_of c.args.of.now; at = c.args.at; text = c.args.text.now } in
    let left : LeftOut = record { format = Some c.args.of.now.place; item = items.Extension c.args.at; why = why.Full } in
    fills_left x left c.leave_out-then-table-ge-EXTENSIONS_LIMIT.new.self fills c.in_ok-leave_out-2.ensures (λ before count. record { why = why.Full; listed = refl; holds = omega arith })

pub returns : goal.returns
returns c = λ xs fills.
    let x : Extension = record { place = c.args.place; of = kept_of c.args.of.now; at = c.args.at; text = c.args.text.now } in
    let row : ExtensionRow = record { place = c.args.place; puid = puid_in c.args.of.now.format.now; text = c.args.text.now } in
    let P : List ℕ → Type 0 = λ puid. HasRow c.args.table.now c.push.new.self (codes "E" ∷ puid ∷ c.args.text.now ∷ [] ∷ [] ∷ [] ∷ []) in
    fills_taken x row c.push.new.self fills (subst P c.puid_of.ensures c.in_ok-push.ensures) (omega arith)
    (λ before count. record { same = refl; valid = sym c.is_extension.ensures ∙ c.if-not-is_extension.false; readable = c.utf8.text; room = omega arith })
