-- One more extension.
use Rattle.std.proofs.Common.{◌++◌, ◌∷◌, [], ℕ, List, take, subst, arith}
use Rattle.droid_signature.specs.RegistryTables.{extension_fields}
use Rattle.droid_signature.specs.Extensions.{Extension, LeavesExtension, TakesExtension}
use Rattle.droid_signature.specs.Sifting.{by_place}
use Rattle.droid_signature.specs.Tables.{Fills}
use Rattle.droid_signature.specs.Views.{kept_of}
use Rattle.droid_signature.proofs.Sifting.{fills_more}
use Rattle.droid_signature.proofs.extensions.add_extensions.Goals as goal

pub loop-at-preserved : goal.loop-at-preserved
loop-at-preserved c = λ xs fills.
    let f : ℕ → List ℕ → List Extension = λ at text. record { place = c.args.place; of = kept_of c.args.of.now; at = at; text = text } ∷ [] in
    let items = c.extensions-extensions.result.now in
    let i = c.loop-at.at in
    let front = by_place f 0 (take i items) in
    let P : List ℕ → Type 0 = λ text. Fills TakesExtension LeavesExtension extension_fields (xs ++ front ++ f i text) c.add_extension.new.table in
    fills_more f items i c.index-extensions-at.result xs c.add_extension.new.table (omega arith) c.index-extensions-at.is (subst P c.as_str.ensures.value (c.in_ok-add_extension.ensures (xs ++ front) (c.loop-at.invariant xs fills)))
