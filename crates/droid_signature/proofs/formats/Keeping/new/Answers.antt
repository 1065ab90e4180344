-- There is no format yet.
use Rattle.std.proofs.Common.{◌≡◌, List, [], sym, ap, ◌∙◌, subst}
use Rattle.droid_signature.specs.RegistryTables.{format_lines}
use Rattle.droid_signature.specs.Formats.{LeavesFormat, TakesFormat, formats_of}
use Rattle.droid_signature.specs.PlaceMaps.{AreOf}
use Rattle.droid_signature.specs.Sifting.{Sifted, none}
use Rattle.droid_signature.specs.Views.{all_of}
use Rattle.droid_signature.specs.declared.formats.Kept.{Kept}
use Rattle.droid_signature.specs.declared.left_out.LeftOut.{LeftOut}
use Rattle.droid_signature.proofs.formats.Keeping.new.Goals as goal

pub returns : goal.returns
returns c =
    let empty : c.new-2.result.items ≡ [] = c.new-2.ensures.items in
    let K : List Kept → Type 0 = λ kept. Sifted TakesFormat LeavesFormat [] (all_of kept) c.new.result.left_out.items in
    let L : List LeftOut → Type 0 = λ left. Sifted TakesFormat LeavesFormat [] [] left in
    let P : List Kept → Type 0 = λ kept. AreOf c.new-3.result (formats_of (all_of kept)) in
    record {
      sifted = subst K (sym empty) (subst L (sym c.new.ensures.left_out) none);
      text = c.new.ensures.text ∙ sym (ap (λ (kept : List Kept). format_lines (formats_of (all_of kept))) empty);
      places = subst P (sym empty) c.new-3.ensures;
    }
