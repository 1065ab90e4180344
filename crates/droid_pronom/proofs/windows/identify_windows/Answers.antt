use Rattle.std.proofs.Common.{◌≡◌, ◌∙◌, [], ap}
use Rattle.std.specs.Str.{str_to_ascii_lowercase}
use Rattle.droid_pronom.specs.Found.{extension_of}
use Rattle.droid_pronom.specs.FoundWindows.{HitsWindows}
use Rattle.droid_pronom.proofs.FoundSteps.{found_signature, found_extension, found_nothing}
use Rattle.droid_pronom.proofs.windows.identify_windows.Goals as goal
use Rattle.droid_pronom.proofs.windows.identify_windows.Goals.{then-is_empty, else-is_empty}

pub returns-then-by_signature : goal.returns-then-by_signature
returns-then-by_signature c =
    let wanted : c.as_str.result.now ≡ str_to_ascii_lowercase (extension_of c.args.name.now) = c.as_str.ensures.value ∙ c.in_ok-wanted.ensures ∙ ap str_to_ascii_lowercase c.extension.ensures in
    found_signature (HitsWindows c.args.first.now c.args.last.now) c.args.registry.now c.args.name.now c.args.match_all c.in_ok-left.left.items c.in_ok-puids.puids c.is_mismatch-mismatch.result c.as_str.result.now
    c.in_ok-left.ensures.each (rw (c.as_slice.ensures.value, c.formats.ensures) at c.in_ok-puids.ensures) (λ e. let t = c.is_empty-by_signature.ensures.1 e in let f = c.if-by_signature.true in cc) wanted
    (rw (c.as_slice-then-by_signature.ensures.value, c.extensions.ensures.value) at c.is_mismatch-mismatch.ensures)

pub returns : goal.returns
returns c =
    let wanted : c.as_str-2.result.now ≡ str_to_ascii_lowercase (extension_of c.args.name.now) = c.as_str-2.ensures.value ∙ c.in_ok-wanted.ensures ∙ ap str_to_ascii_lowercase c.extension.ensures in
    let none : c.in_ok-puids.puids ≡ [] = c.is_empty-by_signature.ensures.0 c.if-by_signature.false in
    let left = rw (c.as_slice.ensures.value, c.formats.ensures, none) at c.in_ok-puids.ensures in
    let named = c.in_ok-puids-2.ensures (extension_of c.args.name.now) wanted in
    elim c.if-is_empty.branch [
      | then-is_empty w ↦ rw w.method-is (found_nothing (HitsWindows c.args.first.now c.args.last.now) c.args.registry.now c.args.name.now c.args.match_all c.in_ok-left.left.items c.in_ok-puids-2.puids
          c.in_ok-left.ensures.each left named (c.is_empty.ensures.0 w.if-is_empty.true))
      | else-is_empty w ↦ rw w.method-is (found_extension (HitsWindows c.args.first.now c.args.last.now) c.args.registry.now c.args.name.now c.args.match_all c.in_ok-left.left.items c.in_ok-puids-2.puids
          c.in_ok-left.ensures.each left named (λ e. let t = c.is_empty.ensures.1 e in let f = w.if-is_empty.false in cc))
    ]
