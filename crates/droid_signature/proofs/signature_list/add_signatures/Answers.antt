-- One more signature, and all of them.
use Rattle.std.proofs.Common.{◌<◌, ◌∙◌, ◌++◌, ◌∷◌, [], ℕ, List, take, get_or, length, subst, arith}
use Rattle.std.proofs.lemmas.List.{take_all}
use Rattle.droid_signature.specs.Sifting.{by_place}
use Rattle.droid_signature.specs.Views.{kept_of}
use Rattle.droid_signature.proofs.Sifting.{default_free}
use Rattle.droid_signature.specs.Signatures.{Named, Signs, signatures_of}
use Rattle.droid_signature.proofs.Signing.{signs_more}
use Rattle.droid_signature.proofs.signature_list.add_signatures.Goals as goal

pub loop-at-preserved : goal.loop-at-preserved
loop-at-preserved c = λ signatures xs place are signs.
    let f : ℕ → ℕ → List Named = λ at id. record { place = place; of = kept_of c.args.of.now; id = id } ∷ [] in
    let items = c.signatures-ids.result.now in
    let i = c.loop-at.at in
    let below : i < length items = omega arith in
    let item = get_or items i 0 in
    signs_more signatures f items i item xs c.add_signature.new.table below (default_free items i 0 item below) (c.in_ok-add_signature.ensures signatures (xs ++ by_place f 0 (take i items)) place are (c.loop-at.invariant signatures xs place are signs))

pub returns : goal.returns
returns c = λ signatures xs place are signs.
    let items = c.signatures-ids.result.now in
    subst (λ (l : List ℕ). Signs signatures (xs ++ signatures_of place (kept_of c.args.of.now) l) c.loop-at.table) (take_all c.loop-at.at items (omega arith) ∙ c.signatures-ids.ensures) (c.loop-at.invariant signatures xs place are signs)
