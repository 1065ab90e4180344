-- What the signature with the ID becomes.
use Rattle.droid_signature.specs.Views.{kept_of}
use Rattle.droid_signature.specs.Signatures.{Named}
use Rattle.droid_signature.proofs.Signing.{id_reason, signs_left}
use Rattle.droid_signature.proofs.signature_list.add_signature.Goals as goal

pub add-requires : goal.add-requires
add-requires c = let (at, signature, only, taken) = c.in-Ok.ensures.ok c.requires.0 c.requires.1 in taken.few

pub returns-in_ok-leave_out-in-Err : goal.returns-in_ok-leave_out-in-Err
returns-in_ok-leave_out-in-Err c = λ signatures xs place are signs.
    let it : Named = record { place = place; of = kept_of c.args.of.now; id = c.args.id } in
    signs_left signatures xs it c.in-Err.why c.args.table.now c.leave_out.new.self signs c.in_ok-leave_out-in-Err.ensures (λ before counted more. id_reason signatures before c.args.id c.in-Err.why (c.in-Err.ensures.err signatures are))

pub returns-in_ok-add-in-Ok : goal.returns-in_ok-add-in-Ok
returns-in_ok-add-in-Ok c = λ signatures xs place are signs.
    let (at, signature, only, taken) = c.in-Ok.ensures.ok signatures are in
    c.in_ok-add-in-Ok.ensures signatures xs place at signature only taken signs
