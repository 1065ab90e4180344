use Rattle.std.proofs.Common.{◌≡◌, ℕ, List, ◌++◌, length, refl, sym, ap, subst, arith, length-append}
use Rattle.droid_tree.specs.Heard.{TookBytes}
use Rattle.droid_upload.specs.Calls.{Failed}
use Rattle.droid_upload.specs.Deeds.{Called, Does, Informed}
use Rattle.droid_upload.specs.Steps.{FailsPiece, SendsPiece, piece_head, piece_request}
use Rattle.droid_upload.specs.declared.client_fault.ClientFault.{ClientFault}
use Rattle.droid_upload.specs.declared.file_pieces.Progress.{Progress}
use Rattle.droid_upload.proofs.Passing.{if_err_same}
use Rattle.droid_upload.proofs.PieceBodies.{spells_piece}
use Rattle.droid_upload.proofs.file_pieces.send_piece.Goals as goal

pub returns-in_err-changed-in-Err-clause-failed : goal.returns-in_err-changed-in-Err-clause-failed
returns-in_err-changed-in-Err-clause-failed g c =
    let does = Does g.T.Tree.observes g.C.Client.calls g.W.Watcher.hears in
    let new = record c.args.upload.now { client = c.send.new.self } in
    let said = c.in_err-changed-in-Err.ensures.fault in
    if_err_same c.from_residual.result c.in_err-changed-in-Err.field-0.0
    (λ f. (bytes : List ℕ) → c.args.body.items ≡ piece_head c.args.to.into.profile c.args.to.number c.args.index ++ bytes → FailsPiece does c.args.to c.args.index bytes f c.args.upload.now new) c.from_residual.ensures.1
    (λ bytes is.
    let spells = spells_piece c.args.to.into.profile c.args.to.number c.args.index bytes c.args.body.items c.whole_body-body.result is c.whole_body-body.ensures.same c.requires.spelled c.whole_body-body.ensures.bytes in
    record { why = c.in-Err.why; called = (c.in-Err.ensures.failed (piece_request c.args.to c.args.index bytes) spells, refl); fault_is = said.0; other = said.1 })

pub returns-in-Ok-clause-sent : goal.returns-in-Ok-clause-sent
returns-in-Ok-clause-sent g c = λ bytes is.
    let does = Does g.T.Tree.observes g.C.Client.calls g.W.Watcher.hears in
    let now = record c.args.upload.now { client = c.send.new.self } in
    let spells = spells_piece c.args.to.into.profile c.args.to.number c.args.index bytes c.args.body.items c.whole_body-body.result is c.whole_body-body.ensures.same c.requires.spelled c.whole_body-body.ensures.bytes in
    let counted : c.args.wanted ≡ length bytes =
    omega (arith, c.requires.counted, ap length is, length-append (piece_head c.args.to.into.profile c.args.to.number c.args.index) bytes) in (
      now,
      (c.in-Ok.ensures.sent (piece_request c.args.to c.args.index bytes) spells, refl),
      (c.report_bytes.new.upload, subst (λ n. does now (Informed (TookBytes c.args.path.now n)) c.report_bytes.new.upload) counted c.report_bytes.ensures, refl),
    )

pub returns-in_ok-changed-in-Err-clause-sent : goal.returns-in_ok-changed-in-Err-clause-sent
returns-in_ok-changed-in-Err-clause-sent g c = λ bytes is.
    let does = Does g.T.Tree.observes g.C.Client.calls g.W.Watcher.hears in
    let new = record c.args.upload.now { client = c.send.new.self } in
    let spells = spells_piece c.args.to.into.profile c.args.to.number c.args.index bytes c.args.body.items c.whole_body-body.result is c.whole_body-body.ensures.same c.requires.spelled c.whole_body-body.ensures.bytes in
    let said = c.in_ok-changed-in-Err.ensures.changed in
    subst (λ (p : Progress). SendsPiece does c.args.to c.args.index c.args.path.now bytes p c.args.upload.now new) (sym said.0)
    (subst (λ (why : ClientFault). does c.args.upload.now (Called (Failed 0 (piece_request c.args.to c.args.index bytes) why)) new) said.1 (c.in-Err.ensures.failed (piece_request c.args.to c.args.index bytes) spells, refl))
