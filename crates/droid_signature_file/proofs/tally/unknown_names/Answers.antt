-- One more piece.
use Rattle.std.proofs.Common.{[], map, take, sym, ap, ◌∙◌, arith}
use Rattle.std.specs.List.{fold}
use Rattle.droid_xml.specs.Views.{part}
use Rattle.droid_xml.specs.declared.pieces.Piece.{Piece}
use Rattle.droid_signature_file.specs.Unknown.{Counting, counted}
use Rattle.droid_signature_file.proofs.Loops.{fold_more_of}
use Rattle.droid_signature_file.proofs.tally.unknown_names.Goals as goal

pub loop-piece-preserved : goal.loop-piece-preserved
loop-piece-preserved c =
    let start : Counting = record { stack = []; found = record { names = []; unlisted = 0 } } in
    c.in_ok-count.ensures
    ∙ (ap (λ (so_far : Counting). counted so_far (part c.piece-item.result)) c.loop-piece.invariant
    ∙ (ap (λ (p : Piece). counted (fold counted start (map part (take c.loop-piece.piece-index c.args.pieces.now))) (part p)) c.piece-item.is ∙ sym (fold_more_of counted part start c.args.pieces.now c.loop-piece.piece-index c.piece-item.result (omega arith))))
