use Rattle.std.proofs.Common.{refl, ◌∙◌, rules}
use Rattle.std.proofs.lemmas.Result.{err_from_is_err_and}
use Rattle.droid_core.proofs.PieceTaken.{piece_there, piece_for_file, judged_first, judged_by_put, held_is, not_kept, taken, stays_as, comes_out_of_memory}
use Rattle.droid_core_spec.specs.Judging.{judge_piece}
use Rattle.droid_core.proofs.FileVerdicts.{comes_unfound}
use Rattle.droid_core.proofs.Staying.{comes_refused, of_any}
use Rattle.droid_core.proofs.PieceAssemblies.{is_pending}
use Rattle.droid_core.proofs.commands.pieces.take_piece.Goals as goal

pub returns-in_err-found : goal.returns-in_err-found
returns-in_err-found c = record {
  answers = record {
    comes = λ setting world is_in.
        let fault = err_from_is_err_and c.from_residual.result c.from_residual.ensures.1 in
        rw (fault.1, fault.2) (comes_unfound setting world c.args.holdings.now c.unfinished_file.new.store c.args.stamp c.args.profile c.args.file (piece_there world c.args.profile c.args.file c.args.index c.args.bytes) _ _
        (piece_for_file world c.args.profile c.args.file c.args.index c.args.bytes) (λ its parent modified name content finished. rw finished refl) (c.in_err-found.ensures.found setting world is_in.rows is_in.files) c.unfinished_file.ensures.same is_in);
    spelled = search rules;
    limits = refl;
    registry = refl;
  };
}

pub returns-in_err-put_piece : goal.returns-in_err-put_piece
returns-in_err-put_piece c = record {
  answers = record {
    comes = λ setting world is_in.
        let fault = err_from_is_err_and c.from_residual-in_err-put_piece.result c.from_residual-in_err-put_piece.ensures.1 in
        let is = c.in_ok-found.ensures.found setting world is_in.rows is_in.files in
        let first = judged_by_put setting world c.args.profile c.args.file c.args.holdings.now c.in_ok-found.found is c.args.index c.args.bytes _ c.in_err-put_piece.ensures.judged in
        rw (fault.1, fault.2)
        (comes_refused setting world c.args.holdings.now _ c.args.stamp _ _ (of_any _ (judged_first setting world c.args.profile c.args.file c.args.holdings.now c.in_ok-found.found is c.args.index c.args.bytes _ first))
        (stays_as setting world c.args.holdings.now c.unfinished_file.new.store c.put_piece.new.files c.unfinished_file.ensures.same c.in_err-put_piece.ensures.same is_in));
    spelled = search rules;
    limits = refl;
    registry = refl;
  };
}

pub keep_piece-requires-clause-pending : goal.keep_piece-requires-clause-pending
keep_piece-requires-clause-pending c =
    is_pending c.args.holdings.now.files c.put_piece.new.files c.in_ok-found.found.place c.args.index c.args.bytes c.put_piece.ensures.others c.in_ok-put_piece.ensures.pending

pub returns-in_err-keep_piece : goal.returns-in_err-keep_piece
returns-in_err-keep_piece c = record {
  answers = record {
    comes = λ setting world is_in.
        let fault = err_from_is_err_and c.from_residual-in_err-keep_piece.result c.from_residual-in_err-keep_piece.ensures.1 in
        let is = c.in_ok-found.ensures.found setting world is_in.rows is_in.files in
        let stays = not_kept setting world c.args.profile c.args.file c.args.holdings.now c.in_ok-found.found is c.args.index c.args.bytes
        c.keep_piece.new.store c.put_piece.new.files c.keep_piece.new.files c.put_piece.ensures.others c.keep_piece.ensures.others c.in_ok-put_piece.ensures.pending is_in
        (c.in_err-keep_piece.ensures.not_kept ∙ c.unfinished_file.ensures.same) c.in_err-keep_piece.ensures.taken_back in
        rw (fault.1, fault.2) (comes_out_of_memory setting world c.args.holdings.now _ c.args.stamp (judge_piece world c.args.profile c.args.file c.args.index c.args.bytes) _ c.in_err-keep_piece.ensures.memory stays);
    spelled = search rules;
    limits = refl;
    registry = refl;
  };
}

pub returns : goal.returns
returns c = record {
  answers = record {
    comes = λ setting world is_in.
        let is = c.in_ok-found.ensures.found setting world is_in.rows is_in.files in
        let first = judged_by_put setting world c.args.profile c.args.file c.args.holdings.now c.in_ok-found.found is c.args.index c.args.bytes _ c.in_ok-put_piece.ensures.judged in
        let counted = held_is setting world c.args.profile c.args.file c.args.holdings.now c.in_ok-found.found is c.args.index c.args.bytes _ c.held-held.ensures.count in
        let stored = c.in_ok-keep_piece.ensures.kept ∙ (rw (c.in_ok-entry.ensures.row, c.unfinished_file.ensures.same) refl) in
        taken setting world c.args.profile c.args.file c.args.holdings.now c.in_ok-found.found is c.args.index c.args.bytes
        c.keep_piece.new.store c.put_piece.new.files c.keep_piece.new.files c.put_piece.ensures.others c.keep_piece.ensures.others c.in_ok-put_piece.ensures.pending is_in
        c.args.stamp _ counted stored first c.put_piece.ensures.stands c.in_ok-keep_piece.ensures.stands c.in_ok-keep_piece.ensures.same_file c.in_ok-keep_piece.ensures.none_pending;
    spelled = search rules;
    limits = refl;
    registry = refl;
  };
}
