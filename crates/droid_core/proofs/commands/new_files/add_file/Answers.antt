use Rattle.std.proofs.Common.{◌+◌, sym, refl, ap, ◌∙◌, arith, rules}
use Rattle.std.specs.Int.{w64}
use Rattle.std.proofs.lemmas.Int.{to_z-of_z}
use Rattle.std.proofs.lemmas.Result.{err_from_is_err_and}
use Rattle.droid_core_spec.specs.Judging.{judge_file}
use Rattle.droid_core_spec.specs.Limits.{Limits}
use Rattle.droid_store.specs.declared.rows.ProfileRow.{ProfileRow}
use Rattle.droid_core.proofs.AddedFiles.{file_nowhere, file_misplaced, file_refused, comes_file}
use Rattle.droid_core.proofs.Staying.{of_any, stays, comes_refused}
use Rattle.droid_core.proofs.CannotBe.{no_file_yet, scan_limit_within}
use Rattle.droid_core.proofs.PieceTaken.{comes_out_of_memory}
use Rattle.droid_core.proofs.commands.new_files.add_file.Goals as goal

pub returns-in_err-row : goal.returns-in_err-row
returns-in_err-row c = record {
  answers = record {
    comes = λ setting world is.
        let verdict = file_nowhere setting world c.args.stamp.version c.args.profile c.args.parent c.args.modified c.args.size c.args.piece_size c.args.name _ (c.in_err-row.ensures.found setting world c.args.profile c.args.holdings.now.store is.rows c.profile.ensures.found) in
        let failed = err_from_is_err_and c.from_residual.result c.from_residual.ensures.1 in
        rw (failed.1, failed.2) (comes_refused setting world _ _ c.args.stamp _ _ verdict (stays setting world _ _ refl refl c.profile.ensures.same refl is));
    spelled = search rules;
    limits = refl;
    registry = refl;
  };
}

pub returns-in_err-path : goal.returns-in_err-path
returns-in_err-path c = record {
  answers = record {
    comes = λ setting world is.
        let store = c.path_of_new.ensures.same ∙ c.profile.ensures.same in
        let has = c.in_ok-row.ensures.found setting world c.args.profile c.args.holdings.now.store is.rows c.profile.ensures.found in
        let finds = c.in_err-path.ensures.found setting world has.profile (rw c.profile.ensures.same is.rows) is.sound has.there in
        let verdict = file_misplaced setting world c.args.stamp.version c.args.profile c.args.parent c.args.modified c.args.size c.args.piece_size c.args.name has.profile has.there _ (rw c.as_str.ensures.value at finds) in
        let failed = err_from_is_err_and c.from_residual-in_err-path.result c.from_residual-in_err-path.ensures.1 in
        rw (failed.1, failed.2) (comes_refused setting world _ _ c.args.stamp _ _ verdict (stays setting world _ _ refl refl store refl is));
    spelled = search rules;
    limits = refl;
    registry = refl;
  };
}

pub returns-in-Some : goal.returns-in-Some
returns-in-Some c = record {
  answers = record {
    comes = λ setting world is.
        let store = c.path_of_new.ensures.same ∙ c.profile.ensures.same in
        let has = c.in_ok-row.ensures.found setting world c.args.profile c.args.holdings.now.store is.rows c.profile.ensures.found in
        let limit = c.node_room-nodes.ensures.limit ∙ sym (ap (λ (limits : Limits). limits.nodes) is.is_setting.limits) in
        let count = c.node_room-nodes.ensures.count ∙ ap (λ (row : ProfileRow). row.nodes) has.row_is in
        let most = c.unfinished_room-unfinished.ensures.limit ∙ sym (ap (λ (limits : Limits). limits.unfinished) is.is_setting.limits) in
        let finds = c.in_ok-path.ensures.found setting world has.profile (rw c.profile.ensures.same is.rows) is.sound has.there in
        let place = rw c.as_str.ensures.value at finds.0 in
        let refused = sym (c.in-Some.ensures.first setting.limits world has.profile.nodes c.args.parent c.args.name limit count most (c.unfinished_room-unfinished.ensures.count ∙ is.files.count) place) in
        let verdict = file_refused setting world c.args.stamp.version c.args.profile c.args.parent c.args.modified c.args.size c.args.piece_size c.args.name has.profile has.there c.in-Some.refusal (rw (to_z-of_z w64 c.args.modified c.ranges.modified) at refused) in
        comes_refused setting world _ _ c.args.stamp _ c.in-Some.refusal (of_any _ verdict) (stays setting world _ _ refl refl store refl is);
    spelled = search rules;
    limits = refl;
    registry = refl;
  };
}

pub returns : goal.returns
returns c = record {
  answers = record {
    comes = λ setting world is.
        let store = c.path_of_new.ensures.same ∙ c.profile.ensures.same in
        let has = c.in_ok-row.ensures.found setting world c.args.profile c.args.holdings.now.store is.rows c.profile.ensures.found in
        let limit = c.node_room-nodes.ensures.limit ∙ sym (ap (λ (limits : Limits). limits.nodes) is.is_setting.limits) in
        let counted = ap (λ (row : ProfileRow). row.nodes) has.row_is in
        let most = c.unfinished_room-unfinished.ensures.limit ∙ sym (ap (λ (limits : Limits). limits.unfinished) is.is_setting.limits) in
        let finds = c.in_ok-path.ensures.found setting world has.profile (rw c.profile.ensures.same is.rows) is.sound has.there in
        let place = rw c.as_str.ensures.value at finds.0 in
        let way = rw c.as_str.ensures.value at finds.1 in
        let short = rw c.as_str.ensures.value at c.in_ok-path.ensures.short in
        let allowed = sym (c.in_default.ensures.first setting.limits world has.profile.nodes c.args.parent c.args.name limit (c.node_room-nodes.ensures.count ∙ counted) most (c.unfinished_room-unfinished.ensures.count ∙ is.files.count) place) in
        let made = rw (c.in_ok-entry.ensures.row, c.as_str-2.ensures.value, c.as_str-3.ensures.value, to_z-of_z w64 c.args.modified c.ranges.modified, store) at c.in_ok-commit_file.ensures.ok in
        let fresh = rw (ap (λ (row : ProfileRow). row.scan_limit) has.row_is, ap (λ (row : ProfileRow). row.hash) has.row_is) at c.in_ok-assembly.ensures.new in
        comes_file setting world c.args.stamp.version c.args.profile c.args.parent c.args.modified c.args.size c.args.piece_size c.args.name has.profile has.there _ _ c.args.stamp (c.in_ok-row.row.nodes + 1) c.in_ok-path.path _ is
        (rw (to_z-of_z w64 c.args.modified c.ranges.modified) at allowed) (ap (λ n. n + 1) counted) way short fresh refl refl made c.add.ensures.files c.add.ensures.limit;
    spelled = search rules;
    limits = refl;
    registry = refl;
  };
}

pub returns-in_err-assembly : goal.returns-in_err-assembly
returns-in_err-assembly c = record {
  answers = record {
    comes = λ setting world is.
        let store = c.path_of_new.ensures.same ∙ c.profile.ensures.same in
        let has = c.in_ok-row.ensures.found setting world c.args.profile c.args.holdings.now.store is.rows c.profile.ensures.found in
        let within = scan_limit_within world c.args.profile has.profile is.sound has.there in
        let memory = c.in_err-assembly.ensures.memory (rw (ap (λ (row : ProfileRow). row.scan_limit) has.row_is) within) in
        let failed = err_from_is_err_and c.from_residual-in_err-assembly.result c.from_residual-in_err-assembly.ensures.1 in
        rw (failed.1, failed.2) (comes_out_of_memory setting world _ _ c.args.stamp (judge_file setting world c.args.stamp.version c.args.profile c.args.parent c.args.modified c.args.size c.args.piece_size c.args.name) _ memory (stays setting world _ _ refl refl store refl is));
    spelled = search rules;
    limits = refl;
    registry = refl;
  };
}

pub returns-in_err-has_room : goal.returns-in_err-has_room
returns-in_err-has_room c = record {
  answers = record {
    comes = λ setting world is.
        let has = c.in_ok-row.ensures.found setting world c.args.profile c.args.holdings.now.store is.rows c.profile.ensures.found in
        let counted = ap (λ (row : ProfileRow). row.nodes) has.row_is in
        let most = c.unfinished_room-unfinished.ensures.limit ∙ sym (ap (λ (limits : Limits). limits.unfinished) is.is_setting.limits) in
        let room = c.in_default.ensures.unfinished in
        let fresh = no_file_yet world c.args.holdings.now.files c.args.profile (c.in_ok-row.row.nodes + 1) has.profile is.files has.there (ap (λ n. n + 1) counted) in
        absurd (let reported = c.in_err-has_room.ensures.fits (omega (arith, room, most, is.room, c.unfinished_room-unfinished.ensures.count)) fresh in cc);
    spelled = search rules;
    limits = refl;
    registry = refl;
  };
}
