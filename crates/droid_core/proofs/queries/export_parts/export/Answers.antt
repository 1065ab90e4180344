use Rattle.std.proofs.Common.{◌≡◌, length, refl, ap, ◌∙◌, None, rules}
use Rattle.std.proofs.lemmas.Result.{err_from_is_err_and}
use Rattle.droid_frame.specs.declared.refusal.Refusal.TheVariants.{NoSuchProfile}
use Rattle.droid_export.specs.Text.{text}
use Rattle.droid_core_spec.specs.Exported.{part_of}
use Rattle.droid_core_spec.specs.Judging.{judge_export}
use Rattle.droid_core_spec.specs.World.{numbered}
use Rattle.droid_store.specs.declared.rows.ProfileRow.{ProfileRow}
use Rattle.droid_store.specs.Rows.{Rows, records_of}
use Rattle.droid_core.proofs.ExportedParts.{export_nowhere, export_refused, export_shown, part_within, text_shown, part_shown}
use Rattle.droid_core.proofs.KeptParts.{last_shown, kept_or_none}
use Rattle.droid_core.proofs.Staying.{read_only, if_refused, of_any, comes_refused}
use Rattle.droid_core.proofs.CannotBe.{moments_written}
use Rattle.droid_core.proofs.PieceTaken.{comes_out_of_memory}
use Rattle.droid_core.proofs.queries.export_parts.export.Goals as goal

pub returns-in_err-row-clause-answers : goal.returns-in_err-row-clause-answers
returns-in_err-row-clause-answers c = λ stamp. record {
  comes = λ setting world stands.
      let service = c.args.holdings.now in
      let refusal = c.in_err-row.field-0.0 in
      let found = c.in_err-row.ensures.found setting world c.args.profile c.args.holdings.now.store stands.0.rows c.profile.ensures.found in
      let p = err_from_is_err_and c.from_residual.result c.from_residual.ensures.1 in
      let stays = read_only setting world service c.profile.new.self c.profile.ensures.same stands.0 in
      rw (p.1, p.2) (comes_refused setting world service _ stamp (judge_export setting world c.args.profile c.args.from c.args.max c.args.filter) c.in_err-row.field-0.0
      (if_refused _ (λ (it : (refusal ≡ NoSuchProfile) × (numbered world.profiles c.args.profile ≡ None)). rw it.0 (export_nowhere setting world c.args.profile c.args.from c.args.max c.args.filter it.1)) found) stays);
  spelled = search rules;
  limits = refl;
  registry = refl;
}

pub returns-in-Some-clause-answers : goal.returns-in-Some-clause-answers
returns-in-Some-clause-answers c = λ stamp. record {
  comes = λ setting world stands.
      let service = c.args.holdings.now in
      let found = c.in_ok-row.ensures.found setting world c.args.profile c.args.holdings.now.store stands.0.rows c.profile.ensures.found in
      let refused = export_refused setting world c.args.profile c.args.from c.args.max c.args.filter found.profile c.in-Some.refusal found.there c.in-Some.ensures.first in
      let stays = read_only setting world service c.profile.new.self c.profile.ensures.same stands.0 in
      comes_refused setting world service _ stamp (judge_export setting world c.args.profile c.args.from c.args.max c.args.filter) c.in-Some.refusal
      (of_any _ refused) stays;
  spelled = search rules;
  limits = refl;
  registry = refl;
}

pub returns-in-Some-text_for-clause-answers : goal.returns-in-Some-text_for-clause-answers
returns-in-Some-text_for-clause-answers c = λ stamp. record {
  comes = λ setting world stands.
      let service = c.args.holdings.now in
      let found = c.in_ok-row.ensures.found setting world c.args.profile c.args.holdings.now.store stands.0.rows c.profile.ensures.found in
      let judged = export_shown setting world c.args.profile c.args.from c.args.max c.args.filter found.profile found.there c.in_default.ensures.first in
      let same : c.accepted_by-accepted.new.store ≡ service.store = c.accepted_by-accepted.ensures.same ∙ c.profile.ensures.same in
      let count : c.accepted_by-accepted.result ≡ length service.store.replies = c.accepted_by-accepted.ensures.found ∙ ap (λ (rows : Rows). length rows.replies) c.profile.ensures.same in
      let read = c.in-Some-text_for.ensures.text ∙ last_shown setting world c.args.last.now c.args.profile c.args.filter found.profile stands.1 c.in-Some-text_for.ensures.its found.there in
      let whole : c.in_ok-reply.reply ≡ part_of setting world.accepted found.profile c.args.from c.args.max c.args.filter =
      c.in_ok-reply.ensures.part ∙ part_shown setting world service c.accepted_by-accepted.result c.args.from c.args.max c.args.filter found.profile c.in-Some-text_for.text.now stands.0 count read in
      rw (judged, whole) (refl, read_only setting world service c.accepted_by-accepted.new.store same stands.0);
  spelled = c.in_ok-reply.ensures.spelled stamp.version (part_within c.args.max c.in_default.ensures.first);
  limits = refl;
  registry = refl;
}

pub returns-clause-answers : goal.returns-clause-answers
returns-clause-answers c = λ stamp. record {
  comes = λ setting world stands.
      let service = c.args.holdings.now in
      let found = c.in_ok-row.ensures.found setting world c.args.profile c.args.holdings.now.store stands.0.rows c.profile.ensures.found in
      let judged = export_shown setting world c.args.profile c.args.from c.args.max c.args.filter found.profile found.there c.in_default.ensures.first in
      let counted : c.accepted_by-accepted.new.store ≡ service.store = c.accepted_by-accepted.ensures.same ∙ c.profile.ensures.same in
      let same : c.records_in.new.store ≡ service.store = c.records_in.ensures.same ∙ counted in
      let count : c.accepted_by-accepted.result ≡ length service.store.replies = c.accepted_by-accepted.ensures.found ∙ ap (λ (rows : Rows). length rows.replies) c.profile.ensures.same in
      let read : c.in_ok-text.text ≡ text service.registry c.args.filter found.profile.hash (records_of c.args.profile service.store) =
      c.in_ok-text.ensures
      ∙ ap (text service.registry c.args.filter c.in_ok-row.row.hash)
      (c.as_slice-shown.ensures.value ∙ (c.in_ok-records.ensures.found ∙ ap (records_of c.args.profile) counted))
      ∙ ap (λ (row : ProfileRow). text service.registry c.args.filter row.hash (records_of c.args.profile service.store)) found.row_is in
      let shown = read ∙ text_shown setting world service c.args.profile c.args.filter found.profile stands.0 found.there in
      let whole : c.in_ok-reply-2.reply ≡ part_of setting world.accepted found.profile c.args.from c.args.max c.args.filter =
      c.in_ok-reply-2.ensures.part ∙ part_shown setting world service c.accepted_by-accepted.result c.args.from c.args.max c.args.filter found.profile c.in_ok-text.text stands.0 count shown in
      rw (judged, whole) (refl, read_only setting world service c.records_in.new.store same stands.0);
  spelled = c.in_ok-reply-2.ensures.spelled stamp.version (part_within c.args.max c.in_default.ensures.first);
  limits = refl;
  registry = refl;
}

pub returns-clause-last : goal.returns-clause-last
returns-clause-last c = λ setting world is_in last.
    let service = c.args.holdings.now in
    let found = c.in_ok-row.ensures.found setting world c.args.profile c.args.holdings.now.store is_in.rows c.profile.ensures.found in
    let counted : c.accepted_by-accepted.new.store ≡ service.store = c.accepted_by-accepted.ensures.same ∙ c.profile.ensures.same in
    let read : c.in_ok-text.text ≡ text service.registry c.args.filter found.profile.hash (records_of c.args.profile service.store) =
    c.in_ok-text.ensures
    ∙ ap (text service.registry c.args.filter c.in_ok-row.row.hash)
    (c.as_slice-shown.ensures.value ∙ (c.in_ok-records.ensures.found ∙ ap (records_of c.args.profile) counted))
    ∙ ap (λ (row : ProfileRow). text service.registry c.args.filter row.hash (records_of c.args.profile service.store)) found.row_is in
    kept_or_none setting world c.keep_text.new.last c.args.profile c.args.from c.args.max c.args.filter c.in_ok-text.text found.profile found.there
    (read ∙ text_shown setting world service c.args.profile c.args.filter found.profile is_in found.there) c.keep_text.ensures.kept c.keep_text.ensures.only

pub returns-in_err-records-clause-answers : goal.returns-in_err-records-clause-answers
returns-in_err-records-clause-answers c = λ stamp. record {
  comes = λ setting world stands.
      let service = c.args.holdings.now in
      let found = c.in_ok-row.ensures.found setting world c.args.profile service.store stands.0.rows c.profile.ensures.found in
      let counted : c.accepted_by-accepted.new.store ≡ service.store = c.accepted_by-accepted.ensures.same ∙ c.profile.ensures.same in
      let fault = err_from_is_err_and c.from_residual-in_err-records.result c.from_residual-in_err-records.ensures.1 in
      let memory = c.in_err-records.ensures.memory (moments_written setting world service c.accepted_by-accepted.new.store c.args.profile found.profile stands.0 counted found.there) in
      rw (fault.1, fault.2) (comes_out_of_memory setting world service _ stamp (judge_export setting world c.args.profile c.args.from c.args.max c.args.filter) _ memory
      (read_only setting world service c.records_in.new.store (c.records_in.ensures.same ∙ counted) stands.0));
  spelled = search rules;
  limits = refl;
  registry = refl;
}
