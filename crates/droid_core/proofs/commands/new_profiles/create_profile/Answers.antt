use Rattle.std.proofs.Common.{◌+◌, sym, ap, ◌∙◌, rules}
use Rattle.droid_core_spec.specs.Limits.{Limits}
use Rattle.droid_core.proofs.MadeProfiles.{create_refused, refused_alone, never_refused, profile_count, comes_made}
use Rattle.droid_core.proofs.Staying.{of_any, stays, comes_refused}
use Rattle.droid_core.proofs.commands.new_profiles.create_profile.Goals as goal

pub returns-in-Some-clause-answers : goal.returns-in-Some-clause-answers
returns-in-Some-clause-answers c = record {
  comes = λ setting world is.
      let room = c.profile_room-profiles.ensures in
      let limit = room.limit ∙ sym (ap (λ (limits : Limits). limits.profiles) is.is_setting.limits) in
      let count = room.count ∙ profile_count setting world c.args.holdings.now.store is.rows in
      let refused = sym (c.in-Some.ensures.first setting.limits world limit count) in
      let verdict = create_refused setting world c.args.scan_limit c.args.match_all c.args.hash c.in-Some.refusal refused in
      comes_refused setting world _ _ c.args.stamp _ c.in-Some.refusal (of_any _ verdict)
      (stays setting world _ _ room.limits room.registry room.store room.files is);
  spelled = search rules;
  limits = search rules;
  registry = search rules;
}

pub returns-in-Some-clause-refused : goal.returns-in-Some-clause-refused
returns-in-Some-clause-refused c = λ setting world refusal is judged.
    let room = c.profile_room-profiles.ensures in
    let limit = room.limit ∙ sym (ap (λ (limits : Limits). limits.profiles) is.is_setting.limits) in
    let count = room.count ∙ profile_count setting world c.args.holdings.now.store is.rows in
    let refused = sym (c.in-Some.ensures.first setting.limits world limit count) in
    refused_alone setting world c.args.scan_limit c.args.match_all c.args.hash c.in-Some.refusal refusal refused judged

pub returns-in_err-entry-clause-refused : goal.returns-in_err-entry-clause-refused
returns-in_err-entry-clause-refused c = λ setting world refusal is judged.
    let room = c.profile_room-profiles.ensures in
    let limit = room.limit ∙ sym (ap (λ (limits : Limits). limits.profiles) is.is_setting.limits) in
    let count = room.count ∙ profile_count setting world c.args.holdings.now.store is.rows in
    absurd (never_refused setting world c.args.scan_limit c.args.match_all c.args.hash refusal (sym (c.in_default.ensures.first setting.limits world limit count)) judged)

pub returns-clause-refused : goal.returns-clause-refused
returns-clause-refused c = λ setting world refusal is judged.
    let room = c.profile_room-profiles.ensures in
    let limit = room.limit ∙ sym (ap (λ (limits : Limits). limits.profiles) is.is_setting.limits) in
    let count = room.count ∙ profile_count setting world c.args.holdings.now.store is.rows in
    absurd (never_refused setting world c.args.scan_limit c.args.match_all c.args.hash refusal (sym (c.in_default.ensures.first setting.limits world limit count)) judged)

pub returns-in_err-commit_profile-clause-refused : goal.returns-in_err-commit_profile-clause-refused
returns-in_err-commit_profile-clause-refused c = λ setting world refusal is judged.
    let room = c.profile_room-profiles.ensures in
    let limit = room.limit ∙ sym (ap (λ (limits : Limits). limits.profiles) is.is_setting.limits) in
    let count = room.count ∙ profile_count setting world c.args.holdings.now.store is.rows in
    absurd (never_refused setting world c.args.scan_limit c.args.match_all c.args.hash refusal (sym (c.in_default.ensures.first setting.limits world limit count)) judged)

pub returns-clause-answers : goal.returns-clause-answers
returns-clause-answers c = record {
  comes = λ setting world is.
      let room = c.profile_room-profiles.ensures in
      let limit = room.limit ∙ sym (ap (λ (limits : Limits). limits.profiles) is.is_setting.limits) in
      let count = room.count ∙ profile_count setting world c.args.holdings.now.store is.rows in
      let allowed = sym (c.in_default.ensures.first setting.limits world limit count) in
      let store = rw (c.in_ok-entry.ensures.row, room.store) at c.in_ok-commit_profile.ensures.ok in
      comes_made setting world _ _ c.args.stamp c.args.scan_limit c.args.match_all c.args.hash (c.profile_room-profiles.result.count + 1) is allowed (ap (λ n. n + 1) count)
      room.limits room.registry room.files store;
  spelled = search rules;
  limits = search rules;
  registry = search rules;
}
