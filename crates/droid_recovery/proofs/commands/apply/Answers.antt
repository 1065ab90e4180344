use Rattle.std.proofs.Common.{FitsSigned, rules}
use Rattle.std.proofs.lemmas.Int.{to_z-of_z}
use Rattle.std.specs.Int.{w64}
use Rattle.droid_core_spec.proofs.ByKind.{is_create, is_folder, is_file, is_piece, is_finish, is_abandon}
use Rattle.droid_recovery.proofs.commands.apply.Goals as goal

pub returns-in-CreateProfile-clause-answers : goal.returns-in-CreateProfile-clause-answers
returns-in-CreateProfile-clause-answers c = λ command. record {
  comes = λ setting world stands.
      rw (c.in-CreateProfile.is, is_create setting world c.args.stamp.version c.in-CreateProfile.scan_limit c.in-CreateProfile.match_all c.in-CreateProfile.hash) (c.create_profile.ensures.answers.comes setting world stands);
  spelled = c.create_profile.ensures.answers.spelled;
  limits = c.create_profile.ensures.answers.limits;
  registry = c.create_profile.ensures.answers.registry;
}

pub returns-in-AddFolder-clause-answers : goal.returns-in-AddFolder-clause-answers
returns-in-AddFolder-clause-answers c = λ command. record {
  comes = λ setting world stands.
      let fits : FitsSigned w64 c.in-AddFolder.modified = search rules in
      let comes = rw (to_z-of_z w64 c.in-AddFolder.modified fits) at (c.add_folder.ensures.answers.comes setting world stands) in
      rw (c.in-AddFolder.is, is_folder setting world c.args.stamp.version c.in-AddFolder.profile c.in-AddFolder.parent c.in-AddFolder.modified c.in-AddFolder.name) comes;
  spelled = c.add_folder.ensures.answers.spelled;
  limits = c.add_folder.ensures.answers.limits;
  registry = c.add_folder.ensures.answers.registry;
}

pub returns-in-AddFile-clause-answers : goal.returns-in-AddFile-clause-answers
returns-in-AddFile-clause-answers c = λ command. record {
  comes = λ setting world stands.
      let fits : FitsSigned w64 c.in-AddFile.modified = search rules in
      let comes = rw (to_z-of_z w64 c.in-AddFile.modified fits) at (c.add_file.ensures.answers.comes setting world stands) in
      rw (c.in-AddFile.is, is_file setting world c.args.stamp.version c.in-AddFile.profile c.in-AddFile.parent c.in-AddFile.modified c.in-AddFile.size c.in-AddFile.piece_size c.in-AddFile.name) comes;
  spelled = c.add_file.ensures.answers.spelled;
  limits = c.add_file.ensures.answers.limits;
  registry = c.add_file.ensures.answers.registry;
}

pub returns-in-Piece-clause-answers : goal.returns-in-Piece-clause-answers
returns-in-Piece-clause-answers c = λ command. record {
  comes = λ setting world stands.
      rw (c.in-Piece.is, is_piece setting world c.args.stamp.version c.in-Piece.profile c.in-Piece.file c.in-Piece.index c.in-Piece.bytes) (c.take_piece.ensures.answers.comes setting world stands);
  spelled = c.take_piece.ensures.answers.spelled;
  limits = c.take_piece.ensures.answers.limits;
  registry = c.take_piece.ensures.answers.registry;
}

pub returns-in-Finish-clause-answers : goal.returns-in-Finish-clause-answers
returns-in-Finish-clause-answers c = λ command. record {
  comes = λ setting world stands.
      rw (c.in-Finish.is, is_finish setting world c.args.stamp.version c.in-Finish.profile c.in-Finish.file) (c.finish.ensures.answers.comes setting world stands);
  spelled = c.finish.ensures.answers.spelled;
  limits = c.finish.ensures.answers.limits;
  registry = c.finish.ensures.answers.registry;
}

pub returns-in-Abandon-clause-answers : goal.returns-in-Abandon-clause-answers
returns-in-Abandon-clause-answers c = λ command. record {
  comes = λ setting world stands.
      rw (c.in-Abandon.is, is_abandon setting world c.args.stamp.version c.in-Abandon.profile c.in-Abandon.file) (c.abandon.ensures.answers.comes setting world stands);
  spelled = c.abandon.ensures.answers.spelled;
  limits = c.abandon.ensures.answers.limits;
  registry = c.abandon.ensures.answers.registry;
}

pub returns-in-Status-clause-answers : goal.returns-in-Status-clause-answers
returns-in-Status-clause-answers c = λ command. absurd (let it = rw c.in-Status.is at command in cc)

pub returns-in-Export-clause-answers : goal.returns-in-Export-clause-answers
returns-in-Export-clause-answers c = λ command. absurd (let it = rw c.in-Export.is at command in cc)
