use Rattle.std.proofs.Common.{rules, ◌≡◌, ◌++◌, List, ℕ, [], false, refl, subst, sym}
use Rattle.std.proofs.lemmas.List.{append-nil}
use Rattle.droid_journal.specs.Chains.{journal_bytes}
use Rattle.droid_journal.specs.Fronts.{IsFront}
use Rattle.droid_journal.specs.Records.{turn_mark}
use Rattle.droid_journal.specs.declared.records.key.Form.TheVariants as forms
use Rattle.droid_journal.specs.Standing.{ahead_bytes}
use Rattle.droid_journal.proofs.Standing.{begun, nothing, was_clean}
use Rattle.droid_journal.proofs.journal.Journal.begin_turn.Goals as goal

pub returns-then-self-clause-settled : goal.returns-then-self-clause-settled
returns-then-self-clause-settled g c = λ setting header synced all st. was_clean g.F.LogFile.has g.F.LogFile.kept (g.M.Machine.stands setting) header c.args.self.now synced all st c.requires.unsynced

pub returns-then-self-clause-same : goal.returns-then-self-clause-same
returns-then-self-clause-same g c = λ s here. nothing g.F.LogFile.has c.args.self.now.file s (turn_mark c.args.self.now.key c.args.self.now.place.at) here

pub returns-in-Before-clause-settled : goal.returns-in-Before-clause-settled
returns-in-Before-clause-settled g c = λ setting header synced all st. was_clean g.F.LogFile.has g.F.LogFile.kept (g.M.Machine.stands setting) header c.args.self.now synced all st c.requires.unsynced

pub returns-in-Before-clause-same : goal.returns-in-Before-clause-same
returns-in-Before-clause-same g c = λ s here. nothing g.F.LogFile.has c.args.self.now.file s (turn_mark c.args.self.now.key c.args.self.now.place.at) here

pub returns-in-Ok-clause-settled : goal.returns-in-Ok-clause-settled
returns-in-Ok-clause-settled g c = λ setting header synced all st.
    let old = c.args.self.now in
    let start : List ℕ = journal_bytes header all ++ ahead_bytes header all old.ahead in
    let ahead : old.ahead ≡ false = search rules in
    let form : old.key.form ≡ forms.Present = search rules in
    let there = subst (λ (t : List ℕ). g.F.LogFile.has c.append.new.self (start ++ t)) c.turn_mark-mark.ensures (c.in-Ok.ensures.appended start st.file) in
    begun g.F.LogFile.has g.F.LogFile.kept (g.M.Machine.stands setting) header old _ synced all st c.requires.unsynced ahead form there c.append.ensures.kept refl refl refl refl refl

pub returns-in-Ok-clause-same : goal.returns-in-Ok-clause-same
returns-in-Ok-clause-same g c = λ s here.
    let mark : List ℕ = turn_mark c.args.self.now.key c.args.self.now.place.at in (
      mark,
      subst (λ (t : List ℕ). g.F.LogFile.has c.append.new.self (s ++ t)) c.turn_mark-mark.ensures (c.in-Ok.ensures.appended s here),
      ([], sym (append-nil mark)),
    )

pub returns-in-Err-clause-same : goal.returns-in-Err-clause-same
returns-in-Err-clause-same g c = λ s here.
    let part = c.in-Err.ensures.part s here in (
      part.0,
      part.1,
      subst (λ (t : List ℕ). IsFront part.0 t) c.turn_mark-mark.ensures part.2,
    )
