use Rattle.std.proofs.Common.{Err, ap, subst, ◌≡◌, ◌∙◌, ℕ, List, take, drop}
use Rattle.droid_journal.specs.Opening.{Records}
use Rattle.droid_journal.specs.declared.journal_fault.Fault.TheVariants as faults
use Rattle.droid_journal.proofs.Openings.{IsAhead, ahead_found, cut_leaves, cut_within, marked_stays, ready}
use Rattle.droid_journal.proofs.start.open_whole.Goals as goal

pub cut_behind-requires-clause-within : goal.cut_behind-requires-clause-within
cut_behind-requires-clause-within g c = λ s here.
    let header = c.args.header.now in
    let to = c.in-Ok.to in
    let rest : List ℕ = drop to.at s in
    let r = c.in-Ok.ensures.read s here (c.requires.begins s here) in
    let ahead = c.in-Ok-is_begun_at.ahead in
    let b = c.in-Ok-is_begun_at.ensures in
    let is : IsAhead header r.0 rest ahead = ahead_found header r.0 rest ahead c.key_of-key.result to c.key_of-key.ensures r.1.to_is b.form (b.mark s here) (b.none s here) in
    cut_within header (g.F.LogFile.kept c.args.file.now) s r.0 rest to c.in-Some.end ahead (c.requires.kept s here) (g.met.F.LogFile.kept_is_there c.args.file.now s here) r.1.chain is r.1.to_is c.in-Some.ensures

pub returns-clause-opened : goal.returns-clause-opened
returns-clause-opened g c = λ s here.
    let header = c.args.header.now in
    let to = c.in-Ok.to in
    let rest : List ℕ = drop to.at s in
    let r = c.in-Ok.ensures.read s here (c.requires.begins s here) in
    let ahead = c.in-Ok-is_begun_at.ahead in
    let b = c.in-Ok-is_begun_at.ensures in
    let is : IsAhead header r.0 rest ahead = ahead_found header r.0 rest ahead c.key_of-key.result to c.key_of-key.ensures r.1.to_is b.form (b.mark s here) (b.none s here) in
    let left : List ℕ = take c.in-Some.end s in
    let left_is : left ≡ _ = cut_leaves header s r.0 rest to c.in-Some.end ahead r.1.chain is r.1.to_is c.in-Some.ensures in
    let cut = c.in-Ok-cut_behind.ensures.cut s here in (
      r.0,
      Records rest r.1.chain r.1.whole,
      λ setting st. (
        ready g.F.LogFile.has g.F.LogFile.kept (g.M.Machine.stands setting) header c.cut_behind.new.file _ r.0 left left_is cut.0 cut.1 (r.1.stood setting st) c.key_of-key.ensures r.1.to_is is.form r.1.chain.fit,
        r.1.gave setting st,
      ),
    )

pub returns-clause-stays : goal.returns-clause-stays
returns-clause-stays g c = λ s here its form fits whole.
    let header = c.args.header.now in
    let to = c.in-Ok.to in
    let rest : List ℕ = drop to.at s in
    let r = c.in-Ok.ensures.read s here (c.requires.begins s here) in
    let ahead = c.in-Ok-is_begun_at.ahead in
    let b = c.in-Ok-is_begun_at.ensures in
    let is : IsAhead header r.0 rest ahead = ahead_found header r.0 rest ahead c.key_of-key.result to c.key_of-key.ensures r.1.to_is b.form (b.mark s here) (b.none s here) in
    subst (g.F.LogFile.has c.cut_behind.new.file) (marked_stays header s its r.0 rest to c.in-Some.end ahead form fits whole r.1.chain is r.1.to_is c.in-Some.ensures) (c.in-Ok-cut_behind.ensures.cut s here).0

pub returns-in-Err-clause-damage : goal.returns-in-Err-clause-damage
returns-in-Err-clause-damage g c = λ n reported s here.
    let same : c.in-Err.fault ≡ faults.Damage n = cc in
    c.in-Err.ensures.damage n (ap Err same) s here (c.requires.begins s here)

pub returns-in-Err-clause-refuted : goal.returns-in-Err-clause-refuted
returns-in-Err-clause-refuted g c = λ n reported setting s here st.
    let same : c.in-Err.fault ≡ faults.Record n = cc in
    c.in-Err.ensures.refuted n (ap Err same) setting s here (c.requires.begins s here) st
