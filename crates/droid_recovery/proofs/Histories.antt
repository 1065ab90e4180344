-- Records and one record more.
use Rattle.std.proofs.Common.{List, [], ◌∷◌, ◌++◌, refl, sym, subst}
use Rattle.droid_core_spec.specs.Histories.{History}
use Rattle.droid_core_spec.specs.Setting.{Setting}
use Rattle.droid_recovery.specs.BareWorlds.{Bare}
use Rattle.droid_journal.specs.Records.{Record}
use Rattle.droid_recovery.specs.BareRecords.{HaveHistory, IsAfter}

module _ (setting : Setting) (bare : Bare) where
  -- the history before the last record
  pub record Parts (before : History) (its : List Record) (it : Record) (all : History) : Type 0 where
    pub history : History
    pub first : HaveHistory setting bare before its history
    pub last : IsAfter setting bare history it all

  pub parts : (before : History) (its : List Record) (it : Record) (all : History) → HaveHistory setting bare before (its ++ it ∷ []) all → Parts before its it all
  parts before [] it all have = record { history = before; first = refl; last = subst (IsAfter setting bare before it) (sym have.2) have.1 }
  parts before (x ∷ its) it all have =
      let more = parts have.0 its it all have.2 in
      record { history = more.history; first = (have.0, have.1, more.first); last = more.last }

  pub one_more : (before : History) (its : List Record) (it : Record) (history after : History) → HaveHistory setting bare before its history → IsAfter setting bare history it after
      → HaveHistory setting bare before (its ++ it ∷ []) after
  one_more before [] it history after have last = (after, subst (λ (h : History). IsAfter setting bare h it after) have last, refl)
  one_more before (x ∷ its) it history after have last = (have.0, have.1, one_more have.0 its it history after have.2 last)
