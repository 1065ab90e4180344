-- What is handed on: faults, and senders.
use Rattle.std.proofs.Common.{◌≡◌, Result, Ok, Err, IfErr, OnErr, ap, sym, subst, ◌∙◌}
use Rattle.std.specs.Prelude.{IsErrAnd}
use Rattle.droid_remote.specs.declared.sender.Sender.{Sender}

pub if_err_same : {T E : Type 0} (r : Result T E) (fault : E) (P : E → Type 0) → IsErrAnd r (λ e. e ≡ fault) → P fault → IfErr r P
if_err_same {T} {E} (Ok value) fault P is p = absurd is
if_err_same {T} {E} (Err error) fault P is p = subst P (sym is) p

pub on_err : {T E : Type 0} (r : Result T E) (P : Type 0) → P → OnErr r P
on_err (Ok value) P p = tt
on_err (Err error) P p = p

-- a sender is the same, but for what is in flight
pub same_on : {C : Type 0} (old now new : Sender C) → now ≡ record old { in_flight = now.in_flight } → new ≡ record now { in_flight = new.in_flight } → new ≡ record old { in_flight = new.in_flight }
same_on {C} old now new first second = second ∙ ap (λ (s : Sender C). record s { in_flight = new.in_flight }) first
