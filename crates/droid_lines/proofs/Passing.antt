-- What `?` passes on.
use Rattle.std.proofs.Common.{◌≡◌, ◌-◌, ℕ, List, Option, Result, Ok, Err, IfErr, OnErr, sym, subst}
use Rattle.std.specs.Prelude.{IsErrAnd}
use Rattle.droid_frame.specs.StreamWrites.{Stops}
use Rattle.droid_frame.specs.Writes.{StopsWithin}
use Rattle.droid_lines.specs.Stopping.{WritesFront}

pub if_err_same : {T E : Type 0} (r : Result T E) (fault : E) (P : E → Type 0) → IsErrAnd r (λ e. e ≡ fault) → P fault → IfErr r P
if_err_same {T} {E} (Ok value) fault P is p = absurd is
if_err_same {T} {E} (Err error) fault P is p = subst P (sym is) p

pub if_err : {T E : Type 0} (r : Result T E) (P : E → Type 0) → ((e : E) → P e) → IfErr r P
if_err (Ok x) P p = tt
if_err (Err e) P p = p e

pub on_err : {T E : Type 0} (r : Result T E) (P : Type 0) → P → OnErr r P
on_err (Ok x) P p = tt
on_err (Err e) P p = p

-- ---- a write that stopped

pub front_of_frame : (old new : Option (List ℕ)) (bytes : List ℕ) (count : ℕ) → Stops old new bytes count → WritesFront old new bytes
front_of_frame old new bytes count stops = record { count = count; some_left = stops.some_left; writes = stops.front }

pub front_of_text : (old new : Option (List ℕ)) (bytes : List ℕ) (before count : ℕ) → StopsWithin old new bytes before count → WritesFront old new bytes
front_of_text old new bytes before count stops = record { count = count - before; some_left = stops.some_left; writes = stops.front }
