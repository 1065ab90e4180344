-- What a look-up found, as the row or none.
use Rattle.std.proofs.Common.{◌≡◌, Option, Some, None, Ok, Err, Result, IfOk, MatchOption, option_map, sym, ap}
use Rattle.sqlite.specs.Order.{Row}
use Rattle.sqlite.specs.declared.error.Error.{Error}
use Rattle.sqlite.specs.declared.error.Error.TheVariants.{QueryReturnedNoRows}

pub found_is : {X : Type 0} (answer : Result Row Error) (r : Result (Option Row) Error) (shown : X → Row) (wanted : Option X)
    → IfOk r (λ found. MatchOption found (answer ≡ Err QueryReturnedNoRows) (λ row. answer ≡ Ok row)) → IfOk answer (λ row. Some row ≡ option_map shown wanted) → (answer ≡ Err QueryReturnedNoRows → wanted ≡ None)
    → IfOk r (λ found. found ≡ option_map shown wanted)
found_is answer (Err e) shown wanted is some none = tt
found_is answer (Ok None) shown wanted is some none = sym (ap (option_map shown) (none is))
found_is answer (Ok (Some row)) shown wanted is some none = rw is at some
