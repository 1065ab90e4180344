-- What the answer of a reader that checks first says of what is spelled.
use Rattle.std.proofs.Common.{◌≡◌, ℕ, List, Option, Some, None, refl, sym, ap, ◌∙◌}
use Rattle.std.specs.Prelude.{Result, Ok, Err, IfOk, IsErrOf, IsSome, ◌↔◌}
use Rattle.droid_frame.specs.declared.body_fault.BodyFault.{BodyFault}
use Rattle.droid_frame.specs.declared.body_fault.BodyFault.TheVariants.{Malformed, Memory}
use Rattle.droid_frame.specs.declared.request.Request.{Request}
use Rattle.droid_frame.specs.Bodies.{SpellsRequest}
use Rattle.droid_frame.specs.Fields.{IsBytes}
use Rattle.droid_frame.specs.Outcomes.{IsAnswer}
use Rattle.droid_frame.specs.RequestValues.{request_value}
use Rattle.droid_frame.proofs.FieldLaws.{some_is}
use Rattle.droid_frame.proofs.RequestLaws.{value_is_spelled, spelled_is_value}

pub found_is_spelled : (result : Result Request BodyFault) (version kind : ℕ) (body : List ℕ) {P : Type 0} → P → IsBytes body → IsAnswer result (request_value version kind body) → IfOk result (λ request. P × SpellsRequest version kind body request)
found_is_spelled (Ok request) version kind body p are answer = (p, value_is_spelled version kind body request are answer)
found_is_spelled (Err fault) version kind body p are answer = tt

pub spelled_is_found : (result : Result Request BodyFault) (version kind : ℕ) (body : List ℕ) (request : Request) → IsAnswer result (request_value version kind body) → SpellsRequest version kind body request → ¬ (result ≡ Err Memory) → result ≡ Ok request
spelled_is_found (Ok other) version kind body request answer spelled enough = ap Ok (some_is other request (sym answer ∙ spelled_is_value version kind body request spelled))
spelled_is_found (Err Malformed) version kind body request answer spelled enough =
    let impossible : None ≡ Some request = sym answer ∙ spelled_is_value version kind body request spelled in absurd cc
spelled_is_found (Err Memory) version kind body request answer spelled enough = absurd (enough refl)

-- what is there
some_request : (value : Option Request) → IsSome value → (request : Request) × (value ≡ Some request)
some_request None is = absurd (let impossible = is in cc)
some_request (Some request) is = (request, refl)

pub wanted_is_spelled : (result : Result Request BodyFault) (version kind : ℕ) (body : List ℕ) {P Q : Type 0} → P → Q → IsBytes body → IsAnswer result (request_value version kind body) → IsErrOf result Memory → P × Q × (request : Request) × SpellsRequest version kind body request
wanted_is_spelled (Ok it) version kind body p q are answer out_of_memory = absurd (let impossible = out_of_memory in cc)
wanted_is_spelled (Err Malformed) version kind body p q are answer out_of_memory = absurd (let impossible = out_of_memory in cc)
wanted_is_spelled (Err Memory) version kind body p q are answer out_of_memory =
    let some = some_request (request_value version kind body) answer in
    (p, q, some.0, value_is_spelled version kind body some.0 are some.1)

pub malformed_is_unspelled : (result : Result Request BodyFault) (version kind : ℕ) (body : List ℕ) {P : Type 0} → P → IsBytes body → IsAnswer result (request_value version kind body) → IsErrOf result Malformed ↔ (P → (request : Request) → SpellsRequest version kind body request → ⊥)
malformed_is_unspelled (Ok it) version kind body p are answer = ((λ is. absurd (let impossible = is in cc)), (λ nothing. absurd (nothing p it (value_is_spelled version kind body it are answer))))
malformed_is_unspelled (Err Malformed) version kind body p are answer = ((λ is p' request spelled. let impossible : None ≡ Some request = sym answer ∙ spelled_is_value version kind body request spelled in cc), (λ nothing. refl))
malformed_is_unspelled (Err Memory) version kind body p are answer =
    let some = some_request (request_value version kind body) answer in
    ((λ is. absurd (let impossible = is in cc)), (λ nothing. absurd (nothing p some.0 (value_is_spelled version kind body some.0 are some.1))))
