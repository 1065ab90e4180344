-- A request that is read from a version, a kind and a body is of that kind.
use Rattle.std.proofs.Common.{◌≡◌, ℕ, ◌^◌, ◌==◌, Bool, true, false, cond, List, [], ◌∷◌, Option, Some, None, refl, sym, ap, ◌∙◌, inl, inr}
use Rattle.std.specs.Prelude.{nat_lt, IfSome}
use Rattle.std.specs.Bool.{if◌then◌else◌}
use Rattle.std.proofs.lemmas.Bool.Decides.{eqb_tells}
use Rattle.droid_frame.specs.declared.frame.Frame.{Frame}
use Rattle.droid_frame.specs.declared.request.Request.{Request}
use Rattle.droid_frame.specs.Bodies.{request_kind}
use Rattle.droid_frame.specs.Reading.{◌>>=◌, whole}
use Rattle.droid_frame.specs.Versions.{is_version}
use Rattle.droid_frame.specs.RequestValues.{create_profile_value, add_folder_value, add_file_value, piece_value, finish_value, abandon_value, status_value, export_value, plain_value, any_value, request_value, request_in}

-- a request of this kind, or none
record IsOf (kind : ℕ) (read : Option Request) : Type 0 where
  of : IfSome read (λ request. request_kind request ≡ kind)

then_of : {X : Type 0} (kind : ℕ) (o : Option X) (next : X → Option Request) → ((x : X) → IsOf kind (next x)) → IsOf kind (o >>= next)
then_of kind None next each = record { of = tt }
then_of kind (Some x) next each = each x

whole_of : (kind : ℕ) (rest : List ℕ) (request : Request) → request_kind request ≡ kind → IsOf kind (whole rest request)
unfolding whole
whole_of kind [] request is = record { of = is }
whole_of kind (byte ∷ rest) request is = record { of = tt }

some_of : (kind : ℕ) (request : Request) → request_kind request ≡ kind → IsOf kind (Some request)
some_of kind request is = record { of = is }

create_profile_of : (version : ℕ) (body : List ℕ) → IsOf 1 (create_profile_value version body)
unfolding create_profile_value
create_profile_of version body = search (then_of, whole_of, some_of, refl) depth 12

add_folder_of : (body : List ℕ) → IsOf 2 (add_folder_value body)
unfolding add_folder_value
add_folder_of body = search (then_of, whole_of, some_of, refl) depth 12

add_file_of : (body : List ℕ) → IsOf 3 (add_file_value body)
unfolding add_file_value
add_file_of body = search (then_of, whole_of, some_of, refl) depth 12

piece_of : (body : List ℕ) → IsOf 4 (piece_value body)
unfolding piece_value
piece_of body = search (then_of, whole_of, some_of, refl) depth 12

finish_of : (body : List ℕ) → IsOf 5 (finish_value body)
unfolding finish_value
finish_of body = search (then_of, whole_of, some_of, refl) depth 12

abandon_of : (body : List ℕ) → IsOf 6 (abandon_value body)
unfolding abandon_value
abandon_of body = search (then_of, whole_of, some_of, refl) depth 12

status_of : (body : List ℕ) → IsOf 7 (status_value body)
unfolding status_value
status_of body = search (then_of, whole_of, some_of, refl) depth 12

export_of : (body : List ℕ) → IsOf 8 (export_value body)
unfolding export_value
export_of body = search (then_of, whole_of, some_of, refl) depth 12

by_kind : (kind n : ℕ) (this others : Option Request) → IsOf n this → IsOf kind others → IsOf kind (if kind == n then this else others)
by_kind kind n this others here there =
    elim (eqb_tells kind n) [
      | inl t ↦ rw (t.0) (rw (sym t.1) at here)
      | inr t ↦ rw (t.0) there
    ]

plain_of : (version kind : ℕ) (body : List ℕ) → IsOf kind (plain_value version kind body)
unfolding plain_value
plain_of version kind body =
    by_kind kind 1 _ _ (create_profile_of version body)
    (by_kind kind 2 _ _ (add_folder_of body)
    (by_kind kind 3 _ _ (add_file_of body)
    (by_kind kind 4 _ _ (piece_of body)
    (by_kind kind 5 _ _ (finish_of body)
    (by_kind kind 6 _ _ (abandon_of body)
    (by_kind kind 7 _ _ (status_of body) (record { of = tt })))))))

any_of : (version kind : ℕ) (body : List ℕ) → IsOf kind (any_value version kind body)
unfolding any_value
any_of version kind body = by_kind kind 8 _ _ (export_of body) (plain_of version kind body)

where_true : (b : Bool) (kind : ℕ) (read : Option Request) → IsOf kind read → IsOf kind (cond b read None)
where_true true kind read is = is
where_true false kind read is = record { of = tt }

value_of : (version kind : ℕ) (body : List ℕ) → IsOf kind (request_value version kind body)
unfolding request_value
value_of version kind body = where_true (is_version version) kind (any_value version kind body) (any_of version kind body)

kind_in : (kind : ℕ) (read : Option Request) (request : Request) → read ≡ Some request → IsOf kind read → request_kind request ≡ kind
kind_in kind None request asked is = absurd cc
kind_in kind (Some found) request asked is = let same : found ≡ request = cc in ap request_kind (sym same) ∙ is.of

pub kind_of_request : (frame : Frame) (request : Request) → request_in frame ≡ Some request → request_kind request ≡ frame.kind
unfolding request_in
kind_of_request frame request asked = kind_in frame.kind _ request asked (where_true (nat_lt frame.number (2 ^ 63)) frame.kind (request_value frame.version frame.kind frame.body) (value_of frame.version frame.kind frame.body))
