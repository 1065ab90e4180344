-- What the pieces read so far say of the whole document.
use Rattle.std.proofs.Common.{◌≡◌, ℕ, List, [], ◌∷◌, ◌++◌, Some, None, refl, sym, ap, subst, ◌∙◌, inl, inr}
use Rattle.std.specs.Prelude.{Result, Ok, Err}
use Rattle.droid_xml.specs.Documents.{Place, Run, IsDocument, HasProblem, next_at, start_of}
use Rattle.droid_xml.specs.Outcomes.{Fails}
use Rattle.droid_xml.specs.Pieces.{Part}
use Rattle.droid_xml.specs.Views.{IsFaultOf, IsMemory}
use Rattle.droid_xml.specs.declared.problem.Fault.{Fault}
use Rattle.droid_xml.specs.declared.problem.Fault.TheVariants as faults
use Rattle.droid_xml.specs.declared.problem.Problem.{Problem}
use Rattle.droid_xml.proofs.Runs.{run_more, same_rest, no_rest}

-- these pieces have been read from the beginning of the text, up to the place
abbrev pub HasRead : List ℕ → List Part → Place → Type 0
HasRead text parts place = (first : Place) × (start_of text ≡ Ok first) × Run first parts place

pub begun : (text : List ℕ) (first : Place) → start_of text ≡ Ok first → HasRead text [] first
begun text first is = (first, is, refl)

pub read_more : (text : List ℕ) (parts : List Part) (part : Part) (place behind : Place) → HasRead text parts place → next_at place ≡ Ok (Some (part, behind)) → HasRead text (parts ++ part ∷ []) behind
read_more text parts part place behind has is = (has.0, has.1, run_more parts part has.0 place behind has.2 is)

pub read_whole : (text : List ℕ) (parts : List Part) (place : Place) → HasRead text parts place → next_at place ≡ Ok None → IsDocument text parts
read_whole text parts place has is = (has.0, has.1, (place, has.2, is))

first_of_ok : Result Place (Problem × ℕ) → Place → Place
first_of_ok (Ok first) other = first
first_of_ok (Err e) other = other

one_first : (at : Result Place (Problem × ℕ)) (x y : Place) → at ≡ Ok x → at ≡ Ok y → x ≡ y
unfolding first_of_ok
one_first at x y first second = ap (λ r. first_of_ok r x) (sym first ∙ second)

-- a document has no other pieces
pub read_only : (text : List ℕ) (parts others : List Part) (place : Place) → HasRead text parts place → next_at place ≡ Ok None → IsDocument text others → parts ≡ others
read_only text parts others place has is document =
    let same : has.0 ≡ document.0 = one_first (start_of text) has.0 document.0 has.1 document.1 in
    let run : Run has.0 others document.2.0 = subst (λ (first : Place). Run first others document.2.0) (sym same) document.2.1 in
    same_rest parts others has.0 place document.2.0 has.2 is run document.2.2

-- a text with a problem is no document
pub no_document : (text : List ℕ) (parts others : List Part) (place : Place) (e : Problem × ℕ) → HasRead text parts place → next_at place ≡ Err e → IsDocument text others → ⊥
no_document text parts others place e has is document =
    let same : has.0 ≡ document.0 = one_first (start_of text) has.0 document.0 has.1 document.1 in
    let run : Run has.0 others document.2.0 = subst (λ (first : Place). Run first others document.2.0) (sym same) document.2.1 in
    no_rest parts others has.0 place document.2.0 e has.2 is run document.2.2

-- a fault behind the parts that were read is a fault of the text
pub fault_of_rest : (text : List ℕ) (parts : List Part) (place : Place) (fault : Fault) → HasRead text parts place → Fails fault (next_at place) → IsFaultOf text fault
fault_of_rest text parts place faults.Memory has is = tt
fault_of_rest text parts place (faults.Problem problem line) has is = inr (has.0, has.1, (parts, place, has.2, is))

-- nothing but memory stands in the way of a document
pub only_memory : (text : List ℕ) (parts others : List Part) (place : Place) (fault : Fault) → HasRead text parts place → Fails fault (next_at place) → IsDocument text others → IsMemory fault
only_memory text parts others place faults.Memory has is document = tt
only_memory text parts others place (faults.Problem problem line) has is document = no_document text parts others place (problem, line) has is document

-- a text has the pieces of one document at most
pub one_document : (text : List ℕ) (parts others : List Part) → IsDocument text parts → IsDocument text others → parts ≡ others
one_document text parts others one other = read_only text parts others one.2.0 (one.0, one.1, one.2.1) one.2.2 other

-- a document has no problem
pub no_problem : (text : List ℕ) (parts : List Part) (problem : Problem) (line : ℕ) → IsDocument text parts → HasProblem text problem line → ⊥
no_problem text parts problem line document (inl is) = let start = document.1 in absurd cc
no_problem text parts problem line document (inr faulty) = no_document text faulty.2.0 parts faulty.2.1 (problem, line) (faulty.0, faulty.1, faulty.2.2) faulty.2.3 document
