-- One step over a document.
use Rattle.std.proofs.Common.{◌≡◌, ℕ, Bool, true, false, cond, eqb, List, length, Option, Some, None, ap, ◌∙◌}
use Rattle.std.specs.Prelude.{Result, Ok, Err}
use Rattle.droid_xml.specs.Documents.{Place, at_end, at_line, line_of, moved, next_at, piece_at}
use Rattle.droid_xml.specs.Nestings.{Nesting, is_complete, nested}
use Rattle.droid_xml.specs.Outcomes.{◌>>=◌, Fails, Stops, fault_at}
use Rattle.droid_xml.specs.Pieces.{Part}
use Rattle.droid_xml.specs.declared.problem.Problem.{Problem}
use Rattle.droid_xml.specs.declared.problem.Problem.TheVariants as problems
use Rattle.droid_xml.specs.declared.problem.Stop.{Stop}
use Rattle.droid_xml.specs.declared.problem.Stop.TheVariants as stops

next_here : (place : Place) (is_last : Bool) → eqb (length place.rest) 0 ≡ is_last → next_at place ≡ at_line (line_of place.text place.rest) (cond is_last (at_end place) (moved place))
unfolding next_at
next_here place is_last is = ap (λ (last : Bool). at_line (line_of place.text place.rest) (cond last (at_end place) (moved place))) is

none_left : (place : Place) → length place.rest ≡ 0 → eqb (length place.rest) 0 ≡ true
none_left place none = ap (λ (n : ℕ). eqb n 0) none

-- nothing is left, and the document may end
pub ends : (place : Place) → length place.rest ≡ 0 → is_complete place.nesting ≡ true → next_at place ≡ Ok None
ends place none complete =
    next_here place true (none_left place none)
    ∙ ap (λ (c : Bool). at_line (line_of place.text place.rest) (cond c (Ok None) (Err problems.NotWellFormed))) complete

-- nothing is left, and the document may not end
pub ends_early : (place : Place) → length place.rest ≡ 0 → is_complete place.nesting ≡ false → next_at place ≡ Err (problems.NotWellFormed, line_of place.text place.rest)
ends_early place none incomplete =
    next_here place true (none_left place none)
    ∙ ap (λ (c : Bool). at_line {A = Option (Part × Place)} (line_of place.text place.rest) (cond c (Ok None) (Err problems.NotWellFormed))) incomplete

goes_on : (place : Place) → eqb (length place.rest) 0 ≡ false → next_at place ≡ at_line (line_of place.text place.rest) (moved place)
goes_on place some = next_here place false some

-- no piece comes next
pub piece_fails : (place : Place) (stop : Stop) → eqb (length place.rest) 0 ≡ false → Stops stop (piece_at place.rest) → Fails (fault_at (line_of place.text place.rest) stop) (next_at place)
piece_fails place stops.Memory some is = tt
piece_fails place (stops.Problem problem) some is =
    goes_on place some
    ∙ ap (λ (read : Result (Part × List ℕ) Problem). at_line (line_of place.text place.rest) (read >>= (λ found. nested place.nesting found.0 >>= (λ nesting. Ok (Some (found.0, record { text = place.text; rest = found.1; nesting = nesting })))))) is

-- what the next step is behind the piece
behind_piece : (place : Place) (found : Part × List ℕ) → eqb (length place.rest) 0 ≡ false → piece_at place.rest ≡ Ok found → next_at place ≡ at_line (line_of place.text place.rest) (nested place.nesting found.0 >>= (λ nesting. Ok (Some (found.0, record { text = place.text; rest = found.1; nesting = nesting }))))
behind_piece place found some is =
    goes_on place some
    ∙ ap (λ (read : Result (Part × List ℕ) Problem). at_line (line_of place.text place.rest) (read >>= (λ found. nested place.nesting found.0 >>= (λ nesting. Ok (Some (found.0, record { text = place.text; rest = found.1; nesting = nesting })))))) is

-- the next piece may not stand here
pub nesting_fails : (place : Place) (found : Part × List ℕ) (stop : Stop) → eqb (length place.rest) 0 ≡ false → piece_at place.rest ≡ Ok found → Stops stop (nested place.nesting found.0) → Fails (fault_at (line_of place.text place.rest) stop) (next_at place)
nesting_fails place found stops.Memory some read is = tt
nesting_fails place found (stops.Problem problem) some read is =
    behind_piece place found some read
    ∙ ap (λ (nest : Result Nesting Problem). at_line (line_of place.text place.rest) (nest >>= (λ nesting. Ok (Some (found.0, record { text = place.text; rest = found.1; nesting = nesting }))))) is

-- the next piece, and the place behind it
pub piece_comes : (place : Place) (found : Part × List ℕ) (nesting : Nesting) → eqb (length place.rest) 0 ≡ false → piece_at place.rest ≡ Ok found → nested place.nesting found.0 ≡ Ok nesting → next_at place ≡ Ok (Some (found.0, record { text = place.text; rest = found.1; nesting = nesting }))
piece_comes place found nesting some read is =
    behind_piece place found some read
    ∙ ap (λ (nest : Result Nesting Problem). at_line (line_of place.text place.rest) (nest >>= (λ nesting. Ok (Some (found.0, record { text = place.text; rest = found.1; nesting = nesting }))))) is
