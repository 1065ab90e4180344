-- What is written into a pool is read from it.
use Rattle.std.proofs.Common.{◌≡◌, ℕ, suc, ◌+◌, ◌*◌, ◌/◌, ◌%◌, List, [], ◌∷◌, ◌++◌, ◌-◌, ◌<◌, length, take, drop, refl, sym, ap, ◌∙◌, arith, append_assoc, take_at, drop_at}
use Rattle.std.proofs.lemmas.List.{append-nil, flat_map_more}
use Rattle.std.specs.List.{flat_map}
use Rattle.droid_pattern.specs.Patterns.{Gap, Choice}
use Rattle.droid_pattern.specs.Cells.{number_bytes, front_number, runs_in, run_bytes, choice_bytes, alternatives_in, gap_in}

-- the two bytes of a number
pub read_number : (n : ℕ) → 256 * (n / 256) + n % 256 ≡ n
read_number n = omega arith

-- runs of bytes, and whatever is written behind them
pub read_runs : (runs : List (List ℕ)) (more : List ℕ) → runs_in (length runs) (flat_map run_bytes runs ++ more) ≡ runs
read_runs [] more = refl
read_runs (run ∷ runs) more =
    let n = length run in
    let later = flat_map run_bytes runs in
    let group : (run ++ later) ++ more ≡ run ++ (later ++ more) = append_assoc run later more in
    rw (read_number n, group, take_at run (later ++ more) n refl, drop_at run (later ++ more) n refl) (ap (λ rest. run ∷ rest) (read_runs runs more))

-- alternatives, and whatever is written behind them
pub read_choice : (runs : List (List ℕ)) (more : List ℕ) → alternatives_in (choice_bytes runs ++ more) ≡ runs
read_choice runs more = rw (read_number (length runs)) (read_runs runs more)

-- what was written behind the pool is read at the place where the pool ended
pub read_at : (old added more : List ℕ) (place : ℕ) → place ≡ length old → drop place (old ++ added ++ more) ≡ added ++ more
read_at old added more place at = rw (append_assoc old added more) (drop_at old (added ++ more) place (sym at))

-- one more run is read
pub runs_left : (count turn : ℕ) (done : List (List ℕ)) (bytes : List ℕ) (all : List (List ℕ)) → turn < count
    → done ++ runs_in (count - turn) bytes ≡ all
    → (done ++ take (front_number bytes) (drop 2 bytes) ∷ []) ++ runs_in (count - (turn + 1)) (drop (front_number bytes) (drop 2 bytes)) ≡ all
runs_left count turn done bytes all below so_far =
    let run = take (front_number bytes) (drop 2 bytes) in
    let rest = drop (front_number bytes) (drop 2 bytes) in
    let left : count - turn ≡ suc (count - (turn + 1)) = omega arith in
    let cut : runs_in (count - turn) bytes ≡ run ∷ runs_in (count - (turn + 1)) rest = ap (λ n. runs_in n bytes) left in
    append_assoc done (run ∷ []) (runs_in (count - (turn + 1)) rest) ∙ ap (λ xs. done ++ xs) (sym cut) ∙ so_far

-- the two numbers of a gap are read where they were written, whatever stands behind them
pub gap_stays : (old mid new : List ℕ) (least extra place : ℕ) → place ≡ length old → mid ≡ old ++ number_bytes least → new ≡ mid ++ number_bytes extra
    → (more : List ℕ) → gap_in (drop place (new ++ more)) ≡ Gap least (least + extra)
gap_stays old mid new least extra place at first second more =
    let a = number_bytes least in
    let b = number_bytes extra in
    let group : new ++ more ≡ old ++ (a ++ (b ++ more)) = ap (λ xs. xs ++ more) (second ∙ ap (λ xs. xs ++ b) first) ∙ append_assoc (old ++ a) b more ∙ append_assoc old a (b ++ more) in
    let read : drop place (new ++ more) ≡ a ++ (b ++ more) = ap (drop place) group ∙ drop_at old (a ++ (b ++ more)) place (sym at) in
    ap gap_in read ∙ pair (read_number least) (read_number extra)
  where
    pair : {x n y m : ℕ} → x ≡ n → y ≡ m → Gap x (x + y) ≡ Gap n (n + m)
    pair e f = rw (e, f) refl

-- and so are alternatives
pub choice_stays : (old new : List ℕ) (runs : List (List ℕ)) (place : ℕ) → place ≡ length old → new ≡ old ++ choice_bytes runs
    → (more : List ℕ) → Choice (alternatives_in (drop place (new ++ more))) ≡ Choice runs
choice_stays old new runs place at grown more =
    let bytes = choice_bytes runs in
    let group : new ++ more ≡ old ++ (bytes ++ more) = ap (λ xs. xs ++ more) grown ∙ append_assoc old bytes more in
    let read : drop place (new ++ more) ≡ bytes ++ more = ap (drop place) group ∙ drop_at old (bytes ++ more) place (sym at) in
    ap Choice (ap alternatives_in read ∙ read_choice runs more)

-- no run is written yet
pub runs_none : (old pool : List ℕ) (n m : ℕ) → n ≡ m → pool ≡ old ++ number_bytes n → pool ≡ old ++ number_bytes m ++ []
runs_none old pool n m same e = e ∙ ap (λ k. old ++ number_bytes k) same ∙ sym (append-nil (old ++ number_bytes m))

-- one more run is written
pub run_more : (old head : List ℕ) (done : List (List ℕ)) (run pool mid new : List ℕ) (n : ℕ) → n ≡ length run
    → pool ≡ old ++ head ++ flat_map run_bytes done → mid ≡ pool ++ number_bytes n → new ≡ mid ++ run
    → new ≡ old ++ head ++ flat_map run_bytes (done ++ run ∷ [])
run_more old head done run pool mid new n same so_far first second =
    let both : new ≡ (pool ++ number_bytes (length run)) ++ run = second ∙ ap (λ xs. xs ++ run) (first ∙ ap (λ k. pool ++ number_bytes k) same) in
    both ∙ append_assoc pool (number_bytes (length run)) run ∙ ap (λ xs. xs ++ run_bytes run) so_far ∙ flat_map_more run_bytes (old ++ head) done run

-- all are written
pub runs_whole : (old : List ℕ) (runs : List (List ℕ)) (n : ℕ) (pool : List ℕ) → n ≡ length runs → pool ≡ old ++ number_bytes n ++ flat_map run_bytes runs
    → pool ≡ old ++ choice_bytes runs
runs_whole old runs n pool same e =
    e ∙ append_assoc old (number_bytes n) (flat_map run_bytes runs) ∙ ap (λ k. old ++ (number_bytes k ++ flat_map run_bytes runs)) same
