-- Loops that count what stands at the front.
use Rattle.std.proofs.Common.{◌≡◌, ℕ, ◌+◌, ◌<◌, ◌≤◌, Bool, true, false, List, length, drop, get_or, arith}
use Rattle.std.proofs.lemmas.List.Sums.{prefix_len-drop_yes, prefix_len-drop_no, prefix_len-drop_all}
use Rattle.std.specs.List.{prefix_len}

pub front_goes_on : (p : ℕ → Bool) (text : List ℕ) (place : ℕ) → place < length text → p (get_or text place 0) ≡ true → place + prefix_len p (drop place text) ≡ prefix_len p text → (place + 1) + prefix_len p (drop (place + 1) text) ≡ prefix_len p text
front_goes_on p text place inside passes so_far = omega (arith, prefix_len-drop_yes p text place 0 inside passes)

pub front_stops : (p : ℕ → Bool) (text : List ℕ) (place : ℕ) → place < length text → p (get_or text place 0) ≡ false → place + prefix_len p (drop place text) ≡ prefix_len p text → place ≡ prefix_len p text
front_stops p text place inside fails so_far = omega (arith, prefix_len-drop_no p text place 0 inside fails)

pub front_ends : (p : ℕ → Bool) (text : List ℕ) (place : ℕ) → length text ≤ place → place + prefix_len p (drop place text) ≡ prefix_len p text → place ≡ prefix_len p text
front_ends p text place past so_far = omega (arith, prefix_len-drop_all p text place past)
