-- Parts of the bytes.
use Rattle.std.proofs.Common.{◌≡◌, ℕ, ◌-◌, ◌≤◌, List, length, take, drop, arith, length-take, length-drop}

pub length_part : (bytes : List ℕ) (at end : ℕ) → end ≤ length bytes → length (take (end - at) (drop at bytes)) ≡ end - at
length_part bytes at end inside = simp (length-take, length-drop) (omega arith)
