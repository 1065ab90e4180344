-- Words, as a test (this project's own).
use Rattle.std.specs.Prelude.{ℕ, ◌==◌, ◌&&◌, Bool, not, nat_lt, List, length}
use Rattle.std.specs.List.{list_any}

-- not empty, and without a space
abbrev pub is_word : List ℕ → Bool
is_word text = nat_lt 0 (length text) && not (list_any (λ byte. byte == 32) text)
