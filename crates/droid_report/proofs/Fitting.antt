-- A page that is too large leads on to the next limit.
use Rattle.std.proofs.Common.{◌≡◌, ◌<◌, ◌+◌, ℕ, List, ◌∷◌, length, drop, drop-cons, add-one, get_or, inr, refl}
use Rattle.droid_report.specs.ShownReports.{IsFirstToFit}

-- the limits from a place on
rest_at : (xs : List ℕ) (i : ℕ) → i < length xs → drop i xs ≡ get_or xs i 0 ∷ drop (i + 1) xs
rest_at xs i below = rw (add-one, drop-cons xs i 0) refl

pub next_limit : (P : ℕ → List ℕ → Type 0) (limits : List ℕ) (i : ℕ) (page text : List ℕ) → i < length limits → P (get_or limits i 0) page → 300000 < length page
    → IsFirstToFit P (drop (i + 1) limits) text → IsFirstToFit P (drop i limits) text
next_limit P limits i page text below is long later = rw (rest_at limits i below) (inr (page, is, long, later))
