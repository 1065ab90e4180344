-- What is among the items of a list, and among what they become.
use Rattle.std.proofs.Common.{◌≡◌, ◌⊎◌, ℕ, zero, suc, ◌+◌, ◌<◌, ◌≤◌, List, [], ◌∷◌, ◌++◌, length, map, Some, inl, inr, length-append, refl, sym, ap, subst, arith}
use Rattle.std.specs.List.{AllByRecursion, slice_get}
use Rattle.droid_pronom.specs.Registry.{AnyOf}
use Rattle.droid_pronom.proofs.Flags.{all_push, any_before, any_last, any_parts}
use Rattle.droid_signature.specs.Sifting.{Sifted, by_place, left_out, none, taken}
use Rattle.droid_signature.specs.declared.left_out.LeftOut.{LeftOut}

-- x is one of them
abbrev pub Among : {X : Type 0} → X → List X → Type 0
Among x xs = AnyOf (λ y. y ≡ x) xs

pub any_split : {X : Type 0} (P : X → Type 0) (xs ys : List X) → AnyOf P (xs ++ ys) → AnyOf P xs ⊎ AnyOf P ys
any_split P [] ys any = inr any
any_split P (x ∷ xs) ys (inl here) = inl (inl here)
any_split P (x ∷ xs) ys (inr any) = elim (any_split P xs ys any) [ inl a ↦ inl (inr a) | inr b ↦ inr b ]

pub any_left : {X : Type 0} (P : X → Type 0) (xs ys : List X) → AnyOf P xs → AnyOf P (xs ++ ys)
any_left P [] ys any = absurd any
any_left P (x ∷ xs) ys (inl here) = inl here
any_left P (x ∷ xs) ys (inr any) = inr (any_left P xs ys any)

pub any_right : {X : Type 0} (P : X → Type 0) (xs ys : List X) → AnyOf P ys → AnyOf P (xs ++ ys)
any_right P [] ys any = any
any_right P (x ∷ xs) ys any = inr (any_right P xs ys any)

-- one of which P holds
pub any_value : {X : Type 0} (P : X → Type 0) (xs : List X) → AnyOf P xs → (x : X) × Among x xs × P x
any_value P [] any = absurd any
any_value P (x ∷ xs) (inl here) = (x, inl refl, here)
any_value P (x ∷ xs) (inr any) = let (y, among, holds) = any_value P xs any in (y, inr among, holds)

pub among_any : {X : Type 0} (P : X → Type 0) (x : X) (xs : List X) → Among x xs → P x → AnyOf P xs
among_any P x [] among holds = absurd among
among_any P x (y ∷ xs) (inl same) holds = inl (subst P (sym same) holds)
among_any P x (y ∷ xs) (inr among) holds = inr (among_any P x xs among holds)

pub among_all : {X : Type 0} (P : X → Type 0) (x : X) (xs : List X) → Among x xs → AllByRecursion P xs → P x
among_all P x [] among all = absurd among
among_all P x (y ∷ xs) (inl same) (here, more) = subst P same here
among_all P x (y ∷ xs) (inr among) (here, more) = among_all P x xs among more

pub any_map : {X Y : Type 0} (P : Y → Type 0) (f : X → Y) (xs : List X) → AnyOf P (map f xs) → AnyOf (λ x. P (f x)) xs
any_map P f [] any = absurd any
any_map P f (x ∷ xs) (inl here) = inl here
any_map P f (x ∷ xs) (inr any) = inr (any_map P f xs any)

pub map_any : {X Y : Type 0} (P : Y → Type 0) (f : X → Y) (xs : List X) → AnyOf (λ x. P (f x)) xs → AnyOf P (map f xs)
map_any P f [] any = absurd any
map_any P f (x ∷ xs) (inl here) = inl here
map_any P f (x ∷ xs) (inr any) = inr (map_any P f xs any)

-- an item at a place
pub at_place : {X : Type 0} (P : X → Type 0) (xs : List X) (k : ℕ) (x : X) → AllByRecursion P xs → slice_get xs k ≡ Some x → P x
at_place P [] k x all there = absurd cc
at_place P (y ∷ xs) zero x (here, more) there = let same : y ≡ x = cc in subst P same here
at_place P (y ∷ xs) (suc k) x (here, more) there = at_place P xs k x more there

pub there_any : {X : Type 0} (P : X → Type 0) (xs : List X) (k : ℕ) (x : X) → slice_get xs k ≡ Some x → P x → AnyOf P xs
there_any P [] k x there holds = absurd cc
there_any P (y ∷ xs) zero x there holds = let same : y ≡ x = cc in inl (subst P (sym same) holds)
there_any P (y ∷ xs) (suc k) x there holds = inr (there_any P xs k x there holds)

-- ---- items by their place

pub by_place_parts : {X Y : Type 0} (f : ℕ → X → List Y) (n : ℕ) (xs : List X) (y : Y) → Among y (by_place f n xs) → (i : ℕ) × (place : ℕ) × (x : X) × (place ≡ n + i) × (slice_get xs i ≡ Some x) × Among y (f place x)
by_place_parts f n [] y among = absurd among
by_place_parts f n (x ∷ xs) y among = elim (any_split (λ z. z ≡ y) (f n x) (by_place f (suc n) xs) among) [
  | inl here ↦ (0, n, x, omega arith, refl, here)
  | inr later ↦ let (i, place, z, at, there, is) = by_place_parts f (suc n) xs y later in (suc i, place, z, omega arith, there, is)
]

pub by_place_among : {X Y : Type 0} (f : ℕ → X → List Y) (n : ℕ) (xs : List X) (y : Y) (i place : ℕ) (x : X) → place ≡ n + i → slice_get xs i ≡ Some x → Among y (f place x) → Among y (by_place f n xs)
by_place_among f n [] y i place x at there among = absurd cc
by_place_among f n (z ∷ xs) y zero place x at there among =
    let same : z ≡ x = cc in
    let first : place ≡ n = omega arith in
    any_left (λ w. w ≡ y) (f n z) (by_place f (suc n) xs) (subst (λ w. Among y (f n w)) (sym same) (subst (λ p. Among y (f p x)) first among))
by_place_among f n (z ∷ xs) y (suc i) place x at there among = any_right (λ w. w ≡ y) (f n z) (by_place f (suc n) xs) (by_place_among f (suc n) xs y i place x (omega arith) there among)

-- one item for each
pub singles_parts : {X Y : Type 0} (g : ℕ → X → Y) (n : ℕ) (xs : List X) (y : Y) → Among y (by_place (λ at x. g at x ∷ []) n xs) → (at : ℕ) × (x : X) × Among x xs × (g at x ≡ y)
singles_parts g n [] y among = absurd among
singles_parts g n (x ∷ xs) y (inl same) = (n, x, inl refl, same)
singles_parts g n (x ∷ xs) y (inr among) = let (at, z, is, same) = singles_parts g (suc n) xs y among in (at, z, inr is, same)

pub singles_among : {X Y : Type 0} (g : X → Y) (n : ℕ) (xs : List X) (x : X) → Among x xs → Among (g x) (by_place (λ at x. g x ∷ []) n xs)
singles_among g n [] x among = absurd among
singles_among g n (z ∷ xs) x (inl same) = inl (ap g same)
singles_among g n (z ∷ xs) x (inr among) = inr (singles_among g (suc n) xs x among)

-- ---- what is taken and what is left out

module _ {X Row : Type 0} (Takes : List Row → X → Row → Type 0) (Leaves : List Row → X → LeftOut → Type 0) where
  -- P holds of each row if it holds of each that may be taken
  pub sifted_rows : (P : Row → Type 0) (xs : List X) (rows : List Row) (left : List LeftOut) → Sifted Takes Leaves xs rows left
      → ((before : List Row) (x : X) (row : Row) → Among x xs → Takes before x row → P row) → AllByRecursion P rows
  sifted_rows P xs rows left none holds = tt
  sifted_rows P xs rows left (taken {xs = ys} {rows = before} {left = ls} {x = x} {row = row} sifted takes) holds =
      all_push P before row (sifted_rows P ys before ls sifted (λ b z r among t. holds b z r (any_before (λ w. w ≡ z) ys x among) t)) (holds before x row (any_last (λ w. w ≡ x) ys x refl) takes)
  sifted_rows P xs rows left (left_out {xs = ys} {rows = before} {left = ls} {x = x} {it = it} sifted leaves) holds =
      sifted_rows P ys before ls sifted (λ b z r among t. holds b z r (any_before (λ w. w ≡ z) ys x among) t)

  -- there are few, if each is taken only among few
  pub sifted_few : (most : ℕ) (xs : List X) (rows : List Row) (left : List LeftOut) → Sifted Takes Leaves xs rows left → ((before : List Row) (x : X) (row : Row) → Takes before x row → length before < most) → length rows ≤ most
  sifted_few most xs rows left none few = omega arith
  sifted_few most xs rows left (taken {xs = ys} {rows = before} {left = ls} {x = x} {row = row} sifted takes) few =
      let room = few before x row takes in
      let longer : length (before ++ row ∷ []) ≡ length before + 1 = length-append before (row ∷ []) in
      omega arith
  sifted_few most xs rows left (left_out {xs = ys} {rows = before} {left = ls} {x = x} {it = it} sifted leaves) few = sifted_few most ys before ls sifted few

  -- a row comes from an item
  pub sifted_any : (P : Row → Type 0) (xs : List X) (rows : List Row) (left : List LeftOut) → Sifted Takes Leaves xs rows left → AnyOf P rows → (x : X) × (before : List Row) × (row : Row) × Among x xs × Takes before x row × P row
  sifted_any P xs rows left none any = absurd any
  sifted_any P xs rows left (taken {xs = ys} {rows = before} {left = ls} {x = x} {row = row} sifted takes) any = elim (any_parts P before row any) [
    | inl old ↦ let (z, b, r, among, t, holds) = sifted_any P ys before ls sifted old in (z, b, r, any_before (λ w. w ≡ z) ys x among, t, holds)
    | inr new ↦ (x, before, row, any_last (λ w. w ≡ x) ys x refl, takes, new)
  ]
  sifted_any P xs rows left (left_out {xs = ys} {rows = before} {left = ls} {x = x} {it = it} sifted leaves) any =
      let (z, b, r, among, t, holds) = sifted_any P ys before ls sifted any in (z, b, r, any_before (λ w. w ≡ z) ys x among, t, holds)

  -- an item is taken or left out
  pub data Went (x : X) (rows : List Row) (left : List LeftOut) : Type 0 where
    as_row : (before : List Row) (row : Row) → Takes before x row → Among row rows → Went x rows left
    without : (before : List Row) (it : LeftOut) → Leaves before x it → Among it left → Went x rows left

  pub sifted_each : (xs : List X) (rows : List Row) (left : List LeftOut) → Sifted Takes Leaves xs rows left → (x : X) → Among x xs → Went x rows left
  sifted_each xs rows left none x among = absurd among
  sifted_each xs rows left (taken {xs = ys} {rows = before} {left = ls} {x = y} {row = row} sifted takes) x among = elim (any_parts (λ w. w ≡ x) ys y among) [
    | inl old ↦ elim (sifted_each ys before ls sifted x old) [
      | as_row b r t in_rows ↦ as_row b r t (any_before (λ w. w ≡ r) before row in_rows)
      | without b it l in_left ↦ without b it l in_left
    ]
    | inr same ↦ as_row before row (subst (λ z. Takes before z row) same takes) (any_last (λ w. w ≡ row) before row refl)
  ]
  sifted_each xs rows left (left_out {xs = ys} {rows = before} {left = ls} {x = y} {it = it} sifted leaves) x among = elim (any_parts (λ w. w ≡ x) ys y among) [
    | inl old ↦ elim (sifted_each ys before ls sifted x old) [
      | as_row b r t in_rows ↦ as_row b r t in_rows
      | without b l s in_left ↦ without b l s (any_before (λ w. w ≡ l) ls it in_left)
    ]
    | inr same ↦ without before it (subst (λ z. Leaves before z it) same leaves) (any_last (λ w. w ≡ it) ls it refl)
  ]
