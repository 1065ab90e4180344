-- What is taken of a file, one item after the other, and what is left out.
use Rattle.std.specs.Prelude.{◌≡◌, ℕ, suc, List, [], ◌∷◌, ◌++◌, Some}
use Rattle.droid_signature.specs.declared.left_out.Item.{Item}
use Rattle.droid_signature.specs.declared.left_out.LeftOut.{LeftOut}
use Rattle.droid_signature.specs.declared.left_out.Why.{Why}

-- what each of a list becomes, by its place; the first has place n
abbrev pub by_place : {X Y : Type 0} → (ℕ → X → List Y) → ℕ → List X → List Y
by_place f n [] = []
by_place f n (x ∷ xs) = f n x ++ by_place f (suc n) xs

-- Items in their order: each becomes a row behind those before it, or is left out.
pub data Sifted {X Row : Type 0} (Takes : List Row → X → Row → Type 0) (Leaves : List Row → X → LeftOut → Type 0) : List
    X
    → List Row → List LeftOut → Type 0 where
  none : Sifted Takes Leaves [] [] []
  taken : {xs : List X} {rows : List Row} {left : List LeftOut} {x : X} {row : Row}
      → Sifted Takes Leaves xs rows left → Takes rows x row → Sifted Takes Leaves (xs ++ x ∷ []) (rows ++ row ∷ []) left
  left_out : {xs : List X} {rows : List Row} {left : List LeftOut} {x : X} {it : LeftOut}
      → Sifted Takes Leaves xs rows left → Leaves rows x it → Sifted Takes Leaves (xs ++ x ∷ []) rows (left ++ it ∷ [])

-- an item of the format at a place of the file is left out, for a reason of which P holds
pub record IsLeft (place : ℕ) (item : Item) (P : Why → Type 0) (it : LeftOut) : Type 0 where
  pub why : Why
  pub listed : it ≡ record { format = Some place; item = item; why = why }
  pub holds : P why
