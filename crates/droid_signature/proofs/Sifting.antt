-- One more item, and a table's rows.
use Rattle.std.proofs.Common.{◌≡◌, ◌∙◌, ℕ, zero, suc, ◌+◌, ◌^◌, ◌<◌, ◌≤◌, List, [], ◌∷◌, ◌++◌, length, map, take, get_or, Some, length-append, refl, sym, ap, subst, append_assoc, arith}
use Rattle.std.specs.List.{flat_map, slice_get}
use Rattle.std.proofs.lemmas.List.{append-nil, get_or-map, length-map, length-take-le, take_all, take_more}
use Rattle.std.proofs.lemmas.List.Concat.{flat_map-append}
use Rattle.droid_signature.specs.Csv.{line}
use Rattle.droid_signature.specs.Sifting.{Sifted, by_place, left_out, none, taken}
use Rattle.droid_signature.specs.Tables.{Fills, HasLeft, HasRow, IsNew}
use Rattle.droid_signature.specs.declared.left_out.LeftOut.{LeftOut}
use Rattle.droid_signature.specs.declared.table.Table.{Table}

by_place_push : {X Y : Type 0} (f : ℕ → X → List Y) (n : ℕ) (xs : List X) (x : X) → by_place f n (xs ++ x ∷ []) ≡ by_place f n xs ++ f (n + length xs) x
by_place_push f n [] x = let none : n ≡ n + 0 = omega arith in append-nil (f n x) ∙ ap (λ k. f k x) none
by_place_push f n (y ∷ xs) x =
    let place : suc n + length xs ≡ n + suc (length xs) = omega arith in
    ap (λ t. f n y ++ t) (by_place_push f (suc n) xs x ∙ ap (λ k. by_place f (suc n) xs ++ f k x) place)
    ∙ sym (append_assoc (f n y) (by_place f (suc n) xs) (f (n + suc (length xs)) x))

-- one more item of a loop
pub by_place_more : {X Y : Type 0} (f : ℕ → X → List Y) (xs : List X) (i : ℕ) (x : X) → i < length xs → x ≡ get_or xs i x → by_place f 0 (take (i + 1) xs) ≡ by_place f 0 (take i xs) ++ f i x
by_place_more f xs i x below is =
    let place : 0 + length (take i xs) ≡ i = omega (arith, length-take-le i xs) in
    ap (by_place f 0) (take_more xs i x below) ∙ ap (λ y. by_place f 0 (take i xs ++ y ∷ [])) (sym is) ∙ by_place_push f 0 (take i xs) x ∙ ap (λ k. by_place f 0 (take i xs) ++ f k x) place

-- an item of a list that is seen through a view
pub seen_below : {X Y : Type 0} (g : X → Y) (xs : List X) (i : ℕ) → i < length xs → i < length (map g xs)
seen_below g xs i below = omega (arith, length-map xs g)

pub seen_at : {X Y : Type 0} (g : X → Y) (xs : List X) (i : ℕ) (x : X) → i < length xs → x ≡ get_or xs i x → g x ≡ get_or (map g xs) i (g x)
seen_at g xs i x below is = sym (get_or-map g xs i x (g x) below ∙ ap g (sym is))

pub default_free : {X : Type 0} (xs : List X) (i : ℕ) (d e : X) → i < length xs → get_or xs i d ≡ get_or xs i e
default_free [] i d e below = absurd (omega arith)
default_free (x ∷ xs) zero d e below = refl
default_free (x ∷ xs) (suc i) d e below = default_free xs i d e (omega arith)

pub seen_there : {X Y : Type 0} (g : X → Y) (xs : List X) (i : ℕ) (x : X) → i < length xs → x ≡ get_or xs i x → slice_get (map g xs) i ≡ Some (g x)
seen_there g [] i x below is = absurd (omega arith)
seen_there g (y ∷ xs) zero x below is = ap (λ z. Some (g z)) (sym is)
seen_there g (y ∷ xs) (suc i) x below is = seen_there g xs i x (omega arith) is

-- ---- tables

pub fills_new : {X Row : Type 0} (Takes : List Row → X → Row → Type 0) (Leaves : List Row → X → LeftOut → Type 0) (fields_of : Row → List (List ℕ)) (table : Table) → IsNew table → Fills Takes Leaves fields_of [] table
fills_new Takes Leaves fields_of table is = record {
  rows = [];
  sifted = subst (λ (l : List LeftOut). Sifted Takes Leaves [] [] l) (sym is.left_out) none;
  text = is.text;
  count = is.count;
}

pub fills_taken : {X Row : Type 0} {Takes : List Row → X → Row → Type 0} {Leaves : List Row → X → LeftOut → Type 0} {fields_of : Row → List (List ℕ)} {xs : List X} {old : Table}
    (x : X) (row : Row) (new : Table) → Fills Takes Leaves fields_of xs old → HasRow old new (fields_of row) → old.count < 2 ^ 32 → ((before : List Row) → old.count ≡ length before → Takes before x row)
    → Fills Takes Leaves fields_of (xs ++ x ∷ []) new
fills_taken {Takes = Takes} {Leaves = Leaves} {fields_of = fields_of} {xs = xs} {old = old} x row new fills has small takes = record {
  rows = fills.rows ++ row ∷ [];
  sifted = subst (λ (l : List LeftOut). Sifted Takes Leaves (xs ++ x ∷ []) (fills.rows ++ row ∷ []) l) (sym has.left_out) (taken fills.sifted (takes fills.rows fills.count));
  text =
      has.text ∙ ap (λ t. t ++ line (fields_of row)) fills.text
      ∙ sym (flat_map-append (λ r. line (fields_of r)) fills.rows (row ∷ []) ∙ ap (λ t. flat_map (λ r. line (fields_of r)) fills.rows ++ t) (append-nil (line (fields_of row))));
  count = has.count small ∙ ap (λ n. n + 1) fills.count ∙ sym (length-append fills.rows (row ∷ []));
}

pub fills_left : {X Row : Type 0} {Takes : List Row → X → Row → Type 0} {Leaves : List Row → X → LeftOut → Type 0} {fields_of : Row → List (List ℕ)} {xs : List X} {old : Table}
    (x : X) (it : LeftOut) (new : Table) → Fills Takes Leaves fields_of xs old → HasLeft old new it → ((before : List Row) → old.count ≡ length before → Leaves before x it)
    → Fills Takes Leaves fields_of (xs ++ x ∷ []) new
fills_left {Takes = Takes} {Leaves = Leaves} {fields_of = fields_of} {xs = xs} {old = old} x it new fills has leaves = record {
  rows = fills.rows;
  sifted = subst (λ (l : List LeftOut). Sifted Takes Leaves (xs ++ x ∷ []) fills.rows l) (sym has.left_out) (left_out fills.sifted (leaves fills.rows fills.count));
  text = has.text ∙ fills.text;
  count = has.count ∙ fills.count;
}

-- ---- loops that fill a table

pub fills_start : {X Row : Type 0} {Takes : List Row → X → Row → Type 0} {Leaves : List Row → X → LeftOut → Type 0} {fields_of : Row → List (List ℕ)} (xs : List X) (table : Table)
    → Fills Takes Leaves fields_of xs table → Fills Takes Leaves fields_of (xs ++ []) table
fills_start {Takes = Takes} {Leaves = Leaves} {fields_of = fields_of} xs table fills = subst (λ l. Fills Takes Leaves fields_of l table) (sym (append-nil xs)) fills

module _ {X Row I : Type 0} {Takes : List Row → X → Row → Type 0} {Leaves : List Row → X → LeftOut → Type 0} {fields_of : Row → List (List ℕ)} where
  pub fills_more : (f : ℕ → I → List X) (items : List I) (i : ℕ) (item : I) (xs : List X) (table : Table) → i < length items → item ≡ get_or items i item
      → Fills Takes Leaves fields_of (xs ++ by_place f 0 (take i items) ++ f i item) table → Fills Takes Leaves fields_of (xs ++ by_place f 0 (take (i + 1) items)) table
  fills_more f items i item xs table below is fills =
      subst (λ (l : List X). Fills Takes Leaves fields_of l table) (append_assoc xs (by_place f 0 (take i items)) (f i item) ∙ ap (λ t. xs ++ t) (sym (by_place_more f items i item below is))) fills

  pub fills_whole : (f : ℕ → I → List X) (items : List I) (i : ℕ) (xs : List X) (table : Table) → length items ≤ i → Fills Takes Leaves fields_of (xs ++ by_place f 0 (take i items)) table → Fills Takes Leaves fields_of (xs ++ by_place f 0 items) table
  fills_whole f items i xs table long fills = subst (λ (l : List X). Fills Takes Leaves fields_of l table) (ap (λ l. xs ++ by_place f 0 l) (take_all i items long)) fills

  pub all_more : (f : ℕ → I → List X) (items : List I) (i : ℕ) (item : I) (table : Table) → i < length items → item ≡ get_or items i item
      → Fills Takes Leaves fields_of (by_place f 0 (take i items) ++ f i item) table → Fills Takes Leaves fields_of (by_place f 0 (take (i + 1) items)) table
  all_more f items i item table below is fills = subst (λ (l : List X). Fills Takes Leaves fields_of l table) (sym (by_place_more f items i item below is)) fills

  pub all_whole : (f : ℕ → I → List X) (items : List I) (i : ℕ) (table : Table) → length items ≤ i → Fills Takes Leaves fields_of (by_place f 0 (take i items)) table → Fills Takes Leaves fields_of (by_place f 0 items) table
  all_whole f items i table long fills = subst (λ (l : List X). Fills Takes Leaves fields_of l table) (ap (by_place f 0) (take_all i items long)) fills
