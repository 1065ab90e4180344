-- Stars in a row: their cell, and the positions that they lead to.
use Rattle.std.proofs.Common.{◌≡◌, ◌↔◌, ℕ, zero, suc, ◌+◌, ◌≤◌, get_or, set, replicate, List, [], ◌∷◌, ◌++◌, length, take, map, sym, ap, ◌∙◌, arith, append_assoc, length-take}
use Rattle.std.proofs.Math.Seq.{set-append_seam}
use Rattle.std.proofs.lemmas.List.{map-append, flat_map_more, replicate-append-replicate, take_all, take_more}
use Rattle.std.proofs.lemmas.Grind.{flat_map-append}
use Rattle.std.specs.List.{flat_map}
use Rattle.droid_pattern.specs.declared.cell.Cell.{Cell}
use Rattle.droid_pattern.specs.declared.cell.Cell.TheVariants as cells
use Rattle.droid_pattern.specs.declared.token.Token.{Token}
use Rattle.droid_pattern.specs.declared.direction.Direction.TheVariants as direction
use Rattle.droid_pattern.specs.Tokens.{element_of}
use Rattle.droid_pattern.specs.Patterns.{Element, OpenGap}
use Rattle.droid_pattern.specs.Positions.{Leads, Path, Reaches}
use Rattle.droid_pattern.specs.Cells.{element_at, elements_at, more_of, number_of}
use Rattle.droid_pattern.proofs.PathLemmas.{Path-append, begins_more, ends_more}

-- one run of stars and another
pub stars_joined : (m f n : ℕ) (star : Element) → n ≡ m + 1 + f → star ∷ replicate n star ≡ (star ∷ replicate m star) ++ star ∷ replicate f star
stars_joined m f n star sum =
    let all : n ≡ m + suc f = omega arith in
    ap (λ k. star ∷ replicate k star) all ∙ ap (λ xs. star ∷ xs) (sym (replicate-append-replicate m (suc f) star))

-- the last cell gives way to one that stands for it and the next
pub last_joined : (f : Cell → List Element) (old : List Cell) (place : ℕ) (last cell joined : Cell) → place + 1 ≡ length old → last ≡ get_or old place last
    → f joined ≡ f last ++ f cell → flat_map f (set old place joined) ≡ flat_map f old ++ f cell
last_joined f old place last cell joined end read both =
    let before = take place old in
    let whole : old ≡ before ++ last ∷ [] = sym (take_all (place + 1) old (omega arith)) ∙ take_more old place last (omega arith) ∙ ap (λ x. before ++ x ∷ []) (sym read) in
    let there : set old place joined ≡ before ++ joined ∷ [] =
    ap (λ n. set old n joined) (omega (arith, length-take place old)) ∙ ap (λ xs. set xs (length before) joined) whole ∙ set-append_seam before last [] joined in
    let one : flat_map f (set old place joined) ≡ flat_map f before ++ f joined = ap (flat_map f) there ∙ sym (flat_map_more f [] before joined) in
    let other : flat_map f old ≡ flat_map f before ++ f last = ap (flat_map f) whole ∙ sym (flat_map_more f [] before last) in
    one ∙ ap (λ xs. flat_map f before ++ xs) both ∙ sym (append_assoc (flat_map f before) (f last) (f cell)) ∙ ap (λ xs. xs ++ f cell) (sym other)

-- one more token, in a cell of its own or joined with the last one
pub token_more : (old new : List ℕ) (cells after : List Cell) (tokens : List Token) (cell : Cell) (token : Token)
    → ((added : List ℕ) × (new ≡ old ++ added)) → more_of cell ≡ 0 → ((more : List ℕ) → element_at (new ++ more) cell ≡ element_of token)
    → ((pool : List ℕ) → flat_map (elements_at pool) after ≡ flat_map (elements_at pool) cells ++ elements_at pool cell)
    → ((more : List ℕ) → flat_map (elements_at (old ++ more)) cells ≡ map element_of tokens)
    → (more : List ℕ) → flat_map (elements_at (new ++ more)) after ≡ map element_of (tokens ++ token ∷ [])
token_more old new cells after tokens cell token (added, grown) one stays put so_far more =
    let group : new ++ more ≡ old ++ (added ++ more) = ap (λ xs. xs ++ more) grown ∙ append_assoc old added more in
    let before : flat_map (elements_at (new ++ more)) cells ≡ map element_of tokens = ap (λ pool. flat_map (elements_at pool) cells) group ∙ so_far (added ++ more) in
    let here : elements_at (new ++ more) cell ≡ element_of token ∷ [] = ap (λ n. element_at (new ++ more) cell ∷ replicate n (element_at (new ++ more) cell)) one ∙ ap (λ e. e ∷ []) (stays more) in
    put (new ++ more) ∙ ap (λ xs. xs ++ elements_at (new ++ more) cell) before ∙ ap (λ xs. map element_of tokens ++ xs) here ∙ sym (map-append element_of tokens (token ∷ []))

-- a star leads to any position that isn't before
star_leads : (bytes : List ℕ) (p q : ℕ) → p ≤ q → q ≤ length bytes → Leads (OpenGap 0) bytes p q
star_leads bytes p q ordered inside = record { ordered = ordered; inside = inside; matched = omega arith }

-- stars behind a star lead to nothing new
stars_path : (n : ℕ) (es : List Element) (bytes : List ℕ) (p q : ℕ)
    → Path (OpenGap 0 ∷ (replicate n (OpenGap 0) ++ es)) bytes p q ↔ Path (OpenGap 0 ∷ es) bytes p q
stars_path zero es bytes p q = (λ h. h, λ h. h)
stars_path (suc n) es bytes p q = (
  λ (r, first, (s, second, path)).
      let near = first.ordered in
      let far = second.ordered in
      (stars_path n es bytes p q).0 (s, star_leads bytes p s (omega arith) second.inside, path),
  λ h.
      let (r, leads, path) = (stars_path n es bytes p q).1 h in
      let near = leads.ordered in
      let far = leads.inside in
      (p, star_leads bytes p p (omega arith) (omega arith), (r, leads, path)),
)

-- over all the elements of a cell, as over the one
cell_path : (pool : List ℕ) (cell : Cell) (es : List Element) (bytes : List ℕ) (p q : ℕ)
    → Path (elements_at pool cell ++ es) bytes p q ↔ Path (element_at pool cell ∷ es) bytes p q
cell_path pool (cells.Byte b) es bytes p q = (λ h. h, λ h. h)
cell_path pool (cells.Range low high) es bytes p q = (λ h. h, λ h. h)
cell_path pool (cells.Except b) es bytes p q = (λ h. h, λ h. h)
cell_path pool cells.AnyByte es bytes p q = (λ h. h, λ h. h)
cell_path pool (cells.OpenGap least) es bytes p q = (λ h. h, λ h. h)
cell_path pool (cells.Stars more) es bytes p q = stars_path (number_of more) es bytes p q
cell_path pool (cells.Gap at) es bytes p q = (λ h. h, λ h. h)
cell_path pool (cells.Choice at) es bytes p q = (λ h. h, λ h. h)

-- the first cell of what is left, at one position
pub reported_cell : {B : Type 0} (pool : List ℕ) (left : List Cell) (here : Cell) (rest : List Cell) (bytes : List ℕ) (p : ℕ) → left ≡ here ∷ rest
    → (B ↔ ((q : ℕ) × Path (flat_map (elements_at pool) left) bytes p q))
    → B ↔ ((q : ℕ) × Path (element_at pool here ∷ flat_map (elements_at pool) rest) bytes p q)
reported_cell {B} pool left here rest bytes p first so_far =
    let es = flat_map (elements_at pool) rest in
    let open_up : B ↔ ((q : ℕ) × Path (elements_at pool here ++ es) bytes p q) = rw first at so_far in (
      λ b. let (q, path) = open_up.0 b in (q, (cell_path pool here es bytes p q).0 path),
      λ (q, path). open_up.1 (q, (cell_path pool here es bytes p q).1 path),
    )

-- and at one of several
pub begins_cell : {B : Type 0} (pool : List ℕ) (left : List Cell) (here : Cell) (rest : List Cell) (bytes : List ℕ) (from to : ℕ → Type 0) → left ≡ here ∷ rest
    → (B ↔ ((p : ℕ) × from p × ((q : ℕ) × Path (flat_map (elements_at pool) left) bytes p q)))
    → Reaches direction.End (element_at pool here) bytes from to
    → B ↔ ((p : ℕ) × to p × ((q : ℕ) × Path (flat_map (elements_at pool) rest) bytes p q))
begins_cell {B} pool left here rest bytes from to first so_far step =
    let es = flat_map (elements_at pool) rest in
    let open_up : B ↔ ((p : ℕ) × from p × ((q : ℕ) × Path (elements_at pool here ++ es) bytes p q)) = rw first at so_far in
    begins_more (element_at pool here) es bytes from to (
      λ b. let (p, position, (q, path)) = open_up.0 b in (p, position, (q, (cell_path pool here es bytes p q).0 path)),
      λ (p, position, (q, path)). open_up.1 (p, position, (q, (cell_path pool here es bytes p q).1 path)),
    ) step

-- over the cells before the last and then the last, as over its one element
last_path : (pool : List ℕ) (before : List Cell) (here : Cell) (bytes : List ℕ) (p q : ℕ)
    → Path (flat_map (elements_at pool) (before ++ here ∷ [])) bytes p q ↔ Path (flat_map (elements_at pool) before ++ element_at pool here ∷ []) bytes p q
last_path pool before here bytes p q =
    let es = flat_map (elements_at pool) before in
    let whole : flat_map (elements_at pool) (before ++ here ∷ []) ≡ es ++ (elements_at pool here ++ []) = flat_map-append (elements_at pool) before (here ∷ []) in (
      λ path.
          let opened : Path (es ++ (elements_at pool here ++ [])) bytes p q = rw whole at path in
          let (r, one, other) = (Path-append es (elements_at pool here ++ []) bytes p q).0 opened in
          (Path-append es (element_at pool here ∷ []) bytes p q).1 (r, one, (cell_path pool here [] bytes r q).0 other),
      λ path.
          let (r, one, other) = (Path-append es (element_at pool here ∷ []) bytes p q).0 path in
          rw whole ((Path-append es (elements_at pool here ++ []) bytes p q).1 (r, one, (cell_path pool here [] bytes r q).1 other)),
    )

-- the last of the remaining cells, toward the start
pub ends_cell : {B : Type 0} (pool : List ℕ) (left before : List Cell) (here : Cell) (bytes : List ℕ) (from to : ℕ → Type 0) → left ≡ before ++ here ∷ []
    → (B ↔ ((q : ℕ) × from q × ((p : ℕ) × (p ≤ length bytes) × Path (flat_map (elements_at pool) left) bytes p q)))
    → Reaches direction.Start (element_at pool here) bytes from to
    → B ↔ ((q : ℕ) × to q × ((p : ℕ) × (p ≤ length bytes) × Path (flat_map (elements_at pool) before) bytes p q))
ends_cell {B} pool left before here bytes from to last so_far step =
    let es = flat_map (elements_at pool) before in
    let open_up : B ↔ ((q : ℕ) × from q × ((p : ℕ) × (p ≤ length bytes) × Path (flat_map (elements_at pool) (before ++ here ∷ [])) bytes p q)) = rw last at so_far in
    ends_more (element_at pool here) es bytes from to (
      λ b. let (q, position, (p, first, path)) = open_up.0 b in (q, position, (p, first, (last_path pool before here bytes p q).0 path)),
      λ (q, position, (p, first, path)). open_up.1 (q, position, (p, first, (last_path pool before here bytes p q).1 path)),
    ) step
