-- Texts one behind the other.
use Rattle.std.proofs.Common.{◌≡◌, ◌↔◌, Bool, true, false, ⊎_elim, ℕ, zero, suc, ◌+◌, ◌*◌, ◌<◌, ◌≤◌, List, [], ◌∷◌, ◌++◌, length, map, take, get_or, refl, sym, ap, subst, ◌∙◌, arith, append_assoc}
use Rattle.std.specs.Bool.{IsTrue}
use Rattle.std.specs.List.{Any}
use Rattle.std.proofs.lemmas.Bool.{cases_lt, false≢true}
use Rattle.std.proofs.lemmas.List.{append-nil, map-append, map-id, length-append, length-map, take_more}
use Rattle.std.proofs.lemmas.List.Concat.{flat_map-append}
use Rattle.droid_pattern.specs.Patterns.{Element}
use Rattle.droid_signature_file.specs.Expansions as spec
use Rattle.droid_signature_pattern.specs.Texts.{each_behind, joined, joined_all}
use Rattle.droid_signature_pattern.specs.Written.{written, written_all, written_each}
use Rattle.droid_signature_pattern.proofs.Exits.{any_left, any_right}

-- the empty text behind texts, and before them
pub joined_one : (xs : List (List ℕ)) → joined xs ([] ∷ []) ≡ xs
joined_one [] = refl
joined_one (x ∷ xs) = ap (λ z. z ∷ joined xs ([] ∷ [])) (append-nil x) ∙ ap (λ z. x ∷ z) (joined_one xs)

pub one_joined : (xs : List (List ℕ)) → joined ([] ∷ []) xs ≡ xs
one_joined xs = append-nil (map (λ (x : List ℕ). x) xs) ∙ map-id xs

-- one text behind one text
pub one_one : (x y : List ℕ) → joined (x ∷ []) (y ∷ []) ≡ (x ++ y) ∷ []
one_one x y = refl

behind_behind : (x y : List ℕ) (zs : List (List ℕ)) → each_behind (x ++ y) zs ≡ each_behind x (each_behind y zs)
behind_behind x y [] = refl
behind_behind x y (z ∷ zs) = ap (λ l. l ∷ each_behind (x ++ y) zs) (append_assoc x y z) ∙ ap (λ l. (x ++ (y ++ z)) ∷ l) (behind_behind x y zs)

pub joined_append : (xs ys zs : List (List ℕ)) → joined (xs ++ ys) zs ≡ joined xs zs ++ joined ys zs
joined_append [] ys zs = refl
joined_append (x ∷ xs) ys zs = ap (λ l. each_behind x zs ++ l) (joined_append xs ys zs) ∙ sym (append_assoc (each_behind x zs) (joined xs zs) (joined ys zs))

joined_behind : (x : List ℕ) (ys zs : List (List ℕ)) → joined (each_behind x ys) zs ≡ each_behind x (joined ys zs)
joined_behind x [] zs = refl
joined_behind x (y ∷ ys) zs =
    ap (λ l. l ++ joined (each_behind x ys) zs) (behind_behind x y zs)
    ∙ ap (λ l. each_behind x (each_behind y zs) ++ l) (joined_behind x ys zs)
    ∙ sym (map-append (λ z. x ++ z) (each_behind y zs) (joined ys zs))

pub joined_assoc : (xs ys zs : List (List ℕ)) → joined (joined xs ys) zs ≡ joined xs (joined ys zs)
joined_assoc [] ys zs = refl
joined_assoc (x ∷ xs) ys zs =
    joined_append (each_behind x ys) (joined xs ys) zs
    ∙ ap (λ l. l ++ joined (joined xs ys) zs) (joined_behind x ys zs)
    ∙ ap (λ l. each_behind x (joined ys zs) ++ l) (joined_assoc xs ys zs)

-- lists behind others
pub joined_all_append : (xs ys : List (List (List ℕ))) → joined_all (xs ++ ys) ≡ joined (joined_all xs) (joined_all ys)
joined_all_append [] ys = sym (one_joined (joined_all ys))
joined_all_append (x ∷ xs) ys = ap (joined x) (joined_all_append xs ys) ∙ sym (joined_assoc x (joined_all xs) (joined_all ys))

-- one more list
pub joined_all_push : (xs : List (List (List ℕ))) (x : List (List ℕ)) → joined_all (xs ++ x ∷ []) ≡ joined (joined_all xs) x
joined_all_push [] x = joined_one x ∙ sym (one_joined x)
joined_all_push (y ∷ xs) x = ap (joined y) (joined_all_push xs x) ∙ sym (joined_assoc y (joined_all xs) x)

pub joined_all_more : (xs : List (List (List ℕ))) (i : ℕ) (d : List (List ℕ)) → i < length xs → joined_all (take (i + 1) xs) ≡ joined (joined_all (take i xs)) (get_or xs i d)
joined_all_more xs i d below = ap joined_all (take_more xs i d below) ∙ joined_all_push (take i xs) (get_or xs i d)

-- a text more at the end of the last one
pub last_grows : (texts : List (List ℕ)) (last more : List ℕ) → joined texts ((last ++ more) ∷ []) ≡ joined (joined texts (last ∷ [])) (more ∷ [])
last_grows texts last more = sym (joined_assoc texts (last ∷ []) (more ∷ []))

-- the first of them is too long if what stands behind it is
pub long_behind : (texts : List (List ℕ)) (last : List ℕ) → (length texts ≡ 0 → ⊥) → 4096 < length last → Any (λ text. 4096 < length text) (joined texts (last ∷ []))
long_behind [] last some long = absurd (some refl)
long_behind (x ∷ texts) last some long = let whole = length-append x last in (0, x ++ last, omega arith, refl, omega (arith, whole))

-- how many there are
pub length_joined : (xs ys : List (List ℕ)) → length (joined xs ys) ≡ length xs * length ys
length_joined [] ys = omega arith
length_joined (x ∷ xs) ys =
    let here = length-append (each_behind x ys) (joined xs ys) in
    let first = length-map ys (λ (y : List ℕ). x ++ y) in
    let more = length_joined xs ys in
    grind arith

-- what holds of a text behind one of the first texts
pub any_joined_at : (P : List ℕ → Type 0) (xs ys : List (List ℕ)) (i : ℕ) (x : List ℕ) → i < length xs → x ≡ get_or xs i x → Any P (each_behind x ys) → Any P (joined xs ys)
any_joined_at P [] ys i x below is h = absurd (omega arith)
any_joined_at P (y ∷ xs) ys zero x below is h = any_left P (each_behind y ys) (joined xs ys) (let Q : List ℕ → Type 0 = λ z. Any P (each_behind z ys) in subst Q is h)
any_joined_at P (y ∷ xs) ys (suc i) x below is h = any_right P (each_behind y ys) (joined xs ys) (any_joined_at P xs ys i x (omega arith) is h)

-- one more text in front
pub joined_more : (xs ys : List (List ℕ)) (i : ℕ) (x : List ℕ) → i < length xs → x ≡ get_or xs i x → joined (take (i + 1) xs) ys ≡ joined (take i xs) ys ++ each_behind x ys
joined_more xs ys i x below is =
    ap (λ l. joined l ys) (take_more xs i x below)
    ∙ joined_append (take i xs) (get_or xs i x ∷ []) ys
    ∙ ap (λ l. joined (take i xs) ys ++ l) (append-nil (each_behind (get_or xs i x) ys) ∙ ap (λ z. each_behind z ys) (sym is))

-- patterns one behind the other are written as their texts one behind the other
written_behind : (es : List Element) (ps : List (List Element)) → written_each (map (λ fs. es ++ fs) ps) ≡ each_behind (written_all es) (written_each ps)
written_behind es [] = refl
written_behind es (fs ∷ ps) = ap (λ l. l ∷ written_each (map (λ gs. es ++ gs) ps)) (flat_map-append written es fs) ∙ ap (λ l. (written_all es ++ written_all fs) ∷ l) (written_behind es ps)

pub written_joined : (ps qs : List (List Element)) → written_each (spec.joined ps qs) ≡ joined (written_each ps) (written_each qs)
written_joined [] qs = refl
written_joined (es ∷ ps) qs =
    map-append written_all (map (λ fs. es ++ fs) qs) (spec.joined ps qs)
    ∙ ap (λ l. l ++ written_each (spec.joined ps qs)) (written_behind es qs)
    ∙ ap (λ l. each_behind (written_all es) (written_each qs) ++ l) (written_joined ps qs)

-- a product of two lengths
pub many_pairs : (a b x y n : ℕ) (t : Bool) → IsTrue t ↔ (64 < x * y) → t ≡ true → x ≡ a → y ≡ b → n ≡ a * b → 64 < n
many_pairs a b x y n t says is e f g =
    let big = says.0 is in
    let same : x * y ≡ a * b = ap (λ k. k * y) e ∙ ap (λ k. a * k) f in
    omega arith

pub few_pairs : (a b x y n : ℕ) (t : Bool) → IsTrue t ↔ (64 < x * y) → t ≡ false → x ≡ a → y ≡ b → n ≡ a * b → n ≤ 64
few_pairs a b x y n t says is e f g =
    let same : x * y ≡ a * b = ap (λ k. k * y) e ∙ ap (λ k. a * k) f in
    ⊎_elim (λ big. absurd (false≢true (sym is ∙ says.1 big))) (λ small. omega arith) (cases_lt 64 (x * y))

-- a list of one item
pub one_list : (xs : List (List ℕ)) (x : List ℕ) → length xs ≡ 1 → x ≡ get_or xs 0 x → xs ≡ x ∷ []
one_list [] x one is = absurd (omega arith)
one_list (y ∷ []) x one is = ap (λ z. z ∷ []) (sym is)
one_list (y ∷ z ∷ xs) x one is = absurd (omega arith)
