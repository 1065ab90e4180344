-- Loops over the attributes of an element, and over pieces.
use Rattle.std.proofs.Common.{◌≡◌, ℕ, zero, suc, ◌+◌, ◌<◌, ◌≤◌, Bool, true, false, List, [], ◌∷◌, ◌++◌, length, drop, take, get_or, set, map, reverse, refl, sym, ap, ◌∙◌, drop-cons, add-one, arith}
use Rattle.std.specs.Prelude.{◌-◌, Option, Some, None, cond, not, slice_get, if◌then◌else◌}
use Rattle.std.specs.List.{fold, position_or_len}
use Rattle.std.proofs.lemmas.List.{get_or_push, length-append, reverse-append, reverse-reverse}
use Rattle.std.proofs.lemmas.Option.{slice_get-get_or}
use Rattle.std.proofs.lemmas.List.Sums.{fold_more}
use Rattle.std.specs.Str.{bytes_eq}
use Rattle.droid_xml.specs.Attributes.{Setting}
use Rattle.droid_xml.specs.Bytes.{choose}
use Rattle.droid_xml.specs.Pieces.{Part, Start, End, Text, Data, Reference, Comment, Instruction}
use Rattle.droid_xml.specs.Views.{part, setting}
use Rattle.droid_xml.specs.declared.attributes.Attribute.{Attribute}
use Rattle.droid_xml.specs.declared.pieces.Piece.{Piece}
use Rattle.droid_signature_file.specs.Elements.{deeper, inner_len, value_of}
use Rattle.droid_signature_file.specs.Unknown.{again, again_at, innermost, name_of}
use Rattle.droid_signature_file.specs.declared.whole_file.UnknownName.{UnknownName}
use Rattle.droid_signature_file.specs.declared.kinds.Kind.{Kind}

-- the item at a place, and those behind it
pub here : {A : Type 0} (all : List A) (place : ℕ) (one : A) → place < length all → drop place all ≡ get_or all place one ∷ drop (place + 1) all
here all place one inside = rw (add-one, drop-cons all place one) refl

pub cell : {A B : Type 0} (f : A → B) (all : List A) (place : ℕ) (one : A) → place < length all → map f (drop place all) ≡ f (get_or all place one) ∷ map f (drop (place + 1) all)
cell f all place one inside = ap (map f) (here all place one inside)

-- this attribute has another name
pub value_goes_on : (name : List ℕ) (all : List Attribute) (place : ℕ) (one : Attribute) (whole : Option (List ℕ)) → place < length all → bytes_eq (setting (get_or all place one)).name name ≡ false
    → value_of name (map setting (drop place all)) ≡ whole → value_of name (map setting (drop (place + 1) all)) ≡ whole
value_goes_on name all place one whole inside fails so_far =
    sym (ap (λ (is : Bool). if is then Some (setting (get_or all place one)).value else value_of name (map setting (drop (place + 1) all))) fails)
    ∙ (sym (ap (value_of name) (cell setting all place one inside)) ∙ so_far)

-- this one has it
pub value_found : (name : List ℕ) (all : List Attribute) (place : ℕ) (one : Attribute) (whole : Option (List ℕ)) → place < length all → bytes_eq (setting (get_or all place one)).name name ≡ true
    → value_of name (map setting (drop place all)) ≡ whole → Some (setting (get_or all place one)).value ≡ whole
value_found name all place one whole inside passes so_far =
    sym (ap (λ (is : Bool). if is then Some (setting (get_or all place one)).value else value_of name (map setting (drop (place + 1) all))) passes)
    ∙ (sym (ap (value_of name) (cell setting all place one inside)) ∙ so_far)

-- no attribute is left
pub value_nowhere : (name : List ℕ) (all : List Attribute) (place : ℕ) (whole : Option (List ℕ)) → drop place all ≡ [] → value_of name (map setting (drop place all)) ≡ whole → None ≡ whole
value_nowhere name all place whole past so_far = sym (ap (λ (rest : List Attribute). value_of name (map setting rest)) past) ∙ so_far

-- the first place that passes, by the first item
place_by : {A : Type 0} (test : A → Bool) (x : A) (rest : List A) (is : Bool) → test x ≡ is → position_or_len test (x ∷ rest) ≡ cond (not is) (1 + position_or_len test rest) 0
place_by test x rest is tested = ap (λ (b : Bool). cond (not b) (1 + position_or_len test rest) 0) tested

pub goes_on : {A : Type 0} (test : A → Bool) (left rest : List A) (x : A) (place whole : ℕ) → left ≡ x ∷ rest → test x ≡ false
    → place + position_or_len test left ≡ whole → (place + 1) + position_or_len test rest ≡ whole
goes_on test left rest x place whole is fails so_far = omega (arith, ap (position_or_len test) is, place_by test x rest false fails, so_far)

pub found : {A : Type 0} (test : A → Bool) (left rest : List A) (x : A) (place whole : ℕ) → left ≡ x ∷ rest → test x ≡ true
    → place + position_or_len test left ≡ whole → place ≡ whole
found test left rest x place whole is passes so_far = omega (arith, ap (position_or_len test) is, place_by test x rest true passes, so_far)

pub nowhere : {A : Type 0} (test : A → Bool) (left : List A) (place whole : ℕ) → left ≡ [] → place + position_or_len test left ≡ whole → place ≡ whole
nowhere test left place whole is so_far = omega (arith, ap (position_or_len test) is, so_far)

-- one more piece inside an element, or its end tag
inner_by : (depth : ℕ) (piece : Part) (rest : List Part) (next : Option ℕ) → deeper depth piece ≡ next → inner_len depth (piece ∷ rest) ≡ choose next (λ d. suc (inner_len d rest)) 0
inner_by depth piece rest next is = ap (λ (o : Option ℕ). choose o (λ d. suc (inner_len d rest)) 0) is

pub inner_goes_on : (all : List Piece) (place : ℕ) (one : Piece) (depth next whole : ℕ) → place < length all → deeper depth (part (get_or all place one)) ≡ Some next
    → place + inner_len depth (map part (drop place all)) ≡ whole → (place + 1) + inner_len next (map part (drop (place + 1) all)) ≡ whole
inner_goes_on all place one depth next whole inside is so_far =
    omega (arith, ap (inner_len depth) (cell part all place one inside), inner_by depth (part (get_or all place one)) (map part (drop (place + 1) all)) (Some next) is, so_far)

pub inner_ends : (all : List Piece) (place : ℕ) (one : Piece) (depth whole : ℕ) → place < length all → deeper depth (part (get_or all place one)) ≡ None
    → place + inner_len depth (map part (drop place all)) ≡ whole → place ≡ whole
inner_ends all place one depth whole inside is so_far =
    omega (arith, ap (inner_len depth) (cell part all place one inside), inner_by depth (part (get_or all place one)) (map part (drop (place + 1) all)) None is, so_far)

pub inner_whole : (all : List Piece) (place depth whole : ℕ) → drop place all ≡ [] → place + inner_len depth (map part (drop place all)) ≡ whole → place ≡ whole
inner_whole all place depth whole past so_far = omega (arith, ap (λ (rest : List Piece). inner_len depth (map part rest)) past, so_far)

-- a piece opens one element at most
pub deeper_by_one : (depth : ℕ) (piece : Part) (next : ℕ) → deeper depth piece ≡ Some next → next ≤ depth + 1
deeper_by_one depth (Start tag) next is = by_test tag.is_empty next is
  where
    by_test : (b : Bool) (n : ℕ) → Some (if b then depth else suc depth) ≡ Some n → n ≤ depth + 1
    by_test true n e = let same : depth ≡ n = cc in omega (arith, same)
    by_test false n e = let same : suc depth ≡ n = cc in omega (arith, same)
deeper_by_one zero (End name) next is = absurd cc
deeper_by_one (suc depth) (End name) next is = let same : depth ≡ next = cc in omega (arith, same)
deeper_by_one depth (Text text) next is = let same : depth ≡ next = cc in omega (arith, same)
deeper_by_one depth (Data text) next is = let same : depth ≡ next = cc in omega (arith, same)
deeper_by_one depth (Reference char) next is = let same : depth ≡ next = cc in omega (arith, same)
deeper_by_one depth (Comment text) next is = let same : depth ≡ next = cc in omega (arith, same)
deeper_by_one depth (Instruction target text) next is = let same : depth ≡ next = cc in omega (arith, same)

-- a fold over what items are seen as
fold_map : {A B Y : Type 0} (f : Y → B → Y) (g : A → B) (a : Y) (xs : List A) → fold f a (map g xs) ≡ fold (λ y x. f y (g x)) a xs
fold_map f g a [] = refl
fold_map f g a (x ∷ xs) = fold_map f g (f a (g x)) xs

pub fold_more_of : {A B Y : Type 0} (f : Y → B → Y) (g : A → B) (a : Y) (xs : List A) (i : ℕ) (d : A) → i < length xs
    → fold f a (map g (take (i + 1) xs)) ≡ f (fold f a (map g (take i xs))) (g (get_or xs i d))
fold_more_of {A} {B} {Y} f g a xs i d inside =
    fold_map f g a (take (i + 1) xs) ∙ (fold_more (λ y x. f y (g x)) a xs i d inside ∙ ap (λ (y : Y). f y (g (get_or xs i d))) (sym (fold_map f g a (take i xs))))

-- the last item is the first from the other end
pub reverse_push : {A : Type 0} (xs : List A) (x : A) → reverse (xs ++ x ∷ []) ≡ x ∷ reverse xs
reverse_push xs x = reverse-append xs (x ∷ [])

-- the last of those that are open is the innermost
of_reversed : (xs : List (Option Kind)) → slice_get (reverse xs) (length (reverse xs) - 1) ≡ innermost xs
of_reversed [] = refl
of_reversed (x ∷ xs) =
    let split : reverse (x ∷ xs) ≡ reverse xs ++ x ∷ [] = reverse-append (x ∷ []) xs in
    let long : length (reverse xs ++ x ∷ []) ≡ length (reverse xs) + 1 = length-append (reverse xs) (x ∷ []) in
    rw split
    (slice_get-get_or (reverse xs ++ x ∷ []) (length (reverse xs ++ x ∷ []) - 1) x (omega (arith, long))
    ∙ ap Some (get_or_push (reverse xs) x x (length (reverse xs ++ x ∷ []) - 1) (omega (arith, long))))

pub innermost_last : (xs : List (Option Kind)) → slice_get xs (length xs - 1) ≡ innermost (reverse xs)
innermost_last xs = sym (ap (λ (ys : List (Option Kind)). slice_get ys (length ys - 1)) (reverse-reverse xs)) ∙ of_reversed (reverse xs)

-- one more of the name at a place
pub again_set : (place : ℕ) (names : List UnknownName) (d : UnknownName) → place < length names → again_at place names ≡ set names place (again (get_or names place d))
again_set place [] d inside = absurd (omega arith)
again_set zero (known ∷ names) d inside = refl
again_set (suc place) (known ∷ names) d inside = ap (λ (more : List UnknownName). known ∷ more) (again_set place names d (omega arith))

-- a list without items
pub no_length : {A : Type 0} (xs : List A) → length xs ≡ 0 → xs ≡ []
no_length [] none = refl
no_length (x ∷ xs) none = absurd (omega (arith, none))

-- the names of attributes
pub names_of : (attributes : List Attribute) → map (λ (it : Setting). it.name) (map setting attributes) ≡ map name_of attributes
names_of [] = refl
names_of (a ∷ attributes) = ap (λ (names : List (List ℕ)). name_of a ∷ names) (names_of attributes)
