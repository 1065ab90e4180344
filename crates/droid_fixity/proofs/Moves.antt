-- Who holds a hash, and the move that this makes.
use Rattle.std.proofs.Common.{◌≡◌, ◌∙◌, ℕ, Bool, true, false, ◌&&◌, ◌==◌, ◌++◌, ◌+◌, ◌<◌, append-nil, get_or, length, not, take, List, [], ◌∷◌, map, Option, Some, None, cond, refl, sym, ap, subst}
use Rattle.std.specs.List.{filter, slice_get}
use Rattle.std.specs.Option.{option_map_or}
use Rattle.std.specs.Prelude.{if◌then◌else◌}
use Rattle.std.specs.Str.{bytes_eq}
use Rattle.std.proofs.lemmas.Bool.{false_from_ne_true}
use Rattle.std.proofs.lemmas.List.Elements.{filter_more}
use Rattle.std.proofs.lemmas.Slice.Eq.{bytes_eq-Decides}
use Rattle.droid_frame.specs.Hashes.{hash_bytes}
use Rattle.droid_fixity.specs.Holding.{bears_at, holder_after, holder_among, holder_of, move_by, move_of}
use Rattle.droid_frame.specs.Items.{bears, other_length}
use Rattle.droid_frame.specs.Filters.{is_file}
use Rattle.droid_fixity.specs.Reports.{HasMoved, alone, is_absent}
use Rattle.droid_fixity.specs.declared.difference.Difference.{Difference}
use Rattle.droid_fixity.specs.declared.difference.Difference.TheVariants.{Moved}
use Rattle.droid_fixity.specs.declared.holders.Holder.{Holder}
use Rattle.droid_fixity.specs.declared.holders.Holder.TheVariants.{One, Many}
use Rattle.droid_frame.specs.declared.item.Item.{Item}
use Rattle.droid_fixity.proofs.Passing.{only_passes}

-- the items at places with a hash are the items with it
bears_by : (items : List Item) (test : Bool) (place : ℕ) (item : Item) (places : List ℕ) (held : List Item) → slice_get items place ≡ Some item → map (slice_get items) places ≡ map Some held
    → map (slice_get items) (cond test (place ∷ places) places) ≡ map Some (cond test (item ∷ held) held)
bears_by items true place item places held spot rest = ap (λ (o : Option Item). o ∷ map (slice_get items) places) spot ∙ ap (λ (os : List (Option Item)). Some item ∷ os) rest
bears_by items false place item places held spot rest = rest

bears_places : (items : List Item) (hash : List ℕ) (places : List ℕ) (held : List Item) → map (slice_get items) places ≡ map Some held
    → map (slice_get items) (filter (bears_at items hash) places) ≡ map Some (filter (bears hash) held)
bears_places items hash [] [] same = refl
bears_places items hash [] (item ∷ held) same = cc
bears_places items hash (place ∷ places) [] same = cc
bears_places items hash (place ∷ places) (item ∷ held) same =
    let spot : slice_get items place ≡ Some item = cc in
    let rest : map (slice_get items) places ≡ map Some held = cc in
    let test : bears_at items hash place ≡ bears hash item = ap (λ (o : Option Item). option_map_or (bears hash) o false) spot in
    ap (λ (t : Bool). map (slice_get items) (cond t (place ∷ filter (bears_at items hash) places) (filter (bears_at items hash) places))) test
    ∙ bears_by items (bears hash item) place item (filter (bears_at items hash) places) (filter (bears hash) held) spot (bears_places items hash places held rest)

-- a holder says who these items are
abbrev pub Says : List Item → Option Holder → List Item → Type 0
Says items None held = held ≡ []
Says items (Some (One place)) held = (item : Item) × (slice_get items place ≡ Some item) × (held ≡ item ∷ [])
Says items (Some Many) held = (item : Item) → held ≡ item ∷ [] → ⊥

says_of : (items : List Item) (places : List ℕ) (held : List Item) → map (slice_get items) places ≡ map Some held → Says items (holder_of places) held
says_of items [] [] same = refl
says_of items [] (item ∷ held) same = cc
says_of items (place ∷ []) [] same = cc
says_of items (place ∷ []) (item ∷ []) same = let spot : slice_get items place ≡ Some item = cc in (item, spot, refl)
says_of items (place ∷ []) (item ∷ next ∷ held) same = cc
says_of items (place ∷ next ∷ places) [] same = cc
says_of items (place ∷ next ∷ places) (item ∷ []) same = cc
says_of items (place ∷ next ∷ places) (item ∷ second ∷ held) same = λ one only. cc

pub says_among : (items : List Item) (hash : List ℕ) (places : List ℕ) (held : List Item) → map (slice_get items) places ≡ map Some held
    → Says items (holder_of (filter (bears_at items hash) places)) (filter (bears hash) held)
says_among items hash places held same = says_of items (filter (bears_at items hash) places) (filter (bears hash) held) (bears_places items hash places held same)

-- what it means to bear a hash
all_three : (x y z : Bool) → (x && not y && z) ≡ true → (x ≡ true) × (y ≡ false) × (z ≡ true)
all_three true false true holds = (refl, refl, refl)
all_three true false false holds = cc
all_three true true z holds = cc
all_three false y z holds = cc

pub bears_says : (hash : List ℕ) (item : Item) → bears hash item ≡ true → (is_file item.kind ≡ true) × ((length hash == 0) ≡ false) × (hash ≡ hash_bytes item.hash)
bears_says hash item holds =
    let three = all_three (is_file item.kind) (length hash == 0) (bytes_eq hash (hash_bytes item.hash)) holds in
    (three.0, three.1, (bytes_eq-Decides hash (hash_bytes item.hash)).0 three.2)

three_all : (x y z : Bool) → x ≡ true → y ≡ false → z ≡ true → (x && not y && z) ≡ true
three_all true false true a b c = refl
three_all true false false a b c = cc
three_all true true z a b c = cc
three_all false y z a b c = cc

pub says_bears : (hash : List ℕ) (item : Item) → is_file item.kind ≡ true → (length hash == 0) ≡ false → hash ≡ hash_bytes item.hash → bears hash item ≡ true
says_bears hash item file some same = three_all (is_file item.kind) (length hash == 0) (bytes_eq hash (hash_bytes item.hash)) file some ((bytes_eq-Decides hash (hash_bytes item.hash)).1 same)

-- a move at these places
pub record IsMove (listed found : List Item) (hash : List ℕ) (difference : Difference) : Type 0 where
  pub l : ℕ
  pub f : ℕ
  pub a : Item
  pub b : Item
  pub is : difference ≡ Moved l f
  pub spot : slice_get listed l ≡ Some a
  pub other : slice_get found f ≡ Some b
  pub moved : HasMoved listed found a b
  pub same : hash_bytes a.hash ≡ hash

-- the move with this hash, or that there is none
abbrev pub Move : List Item → List Item → List ℕ → Option Difference → Type 0
Move listed found hash None = (a b : Item) → HasMoved listed found a b → hash_bytes a.hash ≡ hash → ⊥
Move listed found hash (Some difference) = IsMove listed found hash difference

missing_with : (listed found : List Item) (a b : Item) (hash : List ℕ) → HasMoved listed found a b → hash_bytes a.hash ≡ hash → filter (bears hash) (alone listed found) ≡ a ∷ []
missing_with listed found a b hash moved same = subst (λ (h : List ℕ). filter (bears h) (alone listed found) ≡ a ∷ []) same moved.missing

new_with : (listed found : List Item) (a b : Item) (hash : List ℕ) → HasMoved listed found a b → hash_bytes a.hash ≡ hash → filter (bears hash) (alone found listed) ≡ b ∷ []
new_with listed found a b hash moved same = subst (λ (h : List ℕ). filter (bears h) (alone found listed) ≡ b ∷ []) same moved.new

-- two moves with one hash are one
pub same_move : (listed found : List Item) (a b c d : Item) → HasMoved listed found a b → HasMoved listed found c d → hash_bytes a.hash ≡ hash_bytes c.hash → (a ≡ c) × (b ≡ d)
same_move listed found a b c d one other same =
    let first = missing_with listed found a b (hash_bytes c.hash) one same in
    let second = other.missing in
    let third = new_with listed found a b (hash_bytes c.hash) one same in
    let fourth = other.new in
    let missing : a ≡ c = cc in
    let new : b ≡ d = cc in
    (missing, new)

move_lengths : (listed found : List Item) (hash : List ℕ) (l f : ℕ) (a b : Item) → slice_get listed l ≡ Some a → slice_get found f ≡ Some b
    → filter (bears hash) (alone listed found) ≡ a ∷ [] → filter (bears hash) (alone found listed) ≡ b ∷ []
    → (t : Bool) → other_length a.length b.length ≡ t → Move listed found hash (if t then None else Some (Moved l f))
move_lengths listed found hash l f a b spot other only sole true lengths = λ c d moved same.
    let first = missing_with listed found c d hash moved same in
    let third = new_with listed found c d hash moved same in
    let missing : c ≡ a = cc in
    let new : d ≡ b = cc in
    let differ = moved.lengths in
    let also : other_length c.length d.length ≡ other_length a.length b.length = ap (λ (x : Item). other_length x.length d.length) missing ∙ ap (λ (x : Item). other_length a.length x.length) new in
    let bad : false ≡ true = sym differ ∙ (also ∙ lengths) in
    cc
move_lengths listed found hash l f a b spot other only sole false lengths =
    let passes = only_passes (bears hash) (λ item. is_absent item.path found) listed a only in
    let same : hash ≡ hash_bytes a.hash = (bears_says hash a passes.0).2 in
    record {
      l = l;
      f = f;
      a = a;
      b = b;
      is = refl;
      spot = spot;
      other = other;
      moved = record {
        missing = subst (λ (h : List ℕ). filter (bears h) (alone listed found) ≡ a ∷ []) same only;
        new = subst (λ (h : List ℕ). filter (bears h) (alone found listed) ≡ b ∷ []) same sole;
        lengths = lengths;
      };
      same = sym same;
    }

move_by_is : (listed found : List Item) (hash : List ℕ) (missing new : Option Holder) → Says listed missing (filter (bears hash) (alone listed found)) → Says found new (filter (bears hash) (alone found listed))
    → Move listed found hash (move_by listed found missing new)
move_by_is listed found hash None new first second = λ a b moved same. let here = missing_with listed found a b hash moved same in cc
move_by_is listed found hash (Some Many) new first second = λ a b moved same. first a (missing_with listed found a b hash moved same)
move_by_is listed found hash (Some (One l)) None first second = λ a b moved same. let here = new_with listed found a b hash moved same in cc
move_by_is listed found hash (Some (One l)) (Some Many) first second = λ a b moved same. second b (new_with listed found a b hash moved same)
move_by_is listed found hash (Some (One l)) (Some (One f)) first second =
    rw (first.1, second.1) (move_lengths listed found hash l f first.0 second.0 first.1 second.1 first.2 second.2 (other_length first.0.length second.0.length) refl)

-- the move that an item takes part in
abbrev pub MoveOf : List Item → List Item → Item → Option Difference → Type 0
MoveOf listed found item None = (a b : Item) → HasMoved listed found a b → hash_bytes a.hash ≡ hash_bytes item.hash → is_file item.kind ≡ true → ⊥
MoveOf listed found item (Some difference) = IsMove listed found (hash_bytes item.hash) difference × (is_file item.kind ≡ true)

move_of_file : (listed found : List Item) (item : Item) (r : Option Difference) → Move listed found (hash_bytes item.hash) r → is_file item.kind ≡ true → MoveOf listed found item r
move_of_file listed found item None move file = λ a b moved same holds. move a b moved same
move_of_file listed found item (Some difference) move file = (move, file)

move_of_if : (listed found : List Item) (item : Item) (r : Option Difference) → Move listed found (hash_bytes item.hash) r → (t : Bool) → is_file item.kind ≡ t → MoveOf listed found item (if t then r else None)
move_of_if listed found item r move true file = move_of_file listed found item r move file
move_of_if listed found item r move false file = λ a b moved same holds. let bad : false ≡ true = sym file ∙ holds in cc

pub move_of_is : (listed found : List Item) (missing new : List ℕ → Option Holder) (item : Item)
    → ((hash : List ℕ) → Says listed (missing hash) (filter (bears hash) (alone listed found))) → ((hash : List ℕ) → Says found (new hash) (filter (bears hash) (alone found listed)))
    → MoveOf listed found item (move_of listed found missing new item)
move_of_is listed found missing new item first second =
    move_of_if listed found item (move_by listed found (missing (hash_bytes item.hash)) (new (hash_bytes item.hash))) (move_by_is listed found (hash_bytes item.hash) (missing (hash_bytes item.hash)) (new (hash_bytes item.hash)) (first (hash_bytes item.hash)) (second (hash_bytes item.hash))) (is_file item.kind) refl

-- ---- the map of holders

-- one more place
holder_push : (places : List ℕ) (place : ℕ) → holder_of (places ++ place ∷ []) ≡ Some (holder_after (holder_of places) place)
holder_push [] place = refl
holder_push (first ∷ []) place = refl
holder_push (first ∷ next ∷ places) place = refl

held_by : (test : Bool) (places : List ℕ) (place : ℕ) → holder_of (places ++ cond test (place ∷ []) []) ≡ (if test then Some (holder_after (holder_of places) place) else holder_of places)
held_by true places place = holder_push places place
held_by false places place = ap holder_of (append-nil places)

more_by : (items : List Item) (places : List ℕ) (k : ℕ) (hash : List ℕ) (test : Bool) → k < length places → bears_at items hash (get_or places k 0) ≡ test
    → (if test then Some (holder_after (holder_among items (take k places) hash) (get_or places k 0)) else holder_among items (take k places) hash) ≡ holder_among items (take (k + 1) places) hash
more_by items places k hash test below is =
    sym (ap holder_of (filter_more (bears_at items hash) places k 0 below)
    ∙ (ap (λ (t : Bool). holder_of (filter (bears_at items hash) (take k places) ++ cond t (get_or places k 0 ∷ []) [])) is
    ∙ held_by test (filter (bears_at items hash) (take k places)) (get_or places k 0)))

pub more_held : (items : List Item) (places : List ℕ) (k : ℕ) (hash : List ℕ) (item : Item) → k < length places → slice_get items (get_or places k 0) ≡ Some item
    → (if bears hash item then Some (holder_after (holder_among items (take k places) hash) (get_or places k 0)) else holder_among items (take k places) hash) ≡ holder_among items (take (k + 1) places) hash
more_held items places k hash item below there = more_by items places k hash (bears hash item) below (ap (λ (o : Option Item). option_map_or (bears hash) o false) there)

pub none_held : (items : List Item) (places : List ℕ) (k : ℕ) (hash : List ℕ) → k < length places → slice_get items (get_or places k 0) ≡ None
    → holder_among items (take k places) hash ≡ holder_among items (take (k + 1) places) hash
none_held items places k hash below there = more_by items places k hash false below (ap (λ (o : Option Item). option_map_or (bears hash) o false) there)

-- what the map says of each hash after one more item
noted_by : (old : List ℕ → Option Holder) (after : Option Holder) (item : Item) (place : ℕ) (hash key : List ℕ) → key ≡ hash_bytes item.hash → is_file item.kind ≡ true → (length key == 0) ≡ false
    → (test : Bool) → bytes_eq key hash ≡ test → after ≡ cond test (Some (holder_after (old key) place)) (old hash)
    → after ≡ (if bears hash item then Some (holder_after (old hash) place) else old hash)
noted_by old after item place hash key is file some true equal set =
    let same : key ≡ hash = (bytes_eq-Decides key hash).0 equal in
    let long : (length hash == 0) ≡ false = subst (λ (bytes : List ℕ). (length bytes == 0) ≡ false) same some in
    let has : bears hash item ≡ true = says_bears hash item file long (sym same ∙ is) in
    set ∙ (ap (λ (bytes : List ℕ). Some (holder_after (old bytes) place)) same
    ∙ ap (λ (t : Bool). if t then Some (holder_after (old hash) place) else old hash) (sym has))
noted_by old after item place hash key is file some false differs set =
    let has : bears hash item ≡ false = false_from_ne_true _ (λ holds.
    let same : key ≡ hash = is ∙ sym (bears_says hash item holds).2 in
    let equal : bytes_eq key hash ≡ true = (bytes_eq-Decides key hash).1 same in
    let bad : true ≡ false = sym equal ∙ differs in
    cc) in
    set ∙ ap (λ (t : Bool). if t then Some (holder_after (old hash) place) else old hash) (sym has)

pub noted : (old : List ℕ → Option Holder) (after : Option Holder) (item : Item) (place : ℕ) (hash key : List ℕ) → key ≡ hash_bytes item.hash → is_file item.kind ≡ true → (length key == 0) ≡ false
    → after ≡ cond (bytes_eq key hash) (Some (holder_after (old key) place)) (old hash)
    → after ≡ (if bears hash item then Some (holder_after (old hash) place) else old hash)
noted old after item place hash key is file some set = noted_by old after item place hash key is file some (bytes_eq key hash) refl set
