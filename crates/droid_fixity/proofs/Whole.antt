-- The differences at all pairs are the report.
use Rattle.std.proofs.Common.{◌≡◌, ◌∙◌, ℕ, Bool, true, false, List, [], ◌∷◌, map, Option, Some, None, refl, sym, ap, subst, arith}
use Rattle.std.specs.List.{AllByRecursion, cons_option, filter, filter_map, slice_get}
use Rattle.std.specs.Option.{option_and_then}
use Rattle.std.specs.Prelude.{if◌then◌else◌}
use Rattle.droid_frame.specs.Hashes.{hash_bytes}
use Rattle.droid_fixity.specs.Holding.{both_by, difference_at, holder_among, move_of, only_found, only_listed, or_missing, or_new}
use Rattle.droid_fixity.specs.Inventories.{AreInOrder, IsBefore}
use Rattle.droid_frame.specs.Items.{bears, changes_between, is_any, other_moment}
use Rattle.droid_frame.specs.Filters.{is_file}
use Rattle.droid_fixity.specs.Pairing.{Merges}
use Rattle.droid_fixity.specs.Reports.{HasMoved, IsDifference, IsReport, alone, changed, is_absent, missing, moved, new, path_at, path_of, touched}
use Rattle.droid_fixity.specs.declared.difference.Difference.{Difference}
use Rattle.droid_fixity.specs.declared.difference.Difference.TheVariants.{Changed, Missing, Moved, New, Touched}
use Rattle.droid_fixity.specs.declared.holders.Holder.{Holder}
use Rattle.droid_frame.specs.declared.item.Item.{Item}
use Rattle.droid_fixity.specs.declared.pair.Pair.{Pair}
use Rattle.droid_fixity.proofs.Moves.{MoveOf, Says, bears_says, move_of_is, same_move, says_among, says_bears}
use Rattle.droid_fixity.proofs.Order.{absent_there, same_place}
use Rattle.droid_fixity.proofs.Pairs.{IsPair, Pairs, agree_start, all_right, each_found, each_listed, in_found, in_list, in_order, is_both, is_found, is_listed, missing_items, new_items, pair_path, pairs_merge, path_is, paths}
use Rattle.droid_fixity.proofs.Passing.{AnyByRecursion, any_with_all, given_all, given_is_there, is_the_only, only_passes}

-- two inventories, their pairs, and who holds each hash among the items that only one has
pub record Setting (all others : List Item) (pairs : List Pair) (lost came : List ℕ → Option Holder) : Type 0 where
  pub merged : Pairs all others 0 0 all others pairs
  pub up : AreInOrder (paths all)
  pub down : AreInOrder (paths others)
  pub losses : (hash : List ℕ) → Says all (lost hash) (filter (bears hash) (alone all others))
  pub arrivals : (hash : List ℕ) → Says others (came hash) (filter (bears hash) (alone others all))

-- the move of an item
move_is : {all others : List Item} {pairs : List Pair} {lost came : List ℕ → Option Holder} (s : Setting all others pairs lost came) (item : Item) → MoveOf all others item (move_of all others lost came item)
move_is {all = all} {others = others} {lost = lost} {came = came} s item = move_of_is all others lost came item s.losses s.arrivals

-- what moved was missing, what came was new
pub was_missing : (all others : List Item) (a b : Item) → HasMoved all others a b → (is_file a.kind ≡ true) × (is_absent a.path others ≡ true)
was_missing all others a b move =
    let passes = only_passes (bears (hash_bytes a.hash)) (λ item. is_absent item.path others) all a move.missing in
    ((bears_says (hash_bytes a.hash) a passes.0).0, passes.1)

was_new : (all others : List Item) (a b : Item) → HasMoved all others a b → (is_file b.kind ≡ true) × (hash_bytes a.hash ≡ hash_bytes b.hash)
was_new all others a b move =
    let passes = only_passes (bears (hash_bytes a.hash)) (λ item. is_absent item.path all) others b move.new in
    let says = bears_says (hash_bytes a.hash) b passes.0 in
    (says.0, says.2)

-- a missing file with the hash of one that moved is that one; a new file with the hash of one that came is that one
the_one_missing : (all others : List Item) (place : ℕ) (a b item : Item) → HasMoved all others a b → slice_get all place ≡ Some item → is_absent item.path others ≡ true
    → is_file item.kind ≡ true → hash_bytes a.hash ≡ hash_bytes item.hash → a ≡ item
the_one_missing all others place a b item move lies absent file same =
    let passes = only_passes (bears (hash_bytes a.hash)) (λ one. is_absent one.path others) all a move.missing in
    let says = bears_says (hash_bytes a.hash) a passes.0 in
    is_the_only (bears (hash_bytes a.hash)) (λ one. is_absent one.path others) all place a item move.missing lies absent (says_bears (hash_bytes a.hash) item file says.1 same)

the_one_new : (all others : List Item) (place : ℕ) (a b item : Item) → HasMoved all others a b → slice_get others place ≡ Some item → is_absent item.path all ≡ true
    → is_file item.kind ≡ true → hash_bytes a.hash ≡ hash_bytes item.hash → b ≡ item
the_one_new all others place a b item move lies absent file same =
    let passes = only_passes (bears (hash_bytes a.hash)) (λ one. is_absent one.path all) others b move.new in
    let says = bears_says (hash_bytes a.hash) b passes.0 in
    is_the_only (bears (hash_bytes a.hash)) (λ one. is_absent one.path all) others place b item move.new lies absent (says_bears (hash_bytes a.hash) item file says.1 same)

-- a difference, and the path by which it is sorted
abbrev IsAt : List Item → List Item → List ℕ → Difference → Type 0
IsAt all others path difference = IsDifference all others difference × (path_of all others difference ≡ path)

-- ---- what is reported at a pair is a difference

both_right : (all others : List Item) (l f : ℕ) (a b : Item) (d : Difference) → slice_get all l ≡ Some a → slice_get others f ≡ Some b → a.path ≡ b.path
    → (t u : Bool) → is_any (changes_between a b) ≡ t → other_moment a.modified b.modified ≡ u
    → (if t then Some (Changed l f (changes_between a b)) else if u then Some (Touched l f) else None) ≡ Some d → IsAt all others (path_at all l) d
both_right all others l f a b d here there same true u any moment is =
    let it : Changed l f (changes_between a b) ≡ d = cc in
    subst (IsAt all others (path_at all l)) it (changed here there same any, refl)
both_right all others l f a b d here there same false true any moment is =
    let it : Touched l f ≡ d = cc in
    subst (IsAt all others (path_at all l)) it (touched here there same any moment, refl)
both_right all others l f a b d here there same false false any moment is = cc

listed_right : (all others : List Item) (l : ℕ) (a : Item) (d : Difference) (r : Option Difference) → slice_get all l ≡ Some a → is_absent a.path others ≡ true
    → MoveOf all others a r → or_missing r l ≡ Some d → IsAt all others (path_at all l) d
listed_right all others l a d None here absent move is =
    let it : Missing l ≡ d = cc in
    subst (IsAt all others (path_at all l)) it (missing here absent (λ b has. move a b has refl (was_missing all others a b has).0), refl)
listed_right all others l a d (Some other) here absent move is =
    let m = move.0 in
    let it : Moved m.l m.f ≡ d = sym m.is ∙ cc in
    let same : m.a ≡ a = the_one_missing all others l m.a m.b a m.moved here absent move.1 m.same in
    let path : path_at all m.l ≡ path_at all l = path_is all m.l m.a m.spot ∙ (ap (λ (one : Item). one.path) same ∙ sym (path_is all l a here)) in
    subst (IsAt all others (path_at all l)) it (moved m.spot m.other m.moved, path)

found_right : (all others : List Item) (f : ℕ) (b : Item) (d : Difference) (r : Option Difference) → slice_get others f ≡ Some b → is_absent b.path all ≡ true
    → MoveOf all others b r → or_new r f ≡ Some d → IsAt all others (path_at others f) d
found_right all others f b d None there absent move is =
    let it : New f ≡ d = cc in
    subst (IsAt all others (path_at others f)) it (new there absent (λ a has. let was = was_new all others a b has in move a b has was.1 was.0), refl)
found_right all others f b d (Some other) there absent move is = cc

pair_right : {all others : List Item} {pairs : List Pair} {lost came : List ℕ → Option Holder} (s : Setting all others pairs lost came) (pair : Pair) (d : Difference)
    → IsPair all others pair → difference_at all others lost came pair ≡ Some d → IsAt all others (pair_path all others pair) d
pair_right {all = all} {others = others} s pair d (is_both {l = l} {f = f} a b here there same) is =
    both_right all others l f a b d here there same (is_any (changes_between a b)) (other_moment a.modified b.modified) refl refl
    (sym (ap (λ (o : Option Item). both_by o (slice_get others f) l f) here ∙ ap (λ (o : Option Item). both_by (Some a) o l f) there) ∙ is)
pair_right {all = all} {others = others} {lost = lost} {came = came} s pair d (is_listed {l = l} a here absent) is =
    listed_right all others l a d (move_of all others lost came a) here absent (move_is s a)
    (sym (ap (λ (o : Option Item). option_and_then (λ item. or_missing (move_of all others lost came item) l) o) here) ∙ is)
pair_right {all = all} {others = others} {lost = lost} {came = came} s pair d (is_found {f = f} b there absent) is =
    found_right all others f b d (move_of all others lost came b) there absent (move_is s b)
    (sym (ap (λ (o : Option Item). option_and_then (λ item. or_new (move_of all others lost came item) f) o) there) ∙ is)

-- ---- each difference is reported at a pair

-- the item of the list at a pair
pub one_item : (items : List Item) (k l : ℕ) (a b : Item) → Some k ≡ Some l → slice_get items k ≡ Some a → slice_get items l ≡ Some b → (k ≡ l) × (a ≡ b)
one_item items k l a b place here there =
    let same : k ≡ l = cc in
    let again : slice_get items l ≡ Some a = subst (λ (n : ℕ). slice_get items n ≡ Some a) same here in
    let item : a ≡ b = cc in
    (same, item)

-- a path that both have
both_there : {all others : List Item} {pairs : List Pair} {lost came : List ℕ → Option Holder} (s : Setting all others pairs lost came) (l f : ℕ) (a b : Item) (d : Difference)
    → slice_get all l ≡ Some a → slice_get others f ≡ Some b → a.path ≡ b.path → both_by (Some a) (Some b) l f ≡ Some d
    → (pair : Pair) → in_list pair ≡ Some l → IsPair all others pair → difference_at all others lost came pair ≡ Some d
both_there {all = all} {others = others} s l f a b d here there same gives pair place (is_both {l = k} {f = g} c e lies other equal) =
    let one = one_item all k l c a place lies here in
    let path : e.path ≡ b.path = sym equal ∙ (ap (λ (item : Item). item.path) one.1 ∙ same) in
    let two : g ≡ f = same_place others g f e b s.down other there path in
    rw (one.0, two, here, there) gives
both_there {all = all} {others = others} s l f a b d here there same gives pair place (is_listed {l = k} c lies absent) =
    let one = one_item all k l c a place lies here in
    let not_there : is_absent c.path others ≡ false = absent_there c.path others f b there (ap (λ (item : Item). item.path) one.1 ∙ same) in
    let bad : true ≡ false = sym absent ∙ not_there in
    cc
both_there s l f a b d here there same gives pair place (is_found e other absent) = cc

both_gives_changed : (l f : ℕ) (a b : Item) (t : Bool) → is_any (changes_between a b) ≡ true
    → (if is_any (changes_between a b) then Some (Changed l f (changes_between a b)) else if t then Some (Touched l f) else None) ≡ Some (Changed l f (changes_between a b))
both_gives_changed l f a b t any = ap (λ (u : Bool). if u then Some (Changed l f (changes_between a b)) else if t then Some (Touched l f) else None) any

both_gives_touched : (l f : ℕ) (a b : Item) → is_any (changes_between a b) ≡ false → other_moment a.modified b.modified ≡ true
    → both_by (Some a) (Some b) l f ≡ Some (Touched l f)
both_gives_touched l f a b any moment =
    ap (λ (u : Bool). if u then Some (Changed l f (changes_between a b)) else if other_moment a.modified b.modified then Some (Touched l f) else None) any
    ∙ ap (λ (u : Bool). if u then Some (Touched l f) else None) moment

-- a path that was not found
missing_there : {all others : List Item} {pairs : List Pair} {lost came : List ℕ → Option Holder} (s : Setting all others pairs lost came) (l : ℕ) (a : Item) (d : Difference)
    → slice_get all l ≡ Some a → is_absent a.path others ≡ true → or_missing (move_of all others lost came a) l ≡ Some d
    → (pair : Pair) → in_list pair ≡ Some l → IsPair all others pair → difference_at all others lost came pair ≡ Some d
missing_there {all = all} {others = others} s l a d here absent gives pair place (is_both {l = k} {f = g} c e lies other equal) =
    let one = one_item all k l c a place lies here in
    let found : is_absent a.path others ≡ false = absent_there a.path others g e other (sym (ap (λ (item : Item). item.path) one.1) ∙ equal) in
    let bad : true ≡ false = sym absent ∙ found in
    cc
missing_there {all = all} s l a d here absent gives pair place (is_listed {l = k} c lies away) =
    let one = one_item all k l c a place lies here in
    rw (one.0, here) gives
missing_there s l a d here absent gives pair place (is_found e other away) = cc

new_there : {all others : List Item} {pairs : List Pair} {lost came : List ℕ → Option Holder} (s : Setting all others pairs lost came) (f : ℕ) (b : Item) (d : Difference)
    → slice_get others f ≡ Some b → is_absent b.path all ≡ true → or_new (move_of all others lost came b) f ≡ Some d
    → (pair : Pair) → in_found pair ≡ Some f → IsPair all others pair → difference_at all others lost came pair ≡ Some d
new_there {all = all} {others = others} s f b d there absent gives pair place (is_both {l = k} {f = g} c e lies other equal) =
    let one = one_item others g f e b place other there in
    let found : is_absent b.path all ≡ false = absent_there b.path all k c lies (sym (equal ∙ ap (λ (item : Item). item.path) one.1)) in
    let bad : true ≡ false = sym absent ∙ found in
    cc
new_there s f b d there absent gives pair place (is_listed c lies away) = cc
new_there {others = others} s f b d there absent gives pair place (is_found {f = g} e other away) =
    let one = one_item others g f e b place other there in
    rw (one.0, there) gives

-- a missing file that did not move
stays_missing : (all others : List Item) (l : ℕ) (a : Item) (r : Option Difference) → slice_get all l ≡ Some a → is_absent a.path others ≡ true → ((b : Item) → HasMoved all others a b → ⊥)
    → MoveOf all others a r → or_missing r l ≡ Some (Missing l)
stays_missing all others l a None here absent never move = refl
stays_missing all others l a (Some other) here absent never move =
    let m = move.0 in
    let same : m.a ≡ a = the_one_missing all others l m.a m.b a m.moved here absent move.1 m.same in
    absurd (never m.b (subst (λ (one : Item). HasMoved all others one m.b) same m.moved))

stays_new : (all others : List Item) (f : ℕ) (b : Item) (r : Option Difference) → slice_get others f ≡ Some b → is_absent b.path all ≡ true → ((a : Item) → HasMoved all others a b → ⊥)
    → MoveOf all others b r → or_new r f ≡ Some (New f)
stays_new all others f b None there absent never move = refl
stays_new all others f b (Some other) there absent never move =
    let m = move.0 in
    let same : m.b ≡ b = the_one_new all others f m.a m.b b m.moved there absent move.1 m.same in
    absurd (never m.a (subst (λ (one : Item). HasMoved all others m.a one) same m.moved))

-- a file that moved
has_moved : (all others : List Item) (l f : ℕ) (a b : Item) (r : Option Difference) → AreInOrder (paths all) → AreInOrder (paths others) → slice_get all l ≡ Some a → slice_get others f ≡ Some b
    → HasMoved all others a b → MoveOf all others a r → or_missing r l ≡ Some (Moved l f)
has_moved all others l f a b None up down here there moves move = absurd (move a b moves refl (was_missing all others a b moves).0)
has_moved all others l f a b (Some other) up down here there moves move =
    let m = move.0 in
    let same = same_move all others m.a m.b a b m.moved moves m.same in
    let first : m.l ≡ l = same_place all m.l l m.a a up m.spot here (ap (λ (item : Item). item.path) same.0) in
    let second : m.f ≡ f = same_place others m.f f m.b b down m.other there (ap (λ (item : Item). item.path) same.1) in
    ap Some (m.is ∙ (ap (λ (n : ℕ). Moved n m.f) first ∙ ap (λ (n : ℕ). Moved l n) second))

whole : {all others : List Item} {pairs : List Pair} {lost came : List ℕ → Option Holder} (s : Setting all others pairs lost came) (d : Difference)
    → IsDifference all others d → AnyByRecursion (λ pair. difference_at all others lost came pair ≡ Some d) pairs
whole {all = all} {others = others} {pairs = pairs} {lost = lost} {came = came} s d (changed {l = l} {f = f} {a = a} {b = b} here there same any) =
    any_with_all (λ pair. in_list pair ≡ Some l) (IsPair all others) (λ pair. difference_at all others lost came pair ≡ Some d) pairs
    (both_there s l f a b d here there same (both_gives_changed l f a b (other_moment a.modified b.modified) any))
    (each_listed all others s.merged refl l a (omega arith) here) (all_right all others s.merged)
whole {all = all} {others = others} {pairs = pairs} {lost = lost} {came = came} s d (touched {l = l} {f = f} {a = a} {b = b} here there same any moment) =
    any_with_all (λ pair. in_list pair ≡ Some l) (IsPair all others) (λ pair. difference_at all others lost came pair ≡ Some d) pairs
    (both_there s l f a b d here there same (both_gives_touched l f a b any moment))
    (each_listed all others s.merged refl l a (omega arith) here) (all_right all others s.merged)
whole {all = all} {others = others} {pairs = pairs} {lost = lost} {came = came} s d (missing {l = l} {a = a} here absent never) =
    any_with_all (λ pair. in_list pair ≡ Some l) (IsPair all others) (λ pair. difference_at all others lost came pair ≡ Some d) pairs
    (missing_there s l a d here absent (stays_missing all others l a (move_of all others lost came a) here absent never (move_is s a)))
    (each_listed all others s.merged refl l a (omega arith) here) (all_right all others s.merged)
whole {all = all} {others = others} {pairs = pairs} {lost = lost} {came = came} s d (new {f = f} {b = b} there absent never) =
    any_with_all (λ pair. in_found pair ≡ Some f) (IsPair all others) (λ pair. difference_at all others lost came pair ≡ Some d) pairs
    (new_there s f b d there absent (stays_new all others f b (move_of all others lost came b) there absent never (move_is s b)))
    (each_found all others s.merged refl f b (omega arith) there) (all_right all others s.merged)
whole {all = all} {others = others} {pairs = pairs} {lost = lost} {came = came} s d (moved {l = l} {f = f} {a = a} {b = b} here there moves) =
    any_with_all (λ pair. in_list pair ≡ Some l) (IsPair all others) (λ pair. difference_at all others lost came pair ≡ Some d) pairs
    (missing_there s l a d here (was_missing all others a b moves).1 (has_moved all others l f a b (move_of all others lost came a) s.up s.down here there moves (move_is s a)))
    (each_listed all others s.merged refl l a (omega arith) here) (all_right all others s.merged)

-- ---- the order

before_given_by : {Y : Type 0} (path : List ℕ) (g : Y → List ℕ) (o : Option Y) (ys : List Y) → ((y : Y) → o ≡ Some y → IsBefore path (g y)) → AllByRecursion (IsBefore path) (map g ys)
    → AllByRecursion (IsBefore path) (map g (cons_option o ys))
before_given_by path g None ys one rest = rest
before_given_by path g (Some y) ys one rest = (one y refl, rest)

before_given : {X Y : Type 0} (path : List ℕ) (Q : X → Type 0) (h : X → List ℕ) (g : Y → List ℕ) (f : X → Option Y) (xs : List X) → ((x : X) (y : Y) → Q x → f x ≡ Some y → g y ≡ h x)
    → AllByRecursion Q xs → AllByRecursion (IsBefore path) (map h xs) → AllByRecursion (IsBefore path) (map g (filter_map f xs))
before_given path Q h g f [] same all before = tt
before_given path Q h g f (x ∷ xs) same all before =
    before_given_by path g (f x) (filter_map f xs) (λ y is. subst (IsBefore path) (sym (same x y all.0 is)) before.0) (before_given path Q h g f xs same all.1 before.1)

order_given_by : {Y : Type 0} (g : Y → List ℕ) (o : Option Y) (ys : List Y) → ((y : Y) → o ≡ Some y → AllByRecursion (IsBefore (g y)) (map g ys)) → AreInOrder (map g ys) → AreInOrder (map g (cons_option o ys))
order_given_by g None ys one rest = rest
order_given_by g (Some y) ys one rest = (one y refl, rest)

pub order_given : {X Y : Type 0} (Q : X → Type 0) (h : X → List ℕ) (g : Y → List ℕ) (f : X → Option Y) (xs : List X) → ((x : X) (y : Y) → Q x → f x ≡ Some y → g y ≡ h x)
    → AllByRecursion Q xs → AreInOrder (map h xs) → AreInOrder (map g (filter_map f xs))
order_given Q h g f [] same all order = tt
order_given Q h g f (x ∷ xs) same all order =
    order_given_by g (f x) (filter_map f xs)
    (λ y is. subst (λ (path : List ℕ). AllByRecursion (IsBefore path) (map g (filter_map f xs))) (sym (same x y all.0 is)) (before_given (h x) Q h g f xs same all.1 order.0))
    (order_given Q h g f xs same all.1 order.1)

-- ---- the report

reported : {all others : List Item} {pairs : List Pair} {lost came : List ℕ → Option Holder} (s : Setting all others pairs lost came)
    → IsReport all others (filter_map (difference_at all others lost came) pairs)
reported {all = all} {others = others} {pairs = pairs} {lost = lost} {came = came} s =
    let right = all_right all others s.merged in
    record {
      right = given_all (IsDifference all others) (IsPair all others) (difference_at all others lost came) pairs (λ pair d is gives. (pair_right s pair d is gives).0) right;
      whole = λ d is. given_is_there (difference_at all others lost came) pairs d (whole s d is);
      in_order = order_given (IsPair all others) (pair_path all others) (path_of all others) (difference_at all others lost came) pairs (λ pair d is gives. (pair_right s pair d is gives).1) right (in_order all others s.merged);
    }

pub report_is : (all others : List Item) (pairs : List Pair) (lost came : List ℕ → Option Holder) → Merges 0 0 all others pairs → AreInOrder (paths all) → AreInOrder (paths others)
    → ((hash : List ℕ) → lost hash ≡ holder_among all (filter_map only_listed pairs) hash) → ((hash : List ℕ) → came hash ≡ holder_among others (filter_map only_found pairs) hash)
    → IsReport all others (filter_map (difference_at all others lost came) pairs)
report_is all others pairs lost came merges up down losses arrivals =
    let merged = pairs_merge merges all others refl refl up down (agree_start all others) (agree_start others all) in
    reported (record {
      merged = merged;
      up = up;
      down = down;
      losses = λ hash. subst (λ (o : Option Holder). Says all o (filter (bears hash) (alone all others))) (sym (losses hash)) (says_among all hash (filter_map only_listed pairs) (alone all others) (missing_items all others merged));
      arrivals = λ hash. subst (λ (o : Option Holder). Says others o (filter (bears hash) (alone others all))) (sym (arrivals hash)) (says_among others hash (filter_map only_found pairs) (alone others all) (new_items all others merged));
    })
