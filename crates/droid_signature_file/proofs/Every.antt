-- Reading each of several elements.
use Rattle.std.proofs.Common.{◌≡◌, Bool, List, [], ◌∷◌, ◌++◌, filter, refl, sym, ap, append_assoc, append-nil, ◌∙◌}
use Rattle.std.specs.Prelude.{Result, Ok, Err}
use Rattle.std.specs.List.{flat_map}
use Rattle.std.proofs.lemmas.Grind.{flat_map-append}
use Rattle.std.proofs.lemmas.List.Elements.{filter-append}
use Rattle.droid_signature_file.specs.Outcomes.{Stops, after}
use Rattle.droid_signature_file.specs.Signatures.{every, every_with}
use Rattle.droid_signature_file.specs.declared.fault.Stop.{Stop}
use Rattle.droid_signature_file.specs.declared.fault.Stop.TheVariants as stops
use Rattle.droid_signature_file.specs.declared.fault.Wrong.{Wrong}

-- nothing is read yet
pub at_start : {B : Type 0} (all : Result (List B) Wrong) → all ≡ after [] all
at_start (Ok xs) = refl
at_start (Err wrong) = refl

in_front : {B : Type 0} (front : List B) (y : B) (rest : Result (List B) Wrong) → after front (every_with y rest) ≡ after (front ++ y ∷ []) rest
in_front front y (Ok ys) = ap Ok (sym (append_assoc front (y ∷ []) ys))
in_front front y (Err wrong) = refl

-- one more is read
pub one_more : {A B : Type 0} (read : A → Result B Wrong) (front : List B) (x : A) (y : B) (rest : List A) → read x ≡ Ok y
    → after front (every read (x ∷ rest)) ≡ after (front ++ y ∷ []) (every read rest)
one_more read front x y rest is = rw is (in_front front y (every read rest))

-- one is wrong
pub one_wrong : {A B : Type 0} (read : A → Result B Wrong) (x : A) (wrong : Wrong) (rest : List A) → read x ≡ Err wrong → every read (x ∷ rest) ≡ Err wrong
one_wrong read x wrong rest is = rw is refl

-- what is read is the only thing
pub nothing_more : {B : Type 0} (front new : List B) → after front (Ok []) ≡ Ok new → front ≡ new
nothing_more front new is = let same : front ++ [] ≡ new = cc in sym (append-nil front) ∙ same

part_by : {A B : Type 0} (read : A → Result B Wrong) (x : A) (xs ys : List A) (old new : List B) (r : Result B Wrong) → read x ≡ r
    → ((front : List B) → after front (every read xs) ≡ Ok new → after front (every read (xs ++ ys)) ≡ after new (every read ys))
    → after old (every read (x ∷ xs)) ≡ Ok new → after old (every read (x ∷ (xs ++ ys))) ≡ after new (every read ys)
part_by read x xs ys old new (Ok y) found step is = one_more read old x y (xs ++ ys) found ∙ step (old ++ y ∷ []) (sym (one_more read old x y xs found) ∙ is)
part_by read x xs ys old new (Err wrong) found step is = let no : Ok new ≡ Err wrong = sym is ∙ ap (after old) (one_wrong read x wrong xs found) in absurd cc

-- a part is read, and what stands behind it
pub part_read : {A B : Type 0} (read : A → Result B Wrong) (xs ys : List A) (old new : List B) → after old (every read xs) ≡ Ok new
    → after old (every read (xs ++ ys)) ≡ after new (every read ys)
part_read {A} {B} read [] ys old new is = ap (λ (front : List B). after front (every read ys)) (nothing_more old new is)
part_read {A} {B} read (x ∷ xs) ys old new is = part_by read x xs ys old new (read x) refl (λ (front : List B) h. part_read read xs ys front new h) is

with_wrong : {B : Type 0} (y : B) (r : Result (List B) Wrong) (wrong : Wrong) → every_with y r ≡ Err wrong → r ≡ Err wrong
with_wrong y (Ok ys) wrong is = absurd cc
with_wrong y (Err other) wrong is = is

wrong_by : {A B : Type 0} (read : A → Result B Wrong) (x : A) (xs ys : List A) (wrong : Wrong) (r : Result B Wrong) → read x ≡ r
    → (every read xs ≡ Err wrong → every read (xs ++ ys) ≡ Err wrong) → every read (x ∷ xs) ≡ Err wrong → every read (x ∷ (xs ++ ys)) ≡ Err wrong
wrong_by read x xs ys wrong (Ok y) found step is =
    let rest : every_with y (every read xs) ≡ Err wrong = rw found at is in
    let more : every read (xs ++ ys) ≡ Err wrong = step (with_wrong y (every read xs) wrong rest) in
    rw (found, more) refl
wrong_by read x xs ys wrong (Err other) found step is = one_wrong read x other (xs ++ ys) found ∙ (sym (one_wrong read x other xs found) ∙ is)

-- a part is wrong
pub part_wrong : {A B : Type 0} (read : A → Result B Wrong) (xs ys : List A) (wrong : Wrong) → every read xs ≡ Err wrong → every read (xs ++ ys) ≡ Err wrong
part_wrong read [] ys wrong is = absurd cc
part_wrong read (x ∷ xs) ys wrong is = wrong_by read x xs ys wrong (read x) refl (λ h. part_wrong read xs ys wrong h) is

after_wrong : {B : Type 0} (old : List B) (r : Result (List B) Wrong) (wrong : Wrong) → Err wrong ≡ after old r → r ≡ Err wrong
after_wrong old (Ok ys) wrong is = absurd cc
after_wrong old (Err other) wrong is = sym is

-- where the rest stops, the whole does
pub stops_by : {B : Type 0} (stop : Stop) (all old : List B) (rest whole : Result (List B) Wrong) → after all rest ≡ after old whole → Stops stop rest → Stops stop whole
stops_by stops.Memory all old rest whole is stopped = tt
stops_by (stops.Wrong wrong) all old rest whole is stopped = after_wrong old whole wrong (sym (ap (after all) stopped) ∙ is)

pub stops_front : {A B : Type 0} (stop : Stop) (read : A → Result B Wrong) (xs ys : List A) → Stops stop (every read xs) → Stops stop (every read (xs ++ ys))
stops_front stops.Memory read xs ys stopped = tt
stops_front (stops.Wrong wrong) read xs ys stopped = part_wrong read xs ys wrong stopped

-- the first of those that pass, and the others
pub first_passes : {A : Type 0} (test : A → Bool) (x : A) (rest : List A) → filter test (x ∷ rest) ≡ filter test (x ∷ []) ++ filter test rest
first_passes test x rest = filter-append test (x ∷ []) rest

pub first_collected : {A B : Type 0} (f : A → List B) (test : A → Bool) (x : A) (rest : List A)
    → flat_map f (filter test (x ∷ rest)) ≡ flat_map f (filter test (x ∷ [])) ++ flat_map f (filter test rest)
first_collected f test x rest = ap (flat_map f) (first_passes test x rest) ∙ flat_map-append f (filter test (x ∷ [])) (filter test rest)
