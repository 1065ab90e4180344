-- The patterns of a text can be written.
use Rattle.std.proofs.Common.{◌≡◌, ℕ, zero, suc, ◌+◌, ◌-◌, ◌<◌, ◌≤◌, Bool, true, false, List, [], ◌∷◌, ◌++◌, length, map, Option, Some, None, inl, inr, refl, ap, subst, arith}
use Rattle.std.specs.Prelude.{◌==◌, nat_lt, option_map, if◌then◌else◌}
use Rattle.std.specs.List.{AllByRecursion}
use Rattle.std.proofs.lemmas.Bool.{ltb-true}
use Rattle.std.proofs.lemmas.List.{length-append, length-map}
use Rattle.droid_pattern.specs.Patterns.{Element, Byte, AnyByte, Gap, OpenGap, Range, Except, Choice}
use Rattle.droid_pattern.specs.PatternText.{SpellsElement}
use Rattle.droid_signature_file.specs.Terms.{Atom, Plain, Outside, Between, Quoted, Term, One, OneOf, AreBytes}
use Rattle.droid_signature_file.specs.TermText.{IsPlain, IsQuotable, SpellsAtom, SpellsAtoms, SpellsAlternatives, SpellsTerm, SpellsTerms}
use Rattle.droid_signature_file.specs.Expansions.{joined, upward, runs_outside, with_byte, any_bytes, range_before, upward_from, up_to, ranges, patterns_of_atom, patterns_of_atoms, patterns_of_each, patterns_of_choice, patterns_of_term, patterns_of, run_of, runs_of, with_run}
use Rattle.droid_signature_file.proofs.TermSets.{spelled_bytes}
use Rattle.droid_signature_pattern.specs.Written.{IsWritable, AreWritable, AreAllWritable}
use Rattle.droid_signature_pattern.proofs.Exits.{all_append}

-- patterns behind patterns
behind_one : (es : List Element) (ps : List (List Element)) → AreWritable es → AreAllWritable ps → AreAllWritable (map (λ fs. es ++ fs) ps)
behind_one es [] a b = tt
behind_one es (fs ∷ ps) a (here, more) = (all_append IsWritable es fs a here, behind_one es ps a more)

pub joined_can : (ps qs : List (List Element)) → AreAllWritable ps → AreAllWritable qs → AreAllWritable (joined ps qs)
joined_can [] qs a b = tt
joined_can (es ∷ ps) qs (here, more) b = all_append AreWritable (map (λ fs. es ++ fs) qs) (joined ps qs) (behind_one es qs here b) (joined_can ps qs more b)

-- an element that a text spells
plain_can : (e : Element) (text : List ℕ) → SpellsElement text e → IsPlain e → IsWritable e
plain_can (Byte b) text spelled plain = (spelled_bytes (b ∷ []) text spelled).0
plain_can AnyByte text spelled plain = tt
plain_can (Gap n m) text (body, is, inl (number, same)) plain = let small : n ≤ 65535 = number.small in (omega arith, omega arith)
plain_can (Gap n m) text (body, is, inr (low, high, cut, first, second, ordered)) plain = (ordered, second.small)
plain_can (OpenGap n) text (inl (is, none)) plain = omega arith
plain_can (OpenGap n) text (inr (digits, is, number)) plain = number.small
plain_can (Range low high) text (from, to, is, first, second, ordered) plain = (ordered, (spelled_bytes (high ∷ []) to second).0)
plain_can (Except b) text (digits, is, spelled) plain = (spelled_bytes (b ∷ []) digits spelled).0
plain_can (Choice alternatives) text spelled plain = absurd plain

-- single bytes
singles_can : (n count : ℕ) → n + count ≤ 256 → AllByRecursion (λ run. (0 < length run) × AreBytes run) (map (λ b. b ∷ []) (upward n count))
singles_can n zero fits = tt
singles_can n (suc count) fits = ((omega arith, (omega arith, tt)), singles_can (suc n) count (omega arith))

map_append_all : (xs ys : List ℕ) → AllByRecursion (λ run. (0 < length run) × AreBytes run) (map (λ b. b ∷ []) xs) → AllByRecursion (λ run. (0 < length run) × AreBytes run) (map (λ b. b ∷ []) ys)
    → AllByRecursion (λ run. (0 < length run) × AreBytes run) (map (λ b. b ∷ []) (xs ++ ys))
map_append_all [] ys a b = b
map_append_all (x ∷ xs) ys (here, more) b = (here, map_append_all xs ys more b)

length_upward : (n count : ℕ) → length (upward n count) ≡ count
length_upward n zero = refl
length_upward n (suc count) = ap suc (length_upward (suc n) count)

outside_can : (low high : ℕ) → low ≤ high → high < 256 → high < low + 255 → IsWritable (Choice (runs_outside low high))
outside_can low high ordered small some =
    let all = length-map (upward 0 low ++ upward (high + 1) (255 - high)) (λ (b : ℕ). b ∷ []) in
    let both = length-append (upward 0 low) (upward (high + 1) (255 - high)) in
    let first = length_upward 0 low in
    let second = length_upward (high + 1) (255 - high) in
    (omega arith, map_append_all (upward 0 low) (upward (high + 1) (255 - high)) (singles_can 0 low (omega arith)) (singles_can (high + 1) (255 - high) (omega arith)))

-- ranges of several bytes
any_can : (count : ℕ) → AreWritable (any_bytes count)
any_can zero = tt
any_can (suc count) = ((omega arith, omega arith), any_can count)

before_where : (t : Bool) (low end count : ℕ) → nat_lt low end ≡ t → end ≤ 256 → AreAllWritable (if t then (Range low (end - 1) ∷ any_bytes count) ∷ [] else [])
before_where true low end count test fits = let lt = ltb-true low end test in (((omega arith, omega arith), any_can count), tt)
before_where false low end count test fits = tt

before_can : (low end count : ℕ) → end ≤ 256 → AreAllWritable (range_before low end count)
before_can low end count fits = before_where (nat_lt low end) low end count refl fits

byte_can : (b : ℕ) (ps : List (List Element)) → b < 256 → AreAllWritable ps → AreAllWritable (with_byte b ps)
byte_can b [] small a = tt
byte_can b (es ∷ ps) small (here, more) = ((small, here), byte_can b ps small more)

upward_can : (low : List ℕ) → AreBytes low → AreAllWritable (upward_from low)
upward_can [] each = (tt, tt)
upward_can (l ∷ low) (small, each) = all_append AreWritable (with_byte l (upward_from low)) (range_before (l + 1) 256 (length low)) (byte_can l (upward_from low) small (upward_can low each)) (before_can (l + 1) 256 (length low) (omega arith))

up_to_can : (high : List ℕ) → AreBytes high → AreAllWritable (up_to high)
up_to_can [] each = (tt, tt)
up_to_can (h ∷ high) (small, each) = all_append AreWritable (range_before 0 h (length high)) (with_byte h (up_to high)) (before_can 0 h (length high) (omega arith)) (byte_can h (up_to high) small (up_to_can high each))

ranges_where : (t : Bool) (l h : ℕ) (low high : List ℕ) → l < 256 → h < 256 → AreBytes low → AreBytes high → AreAllWritable (ranges low high)
    → AreAllWritable (if t then with_byte l (ranges low high) else with_byte l (upward_from low) ++ range_before (l + 1) h (length low) ++ with_byte h (up_to high))
ranges_where true l h low high small small' each each' inner = byte_can l (ranges low high) small inner
ranges_where false l h low high small small' each each' inner =
    let up = with_byte l (upward_from low) in
    let mid = range_before (l + 1) h (length low) in
    all_append AreWritable (up ++ mid) (with_byte h (up_to high))
    (all_append AreWritable up mid (byte_can l (upward_from low) small (upward_can low each)) (before_can (l + 1) h (length low) (omega arith)))
    (byte_can h (up_to high) small' (up_to_can high each'))

ranges_can : (low high : List ℕ) → AreBytes low → AreBytes high → AreAllWritable (ranges low high)
ranges_can [] [] a b = (tt, tt)
ranges_can [] (h ∷ high) a b = tt
ranges_can (l ∷ low) [] a b = tt
ranges_can (l ∷ low) (h ∷ high) (small, each) (small', each') = ranges_where (l == h) l h low high small small' each each' (ranges_can low high each each')

-- quoted text
quoted_bytes : (bytes : List ℕ) → AllByRecursion IsQuotable bytes → AreBytes bytes
quoted_bytes [] each = tt
quoted_bytes (b ∷ bytes) ((small, other), each) = (omega arith, quoted_bytes bytes each)

bytes_can : (bytes : List ℕ) → AreBytes bytes → AreWritable (map Byte bytes)
bytes_can [] each = tt
bytes_can (b ∷ bytes) (small, each) = (small, bytes_can bytes each)

atom_can : (a : Atom) (text : List ℕ) → SpellsAtom text a → AreAllWritable (patterns_of_atom a)
atom_can (Plain e) text (spelled, plain) = ((plain_can e text spelled plain, tt), tt)
atom_can (Outside low high) text (from, to, is, first, second, ordered, some) = ((outside_can low high ordered (spelled_bytes (high ∷ []) to second).0 some, tt), tt)
atom_can (Between low high) text (from, to, is, first, second, bounds) = ranges_can low high (spelled_bytes low from first) (spelled_bytes high to second)
atom_can (Quoted bytes) text (is, some, each) = (bytes_can bytes (quoted_bytes bytes each), tt)

pub atoms_can : (atoms : List Atom) (text : List ℕ) → SpellsAtoms text atoms → AreAllWritable (patterns_of_atoms atoms)
atoms_can [] text spelled = (tt, tt)
atoms_can (a ∷ atoms) text (front, back, is, first, second) = joined_can (patterns_of_atom a) (patterns_of_atoms atoms) (atom_can a front first) (atoms_can atoms back second)

-- alternatives that are runs of bytes
run_can : (atoms : List Atom) (text run : List ℕ) → SpellsAtoms text atoms → run_of atoms ≡ Some run → AreBytes run × (length atoms ≤ length run)
run_can [] text run spelled e = let none : [] ≡ run = cc in (let P : List ℕ → Type 0 = λ r. AreBytes r × (0 ≤ length r) in subst P none (tt, omega arith))
run_can (Plain (Byte b) ∷ atoms) text run (front, back, is, (spelled, plain), second) e =
    go (run_of atoms) refl e (λ rest there. run_can atoms back rest second there) (spelled_bytes (b ∷ []) front spelled).0
  where
    go : (o : Option (List ℕ)) → run_of atoms ≡ o → option_map (λ bytes. b ∷ bytes) o ≡ Some run → ((rest : List ℕ) → run_of atoms ≡ Some rest → AreBytes rest × (length atoms ≤ length rest)) → b < 256
        → AreBytes run × (suc (length atoms) ≤ length run)
    go None there bad again small = absurd cc
    go (Some rest) there whole again small =
        let both : b ∷ rest ≡ run = cc in
        let (each, long) = again rest there in
        let P : List ℕ → Type 0 = λ r. AreBytes r × (suc (length atoms) ≤ length r) in subst P both ((small, each), omega arith)
run_can (Quoted bytes ∷ atoms) text run (front, back, is, (there', some, each'), second) e = go (run_of atoms) refl e (λ rest there. run_can atoms back rest second there)
  where
    go : (o : Option (List ℕ)) → run_of atoms ≡ o → option_map (λ more. bytes ++ more) o ≡ Some run → ((rest : List ℕ) → run_of atoms ≡ Some rest → AreBytes rest × (length atoms ≤ length rest))
        → AreBytes run × (suc (length atoms) ≤ length run)
    go None there bad again = absurd cc
    go (Some rest) there whole again =
        let both : bytes ++ rest ≡ run = cc in
        let (each, long) = again rest there in
        let sum = length-append bytes rest in
        let P : List ℕ → Type 0 = λ r. AreBytes r × (suc (length atoms) ≤ length r) in subst P both (all_append (λ b. b < 256) bytes rest (quoted_bytes bytes each') each, omega arith)
run_can (Plain AnyByte ∷ atoms) text run spelled e = absurd cc
run_can (Plain (Gap least most) ∷ atoms) text run spelled e = absurd cc
run_can (Plain (OpenGap least) ∷ atoms) text run spelled e = absurd cc
run_can (Plain (Range low high) ∷ atoms) text run spelled e = absurd cc
run_can (Plain (Except b) ∷ atoms) text run spelled e = absurd cc
run_can (Plain (Choice alternatives) ∷ atoms) text run spelled e = absurd cc
run_can (Outside low high ∷ atoms) text run spelled e = absurd cc
run_can (Between low high ∷ atoms) text run spelled e = absurd cc

-- each alternative is spelled by some text, and has an item
abbrev AreSpelled : List (List Atom) → Type 0
AreSpelled alts = AllByRecursion (λ atoms. (text : List ℕ) × SpellsAtoms text atoms × (0 < length atoms)) alts

spelled_each : (alts : List (List Atom)) (text : List ℕ) → SpellsAlternatives text alts → AreSpelled alts × (0 < length alts)
spelled_each [] text spelled = absurd spelled
spelled_each (a ∷ []) text (spelled, some) = (((text, spelled, some), tt), omega arith)
spelled_each (a ∷ b ∷ more) text (first, rest, is, spelled, some, others) = let later = spelled_each (b ∷ more) rest others in (((first, spelled, some), later.0), omega arith)

runs_can : (alts : List (List Atom)) (runs : List (List ℕ)) → AreSpelled alts → runs_of alts ≡ Some runs → AllByRecursion (λ run. (0 < length run) × AreBytes run) runs × (length alts ≤ length runs)
runs_can [] runs each e =
    let none : [] ≡ runs = cc in
    let P : List (List ℕ) → Type 0 = λ r. AllByRecursion (λ run. (0 < length run) × AreBytes run) r × (0 ≤ length r) in subst P none (tt, omega arith)
runs_can (atoms ∷ alts) runs ((text, spelled, some), each) e = go (run_of atoms) (runs_of alts) refl refl e (λ rest there. runs_can alts rest each there)
  where
    go : (o : Option (List ℕ)) (p : Option (List (List ℕ))) → run_of atoms ≡ o → runs_of alts ≡ p → with_run o p ≡ Some runs
        → ((rest : List (List ℕ)) → runs_of alts ≡ Some rest → AllByRecursion (λ run. (0 < length run) × AreBytes run) rest × (length alts ≤ length rest))
        → AllByRecursion (λ run. (0 < length run) × AreBytes run) runs × (suc (length alts) ≤ length runs)
    go None p here there bad again = absurd cc
    go (Some run) None here there bad again = absurd cc
    go (Some run) (Some rest) here there whole again =
        let both : run ∷ rest ≡ runs = cc in
        let (bytes, long) = run_can atoms text run spelled here in
        let (others, many) = again rest there in
        let P : List (List ℕ) → Type 0 = λ r. AllByRecursion (λ run. (0 < length run) × AreBytes run) r × (suc (length alts) ≤ length r) in subst P both (((omega arith, bytes), others), omega arith)

each_can : (alts : List (List Atom)) → AreSpelled alts → AreAllWritable (patterns_of_each alts)
each_can [] each = tt
each_can (atoms ∷ alts) ((text, spelled, some), each) = all_append AreWritable (patterns_of_atoms atoms) (patterns_of_each alts) (atoms_can atoms text spelled) (each_can alts each)

choice_can : (o : Option (List (List ℕ))) (alts : List (List Atom)) → runs_of alts ≡ o → AreSpelled alts → 0 < length alts → AreAllWritable (patterns_of_choice o alts)
choice_can None alts is each some = each_can alts each
choice_can (Some runs) alts is each some = let (all, long) = runs_can alts runs each is in (((omega arith, all), tt), tt)

pub term_can : (t : Term) (text : List ℕ) → SpellsTerm text t → AreAllWritable (patterns_of_term t)
term_can (One a) text spelled = atom_can a text spelled
term_can (OneOf alts) text (body, is, spelled) = let (each, some) = spelled_each alts body spelled in choice_can (runs_of alts) alts refl each some

pub terms_can : (text : List ℕ) (ts : List Term) → SpellsTerms text ts → AreAllWritable (patterns_of ts)
terms_can text [] spelled = (tt, tt)
terms_can text (t ∷ ts) (front, back, is, first, second) = joined_can (patterns_of_term t) (patterns_of ts) (term_can t front first) (terms_can back ts second)
