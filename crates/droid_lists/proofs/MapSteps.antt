-- Maps whose keys are texts, with one more.
use Rattle.std.proofs.Common.{◌≡◌, ◌∙◌, ◌<◌, ◌+◌, ℕ, Bool, true, false, ◌||◌, cond, List, [], ◌∷◌, ◌++◌, length, take, get_or, Option, Some, None, refl, sym, ap}
use Rattle.std.specs.Prelude.{if◌then◌else◌}
use Rattle.std.specs.Cmp.Lexicographic.{nat_list_eq_equiv}
use Rattle.std.specs.Map.{update}
use Rattle.std.specs.Option.{is_some}
use Rattle.std.specs.Str.{bytes_eq}
use Rattle.std.proofs.lemmas.List.{take_more}
use Rattle.std.proofs.lemmas.List.Folds.{list_any-append}
use Rattle.std.proofs.lemmas.Slice.Eq.{bytes_eq-Decides}
use Rattle.droid_lists.specs.Differences.{is_known}
use Rattle.droid_lists.specs.FormatMaps.{AddsKnown, known_at, known_count, known_or, own_has}
use Rattle.droid_lists.specs.declared.spelling.row_formats.Formats.{Formats}
use Rattle.droid_lists.specs.declared.spelling.row_formats.Texts.{Texts}
use Rattle.droid_lists.specs.declared.known.Known.{Known}
use Rattle.droid_lists.specs.declared.spelling.own_puids.OwnPuids.{OwnPuids}

-- ---- any map

swapped : (xs ys : List ℕ) → bytes_eq xs ys ≡ bytes_eq ys xs
swapped xs ys = nat_list_eq_equiv.symm xs ys

-- what a map has once a key is set
pub set_at : {X : Type 0} (before after : List ℕ → Option X) (key bytes : List ℕ) (value : X) → key ≡ bytes
    → ((q : List ℕ) → after q ≡ update bytes_eq before key (Some value) q) → (q : List ℕ) → after q ≡ (if bytes_eq q bytes then Some value else before q)
set_at before after key bytes value same set q =
    set q ∙ ap (λ (b : Bool). if b then Some value else before q) (ap (λ (k : List ℕ). bytes_eq k q) same ∙ swapped bytes q)

-- ---- formats

none_of : {X : Type 0} (it : Option X) → is_some it ≡ false → it ≡ None
none_of None is = refl
none_of (Some it) is = absurd (cc)

some_of : (it : Option Texts) (texts : Texts) → is_some it ≡ true → Some (known_or it texts) ≡ it
some_of None texts is = absurd (cc)
some_of (Some it) texts is = refl

-- a PUID of which something is known
pub known_before : (formats : Formats) (puid : List ℕ) (texts : Texts) → is_some (known_at formats puid) ≡ true → AddsKnown formats formats puid texts
known_before formats puid texts is = record {
  known = λ other. known_by other (bytes_eq other puid) refl;
  count = sym (ap (λ (b : Bool). if b then known_count formats else known_count formats + 1) is);
} where
  known_by : (other : List ℕ) (b : Bool) → bytes_eq other puid ≡ b → known_at formats other ≡ (if b then Some (known_or (known_at formats puid) texts) else known_at formats other)
  known_by other true same = ap (known_at formats) ((bytes_eq-Decides other puid).0 same) ∙ sym (some_of (known_at formats puid) texts is)
  known_by other false same = refl

-- a PUID of which nothing was known
pub known_added : (old new : Formats) (key puid : List ℕ) (texts : Texts) (was : Option Texts) → key ≡ puid → is_some (known_at old puid) ≡ false
    → ((q : List ℕ) → known_at new q ≡ update bytes_eq (known_at old) key (Some texts) q) → was ≡ known_at old key
    → known_count new ≡ known_count old + (if is_some was then 0 else 1) → AddsKnown old new puid texts
known_added old new key puid texts was same none set is count =
    let nothing : known_at old puid ≡ None = none_of (known_at old puid) none in
    let was_none : is_some was ≡ false = ap (λ (it : Option Texts). is_some it) (is ∙ ap (known_at old) same) ∙ none in
    record {
      known = λ other. set_at (known_at old) (known_at new) key puid texts same set other
          ∙ ap (λ (it : Option Texts). if bytes_eq other puid then Some (known_or it texts) else known_at old other) (sym nothing);
      count = count ∙ (ap (λ (b : Bool). known_count old + (if b then 0 else 1)) was_none
          ∙ sym (ap (λ (b : Bool). if b then known_count old else known_count old + 1) none));
    }

-- ---- the PUIDs of a record

either : (b c : Bool) → cond b true c ≡ (b || c)
either true c = refl
either false c = refl

pub own_added : (old new : OwnPuids) (key puid : List ℕ) → key ≡ puid → ((q : List ℕ) → own_has new q ≡ cond (bytes_eq key q) true (own_has old q))
    → (q : List ℕ) → own_has new q ≡ (bytes_eq q puid || own_has old q)
own_added old new key puid same set q =
    set q ∙ (ap (λ (b : Bool). cond b true (own_has old q)) (ap (λ (k : List ℕ). bytes_eq k q) same ∙ swapped puid q) ∙ either (bytes_eq q puid) (own_has old q))

-- ---- the paths of what is known

some_by : {X : Type 0} (b : Bool) (value : X) (it : Option X) → is_some (cond b (Some value) it) ≡ (is_some it || b)
some_by true value None = refl
some_by true value (Some it) = refl
some_by false value None = refl
some_by false value (Some it) = refl

or_nothing : (b : Bool) → b ≡ (b || false)
or_nothing true = refl
or_nothing false = refl

pub path_added : (before after : List ℕ → Option Bool) (known : List Known) (place : ℕ) (one : Known) (key : List ℕ) → key ≡ one.path → place < length known → one ≡ get_or known place one
    → ((q : List ℕ) → after q ≡ update bytes_eq before key (Some true) q) → ((q : List ℕ) → is_some (before q) ≡ is_known (take place known) q)
    → (q : List ℕ) → is_some (after q) ≡ is_known (take (place + 1) known) q
path_added before after known place one key same below here set so_far q =
    let grown : take (place + 1) known ≡ take place known ++ one ∷ [] = take_more known place one below ∙ ap (λ (it : Known). take place known ++ it ∷ []) (sym here) in
    let this : bytes_eq key q ≡ (bytes_eq q one.path || false) = ap (λ (k : List ℕ). bytes_eq k q) same ∙ (swapped one.path q ∙ or_nothing (bytes_eq q one.path)) in
    ap (λ (it : Option Bool). is_some it) (set q)
    ∙ (some_by (bytes_eq key q) true (before q)
    ∙ (ap (λ (b : Bool). b || bytes_eq key q) (so_far q)
    ∙ (ap (λ (b : Bool). is_known (take place known) q || b) this
    ∙ sym (ap (λ (l : List Known). is_known l q) grown ∙ list_any-append (λ (it : Known). bytes_eq q it.path) (take place known) (one ∷ [])))))
