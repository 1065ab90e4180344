-- A path without the slashes at its end.
use Rattle.std.proofs.Common.{◌≡◌, ◌∙◌, ℕ, suc, ◌-◌, List, [], ◌∷◌, ◌++◌, length, take, drop, replicate, Option, Some, None, sym, ap, arith, append-nil, append_assoc, take-append-drop, drop_of_length-le, le_refl}
use Rattle.std.specs.Str.Pattern.{CutsSuffixes, FindsCharSuffix, IsTrimEndMatches}
use Rattle.std.specs.Option.{IfSome}
use Rattle.droid_disk.specs.Tops.{IsWithoutSlashes}

-- a path that ends in a slash is the rest and the slash
one_slash : (path top : List ℕ) (count : ℕ) → FindsCharSuffix 47 path (Some count) → top ≡ take (length path - count) path → path ≡ top ++ 47 ∷ []
unfolding lib.Utf8.encode
one_slash path top count found is =
    let last : drop (length path - count) path ≡ 47 ∷ [] = found.1.split ∙ ap (λ (l : List ℕ). 47 ∷ l) (drop_of_length-le path (le_refl (length path))) in
    sym (take-append-drop (length path - count) path) ∙ (ap (λ (l : List ℕ). l ++ drop (length path - count) path) (sym is) ∙ ap (λ (l : List ℕ). top ++ l) last)

-- slashes that were cut off one after the other
record Cut (path top : List ℕ) : Type 0 where
  slashes : ℕ
  whole : path ≡ top ++ replicate slashes 47

all_slashes : (path : List ℕ) (counts : List ℕ) (top : List ℕ) → CutsSuffixes (FindsCharSuffix 47) path counts top → Cut path top
all_slashes path [] top is = record { slashes = 0; whole = sym is ∙ sym (append-nil top) }
all_slashes path (count ∷ counts) top cut =
    let before = all_slashes path counts cut.0 cut.1 in
    let one : cut.0 ≡ top ++ 47 ∷ [] = one_slash cut.0 top count cut.2 cut.3 in
    record {
      slashes = suc before.slashes;
      whole = before.whole ∙ (ap (λ (l : List ℕ). l ++ replicate before.slashes 47) one ∙ append_assoc top (47 ∷ []) (replicate before.slashes 47));
    }

none_left : (top : List ℕ) (found : Option ℕ) → FindsCharSuffix 47 top found → IfSome found (λ count. count ≡ 0) → (front : List ℕ) → top ≡ front ++ 47 ∷ [] → ⊥
unfolding lib.Utf8.encode
none_left top None found nothing front is = found front is
none_left top (Some count) found nothing front is = absurd (omega (arith, found.0, nothing))

pub trimmed : (path top : List ℕ) → IsTrimEndMatches (FindsCharSuffix 47) path top → IsWithoutSlashes path top
trimmed path top is =
    let cut = all_slashes path is.0.0 top is.0.1 in
    record { slashes = cut.slashes; cut = cut.whole; no_more = none_left top is.1.0 is.1.1 is.1.2 }
