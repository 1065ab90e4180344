-- A part of a text, as what was read or written of it and what is left.
use Rattle.std.proofs.Common.{◌≡◌, ℕ, ◌+◌, ◌-◌, ◌≤◌, List, ◌++◌, length, take, drop, Option, refl, sym, ap, subst, ◌∙◌, arith}
use Rattle.std.specs.Io.KnownBytes.{Appends}
use Rattle.std.proofs.KnownBytes.{Appends-trans}
use Rattle.std.proofs.Math.Seq.{take-add, take-append-add, take-take}
use Rattle.std.proofs.lemmas.List.{take_all, length-take, length-drop, drop-drop}
use Rattle.std.proofs.lemmas.Slice.{take-put_mid}
use borrow.Rule.Slice.PartMut.{put_mid}

-- some bytes are the end of others
pub record IsEnd (bytes rest : List ℕ) : Type 0 where
  pub shorter : length rest ≤ length bytes
  pub ends : drop (length bytes - length rest) bytes ≡ rest

-- a buffer whose bytes from `at` on were read into: the ones before, and the first n of those read
pub filled_on : (at room n : ℕ) (buffer part : List ℕ) → at ≤ length buffer → n ≤ length part → take at buffer ++ take n part ≡ take (at + n) (put_mid at room buffer part)
filled_on at room n buffer part within fits =
    let size : length (take at buffer) ≡ at = omega (arith, length-take at buffer) in
    let whole : take (at + length part) (put_mid at room buffer part) ≡ take at buffer ++ part = take-put_mid at room buffer part (at + length part) refl within in
    let front : take (at + n) (take (at + length part) (put_mid at room buffer part)) ≡ take (at + n) (put_mid at room buffer part) =
    take-take (at + n) (at + length part) (put_mid at room buffer part) (omega arith) in
    let cut : take (at + n) (take at buffer ++ part) ≡ take at buffer ++ take n part =
    ap (λ (k : ℕ). take (k + n) (take at buffer ++ part)) (sym size) ∙ take-append-add (take at buffer) part n in
    sym cut ∙ (ap (take (at + n)) (sym whole) ∙ front)

-- after the bytes before the rest, n more of the rest; what is left then is the end too
pub record WroteMore (old new : Option (List ℕ)) (part next : List ℕ) : Type 0 where
  pub written : Appends old new (take (length part - length next) part)
  pub rest : IsEnd part next

pub wrote_more : (old mid new : Option (List ℕ)) (part rest : List ℕ) (n : ℕ) → IsEnd part rest → n ≤ length rest
    → Appends old mid (take (length part - length rest) part) → Appends mid new (take n rest)
    → WroteMore old new part (take (length rest - n) (drop n rest))
wrote_more old mid new part rest n is_end within first next =
    let whole : take (length rest - n) (drop n rest) ≡ drop n rest = take_all (length rest - n) (drop n rest) (omega (arith, length-drop n rest)) in
    let size : length (drop n rest) ≡ length rest - n = length-drop n rest in
    let place : (length part - length rest) + n ≡ length part - length (drop n rest) = omega (arith, size, is_end.shorter) in
    let two : Appends mid new (take n (drop (length part - length rest) part)) = subst (λ (l : List ℕ). Appends mid new (take n l)) (sym is_end.ends) next in
    let both : Appends old new (take ((length part - length rest) + n) part) =
    subst (Appends old new) (sym (take-add (length part - length rest) n part)) (Appends-trans old mid new _ _ first two) in
    rw whole (record {
      written = rw (← place) both;
      rest = record {
        shorter = omega (arith, size, is_end.shorter);
        ends = rw (← place) (sym (drop-drop n (length part - length rest) part) ∙ ap (drop n) is_end.ends);
      };
    })
