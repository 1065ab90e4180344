-- Parts of a file that are read or written one after the other.
use Rattle.std.proofs.Common.{◌≡◌, ℕ, ◌+◌, ◌-◌, ◌≤◌, ◌<◌, List, [], ◌++◌, length, take, drop, Result, Ok, Err, refl, sym, ap, ◌∙◌, append_assoc, arith}
use Rattle.std.specs.Prelude.{IfOk}
use Rattle.std.proofs.lemmas.List.{append-nil, drop-drop, length-drop, length-take, take-append-drop, take_all}
use Rattle.std.proofs.lemmas.Slice.{take-put_mid}
use Rattle.std.proofs.Math.Seq.{take-add, take-append-add, take-take}
use borrow.Rule.Slice.PartMut.{put_mid}

-- a buffer whose bytes from a place on were read into: those before it, and the first of those that were read
filled_on : (at room n : ℕ) (buffer part : List ℕ) → at ≤ length buffer → n ≤ length part → take (at + n) (put_mid at room buffer part) ≡ take at buffer ++ take n part
filled_on at room n buffer part within fits =
    let size : length (take at buffer) ≡ at = omega (arith, length-take at buffer) in
    let whole : take (at + length part) (put_mid at room buffer part) ≡ take at buffer ++ part = take-put_mid at room buffer part (at + length part) refl within in
    let front : take (at + n) (take (at + length part) (put_mid at room buffer part)) ≡ take (at + n) (put_mid at room buffer part) =
    take-take (at + n) (at + length part) (put_mid at room buffer part) (omega arith) in
    let cut : take (at + n) (take at buffer ++ part) ≡ take at buffer ++ take n part =
    ap (λ (k : ℕ). take (k + n) (take at buffer ++ part)) (sym size) ∙ take-append-add (take at buffer) part n in
    sym front ∙ ap (λ (t : List ℕ). take (at + n) t) whole ∙ cut

pub more_read : {E : Type 0} (r : Result ℕ E) (at room : ℕ) (buffer part behind : List ℕ) → at ≤ length buffer → IfOk r (λ n. n ≤ length part) → IfOk r (λ n. take n part ≡ take n behind)
    → IfOk r (λ n. take (at + n) (put_mid at room buffer part) ≡ take at buffer ++ take n behind)
more_read (Ok n) at room buffer part behind within bound read = filled_on at room n buffer part within bound ∙ ap (λ (t : List ℕ). take at buffer ++ t) read
more_read (Err error) at room buffer part behind within bound read = tt

-- what was read so far, and more of it
pub read_on : (at place count more : ℕ) (s old new : List ℕ) → place ≡ at + count → take count old ≡ take count (drop at s) → take (count + more) new ≡ take count old ++ take more (drop place s)
    → take (count + more) new ≡ take (count + more) (drop at s)
read_on at place count more s old new is so_far read =
    let behind : drop place s ≡ drop count (drop at s) = ap (λ (n : ℕ). drop n s) is ∙ sym (drop-drop count at s) in
    read ∙ ap (λ (t : List ℕ). t ++ take more (drop place s)) so_far ∙ ap (λ (t : List ℕ). take count (drop at s) ++ take more t) behind ∙ sym (take-add count more (drop at s))

pub within_on : (at place count more : ℕ) (s : List ℕ) → place ≡ at + count → count ≤ length (drop at s) → more ≤ length (drop place s) → count + more ≤ length (drop at s)
within_on at place count more s is so_far read =
    let same : length (drop place s) ≡ length (drop count (drop at s)) = ap (λ (n : ℕ). length (drop n s)) is ∙ ap length (sym (drop-drop count at s)) in
    omega (arith, same, length-drop count (drop at s))

-- the file ends here
pub read_end : (at place count wanted : ℕ) (s new : List ℕ) → place ≡ at + count → take count new ≡ take count (drop at s) → drop place s ≡ [] → count ≤ wanted → take count new ≡ take wanted (drop at s)
read_end at place count wanted s new is so_far none le =
    let same : length (drop count (drop at s)) ≡ 0 = ap length (drop-drop count at s ∙ sym (ap (λ (n : ℕ). drop n s) is) ∙ none) in
    let short : length (drop at s) ≤ count = omega (arith, same, length-drop count (drop at s)) in
    so_far ∙ take_all count (drop at s) short ∙ sym (take_all wanted (drop at s) (omega (arith, short)))

-- the end that was saved so far, and more of it
pub saved_on : (from at next : ℕ) (s front before after : List ℕ) → from ≤ at → next ≡ at + 65536 → before ≡ front ++ take (at - from) (drop from s) → after ≡ before ++ take 65536 (drop at s)
    → after ≡ front ++ take (next - from) (drop from s)
saved_on from at next s front before after le is so_far saved =
    let end : List ℕ = drop from s in
    let k = at - from in
    let there : drop at s ≡ drop k end = ap (λ (n : ℕ). drop n s) (omega arith) ∙ sym (drop-drop k from s) in
    let long : next - from ≡ k + 65536 = omega arith in
    saved ∙ ap (λ (t : List ℕ). t ++ take 65536 (drop at s)) so_far ∙ append_assoc front (take k end) (take 65536 (drop at s)) ∙ ap (λ (t : List ℕ). front ++ (take k end ++ take 65536 t)) there
    ∙ ap (λ (t : List ℕ). front ++ t) (sym (take-add k 65536 end)) ∙ ap (λ (n : ℕ). front ++ take n end) (sym long)

pub saved_all : (from at : ℕ) (s front before after : List ℕ) → from ≤ at → before ≡ front ++ take (at - from) (drop from s) → after ≡ before ++ take 65536 (drop at s) → length (take 65536 (drop at s)) < 65536 → after ≡ front ++ drop from s
saved_all from at s front before after le so_far saved short =
    let end : List ℕ = drop from s in
    let k = at - from in
    let there : drop at s ≡ drop k end = ap (λ (n : ℕ). drop n s) (omega arith) ∙ sym (drop-drop k from s) in
    let all : take 65536 (drop at s) ≡ drop k end = take_all 65536 (drop at s) (omega (arith, short, length-take 65536 (drop at s))) ∙ there in
    saved ∙ ap (λ (t : List ℕ). t ++ take 65536 (drop at s)) so_far ∙ ap (λ (t : List ℕ). (front ++ take k end) ++ t) all ∙ append_assoc front (take k end) (drop k end)
    ∙ ap (λ (t : List ℕ). front ++ t) (take-append-drop k end)

-- what was written so far, and more of it
pub written_on : (s bytes : List ℕ) (written count : ℕ) → (s ++ take written bytes) ++ take count (drop written bytes) ≡ s ++ take (written + count) bytes
written_on s bytes written count = append_assoc s (take written bytes) (take count (drop written bytes)) ∙ ap (λ (t : List ℕ). s ++ t) (sym (take-add written count bytes))

-- nothing was saved so far
pub saved_none : (from : ℕ) (s saved : List ℕ) → saved ≡ saved ++ take (from - from) (drop from s)
saved_none from s saved =
    let none : from - from ≡ 0 = omega arith in
    sym (ap (λ (n : ℕ). saved ++ take n (drop from s)) none ∙ append-nil saved)

pub nothing_more : (xs ys : List ℕ) (n : ℕ) → n ≡ 0 → xs ++ take n ys ≡ xs
nothing_more xs ys n is = ap (λ (k : ℕ). xs ++ take k ys) is ∙ append-nil xs
