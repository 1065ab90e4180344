-- Bytes that are read behind those of a vector.
use Rattle.std.proofs.Common.{◌≡◌, ◌∙◌, ℕ, ◌+◌, ◌-◌, ◌≤◌, Bool, true, false, cond, List, ◌++◌, length, refl, take, ap, sym, arith}
use Rattle.std.proofs.Math.Nat.{min-le_left}
use Rattle.std.proofs.Math.Seq.{take-append-add}
use Rattle.std.proofs.lemmas.List.{append_assoc, length-take, take_all, take_at}
use Rattle.droid_disk.specs.Machine.{AddsBytes}

-- a vector that was made longer begins with the bytes that it had
pub front_kept : (longer : Bool) (before after : ℕ) (old zeros items : List ℕ) → items ≡ cond longer (take after old ++ zeros) old → length old ≡ before → before ≤ after → take before items ≡ old
front_kept true before after old zeros items is len more =
    let whole : take after old ≡ old = take_all after old (omega (arith, len, more)) in
    ap (take before) is ∙ (ap (λ (front : List ℕ). take before (front ++ zeros)) whole ∙ take_at old zeros before len)
front_kept false before after old zeros items is len more = ap (take before) is ∙ take_all before old (omega (arith, len))

-- cutting at the length of the beginning leaves the beginning
cut_behind : (count places : ℕ) (old rest : List ℕ) → length old + count ≡ places → take places (old ++ rest) ≡ old ++ take count rest
cut_behind count places old rest len = ap (λ (n : ℕ). take n (old ++ rest)) (sym len) ∙ take-append-add old rest count

-- what stands behind the beginning after cutting is no longer than the cut
pub added : (before filled places wanted : ℕ) (old front read rest after : List ℕ) → after ≡ take (before + filled) (take places ((front ++ read) ++ rest))
    → front ≡ old → length old ≡ before → before ≤ places → filled ≤ wanted → AddsBytes wanted old after
added before filled places wanted old front read rest after is kept len room few =
    let tail : List ℕ = read ++ rest in
    let joined : (front ++ read) ++ rest ≡ old ++ tail = rw (kept, append_assoc old read rest) refl in
    let first : take places (old ++ tail) ≡ old ++ take (places - before) tail = cut_behind (places - before) places old tail (omega (arith, len, room)) in
    let second : take (before + filled) (old ++ take (places - before) tail) ≡ old ++ take filled (take (places - before) tail) = cut_behind filled (before + filled) old (take (places - before) tail) (omega (arith, len)) in
    let few_came : length (take filled (take (places - before) tail)) ≤ wanted = omega (arith, length-take filled (take (places - before) tail), min-le_left filled (length (take (places - before) tail)), few) in
    record {
      bytes = take filled (take (places - before) tail);
      added = is ∙ (ap (λ (l : List ℕ). take (before + filled) (take places l)) joined ∙ (ap (take (before + filled)) first ∙ second));
      within = few_came;
    }

-- the part behind the older bytes has the length that was asked for
pub fits_behind : (longer : Bool) (filled before after wanted old_places places lent : ℕ) (buffer items : List ℕ) → filled ≤ length buffer → length buffer ≡ length (take (lent - before) items)
    → lent ≡ places → places ≡ cond longer after old_places → before ≡ old_places → after ≡ before + wanted → filled ≤ wanted
fits_behind true filled before after wanted old_places places lent buffer items within len is grown was more =
    omega (arith, within, len, length-take (lent - before) items, min-le_left (lent - before) (length items), is, grown, more)
fits_behind false filled before after wanted old_places places lent buffer items within len is grown was more =
    omega (arith, within, len, length-take (lent - before) items, min-le_left (lent - before) (length items), is, grown, was)
