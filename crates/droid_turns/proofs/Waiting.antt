-- The bytes of chunks, after each change of them.
use Rattle.std.proofs.Common.{◌≡◌, ℕ, List, ◌++◌, drop, sym, ap, ◌∙◌, append_assoc}
use Rattle.std.specs.List.{flat_map}
use Rattle.std.specs.declared.alloc.Global.{Global}
use Rattle.std.specs.declared.vec.Vec.{Vec}
use Rattle.droid_turns.specs.Chunks.{bytes_of, waiting}
use Rattle.droid_turns.specs.declared.chunks.Chunks.{Chunks}

-- bytes more at the end of the last chunk
pub pushed : (front later last more : List ℕ) → front ++ (later ++ (last ++ more)) ≡ (front ++ (later ++ last)) ++ more
pushed front later last more =
    ap (λ (l : List ℕ). front ++ l) (sym (append_assoc later last more)) ∙ sym (append_assoc front (later ++ last) more)

-- a chunk with more bytes at its end
pub pushed_chunk : (mid : Chunks) (last : Vec ℕ Global) (old frame : List ℕ) → waiting mid ≡ old → last.items ≡ mid.last.items ++ frame
    → waiting (record { first = mid.first; written = mid.written; later = mid.later; last = last }) ≡ old ++ frame
pushed_chunk mid last old frame was is =
    ap (λ (l : List ℕ). drop mid.written mid.first.items ++ (flat_map bytes_of mid.later.items ++ l)) is
    ∙ (pushed (drop mid.written mid.first.items) (flat_map bytes_of mid.later.items) mid.last.items frame ∙ ap (λ (l : List ℕ). l ++ frame) was)
