-- For inner clauses and proofs: what a front is after its windows were lent.
use Rattle.std.specs.Prelude.{◌≡◌, ℕ, List, length}
use Rattle.std.specs.Borrow.{MutBor, Fml, RattleType, Array, Lends, u8 as byte}
use Rattle.std.specs.List.{refill}
use Rattle.std.specs.Io.BufRead.{Rests}
use Rattle.circular_buffer.specs.Buffer.{Buffer, buffer}
use Rattle.circular_buffer.specs.contracts.heap.HeapCircularBuffer as kit
use Rattle.std.specs.contracts.alloc.Global as global
use Rattle.std.specs.contracts.impls.GlobalAllocator.TheImpl.{ghosts}
use Rattle.droid_assembly.specs.declared.front.Front.{Front}
use Rattle.droid_assembly.specs.contracts.front.Front.{the_row}

-- the front is unchanged after the loan
abbrev pub StaysUnchanged : MutBor Front → Fml
StaysUnchanged front = Rests the_row front (λ last. last ≡ front.now)

-- the kit's buffer of bytes, as the logic holds it
abbrev pub buffer_row : RattleType
buffer_row = kit.the_row byte global.the_row ghosts

-- the buffer is unchanged after the loan
abbrev pub BufferStays : MutBor (Buffer ℕ) → Fml
BufferStays b = Rests buffer_row b (λ last. last ≡ b.now)

-- its bytes are the last ones written through r
abbrev pub LendsItems : MutBor (Buffer ℕ) → MutBor (List ℕ) → Fml
LendsItems b r =
    Lends buffer_row (Array byte 0) b r (λ ws. buffer (refill (length b.now.items) b.now.items ws) b.now.capacity)
