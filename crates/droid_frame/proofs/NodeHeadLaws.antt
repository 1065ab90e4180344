-- Where a node lies: what is read is what is spelled, and what is spelled is read again.
use Rattle.std.proofs.Common.{◌≡◌, ℕ, ℤ, List, ◌++◌, Some, refl, subst}
use Rattle.std.specs.Int.{w32}
use Rattle.droid_frame.specs.declared.reading.requests.node_head.NodeHead.{NodeHead}
use Rattle.droid_frame.specs.Fields.{IsBytes, u32_bytes, i64_bytes, IsU32, IsI64}
use Rattle.droid_frame.specs.NodeHeads.{node_head_at}
use Rattle.droid_frame.specs.Reading.{◌>>=◌, number_at, signed_at}
use Rattle.droid_frame.proofs.FieldLaws.{IsField, IsFront, bind_some, some_is, u32_field, i64_field}
use Rattle.droid_frame.proofs.SequenceLaws.{front_then}

abbrev pub node_head_bytes : NodeHead → List ℕ
node_head_bytes head = u32_bytes head.profile ++ (u32_bytes head.parent ++ i64_bytes head.modified)

abbrev pub IsNodeHead : NodeHead → Type 0
IsNodeHead head = IsU32 head.profile × IsU32 head.parent × IsI64 head.modified

abbrev Leaves : List ℕ → NodeHead × List ℕ → Type 0
Leaves bytes x = IsFront bytes (node_head_bytes x.0) x.1 × IsNodeHead x.0

abbrev head_of : ℕ → ℕ → ℤ → NodeHead
head_of profile parent modified = record { profile = profile; parent = parent; modified = modified }

node_head_reads : (bytes : List ℕ) (x : NodeHead × List ℕ) → IsBytes bytes → node_head_at bytes ≡ Some x → Leaves bytes x
unfolding node_head_at
node_head_reads bytes x are e =
    let profile = bind_some (number_at w32 bytes) (λ p. number_at w32 p.1 >>= λ q. signed_at q.1 >>= λ m. Some (head_of p.0 q.0 m.0, m.1)) x e in
    let p = profile.0 in
    let parent = bind_some (number_at w32 p.1) (λ q. signed_at q.1 >>= λ m. Some (head_of p.0 q.0 m.0, m.1)) x profile.2 in
    let q = parent.0 in
    let modified = bind_some (signed_at q.1) (λ m. Some (head_of p.0 q.0 m.0, m.1)) x parent.2 in
    let m = modified.0 in
    let p_front = u32_field.reads bytes p are profile.1 in
    let q_front = u32_field.reads p.1 q p_front.0.bytes_follow parent.1 in
    let m_front = i64_field.reads q.1 m q_front.0.bytes_follow modified.1 in
    let last_two = front_then p.1 (u32_bytes q.0) q.1 (i64_bytes m.0) m.1 q_front.0 m_front.0 in
    let front = front_then bytes (u32_bytes p.0) p.1 (u32_bytes q.0 ++ i64_bytes m.0) m.1 p_front.0 last_two in
    let value : NodeHead × List ℕ = (head_of p.0 q.0 m.0, m.1) in
    subst (Leaves bytes) (some_is value x modified.2) (front, (p_front.1, q_front.1, m_front.1))

node_head_again : (head : NodeHead) (rest : List ℕ) → IsNodeHead head → node_head_at (node_head_bytes head ++ rest) ≡ Some (head, rest)
unfolding node_head_at
node_head_again head rest is =
    rw (u32_field.again head.profile (u32_bytes head.parent ++ (i64_bytes head.modified ++ rest)) is.0, u32_field.again head.parent (i64_bytes head.modified ++ rest) is.1, i64_field.again head.modified rest is.2) refl

pub node_head_field : IsField node_head_at node_head_bytes IsNodeHead
node_head_field = record { reads = node_head_reads; again = node_head_again }
