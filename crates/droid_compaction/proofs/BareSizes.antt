-- How long bare requests are.
use Rattle.std.proofs.Common.{◌≡◌, ℕ, ◌+◌, ◌≤◌, List, ◌++◌, length, take, drop, get_or, refl, arith}
use Rattle.std.proofs.lemmas.List.{length-append, length-drop, length-take}
use Rattle.md5.proofs.StandardFacts.{length-md5}
use Rattle.droid_frame.specs.Fields.{u32_bytes}
use Rattle.droid_frame.specs.Frames.{mark_of}
use Rattle.droid_compaction.specs.BareFrames.{bare_finish_bytes, bare_piece_bytes, with_body}

with_body_long : (request : List ℕ) (kind : ℕ) (body : List ℕ) → 18 ≤ length request → length (with_body request kind body) ≡ 18 + length body
with_body_long request kind body long =
    let head : length (take 12 (drop 2 request)) ≡ 12 = omega (arith, length-take 12 (drop 2 request), length-drop 2 request) in
    let size : length (u32_bytes (length body)) ≡ 4 = refl in
    omega (arith, head, size, length-append (take 12 (drop 2 request)) (u32_bytes (length body) ++ body), length-append (u32_bytes (length body)) body)

pub bare_piece_long : (request reply : List ℕ) → 18 ≤ length request → length (bare_piece_bytes request reply) ≡ 34 + length (drop 18 reply)
bare_piece_long request reply long =
    let mark : List ℕ = mark_of (get_or request 1 0) (drop 18 request) in
    let sixteen : length mark ≡ 16 = length-md5 _ in
    omega (arith, with_body_long request 68 (mark ++ drop 18 reply) long, sixteen, length-append mark (drop 18 reply))

pub bare_finish_long : (request reply : List ℕ) → 18 ≤ length request → length (bare_finish_bytes request reply) ≡ length request + length (drop 18 reply)
bare_finish_long request reply long =
    omega (arith, with_body_long request 69 (drop 18 request ++ drop 18 reply) long, length-append (drop 18 request) (drop 18 reply), length-drop 18 request)
