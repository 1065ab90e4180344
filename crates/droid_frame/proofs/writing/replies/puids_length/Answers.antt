use Rattle.std.proofs.Common.{◌≡◌, List, ℕ, length, take, ap, sym, subst, arith}
use Rattle.std.specs.List.{AllByRecursion}
use Rattle.std.proofs.lemmas.List.{take_all}
use Rattle.droid_frame.specs.Replies.{IsPuidText}
use Rattle.droid_frame.specs.TextLists.{texts_bytes}
use Rattle.droid_frame.proofs.ReplyFronts.{puids_are_short, room_for_puid}
use Rattle.droid_frame.proofs.writing.replies.puids_length.Goals as goal

pub overflow_add-total-in-loop-puid : goal.overflow_add-total-in-loop-puid
overflow_add-total-in-loop-puid c =
    let puids = c.as_slice-puid-items.result.now in
    let same = sym c.as_slice-puid-items.ensures in
    let each = subst (λ (ps : List (List ℕ)). AllByRecursion IsPuidText ps) same c.requires.each in
    let room = room_for_puid puids c.loop-puid.puid-index c.puid-item.result each (omega (arith, c.requires.count, ap (λ (ps : List (List ℕ)). length ps) same)) c.loop-puid-test.true c.puid-item.is in
    record { fits = omega (arith, room, c.len.ensures) }

pub returns-clause-bound : goal.returns-clause-bound
returns-clause-bound c =
    let puids = c.as_slice-puid-items.result.now in
    let same = sym c.as_slice-puid-items.ensures in
    let each = subst (λ (ps : List (List ℕ)). AllByRecursion IsPuidText ps) same c.requires.each in
    let all : take c.loop-puid.puid-index puids ≡ puids = take_all c.loop-puid.puid-index puids c.loop-puid-test.false in
    omega (arith, ap (λ (ps : List (List ℕ)). length (texts_bytes ps)) all, puids_are_short puids each, c.requires.count, ap (λ (ps : List (List ℕ)). length ps) same)
