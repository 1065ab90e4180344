-- Legal histories, one entry after the other: where each was accepted, and how many commands that makes.
use Rattle.std.proofs.Common.{◌≡◌, ℕ, ◌+◌, Bool, true, false, cond, [], ◌∷◌, ◌++◌, length, find, Option, Some, refl, sym, ap, subst, ◌∙◌, append_assoc, append-nil}
use Rattle.std.proofs.lemmas.List.{length-append}
use Rattle.std.proofs.lemmas.List.Sums.{fold-append}
use Rattle.droid_core_spec.specs.Histories.{Entry, History, GoesOn, IsNext, IsLegal, command, is_under, kept, world_of, world_asked, world_after}
use Rattle.droid_core_spec.specs.Judging.{Accepted}
use Rattle.droid_core_spec.specs.Setting.{Setting}
use Rattle.droid_core_spec.specs.World.{World}
use Rattle.droid_core_spec.proofs.Judged.{judged_as}

-- the world after one entry more
pub world-push : (setting : Setting) (history : History) (entry : Entry) → world_of setting (history ++ entry ∷ []) ≡ world_asked setting (world_of setting history) entry.frame.version (command entry.frame)
unfolding world_of
world-push setting history entry = fold-append (λ (world : World) entry. world_asked setting world entry.frame.version (command entry.frame)) _ history (entry ∷ [])

pub GoesOn-push : (setting : Setting) (before entries : History) (entry : Entry) → GoesOn setting before entries → IsNext setting (before ++ entries) entry → GoesOn setting before (entries ++ entry ∷ [])
GoesOn-push setting before [] entry legal may = (let nothing : before ++ [] ≡ before = append-nil before in rw nothing at may, tt)
GoesOn-push setting before (first ∷ entries) entry legal may =
    (legal.0, GoesOn-push setting (before ++ first ∷ []) entries entry legal.1 (rw (append_assoc before (first ∷ []) entries) may))

-- the world after an entry that may come next is the one that its command left
pub world_next : (setting : Setting) (history : History) (entry : Entry) (may : IsNext setting history entry) → world_of setting (history ++ entry ∷ []) ≡ may.after
world_next setting history entry may =
    world-push setting history entry ∙ (ap (world_asked setting (world_of setting history) entry.frame.version) may.asked ∙ ap (world_after (world_of setting history)) may.accepted)

-- ---- how many commands were accepted

counted_next : (setting : Setting) (history : History) (entry : Entry) → IsNext setting history entry → (world_of setting history).accepted ≡ length history → (world_of setting (history ++ entry ∷ [])).accepted ≡ length (history ++ entry ∷ [])
counted_next setting history entry may counted =
    let one_more = (judged_as setting (world_of setting history) entry.frame.version may.request (Accepted entry.reply may.after) may.accepted).one_more in
    ap (λ (world : World). world.accepted) (world_next setting history entry may) ∙ (one_more ∙ (ap (λ n. n + 1) counted ∙ sym (length-append history (entry ∷ []))))

counted_on : (setting : Setting) (before entries : History) → GoesOn setting before entries → (world_of setting before).accepted ≡ length before → (world_of setting (before ++ entries)).accepted ≡ length (before ++ entries)
counted_on setting before [] legal counted = subst (λ (history : History). (world_of setting history).accepted ≡ length history) (sym (append-nil before)) counted
counted_on setting before (entry ∷ entries) legal counted =
    subst (λ (history : History). (world_of setting history).accepted ≡ length history) (append_assoc before (entry ∷ []) entries)
    (counted_on setting (before ++ entry ∷ []) entries legal.1 (counted_next setting before entry legal.0 counted))

none_accepted : (setting : Setting) → (world_of setting []).accepted ≡ 0
unfolding world_of
none_accepted setting = refl

-- the world of a legal history counts its entries
pub accepted_is_length : (setting : Setting) (history : History) → IsLegal setting history → (world_of setting history).accepted ≡ length history
accepted_is_length setting history legal = counted_on setting [] history legal (none_accepted setting)

-- ---- each entry was accepted at its place

-- what holds of each element holds of one that is found
found_or : (b : Bool) (P : Entry → Type 0) (first : Entry) (rest : Option Entry) (entry : Entry) → P first → (rest ≡ Some entry → P entry) → cond b (Some first) rest ≡ Some entry → P entry
found_or true P first rest entry here there is = let same : first ≡ entry = cc in subst P same here
found_or false P first rest entry here there is = there is

-- the entry came next after some history
pub record CameNext (setting : Setting) (entry : Entry) : Type 0 where
  pub past : History
  pub may : IsNext setting past entry

found_came : (setting : Setting) (p : Entry → Bool) (before entries : History) (entry : Entry) → GoesOn setting before entries → find p entries ≡ Some entry → CameNext setting entry
found_came setting p before [] entry legal is = absurd cc
found_came setting p before (first ∷ entries) entry legal is =
    found_or (p first) (CameNext setting) first (find p entries) entry (record { past = before; may = legal.0 })
    (found_came setting p (before ++ first ∷ []) entries entry legal.1) is

pub kept_came : (setting : Setting) (history : History) (client number : ℕ) (entry : Entry) → IsLegal setting history → kept history client number ≡ Some entry → CameNext setting entry
kept_came setting history client number entry legal is = found_came setting (is_under client number) [] history entry legal is
