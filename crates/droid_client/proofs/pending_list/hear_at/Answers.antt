use Rattle.std.proofs.Common.{◌≡◌, ℕ, List, set, Some, sym, ap, ◌∙◌}
use Rattle.std.specs.List.{slice_get}
use Rattle.std.proofs.lemmas.Option.{slice_get_read}
use Rattle.droid_client.specs.declared.heard.Heard.TheVariants as heard
use Rattle.droid_client.specs.declared.slot.Slot.{Slot}
use Rattle.droid_client.specs.Cores.{heard_at, pending_in}
use Rattle.droid_client.proofs.Hearing.{is_settled, stays, was_pending}
use Rattle.droid_client.proofs.PendingPlaces.{same_places}
use Rattle.droid_client.proofs.pending_list.hear_at.Goals as goal

-- the slot that is there is the one that was indexed
same_slot : (slots : List Slot) (place : ℕ) (one other : Slot) → slice_get slots place ≡ Some one → slice_get slots place ≡ Some other → one ≡ other
same_slot slots place one other is too = cc

pub returns-in-Answered-clause-heard : goal.returns-in-Answered-clause-heard
returns-in-Answered-clause-heard c slot is =
    let slots = c.args.slots.now in
    let there = slice_get_read slots.items _ c.args.place c.index_mut.result.now slots.ok.0 c.requires c.index_mut.ensures.value in
    rw (same_slot slots.items c.args.place slot c.index_mut.result.now is there) (sym c.in-Answered.is ∙ c.hear-heard.ensures.heard)

pub returns-in-Answered-clause-after : goal.returns-in-Answered-clause-after
returns-in-Answered-clause-after c slot is =
    let slots = c.args.slots.now in
    let there = slice_get_read slots.items _ c.args.place c.index_mut.result.now slots.ok.0 c.requires c.index_mut.ensures.value in
    rw (same_slot slots.items c.args.place slot c.index_mut.result.now is there) (ap (λ (s : Slot). set slots.items c.args.place s) c.hear-heard.ensures.after)

pub returns-in-Answered-clause-places : goal.returns-in-Answered-clause-places
returns-in-Answered-clause-places c are =
    let slots = c.args.slots.now in
    let old = c.index_mut.result.now in
    let there = slice_get_read slots.items _ c.args.place old slots.ok.0 c.requires c.index_mut.ensures.value in
    let answered : heard_at old c.args.version c.args.reply ≡ heard.Answered = sym c.hear-heard.ensures.heard ∙ c.in-Answered.is in
    c.settle.ensures slots.items c.hear-heard.new.self are (old, there, was_pending old c.args.version c.args.reply answered)
    (ap (λ (s : Slot). pending_in s.state) c.hear-heard.ensures.after ∙ is_settled old c.args.version c.args.reply answered)

pub returns-in_default-clause-heard : goal.returns-in_default-clause-heard
returns-in_default-clause-heard c slot is =
    let slots = c.args.slots.now in
    let there = slice_get_read slots.items _ c.args.place c.index_mut.result.now slots.ok.0 c.requires c.index_mut.ensures.value in
    rw (same_slot slots.items c.args.place slot c.index_mut.result.now is there) c.hear-heard.ensures.heard

pub returns-in_default-clause-after : goal.returns-in_default-clause-after
returns-in_default-clause-after c slot is =
    let slots = c.args.slots.now in
    let there = slice_get_read slots.items _ c.args.place c.index_mut.result.now slots.ok.0 c.requires c.index_mut.ensures.value in
    rw (same_slot slots.items c.args.place slot c.index_mut.result.now is there) (ap (λ (s : Slot). set slots.items c.args.place s) c.hear-heard.ensures.after)

pub returns-in_default-clause-places : goal.returns-in_default-clause-places
returns-in_default-clause-places c are =
    let slots = c.args.slots.now in
    let old = c.index_mut.result.now in
    let there = slice_get_read slots.items _ c.args.place old slots.ok.0 c.requires c.index_mut.ensures.value in
    let kept = stays old c.args.version c.args.reply (λ answered. c.in_default.not-Answered (c.hear-heard.ensures.heard ∙ answered)) in
    are ∙ sym (same_places 0 slots.items c.args.place old c.hear-heard.new.self there (ap (λ (s : Slot). pending_in s.state) c.hear-heard.ensures.after ∙ kept))
