use Rattle.std.proofs.Common.{rules, ◌≡◌, ◌||◌, ◌∙◌, ℕ, true, false, eqb, List, ◌++◌, length, sym, ap, refl, append_assoc, arith}
use Rattle.std.proofs.lemmas.List.{append-nil, length-append}
use Rattle.droid_journal.specs.Records.{Record, made, place_after, record_bytes}
use Rattle.droid_journal.proofs.Chains.{place_same}
use Rattle.droid_compaction.specs.Numbers.{has_number}
use Rattle.droid_compaction.specs.Shortening.{smaller_request}
use Rattle.droid_compaction.proofs.Writing.{again, wrote}
use Rattle.droid_compaction.proofs.rewriter.RewriterTaker.take.Goals as goal

pub returns-then-has-clause-took : goal.returns-then-has-clause-took
returns-then-has-clause-took g c = λ aim before first st.
    let shown : c.has.result ≡ true = search rules in
    again g.N.LogFile.has aim c.args.self.now before (made first c.args.request.now c.args.reply.now) st
    (ap (has_number c.args.self.now.stamps) (sym c.stamp_of-stamp.ensures) ∙ sym c.has.ensures ∙ shown)

pub returns-then-len-lt-COLLECTED-clause-took : goal.returns-then-len-lt-COLLECTED-clause-took
returns-then-len-lt-COLLECTED-clause-took g c = λ aim before first st.
    let self = c.args.self.now in
    let shown : c.has.result ≡ false = search rules in
    let it : Record = made false (smaller_request (has_number self.ended) c.args.request.now c.args.reply.now) c.args.reply.now in
    let one : List ℕ = record_bytes self.key self.place it in
    let next : c.in-Some.next ≡ place_after self.key self.place it =
    place_same c.in-Some.next (place_after self.key self.place it) (omega (arith, c.in-Some.ensures.some.0, ap length c.in-Ok-spell.ensures.bytes, length-append self.out.items one, self.out.ok.0, c.spell.new.out.ok.0))
    (c.in-Some.ensures.some.1 ∙ c.in-Ok-spell.ensures.check) c.in-Some.ensures.some.2 in
    wrote g.N.LogFile.has aim self _ before first c.args.request.now c.args.reply.now st
    (ap (has_number self.stamps) (sym c.stamp_of-stamp.ensures) ∙ sym c.has.ensures ∙ shown)
    (λ n. c.in-Ok.ensures n ∙ ap (λ (k : ℕ). eqb k n || has_number self.stamps n) c.stamp_of-stamp.ensures)
    refl refl next c.in-Ok-spell.ensures.fits st.written st.there st.bytes_are
    (ap (λ (t : List ℕ). st.written ++ t) c.in-Ok-spell.ensures.bytes ∙ sym (append_assoc st.written self.out.items one))

pub returns-clause-took : goal.returns-clause-took
returns-clause-took g c = λ aim before first st.
    let self = c.args.self.now in
    let shown : c.has.result ≡ false = search rules in
    let it : Record = made false (smaller_request (has_number self.ended) c.args.request.now c.args.reply.now) c.args.reply.now in
    let one : List ℕ = record_bytes self.key self.place it in
    let next : c.in-Some.next ≡ place_after self.key self.place it =
    place_same c.in-Some.next (place_after self.key self.place it) (omega (arith, c.in-Some.ensures.some.0, ap length c.in-Ok-spell.ensures.bytes, length-append self.out.items one, self.out.ok.0, c.spell.new.out.ok.0))
    (c.in-Some.ensures.some.1 ∙ c.in-Ok-spell.ensures.check) c.in-Some.ensures.some.2 in
    let all : List ℕ = st.written ++ c.spell.new.out.items in
    wrote g.N.LogFile.has aim self _ before first c.args.request.now c.args.reply.now st
    (ap (has_number self.stamps) (sym c.stamp_of-stamp.ensures) ∙ sym c.has.ensures ∙ shown)
    (λ n. c.in-Ok.ensures n ∙ ap (λ (k : ℕ). eqb k n || has_number self.stamps n) c.stamp_of-stamp.ensures)
    refl refl next c.in-Ok-spell.ensures.fits all (c.in-Ok-flush.ensures.written st.written st.there)
    (omega (arith, c.in-Ok-flush.ensures.bytes, st.bytes_are, length-append st.written c.spell.new.out.items))
    (ap (λ (t : List ℕ). all ++ t) c.in-Ok-flush.ensures.empty ∙ append-nil all ∙ ap (λ (t : List ℕ). st.written ++ t) c.in-Ok-spell.ensures.bytes ∙ sym (append_assoc st.written self.out.items one))
