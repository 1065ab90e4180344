use Rattle.std.proofs.Common.{rules, ◌≡◌, ◌∙◌, ◌+◌, List, ℕ, false, Err, drop, sym, ap, subst, arith}
use Rattle.std.specs.Prelude.{IsTrue}
use Rattle.droid_journal.specs.Chains.{HasLater, ShowsDamage, form_of, key_of, skipped}
use Rattle.droid_journal.specs.declared.records.key.Key.{Key}
use Rattle.droid_journal.specs.declared.records.place.Place.{Place}
use Rattle.droid_journal.specs.Opening.{HandedOn, Hands}
use Rattle.droid_journal.specs.Replaying.{Fails}
use Rattle.droid_journal.specs.declared.journal_fault.Fault.TheVariants as faults
use Rattle.droid_journal.proofs.Openings.{chain_read, counts, damage_here, damage_there, last_is, no_damage, no_header, reads_all, refuted_read}
use Rattle.droid_journal.proofs.start.read_all.Goals as goal

-- where the search begins
search_at : (header : List ℕ) (key : Key) (at skip behind : ℕ) → key ≡ key_of header → skip ≡ skipped key.form → behind ≡ at + skip → behind ≡ at + skipped (form_of header)
search_at header key at skip behind is skips sum = sum ∙ ap (λ (n : ℕ). at + n) (skips ∙ ap (λ (k : Key). skipped k.form) is)

pub hand_all-requires-clause-count : goal.hand_all-requires-clause-count
hand_all-requires-clause-count g c =
    let none : c.first_place-from.result.records ≡ 0 = ap (λ (p : Place). p.records) c.first_place-from.ensures in
    omega (arith, none)

pub returns-in-Err-clause-damage : goal.returns-in-Err-clause-damage
returns-in-Err-clause-damage g c = λ n reported s here has.
    let same : c.in-Err.fault ≡ faults.Damage n = cc in
    absurd (no_damage c.in-Err.fault n c.in-Err.ensures.fault same)

pub returns-in-Err-clause-others : goal.returns-in-Err-clause-others
returns-in-Err-clause-others g c = λ reported.
    let same : c.in-Err.fault ≡ faults.Header = cc in
    no_header c.in-Err.fault c.in-Err.ensures.fault same

pub returns-in-Err-clause-refuted : goal.returns-in-Err-clause-refuted
returns-in-Err-clause-refuted g c = λ n reported setting s here has st.
    let header = c.args.header.now in
    let from = c.first_place-from.result in
    let same : c.in-Err.fault ≡ faults.Record n = cc in
    let failed = subst (λ (k : Key). Fails g.M.Machine.stands g.M.Machine.gives k from (drop from.at s) c.args.machine.now n) c.key_of-key.ensures (c.in-Err.ensures.refuted n (ap Err same) s here) in
    refuted_read g.M.Machine.stands g.M.Machine.gives header s c.args.machine.now from n setting has c.first_place-from.ensures failed st

pub returns-then-later-clause-damage : goal.returns-then-later-clause-damage
returns-then-later-clause-damage g c = λ n reported s here has.
    let header = c.args.header.now in
    let to = c.in-Ok.to in
    let from = c.first_place-from.result in
    let all = c.in-Ok.ensures.hands in
    let hands = subst (λ (k : Key). Hands g.M.Machine.stands g.M.Machine.gives k c.args.machine.now from c.hand_all.new.machine to all.0) c.key_of-key.ensures all.1 in
    let on = subst (λ (k : Key). HandedOn k s from to all.0) c.key_of-key.ensures (all.2 s here) in
    let last = last_is g.M.Machine.stands g.M.Machine.gives header s c.args.machine.now c.hand_all.new.machine from to all.0 has c.first_place-from.ensures hands on in
    let behind = c.in-Some.behind in
    let sum : behind ≡ to.at + c.skip_of.result = search rules in
    let later = subst (λ (k : Key). HasLater k behind (drop behind s)) c.key_of-key.ensures ((c.in-Ok-is_damaged.ensures.later s here).0 c.if-later.true) in
    let same : to.records ≡ n = cc in
    record {
      its = all.0;
      rest = drop to.at s;
      chain = chain_read g.M.Machine.stands g.M.Machine.gives header s c.args.machine.now c.hand_all.new.machine from to all.0 has c.first_place-from.ensures hands on;
      later = damage_there header s all.0 to behind last (search_at header c.key_of-key.result to.at c.skip_of.result behind c.key_of-key.ensures c.skip_of.ensures sum) later;
      count_is = counts header all.0 to n same last;
    }

pub returns-clause-read : goal.returns-clause-read
returns-clause-read g c = λ s here has.
    let header = c.args.header.now in
    let to = c.in-Ok.to in
    let from = c.first_place-from.result in
    let all = c.in-Ok.ensures.hands in
    let hands = subst (λ (k : Key). Hands g.M.Machine.stands g.M.Machine.gives k c.args.machine.now from c.hand_all.new.machine to all.0) c.key_of-key.ensures all.1 in
    let on = subst (λ (k : Key). HandedOn k s from to all.0) c.key_of-key.ensures (all.2 s here) in
    let last = last_is g.M.Machine.stands g.M.Machine.gives header s c.args.machine.now c.hand_all.new.machine from to all.0 has c.first_place-from.ensures hands on in
    let behind = c.in-Some.behind in
    let sum : behind ≡ to.at + c.skip_of.result = search rules in
    let whole : ShowsDamage header all.0 (drop to.at s) → ⊥ =
    λ shows.
    let later = damage_here header s all.0 to behind last (search_at header c.key_of-key.result to.at c.skip_of.result behind c.key_of-key.ensures c.skip_of.ensures sum) shows in
    let is : IsTrue c.in-Ok-is_damaged.later = (c.in-Ok-is_damaged.ensures.later s here).1 (subst (λ (k : Key). HasLater k behind (drop behind s)) (sym c.key_of-key.ensures) later) in
    let isnt : c.in-Ok-is_damaged.later ≡ false = c.if-later.false in
    absurd cc in
    (all.0, reads_all g.M.Machine.stands g.M.Machine.gives header s c.args.machine.now c.hand_all.new.machine from to all.0 has c.first_place-from.ensures hands on whole)
