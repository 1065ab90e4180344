use Rattle.std.proofs.Common.{◌≡◌, List, [], ◌∷◌, ◌++◌, length, length-append, append-nil, refl, sym, ap, ◌∙◌, arith}
use Rattle.droid_profile.specs.ScanFits.{EndsTaking}
use Rattle.droid_profile.specs.declared.walk.scan.Scan.{Scan}
use Rattle.droid_profile.proofs.Runs.{ends_then, handed_on, takes_same, takes_then}
use Rattle.droid_profile.proofs.walk.entry_order.take_next.Goals as goal

-- of a list from which nothing was taken all is left
left_none : {A : Type 0} {xs left : List A} → xs ≡ left ++ [] → left ≡ xs
left_none {left = left} is = sym (is ∙ append-nil left)

pub returns-in_ok-take_entry-in-Some-clause-taken : goal.returns-in_ok-take_entry-in-Some-clause-taken
returns-in_ok-take_entry-in-Some-clause-taken g c = c.in_ok-take_entry-in-Some.ensures.taken c.args.scan.now (record { same = refl; entries = c.in-Some.ensures.items })

pub returns-in_err-take_entry-in-Some-clause-ended : goal.returns-in_err-take_entry-in-Some-clause-ended
returns-in_err-take_entry-in-Some-clause-ended g c =
    handed_on (λ its. EndsTaking g.T.Tree.observes its 0 c.args.scan.now c.args.rows.now.items c.args.files.now.items c.args.tree.now c.take_entry.new.tree) c.from_residual.result _ c.from_residual.ensures.1
    (c.in_err-take_entry-in-Some.ensures.ended c.args.scan.now (record { same = refl; entries = c.in-Some.ensures.items }))

pub returns-in_ok-more-in-None-clause-taken : goal.returns-in_ok-more-in-None-clause-taken
returns-in_ok-more-in-None-clause-taken g c =
    let scan : Scan = record { waiting = c.args.scan.now.waiting; folder = c.args.scan.now.folder; entries = c.pop.new.self; number = c.args.scan.now.number } in
    let same = takes_same g.T.Tree.observes c.args.scan.now scan c.args.rows.now.items c.args.files.now.items c.args.tree.now (record { entries = left_none c.in-None.ensures.items; waiting = refl; folder = refl; number = refl }) in
    takes_then g.T.Tree.observes c.args.scan.now scan c.args.rows.now.items c.args.rows.now.items c.args.files.now.items c.args.files.now.items c.args.tree.now c.args.tree.now c.list_next.new.tree same
    c.list_next.new.scan c.list_next.new.rows.items c.args.files.now.items (c.in_ok-more-in-None.ensures.taken c.args.files.now.items)

pub returns-in_err-more-in-None-clause-ended : goal.returns-in_err-more-in-None-clause-ended
returns-in_err-more-in-None-clause-ended g c =
    let scan : Scan = record { waiting = c.args.scan.now.waiting; folder = c.args.scan.now.folder; entries = c.pop.new.self; number = c.args.scan.now.number } in
    let same = takes_same g.T.Tree.observes c.args.scan.now scan c.args.rows.now.items c.args.files.now.items c.args.tree.now (record { entries = left_none c.in-None.ensures.items; waiting = refl; folder = refl; number = refl }) in
    handed_on (λ its. EndsTaking g.T.Tree.observes its 0 c.args.scan.now c.args.rows.now.items c.args.files.now.items c.args.tree.now c.list_next.new.tree) c.from_residual-in_err-more-in-None.result _ c.from_residual-in_err-more-in-None.ensures.1
    (ends_then g.T.Tree.observes c.args.scan.now scan c.args.rows.now.items c.args.rows.now.items c.args.files.now.items c.args.files.now.items c.args.tree.now c.args.tree.now c.list_next.new.tree same _ 0 0 (omega arith) (record { numbers = omega arith; rows = omega arith })
    (c.in_err-more-in-None.ensures.ended c.args.files.now.items))

pub returns-in_ok-take_entry-in-Some-clause-less : goal.returns-in_ok-take_entry-in-Some-clause-less
returns-in_ok-take_entry-in-Some-clause-less g c = λ more.
    omega (arith, c.in_ok-take_entry-in-Some.ensures.less, ap length c.in-Some.ensures.items, length-append c.pop.new.self.items (c.in-Some.entry ∷ []))

pub returns-in_ok-take_entry-in-Some-clause-few : goal.returns-in_ok-take_entry-in-Some-clause-few
returns-in_ok-take_entry-in-Some-clause-few g c = let few = c.in_ok-take_entry-in-Some.ensures.few in record { numbers = few.numbers; rows = few.rows }

pub returns-in_ok-more-in-None-clause-less : goal.returns-in_ok-more-in-None-clause-less
returns-in_ok-more-in-None-clause-less g c = λ more. omega (arith, c.in_ok-more-in-None.ensures.less more, ap length (left_none c.in-None.ensures.items))

pub returns-in_ok-more-in-None-clause-few : goal.returns-in_ok-more-in-None-clause-few
returns-in_ok-more-in-None-clause-few g c = let few = c.in_ok-more-in-None.ensures.few in record { numbers = few.numbers; rows = few.rows }
