use Rattle.std.proofs.Common.{inl, inr, List, length, refl, sym, arith}
use Rattle.droid_profile.specs.declared.lanes.file_row.FileRow.{FileRow}
use Rattle.droid_profile.specs.ScanFits.{EndsTaking}
use Rattle.droid_profile.specs.declared.walk.scan.Scan.{Scan}
use Rattle.droid_profile.proofs.Runs.{ends_now, handed_on, takes_same}
use Rattle.droid_profile.proofs.ScanSteps.{takes_listing}
use Rattle.droid_profile.proofs.StepsMade.{below_many, listing_few, listing_less}
use Rattle.droid_profile.proofs.walk.folders.list_next.Goals as goal

pub returns-in_default-clause-taken : goal.returns-in_default-clause-taken
returns-in_default-clause-taken g c = λ files. takes_same g.T.Tree.observes c.args.scan.now _ c.args.rows.now.items files c.args.tree.now (record { entries = refl; waiting = sym c.in_default.ensures.items; folder = refl; number = refl })

pub returns-in_err-list_folder-clause-ended : goal.returns-in_err-list_folder-clause-ended
returns-in_err-list_folder-clause-ended g c =
    handed_on (λ its. (files : List FileRow) → EndsTaking g.T.Tree.observes its 0 c.args.scan.now c.args.rows.now.items files c.args.tree.now c.list_folder.new.tree) c.from_residual.result _ c.from_residual.ensures.1
    (λ files. ends_now g.T.Tree.observes _ c.args.scan.now c.args.rows.now.items files c.args.tree.now c.list_folder.new.tree (inl c.in_err-list_folder.ensures.ended) (inr c.in_err-list_folder.ensures.ended))

pub returns-clause-taken : goal.returns-clause-taken
returns-clause-taken g c = λ files.
    let popped : Scan = record { waiting = c.pop_front.new.self; folder = c.args.scan.now.folder; entries = c.args.scan.now.entries; number = c.args.scan.now.number } in
    takes_listing g.T.Tree.observes c.in-Some.folder c.args.scan.now popped c.list_folder.new.scan _ c.args.rows.now.items c.list_folder.new.rows.items files c.args.tree.now c.list_folder.new.tree
    c.requires c.in-Some.ensures.items refl c.in_ok-list_folder.ensures.listed refl

pub returns-clause-few : goal.returns-clause-few
returns-clause-few g c =
    let popped : Scan = record { waiting = c.pop_front.new.self; folder = c.args.scan.now.folder; entries = c.args.scan.now.entries; number = c.args.scan.now.number } in
    let few = listing_few g.T.Tree.observes c.in-Some.folder popped c.list_folder.new.scan c.list_folder.new.scan c.args.rows.now.items c.list_folder.new.rows.items c.args.tree.now c.list_folder.new.tree c.in_ok-list_folder.ensures.listed refl in
    record { numbers = few.numbers; rows = few.rows }

pub returns-clause-less : goal.returns-clause-less
returns-clause-less g c = λ more.
    let popped : Scan = record { waiting = c.pop_front.new.self; folder = c.args.scan.now.folder; entries = c.args.scan.now.entries; number = c.args.scan.now.number } in
    let listed = c.list_folder.new.scan in
    listing_less g.T.Tree.observes c.in-Some.folder c.args.scan.now popped listed c.args.rows.now.items c.list_folder.new.rows.items c.args.tree.now c.list_folder.new.tree c.requires c.in-Some.ensures.items refl
    c.in_ok-list_folder.ensures.listed (below_many (length listed.entries.items) (omega (arith, listed.entries.ok.0)))

pub returns-in_default-clause-few : goal.returns-in_default-clause-few
returns-in_default-clause-few g c = record { numbers = omega arith; rows = omega arith }
