use Rattle.std.proofs.Common.{◌≡◌, ◌∙◌, [], length, sym}
use Rattle.std.proofs.lemmas.Bool.{eqb-true}
use Rattle.std.proofs.lemmas.List.{nil_from_length}
use Rattle.std.proofs.lemmas.Result.{IfOk-weaker}
use Rattle.droid_pronom.specs.Found.{IsNamed}
use Rattle.droid_pronom.specs.FoundWindows.{Stands}
use Rattle.droid_pronom.proofs.FoundSteps.{chosen_same, report_named, unnamed}
use Rattle.droid_pronom.proofs.windows.named_puids.Goals as goal

pub named_formats-requires : goal.named_formats-requires
named_formats-requires c = rw (c.signed.ensures.len, c.extensions.ensures.value) c.extensions.ensures.placed

pub returns-then-is_empty : goal.returns-then-is_empty
returns-then-is_empty c = λ extension same.
    let empty : c.args.wanted.now ≡ [] = nil_from_length c.args.wanted.now (eqb-true (length c.args.wanted.now) 0 (sym c.is_empty.ensures ∙ c.if-is_empty.true)) in
    rw c.new.ensures (unnamed c.args.registry.now extension c.args.wanted.now c.args.match_all same empty)

pub returns : goal.returns
returns c = λ extension same.
    let names = report_named c.args.registry.now extension c.args.wanted.now c.signed.result.now c.in_ok-named.named.items c.args.match_all same c.signed.ensures.each
    (rw c.extensions.ensures.value at c.in_ok-named.ensures.each) in
    let are = rw (c.as_slice.ensures.value, c.formats.ensures) at c.puids_of.ensures in
    IfOk-weaker c.puids_of.result _ _
    (λ puids chosen. chosen_same (Stands c.in_ok-named.named.items) (IsNamed c.args.registry.now extension c.args.match_all) 0 c.args.registry.now.formats puids names chosen) are
