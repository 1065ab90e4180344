use Rattle.std.proofs.Common.{◌≡◌, ℕ, List, ◌++◌, take, map, sym, ap, ◌∙◌, arith}
use Rattle.std.specs.List.{flat_map}
use Rattle.std.proofs.lemmas.List.{append-nil, take_all}
use Rattle.std.proofs.lemmas.List.Folds.{flat_map-map}
use Rattle.droid_export.specs.Rows.{Row, row, shown}
use Rattle.droid_export.specs.Text.{row_text}
use Rattle.droid_export.proofs.TextConcatenation.{grown}
use Rattle.droid_export.proofs.ListPlaces.{some_is_there}
use Rattle.droid_export.proofs.rows.add_format_rows.Goals as goal
use Rattle.droid_export.proofs.rows.add_format_rows.Goals.{in-Some+in_ok-add_row, in_default}

pub loop-place-init : goal.loop-place-init
loop-place-init c = sym (append-nil _)

pub loop-place-preserved : goal.loop-place-preserved
loop-place-preserved c = elim c.match-get.branch [
  | in-Some+in_ok-add_row w ↦
      let row_of : List ℕ → List ℕ = λ puid. row_text (row c.args.node.now (shown c.args.registry.now puid)) in
      let written = rw (w.format_of.ensures, w.as_str-puid.ensures.value) at w.in_ok-add_row.ensures in
      rw w.text-is (written ∙ (ap (λ (l : List ℕ). l ++ row_of w.in-Some.puid.now) c.loop-place.invariant
      ∙ grown row_of c.args.text.now.items c.args.node.now.puids c.loop-place.place w.in-Some.puid.now (sym w.in-Some.ensures)))
  | in_default w ↦ some_is_there c.args.node.now.puids c.loop-place.place (sym w.in_default.ensures) (omega arith)
]

pub returns : goal.returns
returns c =
    let row_of : List ℕ → Row = λ puid. row c.args.node.now (shown c.args.registry.now puid) in
    let same : flat_map (λ (puid : List ℕ). row_text (row_of puid)) (take c.loop-place.place c.args.node.now.puids) ≡ flat_map row_text (map row_of c.args.node.now.puids) =
    ap (λ (puids : List (List ℕ)). flat_map (λ (puid : List ℕ). row_text (row_of puid)) puids) (take_all c.loop-place.place c.args.node.now.puids (omega arith))
    ∙ sym (flat_map-map row_text row_of c.args.node.now.puids) in
    c.loop-place.invariant ∙ ap (λ (t : List ℕ). c.args.text.now.items ++ t) same
