-- From the offsets on, over one element after another.
use Rattle.std.proofs.Common.{◌≡◌, ◌↔◌, ◌+◌, ◌≤◌, ℕ, [], ◌∷◌, min, get_or, length, drop, sym, arith}
use Rattle.std.specs.List.{flat_map}
use Rattle.std.proofs.lemmas.List.{drop_more, drop_all}
use Rattle.std.proofs.lemmas.Bool.{false≢true}
use Rattle.droid_pattern.specs.Patterns.{BeginsWithin}
use Rattle.droid_pattern.specs.declared.cell.Cell.TheVariants as cell
use Rattle.droid_pattern.specs.Cells.{elements_at}
use Rattle.droid_pattern.specs.Positions.{IsAt}
use Rattle.droid_pattern.specs.declared.direction.Direction.TheVariants as direction
use Rattle.droid_pattern.proofs.PathLemmas.{begins_first, begins_last, at_none, at_some}
use Rattle.droid_pattern.proofs.StarLemmas.{begins_cell}
use Rattle.droid_pattern.proofs.pattern.Pattern.begins_by_sets.Goals as goal

pub loop-cell-init : goal.loop-cell-init
loop-cell-init c =
    let bytes = c.args.bytes.now in
    let bits = c.set_range.new.self in
    let least = c.min.ensures in
    let says : (p : ℕ) → IsAt direction.End bytes bits p ↔ ((c.args.low ≤ p) × (p ≤ min c.args.high (length bytes))) = λ p. (
      λ h. let w = (c.in_ok-set_range.ensures p).0 h.1 in (w.0, omega (arith, w.1)),
      λ h. let near = h.1 in (omega arith, (c.in_ok-set_range.ensures p).1 (h.0, omega arith)),
    ) in
    record {
      inside = λ p h. let w = ((c.in_ok-set_range.ensures p).0 h).1 in omega arith;
      sets = c.requires;
      so_far = begins_first c.args.self.now (flat_map (elements_at c.as_slice-pool.result.now) c.deref-cell-items.result.now) bytes c.args.low c.args.high (IsAt direction.End bytes bits)
          (rw (c.as_slice-pool.ensures.value, c.deref-cell-items.ensures.value) (sym c.self.view_is)) says;
    }

pub returns-then-is_empty-clause-found : goal.returns-then-is_empty-clause-found
returns-then-is_empty-clause-found c = (
  λ h. absurd (false≢true h),
  λ (b : BeginsWithin c.args.self.now c.args.bytes.now c.args.low c.args.high).
      let (p, position, more) = c.loop-cell.invariant.so_far.0 b in
      absurd (at_none direction.End c.args.bytes.now c.loop-cell.classes.places (c.is_empty.ensures.none c.if-is_empty.true) p position),
)

pub loop-cell-preserved : goal.loop-cell-preserved
loop-cell-preserved c =
    let bytes = c.args.bytes.now in
    let cells = c.deref-cell-items.result.now in
    let pool = c.as_slice-pool.result.now in
    let i = c.loop-cell.cell-index in
    let here = get_or cells i (cell.Byte 0) in
    let more : drop i cells ≡ here ∷ drop (i + 1) cells = drop_more cells i (cell.Byte 0) (omega arith) in
    record {
      inside = c.in_ok-step.ensures.inside;
      sets = (c.step.ensures.sets, c.loop-cell.invariant.sets.1);
      so_far = begins_cell pool (drop i cells) here (drop (i + 1) cells) bytes (IsAt direction.End bytes c.loop-cell.classes.places) (IsAt direction.End bytes c.step.new.bits)
          more c.loop-cell.invariant.so_far c.in_ok-step.ensures.reaches;
    }

pub returns-clause-found : goal.returns-clause-found
returns-clause-found c =
    let bytes = c.args.bytes.now in
    let cells = c.deref-cell-items.result.now in
    let pool = c.as_slice-pool.result.now in
    let bits = c.loop-cell.classes.places in
    let none : drop c.loop-cell.cell-index cells ≡ [] = drop_all c.loop-cell.cell-index cells (omega arith) in
    begins_last bytes (IsAt direction.End bytes bits) c.is_empty-2.result
    (λ e. at_none direction.End bytes bits (c.is_empty-2.ensures.none e))
    (λ e. at_some direction.End bytes bits c.loop-cell.invariant.inside (c.is_empty-2.ensures.some e))
    (rw none at c.loop-cell.invariant.so_far)
