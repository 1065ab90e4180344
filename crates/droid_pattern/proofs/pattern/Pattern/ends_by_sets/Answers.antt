-- From the offsets before the end, over one element after another, toward the start.
use Rattle.std.proofs.Common.{◌≡◌, ◌↔◌, ◌+◌, ◌-◌, ◌≤◌, ◌++◌, ℕ, [], ◌∷◌, get_or, length, take, sym, arith, length-take}
use Rattle.std.specs.List.{flat_map}
use Rattle.std.proofs.lemmas.List.{get_or_default}
use Rattle.droid_pattern.specs.declared.cell.Cell.TheVariants as cell
use Rattle.droid_pattern.specs.Cells.{elements_at}
use Rattle.droid_pattern.specs.Positions.{IsAt}
use Rattle.droid_pattern.specs.declared.direction.Direction.TheVariants as direction
use Rattle.droid_pattern.proofs.PathLemmas.{ends_first, ends_last, rest_and_last, no_items, at_none, at_some}
use Rattle.droid_pattern.proofs.StarLemmas.{ends_cell}
use Rattle.droid_pattern.proofs.pattern.Pattern.ends_by_sets.Goals as goal

pub loop-rest-init : goal.loop-rest-init
loop-rest-init c =
    let bytes = c.args.bytes.now in
    let bits = c.set_range.new.self in
    let least = c.min.ensures in
    let says : (q : ℕ) → IsAt direction.Start bytes bits q ↔ ((c.args.low + q ≤ length bytes) × (length bytes ≤ c.args.high + q)) = λ q. (
      λ h. let w = (c.in_ok-set_range.ensures (length bytes - q)).0 h.1 in let near = h.0 in let low = w.0 in let high = w.1 in (omega arith, omega arith),
      λ h. let low = h.0 in let high = h.1 in (omega arith, (c.in_ok-set_range.ensures (length bytes - q)).1 (omega arith, omega arith)),
    ) in
    record {
      shrinks = omega arith;
      inside = λ p h. let w = ((c.in_ok-set_range.ensures p).0 h).1 in omega arith;
      sets = c.requires;
      so_far = ends_first c.args.self.now (flat_map (elements_at c.as_slice-pool.result.now) c.as_slice-rest.result.now) bytes c.args.low c.args.high (IsAt direction.Start bytes bits)
          (rw (c.as_slice-pool.ensures.value, c.as_slice-rest.ensures.value) (sym c.self.view_is)) says;
    }

pub loop-rest-preserved : goal.loop-rest-preserved
loop-rest-preserved c =
    let bytes = c.args.bytes.now in
    let rest = c.loop-rest.rest.now in
    let before = take (length rest - 1) rest in
    let here = get_or rest (length rest - 1) (cell.Byte 0) in
    let pool = c.as_slice-pool.result.now in
    let last : rest ≡ before ++ here ∷ [] = rest_and_last rest here (omega arith) (get_or_default rest (length rest - 1) (cell.Byte 0) here (omega arith)) in
    record {
      shrinks = omega (arith, length-take (length rest - 1) rest, c.loop-rest.invariant.shrinks);
      inside = c.in_ok-step.ensures.inside;
      sets = (c.loop-rest.invariant.sets.0, c.step.ensures.sets);
      so_far = ends_cell pool rest before here bytes (IsAt direction.Start bytes c.loop-rest.classes.places) (IsAt direction.Start bytes c.step.new.bits)
          last c.loop-rest.invariant.so_far c.in_ok-step.ensures.reaches;
    }

pub returns-clause-found : goal.returns-clause-found
returns-clause-found c =
    let bytes = c.args.bytes.now in
    let bits = c.loop-rest.classes.places in
    let none = no_items c.loop-rest.rest.now (omega arith) in
    ends_last bytes (IsAt direction.Start bytes bits) c.is_empty-2.result
    (λ e. at_none direction.Start bytes bits (c.is_empty-2.ensures.none e))
    (λ e. at_some direction.Start bytes bits c.loop-rest.invariant.inside (c.is_empty-2.ensures.some e))
    (λ q h. h.0)
    (rw none at c.loop-rest.invariant.so_far)
