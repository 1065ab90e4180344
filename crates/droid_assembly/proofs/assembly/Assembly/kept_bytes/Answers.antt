use Rattle.std.proofs.Common.{◌≡◌, ◌+◌, ◌*◌, ◌∙◌, length, min, arith, ap, sym}
use Rattle.droid_assembly.specs.Pieces.{bytes_held, file_bytes, missing, past}
use Rattle.droid_assembly.specs.Fields.{state_of}
use Rattle.droid_assembly.specs.State.{StandsFor, count_of}
use Rattle.droid_assembly.proofs.Past.{settled_split}
use Rattle.droid_assembly.proofs.Whole.{settled_is, waiting_le, pending_le, length-before}
use Rattle.droid_assembly.proofs.assembly.Assembly.kept_bytes.Goals as goal
use Rattle.droid_assembly.proofs.assembly.Assembly.kept_bytes.Goals.{After-min-windows, After-pending_bytes}

-- how many bytes were passed
passed_is : (c : After-min-windows) → c.min-passed.result ≡ min c.self.inside.size (c.self.inside.missing * c.self.inside.piece_size)
passed_is c =
    let size = c.self.inside.size in
    c.min-passed.ensures
    ∙ ap (λ n. min size (n * c.from-2.result)) c.from.ensures
    ∙ ap (λ n. min size (c.self.inside.missing * n)) c.from-2.ensures

passed_was : (c : After-pending_bytes) → c.min-passed.result ≡ min c.self.inside.size (c.self.inside.missing * c.self.inside.piece_size)
passed_was c =
    let size = c.self.inside.size in
    c.min-passed.ensures
    ∙ ap (λ n. min size (n * c.from-2.result)) c.from.ensures
    ∙ ap (λ n. min size (c.self.inside.missing * n)) c.from-2.ensures

pub overflow_sub-result : goal.overflow_sub-result
overflow_sub-result c =
    let fields = c.self.inside in
    omega (arith, passed_is c, settled_is (state_of fields) fields.front c.self.invariant)

pub overflow_add-result : goal.overflow_add-result
overflow_add-result c =
    let fields = c.self.inside in
    let sound = c.self.invariant in
    omega (arith, passed_is c, settled_is (state_of fields) fields.front sound, waiting_le (state_of fields) fields.front sound, sound.sizes.size_fits, sound.sizes.piece_size_fits)

pub overflow_add-result-2 : goal.overflow_add-result-2
overflow_add-result-2 c =
    let fields = c.self.inside in
    let sound = c.self.invariant in
    let pending = rw (← c.self.view_is) at c.pending_bytes.ensures in
    omega (arith, passed_was c, settled_is (state_of fields) fields.front sound, pending_le (state_of fields) fields.front fields.pending sound sound.pending, pending, sound.sizes.size_fits, sound.sizes.piece_size_fits)

pub returns-clause-kept : goal.returns-clause-kept
returns-clause-kept c pieces stands =
    let fields = c.self.inside in
    let a = state_of fields in
    let before : StandsFor a pieces = rw c.self.view_is stands in
    let pending = rw (← c.self.view_is) at c.pending_bytes.ensures in
    let passed : length (file_bytes (missing (count_of a) pieces) pieces) ≡ min a.size (a.first_missing * a.piece_size) =
    ap (λ n. length (file_bytes n pieces)) (sym before.least) ∙ length-before a fields.front pieces before in
    let first = missing (count_of a) pieces in
    let split : bytes_held pieces ≡ length (file_bytes first pieces) + bytes_held (past first pieces) =
    settled_split a.size a.piece_size pieces before.are_due before.are_distinct in
    rw (← c.self.view_is) (omega (arith, passed, passed_was c, pending, before.weighed, split, c.min-windows.ensures, c.from-3.ensures))

pub returns-clause-bound : goal.returns-clause-bound
returns-clause-bound c =
    let fields = c.self.inside in
    let sound = c.self.invariant in
    let pending = rw (← c.self.view_is) at c.pending_bytes.ensures in
    rw (← c.self.view_is)
    (omega (arith, passed_was c, settled_is (state_of fields) fields.front sound, pending_le (state_of fields) fields.front fields.pending sound sound.pending, pending, c.min-windows.ensures, c.from-3.ensures))

pub returns-clause-most : goal.returns-clause-most
returns-clause-most c =
    let fields = c.self.inside in
    let sound = c.self.invariant in
    let pending = rw (← c.self.view_is) at c.pending_bytes.ensures in
    omega (
      arith,
      passed_was c,
      settled_is (state_of fields) fields.front sound,
      pending_le (state_of fields) fields.front fields.pending sound sound.pending,
      pending,
      c.min-windows.ensures,
      c.from-3.ensures,
      sound.sizes.scan_limit_fits,
      sound.sizes.piece_size_fits,
    )

pub returns-clause-most_of_small : goal.returns-clause-most_of_small
returns-clause-most_of_small c =
    let fields = c.self.inside in
    let sound = c.self.invariant in
    let pending = rw (← c.self.view_is) at c.pending_bytes.ensures in
    rw (← c.self.view_is)
    (λ small. omega (
      arith,
      passed_was c,
      settled_is (state_of fields) fields.front sound,
      pending_le (state_of fields) fields.front fields.pending sound sound.pending,
      pending,
      c.min-windows.ensures,
      c.from-3.ensures,
      sound.sizes.scan_limit_fits,
      small,
    ))
