use Rattle.std.proofs.Common.{◌≡◌, ◌-◌, ◌++◌, ℕ, List, length, min, take, ap, arith, refl, subst, sym, ◌∙◌}
use Rattle.std.proofs.lemmas.List.{length-drop}
use Rattle.std.specs.declared.alloc.Global.{Global}
use Rattle.std.specs.declared.vec.Vec.{Vec}
use Rattle.droid_turns.specs.declared.feeding.parts.Parts.{Parts}
use Rattle.droid_turns.proofs.Fronts.{good_is, good_small}
use Rattle.droid_turns.proofs.Taking.{Framed, Grown, IsWhole, Restored, body_between, body_brings, body_waits, body_within, grown_size, header_between, header_fails, memory_between, memory_fails, none_between, passed_on, rest_is, short_between, short_waits}
use Rattle.droid_turns.proofs.feeding.parts.Parts.take.Goals as goal

pub fill_header-head-requires : goal.fill_header-head-requires
fill_header-head-requires c = c.requires.within

pub returns-then-self-lt-HEADER_LENGTH-clause-between : goal.returns-then-self-lt-HEADER_LENGTH-clause-between
returns-then-self-lt-HEADER_LENGTH-clause-between c =
    let head = c.fill_header-head in
    short_between c.args.self.now head.new.self c.args.piece.now head.result c.requires
    (record { count = head.ensures.count; filled = head.ensures.filled; bytes = head.ensures.bytes; front = head.ensures.front; body = head.ensures.body }) c.if-self-lt-HEADER_LENGTH.true

pub returns-then-self-lt-HEADER_LENGTH-clause-feeds : goal.returns-then-self-lt-HEADER_LENGTH-clause-feeds
returns-then-self-lt-HEADER_LENGTH-clause-feeds c =
    let head = c.fill_header-head in (
      omega (arith, head.ensures.count),
      short_waits c.args.self.now head.new.self c.args.piece.now head.result c.requires
          (record { count = head.ensures.count; filled = head.ensures.filled; bytes = head.ensures.bytes; front = head.ensures.front; body = head.ensures.body }) c.if-self-lt-HEADER_LENGTH.true,
    )

pub returns-in_err-whole-clause-between : goal.returns-in_err-whole-clause-between
returns-in_err-whole-clause-between c =
    let head = c.fill_header-head in
    let spelled = c.from_bytes-header.ensures.spelled in
    let whole : IsWhole c.args.self.now head.new.self c.args.piece.now c.from_bytes-header.result head.result = record {
      is = c.requires;
      made = record { count = head.ensures.count; filled = head.ensures.filled; bytes = head.ensures.bytes; front = head.ensures.front; body = head.ensures.body };
      full = omega (arith, head.ensures.count, head.ensures.filled, c.requires.within, c.if-self-lt-HEADER_LENGTH.false);
      sized = ap length (sym spelled);
      sized_before = omega arith;
      spelled = spelled;
      is_header = c.from_bytes-header.ensures.fits;
    } in
    header_between c.args.self.now head.new.self c.args.piece.now c.from_bytes-header.result head.result c.in_err-whole.field-0.0 whole (sym c.in_err-whole.ensures.judged)

pub returns-in_err-whole-clause-feeds : goal.returns-in_err-whole-clause-feeds
returns-in_err-whole-clause-feeds c =
    let head = c.fill_header-head in
    let spelled = c.from_bytes-header.ensures.spelled in
    let whole : IsWhole c.args.self.now head.new.self c.args.piece.now c.from_bytes-header.result head.result = record {
      is = c.requires;
      made = record { count = head.ensures.count; filled = head.ensures.filled; bytes = head.ensures.bytes; front = head.ensures.front; body = head.ensures.body };
      full = omega (arith, head.ensures.count, head.ensures.filled, c.requires.within, c.if-self-lt-HEADER_LENGTH.false);
      sized = ap length (sym spelled);
      sized_before = omega arith;
      spelled = spelled;
      is_header = c.from_bytes-header.ensures.fits;
    } in
    passed_on _ _ _ c.from_residual.result c.in_err-whole.field-0.0 c.from_residual.ensures.1
    (header_fails c.args.self.now head.new.self c.args.piece.now c.from_bytes-header.result head.result c.in_err-whole.field-0.0 whole (sym c.in_err-whole.ensures.judged))

pub slice_bounds-append-count : goal.slice_bounds-append-count
slice_bounds-append-count c = omega (arith, c.fill_header-head.ensures.count)

pub append-requires-clause-within : goal.append-requires-clause-within
append-requires-clause-within c =
    let head = c.fill_header-head in
    let spelled = c.from_bytes-header.ensures.spelled in
    let whole : IsWhole c.args.self.now head.new.self c.args.piece.now c.from_bytes-header.result head.result = record {
      is = c.requires;
      made = record { count = head.ensures.count; filled = head.ensures.filled; bytes = head.ensures.bytes; front = head.ensures.front; body = head.ensures.body };
      full = omega (arith, head.ensures.count, head.ensures.filled, c.requires.within, c.if-self-lt-HEADER_LENGTH.false);
      sized = ap length (sym spelled);
      sized_before = omega arith;
      spelled = spelled;
      is_header = c.from_bytes-header.ensures.fits;
    } in
    body_within c.args.self.now head.new.self c.args.piece.now c.from_bytes-header.result head.result c.in_ok-whole.whole whole (sym c.in_ok-whole.ensures.judged)

pub append-requires-clause-limit : goal.append-requires-clause-limit
append-requires-clause-limit c =
    good_small c.from_bytes-header.result c.in_ok-whole.whole (good_is c.from_bytes-header.result c.in_ok-whole.whole c.from_bytes-header.ensures.fits (sym c.in_ok-whole.ensures.judged))

pub overflow_add-taken : goal.overflow_add-taken
overflow_add-taken c = omega (arith, c.fill_header-head.ensures.count, c.in-Ok.ensures.count, good_small c.from_bytes-header.result c.in_ok-whole.whole (good_is c.from_bytes-header.result c.in_ok-whole.whole c.from_bytes-header.ensures.fits (sym c.in_ok-whole.ensures.judged)))

pub returns-in_default-clause-between : goal.returns-in_default-clause-between
returns-in_default-clause-between c =
    let head = c.fill_header-head in
    let spelled = c.from_bytes-header.ensures.spelled in
    let whole : IsWhole c.args.self.now head.new.self c.args.piece.now c.from_bytes-header.result head.result = record {
      is = c.requires;
      made = record { count = head.ensures.count; filled = head.ensures.filled; bytes = head.ensures.bytes; front = head.ensures.front; body = head.ensures.body };
      full = omega (arith, head.ensures.count, head.ensures.filled, c.requires.within, c.if-self-lt-HEADER_LENGTH.false);
      sized = ap length (sym spelled);
      sized_before = omega arith;
      spelled = spelled;
      is_header = c.from_bytes-header.ensures.fits;
    } in
    let new : Parts = record { header = head.new.self.header; filled = c.args.self.now.filled; body = c.append.new.body } in
    let back : Restored c.args.self.now head.new.self new = record { filled = refl; header = refl; items = c.in_default.ensures.unchanged; memory = c.in_default.ensures.memory } in
    memory_between c.args.self.now head.new.self new c.args.piece.now c.from_bytes-header.result head.result whole back

pub returns-in_default-clause-feeds : goal.returns-in_default-clause-feeds
returns-in_default-clause-feeds c =
    let head = c.fill_header-head in
    let spelled = c.from_bytes-header.ensures.spelled in
    let whole : IsWhole c.args.self.now head.new.self c.args.piece.now c.from_bytes-header.result head.result = record {
      is = c.requires;
      made = record { count = head.ensures.count; filled = head.ensures.filled; bytes = head.ensures.bytes; front = head.ensures.front; body = head.ensures.body };
      full = omega (arith, head.ensures.count, head.ensures.filled, c.requires.within, c.if-self-lt-HEADER_LENGTH.false);
      sized = ap length (sym spelled);
      sized_before = omega arith;
      spelled = spelled;
      is_header = c.from_bytes-header.ensures.fits;
    } in
    let new : Parts = record { header = head.new.self.header; filled = c.args.self.now.filled; body = c.append.new.body } in
    let back : Restored c.args.self.now head.new.self new = record { filled = refl; header = refl; items = c.in_default.ensures.unchanged; memory = c.in_default.ensures.memory } in
    memory_fails c.args.self.now head.new.self new c.args.piece.now c.from_bytes-header.result head.result c.in_ok-whole.whole whole (sym c.in_ok-whole.ensures.judged) c.in_default.ensures.some back

pub returns-then-len-whole-clause-between : goal.returns-then-len-whole-clause-between
returns-then-len-whole-clause-between c =
    let head = c.fill_header-head in
    let spelled = c.from_bytes-header.ensures.spelled in
    let whole : IsWhole c.args.self.now head.new.self c.args.piece.now c.from_bytes-header.result head.result = record {
      is = c.requires;
      made = record { count = head.ensures.count; filled = head.ensures.filled; bytes = head.ensures.bytes; front = head.ensures.front; body = head.ensures.body };
      full = omega (arith, head.ensures.count, head.ensures.filled, c.requires.within, c.if-self-lt-HEADER_LENGTH.false);
      sized = ap length (sym spelled);
      sized_before = omega arith;
      spelled = spelled;
      is_header = c.from_bytes-header.ensures.fits;
    } in
    let new : Parts = record { header = head.new.self.header; filled = head.new.self.filled; body = c.append.new.body } in
    let grown : Grown head.new.self new c.args.piece.now head.result c.in-Ok.count c.in_ok-whole.whole = record {
      within = omega (arith, head.ensures.count);
      counted = subst (λ (l : List ℕ). c.in-Ok.count ≡ min (c.in_ok-whole.whole - length head.new.self.body.items) (length l)) (rest_is head.result c.args.piece.now) c.in-Ok.ensures.count;
      filled = refl;
      header = refl;
      items = subst (λ (l : List ℕ). c.append.new.body.items ≡ head.new.self.body.items ++ take c.in-Ok.count l) (rest_is head.result c.args.piece.now) c.in-Ok.ensures.items;
      memory = c.in-Ok.ensures.memory;
    } in
    body_between c.args.self.now head.new.self new c.args.piece.now c.from_bytes-header.result head.result c.in-Ok.count c.in_ok-whole.whole whole (sym c.in_ok-whole.ensures.judged) grown (omega (arith, c.if-len-whole.true, c.len.ensures))

pub returns-then-len-whole-clause-feeds : goal.returns-then-len-whole-clause-feeds
returns-then-len-whole-clause-feeds c =
    let head = c.fill_header-head in
    let spelled = c.from_bytes-header.ensures.spelled in
    let whole : IsWhole c.args.self.now head.new.self c.args.piece.now c.from_bytes-header.result head.result = record {
      is = c.requires;
      made = record { count = head.ensures.count; filled = head.ensures.filled; bytes = head.ensures.bytes; front = head.ensures.front; body = head.ensures.body };
      full = omega (arith, head.ensures.count, head.ensures.filled, c.requires.within, c.if-self-lt-HEADER_LENGTH.false);
      sized = ap length (sym spelled);
      sized_before = omega arith;
      spelled = spelled;
      is_header = c.from_bytes-header.ensures.fits;
    } in
    let new : Parts = record { header = head.new.self.header; filled = head.new.self.filled; body = c.append.new.body } in
    let grown : Grown head.new.self new c.args.piece.now head.result c.in-Ok.count c.in_ok-whole.whole = record {
      within = omega (arith, head.ensures.count);
      counted = subst (λ (l : List ℕ). c.in-Ok.count ≡ min (c.in_ok-whole.whole - length head.new.self.body.items) (length l)) (rest_is head.result c.args.piece.now) c.in-Ok.ensures.count;
      filled = refl;
      header = refl;
      items = subst (λ (l : List ℕ). c.append.new.body.items ≡ head.new.self.body.items ++ take c.in-Ok.count l) (rest_is head.result c.args.piece.now) c.in-Ok.ensures.items;
      memory = c.in-Ok.ensures.memory;
    } in
    let waits = body_waits c.args.self.now head.new.self new c.args.piece.now c.from_bytes-header.result head.result c.in-Ok.count c.in_ok-whole.whole whole (sym c.in_ok-whole.ensures.judged) grown (omega (arith, c.if-len-whole.true, c.len.ensures)) in
    (omega (arith, waits.all), waits)

pub returns-clause-between : goal.returns-clause-between
returns-clause-between c =
    let after = c.replace-body.ensures.after in
    none_between _ refl (rw after c.new.ensures.items) (rw after c.new.ensures.capacity)

pub returns-clause-feeds : goal.returns-clause-feeds
returns-clause-feeds c =
    let head = c.fill_header-head in
    let spelled = c.from_bytes-header.ensures.spelled in
    let whole : IsWhole c.args.self.now head.new.self c.args.piece.now c.from_bytes-header.result head.result = record {
      is = c.requires;
      made = record { count = head.ensures.count; filled = head.ensures.filled; bytes = head.ensures.bytes; front = head.ensures.front; body = head.ensures.body };
      full = omega (arith, head.ensures.count, head.ensures.filled, c.requires.within, c.if-self-lt-HEADER_LENGTH.false);
      sized = ap length (sym spelled);
      sized_before = omega arith;
      spelled = spelled;
      is_header = c.from_bytes-header.ensures.fits;
    } in
    let new : Parts = record { header = head.new.self.header; filled = head.new.self.filled; body = c.append.new.body } in
    let grown : Grown head.new.self new c.args.piece.now head.result c.in-Ok.count c.in_ok-whole.whole = record {
      within = omega (arith, head.ensures.count);
      counted = subst (λ (l : List ℕ). c.in-Ok.count ≡ min (c.in_ok-whole.whole - length head.new.self.body.items) (length l)) (rest_is head.result c.args.piece.now) c.in-Ok.ensures.count;
      filled = refl;
      header = refl;
      items = subst (λ (l : List ℕ). c.append.new.body.items ≡ head.new.self.body.items ++ take c.in-Ok.count l) (rest_is head.result c.args.piece.now) c.in-Ok.ensures.items;
      memory = c.in-Ok.ensures.memory;
    } in
    let size = grown_size head.new.self new c.args.piece.now head.result c.in-Ok.count c.in_ok-whole.whole grown in
    let within = body_within c.args.self.now head.new.self c.args.piece.now c.from_bytes-header.result head.result c.in_ok-whole.whole whole (sym c.in_ok-whole.ensures.judged) in
    let framed : Framed c.from_bytes-header.result c.frame.result new.body.items = record {
      version = c.frame.ensures.version;
      kind = c.frame.ensures.kind;
      client = c.frame.ensures.client;
      number = c.frame.ensures.number;
      body = c.frame.ensures.body ∙ ap (λ (v : Vec ℕ Global). v.items) c.replace-body.ensures.value;
    } in (
      omega (arith, head.ensures.count, grown.counted, length-drop head.result c.args.piece.now),
      body_brings c.args.self.now head.new.self new c.args.piece.now _ c.from_bytes-header.result c.frame.result head.result c.in-Ok.count c.in_ok-whole.whole whole (sym c.in_ok-whole.ensures.judged) grown
          (omega (arith, size, within, grown.counted, c.if-len-whole.false, c.len.ensures)) framed c.frame.ensures.bytes (ap (λ (v : Vec ℕ Global). v.items) c.replace-body.ensures.after ∙ c.new.ensures.items),
    )
