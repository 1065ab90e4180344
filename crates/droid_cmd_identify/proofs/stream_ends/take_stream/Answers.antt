use Rattle.std.proofs.Common.{◌++◌, ◌<◌, ℕ, [], length, take, refl, sym, ap, subst, ◌∙◌, append-nil, append_assoc, arith, rules}
use Rattle.std.proofs.lemmas.List.{length-append, length-take}
use Rattle.std.specs.Io.KnownBytes.{Consumes}
use Rattle.droid_frame.specs.RunningHashes.{HoldsAll}
use Rattle.droid_cmd_identify.proofs.StreamLemmas.{came_more, came_none, consumed_all, kept_first}
use Rattle.droid_cmd_identify.proofs.stream_ends.take_stream.Goals as goal

pub loop-count-init : goal.loop-count-init
loop-count-init g c = record {
  seen = [];
  came = came_none (g.R.Read.remaining c.args.reader.now);
  counted = refl;
  keeps = kept_first c.args.limit c.args.ends.now.first.items c.args.ends.now.rest.items c.requires.first c.requires.rest;
  holds = λ before h. subst (HoldsAll c.args.running.now) (sym (append-nil before)) h;
  kind = refl;
}

pub loop-count-preserved : goal.loop-count-preserved
loop-count-preserved g c =
    let inv = c.loop-count.invariant in
    let count = c.in_ok-count.count in
    let bytes = take count c.read_some.new.buffer in
    record {
      seen = inv.seen ++ bytes;
      came = came_more (g.R.Read.remaining c.args.reader.now) (g.R.Read.remaining c.loop-count.reader) (g.R.Read.remaining c.read_some.new.reader) inv.seen bytes inv.came c.in_ok-count.ensures.bytes.0;
      counted = omega (arith, length-append inv.seen bytes, inv.counted, c.in_ok-size.ensures, length-take count c.read_some.new.buffer, c.in_ok-count.ensures.bound.0);
      keeps = c.in_ok-add_part.ensures inv.seen inv.keeps;
      holds = λ before h. subst (HoldsAll c.update.new.self) (append_assoc before inv.seen bytes) (c.update.ensures.holds (before ++ inv.seen) (inv.holds before h));
      kind = c.update.ensures.kind ∙ inv.kind;
    }

pub returns-then-count-eq0-clause-taken : goal.returns-then-count-eq0-clause-taken
returns-then-count-eq0-clause-taken g c =
    let inv = c.loop-count.invariant in
    let old = g.R.Read.remaining c.args.reader.now in
    let new = g.R.Read.remaining c.read_some.new.reader in
    let buffer = c.read_some.new.buffer in
    let came : Consumes old new (inv.seen ++ take c.in_ok-count.count buffer) = came_more old (g.R.Read.remaining c.loop-count.reader) new inv.seen (take c.in_ok-count.count buffer) inv.came c.in_ok-count.ensures.bytes.0 in
    let all : Consumes old new inv.seen =
    subst (Consumes old new) (ap (λ (n : ℕ). inv.seen ++ take n buffer) c.if-count-eq0.true ∙ append-nil inv.seen) came in
    let room : 0 < length buffer = search rules in
    record {
      seen = inv.seen;
      whole = consumed_all old new inv.seen all (c.in_ok-count.ensures.bytes.1 c.if-count-eq0.true room);
      counted = inv.counted;
      keeps = inv.keeps;
      holds = inv.holds;
    }
