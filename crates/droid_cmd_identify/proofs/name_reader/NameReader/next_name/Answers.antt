use Rattle.std.proofs.Common.{◌≡◌, ◌==◌, ◌++◌, ◌∙◌, ℕ, Bool, not, length, ap, subst}
use Rattle.std.specs.Io.KnownBytes.{prepend_known}
use Rattle.droid_cmd_identify.specs.NameLists.{MovesAll, MovesToEnd}
use Rattle.droid_cmd_identify.proofs.NameLemmas.{gives_ended, gives_last, moved_on, plain-append}
use Rattle.droid_cmd_identify.proofs.name_reader.NameReader.next_name.Goals as goal

pub returns-then-branch-clause-name : goal.returns-then-branch-clause-name
returns-then-branch-clause-name g c =
    let inv = c.loop.invariant in
    let end = c.args.self.now.end in
    let known = prepend_known c.args.self.now.bytes (g.L.Read.remaining c.args.reader.now) in
    let moves : MovesToEnd c.loop.self.end c.loop.self.bytes c.move_name.new.self.bytes c.loop.name.items c.move_name.new.name.items = rw c.if-branch.true at c.in_ok-move_name.ensures.moved in
    gives_ended end known (g.L.Read.remaining c.loop.reader) inv.front c.loop.self.bytes c.move_name.new.self.bytes c.loop.name.items c.move_name.new.name.items inv.plain inv.came inv.kept
    (subst (λ (e : ℕ). MovesToEnd e c.loop.self.bytes c.move_name.new.self.bytes c.loop.name.items c.move_name.new.name.items) inv.same moves)

pub returns-then-not-branch-clause-name : goal.returns-then-not-branch-clause-name
returns-then-not-branch-clause-name g c =
    let inv = c.loop.invariant in
    let end = c.args.self.now.end in
    let known = prepend_known c.args.self.now.bytes (g.L.Read.remaining c.args.reader.now) in
    let rem = g.L.Read.remaining c.refill.new.reader in
    let mid = c.loop.self.bytes in
    let after = c.move_name.new.name.items in
    let moves : MovesAll c.loop.self.end mid c.move_name.new.self.bytes c.loop.name.items after = rw c.if-branch.false at c.in_ok-move_name.ensures.moved in
    let mine = subst (λ (e : ℕ). MovesAll e mid c.move_name.new.self.bytes c.loop.name.items after) inv.same moves in
    let at = rw c.if-not-branch.true at c.in_ok-refill.ensures.some in
    let came = moved_on end known (g.L.Read.remaining c.loop.reader) rem inv.front mid c.refill.new.self.bytes inv.came c.in_ok-refill.ensures.bytes in
    let empty : c.is_empty.result ≡ (length after == 0) = c.is_empty.ensures ∙ ap (λ (n : ℕ). n == 0) c.move_name.new.name.ok.0 in
    gives_last end known rem (inv.front ++ mid) c.refill.new.self.bytes after (not c.is_empty.result) (plain-append end inv.front mid inv.plain mine.plain) came at.0 at.1 (mine.kept inv.front inv.kept)
    (ap (λ (b : Bool). not b) empty)

pub loop-preserved : goal.loop-preserved
loop-preserved g c =
    let inv = c.loop.invariant in
    let end = c.args.self.now.end in
    let known = prepend_known c.args.self.now.bytes (g.L.Read.remaining c.args.reader.now) in
    let mid = c.loop.self.bytes in
    let after = c.move_name.new.name.items in
    let moves : MovesAll c.loop.self.end mid c.move_name.new.self.bytes c.loop.name.items after = rw c.if-branch.false at c.in_ok-move_name.ensures.moved in
    let mine = subst (λ (e : ℕ). MovesAll e mid c.move_name.new.self.bytes c.loop.name.items after) inv.same moves in
    record {
      front = inv.front ++ mid;
      came = moved_on end known (g.L.Read.remaining c.loop.reader) (g.L.Read.remaining c.refill.new.reader) inv.front mid c.refill.new.self.bytes inv.came c.in_ok-refill.ensures.bytes;
      plain = plain-append end inv.front mid inv.plain mine.plain;
      kept = mine.kept inv.front inv.kept;
      same = c.refill.ensures.end ∙ (c.move_name.ensures.end ∙ inv.same);
    }
