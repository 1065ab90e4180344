-- One more byte, and all of them.
use Rattle.std.proofs.Common.{◌≡◌, ◌+◌, ℕ, true, sym, ◌∙◌, arith}
use Rattle.std.proofs.lemmas.Bool.{false≢true}
use Rattle.droid_pattern.specs.Tokens.{accepts}
use Rattle.droid_pattern.specs.Positions.{byte_behind}
use Rattle.droid_pattern.proofs.ClassLemmas.{bits_set, bits_unset}
use Rattle.droid_pattern.proofs.class_set.word_by_byte.Goals as goal
use Rattle.droid_pattern.proofs.class_set.word_by_byte.Goals.{then-accepts, else-accepts}

pub loop-i-preserved : goal.loop-i-preserved
loop-i-preserved c =
    let T = λ (i : ℕ). accepts c.args.class (byte_behind c.args.direction c.args.bytes.now (c.args.start + i)) ≡ true in
    elim c.if-accepts.branch [
      | then-accepts w ↦ rw w.word-is (bits_set T c.loop-i.i c.loop-i.word (omega (arith, c.min-i-end.ensures)) (rw (← c.byte_behind.ensures, ← c.accepts.ensures) w.if-accepts.true) c.loop-i.invariant)
      | else-accepts w ↦ rw w.word-is (bits_unset T c.loop-i.i c.loop-i.word (rw (← c.byte_behind.ensures, ← c.accepts.ensures) (λ h. false≢true (sym w.if-accepts.false ∙ h))) c.loop-i.invariant)
    ]
