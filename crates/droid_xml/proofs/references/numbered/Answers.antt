use Rattle.std.proofs.Common.{◌+◌, ◌*◌, ℕ, min, drop, sym, ap, ◌∙◌, arith}
use Rattle.std.proofs.lemmas.List.{drop_all}
use Rattle.droid_xml.specs.Bytes.{◌>>=◌}
use Rattle.droid_xml.specs.References.{more_digits, char_of}
use Rattle.droid_xml.proofs.Digits.{digit_more, digit_wrong, digits_end, no_digits, some_digits}
use Rattle.droid_xml.proofs.references.numbered.Goals as goal

pub returns-then-is_empty : goal.returns-then-is_empty
returns-then-is_empty c = sym (no_digits c.args.base c.args.digits.now (sym c.is_empty.ensures ∙ c.if-is_empty.true))

pub returns-in-None : goal.returns-in-None
returns-in-None c =
    digit_wrong c.args.base c.loop-byte.value c.args.digits.now c.loop-byte.byte-index _ (omega arith) c.in-None.ensures c.loop-byte.invariant.same
    ∙ sym (some_digits c.args.base c.args.digits.now (sym c.is_empty.ensures ∙ c.if-is_empty.false))

pub loop-byte-preserved : goal.loop-byte-preserved
loop-byte-preserved c = record {
  low = omega arith;
  high = omega arith;
  small = omega (arith, c.min-value.ensures);
  same =
      ap (λ (v : ℕ). more_digits c.args.base v (drop (c.loop-byte.byte-index + 1) c.args.digits.now) >>= char_of) (c.min-value.ensures ∙ ap (λ (d : ℕ). min (c.loop-byte.value * c.args.base + d) 0x11_0000) c.in-Some.ensures.1)
      ∙ digit_more c.args.base c.loop-byte.value c.args.digits.now c.loop-byte.byte-index _ (omega arith) (omega arith) c.in-Some.ensures.0 c.loop-byte.invariant.same;
}

pub returns : goal.returns
returns c =
    c.char_of.ensures
    ∙ (digits_end c.args.base c.loop-byte.value c.args.digits.now c.loop-byte.byte-index _ (drop_all c.loop-byte.byte-index c.args.digits.now (omega arith)) c.loop-byte.invariant.same
    ∙ sym (some_digits c.args.base c.args.digits.now (sym c.is_empty.ensures ∙ c.if-is_empty.false)))
