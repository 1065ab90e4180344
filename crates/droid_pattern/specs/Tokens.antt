-- The elements that the tokens of a pattern stand for.
use Rattle.std.specs.Prelude.{ℕ, ◌+◌, Bool, not, ◌&&◌, ◌==◌, nat_le, map}
use Rattle.droid_pattern.specs.declared.class.Class.{Class}
use Rattle.droid_pattern.specs.declared.class.Class.TheVariants as classes
use Rattle.droid_pattern.specs.declared.token.Token.{Token}
use Rattle.droid_pattern.specs.declared.token.Token.TheVariants as tokens
use Rattle.droid_pattern.specs.Patterns.{Element, Byte, AnyByte, Gap, OpenGap, Range, Except, Choice}

-- whether a byte is in the class
abbrev pub accepts : Class → ℕ → Bool
accepts (classes.Byte b) x = x == b
accepts (classes.Range low high) x = nat_le low x && nat_le x high
accepts (classes.Except b) x = not (x == b)

-- the element that accepts one byte of the class
abbrev pub element_of_class : Class → Element
element_of_class (classes.Byte b) = Byte b
element_of_class (classes.Range low high) = Range low high
element_of_class (classes.Except b) = Except b

-- the element that a token stands for
abbrev pub element_of : Token → Element
element_of (tokens.One class) = element_of_class class
element_of tokens.AnyByte = AnyByte
element_of (tokens.Gap least more) = Gap least (least + more)
element_of (tokens.OpenGap least) = OpenGap least
element_of (tokens.Choice alternatives) = Choice (map (λ v. v.items) alternatives.items)
