-- The bytes that are escaped in a URI.
use Rattle.std.proofs.Common.{◌≡◌, ℕ, suc, ◌/◌, ◌%◌, ◌<◌, Bool, true, false, not, refl, List, [], ◌∷◌, get_or, arith}
use Rattle.std.specs.List.{flat_map}
use Rattle.std.proofs.lemmas.Bool.{agree_below, agree_below_at}
use Rattle.percent_encoding.specs.AsciiSet.{should_percent_encode}
use Rattle.percent_encoding.specs.Percent.{encode_byte, percent_encode_byte, percent_encode}
use Rattle.droid_export.specs.declared.node_uri.TheConstants.{ESCAPED}
use Rattle.droid_export.specs.Uris.{stands_for_itself, escaped_byte, hex_digit}

-- every byte, one after the other
escaped_set : agree_below (should_percent_encode ESCAPED) (λ b. not (stands_for_itself b)) 256 ≡ true
unfolding should_percent_encode
escaped_set = refl

escape : (b : ℕ) → b < 256 → percent_encode_byte b ≡ 37 ∷ hex_digit (b / 16) ∷ hex_digit (b % 16) ∷ []
unfolding percent_encode_byte
escape b small =
    let high : b / 16 % 16 ≡ b / 16 = omega arith in
    rw high refl

by_test : (b : ℕ) (t : Bool) → b < 256 → should_percent_encode ESCAPED b ≡ not t → stands_for_itself b ≡ t → encode_byte ESCAPED b ≡ escaped_byte b
by_test b true small kept is = rw (kept, is) refl
by_test b false small kept is = rw (kept, is) (escape b small)

pub escaped : (b : ℕ) → b < 256 → encode_byte ESCAPED b ≡ escaped_byte b
escaped b small = by_test b (stands_for_itself b) small (agree_below_at (should_percent_encode ESCAPED) (λ x. not (stands_for_itself x)) 256 b escaped_set small) refl

-- each byte of a path
pub escaped_path : (path : List ℕ) → ((i : ℕ) → get_or path i 0 < 256) → percent_encode ESCAPED path ≡ flat_map escaped_byte path
unfolding percent_encode
escaped_path [] small = refl
escaped_path (b ∷ rest) small = rw (escaped b (small 0), escaped_path rest (λ i. small (suc i))) refl
