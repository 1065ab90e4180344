-- PUIDs are words of ASCII.
use Rattle.std.proofs.Common.{◌≡◌, ◌≢◌, inl, inr, ℕ, ◌<◌, ◌≤◌, ◌==◌, ◌||◌, true, List, [], ◌∷◌, length, IsTrue, arith}
use Rattle.std.proofs.lemmas.Bool.{and_parts, or_cases, leb-true, eqb-true}
use Rattle.std.proofs.lemmas.List.Elements.{All-nil, All-cons}
use Rattle.std.proofs.lemmas.Str.{IsUtf8-from_ascii}
use Rattle.std.proofs.lemmas.Str.Ascii.{IsAscii-nil, IsAscii-cons}
use Rattle.std.specs.Char.{is_ascii_alphanumeric}
use Rattle.std.specs.Int.{is_in_range}
use Rattle.std.specs.List.{All, AllByRecursion, list_all}
use Rattle.std.specs.Prelude.{nat_le}
use Rattle.std.specs.Str.{IsAscii}
use Rattle.droid_frame.specs.Replies.{IsPuidText}
use Rattle.droid_pronom.specs.RegistryFields.{is_puid, is_puid_byte, has_bytes}
use Rattle.droid_core.proofs.Lists.{each_weaker}
use Rattle.droid_store.specs.Changes.{IsWord}

-- ASCII, and no space
abbrev IsPlain : ℕ → Type 0
IsPlain c = (c < 128) × (c ≢ 32)

in_range : (low high c : ℕ) → 32 < low → high < 128 → is_in_range low high c ≡ true → IsPlain c
in_range low high c above below is =
    let parts = and_parts (nat_le low c) (nat_le c high) is in
    let from = leb-true low c parts.0 in
    let to = leb-true c high parts.1 in
    (omega (arith, from, to, below), λ space. omega (arith, from, to, above, space))

plain_byte : (c : ℕ) → is_puid_byte c ≡ true → IsPlain c
plain_byte c is = elim (or_cases (is_ascii_alphanumeric c || (c == 47)) (c == 45) is) [
  | inl early ↦ elim (or_cases (is_ascii_alphanumeric c) (c == 47) early) [
    | inl sign ↦ alphanumeric sign
    | inr slash ↦ (let it = eqb-true c 47 slash in (omega (arith, it), λ space. omega (arith, it, space)))
  ]
  | inr dash ↦ (let it = eqb-true c 45 dash in (omega (arith, it), λ space. omega (arith, it, space)))
]
  where
    alphanumeric : is_ascii_alphanumeric c ≡ true → IsPlain c
    alphanumeric sign = elim (or_cases (is_in_range 48 57 c || is_in_range 65 90 c) (is_in_range 97 122 c) sign) [
      | inl high ↦ elim (or_cases (is_in_range 48 57 c) (is_in_range 65 90 c) high) [
        | inl digit ↦ in_range 48 57 c (omega arith) (omega arith) digit
        | inr capital ↦ in_range 65 90 c (omega arith) (omega arith) capital
      ]
      | inr small ↦ in_range 97 122 c (omega arith) (omega arith) small
    ]

plain_bytes : (text : List ℕ) → list_all is_puid_byte text ≡ true → AllByRecursion IsPlain text
plain_bytes [] is = tt
plain_bytes (c ∷ text) is = (let holdings = and_parts (is_puid_byte c) (list_all is_puid_byte text) is in (plain_byte c holdings.0, plain_bytes text holdings.1))

ascii : (text : List ℕ) → AllByRecursion IsPlain text → IsAscii text
ascii [] plain = IsAscii-nil
ascii (c ∷ text) plain = IsAscii-cons c text plain.0.0 (ascii text plain.1)

no_space : (text : List ℕ) → AllByRecursion IsPlain text → All (λ c. c ≢ 32) text
no_space [] plain = All-nil (λ c. c ≢ 32)
no_space (c ∷ text) plain = All-cons (λ c. c ≢ 32) c text plain.0.1 (no_space text plain.1)

not_empty : (text : List ℕ) → 1 ≤ length text → text ≢ []
not_empty [] some = absurd (omega (arith, some))
not_empty (c ∷ text) some = λ none. absurd cc

module _ (text : List ℕ) (is : IsTrue (is_puid text)) where
  sized : (1 ≤ length text) × (length text ≤ 32)
  sized =
      let parts = and_parts (has_bytes 1 32 text) (list_all is_puid_byte text) is in
      let both = and_parts (nat_le 1 (length text)) (nat_le (length text) 32) parts.0 in
      (leb-true 1 (length text) both.0, leb-true (length text) 32 both.1)

  plain : AllByRecursion IsPlain text
  plain = plain_bytes text (and_parts (has_bytes 1 32 text) (list_all is_puid_byte text) is).1

  pub is_word : IsWord text
  is_word = record { some = not_empty text sized.0; no_space = no_space text plain }

  pub is_text : IsPuidText text
  is_text = record { utf8 = IsUtf8-from_ascii text (ascii text plain); at_least = sized.0; at_most = sized.1 }

pub are_words : (puids : List (List ℕ)) → AllByRecursion (λ puid. IsTrue (is_puid puid)) puids → AllByRecursion IsWord puids
are_words = each_weaker (λ puid. IsTrue (is_puid puid)) IsWord is_word

pub are_texts : (puids : List (List ℕ)) → AllByRecursion (λ puid. IsTrue (is_puid puid)) puids → AllByRecursion IsPuidText puids
are_texts = each_weaker (λ puid. IsTrue (is_puid puid)) IsPuidText is_text
