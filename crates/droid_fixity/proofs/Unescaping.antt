-- A text with backslashes, byte by byte.
use Rattle.std.proofs.Common.{◌≡◌, ◌∙◌, ◌<◌, ℕ, ◌+◌, ◌==◌, Bool, true, false, List, [], ◌∷◌, ◌++◌, length, drop, get_or, Option, Some, None, refl, sym, ap, append_assoc}
use Rattle.std.proofs.lemmas.List.{drop_more}
use Rattle.std.specs.Option.{option_map}
use Rattle.droid_fixity.specs.Spellings.{byte_behind_backslash, onto, unescaped_from}

-- bytes in front of what is spelled
abbrev pub in_front : List ℕ → Option (List ℕ) → Option (List ℕ)
in_front front text = option_map (λ bytes. front ++ bytes) text

front_more : (front : List ℕ) (b : ℕ) (text : Option (List ℕ)) → in_front front (onto b text) ≡ in_front (front ++ b ∷ []) text
front_more front b None = refl
front_more front b (Some bytes) = ap Some (sym (append_assoc front (b ∷ []) bytes))

pub step_meant : (front text : List ℕ) (b byte : ℕ) → byte_behind_backslash b ≡ Some byte → in_front front (unescaped_from true (b ∷ text)) ≡ in_front (front ++ byte ∷ []) (unescaped_from false text)
step_meant front text b byte is = rw is (front_more front byte (unescaped_from false text))

pub step_none : (text : List ℕ) (b : ℕ) → byte_behind_backslash b ≡ None → unescaped_from true (b ∷ text) ≡ None
step_none text b is = rw is refl

pub step_opens : (text : List ℕ) (b : ℕ) → (b == 92) ≡ true → unescaped_from false (b ∷ text) ≡ unescaped_from true text
step_opens text b is = rw is refl

pub step_plain : (front text : List ℕ) (b : ℕ) → (b == 92) ≡ false → in_front front (unescaped_from false (b ∷ text)) ≡ in_front (front ++ b ∷ []) (unescaped_from false text)
step_plain front text b is = rw is (front_more front b (unescaped_from false text))

-- ---- the loop over the bytes

module _ (text front : List ℕ) (place : ℕ) (opened : Bool) (whole : Option (List ℕ)) (below : place < length text) (so_far : in_front front (unescaped_from opened (drop place text)) ≡ whole) where
  -- what is left, by its first byte
  left_is : (state : Bool) → opened ≡ state → in_front front (unescaped_from state (get_or text place 0 ∷ drop (place + 1) text)) ≡ whole
  left_is state is =
      ap (λ (rest : List ℕ). in_front front (unescaped_from state rest)) (sym (drop_more text place 0 below)) ∙ (ap (λ (s : Bool). in_front front (unescaped_from s (drop place text))) (sym is) ∙ so_far)

  pub meant_kept : (path : List ℕ) (byte : ℕ) → opened ≡ true → byte_behind_backslash (get_or text place 0) ≡ Some byte → path ≡ front ++ byte ∷ []
      → in_front path (unescaped_from false (drop (place + 1) text)) ≡ whole
  meant_kept path byte is means added =
      ap (λ (p : List ℕ). in_front p (unescaped_from false (drop (place + 1) text))) added ∙ (sym (step_meant front (drop (place + 1) text) (get_or text place 0) byte means) ∙ left_is true is)

  pub opens_kept : opened ≡ false → (get_or text place 0 == 92) ≡ true → in_front front (unescaped_from true (drop (place + 1) text)) ≡ whole
  opens_kept is backslash = ap (in_front front) (sym (step_opens (drop (place + 1) text) (get_or text place 0) backslash)) ∙ left_is false is

  pub plain_kept : (path : List ℕ) → opened ≡ false → (get_or text place 0 == 92) ≡ false → path ≡ front ++ get_or text place 0 ∷ []
      → in_front path (unescaped_from opened (drop (place + 1) text)) ≡ whole
  plain_kept path is plain added =
      ap (λ (s : Bool). in_front path (unescaped_from s (drop (place + 1) text))) is
      ∙ ap (λ (p : List ℕ). in_front p (unescaped_from false (drop (place + 1) text))) added
      ∙ (sym (step_plain front (drop (place + 1) text) (get_or text place 0) plain) ∙ left_is false is)
