-- The lines of a text.
use Rattle.std.specs.Prelude.{ℕ, ◌==◌, Bool, true, false, ◌||◌, List, [], ◌∷◌, if◌then◌else◌}
use Rattle.std.specs.List.{list_any, slice_split}
use Rattle.droid_fixity.specs.FilePaths.{behind, or_all}
use Rattle.droid_fixity.specs.declared.checksum_lists.form.ManifestForm.{ManifestForm}
use Rattle.droid_fixity.specs.declared.checksum_lists.form.ManifestForm.TheVariants.{Checksums, Bag}

-- a text without a byte order mark in front
abbrev pub without_mark : List ℕ → List ℕ
without_mark text = or_all text (behind (239 ∷ 187 ∷ 191 ∷ []) text)

-- A line of `md5sum` ends in a line feed; one of a bag in a line feed, a carriage return or both (RFC 8493, section
-- 2.1.3).
abbrev pub ends_line : ManifestForm → ℕ → Bool
ends_line Checksums b = b == 10
ends_line Bag b = (b == 10) || (b == 13)

-- a line feed behind a carriage return ends no second line; `after` says that one stands in front
abbrev pub unpaired_from : Bool → List ℕ → List ℕ
unpaired_from after [] = []
unpaired_from true (b ∷ text) = if b == 10 then unpaired_from false text else b ∷ unpaired_from (b == 13) text
unpaired_from false (b ∷ text) = b ∷ unpaired_from (b == 13) text

-- the text with one byte at the end of each line
abbrev pub unpaired : ManifestForm → List ℕ → List ℕ
unpaired Checksums text = text
unpaired Bag text = unpaired_from false text

-- the lines of a text, without their ends
abbrev pub lines_in : ManifestForm → List ℕ → List (List ℕ)
lines_in form text = slice_split (ends_line form) (unpaired form (without_mark text))

-- For inner clauses and proofs: whether line ends may be pairs. Where they aren't, the text stays as it is.
abbrev pub has_returns : ManifestForm → List ℕ → Bool
has_returns Checksums text = false
has_returns Bag text = list_any (λ b. b == 13) text
