-- The paths of files below a folder.
use Rattle.std.specs.Prelude.{ℕ, List, [], ◌∷◌, length, take, drop, Option, Some, None, codes, if◌then◌else◌}
use Rattle.std.specs.Str.{bytes_eq}
use Rattle.droid_fixity.specs.declared.checksum_lists.form.ManifestForm.{ManifestForm}
use Rattle.droid_fixity.specs.declared.checksum_lists.form.ManifestForm.TheVariants.{Checksums, Bag}

-- what stands behind a text, if that stands in front
abbrev pub behind : List ℕ → List ℕ → Option (List ℕ)
behind front text = if bytes_eq (take (length front) text) front then Some (drop (length front) text) else None

-- the same, or all where it doesn't stand in front
abbrev pub or_all : List ℕ → Option (List ℕ) → List ℕ
or_all text None = text
or_all text (Some rest) = rest

-- A path may begin with `./`.
abbrev pub without_dot : List ℕ → List ℕ
without_dot text = or_all text (behind (codes "./") text)

-- What a line's path is below the folder. The folder of a bag's manifest is `data`.
abbrev pub below : ManifestForm → List ℕ → Option (List ℕ)
below Checksums text = Some (without_dot text)
below Bag text = behind (codes "data/") (without_dot text)
