-- What a line of a list of checksums says.
use Rattle.std.specs.Prelude.{ℕ, ◌==◌, Bool, true, false, not, ◌&&◌, ◌||◌, List, [], ◌∷◌, take, drop, length}
use Rattle.std.specs.Prelude.{slice_index, Option, Some, None, ◌-◌, codes, nat_le, if◌then◌else◌}
use Rattle.std.specs.List.{position}
use Rattle.std.specs.Option.{option_map, option_or}
use Rattle.std.specs.Str.{bytes_eq}
use Rattle.droid_frame.specs.declared.hash_value.HashValue.{HashValue}
use Rattle.droid_frame.specs.declared.node_kind.NodeKind.TheVariants.{File}
use Rattle.droid_frame.specs.Paths.{is_file_path}
use Rattle.droid_frame.specs.declared.item.Item.{Item}
use Rattle.droid_fixity.specs.Digests.{hash_of, md5_of, sha256_of}
use Rattle.droid_fixity.specs.FilePaths.{behind, below}
use Rattle.droid_fixity.specs.Spellings.{◌>>=◌, spelled}
use Rattle.droid_fixity.specs.declared.checksum_lists.form.Escapes.{Escapes}
use Rattle.droid_fixity.specs.declared.checksum_lists.form.Escapes.TheVariants as escapes
use Rattle.droid_fixity.specs.declared.checksum_lists.form.ManifestForm.{ManifestForm}
use Rattle.droid_fixity.specs.declared.checksum_lists.form.ManifestForm.TheVariants.{Checksums, Bag}
use Rattle.droid_fixity.specs.declared.checksum_lists.line_content.Meaning.{Meaning}
use Rattle.droid_fixity.specs.declared.checksum_lists.line_content.Meaning.TheVariants as meanings

-- ---- the parts of a line

-- a space or a tab
abbrev pub is_gap : ℕ → Bool
is_gap b = (b == 32) || (b == 9)

-- any other byte
abbrev pub is_no_gap : ℕ → Bool
is_no_gap b = not (is_gap b)

-- a text in two at a place, if there is one
abbrev pub cut : List ℕ → Option ℕ → Option (List ℕ × List ℕ)
cut text None = None
cut text (Some place) = Some (take place text, drop place text)

-- what stands before the first space or tab, and what stands from there on
abbrev pub cut_at_gap : List ℕ → Option (List ℕ × List ℕ)
cut_at_gap line = cut line (position is_gap line)

-- a line may begin with a backslash; then the path is escaped
abbrev pub escapes_of : List ℕ → Escapes
escapes_of [] = escapes.Nothing
escapes_of (b ∷ line) = if b == 92 then escapes.Backslash else escapes.Nothing

-- the line without that backslash
abbrev pub without_backslash : List ℕ → List ℕ
without_backslash [] = []
without_backslash (b ∷ line) = if b == 92 then line else b ∷ line

-- two spaces, or a space and `*`, stand between the digest and the path of `md5sum`
abbrev pub behind_mark : List ℕ → Option (List ℕ)
behind_mark [] = None
behind_mark (space ∷ []) = None
behind_mark (space ∷ mark ∷ text) = if (space == 32) && ((mark == 32) || (mark == 42)) then Some text else None

-- spaces and tabs stand between the digest and the path of a bag, and there may be a `*` before the path
abbrev pub without_star : List ℕ → List ℕ
without_star [] = []
without_star (b ∷ text) = if b == 42 then text else b ∷ text

-- what stands behind spaces and tabs, without a `*` in front
abbrev pub behind_gaps : List ℕ → Option (List ℕ)
behind_gaps text = cut text (position is_no_gap text) >>= λ parts. Some (without_star parts.1)

-- ---- lines that name a file

-- the hash, how the path is spelled, and the spelling
unfoldable pub plain_entry : List ℕ → Option (HashValue × Escapes × List ℕ)
plain_entry line = do
  parts ← cut_at_gap (without_backslash line)
  hash ← hash_of parts.0
  text ← behind_mark parts.1
  Some (hash, escapes_of line, text)

-- ---- lines of `md5sum --tag` and `sha256sum --tag`: a name, the path between parentheses, ` = ` and the digits

-- a text in two before its last n bytes, if it has so many
abbrev pub cut_last : ℕ → List ℕ → Option (List ℕ × List ℕ)
cut_last n text =
    if nat_le n (length text) then Some (take (length text - n) text, drop (length text - n) text) else None

-- what stands before a text, if that stands at the end
abbrev pub front_if : List ℕ → List ℕ × List ℕ → Option (List ℕ)
front_if end parts = if bytes_eq parts.1 end then Some parts.0 else None

-- what stands before this end of a text, if the text ends so
abbrev pub before : List ℕ → List ℕ → Option (List ℕ)
before end text = cut_last (length end) text >>= front_if end

-- behind the name: the hash, and the path as it is spelled; the digits are so many that they need no mark before them
unfoldable pub tagged : ℕ → (List ℕ → Option HashValue) → List ℕ → Option (HashValue × List ℕ)
tagged digits hash_in text = do
  parts ← cut_last digits text
  path ← before (codes ") = ") parts.0
  hash ← hash_in parts.1
  Some (hash, path)

-- `MD5 (PATH) = DIGEST`
unfoldable pub md5_tag : List ℕ → Option (HashValue × List ℕ)
md5_tag line = behind (codes "MD5 (") line >>= tagged 32 md5_of

-- `SHA256 (PATH) = DIGEST`
unfoldable pub sha256_tag : List ℕ → Option (HashValue × List ℕ)
sha256_tag line = behind (codes "SHA256 (") line >>= tagged 64 sha256_of

-- one or the other: the hash, and the path as it is spelled
abbrev pub tag_parts : List ℕ → Option (HashValue × List ℕ)
tag_parts line = option_or (md5_tag line) (sha256_tag line)

-- the same with how the path is spelled, behind the backslash that may stand in front
abbrev pub tag_entry : List ℕ → Option (HashValue × Escapes × List ℕ)
tag_entry line = option_map (λ parts. (parts.0, escapes_of line, parts.1)) (tag_parts (without_backslash line))

-- ---- a line of either kind

-- the hash, how the path is spelled, and the spelling; no digits begin like a name of `--tag`
abbrev pub checksum_entry : List ℕ → Option (HashValue × Escapes × List ℕ)
checksum_entry line = option_or (plain_entry line) (tag_entry line)

-- the hash, how the path is spelled, and the spelling, of a bag's line
unfoldable pub bag_entry : List ℕ → Option (HashValue × Escapes × List ℕ)
bag_entry line = do
  parts ← cut_at_gap line
  hash ← hash_of parts.0
  text ← behind_gaps parts.1
  Some (hash, escapes.Percent, text)

-- the same, by the form of the list
abbrev pub entry_of : ManifestForm → List ℕ → Option (HashValue × Escapes × List ℕ)
entry_of Checksums line = checksum_entry line
entry_of Bag line = bag_entry line

-- ---- what a line says

-- the item of a file: nothing is known of it but its hash
abbrev pub file_item : HashValue → List ℕ → Item
file_item hash path = record { path = path; kind = File; length = None; modified = None; hash = hash }

-- by the path
abbrev pub meaning_by_path : HashValue → List ℕ → Meaning
meaning_by_path hash path = if is_file_path path then meanings.File (file_item hash path) else meanings.Misplaced

-- by the bytes of the path below the folder
abbrev pub meaning_by_bytes : HashValue → Option (List ℕ) → Meaning
meaning_by_bytes hash None = meanings.Malformed
meaning_by_bytes hash (Some bytes) = meaning_by_path hash (47 ∷ bytes)

-- by the spelling of the path below the folder
abbrev pub meaning_by_text : HashValue → Escapes → Option (List ℕ) → Meaning
meaning_by_text hash how None = meanings.Misplaced
meaning_by_text hash how (Some text) = meaning_by_bytes hash (spelled how text)

-- by the parts of the line
abbrev pub meaning_by_entry : ManifestForm → Option (HashValue × Escapes × List ℕ) → Meaning
meaning_by_entry form None = meanings.Malformed
meaning_by_entry form (Some entry) = meaning_by_text entry.0 entry.1 (below form entry.2)

-- a line that says nothing: an empty one, or a comment
abbrev pub is_blank : List ℕ → Bool
is_blank [] = true
is_blank (b ∷ line) = b == 35

-- what a line says: a file and its hash, nothing, or that it is at fault
abbrev pub meaning : ManifestForm → List ℕ → Meaning
meaning form line = if is_blank line then meanings.Blank else meaning_by_entry form (entry_of form line)

-- ---- the lines of a text

-- A carriage return at the end of a line is no part of it.
abbrev pub ends_in_return : List ℕ → Bool
ends_in_return line = not (length line == 0) && (slice_index line (length line - 1) == 13)

-- the line without that carriage return
abbrev pub without_return : List ℕ → List ℕ
without_return line = if ends_in_return line then take (length line - 1) line else line
