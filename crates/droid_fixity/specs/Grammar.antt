-- The lines that name a file, as a grammar.
use Rattle.std.specs.Prelude.{◌≡◌, ℕ, List, [], ◌∷◌, ◌++◌, Option, Some, codes, IsTrue, ◌⊎◌}
use Rattle.std.specs.List.{list_all}
use Rattle.droid_frame.specs.declared.hash_value.HashValue.{HashValue}
use Rattle.droid_frame.specs.Paths.{is_plain}
use Rattle.droid_fixity.specs.Digests.{hash_of, md5_of, sha256_of}
use Rattle.droid_fixity.specs.Lines.{is_gap}
use Rattle.droid_fixity.specs.Spellings.{decoded, unescaped}
use Rattle.droid_fixity.specs.declared.checksum_lists.form.ManifestForm.{ManifestForm}
use Rattle.droid_fixity.specs.declared.checksum_lists.form.ManifestForm.TheVariants.{Checksums, Bag}

-- a text, or nothing
abbrev pub MayStand : List ℕ → List ℕ → Type 0
MayStand text part = (part ≡ text) ⊎ (part ≡ [])

-- `md5sum` writes a space for a file that was read as text, and `*` for one that was read as bytes
abbrev pub IsMark : ℕ → Type 0
IsMark mark = (mark ≡ 32) ⊎ (mark ≡ 42)

-- at least one space or tab, and nothing else
pub record AreGaps (text : List ℕ) : Type 0 where
  pub gap : ℕ
  pub more : List ℕ
  pub whole : text ≡ gap ∷ more
  pub first : IsTrue (is_gap gap)
  pub rest : IsTrue (list_all is_gap more)

-- a line of `md5sum`: digits, a space, a mark and a path, perhaps behind `./`
pub record IsPlainLine (line : List ℕ) (hash : HashValue) (name : List ℕ) : Type 0 where
  pub digits : List ℕ
  pub mark : ℕ
  pub dot : List ℕ
  pub whole : line ≡ digits ++ 32 ∷ mark ∷ (dot ++ name)
  pub digest : hash_of digits ≡ Some hash
  pub marked : IsMark mark
  pub dotted : MayStand (codes "./") dot

-- the same with a backslash in front and an escaped path
pub record IsEscapedLine (line : List ℕ) (hash : HashValue) (name : List ℕ) : Type 0 where
  pub digits : List ℕ
  pub mark : ℕ
  pub dot : List ℕ
  pub text : List ℕ
  pub whole : line ≡ 92 ∷ (digits ++ 32 ∷ mark ∷ (dot ++ text))
  pub digest : hash_of digits ≡ Some hash
  pub marked : IsMark mark
  pub dotted : MayStand (codes "./") dot
  pub spells : unescaped text ≡ Some name

-- what stands before the path in a line of `--tag`, by the digits
abbrev pub IsTag : List ℕ → List ℕ → HashValue → Type 0
IsTag tag digits hash =
    ((tag ≡ codes "MD5 (") × (md5_of digits ≡ Some hash)) ⊎ ((tag ≡ codes "SHA256 (") × (sha256_of digits ≡ Some hash))

-- a line of `md5sum --tag`
pub record IsTagLine (line : List ℕ) (hash : HashValue) (name : List ℕ) : Type 0 where
  pub tag : List ℕ
  pub digits : List ℕ
  pub dot : List ℕ
  pub whole : line ≡ tag ++ ((dot ++ name) ++ (codes ") = " ++ digits))
  pub tagged : IsTag tag digits hash
  pub dotted : MayStand (codes "./") dot

-- the same with a backslash in front and an escaped path
pub record IsEscapedTagLine (line : List ℕ) (hash : HashValue) (name : List ℕ) : Type 0 where
  pub tag : List ℕ
  pub digits : List ℕ
  pub dot : List ℕ
  pub text : List ℕ
  pub whole : line ≡ 92 ∷ (tag ++ ((dot ++ text) ++ (codes ") = " ++ digits)))
  pub tagged : IsTag tag digits hash
  pub dotted : MayStand (codes "./") dot
  pub spells : unescaped text ≡ Some name

-- a line of a bag's manifest: digits, spaces and tabs, and a path below `data`, perhaps behind `*` and `./`
pub record IsBagLine (line : List ℕ) (hash : HashValue) (name : List ℕ) : Type 0 where
  pub digits : List ℕ
  pub gaps : List ℕ
  pub star : List ℕ
  pub dot : List ℕ
  pub text : List ℕ
  pub whole : line ≡ digits ++ (gaps ++ (star ++ (dot ++ (codes "data/" ++ text))))
  pub digest : hash_of digits ≡ Some hash
  pub gapped : AreGaps gaps
  pub starred : MayStand (codes "*") star
  pub dotted : MayStand (codes "./") dot
  pub spells : decoded text ≡ name

-- a line that names a file, by the form of the list
abbrev pub IsLine : ManifestForm → List ℕ → HashValue → List ℕ → Type 0
IsLine Checksums line hash name =
    (IsPlainLine line hash name ⊎ IsEscapedLine line hash name)
    ⊎ (IsTagLine line hash name ⊎ IsEscapedTagLine line hash name)
IsLine Bag line hash name = IsBagLine line hash name

-- This line gives this hash to the file with this path.
pub record NamesFile (form : ManifestForm) (line : List ℕ) (hash : HashValue) (path : List ℕ) : Type 0 where
  pub name : List ℕ
  pub is_line : IsLine form line hash name
  pub plain : IsTrue (is_plain name)
  pub path_is : path ≡ 47 ∷ name
