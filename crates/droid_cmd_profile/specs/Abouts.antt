-- What a page says of itself (this project's own).
use Rattle.std.specs.Prelude.{ℕ, ◌==◌, List, [], ◌++◌, Option, Some, None, codes, length, if◌then◌else◌}
use Rattle.droid_terminal.specs.Places.{name_of}
use Rattle.droid_frame.specs.declared.hash_kind.HashKind.{HashKind}
use Rattle.droid_frame.specs.declared.hash_kind.HashKind.TheVariants.{Nothing, Md5, Sha256}
use Rattle.droid_report.specs.declared.texts.TheConstants as texts

-- which hash the CSV has, in words
abbrev pub hash_words : HashKind → List ℕ
hash_words Nothing = texts.NO_HASHES.now
hash_words Md5 = texts.MD5_HASHES.now
hash_words Sha256 = texts.SHA256_HASHES.now

-- the registry that identified the files, if it is known
unfoldable pub registry_words : Option (List ℕ) → List ℕ
registry_words (Some registry) = texts.REGISTRY.now ++ (registry ++ texts.REGISTRY_END.now)
registry_words None = []

-- of which CSV it was made, when, by which registry its files were identified, and which hash that has
unfoldable pub about_text : List ℕ → List ℕ → Option (List ℕ) → HashKind → List ℕ
about_text moment name registry hash =
    texts.MADE_FROM.now
    ++ (name
    ++ (texts.MADE_AT.now
    ++ (moment ++ (texts.IN_UTC.now ++ (registry_words registry ++ (hash_words hash ++ texts.COUNTED_ONCE.now))))))

-- the title of the page of a folder with this absolute path: its last name, or /
abbrev pub title_of : List ℕ → List ℕ
title_of path = if length (name_of path) == 0 then codes "/" else name_of path
