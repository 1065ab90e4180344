-- A finished file has every piece, each taken once, and as many bytes as it was announced with.
use Rattle.std.specs.Prelude.{◌≡◌, ℕ, ℤ, true, List, length, Some}
use Rattle.droid_core_spec.specs.Files.{count_of, missing_of, bytes_of}
use Rattle.droid_core_spec.specs.World.{Content, File, Profile, World, numbered, node_at}

-- no piece is missing, none was taken twice, and their bytes are as many as the file's size says
pub record IsWhole (content : Content) : Type 0 where
  pub none_missing : missing_of content ≡ count_of content
  pub all_taken : length content.pieces ≡ count_of content
  pub size : length (bytes_of content) ≡ content.size

-- each finished file of the world is whole
abbrev pub FinishedAreWhole : World → Type 0
FinishedAreWhole world =
    (profile id parent : ℕ) (modified : ℤ) (name : List ℕ) (content : Content) (its : Profile)
    → numbered world.profiles profile ≡ Some its → node_at its.nodes id ≡ Some (File parent modified name content)
    → content.finished ≡ true → IsWhole content
