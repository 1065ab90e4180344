-- What is said of one file: its formats, why it has each of them, and whether it is plain text (this project's own).
use Rattle.std.specs.Prelude.{◌≡◌, ℕ, ◌-◌, min, Bool, List, [], ◌∷◌, length, take, drop, Option, Some, None}
use Rattle.droid_frame.specs.declared.method.Method.{Method}
use Rattle.droid_frame.specs.declared.method.Method.TheVariants as methods
use Rattle.droid_pronom.specs.Registry.{Contents, place_of}
use Rattle.droid_pronom.specs.Found.{Hits, IsFound, IsHit}
use Rattle.droid_pronom.specs.declared.format.Format.{Format}
use Rattle.droid_pronom.specs.declared.rows.ByteSequence.{ByteSequence}
use Rattle.droid_identity.specs.Matches.{IsNearest}
use Rattle.droid_identity.specs.Bases.{IsBasis}
use Rattle.droid_identity.specs.declared.hit_signature.SignatureBasis.{SignatureBasis}
use Rattle.droid_identity.specs.TextKinds.{text_kind}
use Rattle.droid_identity.specs.declared.kind.TextKind.{TextKind}
use Rattle.droid_identity.specs.declared.identity.Identity.{Identity}

-- the basis of the format at a place, in a file under a scan limit
abbrev pub IsBasisIn : Contents → List ℕ → ℕ → ℕ → SignatureBasis → Type 0
IsBasisIn registry file scan_limit place basis = IsBasis (IsNearest file scan_limit) (Hits file scan_limit)
    registry.signatures place basis

-- The definitions below take the relation B between the place of a format and its basis.

-- it is the basis of the format with this PUID
pub record HasBasis (B : ℕ → SignatureBasis → Type 0) (formats : List Format) (puid : List ℕ)
    (basis : SignatureBasis) : Type 0 where
  pub place : ℕ
  pub named : place_of puid formats ≡ Some place
  pub its : B place basis

-- each format has its basis, in order, and there is no other
abbrev pub AreBases : (ℕ → SignatureBasis → Type 0) → List Format → List (List ℕ) → List SignatureBasis → Type 0
AreBases B formats [] [] = Unit {0}
AreBases B formats [] (basis ∷ more) = ⊥
AreBases B formats (puid ∷ puids) [] = ⊥
AreBases B formats (puid ∷ puids) (basis ∷ more) = HasBasis B formats puid basis × AreBases B formats puids more

-- formats that signatures give have a basis each, those that the extension gives have none
abbrev pub AreBasesBy : Method → (ℕ → SignatureBasis → Type 0) → List Format → List (List ℕ) → List SignatureBasis
    → Type 0
AreBasesBy methods.Signature B formats puids bases = AreBases B formats puids bases
AreBasesBy methods.Extension B formats puids bases = bases ≡ []
AreBasesBy methods.Unidentified B formats puids bases = bases ≡ []

-- how a file without formats is written, by its first and last bytes
abbrev pub text_of : Method → (first last : List ℕ) → ℕ → Option TextKind
text_of methods.Signature first last size = None
text_of methods.Extension first last size = None
text_of methods.Unidentified first last size = text_kind first last size

-- what is said of a file of this name with these bytes, under this scan limit
pub record IsIdentity (registry : Contents) (name file : List ℕ) (scan_limit : ℕ) (match_all : Bool)
    (identity : Identity) : Type 0 where
  -- its formats are those of a profile's row
  pub found : IsFound registry name file scan_limit match_all identity.found
  pub bases : AreBasesBy identity.found.method (IsBasisIn registry file scan_limit) registry.formats
      identity.found.puids identity.bases.items
  pub text : identity.text
      ≡ text_of identity.found.method (take (min scan_limit (length file)) file)
      (drop (length file - min scan_limit (length file)) file) (length file)

-- ---- on the way

-- the format with this PUID hits
pub record HitsPuid (H : ByteSequence → Type 0) (registry : Contents) (puid : List ℕ) : Type 0 where
  pub place : ℕ
  pub named : place_of puid registry.formats ≡ Some place
  pub hit : IsHit H registry place
