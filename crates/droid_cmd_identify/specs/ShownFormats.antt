-- The formats of a file as they are printed (this project's own).
use Rattle.std.specs.Prelude.{◌≡◌, ℕ, Bool, List, [], ◌∷◌, Some, slice_get}
use Rattle.std.specs.Borrow.{Bor}
use Rattle.droid_frame.specs.declared.method.Method.{Method}
use Rattle.droid_frame.specs.declared.method.Method.TheVariants as methods
use Rattle.droid_pronom.specs.Registry.{place_of}
use Rattle.droid_pronom.specs.declared.format.Format.{Format}
use Rattle.droid_identity.specs.declared.hit_signature.SignatureBasis.{SignatureBasis}
use Rattle.droid_identity.specs.declared.identity.Identity.{Identity}
use Rattle.droid_cmd_identify.specs.declared.forms.shown_format.Reason.{Reason}
use Rattle.droid_cmd_identify.specs.declared.forms.shown_format.Reason.TheVariants.{Signature, Extension}
use Rattle.droid_cmd_identify.specs.declared.forms.shown_format.ShownFormat.{ShownFormat}

-- the format with this PUID
pub record IsFormatOf (formats : List Format) (puid : List ℕ) (format : Bor Format) : Type 0 where
  pub place : ℕ
  pub named : place_of puid formats ≡ Some place
  pub there : slice_get formats place ≡ Some format.now

-- it is there by the signature of this basis, and where its byte sequences match
abbrev pub IsBySignature : Reason → SignatureBasis → Type 0
IsBySignature (Signature number matches) basis = (number ≡ basis.signature) × (matches.now ≡ basis.matches.items)
IsBySignature (Extension extension) basis = ⊥

-- it is there by this extension
abbrev pub IsByExtension : Reason → List ℕ → Type 0
IsByExtension (Signature number matches) wanted = ⊥
IsByExtension (Extension extension) wanted = extension.now ≡ wanted

-- the format with this PUID, by this basis
abbrev pub IsShownBy : List Format → Bool → List ℕ → SignatureBasis → ShownFormat → Type 0
IsShownBy formats mismatch puid basis its =
    IsFormatOf formats puid its.format × IsBySignature its.reason basis × (its.mismatch ≡ mismatch)

-- the format with this PUID, by this extension
abbrev pub IsNamedBy : List Format → List ℕ → Bool → List ℕ → ShownFormat → Type 0
IsNamedBy formats extension mismatch puid its =
    IsFormatOf formats puid its.format × IsByExtension its.reason extension × (its.mismatch ≡ mismatch)

-- each format with its basis, in order, and no other
abbrev pub AreShownBySignature : List Format → Bool → List (List ℕ) → List SignatureBasis → List ShownFormat → Type 0
AreShownBySignature formats mismatch [] bases [] = Unit {0}
AreShownBySignature formats mismatch (puid ∷ puids) (basis ∷ bases) (its ∷ shown) =
    IsShownBy formats mismatch puid basis its × AreShownBySignature formats mismatch puids bases shown
AreShownBySignature formats mismatch [] bases (its ∷ shown) = ⊥
AreShownBySignature formats mismatch (puid ∷ puids) [] shown = ⊥
AreShownBySignature formats mismatch (puid ∷ puids) (basis ∷ bases) [] = ⊥

-- each format with the extension, in order, and no other
abbrev pub AreShownByExtension : List Format → List ℕ → Bool → List (List ℕ) → List ShownFormat → Type 0
AreShownByExtension formats extension mismatch [] [] = Unit {0}
AreShownByExtension formats extension mismatch (puid ∷ puids) (its ∷ shown) =
    IsNamedBy formats extension mismatch puid its × AreShownByExtension formats extension mismatch puids shown
AreShownByExtension formats extension mismatch [] (its ∷ shown) = ⊥
AreShownByExtension formats extension mismatch (puid ∷ puids) [] = ⊥

-- the formats of a file, each once and in order, by this method
abbrev pub AreShownBy : Method → List Format → List ℕ → Identity → List ShownFormat → Type 0
AreShownBy methods.Signature formats extension identity shown =
    AreShownBySignature formats identity.found.mismatch identity.found.puids identity.bases.items shown
AreShownBy methods.Extension formats extension identity shown =
    AreShownByExtension formats extension identity.found.mismatch identity.found.puids shown
AreShownBy methods.Unidentified formats extension identity shown = shown ≡ []

-- the formats of a file, by the method by which they were found
abbrev pub AreShown : List Format → List ℕ → Identity → List ShownFormat → Type 0
AreShown formats extension identity shown = AreShownBy identity.found.method formats extension identity shown
