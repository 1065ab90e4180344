use Rattle.std.proofs.Common.{ℕ, List, ◌++◌, drop}
use Rattle.droid_identity.specs.Identities.{AreBases, IsBasisIn}
use Rattle.droid_cmd_identify.specs.ShownFormats.{AreShownBySignature}
use Rattle.droid_cmd_identify.specs.declared.forms.shown_format.ShownFormat.{ShownFormat}
use Rattle.droid_cmd_identify.proofs.showing.shown_by_signature.Given as goal

-- the formats so far and those of what is left are those of all
abbrev pub invariant-loop-place : goal.invariant-loop-place
invariant-loop-place l =
    (file : List ℕ) (scan_limit : ℕ) → AreBases (IsBasisIn l.registry file scan_limit) l.registry.formats l.puids l.bases
    → AreBases (IsBasisIn l.registry file scan_limit) l.registry.formats (drop l.place l.puids) (drop l.place l.bases)
    × ((left : List ShownFormat) → AreShownBySignature l.registry.formats l.mismatch (drop l.place l.puids) (drop l.place l.bases) left
    → AreShownBySignature l.registry.formats l.mismatch l.puids l.bases (l.shown.items ++ left))
