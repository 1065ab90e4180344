use Rattle.std.proofs.Common.{◌≡◌, List, ◌++◌, drop, None}
use Rattle.std.specs.List.{AllByRecursion}
use Rattle.droid_pronom.specs.Registry.{place_of}
use Rattle.droid_cmd_identify.specs.ShownFormats.{AreShownByExtension}
use Rattle.droid_cmd_identify.specs.declared.forms.shown_format.ShownFormat.{ShownFormat}
use Rattle.droid_cmd_identify.proofs.showing.shown_by_extension.Given as goal

-- the formats so far and those of what is left are those of all
abbrev pub invariant-loop-puid : goal.invariant-loop-puid
invariant-loop-puid l =
    AllByRecursion (λ puid. place_of puid l.registry.formats ≡ None → ⊥) l.puids
    → AllByRecursion (λ puid. place_of puid l.registry.formats ≡ None → ⊥) (drop l.puid-index l.puids)
    × ((left : List ShownFormat) → AreShownByExtension l.registry.formats l.extension l.mismatch (drop l.puid-index l.puids) left
    → AreShownByExtension l.registry.formats l.extension l.mismatch l.puids (l.shown.items ++ left))
