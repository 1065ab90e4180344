use Rattle.std.proofs.Common.{◌≡◌, ◌++◌, ◌∷◌, take}
use Rattle.std.specs.List.{flat_map}
use Rattle.droid_lists.proofs.format_lists.format_change.append_after_spaces.Given as goal

abbrev pub invariant-loop-puid : goal.invariant-loop-puid
invariant-loop-puid l = l.text.items ≡ l.fn.text.items ++ flat_map (λ puid. 32 ∷ puid) (take l.puid-index l.puids)
