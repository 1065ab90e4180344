-- Before anything is taken, nothing has to fit.
use Rattle.std.proofs.Common.{◌≡◌, inr, [], ◌∷◌, refl, sym}
use Rattle.droid_pronom.specs.Registry.{Contents}
use Rattle.droid_tree.specs.Paths.{top}
use Rattle.droid_profile.specs.declared.options.Options.{Options}
use Rattle.droid_profile.specs.ScanFits.{ScanFits}
use Rattle.droid_profile.specs.declared.walk.scan.Scan.{Scan}

pub scan_begun : (registry : Contents) (options : Options) (scan : Scan) → scan.waiting.items ≡ top ∷ [] → scan.entries.items ≡ [] → scan.number ≡ 0 → ScanFits registry options [] [] [] scan [] []
scan_begun registry options scan waiting empty first = record {
  visited = λ readings may. record {
    visits = [];
    in_turn = waiting;
    begun = inr (record { none = refl; empty = empty });
    numbered = tt;
    counted = sym first;
    complete = λ ended. refl;
    folders = refl;
    reads = λ number. refl;
    entries = refl;
    records = refl;
  };
  fresh = record { waiting = λ place row there. absurd cc; named = λ place row there. absurd cc; distinct = λ one other a b at_a at_b same. absurd cc };
  numbers = tt;
  moments = tt;
  ready = tt;
}
