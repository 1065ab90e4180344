-- What a call has left the tables with is what the store is then seen as.
use Rattle.std.proofs.Common.{◌≡◌, None, sym, subst, ap, ◌∙◌}
use Rattle.droid_store_trees.specs.declared.storage.TreeStore.{TreeStore}
use Rattle.sqlite.specs.Held.{Held, state}
use Rattle.droid_store_trees.specs.Over.{over_trees}
use Rattle.droid_store.specs.Transactions.{Settled}
use Rattle.droid_store.specs.declared.rows.Counts.{Counts}
use Rattle.droid_store.specs.Kept.{kept, Holds, AreApart}
use Rattle.droid_store.specs.Ranges.{AreReadable}
use Rattle.droid_store.specs.Rows.{Rows, counts_of}
use Rattle.droid_store.proofs.Decoded.{rows_again}

pub kept_is : (c : Held TreeStore) (rows : Rows) → Settled (state over_trees c) (Holds rows) → kept c ≡ rows
kept_is c rows has = rows_again (state over_trees c).now rows has.holds

pub closed : (c : Held TreeStore) (rows : Rows) (counts : Counts) → Settled (state over_trees c) (Holds rows) → AreApart rows → counts ≡ counts_of rows → c.step_limit ≡ None → AreReadable rows
    → Settled (state over_trees c) (Holds (kept c)) × AreApart (kept c) × (counts ≡ counts_of (kept c)) × (c.step_limit ≡ None) × AreReadable (kept c)
closed c rows counts has apart are none readable =
    let same = sym (kept_is c rows has) in
    (subst (λ r. Settled (state over_trees c) (Holds r)) same has, subst AreApart same apart, are ∙ ap counts_of same, none, subst AreReadable same readable)

pub kept_still : (c : Held TreeStore) (rows : Rows) → Settled (state over_trees c) (Holds rows) → Settled (state over_trees c) (Holds (kept c))
kept_still c rows has = subst (λ r. Settled (state over_trees c) (Holds r)) (sym (kept_is c rows has)) has
