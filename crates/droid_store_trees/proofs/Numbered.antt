-- A row of a table that has a rowid is the one row that has it, wherever it was found.
use Rattle.std.proofs.Common.{◌≡◌, ℕ, ℤ, ◌<◌, List, [], ◌∷◌, filter, length, get_or, true, sym, ap, ◌∙◌, arith, Ordering, Less, Equal, Greater, is_lt, is_eq, true≢false, refl}
use Rattle.std.proofs.lemmas.Cmp.{alike_right}
use Rattle.sqlite_value.specs.declared.value.Value.TheVariants.{Int}
use Rattle.sqlite_value.specs.Order.{Row, value_cmp}
use Rattle.sqlite_value.proofs.OrderLemmas.{value_cmp_total}
use Rattle.sqlite_trees.specs.Tree.{rowid, IsTable, has_rowid}
use Rattle.sqlite_trees.proofs.ListLemmas.{ascending-get_or}
use Rattle.sqlite_trees.proofs.MemoryLemmas.{cut_below_rowid, fails_after, found_at}

equal : (o : Ordering) → is_eq o ≡ true → o ≡ Equal
equal Less h = absurd (true≢false (sym h))
equal Equal h = refl
equal Greater h = absurd (true≢false (sym h))

pub one_numbered : (id : ℤ) (rows : List Row) (at : ℕ) → IsTable rows → at < length rows → has_rowid id (get_or rows at []) ≡ true → filter (has_rowid id) rows ≡ get_or rows at [] ∷ []
one_numbered id rows at table within same =
    let here : value_cmp (rowid (get_or rows at [])) (Int id) ≡ Equal = equal _ same in
    found_at id rows at table (record {
      within = omega (arith, within);
      before = λ k below. ap is_lt (sym (alike_right value_cmp_total (rowid (get_or rows at [])) (Int id) (rowid (get_or rows k [])) here) ∙ ascending-get_or _ rows k at [] table below within);
      after = fails_after (λ e. is_lt (value_cmp (rowid e) (Int id))) rows at (cut_below_rowid (Int id) rows table) (ap is_lt here);
    }) within same
