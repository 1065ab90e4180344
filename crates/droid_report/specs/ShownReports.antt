-- The page of a report: its tables, from the report's numbers, and how many rows its lists have.
use Rattle.std.specs.Prelude.{◌≡◌, ◌⊎◌, ◌<◌, ◌≤◌, ℕ, List, [], ◌∷◌, ◌++◌, length}
use Rattle.droid_report.specs.Pages.{page_text}
use Rattle.droid_report.specs.TableTrees.{body_tree}
use Rattle.droid_report.specs.declared.html.tables.Table.{Table}
use Rattle.droid_report.specs.declared.counts.Counts.{Counts}
use Rattle.droid_report.specs.Orders.{AreOrders}
use Rattle.droid_report.specs.Seen.{Shown, tables_seen}
use Rattle.droid_report.specs.ShownTables.{class_tables, extreme_tables, group_tables, list_tables, overview}
use Rattle.droid_report.specs.declared.view.orders.Orders.{Orders}

-- the tables of a report, with at most this many rows in each list
abbrev pub all_tables : Counts → Orders → ℕ → List Shown
all_tables counts orders limit =
    (((overview counts.totals orders limit ++ class_tables counts.classes limit) ++ group_tables orders limit)
    ++ list_tables counts.totals counts.lists limit) ++ extreme_tables counts.totals counts.lists limit

-- a text is that of the page with exactly these tables
pub record IsPageOf (title about : List ℕ) (counts : Counts) (orders : Orders) (limit : ℕ) (text : List ℕ)
    : Type 0 where
  pub tables : List Table
  pub shown : tables_seen tables ≡ all_tables counts orders limit
  pub page : text ≡ page_text title (body_tree title about tables)

-- the text for the first of these limits for which it has at most 300,000 bytes; if there is none, that without rows in
-- lists
abbrev pub IsFirstToFit : (ℕ → List ℕ → Type 0) → List ℕ → List ℕ → Type 0
IsFirstToFit IsText [] text = IsText 0 text
IsFirstToFit IsText (limit ∷ limits) text =
    (IsText limit text × (length text ≤ 300000))
    ⊎ ((larger : List ℕ) × IsText limit larger × (300000 < length larger) × IsFirstToFit IsText limits text)

-- the page of a report
pub record IsPage (title about : List ℕ) (counts : Counts) (text : List ℕ) : Type 0 where
  pub orders : Orders
  pub in_order : AreOrders counts orders
  pub fits : IsFirstToFit (IsPageOf title about counts orders) (200 ∷ 100 ∷ 50 ∷ 20 ∷ 5 ∷ []) text
