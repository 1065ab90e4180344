-- The text of an export without criteria, record by record.
use Rattle.std.proofs.Common.{◌≡◌, Bool, true, false, List, [], ◌∷◌, ◌++◌, refl, ap, ◌∙◌}
use Rattle.std.specs.Prelude.{filter}
use Rattle.std.specs.List.{flat_map}
use Rattle.std.proofs.lemmas.Grind.{flat_map-append}
use Rattle.droid_frame.specs.declared.filter.Filter.{Filter}
use Rattle.droid_frame.specs.declared.hash_kind.HashKind.{HashKind}
use Rattle.droid_frame.specs.declared.record.Record.{Record}
use Rattle.droid_pronom.specs.Registry.{Contents}
use Rattle.droid_export.specs.Filters.{meets, is_met}
use Rattle.droid_export.specs.Rows.{header, rows}
use Rattle.droid_export.specs.Text.{chosen_rows, record_text, row_text, text}

-- a filter without criteria lets each record through
passes : (all : Bool) (node : Record) → meets (record { all = all; criteria = [] }) node ≡ true
unfolding meets
passes true node = refl
passes false node = refl

lets_through : (everything : Filter) (node : Record) → everything.criteria ≡ [] → meets everything node ≡ true
lets_through everything node none = rw none (passes everything.all node)

all_chosen : (everything : Filter) (nodes : List Record) → everything.criteria ≡ [] → filter (meets everything) nodes ≡ nodes
all_chosen everything [] none = refl
all_chosen everything (node ∷ nodes) none = rw (lets_through everything node none) (ap (λ (l : List Record). node ∷ l) (all_chosen everything nodes none))

by_records : (registry : Contents) (nodes : List Record) → flat_map row_text (flat_map (rows registry) nodes) ≡ flat_map (record_text registry) nodes
by_records registry [] = refl
by_records registry (node ∷ nodes) =
    flat_map-append row_text (rows registry node) (flat_map (rows registry) nodes) ∙ ap (λ (l : List _). record_text registry node ++ l) (by_records registry nodes)

pub text_by_records : (registry : Contents) (everything : Filter) (hash : HashKind) (nodes : List Record) → everything.criteria ≡ []
    → text registry everything hash nodes ≡ row_text (header hash) ++ flat_map (record_text registry) nodes
unfolding text
text_by_records registry everything hash nodes none =
    ap (λ (l : List Record). row_text (header hash) ++ flat_map row_text (flat_map (rows registry) l)) (all_chosen everything nodes none)
    ∙ ap (λ (l : List _). row_text (header hash) ++ l) (by_records registry nodes)
