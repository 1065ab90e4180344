-- A text to which each item of a list adds its part.
use Rattle.std.proofs.Common.{◌≡◌, ℕ, ◌+◌, ◌<◌, true, false, List, [], ◌∷◌, ◌++◌, Some, length, take, map, get_or, refl, ap, sym, ◌∙◌}
use Rattle.std.specs.Prelude.{filter}
use Rattle.std.specs.List.{flat_map, slice_get}
use Rattle.droid_frame.specs.declared.filter.Filter.{Filter}
use Rattle.droid_frame.specs.declared.record.Record.{Record}
use Rattle.droid_pronom.specs.Registry.{Contents}
use Rattle.droid_export.specs.Filters.{meets}
use Rattle.droid_export.specs.Rows.{no_format, row, rows, rows_by, shown}
use Rattle.droid_export.specs.Text.{chosen_rows, row_text}
use Rattle.std.proofs.lemmas.List.{append-nil, flat_map_more, take_more}
use Rattle.std.proofs.lemmas.List.Elements.{filter_more}
use Rattle.std.proofs.lemmas.Grind.{flat_map-append}
use Rattle.std.proofs.lemmas.Option.{slice_get_within, get_or_from_slice_get}

-- one item more
pub take_one : {X : Type 0} (xs : List X) (k : ℕ) (x : X) → slice_get xs k ≡ Some x → take (k + 1) xs ≡ take k xs ++ x ∷ []
take_one xs k x here = rw (take_more xs k x (slice_get_within xs k x here), get_or_from_slice_get xs k x x here) refl

-- what it gives comes last
pub grown : {X : Type 0} (f : X → List ℕ) (text : List ℕ) (xs : List X) (k : ℕ) (x : X) → slice_get xs k ≡ Some x
    → (text ++ flat_map f (take k xs)) ++ f x ≡ text ++ flat_map f (take (k + 1) xs)
grown f text xs k x here = flat_map_more f text (take k xs) x ∙ ap (λ (ys : List _). text ++ flat_map f ys) (sym (take_one xs k x here))

-- the rows of a record without a format, and of one with formats
none_rows : (registry : Contents) (node : Record) (puids : List (List ℕ)) → puids ≡ [] → flat_map row_text (rows_by registry node puids) ≡ row_text (row node no_format)
none_rows registry node [] none = append-nil (row_text (row node no_format))
none_rows registry node (puid ∷ puids) none = cc none

pub no_formats : (registry : Contents) (node : Record) → node.puids ≡ [] → flat_map row_text (rows registry node) ≡ row_text (row node no_format)
unfolding rows
no_formats registry node none = none_rows registry node node.puids none

some_rows : (registry : Contents) (node : Record) (puids : List (List ℕ)) → (puids ≡ [] → ⊥) → rows_by registry node puids ≡ map (λ puid. row node (shown registry puid)) puids
some_rows registry node [] some = absurd (some refl)
some_rows registry node (puid ∷ puids) some = refl

pub some_formats : (registry : Contents) (node : Record) → (node.puids ≡ [] → ⊥) → rows registry node ≡ map (λ puid. row node (shown registry puid)) node.puids
unfolding rows
some_formats registry node some = some_rows registry node node.puids some

-- one record more that is let through
pub kept : (registry : Contents) (criteria : Filter) (nodes : List Record) (k : ℕ) (node : Record) → k < length nodes → node ≡ get_or nodes k node → meets criteria node ≡ true
    → flat_map row_text (chosen_rows registry criteria (take k nodes)) ++ flat_map row_text (rows registry node)
    ≡ flat_map row_text (chosen_rows registry criteria (take (k + 1) nodes))
kept registry criteria nodes k node below here is =
    let one : filter (meets criteria) (take (k + 1) nodes) ≡ filter (meets criteria) (take k nodes) ++ node ∷ [] =
    rw (filter_more (meets criteria) nodes k node below, ← here, is) refl in
    rw (one, flat_map-append (rows registry) (filter (meets criteria) (take k nodes)) (node ∷ []), append-nil (rows registry node))
    (sym (flat_map-append row_text (flat_map (rows registry) (filter (meets criteria) (take k nodes))) (rows registry node)))

-- one that isn't
pub passed_over : (registry : Contents) (criteria : Filter) (nodes : List Record) (k : ℕ) (node : Record) → k < length nodes → node ≡ get_or nodes k node → meets criteria node ≡ false
    → flat_map row_text (chosen_rows registry criteria (take k nodes)) ≡ flat_map row_text (chosen_rows registry criteria (take (k + 1) nodes))
passed_over registry criteria nodes k node below here is =
    let same : filter (meets criteria) (take (k + 1) nodes) ≡ filter (meets criteria) (take k nodes) =
    rw (filter_more (meets criteria) nodes k node below, ← here, is) (append-nil _) in
    rw same refl
