-- What rows say of formats, with one more row.
use Rattle.std.proofs.Common.{◌≡◌, ◌∙◌, ◌+◌, ℕ, ◌==◌, Bool, true, false, ◌&&◌, ◌||◌, not, List, [], ◌∷◌, ◌++◌, append-nil, length, Option, Some, None, refl, sym, ap, subst}
use Rattle.std.specs.Prelude.{if◌then◌else◌}
use Rattle.std.specs.List.{find, fold, list_any}
use Rattle.std.specs.Option.{is_some, option_map, option_or}
use Rattle.std.specs.Str.{bytes_eq}
use Rattle.std.proofs.lemmas.List.{length-append}
use Rattle.std.proofs.lemmas.List.Concat.{flat_map-append}
use Rattle.std.proofs.lemmas.List.Folds.{find-append, list_any-append}
use Rattle.std.proofs.lemmas.List.Sums.{fold_push}
use Rattle.std.proofs.lemmas.Slice.Eq.{bytes_eq-Decides}
use Rattle.droid_export.specs.Filters.{is_among}
use Rattle.droid_hash.specs.Findings.{CoversPuids}
use Rattle.droid_lists.specs.FormatMaps.{AddsKnown, AddsOwn, HasOwn, IsKnown, known_at, known_count, known_or}
use Rattle.droid_lists.specs.ProfileRows.{has_puid, known_in, puid_in, puids_by, puids_in, with_puid}
use Rattle.droid_lists.specs.RowTests.{Row, at, texts_in}
use Rattle.droid_lists.specs.declared.spelling.row_formats.Formats.{Formats}
use Rattle.droid_lists.specs.declared.spelling.row_formats.Texts.{Texts}
use Rattle.droid_lists.specs.declared.spelling.own_puids.OwnPuids.{OwnPuids}

-- ---- truth values

or_nothing : (b : Bool) → b ≡ (b || false)
or_nothing true = refl
or_nothing false = refl

or_swaps : (a b : Bool) → (a || b) ≡ (b || a)
or_swaps true true = refl
or_swaps true false = refl
or_swaps false true = refl
or_swaps false false = refl

or_groups : (a b c : Bool) → ((a || b) || c) ≡ (a || (b || c))
or_groups true b c = refl
or_groups false b c = refl

some_or : {A : Type 0} (x y : Option A) → is_some (option_or x y) ≡ (is_some x || is_some y)
some_or None y = refl
some_or (Some x) y = refl

or_none : {A : Type 0} (x : Option A) → option_or x None ≡ x
or_none None = refl
or_none (Some x) = refl

same_bytes : (xs : List ℕ) → bytes_eq xs xs ≡ true
same_bytes xs = (bytes_eq-Decides xs xs).1 refl

-- ---- a row without a PUID

has_none_by : (puid : List ℕ) (row : Row) (b : Bool) → (length (at row 14) == 0) ≡ b → b ≡ true → has_puid puid row ≡ false
has_none_by puid row b is none = rw (is ∙ none) refl

has_none : (puid : List ℕ) (row : Row) → (length (at row 14) == 0) ≡ true → has_puid puid row ≡ false
has_none puid row none = has_none_by puid row true none refl

found_none : (rows : List Row) (row : Row) (puid : List ℕ) → has_puid puid row ≡ false → find (has_puid puid) (rows ++ row ∷ []) ≡ find (has_puid puid) rows
found_none rows row puid none =
    find-append (has_puid puid) rows (row ∷ []) ∙ rw none (or_none (find (has_puid puid) rows))

known_none : (rows : List Row) (row : Row) (puid : List ℕ) → (length (at row 14) == 0) ≡ true → known_in rows puid ≡ known_in (rows ++ row ∷ []) puid
known_none rows row puid none = ap (λ (it : Option Row). option_map texts_in it) (sym (found_none rows row puid (has_none puid row none)))

count_none : (rows : List Row) (row : Row) → (length (at row 14) == 0) ≡ true → puids_in rows ≡ puids_in (rows ++ row ∷ [])
count_none rows row none =
    sym (fold_push (λ puids it. with_puid puids (at it 14)) [] rows row ∙ rw none refl)

-- nothing more is known
pub same_known : (formats : Formats) (rows : List Row) (row : Row) → (length (at row 14) == 0) ≡ true → IsKnown formats rows → IsKnown formats (rows ++ row ∷ [])
same_known formats rows row none known = record {
  known = λ puid. known.known puid ∙ known_none rows row puid none;
  count = known.count ∙ ap length (count_none rows row none);
}

any_push : (rows : List Row) (row : Row) (puid : List ℕ) → list_any (has_puid puid) (rows ++ row ∷ []) ≡ (list_any (has_puid puid) rows || has_puid puid row)
any_push rows row puid =
    list_any-append (has_puid puid) rows (row ∷ []) ∙ ap (λ (b : Bool). list_any (has_puid puid) rows || b) (sym (or_nothing (has_puid puid row)))

puids_push : (rows : List Row) (row : Row) → puids_by (rows ++ row ∷ []) ≡ puids_by rows ++ puid_in row
puids_push rows row = flat_map-append puid_in rows (row ∷ []) ∙ ap (λ (more : List (List ℕ)). puids_by rows ++ more) (append-nil (puid_in row))

pub same_own : (own : OwnPuids) (rows : List Row) (row : Row) → (length (at row 14) == 0) ≡ true → HasOwn own rows → HasOwn own (rows ++ row ∷ [])
same_own own rows row none has = record {
  has = λ puid. has.has puid ∙ (or_nothing (list_any (has_puid puid) rows) ∙ (ap (λ (b : Bool). list_any (has_puid puid) rows || b) (sym (has_none puid row none)) ∙ sym (any_push rows row puid)));
  digest = subst (λ (puids : List (List ℕ)). CoversPuids own.digest puids) (sym (puids_push rows row ∙ rw none (append-nil (puids_by rows)))) has.digest;
}

-- ---- a row with a PUID

has_by : (other : List ℕ) (row : Row) → (length (at row 14) == 0) ≡ false → has_puid other row ≡ bytes_eq other (at row 14)
has_by other row some = rw some refl

known_first : (earlier : Option Row) (row : Row) → Some (known_or (option_map texts_in earlier) (texts_in row)) ≡ option_map texts_in (option_or earlier (Some row))
known_first None row = refl
known_first (Some other) row = refl

found_push : (rows : List Row) (row : Row) (other : List ℕ) (b : Bool) → has_puid other row ≡ b
    → find (has_puid other) (rows ++ row ∷ []) ≡ option_or (find (has_puid other) rows) (if b then Some row else None)
found_push rows row other b is = find-append (has_puid other) rows (row ∷ []) ∙ rw is refl

known_push_by : (rows : List Row) (row : Row) (other : List ℕ) (b : Bool) → (length (at row 14) == 0) ≡ false → bytes_eq other (at row 14) ≡ b
    → (if b then Some (known_or (known_in rows (at row 14)) (texts_in row)) else known_in rows other) ≡ known_in (rows ++ row ∷ []) other
known_push_by rows row other true some is =
    let same : at row 14 ≡ other = sym ((bytes_eq-Decides other (at row 14)).0 is) in
    ap (λ (puid : List ℕ). Some (known_or (known_in rows puid) (texts_in row))) same
    ∙ (known_first (find (has_puid other) rows) row ∙ ap (λ (it : Option Row). option_map texts_in it) (sym (found_push rows row other true (has_by other row some ∙ is))))
known_push_by rows row other false some is =
    ap (λ (it : Option Row). option_map texts_in it) (sym (found_push rows row other false (has_by other row some ∙ is) ∙ or_none (find (has_puid other) rows)))

-- a PUID is counted if a row has it
among_push : (puids : List (List ℕ)) (row : Row) (other : List ℕ) (b c d : Bool) → (length (at row 14) == 0) ≡ b → is_among puids (at row 14) ≡ c → bytes_eq other (at row 14) ≡ d
    → is_among (if b || c then puids else puids ++ at row 14 ∷ []) other ≡ (is_among puids other || (not b && d))
among_push puids row other true c d none held same = or_nothing (is_among puids other)
among_push puids row other false true true none held same =
    let at_is : other ≡ at row 14 = (bytes_eq-Decides other (at row 14)).0 same in
    rw (at_is, held) refl
among_push puids row other false true false none held same = or_nothing (is_among puids other)
among_push puids row other false false d none held same =
    list_any-append (λ it. bytes_eq other it) puids (at row 14 ∷ []) ∙ ap (λ (b : Bool). is_among puids other || b) (sym (or_nothing (bytes_eq other (at row 14))) ∙ same)

among_with : (puids : List (List ℕ)) (row : Row) (other : List ℕ) → is_among (with_puid puids (at row 14)) other ≡ (is_among puids other || has_puid other row)
among_with puids row other = among_push puids row other (length (at row 14) == 0) (is_among puids (at row 14)) (bytes_eq other (at row 14)) refl refl refl

found_first : (row : Row) (rows : List Row) (other : List ℕ) (b : Bool) → has_puid other row ≡ b
    → is_some (find (has_puid other) (row ∷ rows)) ≡ (b || is_some (find (has_puid other) rows))
found_first row rows other true is = rw is refl
found_first row rows other false is = rw is refl

among_from : (rows : List Row) (puids : List (List ℕ)) (other : List ℕ)
    → is_among (fold (λ all it. with_puid all (at it 14)) puids rows) other ≡ (is_among puids other || is_some (find (has_puid other) rows))
among_from [] puids other = or_nothing (is_among puids other)
among_from (row ∷ rows) puids other =
    among_from rows (with_puid puids (at row 14)) other
    ∙ (ap (λ (b : Bool). b || is_some (find (has_puid other) rows)) (among_with puids row other)
    ∙ (or_groups (is_among puids other) (has_puid other row) (is_some (find (has_puid other) rows))
    ∙ ap (λ (b : Bool). is_among puids other || b) (sym (found_first row rows other (has_puid other row) refl))))

some_map : (it : Option Row) → is_some (option_map texts_in it) ≡ is_some it
some_map None = refl
some_map (Some row) = refl

-- the PUIDs that are counted are those of which something is known
pub among_known : (rows : List Row) (other : List ℕ) → is_among (puids_in rows) other ≡ is_some (known_in rows other)
among_known rows other = among_from rows [] other ∙ sym (some_map (find (has_puid other) rows))

count_by : (puids : List (List ℕ)) (puid : List ℕ) (b c : Bool) → (length puid == 0) ≡ b → is_among puids puid ≡ c → b ≡ false
    → length (with_puid puids puid) ≡ (if c then length puids else length puids + 1)
count_by puids puid b true some held is = rw (some ∙ is, held) refl
count_by puids puid b false some held is = rw (some ∙ is, held) (length-append puids (puid ∷ []))

count_push : (rows : List Row) (row : Row) (c : Bool) → (length (at row 14) == 0) ≡ false → is_some (known_in rows (at row 14)) ≡ c
    → length (puids_in (rows ++ row ∷ [])) ≡ (if c then length (puids_in rows) else length (puids_in rows) + 1)
count_push rows row c some is =
    ap length (fold_push (λ puids it. with_puid puids (at it 14)) [] rows row)
    ∙ count_by (puids_in rows) (at row 14) false c some (among_known rows (at row 14) ∙ is) refl

count_same : (old new : Formats) (rows : List Row) (row : Row) (c : Bool) → (length (at row 14) == 0) ≡ false → is_some (known_in rows (at row 14)) ≡ c
    → known_count old ≡ length (puids_in rows) → known_count new ≡ (if c then known_count old else known_count old + 1)
    → known_count new ≡ length (puids_in (rows ++ row ∷ []))
count_same old new rows row c some is counted more =
    more ∙ (ap (λ (n : ℕ). if c then n else n + 1) counted ∙ sym (count_push rows row c some is))

-- what the row says is known
pub more_known : (old new : Formats) (rows : List Row) (row : Row) → (length (at row 14) == 0) ≡ false → IsKnown old rows → AddsKnown old new (at row 14) (texts_in row)
    → IsKnown new (rows ++ row ∷ [])
more_known old new rows row some known adds = record {
  known = λ other.
      adds.known other
      ∙ (ap (λ (it : Option Texts). if bytes_eq other (at row 14) then Some (known_or it (texts_in row)) else known_at old other) (known.known (at row 14))
      ∙ (ap (λ (it : Option Texts). if bytes_eq other (at row 14) then Some (known_or (known_in rows (at row 14)) (texts_in row)) else it) (known.known other)
      ∙ known_push_by rows row other (bytes_eq other (at row 14)) some refl));
  count = count_same old new rows row (is_some (known_in rows (at row 14))) some refl known.count
      (adds.count ∙ ap (λ (it : Option Texts). if is_some it then known_count old else known_count old + 1) (known.known (at row 14)));
}

pub more_own : (old new : OwnPuids) (rows : List Row) (row : Row) → (length (at row 14) == 0) ≡ false → HasOwn old rows → AddsOwn old new (at row 14) → HasOwn new (rows ++ row ∷ [])
more_own old new rows row some has adds = record {
  has = λ other.
      adds.has other
      ∙ (ap (λ (b : Bool). bytes_eq other (at row 14) || b) (has.has other)
      ∙ (or_swaps (bytes_eq other (at row 14)) (list_any (has_puid other) rows)
      ∙ (ap (λ (b : Bool). list_any (has_puid other) rows || b) (sym (has_by other row some)) ∙ sym (any_push rows row other))));
  digest = subst (λ (puids : List (List ℕ)). CoversPuids new.digest puids) (sym (puids_push rows row ∙ rw some refl)) (adds.digest (puids_by rows) has.digest);
}
