-- One more format in a map.
use Rattle.std.proofs.Common.{◌≡◌, ◌∙◌, ◌++◌, ℕ, Bool, true, false, List, [], ◌∷◌, Option, Some, None, cond, map, refl, sym, ap, append-nil}
use Rattle.std.specs.BTreeMap.{BTreeMap, get_by}
use Rattle.std.specs.Borrow.{Bor}
use Rattle.std.specs.Cmp.Lexicographic.{slice_cmp}
use Rattle.std.specs.Map.{update}
use Rattle.std.specs.Option.{option_map_or, unwrap_or}
use Rattle.std.specs.Ordering.{nat_cmp}
use Rattle.std.specs.Str.{bytes_eq}
use Rattle.std.specs.declared.alloc.Global.{Global}
use Rattle.std.specs.declared.vec.Vec.{Vec}
use Rattle.std.proofs.lemmas.Slice.Eq.{bytes_eq-Decides}
use Rattle.droid_lists.specs.Formats.{change_if, change_of, changes_in, formats_at}
use Rattle.droid_lists.specs.ListedFormats.{changes_by, formats_in}
use Rattle.droid_lists.specs.declared.format_lists.file_formats.FileFormats.{FileFormats}
use Rattle.droid_lists.specs.declared.format_lists.format_change.FormatChange.{FormatChange}
use Rattle.droid_export.specs.declared.reading.format_row.FormatRow.{FormatRow}

abbrev Held : Type 0
Held = BTreeMap (Bor (List ℕ)) (Vec (List ℕ) Global)

-- what a map has at a path
abbrev pub held : Held → List ℕ → Option (Vec (List ℕ) Global)
held listed path = get_by (λ key. slice_cmp nat_cmp path key.now) listed

abbrev items_of : Option (Vec (List ℕ) Global) → List (List ℕ)
items_of found = option_map_or (λ formats. formats.items) found []

pub items_or : (found : Option (Vec (List ℕ) Global)) (none : Vec (List ℕ) Global) → none.items ≡ [] → (unwrap_or found none).items ≡ option_map_or (λ formats. formats.items) found []
items_or None none empty = empty
items_or (Some formats) none empty = refl

-- one path taken out
pub removed : (old new : Held) (key other : List ℕ) → held new other ≡ update bytes_eq (held old) key None other → bytes_eq key other ≡ false → formats_in new other ≡ formats_in old other
removed old new key other kept is = ap items_of (kept ∙ ap (λ (t : Bool). cond t None (held old other)) is)

-- a format added to one path
added_by : (t : Bool) (old mid new : Held) (row : FormatRow) (path : List ℕ) (formats : Vec (List ℕ) Global)
    → held new path ≡ update bytes_eq (held mid) row.path (Some formats) path
    → (bytes_eq row.path path ≡ false → formats_in mid path ≡ formats_in old path)
    → formats.items ≡ formats_in old row.path ++ row.puid ∷ [] → bytes_eq row.path path ≡ t
    → formats_in new path ≡ formats_in old path ++ map (λ one. one.puid) (cond t (row ∷ []) [])
added_by true old mid new row path formats set others noted is =
    let same : row.path ≡ path = (bytes_eq-Decides row.path path).0 is in
    ap items_of (set ∙ ap (λ (t : Bool). cond t (Some formats) (held mid path)) is)
    ∙ (noted ∙ ap (λ (p : List ℕ). formats_in old p ++ row.puid ∷ []) same)
added_by false old mid new row path formats set others noted is =
    ap items_of (set ∙ ap (λ (t : Bool). cond t (Some formats) (held mid path)) is)
    ∙ (others is ∙ sym (append-nil (formats_in old path)))

pub one_added : (old mid new : Held) (row : FormatRow) (path : List ℕ) (formats : Vec (List ℕ) Global)
    → held new path ≡ update bytes_eq (held mid) row.path (Some formats) path
    → (bytes_eq row.path path ≡ false → formats_in mid path ≡ formats_in old path)
    → formats.items ≡ formats_in old row.path ++ row.puid ∷ []
    → formats_in new path ≡ formats_in old path ++ formats_at (row ∷ []) path
one_added old mid new row path formats set others noted = added_by (bytes_eq row.path path) old mid new row path formats set others noted refl

-- files that differ from gathered formats differ from the rows
pub same_changes : (listed : Held) (rows : List FormatRow) (files : List FileFormats) → ((path : List ℕ) → formats_in listed path ≡ formats_at rows path) → changes_by listed files ≡ changes_in rows files
same_changes listed rows [] same = refl
same_changes listed rows (file ∷ files) same =
    ap (λ (formats : List (List ℕ)). change_if file.path formats file.puids ++ changes_by listed files) (same file.path)
    ∙ ap (λ (more : List FormatChange). change_of rows file ++ more) (same_changes listed rows files same)
