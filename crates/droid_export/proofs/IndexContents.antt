-- The contents of an index for a list of criteria, and the flags that it sets for a record.
use Rattle.std.proofs.Common.{◌≡◌, ℕ, zero, suc, ◌+◌, ◌<◌, ◌==◌, Bool, true, false, ◌||◌, ◌&&◌, List, [], ◌∷◌, length, take, map, get_or, Some, String, refl, ap, sym, ◌∙◌, arith}
use Rattle.std.specs.BTreeMap.{BTreeMap, get_by_text}
use Rattle.std.specs.List.{list_any, list_all, slice_get}
use Rattle.std.specs.Str.{str_to_ascii_lowercase, bytes_eq}
use Rattle.std.specs.declared.vec.Vec.{Vec}
use Rattle.std.specs.declared.alloc.Global.{Global}
use Rattle.std.specs.Map.{update}
use Rattle.std.specs.Option.{option_map_or, unwrap_or}
use Rattle.std.specs.Prelude.{if◌then◌else◌, cond, Option, None}
use Rattle.std.proofs.Math.Bool.{or-false}
use Rattle.std.proofs.lemmas.Bool.{false_from_ne_true}
use Rattle.std.proofs.lemmas.Slice.Eq.{bytes_eq-Decides}
use Rattle.std.proofs.lemmas.List.{map-append, length-map, length-take-le}
use Rattle.std.proofs.lemmas.Option.{slice_get_within}
use Rattle.droid_frame.specs.declared.criterion.Criterion.{Criterion}
use Rattle.droid_frame.specs.declared.criterion.Criterion.TheVariants.{MethodIs, PuidIn, ExtIn, MismatchIs, SizeAtLeast, SizeAtMost, KindIs}
use Rattle.droid_frame.specs.declared.record.Record.{Record}
use Rattle.droid_frame.specs.declared.filter.Filter.{Filter}
use Rattle.droid_export.specs.Filters.{extension, is_met, is_none, meets}
use Rattle.droid_export.specs.Index.{IsIndex, asks_extension, asks_identifier, has_key, is_met_plainly, names, places_of}
use Rattle.droid_export.specs.declared.index.Index.{Index}
use Rattle.droid_export.proofs.FlagMarks.{all_of_flags, any_of_flags, any_same, last_place, same_flags}
use Rattle.droid_export.proofs.TextConcatenation.{take_one}

-- the places that a map has, or none
pub items_or : (found : Option (Vec ℕ Global)) (none : Vec ℕ Global) → none.items ≡ [] → (unwrap_or found none).items ≡ option_map_or (λ places. places.items) found []
items_or None none empty = empty
items_or (Some places) none empty = refl

-- whether a place is among those that were found
abbrev has_place : Option (Vec ℕ Global) → ℕ → Bool
has_place found spot = list_any (λ place. place == spot) (option_map_or (λ places. places.items) found [])

-- one text taken out
pub removed : (old new : BTreeMap (String Global) (Vec ℕ Global)) (text other : List ℕ)
    → get_by_text new other ≡ update bytes_eq (get_by_text old) text None other → bytes_eq text other ≡ false → places_of new other ≡ places_of old other
removed old new text other kept is =
    ap (λ (found : Option (Vec ℕ Global)). option_map_or (λ places. places.items) found []) (kept ∙ ap (λ (t : Bool). cond t None (get_by_text old other)) is)

-- a place added to one text
added_by : (t : Bool) (old mid new : BTreeMap (String Global) (Vec ℕ Global)) (key text : List ℕ) (places : Vec ℕ Global) (place spot : ℕ)
    → ((other : List ℕ) → get_by_text new other ≡ update bytes_eq (get_by_text mid) key (Some places) other)
    → ((other : List ℕ) → bytes_eq key other ≡ false → places_of mid other ≡ places_of old other)
    → list_any (λ it. it == spot) places.items ≡ (names old key spot || (place == spot)) → bytes_eq key text ≡ t
    → names new text spot ≡ (names old text spot || (bytes_eq text key && (place == spot)))
added_by true old mid new key text places place spot set others noted is =
    let same : key ≡ text = (bytes_eq-Decides key text).0 is in
    let back : true ≡ bytes_eq text key = sym ((bytes_eq-Decides text key).1 (sym same)) in
    ap (λ (found : Option (Vec ℕ Global)). has_place found spot) (set text)
    ∙ (ap (λ (t : Bool). has_place (cond t (Some places) (get_by_text mid text)) spot) is
    ∙ (noted
    ∙ (ap (λ (bytes : List ℕ). (names old bytes spot || (place == spot))) same
    ∙ ap (λ (t : Bool). (names old text spot || (t && (place == spot)))) back)))
added_by false old mid new key text places place spot set others noted is =
    let back : bytes_eq text key ≡ false = false_from_ne_true _ (λ yes. let same = (bytes_eq-Decides text key).0 yes in let again = (bytes_eq-Decides key text).1 (sym same) in cc) in
    ap (λ (found : Option (Vec ℕ Global)). has_place found spot) (set text)
    ∙ (ap (λ (t : Bool). has_place (cond t (Some places) (get_by_text mid text)) spot) is
    ∙ (ap (λ (found : List ℕ). list_any (λ it. it == spot) found) (others text is)
    ∙ (sym (or-false _)
    ∙ ap (λ (t : Bool). (names old text spot || (t && (place == spot)))) (sym back))))

pub one_added : (old mid new : BTreeMap (String Global) (Vec ℕ Global)) (key text : List ℕ) (places : Vec ℕ Global) (place spot : ℕ)
    → ((other : List ℕ) → get_by_text new other ≡ update bytes_eq (get_by_text mid) key (Some places) other)
    → ((other : List ℕ) → bytes_eq key other ≡ false → places_of mid other ≡ places_of old other)
    → list_any (λ it. it == spot) places.items ≡ (names old key spot || (place == spot))
    → names new text spot ≡ (names old text spot || (bytes_eq text key && (place == spot)))
one_added old mid new key text places place spot set others noted = added_by (bytes_eq key text) old mid new key text places place spot set others noted refl

-- one criterion more
pub more_criteria : (f : Criterion → Bool) (criteria : List Criterion) (k : ℕ) (criterion : Criterion) (spot : ℕ) → slice_get criteria k ≡ Some criterion
    → get_or (map f (take (k + 1) criteria)) spot false ≡ (get_or (map f (take k criteria)) spot false || (f criterion && (k == spot)))
more_criteria f criteria k criterion spot here =
    let below : k < length criteria = slice_get_within criteria k criterion here in
    let long : length (map f (take k criteria)) ≡ k = length-map (take k criteria) f ∙ length-take-le k criteria (omega arith) in
    rw (take_one criteria k criterion here, map-append f (take k criteria) (criterion ∷ []))
    (last_place (map f (take k criteria)) (f criterion) spot ∙ ap (λ (n : ℕ). (get_or (map f (take k criteria)) spot false || (f criterion && (n == spot)))) long)

-- no identifier is asked for
none_asked : (puids : List (List ℕ)) → list_any (λ puid. false) puids ≡ false
none_asked [] = refl
none_asked (puid ∷ puids) = none_asked puids

plain_alone : (b : Bool) (puids : List (List ℕ)) → ((b || list_any (λ puid. false) puids) || false) ≡ b
plain_alone b puids = or-false _ ∙ (ap (λ (other : Bool). (b || other)) (none_asked puids) ∙ or-false b)

-- a criterion is met plainly, or by its identifiers, or by its extensions
criterion_met : (node : Record) (criterion : Criterion)
    → ((is_met_plainly node criterion || list_any (λ puid. asks_identifier puid criterion) node.puids) || asks_extension (str_to_ascii_lowercase (extension node)) criterion) ≡ is_met node criterion
unfolding is_met_plainly asks_identifier asks_extension is_met
criterion_met node (MethodIs method) = plain_alone _ node.puids
criterion_met node (PuidIn texts) = or-false _
criterion_met node (ExtIn texts) = ap (λ (other : Bool). ((false || other) || has_key true texts (str_to_ascii_lowercase (extension node)))) (none_asked node.puids)
criterion_met node (MismatchIs wanted) = plain_alone _ node.puids
criterion_met node (SizeAtLeast size) = plain_alone _ node.puids
criterion_met node (SizeAtMost size) = plain_alone _ node.puids
criterion_met node (KindIs kind) = plain_alone _ node.puids

-- the same at a place of the flags
pub flag_met : (node : Record) (criteria : List Criterion) (spot : ℕ)
    → ((get_or (map (is_met_plainly node) criteria) spot false || list_any (λ puid. get_or (map (asks_identifier puid) criteria) spot false) node.puids)
    || get_or (map (asks_extension (str_to_ascii_lowercase (extension node))) criteria) spot false)
    ≡ get_or (map (is_met node) criteria) spot false
flag_met node [] zero = plain_alone false node.puids
flag_met node [] (suc spot) = plain_alone false node.puids
flag_met node (criterion ∷ criteria) zero = criterion_met node criterion
flag_met node (criterion ∷ criteria) (suc spot) = flag_met node criteria spot

-- the flags that look-ups set
pub marked_flags : (node : Record) (criteria : List Criterion) (index : Index) (plain named marked : List Bool) (places : List ℕ) → IsIndex criteria index
    → plain ≡ map (is_met_plainly node) criteria → length named ≡ length plain → length marked ≡ length named
    → ((spot : ℕ) → spot < length plain → get_or named spot false ≡ (get_or plain spot false || list_any (λ puid. names index.identifiers puid spot) node.puids))
    → places ≡ places_of index.extensions (str_to_ascii_lowercase (extension node))
    → ((spot : ℕ) → spot < length named → get_or marked spot false ≡ (get_or named spot false || list_any (λ place. place == spot) places))
    → marked ≡ map (is_met node) criteria
marked_flags node criteria index plain named marked places is plainly long longer identified found extended =
    same_flags marked (map (is_met node) criteria) (longer ∙ (long ∙ (ap length plainly ∙ (length-map criteria (is_met_plainly node) ∙ sym (length-map criteria (is_met node))))))
    (λ spot below.
    let ext : List ℕ = str_to_ascii_lowercase (extension node) in
    let by_extension : list_any (λ place. place == spot) places ≡ get_or (map (asks_extension ext) criteria) spot false =
    ap (λ (xs : List ℕ). list_any (λ place. place == spot) xs) found ∙ is.extensions ext spot in
    let by_identifier : list_any (λ puid. names index.identifiers puid spot) node.puids ≡ list_any (λ puid. get_or (map (asks_identifier puid) criteria) spot false) node.puids =
    any_same (λ puid. names index.identifiers puid spot) (λ puid. get_or (map (asks_identifier puid) criteria) spot false) (λ puid. is.identifiers puid spot) node.puids in
    rw (extended spot (omega arith), identified spot (omega arith), by_identifier, by_extension, plainly) (flag_met node criteria spot))

-- the flags joined
joined_by : (all : Bool) (node : Record) (criteria : List Criterion) → (criteria ≡ [] → ⊥)
    → (if all then list_all (λ flag. flag) (map (is_met node) criteria) else list_any (λ flag. flag) (map (is_met node) criteria))
    ≡ (if all then list_all (is_met node) criteria else (is_none criteria || list_any (is_met node) criteria))
joined_by true node criteria some = all_of_flags (is_met node) criteria
joined_by false node [] some = absurd (some refl)
joined_by false node (criterion ∷ criteria) some = any_of_flags (is_met node) (criterion ∷ criteria)

pub joined_flags : (filter : Filter) (node : Record) → (filter.criteria ≡ [] → ⊥)
    → (if filter.all then list_all (λ flag. flag) (map (is_met node) filter.criteria) else list_any (λ flag. flag) (map (is_met node) filter.criteria)) ≡ meets filter node
unfolding meets
joined_flags filter node some = joined_by filter.all node filter.criteria some
