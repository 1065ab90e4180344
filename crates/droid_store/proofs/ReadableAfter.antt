-- Rows can be read back, also after each change; and what is found of them can.
use Rattle.std.proofs.Common.{◌≡◌, ◌<◌, ◌≤◌, ◌^◌, ◌==◌, inl, inr, ℕ, zero, suc, List, [], ◌∷◌, length, map, find, filter, slice_get, Bool, true, false, not, Some, None, if◌then◌else◌, IsTrue, IsUtf8, refl, subst, arith}
use Rattle.std.proofs.lemmas.Bool.{cases_Bool, and_parts, eqb-true}
use Rattle.std.specs.List.{AllByRecursion}
use Rattle.droid_frame.specs.Hashes.{hash_bytes, IsHashValue}
use Rattle.droid_frame.specs.declared.hash_kind.HashKind.{HashKind}
use Rattle.droid_frame.specs.declared.hash_value.HashValue.{HashValue}
use Rattle.droid_frame.specs.declared.hash_value.HashValue.TheVariants as hashes
use Rattle.droid_frame.specs.declared.method.Method.{Method}
use Rattle.droid_store.specs.declared.rows.Entry.{Entry}
use Rattle.droid_store.specs.declared.rows.ProfileRow.{ProfileRow}
use Rattle.droid_store.specs.Changes.{with_reply, with_profile, with_node, counted, finished, with_finished, without_node}
use Rattle.droid_store.specs.Encoded.{joined}
use Rattle.droid_store.specs.Ranges.{is_hash_length, ProfileFits, NodeFits, EntryFits, AreReadable}
use Rattle.droid_store.specs.Rows.{Node, Rows, no_rows, is_node, is_child, is_for, profile_at, node_at, child_at, reply_for}
use Rattle.droid_store.proofs.NodeEffects.{all_last}

pub nothing_read : AreReadable no_rows
nothing_read = record { profiles = tt; nodes = tt; replies = tt }

pub readable_with_reply : (e : Entry) (rows : Rows) → EntryFits e → AreReadable rows → AreReadable (with_reply e rows)
readable_with_reply e rows fits all = record { profiles = all.profiles; nodes = all.nodes; replies = all_last EntryFits rows.replies e all.replies fits }

pub readable_with_profile : (scan_limit : ℕ) (match_all : Bool) (hash : HashKind) (rows : Rows) → scan_limit < 2 ^ 32 → AreReadable rows → AreReadable (with_profile scan_limit match_all hash rows)
readable_with_profile scan_limit match_all hash rows low all = record {
  profiles = all_last ProfileFits rows.profiles (record { scan_limit = scan_limit; match_all = match_all; nodes = 0; hash = hash }) all.profiles (record { scan_limit = low; nodes = omega arith });
  nodes = all.nodes;
  replies = all.replies;
}

counted_fits : (profile count : ℕ) (ps : List ProfileRow) → count < 2 ^ 32 → AllByRecursion ProfileFits ps → AllByRecursion ProfileFits (counted profile count ps)
counted_fits profile count [] low all = tt
counted_fits zero count (p ∷ ps) low all = all
counted_fits (suc zero) count (p ∷ ps) low all = (record { scan_limit = all.0.scan_limit; nodes = low }, all.1)
counted_fits (suc (suc profile)) count (p ∷ ps) low all = (all.0, counted_fits (suc profile) count ps low all.1)

pub readable_with_node : (n : Node) (rows : Rows) → NodeFits n → AreReadable rows → AreReadable (with_node n rows)
readable_with_node n rows fits all = record { profiles = counted_fits n.profile n.id rows.profiles fits.id all.profiles; nodes = all_last NodeFits rows.nodes n all.nodes fits; replies = all.replies }

pub is_length : (hash : HashValue) → IsHashValue hash → IsTrue (is_hash_length (length (hash_bytes hash)))
is_length hashes.Nothing is = refl
is_length (hashes.Md5 digest) is = rw is.0 refl
is_length (hashes.Sha256 digest) is = rw is.0 refl

module _ (profile file : ℕ) (method : Method) (mismatch : Bool) (hash : HashValue) (puids : List (List ℕ)) (of_length : IsTrue (is_hash_length (length (hash_bytes hash)))) (text : IsUtf8 (joined puids)) where
  finished_fits : (ns : List Node) → AllByRecursion NodeFits ns → AllByRecursion NodeFits (map (λ n. if is_node profile file n then finished method mismatch hash puids n else n) ns)
  finished_fits [] all = tt
  finished_fits (n ∷ ns) all = (one (is_node profile file n), finished_fits ns all.1)
    where
      one : (b : Bool) → NodeFits (if b then finished method mismatch hash puids n else n)
      one true = let fits = all.0 in record { id = fits.id; parent = fits.parent; piece_size = fits.piece_size; name = fits.name; path = fits.path; formats = text; hash = of_length }
      one false = all.0

  pub readable_with_finished : (rows : Rows) → AreReadable rows → AreReadable (with_finished profile file method mismatch hash puids rows)
  readable_with_finished rows all = record { profiles = all.profiles; nodes = finished_fits rows.nodes all.nodes; replies = all.replies }

left_fits : (p : Node → Bool) (ns : List Node) → AllByRecursion NodeFits ns → AllByRecursion NodeFits (filter p ns)
left_fits p [] all = tt
left_fits p (n ∷ ns) all = elim (cases_Bool (p n)) [
  | inl is ↦ rw is (all.0, left_fits p ns all.1)
  | inr isnt ↦ rw isnt (left_fits p ns all.1)
]

pub readable_without_node : (profile file : ℕ) (rows : Rows) → AreReadable rows → AreReadable (without_node profile file rows)
readable_without_node profile file rows all = record { profiles = all.profiles; nodes = left_fits (λ n. not (is_node profile file n)) rows.nodes all.nodes; replies = all.replies }

-- ---- what is found

found_has : {X : Type 0} (P : X → Type 0) (p : X → Bool) (xs : List X) (x : X) → AllByRecursion P xs → find p xs ≡ Some x → P x
found_has P p [] x all is = absurd cc
found_has P p (y ∷ ys) x all is = elim (cases_Bool (p y)) [
  | inl passes ↦ let same : y ≡ x = (let it = rw passes at is in cc) in subst P same all.0
  | inr fails ↦ found_has P p ys x all.1 (rw fails at is)
]

place_has : {X : Type 0} (P : X → Type 0) (xs : List X) (place : ℕ) (x : X) → AllByRecursion P xs → slice_get xs place ≡ Some x → P x
place_has P [] place x all is = absurd cc
place_has P (y ∷ ys) zero x all is = let same : y ≡ x = cc in subst P same all.0
place_has P (y ∷ ys) (suc place) x all is = place_has P ys place x all.1 is

pub node_readable : (profile id : ℕ) (rows : Rows) (n : Node) → AreReadable rows → node_at profile id rows ≡ Some n → NodeFits n
node_readable profile id rows n all is = found_has NodeFits (is_node profile id) rows.nodes n all.nodes is

pub child_readable : (profile parent : ℕ) (name : List ℕ) (rows : Rows) (n : Node) → AreReadable rows → child_at profile parent name rows ≡ Some n → NodeFits n
child_readable profile parent name rows n all is = found_has NodeFits (is_child profile parent name) rows.nodes n all.nodes is

pub reply_readable : (client number : ℕ) (rows : Rows) (e : Entry) → AreReadable rows → reply_for client number rows ≡ Some e → EntryFits e
reply_readable client number rows e all is = found_has EntryFits (is_for client number) rows.replies e all.replies is

-- no row has a number of 2^63 or more
none_of_number : (client number : ℕ) (es : List Entry) → AllByRecursion EntryFits es → 2 ^ 63 ≤ number → find (is_for client number) es ≡ None
none_of_number client number [] all past = refl
none_of_number client number (e ∷ es) all past = elim (cases_Bool (is_for client number e)) [
  | inl is ↦ let same = eqb-true e.number number (and_parts (e.client == client) (e.number == number) is).1 in
      let low = all.0.number in
      absurd (omega (arith, same, low, past))
  | inr isnt ↦ rw isnt (none_of_number client number es all.1 past)
]

pub none_past : (client number : ℕ) (rows : Rows) → AreReadable rows → 2 ^ 63 ≤ number → reply_for client number rows ≡ None
none_past client number rows all past = none_of_number client number rows.replies all.replies past

pub profile_readable : (profile : ℕ) (rows : Rows) (p : ProfileRow) → AreReadable rows → profile_at profile rows ≡ Some p → ProfileFits p
profile_readable zero rows p all is = absurd cc
profile_readable (suc place) rows p all is = place_has ProfileFits rows.profiles place p all.profiles is

pub all_readable : (p : Node → Bool) (rows : Rows) → AreReadable rows → AllByRecursion NodeFits (filter p rows.nodes)
all_readable p rows all = left_fits p rows.nodes all.nodes
