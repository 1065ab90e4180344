-- What a part of an export shows, and of which records one can be made.
use Rattle.std.proofs.Common.{◌≡◌, inl, inr, ℕ, zero, suc, ◌+◌, ◌<◌, ◌≤◌, ℤ, pos, negsuc, T, true, false, not, nat_le, IsTrue, List, [], ◌∷◌, length, drop, get_or, Some, None, refl, sym, subst, arith}
use Rattle.std.proofs.lemmas.Bool.{cases_Bool, and_parts, leb-true}
use Rattle.std.proofs.lemmas.Int.{ints}
use Rattle.std.specs.Int.Signed.{lt_z, lt_z_no}
use Rattle.std.specs.List.{AllByRecursion}
use Rattle.std.specs.Prelude.{◌≤ℤ◌}
use Rattle.droid_export.specs.Moments.{IsMoment}
use Rattle.droid_export.specs.Text.{text}
use Rattle.droid_frame.specs.declared.filter.Filter.{Filter}
use Rattle.droid_frame.specs.declared.refusal.Refusal.{Refusal}
use Rattle.droid_frame.specs.declared.refusal.Refusal.TheVariants.{NoSuchProfile}
use Rattle.droid_core_spec.specs.Conditions.{is_moment, is_part_size}
use Rattle.droid_core_spec.specs.Exported.{part, part_of}
use Rattle.droid_core_spec.specs.Judging.{Answered, Refuses, refusal_of, export_checks, judge_export}
use Rattle.droid_core_spec.specs.Records.{records}
use Rattle.droid_core_spec.specs.Setting.{Setting}
use Rattle.droid_core_spec.specs.World.{Profile, World, numbered}
use Rattle.droid_core.proofs.LookUps.{records_found}
use Rattle.droid_store.specs.Rows.{records_of}
use Rattle.droid_core.specs.declared.holdings.Holdings.{Holdings}
use Rattle.droid_core.specs.HoldingsStanding.{IsIn}

-- ---- records

-- the moments that requests may name are those that can be written
pub moment_written : (seconds : ℤ) → IsTrue (is_moment seconds) → IsMoment seconds
unfolding is_moment
moment_written seconds is =
    let parts = and_parts (not (lt_z seconds (negsuc 62135596799))) (not (lt_z (pos 253402300799) seconds)) is in
    (lt_z_no (subst T (sym parts.0) tt), lt_z_no (subst T (sym parts.1) tt))

-- and one that can be written is in range
pub moment_in_range : (seconds : ℤ) → IsMoment seconds → is_moment seconds ≡ true
unfolding is_moment
moment_in_range seconds is =
    let low : negsuc 62135596799 ≤ℤ seconds = is.0 in
    let high : seconds ≤ℤ pos 253402300799 = is.1 in
    let not_below : lt_z seconds (negsuc 62135596799) ≡ false = grind (arith, ints) in
    let not_above : lt_z (pos 253402300799) seconds ≡ false = grind (arith, ints) in
    rw (not_below, not_above) refl

pub each_at : {X : Type 0} (P : X → Type 0) (items : List X) (place : ℕ) (item : X) → place < length items → item ≡ get_or items place item → AllByRecursion P items → P item
each_at P [] place item within is all = absurd (omega arith)
each_at P (first ∷ items) zero item within is all = subst P (sym is) all.0
each_at P (first ∷ items) (suc place) item within is all = each_at P items place item (omega arith) is all.1

all_from : {X : Type 0} (P : X → Type 0) (items : List X) (place : ℕ) (item : X) → place < length items → item ≡ get_or items place item → P item
    → AllByRecursion P (drop (suc place) items) → AllByRecursion P (drop place items)
all_from P [] place item within is it later = absurd (omega arith)
all_from P (first ∷ items) zero item within is it later = (subst P is it, later)
all_from P (first ∷ items) (suc place) item within is it later = all_from P items place item (omega arith) is it later

-- what holds of an item and of those after it
pub all_with : {X : Type 0} (P : X → Type 0) (items : List X) (place : ℕ) (item : X) → place < length items → item ≡ get_or items place item → P item
    → AllByRecursion P (drop (place + 1) items) → AllByRecursion P (drop place items)
all_with P items place item within is it later =
    let next : place + 1 ≡ suc place = omega arith in
    all_from P items place item within is it (subst (λ n. AllByRecursion P (drop n items)) next later)

-- ---- what judging an export comes to

module _ (setting : Setting) (world : World) (number from max : ℕ) (filter : Filter) where
  pub export_nowhere : numbered world.profiles number ≡ None → judge_export setting world number from max filter ≡ Refuses NoSuchProfile
  unfolding judge_export
  export_nowhere missing = rw missing refl

  pub export_refused : (profile : Profile) (refusal : Refusal) → numbered world.profiles number ≡ Some profile → Some refusal ≡ refusal_of (export_checks max)
      → judge_export setting world number from max filter ≡ Refuses refusal
  unfolding judge_export
  export_refused profile refusal there refused = rw (there, ← refused) refl

  pub export_shown : (profile : Profile) → numbered world.profiles number ≡ Some profile → None ≡ refusal_of (export_checks max)
      → judge_export setting world number from max filter ≡ Answered (part_of setting world.accepted profile from max filter)
  unfolding judge_export
  export_shown profile there allowed = rw (there, ← allowed) refl

-- a part that nothing refuses has at most 1,048,576 bytes
pub part_within : (max : ℕ) → None ≡ refusal_of (export_checks max) → max ≤ 1048576
unfolding is_part_size
part_within max allowed = elim (cases_Bool (is_part_size max)) [
  | inl is ↦ leb-true max 1048576 (and_parts (nat_le 1 max) (nat_le max 1048576) is).1
  | inr isnt ↦ absurd (let it = rw isnt at allowed in cc)
]

-- ---- the part itself

-- the text of the rows' records is the export of the world's profile
pub text_shown : (setting : Setting) (world : World) (service : Holdings) (number : ℕ) (filter : Filter) (profile : Profile) → IsIn setting world service → numbered world.profiles number ≡ Some profile
    → text service.registry filter profile.hash (records_of number service.store) ≡ setting.export_text (records setting profile) filter profile.hash
text_shown setting world service number filter profile is_in there =
    let found = records_found setting world service.store number profile is_in.rows.nodes there in
    let shown = is_in.is_setting.registry.exports (records setting profile) filter profile.hash in
    rw (found, shown) refl

-- a part of it, with the number of the accepted commands, is the part that is asked for
pub part_shown : (setting : Setting) (world : World) (service : Holdings) (accepted from max : ℕ) (filter : Filter) (profile : Profile) (bytes : List ℕ) → IsIn setting world service → accepted ≡ length service.store.replies
    → bytes ≡ setting.export_text (records setting profile) filter profile.hash → part accepted bytes from max ≡ part_of setting world.accepted profile from max filter
part_shown setting world service accepted from max filter profile bytes is_in counted shown = rw (counted, is_in.rows.accepted, shown) refl
