-- Two requests with the same packed number are the same but for the bytes of a piece.
use Rattle.std.proofs.Common.{◌≡◌, ℕ, ◌+◌, ◌-◌, ◌*◌, ◌/◌, ◌%◌, ◌^◌, ◌<◌, cond, eqb, [], Some, refl, sym, ap, ◌∙◌, arith}
use Rattle.std.proofs.lemmas.Bool.{eqb-true}
use Rattle.std.proofs.lemmas.Nat.{same_from_place}
use Rattle.droid_frame.specs.declared.filter.Filter.{Filter}
use Rattle.droid_frame.specs.declared.request.Request.{Request}
use Rattle.droid_frame.specs.declared.request.Request.TheVariants.{CreateProfile, AddFolder, AddFile, Piece, Finish, Abandon, Status, Export}
use Rattle.droid_remote.specs.Numbers.{packed_of}
use Rattle.droid_remote.specs.Sharing.{IsSameAttempt}
use Rattle.droid_remote.specs.Submitted.{IsSubmitted, all_records}
use Rattle.droid_remote.proofs.Ranges.{IsPacked, is_packed, part_divides}
use Rattle.droid_remote.proofs.Texts.{without_bytes}

-- the four fields of a number
record Place : Type 0 where
  pub code : ℕ
  pub profile : ℕ
  pub file : ℕ
  pub index : ℕ

place_is : (a b c d e f g h : ℕ) → a ≡ e → b ≡ f → c ≡ g → d ≡ h
    → ◌≡◌ {A = Place} (record { code = a; profile = b; file = c; index = d }) (record { code = e; profile = f; file = g; index = h })
place_is a b c d e f g h code profile file index = cc

-- a number has one place
one_place : (number : ℕ) (one other : Place) → IsPacked one.code one.profile one.file one.index number → IsPacked other.code other.profile other.file other.index number → one ≡ other
one_place number one other first second =
    let fit = first.fit in
    let fits = second.fit in
    let same : ((one.code * 64 + (one.profile - 1)) * 2 ^ 17 + one.file) * 2 ^ 20 + one.index ≡ ((other.code * 64 + (other.profile - 1)) * 2 ^ 17 + other.file) * 2 ^ 20 + other.index =
    omega (arith, first.number_is, second.number_is) in
    let index = same_from_place ((one.code * 64 + (one.profile - 1)) * 2 ^ 17 + one.file) one.index ((other.code * 64 + (other.profile - 1)) * 2 ^ 17 + other.file) other.index (2 ^ 20) fit.index_fits fits.index_fits same in
    let file = same_from_place (one.code * 64 + (one.profile - 1)) one.file (other.code * 64 + (other.profile - 1)) other.file (2 ^ 17) fit.file_fits fits.file_fits index.0 in
    let below : one.profile - 1 < 64 = omega (arith, fit.few) in
    let other_below : other.profile - 1 < 64 = omega (arith, fits.few) in
    let profile = same_from_place one.code (one.profile - 1) other.code (other.profile - 1) 64 below other_below file.0 in
    let profiles : one.profile ≡ other.profile = omega (arith, profile.1, fit.first, fits.first) in
    place_is one.code one.profile one.file one.index other.code other.profile other.file other.index profile.0 profiles file.1 index.1

-- what a place asks
abbrev asked_at : Place → Request
asked_at place =
    cond (eqb place.code 4) (Piece place.profile place.file place.index [])
    (cond (eqb place.code 5) (Finish place.profile place.file)
    (cond (eqb place.code 6) (Abandon place.profile place.file)
    (cond (eqb place.code 7) (Status place.profile place.file) (Export place.profile (place.index * 2 ^ 20) 1048576 all_records))))

-- the place of a request that has a packed number
record IsAt (request : Request) (number : ℕ) : Type 0 where
  pub place : Place
  pub numbered : IsPacked place.code place.profile place.file place.index number
  pub asks : without_bytes request ≡ asked_at place

abbrev place_of : ℕ → ℕ → ℕ → ℕ → Place
place_of code profile file index = record { code = code; profile = profile; file = file; index = index }

whole_parts : (from : ℕ) → from % 2 ^ 20 ≡ 0 → from ≡ from / 2 ^ 20 * 2 ^ 20
whole_parts from none = omega arith

part_is : (profile from other max : ℕ) (filter : Filter) → from ≡ other → max ≡ 1048576 → filter ≡ all_records → Export profile from max filter ≡ Export profile other 1048576 all_records
part_is profile from other max filter e f g = cc

is_at : (request : Request) (number : ℕ) → packed_of request ≡ Some number → IsSubmitted request → IsAt request number
is_at (CreateProfile scan_limit match_all hash) number e submitted = absurd cc
is_at (AddFolder profile parent modified name) number e submitted = absurd cc
is_at (AddFile profile parent modified size piece_size name) number e submitted = absurd cc
is_at (Piece profile file index bytes) number e submitted = record { place = place_of 4 profile file index; numbered = is_packed 4 profile file index number e; asks = refl }
is_at (Finish profile file) number e submitted = record { place = place_of 5 profile file 0; numbered = is_packed 5 profile file 0 number e; asks = refl }
is_at (Abandon profile file) number e submitted = record { place = place_of 6 profile file 0; numbered = is_packed 6 profile file 0 number e; asks = refl }
is_at (Status profile file) number e submitted = record { place = place_of 7 profile file 0; numbered = is_packed 7 profile file 0 number e; asks = refl }
is_at (Export profile from max filter) number e submitted =
    let part = part_divides profile from number e in
    record {
      place = place_of 0 profile 0 (from / 2 ^ 20);
      numbered = is_packed 0 profile 0 (from / 2 ^ 20) number part.1;
      asks = part_is profile from (from / 2 ^ 20 * 2 ^ 20) max filter (whole_parts from (eqb-true (from % 2 ^ 20) 0 part.0)) submitted.0 submitted.1;
    }

pub same_by_packed : (one other : Request) (number : ℕ) → packed_of one ≡ Some number → packed_of other ≡ Some number → IsSubmitted one → IsSubmitted other → without_bytes one ≡ without_bytes other
same_by_packed one other number e f submitted also =
    let first = is_at one number e submitted in
    let second = is_at other number f also in
    first.asks ∙ (ap asked_at (one_place number first.place second.place first.numbered second.numbered) ∙ sym second.asks)

-- no folder or file has one when it is added
pub no_attempt : (request : Request) (number attempt again : ℕ) → packed_of request ≡ Some number → IsSameAttempt request attempt again
no_attempt (CreateProfile scan_limit match_all hash) number attempt again e = tt
no_attempt (AddFolder profile parent modified name) number attempt again e = absurd cc
no_attempt (AddFile profile parent modified size piece_size name) number attempt again e = absurd cc
no_attempt (Piece profile file index bytes) number attempt again e = tt
no_attempt (Finish profile file) number attempt again e = tt
no_attempt (Abandon profile file) number attempt again e = tt
no_attempt (Status profile file) number attempt again e = tt
no_attempt (Export profile from max filter) number attempt again e = tt
