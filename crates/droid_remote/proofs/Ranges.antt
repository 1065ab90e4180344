-- Packed numbers are below 2^46, and those by a digest from 2^62 to 2^63.
use Rattle.std.proofs.Common.{◌≡◌, ℕ, zero, suc, ◌+◌, ◌-◌, ◌*◌, ◌/◌, ◌%◌, ◌^◌, ◌<◌, ◌≤◌, ◌&&◌, Bool, true, false, cond, eqb, leb, ltb, List, take, Option, Some, None, refl, arith}
use Rattle.std.specs.Int.{w32, w64, from_be_bytes, to_be_bytes}
use Rattle.std.specs.Prelude.{slice_index, unwrap_or}
use Rattle.std.proofs.lemmas.Bool.{and_parts, leb-true, ltb-true}
use Rattle.sha2.specs.Sha256.{digest_bytes, final_hash, initial_hash_256, sha256}
use Rattle.droid_frame.proofs.ByteLists.{IsBytes-append, IsBytes-nil, number_bytes}
use Rattle.droid_frame.specs.Fields.{IsBytes}
use Rattle.droid_frame.specs.declared.request.Request.{Request}
use Rattle.droid_frame.specs.declared.request.Request.TheVariants.{CreateProfile, AddFolder, AddFile, Piece, Finish, Abandon, Status, Export}
use Rattle.droid_remote.specs.Numbers.{digest_number, first_bits, fits_fields, number_of, packed, packed_of, packed_part, text_of}
use Rattle.droid_remote.proofs.Fronts.{small_8, take_bytes}

-- ---- packed numbers

-- the fields of a packed number are in their ranges
pub record Fit (profile file index : ℕ) : Type 0 where
  pub first : 1 ≤ profile
  pub few : profile ≤ 64
  pub file_fits : file < 2 ^ 17
  pub index_fits : index < 2 ^ 20

pub fields_fit : (profile file index : ℕ) → fits_fields profile file index ≡ true → Fit profile file index
fields_fit profile file index fits =
    let three = and_parts (leb 1 profile && leb profile 64 && ltb file (2 ^ 17)) (ltb index (2 ^ 20)) fits in
    let two = and_parts (leb 1 profile && leb profile 64) (ltb file (2 ^ 17)) three.0 in
    let one = and_parts (leb 1 profile) (leb profile 64) two.0 in
    record {
      first = leb-true 1 profile one.0;
      few = leb-true profile 64 one.1;
      file_fits = ltb-true file (2 ^ 17) two.1;
      index_fits = ltb-true index (2 ^ 20) three.1;
    }

-- what a packed number is made of
pub record IsPacked (code profile file index number : ℕ) : Type 0 where
  pub fit : Fit profile file index
  pub number_is : number ≡ code * 2 ^ 43 + (profile - 1) * 2 ^ 37 + file * 2 ^ 20 + index

where_fit : (fits : Bool) (profile file index sum number : ℕ) → (fits ≡ true → Fit profile file index) → cond fits (Some sum) None ≡ Some number → Fit profile file index × (number ≡ sum)
where_fit true profile file index sum number fit e = (fit refl, cc)
where_fit false profile file index sum number fit e = absurd cc

pub is_packed : (code profile file index number : ℕ) → packed code profile file index ≡ Some number → IsPacked code profile file index number
is_packed code profile file index number e =
    let found = where_fit (fits_fields profile file index) profile file index (code * 2 ^ 43 + (profile - 1) * 2 ^ 37 + file * 2 ^ 20 + index) number (fields_fit profile file index) e in
    record { fit = found.0; number_is = found.1 }

packed_below : (code profile file index number : ℕ) → code < 8 → packed code profile file index ≡ Some number → number < 2 ^ 46
packed_below code profile file index number small e =
    let is = is_packed code profile file index number e in
    let fit = is.fit in
    omega (arith, is.number_is, fit.few, fit.file_fits, fit.index_fits)

if_divides : (divides : Bool) (found : Option ℕ) (number : ℕ) → cond divides found None ≡ Some number → (divides ≡ true) × (found ≡ Some number)
if_divides true found number e = (refl, e)
if_divides false found number e = absurd cc

pub part_divides : (profile from number : ℕ) → packed_part profile from ≡ Some number → (eqb (from % 2 ^ 20) 0 ≡ true) × (packed 0 profile 0 (from / 2 ^ 20) ≡ Some number)
part_divides profile from number e = if_divides (eqb (from % 2 ^ 20) 0) (packed 0 profile 0 (from / 2 ^ 20)) number e

pub packed_of-below : (request : Request) (number : ℕ) → packed_of request ≡ Some number → number < 2 ^ 46
packed_of-below (CreateProfile scan_limit match_all hash) number e = absurd cc
packed_of-below (AddFolder profile parent modified name) number e = absurd cc
packed_of-below (AddFile profile parent modified size piece_size name) number e = absurd cc
packed_of-below (Piece profile file index bytes) number e = packed_below 4 profile file index number (omega arith) e
packed_of-below (Finish profile file) number e = packed_below 5 profile file 0 number (omega arith) e
packed_of-below (Abandon profile file) number e = packed_below 6 profile file 0 number (omega arith) e
packed_of-below (Status profile file) number e = packed_below 7 profile file 0 number (omega arith) e
packed_of-below (Export profile from max filter) number e = packed_below 0 profile 0 (from / 2 ^ 20) number (omega arith) (part_divides profile from number e).1

-- ---- numbers by a digest

words_bytes : (hash : List ℕ) (count : ℕ) → IsBytes (digest_bytes hash count)
unfolding digest_bytes
words_bytes hash zero = IsBytes-nil
words_bytes hash (suc count) = IsBytes-append (digest_bytes hash count) (to_be_bytes w32 (slice_index hash count)) (words_bytes hash count) (number_bytes w32 (slice_index hash count))

sha256_bytes : (text : List ℕ) → IsBytes (sha256 text)
unfolding sha256
sha256_bytes text = words_bytes (final_hash initial_hash_256 text) 8

quarter : (n : ℕ) → n < 2 ^ 64 → n / 2 ^ 2 < 2 ^ 62
quarter n small = omega arith

pub first_bits-below : (text : List ℕ) → first_bits text < 2 ^ 62
unfolding first_bits
first_bits-below text = quarter (from_be_bytes w64 (take 8 (sha256 text))) (small_8 (take 8 (sha256 text)) (take_bytes 8 (sha256 text) (sha256_bytes text)))

pub digest_number-from : (text : List ℕ) → 2 ^ 62 ≤ digest_number text
digest_number-from text = omega arith

-- ---- all numbers

either_below : (found : Option ℕ) (text : List ℕ) → ((number : ℕ) → found ≡ Some number → number < 2 ^ 46) → unwrap_or found (digest_number text) < 2 ^ 63
either_below (Some number) text small = omega (arith, small number refl)
either_below None text small = omega (arith, first_bits-below text)

pub number_of-below : (name : List ℕ) (attempt : ℕ) (request : Request) → number_of name attempt request < 2 ^ 63
number_of-below name attempt request = either_below (packed_of request) (text_of name attempt request) (packed_of-below request)
