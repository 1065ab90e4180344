-- Two requests of one submission with the same number are the same but for the bytes of a piece and the options of the
-- profile, or their digests meet.
use Rattle.std.proofs.Common.{◌≡◌, ◌≢◌, ℕ, Bool, true, false, List, [], Option, Some, None, refl, sym, ap, ◌∙◌, arith}
use Rattle.std.specs.Prelude.{bytes_eq, unwrap_or}
use Rattle.std.proofs.lemmas.Slice.Eq.{bytes_eq-Decides}
use Rattle.droid_frame.specs.Bodies.{request_kind}
use Rattle.droid_frame.specs.declared.request.Request.{Request}
use Rattle.droid_frame.specs.declared.request.Request.TheVariants.{CreateProfile, AddFolder, AddFile, Piece, Finish, Abandon, Status, Export}
use Rattle.droid_remote.specs.Numbers.{digest_number, first_bits, packed_of, text_of}
use Rattle.droid_remote.specs.Sharing.{Digests, EqualNumbersAskTheSame, IsAsked, IsSameAttempt, Pieces, Profiles, Same, SharesNumber}
use Rattle.droid_remote.proofs.Packing.{no_attempt, same_by_packed}
use Rattle.droid_remote.proofs.Ranges.{digest_number-from, packed_of-below}
use Rattle.droid_remote.proofs.Texts.{kind_stays, same_attempt, same_by_text, without_bytes}

-- ---- requests that are the same without their bytes

record IsPieceAt (profile file index : ℕ) (request : Request) : Type 0 where
  pub bytes : List ℕ
  pub is : request ≡ Piece profile file index bytes

piece_with_bytes : (profile file index : ℕ) (request : Request) → without_bytes request ≡ Piece profile file index [] → IsPieceAt profile file index request
piece_with_bytes profile file index (CreateProfile scan_limit match_all hash) e = absurd cc
piece_with_bytes profile file index (AddFolder its_profile parent modified name) e = absurd cc
piece_with_bytes profile file index (AddFile its_profile parent modified size piece_size name) e = absurd cc
piece_with_bytes profile file index (Piece its_profile its_file its_index bytes) e = record { bytes = bytes; is = cc }
piece_with_bytes profile file index (Finish its_profile its_file) e = absurd cc
piece_with_bytes profile file index (Abandon its_profile its_file) e = absurd cc
piece_with_bytes profile file index (Status its_profile its_file) e = absurd cc
piece_with_bytes profile file index (Export its_profile from max filter) e = absurd cc

-- no other request has any
whole : (request known : Request) → without_bytes request ≡ known → request_kind known ≢ 1 → request_kind known ≢ 4 → request ≡ known
whole (CreateProfile scan_limit match_all hash) known e no_profile no_piece = absurd (no_profile (ap request_kind (sym e)))
whole (AddFolder profile parent modified name) known e no_profile no_piece = e
whole (AddFile profile parent modified size piece_size name) known e no_profile no_piece = e
whole (Piece profile file index bytes) known e no_profile no_piece = absurd (no_piece (ap request_kind (sym e)))
whole (Finish profile file) known e no_profile no_piece = e
whole (Abandon profile file) known e no_profile no_piece = e
whole (Status profile file) known e no_profile no_piece = e
whole (Export profile from max filter) known e no_profile no_piece = e

module _ (name : List ℕ) (attempt again : ℕ) where
  share : (one other : Request) → without_bytes one ≡ without_bytes other → IsSameAttempt one attempt again → SharesNumber name attempt again one other
  share (CreateProfile scan_limit match_all hash) other e same = Profiles refl (sym (kind_stays other) ∙ ap request_kind (sym e))
  share (AddFolder profile parent modified own_name) other e same =
      Same (sym (whole other (AddFolder profile parent modified own_name) (sym e) (λ is. omega arith) (λ is. omega arith))) same
  share (AddFile profile parent modified size piece_size own_name) other e same =
      Same (sym (whole other (AddFile profile parent modified size piece_size own_name) (sym e) (λ is. omega arith) (λ is. omega arith))) same
  share (Piece profile file index bytes) other e same =
      let piece = piece_with_bytes profile file index other (sym e) in
      Pieces profile file index bytes piece.bytes refl piece.is
  share (Finish profile file) other e same = Same (sym (whole other (Finish profile file) (sym e) (λ is. omega arith) (λ is. omega arith))) same
  share (Abandon profile file) other e same = Same (sym (whole other (Abandon profile file) (sym e) (λ is. omega arith) (λ is. omega arith))) same
  share (Status profile file) other e same = Same (sym (whole other (Status profile file) (sym e) (λ is. omega arith) (λ is. omega arith))) same
  share (Export profile from max filter) other e same = Same (sym (whole other (Export profile from max filter) (sym e) (λ is. omega arith) (λ is. omega arith))) same

-- ---- by their numbers

module _ (name : List ℕ) (attempt again : ℕ) (one other : Request) (asked : IsAsked attempt one) (also : IsAsked again other) where
  abbrev first : List ℕ
  first = text_of name attempt one

  abbrev second : List ℕ
  second = text_of name again other

  by_text : (are_equal : Bool) → bytes_eq first second ≡ are_equal → packed_of one ≡ None → packed_of other ≡ None → first_bits first ≡ first_bits second
      → SharesNumber name attempt again one other
  by_text true test e f alike =
      let same : first ≡ second = (bytes_eq-Decides first second).0 test in
      share name attempt again one other (same_by_text name attempt again one other asked also same) (same_attempt name attempt again one other asked also same)
  by_text false test e f alike =
      let differ : first ≢ second = λ same. let is : bytes_eq first second ≡ true = (bytes_eq-Decides first second).1 same in absurd cc in
      Digests e f (record { differ = differ; begin_alike = alike })

  by_packed : (found also_found : Option ℕ) → packed_of one ≡ found → packed_of other ≡ also_found
      → unwrap_or found (digest_number first) ≡ unwrap_or also_found (digest_number second) → SharesNumber name attempt again one other
  by_packed (Some number) (Some other_number) e f same =
      let numbered : packed_of one ≡ Some other_number = e ∙ ap (λ (n : ℕ). Some n) same in
      share name attempt again one other (same_by_packed one other other_number numbered f asked.submitted also.submitted) (no_attempt one number attempt again e)
  by_packed (Some number) None e f same = absurd (omega (arith, same, packed_of-below one number e, digest_number-from second))
  by_packed None (Some number) e f same = absurd (omega (arith, same, packed_of-below other number f, digest_number-from first))
  by_packed None None e f same = by_text (bytes_eq first second) refl e f (omega (arith, same))

pub equal_numbers : EqualNumbersAskTheSame
equal_numbers name attempt again one other asked also same = by_packed name attempt again one other asked also (packed_of one) (packed_of other) refl refl same
