-- A body that passes the tests spells a request of a submission.
use Rattle.std.proofs.Common.{◌≡◌, ℕ, zero, suc, ◌+◌, ◌^◌, ◌<◌, ◌≤◌, ◌&&◌, Bool, true, false, cond, eqb, leb, ltb, List, [], ◌∷◌, ◌++◌, length, drop, get_or, refl, sym, ap, subst, ◌∙◌, arith, Fits}
use Rattle.std.specs.Int.{w64, cast_signed}
use Rattle.std.specs.Str.{is_utf8}
use Rattle.std.proofs.Math.Facts.{sfits_to_z}
use Rattle.std.proofs.lemmas.Bool.{and_parts, eqb-true, leb-true, ltb-true}
use Rattle.std.proofs.lemmas.Int.{of_z-to_z}
use Rattle.std.proofs.lemmas.List.{append-nil, drop_all, drop_more}
use Rattle.std.proofs.lemmas.Str.{IsUtf8-from_is_utf8}
use Rattle.droid_frame.specs.Bodies.{SpellsRequest}
use Rattle.droid_frame.specs.Fields.{IsBytes, IsI64, i64_bytes, truth_bytes, u32_bytes, u64_bytes}
use Rattle.droid_frame.specs.Filters.{filter_bytes}
use Rattle.droid_frame.specs.Hashes.{hash_kind_bytes}
use Rattle.droid_frame.specs.declared.hash_kind.HashKind.{HashKind}
use Rattle.droid_frame.specs.declared.hash_kind.HashKind.TheVariants as kinds
use Rattle.droid_frame.specs.declared.request.Request.{Request}
use Rattle.droid_frame.specs.declared.request.Request.TheVariants.{CreateProfile, AddFolder, AddFile, Piece, Finish, Abandon, Status, Export}
use Rattle.droid_remote.specs.BodyFields.{u32_in, u64_in}
use Rattle.droid_remote.specs.BodyTests.{is_node, is_part, is_profile, is_submitted}
use Rattle.droid_remote.specs.Submitted.{IsSubmitted, all_records}
use Rattle.droid_remote.proofs.Fronts.{drop_bytes, u32_front, u32_small, u64_front, u64_small}

-- a request of a submission that the kind and the body spell
pub record SpellsSubmitted (kind : ℕ) (body : List ℕ) : Type 0 where
  pub request : Request
  pub spelled : SpellsRequest 2 kind body request
  pub submitted : IsSubmitted request

-- ---- single bytes

truth_of : ℕ → Bool
truth_of zero = false
truth_of (suc b) = true

truth_is : (b : ℕ) → b < 2 → truth_bytes (truth_of b) ≡ b ∷ []
unfolding truth_of
truth_is zero small = refl
truth_is (suc zero) small = refl
truth_is (suc (suc b)) small = absurd (omega arith)

hash_of : ℕ → HashKind
hash_of zero = kinds.Nothing
hash_of (suc zero) = kinds.Md5
hash_of (suc (suc b)) = kinds.Sha256

hash_is : (b : ℕ) → b < 3 → hash_kind_bytes (hash_of b) ≡ b ∷ []
unfolding hash_of
hash_is zero small = refl
hash_is (suc zero) small = refl
hash_is (suc (suc zero)) small = refl
hash_is (suc (suc (suc b))) small = absurd (omega arith)

-- the last two bytes of a body
last_two : (at : ℕ) (body : List ℕ) → length body ≡ at + 2 → drop at body ≡ get_or body at 0 ∷ get_or body (at + 1) 0 ∷ []
last_two at body size =
    let none : drop (at + 1 + 1) body ≡ [] = drop_all (at + 1 + 1) body (omega arith) in
    let last : drop (at + 1) body ≡ get_or body (at + 1) 0 ∷ [] = drop_more body (at + 1) 0 (omega arith) ∙ ap (λ (r : List ℕ). get_or body (at + 1) 0 ∷ r) none in
    drop_more body at 0 (omega arith) ∙ ap (λ (r : List ℕ). get_or body at 0 ∷ r) last

-- a front and the rest of it
then_front : (front rest more : List ℕ) {bytes : List ℕ} → bytes ≡ front ++ rest → rest ≡ more → bytes ≡ front ++ more
then_front front rest more e f = e ∙ ap (λ (r : List ℕ). front ++ r) f

i64_is : (n : ℕ) → n < 2 ^ 64 → (u64_bytes n ≡ i64_bytes (cast_signed w64 n)) × IsI64 (cast_signed w64 n)
i64_is n small =
    let fits : Fits w64 n = record { fits = small } in
    (ap u64_bytes (sym (of_z-to_z w64 n small)), sfits_to_z fits)

-- ---- each kind

module _ (body : List ℕ) (are : IsBytes body) where
  profile_spelled : is_profile body ≡ true → SpellsSubmitted 1 body
  profile_spelled test =
      let two = and_parts (eqb (length body) 6 && ltb (get_or body 4 0) 2) (ltb (get_or body 5 0) 3) test in
      let one = and_parts (eqb (length body) 6) (ltb (get_or body 4 0) 2) two.0 in
      let size : length body ≡ 6 = eqb-true (length body) 6 one.0 in
      let all = truth_of (get_or body 4 0) in
      let hash = hash_of (get_or body 5 0) in
      let options : drop 4 body ≡ truth_bytes all ++ hash_kind_bytes hash =
      rw (truth_is (get_or body 4 0) (ltb-true _ 2 one.1), hash_is (get_or body 5 0) (ltb-true _ 3 two.1)) (last_two 4 body size) in
      record {
        request = CreateProfile (u32_in 0 body) all hash;
        spelled = record { version_is = refl; kind_is = refl; body_is = then_front (u32_bytes (u32_in 0 body)) (drop 4 body) _ (u32_front 0 body are (omega arith)) options; has_spelling = (u32_small 0 body are, tt) };
        submitted = tt;
      }

  -- the profile, the parent and the moment, and what follows them
  head_front : (rest : List ℕ) → 16 ≤ length body → drop 16 body ≡ rest
      → body ≡ u32_bytes (u32_in 0 body) ++ (u32_bytes (u32_in 4 body) ++ (i64_bytes (cast_signed w64 (u64_in 8 body)) ++ rest))
  head_front rest long follows =
      let moment : drop 8 body ≡ i64_bytes (cast_signed w64 (u64_in 8 body)) ++ rest =
      then_front (u64_bytes (u64_in 8 body)) (drop 16 body) rest (u64_front 8 body are (omega arith)) follows ∙ ap (λ (front : List ℕ). front ++ rest) (i64_is (u64_in 8 body) (u64_small 8 body are)).0 in
      then_front (u32_bytes (u32_in 0 body)) (drop 4 body) _ (u32_front 0 body are (omega arith))
      (then_front (u32_bytes (u32_in 4 body)) (drop 8 body) _ (u32_front 4 body are (omega arith)) moment)

  folder_spelled : is_node 16 body ≡ true → SpellsSubmitted 2 body
  folder_spelled test =
      let parts = and_parts (leb 16 (length body)) (is_utf8 (drop 16 body)) test in
      let long : 16 ≤ length body = leb-true 16 (length body) parts.0 in
      let moment = i64_is (u64_in 8 body) (u64_small 8 body are) in
      record {
        request = AddFolder (u32_in 0 body) (u32_in 4 body) (cast_signed w64 (u64_in 8 body)) (drop 16 body);
        spelled = record {
          version_is = refl;
          kind_is = refl;
          body_is = head_front (drop 16 body) long refl;
          has_spelling = (u32_small 0 body are, u32_small 4 body are, moment.1, IsUtf8-from_is_utf8 (drop 16 body) parts.1);
        };
        submitted = tt;
      }

  file_spelled : is_node 28 body ≡ true → SpellsSubmitted 3 body
  file_spelled test =
      let parts = and_parts (leb 28 (length body)) (is_utf8 (drop 28 body)) test in
      let long : 28 ≤ length body = leb-true 28 (length body) parts.0 in
      let moment = i64_is (u64_in 8 body) (u64_small 8 body are) in
      let sizes : drop 16 body ≡ u64_bytes (u64_in 16 body) ++ (u32_bytes (u32_in 24 body) ++ drop 28 body) =
      then_front (u64_bytes (u64_in 16 body)) (drop 24 body) _ (u64_front 16 body are (omega arith)) (u32_front 24 body are (omega arith)) in
      record {
        request = AddFile (u32_in 0 body) (u32_in 4 body) (cast_signed w64 (u64_in 8 body)) (u64_in 16 body) (u32_in 24 body) (drop 28 body);
        spelled = record {
          version_is = refl;
          kind_is = refl;
          body_is = head_front _ (omega arith) sizes;
          has_spelling = (u32_small 0 body are, u32_small 4 body are, moment.1, u64_small 16 body are, u32_small 24 body are, IsUtf8-from_is_utf8 (drop 28 body) parts.1);
        };
        submitted = tt;
      }

  piece_spelled : leb 12 (length body) ≡ true → SpellsSubmitted 4 body
  piece_spelled test =
      let long : 12 ≤ length body = leb-true 12 (length body) test in
      record {
        request = Piece (u32_in 0 body) (u32_in 4 body) (u32_in 8 body) (drop 12 body);
        spelled = record {
          version_is = refl;
          kind_is = refl;
          body_is = then_front (u32_bytes (u32_in 0 body)) (drop 4 body) _ (u32_front 0 body are (omega arith))
              (then_front (u32_bytes (u32_in 4 body)) (drop 8 body) _ (u32_front 4 body are (omega arith)) (u32_front 8 body are (omega arith)));
          has_spelling = (u32_small 0 body are, u32_small 4 body are, u32_small 8 body are, drop_bytes 12 body are);
        };
        submitted = tt;
      }

  pair_front : length body ≡ 8 → body ≡ u32_bytes (u32_in 0 body) ++ u32_bytes (u32_in 4 body)
  pair_front size =
      let none : drop 8 body ≡ [] = drop_all 8 body (omega arith) in
      then_front (u32_bytes (u32_in 0 body)) (drop 4 body) (u32_bytes (u32_in 4 body)) (u32_front 0 body are (omega arith))
      (u32_front 4 body are (omega arith) ∙ (ap (λ (r : List ℕ). u32_bytes (u32_in 4 body) ++ r) none ∙ append-nil (u32_bytes (u32_in 4 body))))

  finish_spelled : eqb (length body) 8 ≡ true → SpellsSubmitted 5 body
  finish_spelled test = record {
    request = Finish (u32_in 0 body) (u32_in 4 body);
    spelled = record { version_is = refl; kind_is = refl; body_is = pair_front (eqb-true (length body) 8 test); has_spelling = (u32_small 0 body are, u32_small 4 body are) };
    submitted = tt;
  }

  abandon_spelled : eqb (length body) 8 ≡ true → SpellsSubmitted 6 body
  abandon_spelled test = record {
    request = Abandon (u32_in 0 body) (u32_in 4 body);
    spelled = record { version_is = refl; kind_is = refl; body_is = pair_front (eqb-true (length body) 8 test); has_spelling = (u32_small 0 body are, u32_small 4 body are) };
    submitted = tt;
  }

  status_spelled : eqb (length body) 8 ≡ true → SpellsSubmitted 7 body
  status_spelled test = record {
    request = Status (u32_in 0 body) (u32_in 4 body);
    spelled = record { version_is = refl; kind_is = refl; body_is = pair_front (eqb-true (length body) 8 test); has_spelling = (u32_small 0 body are, u32_small 4 body are) };
    submitted = tt;
  }

  part_spelled : is_part body ≡ true → SpellsSubmitted 8 body
  part_spelled test =
      let three = and_parts (eqb (length body) 18 && eqb (u32_in 12 body) 1048576 && eqb (get_or body 16 0) 1) (eqb (get_or body 17 0) 0) test in
      let two = and_parts (eqb (length body) 18 && eqb (u32_in 12 body) 1048576) (eqb (get_or body 16 0) 1) three.0 in
      let one = and_parts (eqb (length body) 18) (eqb (u32_in 12 body) 1048576) two.0 in
      let size : length body ≡ 18 = eqb-true (length body) 18 one.0 in
      let all : get_or body 16 0 ≡ 1 = eqb-true (get_or body 16 0) 1 two.1 in
      let none : get_or body 17 0 ≡ 0 = eqb-true (get_or body 17 0) 0 three.1 in
      let filter : drop 16 body ≡ filter_bytes all_records = last_two 16 body size ∙ (ap (λ (b : ℕ). b ∷ get_or body 17 0 ∷ []) all ∙ ap (λ (b : ℕ). 1 ∷ b ∷ []) none) in
      let most : drop 12 body ≡ u32_bytes 1048576 ++ filter_bytes all_records =
      then_front (u32_bytes (u32_in 12 body)) (drop 16 body) (filter_bytes all_records) (u32_front 12 body are (omega arith)) filter
      ∙ ap (λ (n : ℕ). u32_bytes n ++ filter_bytes all_records) (eqb-true (u32_in 12 body) 1048576 one.1) in
      record {
        request = Export (u32_in 0 body) (u64_in 4 body) 1048576 all_records;
        spelled = record {
          version_is = refl;
          kind_is = refl;
          body_is = then_front (u32_bytes (u32_in 0 body)) (drop 4 body) _ (u32_front 0 body are (omega arith))
              (then_front (u64_bytes (u64_in 4 body)) (drop 12 body) _ (u64_front 4 body are (omega arith)) most);
          has_spelling = (u32_small 0 body are, u64_small 4 body are, omega arith, record { few = omega arith; each = tt });
        };
        submitted = (refl, refl);
      }

-- ---- by the kind's number

by_test : {kind n : ℕ} (P : ℕ → Type 0) (is this others : Bool) → (is ≡ true → kind ≡ n) → (this ≡ true → P n) → (others ≡ true → P kind) → cond is this others ≡ true → P kind
by_test P true this others same one other test = subst P (sym (same refl)) (one test)
by_test P false this others same one other test = other test

by_kind : (n kind : ℕ) (P : ℕ → Type 0) (this others : Bool) → (this ≡ true → P n) → (others ≡ true → P kind) → cond (eqb kind n) this others ≡ true → P kind
by_kind n kind P this others one other test = by_test P (eqb kind n) this others (eqb-true kind n) one other test

pub tested_is_spelled : (kind : ℕ) (body : List ℕ) → IsBytes body → is_submitted kind body ≡ true → SpellsSubmitted kind body
tested_is_spelled kind body are test =
    let P : ℕ → Type 0 = λ n. SpellsSubmitted n body in
    by_kind 1 kind P _ _ (profile_spelled body are)
    (by_kind 2 kind P _ _ (folder_spelled body are)
    (by_kind 3 kind P _ _ (file_spelled body are)
    (by_kind 4 kind P _ _ (piece_spelled body are)
    (by_kind 5 kind P _ _ (finish_spelled body are)
    (by_kind 6 kind P _ _ (abandon_spelled body are)
    (by_kind 7 kind P _ _ (status_spelled body are)
    (by_kind 8 kind P _ false (part_spelled body are) (λ none. absurd cc)))))))) test
