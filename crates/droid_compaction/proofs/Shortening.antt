-- The records of a smaller journal, one after another.
use Rattle.std.proofs.Common.{◌≡◌, ℕ, Bool, true, false, cond, ◌||◌, eqb, List, [], ◌∷◌, ◌++◌, map, refl, sym, ap, ◌∙◌, append_assoc}
use Rattle.std.proofs.lemmas.Bool.{eqb-true}
use Rattle.std.proofs.lemmas.List.{append-nil, map-append}
use Rattle.std.proofs.lemmas.List.Folds.{list_any-append}
use Rattle.droid_compaction.specs.BareFrames.{bare_finish_bytes, bare_piece_bytes}
use Rattle.droid_journal.specs.Records.{Record, made}
use Rattle.droid_compaction.specs.Fields.{file_in, is_about, stamp_in}
use Rattle.droid_compaction.specs.Shortening.{has_stamp, once, smaller, smaller_by, smaller_request}
use Rattle.droid_compaction.proofs.Ending.{or_swapped}

-- ---- stamps

pub stamps_one_more : (before : List Record) (it : Record) (stamp : ℕ) → has_stamp (before ++ it ∷ []) stamp ≡ (eqb (stamp_in it.request) stamp || has_stamp before stamp)
stamps_one_more before it stamp =
    list_any-append (λ (x : Record). eqb (stamp_in x.request) stamp) before (it ∷ []) ∙ or_swapped (has_stamp before stamp) (eqb (stamp_in it.request) stamp)

by_same : (b c : Bool) → (b ≡ true → c ≡ true) → (b || c) ≡ c
by_same true c holds = sym (holds refl)
by_same false c holds = refl

-- a stamp that comes again is noted already
pub stamps_as_before : (before : List Record) (it : Record) (stamp : ℕ) → has_stamp before (stamp_in it.request) ≡ true → has_stamp (before ++ it ∷ []) stamp ≡ has_stamp before stamp
stamps_as_before before it stamp again =
    stamps_one_more before it stamp
    ∙ by_same (eqb (stamp_in it.request) stamp) (has_stamp before stamp) (λ same. sym (ap (has_stamp before) (eqb-true (stamp_in it.request) stamp same)) ∙ again)

-- ---- records that are left out

abbrev last : Bool → Record → List Record
last again it = cond again [] (it ∷ [])

kept_or_not : (b : Bool) (x : Record) (xs ys : List Record) → cond b (xs ++ ys) (x ∷ (xs ++ ys)) ≡ cond b xs (x ∷ xs) ++ ys
kept_or_not true x xs ys = refl
kept_or_not false x xs ys = refl

pub once_one_more : (before its : List Record) (it : Record) → once before (its ++ it ∷ []) ≡ once before its ++ last (has_stamp (before ++ its) (stamp_in it.request)) it
once_one_more before [] it = ap (λ (xs : List Record). last (has_stamp xs (stamp_in it.request)) it) (sym (append-nil before))
once_one_more before (x ∷ its) it =
    let b = has_stamp before (stamp_in x.request) in
    let more : List Record = before ++ x ∷ [] in
    let end : List Record = last (has_stamp (before ++ x ∷ its) (stamp_in it.request)) it in
    let there : once more (its ++ it ∷ []) ≡ once more its ++ end =
    once_one_more more its it ∙ ap (λ (xs : List Record). once more its ++ last (has_stamp xs (stamp_in it.request)) it) (append_assoc before (x ∷ []) its) in
    ap (λ (xs : List Record). cond b xs (x ∷ xs)) there ∙ kept_or_not b x (once more its) end

pub once_as_before : (before : List Record) (it : Record) → has_stamp before (stamp_in it.request) ≡ true → once [] (before ++ it ∷ []) ≡ once [] before
once_as_before before it again = once_one_more [] before it ∙ ap (λ (b : Bool). once [] before ++ last b it) again ∙ append-nil (once [] before)

pub once_with : (before : List Record) (it : Record) → has_stamp before (stamp_in it.request) ≡ false → once [] (before ++ it ∷ []) ≡ once [] before ++ it ∷ []
once_with before it new = once_one_more [] before it ∙ ap (λ (b : Bool). once [] before ++ last b it) new

pub smaller_as_before : (ended : ℕ → Bool) (before : List Record) (it : Record) → has_stamp before (stamp_in it.request) ≡ true → smaller_by ended (before ++ it ∷ []) ≡ smaller_by ended before
smaller_as_before ended before it again = ap (map (smaller ended)) (once_as_before before it again)

pub smaller_one_more : (ended : ℕ → Bool) (before : List Record) (it : Record) → has_stamp before (stamp_in it.request) ≡ false → smaller_by ended (before ++ it ∷ []) ≡ smaller_by ended before ++ smaller ended it ∷ []
smaller_one_more ended before it new = ap (map (smaller ended)) (once_with before it new) ∙ map-append (smaller ended) (once [] before) (it ∷ [])

-- ---- requests

pub smaller_same : (one other : ℕ → Bool) (request reply : List ℕ) → one (file_in request) ≡ other (file_in request) → smaller_request one request reply ≡ smaller_request other request reply
smaller_same one other request reply same =
    ap (λ (b : Bool). cond (is_about 4 request reply) (cond b (bare_piece_bytes request reply) request) (cond (is_about 5 request reply) (cond b (bare_finish_bytes request reply) request) request)) same

all_same : (one other : ℕ → Bool) → ((file : ℕ) → one file ≡ other file) → (its : List Record) → map (smaller one) its ≡ map (smaller other) its
all_same one other same [] = refl
all_same one other same (it ∷ its) =
    ap (λ (r : List ℕ). made false r it.reply ∷ map (smaller one) its) (smaller_same one other it.request it.reply (same (file_in it.request))) ∙ ap (λ (xs : List Record). smaller other it ∷ xs) (all_same one other same its)

pub smaller_by_same : (one other : ℕ → Bool) (its : List Record) → ((file : ℕ) → one file ≡ other file) → smaller_by one its ≡ smaller_by other its
smaller_by_same one other its same = all_same one other same (once [] its)
