-- Pieces after pieces.
use Rattle.std.proofs.Common.{◌≡◌, inl, inr, ℕ, suc, ◌+◌, ◌-◌, ◌*◌, ◌<◌, ◌≤◌, min, true, List, [], ◌∷◌, ◌++◌, length, refl, sym, ap, subst, ◌∙◌, arith, length-append, append_assoc, append-nil}
use Rattle.std.proofs.Math.Nat.{suc-mul}
use Rattle.std.proofs.lemmas.Bool.{cases_lt}
use Rattle.std.proofs.lemmas.Grind.{flat_map-append}
use Rattle.droid_tree.specs.Observation.{Read}
use Rattle.droid_tree.specs.Reading.{Stop, NoneCame, FewerCame, MoreCame, OtherFile, IsRequested, IsShort, IsStop, begin_of}
use Rattle.droid_tree.specs.declared.folder_entry.FolderEntry.{FolderEntry}
use Rattle.droid_upload.specs.Deeds.{Deed, Observed}
use Rattle.droid_upload.specs.Faults.{is_countable}
use Rattle.droid_upload.specs.Pieces.{AreCut, joined, piece_deeds, sending_deeds}

pub joined_more : (pieces : List (List ℕ)) (bytes : List ℕ) → joined (pieces ++ bytes ∷ []) ≡ joined pieces ++ bytes
joined_more pieces bytes = flat_map-append (λ (p : List ℕ). p) pieces (bytes ∷ []) ∙ ap (λ (l : List ℕ). joined pieces ++ l) (append-nil bytes)

pub cut_more : (piece_size size from total : ℕ) (pieces : List (List ℕ)) (bytes : List ℕ) → total ≡ from + length (joined pieces) → total < size → length bytes ≡ min piece_size (size - total)
    → AreCut piece_size size from pieces → AreCut piece_size size from (pieces ++ bytes ∷ [])
cut_more piece_size size from total [] bytes e within long cut =
    let same : total ≡ from = omega arith in
    (omega arith, subst (λ k. length bytes ≡ min piece_size (size - k)) same long, tt)
cut_more piece_size size from total (head ∷ pieces) bytes e within long cut =
    (cut.0, cut.1, cut_more piece_size size (from + length head) total pieces bytes (omega (arith, e, length-append head (joined pieces))) within long cut.2)

module _ (profile number first : ℕ) (path : List ℕ) (entry : FolderEntry) where
  pub pieces_more : (index from count total : ℕ) (pieces : List (List ℕ)) (bytes : List ℕ) → count ≡ index + length pieces → total ≡ from + length (joined pieces)
      → piece_deeds profile number first path entry index from (pieces ++ bytes ∷ [])
      ≡ piece_deeds profile number first path entry index from pieces ++ Observed (Read path entry total (length bytes) bytes) ∷ sending_deeds profile number first path entry count bytes
  pieces_more index from count total [] bytes counted e =
      let same_from : from ≡ total = omega arith in
      let same_index : index ≡ count = omega arith in
      ap (λ (l : List Deed). Observed (Read path entry from (length bytes) bytes) ∷ l) (append-nil (sending_deeds profile number first path entry index bytes))
      ∙ (ap (λ (n : ℕ). Observed (Read path entry n (length bytes) bytes) ∷ sending_deeds profile number first path entry index bytes) same_from
      ∙ ap (λ (n : ℕ). Observed (Read path entry total (length bytes) bytes) ∷ sending_deeds profile number first path entry n bytes) same_index)
  pieces_more index from count total (head ∷ pieces) bytes counted e =
      let now = sending_deeds profile number first path entry index head in
      let later = piece_deeds profile number first path entry (suc index) (from + length head) pieces in
      let more : List Deed = Observed (Read path entry total (length bytes) bytes) ∷ sending_deeds profile number first path entry count bytes in
      ap (λ (l : List Deed). Observed (Read path entry from (length head) head) ∷ (now ++ l))
      (pieces_more (suc index) (from + length head) count total pieces bytes (omega (arith, counted)) (omega (arith, e, length-append head (joined pieces))))
      ∙ ap (λ (l : List Deed). Observed (Read path entry from (length head) head) ∷ l) (sym (append_assoc now later more))

-- ---- where pieces begin

pub begin_zero : (piece_size size : ℕ) → begin_of piece_size size 0 ≡ 0
begin_zero piece_size size = omega arith

pub begin_within : (piece_size size index : ℕ) → begin_of piece_size size index ≤ size
begin_within piece_size size index = omega arith

pub begin_more : (piece_size size index : ℕ) → begin_of piece_size size (index + 1) ≡ begin_of piece_size size index + min piece_size (size - begin_of piece_size size index)
begin_more piece_size size index =
    let next : (index + 1) * piece_size ≡ index * piece_size + piece_size = subst (λ n. n * piece_size ≡ index * piece_size + piece_size) (omega arith) (suc-mul index piece_size) in
    omega (arith, next)

-- after 2^32 - 1 pieces a file has ended
pub begin_last : (piece_size size index : ℕ) → is_countable piece_size size ≡ true → 4294967295 ≤ index → index ≤ 4294967295 → begin_of piece_size size index ≡ size
begin_last piece_size size index countable low high =
    let same : 4294967295 ≡ index = omega arith in
    let enough : size ≤ 4294967295 * piece_size = grind (arith, countable) in
    subst (λ n. begin_of piece_size size n ≡ size) same (omega (arith, enough))

-- ---- how a reading may end

-- what is asked for next
pub requested : (piece_size size from : ℕ) → from ≤ size → (wanted : ℕ) × IsRequested piece_size size from wanted
requested piece_size size from within =
    elim (cases_lt from size) [
      | inl before ↦ (min piece_size (size - from), inl (before, refl))
      | inr behind ↦ (1, inr (omega arith, refl))
    ]

pub short_stop : (piece_size size from : ℕ) → from < size → (stop : Stop) → IsShort (min piece_size (size - from)) stop → IsStop piece_size size from stop
short_stop piece_size size from before (NoneCame n) is = inl (before, is)
short_stop piece_size size from before (FewerCame n bytes) is = (before, is.0, omega (arith, is.0, is.1))
short_stop piece_size size from before (MoreCame bytes) is = absurd is
short_stop piece_size size from before (OtherFile n) is = inl (before, is)

pub length_more : (pieces : List (List ℕ)) (bytes : List ℕ) → length (joined (pieces ++ bytes ∷ [])) ≡ length (joined pieces) + length bytes
length_more pieces bytes = ap length (joined_more pieces bytes) ∙ length-append (joined pieces) bytes
