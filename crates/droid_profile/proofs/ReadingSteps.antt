-- A reading with one read more.
use Rattle.std.proofs.Common.{◌≡◌, ℕ, ◌+◌, ◌≤◌, true, List, [], ◌∷◌, ◌++◌, length, length-append, append-nil, sym, ap, subst, ◌∙◌, arith}
use Rattle.std.proofs.lemmas.List.Concat.{flat_map-append}
use Rattle.droid_tree.specs.Observation.{Observation, Read}
use Rattle.droid_tree.specs.declared.folder_entry.FolderEntry.{FolderEntry}
use Rattle.droid_profile.specs.Readings.{Reading, Ending, AtEnd, NotYet, IsEnding, IsReading, bytes_of, is_whole, joined, last_bytes, last_read, reads_from, reads_in}

joined_more : (pieces : List (List ℕ)) (piece : List ℕ) → joined (pieces ++ piece ∷ []) ≡ joined pieces ++ piece
joined_more pieces piece = flat_map-append (λ (p : List ℕ). p) pieces (piece ∷ []) ∙ ap (λ (l : List ℕ). joined pieces ++ l) (append-nil piece)

reads_more : (path : List ℕ) (entry : FolderEntry) (from : ℕ) (pieces : List (List ℕ)) (piece : List ℕ)
    → reads_from path entry from (pieces ++ piece ∷ []) ≡ reads_from path entry from pieces ++ Read path entry (from + length (joined pieces)) (length piece) piece ∷ []
reads_more path entry from [] piece =
    let e : from ≡ from + 0 = omega arith in
    ap (λ (k : ℕ). Read path entry k (length piece) piece ∷ []) e
reads_more path entry from (first ∷ pieces) piece =
    let e : (from + length first) + length (joined pieces) ≡ from + length (first ++ joined pieces) = omega (arith, length-append first (joined pieces)) in
    ap (λ (l : List Observation). Read path entry from (length first) first ∷ l)
    (reads_more path entry (from + length first) pieces piece
    ∙ ap (λ (k : ℕ). reads_from path entry (from + length first) pieces ++ Read path entry k (length piece) piece ∷ []) e)

abbrev pub ended_by : List (List ℕ) → Ending → Reading
ended_by pieces ending = record { pieces = pieces; ending = ending }

-- the last read is still to come
abbrev pub opened : List (List ℕ) → Reading
opened pieces = ended_by pieces NotYet

module _ (path : List ℕ) (entry : FolderEntry) (pieces : List (List ℕ)) where
  pub open_reads : reads_in path entry (opened pieces) ≡ reads_from path entry 0 pieces
  open_reads = append-nil (reads_from path entry 0 pieces)

  pub open_bytes : bytes_of (opened pieces) ≡ joined pieces
  open_bytes = append-nil (joined pieces)

  module _ (piece : List ℕ) (from : ℕ) (at : from ≡ length (joined pieces)) where
    pub longer_reads : reads_in path entry (opened (pieces ++ piece ∷ [])) ≡ reads_in path entry (opened pieces) ++ Read path entry from (length piece) piece ∷ []
    longer_reads =
        let e : 0 + length (joined pieces) ≡ from = omega (arith, at) in
        append-nil (reads_from path entry 0 (pieces ++ piece ∷ []))
        ∙ (reads_more path entry 0 pieces piece
        ∙ (ap (λ (k : ℕ). reads_from path entry 0 pieces ++ Read path entry k (length piece) piece ∷ []) e
        ∙ ap (λ (l : List Observation). l ++ Read path entry from (length piece) piece ∷ []) (sym open_reads)))

    pub longer_bytes : bytes_of (opened (pieces ++ piece ∷ [])) ≡ joined pieces ++ piece
    longer_bytes = append-nil (joined (pieces ++ piece ∷ [])) ∙ joined_more pieces piece

    pub longer_joined : length (joined (pieces ++ piece ∷ [])) ≡ from + length piece
    longer_joined = omega (arith, at, ap length (joined_more pieces piece), length-append (joined pieces) piece)

    pub longer_is : from + length piece ≤ entry.len → IsReading entry.len (opened (pieces ++ piece ∷ []))
    longer_is within = record { within = omega (arith, longer_joined, within); ending = tt }

  module _ (ending : Ending) (from : ℕ) (at : from ≡ length (joined pieces)) where
    pub ended_reads : reads_in path entry (ended_by pieces ending) ≡ reads_in path entry (opened pieces) ++ last_read path entry from ending
    ended_reads =
        ap (λ (k : ℕ). reads_from path entry 0 pieces ++ last_read path entry k ending) (sym at)
        ∙ ap (λ (l : List Observation). l ++ last_read path entry from ending) (sym open_reads)

    pub ended_is : length (joined pieces) ≤ entry.len → IsEnding entry.len from ending → IsReading entry.len (ended_by pieces ending)
    ended_is within is = record { within = within; ending = subst (λ (k : ℕ). IsEnding entry.len k ending) at is }

-- a reading that has not ended yet is given by its pieces
pub is_open : (reading : Reading) → reading.ending ≡ NotYet → reading ≡ opened reading.pieces
is_open reading not_yet = ap (λ (e : Ending). record reading { ending = e }) not_yet

-- a reading that came to the file's end has all its bytes
pub whole_length : (reading : Reading) (size : ℕ) (ending : Ending) → reading.ending ≡ ending → is_whole ending ≡ true → IsEnding size (length (joined reading.pieces)) ending → length (bytes_of reading) ≡ size
whole_length reading size (AtEnd wanted bytes) is whole at =
    omega (arith, ap (λ (e : Ending). length (joined reading.pieces ++ last_bytes e)) is, length-append (joined reading.pieces) bytes, at.1)
whole_length reading size _ is whole at = absurd cc
