-- The ends of a file, from their parts.
use Rattle.std.proofs.Common.{◌≡◌, ◌≢◌, ℕ, ◌+◌, ◌-◌, ◌<◌, ◌≤◌, Bool, true, false, List, [], ◌++◌, length, Result, Ok, Err, MatchResult, inl, inr, refl, ap, sym, subst, ◌∙◌, length-append, arith}
use Rattle.droid_tree.specs.Observation.{BytesCame, Observation, Read}
use Rattle.droid_tree.specs.Reading.{FewerCame, IsShort, ReadsPiece, StopsAt}
use Rattle.droid_tree.specs.declared.folder_entry.FolderEntry.{FolderEntry}
use Rattle.droid_tree.specs.declared.skip_reason.Skipped.{Skipped}
use Rattle.droid_tree.specs.declared.skip_reason.Skipped.TheVariants as reasons
use Rattle.droid_cmd_identify.specs.EndsRead.{IsNotToEnd, ReadsBoth, ReadsToEnd, StopsInEnds, last_by}

-- the last bytes have as many as the first ones, and these are no more than the limit and the file have
pub ends_fit : {T : Type 0} (observes : T → Observation → T → Type 0) (path : List ℕ) (entry : FolderEntry) (limit : ℕ) (goes_on : Bool) (first rest : List ℕ) (tree middle : T)
    → ReadsBoth observes path entry limit goes_on first rest tree middle → (length first ≡ length (last_by goes_on first rest)) × (length first ≤ limit) × (length first ≤ entry.len)
ends_fit observes path entry limit true first rest tree middle both = let a = both.count in let b = both.same in let c = both.longer in (omega (arith, a, b), omega (arith, a), omega (arith, a, c))
ends_fit observes path entry limit false first rest tree middle both = let a = both.count in let b = both.fits in (refl, omega (arith, a, b), omega (arith, a))

-- ---- the bytes up to the end

-- just these bytes came, or others
pub came_to_end : {T A : Type 0} (observes : T → Observation → T → Type 0) (path : List ℕ) (entry : FolderEntry) (from count came : ℕ) (before after : List ℕ) (tree tree_after : T) (read : Result A Skipped)
    → BytesCame observes tree path entry from (count + 1) before after tree_after → came ≡ length after - length before
    → MatchResult read (λ _. came ≡ count) (λ why. (why ≡ reasons.Changed) × (came ≢ count))
    → MatchResult read (λ _. ReadsToEnd observes path entry from count before after tree tree_after) (λ why. StopsAt observes (IsNotToEnd count) path entry from why tree tree_after)
came_to_end observes path entry from count came before after tree tree_after (Ok u) its counted is =
    record { bytes = its.bytes; counted = omega (arith, ap length its.added, length-append before its.bytes, counted, is); added = its.added; observed = its.observed }
came_to_end observes path entry from count came before after tree tree_after (Err why) its counted is =
    let all : length its.bytes ≡ came = omega (arith, ap length its.added, length-append before its.bytes, counted) in
    record { stop = FewerCame (count + 1) its.bytes; such = (refl, λ e. is.1 (sym all ∙ e)); reason = is.0; observed = its.observed }

-- ---- the parts

module _ {T : Type 0} (observes : T → Observation → T → Type 0) (path : List ℕ) (entry : FolderEntry) (limit : ℕ) (tree : T) where
  -- the bytes that a read put into an empty buffer
  read_into : (from wanted : ℕ) (before after : List ℕ) (start tree_after : T) → before ≡ [] → ReadsPiece observes path entry from wanted before after start tree_after
      → (length after ≡ wanted) × observes start (Read path entry from wanted after) tree_after
  read_into from wanted before after start tree_after none is =
      let same : after ≡ is.bytes = is.added ∙ ap (λ (l : List ℕ). l ++ is.bytes) none in
      (ap length same ∙ is.counted, subst (λ (l : List ℕ). observes start (Read path entry from wanted l) tree_after) (sym same) is.observed)

  end_into : (from count : ℕ) (before after : List ℕ) (start tree_after : T) → before ≡ [] → ReadsToEnd observes path entry from count before after start tree_after
      → (length after ≡ count) × observes start (Read path entry from (count + 1) after) tree_after
  end_into from count before after start tree_after none is =
      let same : after ≡ is.bytes = is.added ∙ ap (λ (l : List ℕ). l ++ is.bytes) none in
      (ap length same ∙ is.counted, subst (λ (l : List ℕ). observes start (Read path entry from (count + 1) l) tree_after) (sym same) is.observed)

  -- the whole file was read, or its reading stopped
  pub whole_read : (goes_on : Bool) (before after rest : List ℕ) (tree_after : T) (read : Result (Unit {0}) Skipped) → goes_on ≡ false → entry.len ≤ limit → before ≡ []
      → MatchResult read (λ _. ReadsToEnd observes path entry 0 entry.len before after tree tree_after) (λ why. StopsAt observes (IsNotToEnd entry.len) path entry 0 why tree tree_after)
      → MatchResult read (λ _. ReadsBoth observes path entry limit goes_on after rest tree tree_after) (λ why. StopsInEnds observes path entry limit why tree tree_after)
  whole_read goes_on before after rest tree_after (Ok u) ends fits none is =
      let (count, observed) = end_into 0 entry.len before after tree tree_after none is in
      rw ends (record { fits = fits; count = count; observed = observed })
  whole_read goes_on before after rest tree_after (Err why) ends fits none is = inl (record { fits = fits; stops = is })

  -- the first bytes of a longer file could not be read
  pub first_stops : (why : Skipped) (tree_after : T) → limit < entry.len → StopsAt observes (IsShort limit) path entry 0 why tree tree_after → StopsInEnds observes path entry limit why tree tree_after
  first_stops why tree_after longer is = inr (inl (record { longer = longer; stops = is }))

  -- the first bytes of a longer file were read, and then its last ones, or their reading stopped
  pub last_read : (goes_on : Bool) (no_first first no_rest rest : List ℕ) (from : ℕ) (middle tree_after : T) (read : Result (Unit {0}) Skipped)
      → goes_on ≡ true → limit < entry.len → no_first ≡ [] → no_rest ≡ [] → from ≡ entry.len - limit
      → ReadsPiece observes path entry 0 limit no_first first tree middle
      → MatchResult read (λ _. ReadsToEnd observes path entry from limit no_rest rest middle tree_after) (λ why. StopsAt observes (IsNotToEnd limit) path entry from why middle tree_after)
      → MatchResult read (λ _. ReadsBoth observes path entry limit goes_on first rest tree tree_after) (λ why. StopsInEnds observes path entry limit why tree tree_after)
  last_read goes_on no_first first no_rest rest from middle tree_after (Ok u) on longer none nothing at begins is =
      let (count, begun) = read_into 0 limit no_first first tree middle none begins in
      let (same, ended) = end_into from limit no_rest rest middle tree_after nothing is in
      rw on (
      record {
        longer = longer;
        count = count;
        middle = middle;
        begins = begun;
        same = same;
        ends = subst (λ (n : ℕ). observes middle (Read path entry n (limit + 1) rest) tree_after) at ended;
      })
  last_read goes_on no_first first no_rest rest from middle tree_after (Err why) on longer none nothing at begins is =
      let (count, begun) = read_into 0 limit no_first first tree middle none begins in
      inr
      (inr
      (record {
        longer = longer;
        first = first;
        count = count;
        middle = middle;
        begins = begun;
        stops = subst (λ (n : ℕ). StopsAt observes (IsNotToEnd limit) path entry n why middle tree_after) at is;
      }))
