-- One more byte sequence, signature or row.
use Rattle.std.proofs.Common.{◌≡◌, ◌↔◌, ℕ, ◌+◌, List, [], ◌∷◌, ◌++◌, length, Option, Some, None, MatchOption, add-one, append_assoc}
use Rattle.droid_pronom.specs.Found.{Hits, IsHit}
use Rattle.droid_pronom.specs.FoundWindows.{HitsWindows}
use Rattle.droid_pronom.specs.Registry.{Contents, Signed}
use Rattle.droid_pronom.proofs.FoundFile.{Ends, hit_same, hits_from}
use Rattle.droid_identity.specs.Matches.{AreEnds, HitsEnds, HitsIn, IsNearest, IsNearestOfEnds, window_of}
use Rattle.droid_identity.proofs.FileLemmas.{hits_same, nearest_same}
use Rattle.droid_pronom.specs.declared.rows.ByteSequence.{ByteSequence}
use Rattle.droid_pronom.specs.declared.rows.Priority.{Priority}
use Rattle.droid_identity.specs.declared.found_match.Match.{Match}
use Rattle.droid_identity.specs.declared.trials.Trial.{Trial}
use Rattle.droid_identity.specs.Trials as trials
use Rattle.droid_identity.specs.Trials.{AreTried, IsTried, Trials, tried, passed}
use Rattle.droid_identity.specs.Beaters as beating
use Rattle.droid_identity.specs.Beaters.{Beaters, Beats}

module _ (N : ByteSequence → Match → Type 0) (H : ByteSequence → Type 0) where
  pub sequence_more : (all rest more : List ByteSequence) (x : ByteSequence) (found : List (Option Match)) (its : Option Match)
      → rest ≡ x ∷ more → IsTried N H x its → ((left : List (Option Match)) → AreTried N H rest left → AreTried N H all (found ++ left))
      → (left : List (Option Match)) → AreTried N H more left → AreTried N H all ((found ++ its ∷ []) ++ left)
  sequence_more all rest more x found its e is inv left h = rw append_assoc (inv (its ∷ left) (rw e (is, h)))

  module _ (place : ℕ) where
    pub trial_more : (all rest more : List Signed) (k : ℕ) (x : Signed) (found : List Trial) (its : Trial)
        → rest ≡ x ∷ more → x.place ≡ place → its.signature ≡ k → AreTried N H x.sequences its.matches.items
        → ((left : List Trial) → Trials N H place k rest left → Trials N H place 0 all (found ++ left))
        → (left : List Trial) → Trials N H place (k + 1) more left → Trials N H place 0 all ((found ++ its ∷ []) ++ left)
    trial_more all rest more k x found its e at number are inv left h = rw append_assoc (inv (its ∷ left) (rw e (tried at number are (rw add-one at h))))

    pub trial_passed : (all rest more : List Signed) (k : ℕ) (x : Signed) (found : List Trial)
        → rest ≡ x ∷ more → (x.place ≡ place → ⊥) → ((left : List Trial) → Trials N H place k rest left → Trials N H place 0 all (found ++ left))
        → (left : List Trial) → Trials N H place (k + 1) more left → Trials N H place 0 all (found ++ left)
    trial_passed all rest more k x found e other inv left h = inv left (rw e (passed other (rw add-one at h)))

module _ (P : ℕ → Type 0) (place : ℕ) where
  pub beater_more : (all rest more : List Priority) (x : Priority) (found : List ℕ) → rest ≡ x ∷ more → Beats P place x
      → ((left : List ℕ) → Beaters P place rest left → Beaters P place all (found ++ left))
      → (left : List ℕ) → Beaters P place more left → Beaters P place all ((found ++ x.place ∷ []) ++ left)
  beater_more all rest more x found e is inv left h = rw append_assoc (inv (x.place ∷ left) (rw e (beating.beaten is h)))

  pub beater_passed : (all rest more : List Priority) (x : Priority) (found : List ℕ) → rest ≡ x ∷ more → (Beats P place x → ⊥)
      → ((left : List ℕ) → Beaters P place rest left → Beaters P place all (found ++ left))
      → (left : List ℕ) → Beaters P place more left → Beaters P place all (found ++ left)
  beater_passed all rest more x found e other inv left h = inv left (rw e (beating.passed other h))

-- where the same formats hit, the same formats beat
pub beaters_same : (P Q : ℕ → Type 0) (place : ℕ) (rows : List Priority) (places : List ℕ) → ((k : ℕ) → P k ↔ Q k) → Beaters P place rows places → Beaters Q place rows places
beaters_same P Q place rows places same beating.end = beating.end
beaters_same P Q place rows places same (beating.beaten is more) = beating.beaten ((same _).0 is.0, is.1) (beaters_same P Q place _ _ same more)
beaters_same P Q place rows places same (beating.passed other more) = beating.passed (λ is. other ((same _).1 is.0, is.1)) (beaters_same P Q place _ _ same more)

-- what the search says of a byte sequence
pub tried_by : (first last window : List ℕ) (q : ByteSequence) (found : Option Match) → window ≡ window_of q.offsets.anchor first last
    → MatchOption found (¬ (HitsIn window (length window) q)) (IsNearest window (length window) q) → IsTried (IsNearestOfEnds first last) (HitsEnds first last) q found
tried_by first last window q None e none = λ h. none (rw e h)
tried_by first last window q (Some its) e is = rw e at is

-- ---- what is tried in the ends is tried in the file

module _ (file first last : List ℕ) (limit : ℕ) (ends : AreEnds file limit first last) where
  tried_one : (q : ByteSequence) (found : Option Match) → IsTried (IsNearestOfEnds first last) (HitsEnds first last) q found → IsTried (IsNearest file limit) (Hits file limit) q found
  tried_one q None none = λ hit. none ((hits_same file first last limit ends q).1 hit)
  tried_one q (Some its) is = nearest_same file first last limit ends q its is

  tried_same : (qs : List ByteSequence) (found : List (Option Match)) → AreTried (IsNearestOfEnds first last) (HitsEnds first last) qs found → AreTried (IsNearest file limit) (Hits file limit) qs found
  tried_same [] [] h = tt
  tried_same [] (its ∷ more) h = absurd h
  tried_same (q ∷ qs) [] h = absurd h
  tried_same (q ∷ qs) (its ∷ more) h = (tried_one q its h.0, tried_same qs more h.1)

  pub trials_same : (place k : ℕ) (signatures : List Signed) (found : List Trial) → Trials (IsNearestOfEnds first last) (HitsEnds first last) place k signatures found
      → Trials (IsNearest file limit) (Hits file limit) place k signatures found
  trials_same place k signatures found trials.end = trials.end
  trials_same place k signatures found (tried at number are more) = tried at number (tried_same _ _ are) (trials_same place _ _ _ more)
  trials_same place k signatures found (passed other more) = passed other (trials_same place _ _ _ more)

  -- a format hits in the ends where it hits in the file
  pub formats_same : (registry : Contents) (k : ℕ) → IsHit (HitsWindows first last) registry k ↔ IsHit (Hits file limit) registry k
  formats_same registry k =
      let fits : Ends file first last limit = record { same = ends.same; reached = ends.reached; begins = ends.begins; ends = ends.ends } in
      hit_same (HitsWindows first last) (Hits file limit) (λ q. hits_from file first last limit fits q.offsets.anchor q) registry k
