-- What is handed out one after the other.
use Rattle.std.proofs.Common.{◌≡◌, ℕ, ◌+◌, ◌<◌, ◌&&◌, Bool, true, List, [], ◌∷◌, ◌++◌, length, take, drop, get_or, append_assoc, take-append-drop, length-append, refl, sym, ap, ap₂, subst, ◌∙◌, arith}
use Rattle.std.specs.List.{count_by, flat_map}
use Rattle.std.proofs.lemmas.List.{drop_more, take_more}
use Rattle.std.proofs.lemmas.List.Concat.{flat_map-append}
use Rattle.std.proofs.lemmas.List.Folds.{list_all-append}
use Rattle.droid_frame.specs.declared.record.Record.{Record}
use Rattle.droid_tree.specs.Heard.{Heard}
use Rattle.droid_tree.specs.Observation.{GoesOver}
use Rattle.droid_profile.specs.EarlyEnds.{AreFirst, TakesFirst, Took, Failed, is_of_record}
use Rattle.droid_profile.specs.declared.fault.ProfileFault.{ProfileFault}
use Rattle.droid_profile.specs.declared.recipient.RecipientFault.{RecipientFault}
use Rattle.droid_profile.proofs.VisitSteps.{given_more}
use Rattle.droid_profile.proofs.BatchEnds.{over_more}
use Rattle.droid_profile.specs.RowsTaken.{is_kept}
use Rattle.droid_profile.proofs.StepsMade.{counts_append}
use Rattle.droid_profile.specs.HandedOut.{Hands, HandsFront}

-- ---- the first of a list

pub first_of_more : {A : Type 0} (first all more : List A) → AreFirst first all → AreFirst first (all ++ more)
first_of_more {A = A} first all more are = record { rest = are.rest ++ more; are = ap (λ (l : List A). l ++ more) are.are ∙ append_assoc first are.rest more }

pub first_after : {A : Type 0} (before first all : List A) → AreFirst first all → AreFirst (before ++ first) (before ++ all)
first_after {A = A} before first all are = record { rest = are.rest; are = ap (λ (l : List A). before ++ l) are.are ∙ sym (append_assoc before first are.rest) }

pub split_at : {A B : Type 0} (f : A → List B) (xs : List A) (i : ℕ) (x : A) → i < length xs → x ≡ get_or xs i x → flat_map f xs ≡ flat_map f (take i xs) ++ (f x ++ flat_map f (drop (i + 1) xs))
split_at {A = A} {B = B} f xs i x within is =
    ap (flat_map f) (sym (take-append-drop i xs))
    ∙ (flat_map-append f (take i xs) (drop i xs)
    ∙ ap (λ (l : List B). flat_map f (take i xs) ++ l) (ap (flat_map f) (drop_more xs i x within ∙ ap (λ (y : A). y ∷ drop (i + 1) xs) (sym is))))

-- as many reports of records as records
pub all_counted : {A : Type 0} (entries_of : A → List Heard) (records_of : A → List Record) → ((its : A) → count_by is_of_record (entries_of its) ≡ length (records_of its)) → (xs : List A) → count_by is_of_record (flat_map entries_of xs) ≡ length (flat_map records_of xs)
all_counted entries_of records_of counts [] = refl
all_counted entries_of records_of counts (x ∷ xs) =
    omega (arith, counts_append is_of_record (entries_of x) (flat_map entries_of xs), length-append (records_of x) (flat_map records_of xs), counts x, all_counted entries_of records_of counts xs)

-- ---- records

module _ {R : Type 0} (takes : R → Record → R → Type 0) (fails : R → Record → RecipientFault → R → Type 0) (fault : ProfileFault) where
  pub takes_after : (given records taken : List Record) (start old new : R) → GoesOver takes start given old → TakesFirst takes fails fault records taken old new → TakesFirst takes fails fault (given ++ records) (given ++ taken) start new
  takes_after given records taken start old new before (Took first goes not) = Took (first_after given taken records first) (over_more takes start old new given taken before goes) not
  takes_after given records taken start old new before (Failed next reached why first goes failed is) =
      Failed next reached why
      (subst (λ (l : List Record). AreFirst l (given ++ records)) (sym (append_assoc given taken (next ∷ []))) (first_after given (taken ++ next ∷ []) records first))
      (over_more takes start old reached given taken before goes) failed is

  pub takes_of_more : (records more taken : List Record) (old new : R) → TakesFirst takes fails fault records taken old new → TakesFirst takes fails fault (records ++ more) taken old new
  takes_of_more records more taken old new (Took first goes not) = Took (first_of_more taken records more first) goes not
  takes_of_more records more taken old new (Failed next reached why first goes failed is) = Failed next reached why (first_of_more (taken ++ next ∷ []) records more first) goes failed is

-- ---- rows

module _ {W R : Type 0} (hears : W → Heard → W → Type 0) (takes : R → Record → R → Type 0) where
  pub hands_none : (watcher : W) (recipient : R) → Hands hears takes [] [] true watcher watcher recipient recipient
  hands_none watcher recipient = record { informed = refl; taken = refl; kept_is = refl }

  pub hands_more : (entries more : List Heard) (records after : List Record) (kept then : Bool) (watcher watcher_now watcher_after : W) (recipient recipient_now recipient_after : R)
      → Hands hears takes entries records kept watcher watcher_now recipient recipient_now → Hands hears takes more after then watcher_now watcher_after recipient_now recipient_after
      → Hands hears takes (entries ++ more) (records ++ after) (kept && then) watcher watcher_after recipient recipient_after
  hands_more entries more records after kept then watcher watcher_now watcher_after recipient recipient_now recipient_after first second = record {
    informed = over_more hears watcher watcher_now watcher_after entries more first.informed second.informed;
    taken = over_more takes recipient recipient_now recipient_after records after first.taken second.taken;
    kept_is = ap₂ (λ (a b : Bool). a && b) first.kept_is second.kept_is ∙ sym (list_all-append is_kept entries more);
  }

  pub front_after : (fails : R → Record → RecipientFault → R → Type 0) (fault : ProfileFault) (entries more : List Heard) (records after : List Record) (kept : Bool) (watcher watcher_now watcher_after : W) (recipient recipient_now recipient_after : R)
      → count_by is_of_record entries ≡ length records → Hands hears takes entries records kept watcher watcher_now recipient recipient_now → HandsFront hears takes fails more after fault watcher_now watcher_after recipient_now recipient_after
      → HandsFront hears takes fails (entries ++ more) (records ++ after) fault watcher watcher_after recipient recipient_after
  front_after fails fault entries more records after kept watcher watcher_now watcher_after recipient recipient_now recipient_after counts first front = record {
    heard = entries ++ front.heard;
    are_first = first_after entries front.heard more front.are_first;
    informed = over_more hears watcher watcher_now watcher_after entries front.heard first.informed front.informed;
    given = records ++ front.given;
    taken = takes_after takes fails fault records after front.given recipient recipient_now recipient_after first.taken front.taken;
    reported = omega (arith, counts_append is_of_record entries front.heard, length-append records front.given, counts, front.reported);
    explained = front.explained;
  }

  pub front_of_more : (fails : R → Record → RecipientFault → R → Type 0) (fault : ProfileFault) (entries more : List Heard) (records after : List Record) (watcher watcher_after : W) (recipient recipient_after : R)
      → HandsFront hears takes fails entries records fault watcher watcher_after recipient recipient_after → HandsFront hears takes fails (entries ++ more) (records ++ after) fault watcher watcher_after recipient recipient_after
  front_of_more fails fault entries more records after watcher watcher_after recipient recipient_after front = record {
    heard = front.heard;
    are_first = first_of_more front.heard entries more front.are_first;
    informed = front.informed;
    given = front.given;
    taken = takes_of_more takes fails fault records after front.given recipient recipient_after front.taken;
    reported = front.reported;
    explained = front.explained;
  }

  -- of a list of rows, or anything else that gives such lists
  module _ {A : Type 0} (entries_of : A → List Heard) (records_of : A → List Record) (rows : List A) (i : ℕ) (row : A) (within : i < length rows) (is : row ≡ get_or rows i row) (kept : Bool) (watcher watcher_now watcher_after : W) (recipient recipient_now recipient_after : R)
      (first : Hands hears takes (flat_map entries_of (take i rows)) (flat_map records_of (take i rows)) kept watcher watcher_now recipient recipient_now) where
    -- one row more
    pub hands_row : (then both : Bool) → both ≡ (kept && then) → Hands hears takes (entries_of row) (records_of row) then watcher_now watcher_after recipient_now recipient_after
        → Hands hears takes (flat_map entries_of (take (i + 1) rows)) (flat_map records_of (take (i + 1) rows)) both watcher watcher_after recipient recipient_after
    hands_row then both are next =
        subst (λ (b : Bool). Hands hears takes (flat_map entries_of (take (i + 1) rows)) (flat_map records_of (take (i + 1) rows)) b watcher watcher_after recipient recipient_after) (sym are)
        (subst (λ (l : List Heard). Hands hears takes l (flat_map records_of (take (i + 1) rows)) (kept && then) watcher watcher_after recipient recipient_after) (sym (one_more entries_of))
        (subst (λ (l : List Record). Hands hears takes (flat_map entries_of (take i rows) ++ entries_of row) l (kept && then) watcher watcher_after recipient recipient_after) (sym (one_more records_of))
        (hands_more (flat_map entries_of (take i rows)) (entries_of row) (flat_map records_of (take i rows)) (records_of row) kept then watcher watcher_now watcher_after recipient recipient_now recipient_after first next)))
      where
        one_more : {B : Type 0} (f : A → List B) → flat_map f (take (i + 1) rows) ≡ flat_map f (take i rows) ++ f row
        one_more {B = B} f = ap (flat_map f) (take_more rows i row within ∙ ap (λ (y : A). take i rows ++ y ∷ []) (sym is)) ∙ given_more f (take i rows) row

    -- the next row was not handed out
    pub front_row : (fails : R → Record → RecipientFault → R → Type 0) (fault : ProfileFault) → ((its : A) → count_by is_of_record (entries_of its) ≡ length (records_of its)) → HandsFront hears takes fails (entries_of row) (records_of row) fault watcher_now watcher_after recipient_now recipient_after
        → HandsFront hears takes fails (flat_map entries_of rows) (flat_map records_of rows) fault watcher watcher_after recipient recipient_after
    front_row fails fault counts front =
        subst (λ (l : List Heard). HandsFront hears takes fails l (flat_map records_of rows) fault watcher watcher_after recipient recipient_after) (sym (split_at entries_of rows i row within is))
        (subst (λ (l : List Record). HandsFront hears takes fails (flat_map entries_of (take i rows) ++ (entries_of row ++ flat_map entries_of (drop (i + 1) rows))) l fault watcher watcher_after recipient recipient_after) (sym (split_at records_of rows i row within is))
        (front_after fails fault (flat_map entries_of (take i rows)) (entries_of row ++ flat_map entries_of (drop (i + 1) rows)) (flat_map records_of (take i rows)) (records_of row ++ flat_map records_of (drop (i + 1) rows)) kept
        watcher watcher_now watcher_after recipient recipient_now recipient_after (all_counted entries_of records_of counts (take i rows)) first
        (front_of_more fails fault (entries_of row) (flat_map entries_of (drop (i + 1) rows)) (records_of row) (flat_map records_of (drop (i + 1) rows)) watcher_now watcher_after recipient_now recipient_after front)))
