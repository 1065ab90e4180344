-- Sorted entries, one after the other: of each name one, and the repeated ones.
use Rattle.std.proofs.Common.{◌≡◌, ◌⊎◌, inl, inr, ℕ, ◌+◌, ◌-◌, ◌<◌, ◌≤◌, true, false, List, [], ◌∷◌, ◌++◌, Some, None, length, map, take, refl, sym, ap, subst, ◌∙◌, arith, get_or, append_assoc, length-append}
use Rattle.std.specs.Prelude.{IsPermutation, slice_get}
use Rattle.std.specs.List.{Contains}
use Rattle.std.specs.Ordering.{nat_cmp, is_lt, ordering_reverse}
use Rattle.std.specs.Cmp.Lexicographic.{slice_cmp}
use Rattle.std.specs.declared.cmp.Ordering.{Ordering}
use Rattle.std.specs.declared.cmp.Ordering.TheVariants.{Less, Equal, Greater}
use Rattle.std.proofs.Math.ListN.{get_or-append}
use Rattle.std.proofs.Math.Seq.{get_or-append_seam}
use Rattle.std.proofs.lemmas.Cmp.{nat_list_cmp_total}
use Rattle.std.proofs.lemmas.List.{get_or_default, get_or-map, get_or-take, length-map, length-take, map-append}
use Rattle.std.proofs.lemmas.List.Elements.{All-get_or, All-nil, All-push, All-weaker, Contains-append_left}
use Rattle.std.proofs.lemmas.List.Sorted.{All-permutation, IsPermutation-append_left, IsPermutation-pop_more, IsPermutation-refl, IsPermutation-to_front, IsPermutation-trans, ranks_by, sorted_far}
use Rattle.std.proofs.lemmas.Map.Lookups.{exact_bytes}
use Rattle.std.proofs.lemmas.Option.{get_or_from_slice_get, slice_get-get_or, slice_get_cases, slice_get_within}
use Rattle.droid_tree.specs.Listings.{AreInOrder, AreSorted, HasNameOf, IsBeforeNone, Splits}
use Rattle.droid_tree.specs.Order.{IsBefore}
use Rattle.droid_tree.specs.declared.folder_entry.FolderEntry.{FolderEntry}

-- ---- what holds of one entry after some

-- neither name comes before the other: they are the same
same_of : (r s : Ordering) → r ≡ ordering_reverse s → ¬ (r ≡ Less) → ¬ (s ≡ Less) → r ≡ Equal
same_of Less s reversed not_less not_greater = absurd (not_less refl)
same_of Equal s reversed not_less not_greater = refl
same_of Greater Less reversed not_less not_greater = absurd (not_greater refl)
same_of Greater Equal reversed not_less not_greater = absurd cc
same_of Greater Greater reversed not_less not_greater = absurd cc

same_name : (first second : List ℕ) → ¬ (IsBefore first second) → ¬ (IsBefore second first) → first ≡ second
same_name first second not_before not_after =
    exact_bytes first second (same_of (slice_cmp nat_cmp first second) (slice_cmp nat_cmp second first) (nat_list_cmp_total.antisymm first second) not_before not_after)

-- what is at a place of the front is there in the whole
front_get : {A : Type 0} (xs ys : List A) (k : ℕ) (d : A) → k < length xs → slice_get (xs ++ ys) k ≡ slice_get xs k
front_get xs ys k d within =
    slice_get-get_or (xs ++ ys) k d (omega (arith, within, length-append xs ys)) ∙ (ap Some (get_or-append xs ys d k within) ∙ sym (slice_get-get_or xs k d within))

module _ (entries : List FolderEntry) (entry : FolderEntry) where
  -- the entry's name comes after that of the last one
  abbrev pub ComesNext : Type 0
  ComesNext = (last : FolderEntry) → slice_get entries (length entries - 1) ≡ Some last → IsBefore last.name entry.name

  -- it does not
  abbrev pub ComesAgain : Type 0
  ComesAgain = (last : FolderEntry) × (slice_get entries (length entries - 1) ≡ Some last) × ¬ (IsBefore last.name entry.name)

  order_at : AreInOrder entries → ComesNext → (k : ℕ) (first second : FolderEntry) → slice_get (entries ++ entry ∷ []) k ≡ Some first → slice_get (entries ++ entry ∷ []) (k + 1) ≡ Some second
      → ((x : FolderEntry) × (k + 1 < length entries) × (slice_get entries (k + 1) ≡ Some x) × (get_or entries (k + 1) x ≡ x)) ⊎ ((length entries ≤ k + 1) × (slice_get entries (k + 1) ≡ None)) → IsBefore first.name second.name
  order_at in_order next k first second one two (inl there) =
      in_order k first second (sym (front_get entries (entry ∷ []) k entry (omega (arith, there.1))) ∙ one) (sym (front_get entries (entry ∷ []) (k + 1) entry there.1) ∙ two)
  order_at in_order next k first second one two (inr past) =
      let within : k + 1 < length (entries ++ entry ∷ []) = slice_get_within (entries ++ entry ∷ []) (k + 1) second two in
      let at_end : k + 1 ≡ length entries = omega (arith, within, past.0, length-append entries (entry ∷ [])) in
      let before : k ≡ length entries - 1 = omega (arith, at_end) in
      let is_last : slice_get entries (length entries - 1) ≡ Some first = ap (slice_get entries) (sym before) ∙ (sym (front_get entries (entry ∷ []) k entry (omega (arith, at_end))) ∙ one) in
      let is_entry : entry ≡ second = sym (get_or-append_seam entries entry [] entry) ∙ (ap (λ n. get_or (entries ++ entry ∷ []) n entry) (sym at_end) ∙ get_or_from_slice_get (entries ++ entry ∷ []) (k + 1) second entry two) in
      subst (λ (e : FolderEntry). IsBefore first.name e.name) is_entry (next first is_last)

  order_more : AreInOrder entries → ComesNext → AreInOrder (entries ++ entry ∷ [])
  order_more in_order next k first second one two = order_at in_order next k first second one two (slice_get_cases entries (k + 1)).1

module _ (all entries repeated : List FolderEntry) (entry : FolderEntry) (front : Splits all entries repeated) where
  abbrev names : List FolderEntry → List (List ℕ)
  names es = map (λ (first : FolderEntry). first.name) es

  same_more : IsPermutation (all ++ entry ∷ []) (entries ++ (repeated ++ entry ∷ []))
  same_more = subst (λ (l : List FolderEntry). IsPermutation (all ++ entry ∷ []) l) (append_assoc entries repeated (entry ∷ [])) (IsPermutation-append_left (entry ∷ []) all (entries ++ repeated) front.same)

  pub put_next : ComesNext entries entry → Splits (all ++ entry ∷ []) (entries ++ entry ∷ []) repeated
  put_next next = record {
    same = IsPermutation-pop_more (all ++ entry ∷ []) entries (repeated ++ entry ∷ []) repeated entry same_more (IsPermutation-to_front repeated entry);
    in_order = order_more entries entry front.in_order next;
    are_repeated = All-weaker (HasNameOf entries) (HasNameOf (entries ++ entry ∷ []))
        (λ other has. subst (λ (l : List (List ℕ)). Contains l other.name) (sym (map-append (λ (first : FolderEntry). first.name) entries (entry ∷ []))) (Contains-append_left (names entries) (names (entry ∷ [])) other.name has))
        repeated front.are_repeated;
  }

  pub put_repeated : IsBeforeNone all entry → ComesAgain entries entry → Splits (all ++ entry ∷ []) entries (repeated ++ entry ∷ [])
  put_repeated none last =
      let at : ℕ = length entries - 1 in
      let within : at < length entries = slice_get_within entries at last.0 last.1 in
      let is_last : get_or entries at last.0 ≡ last.0 = get_or_from_slice_get entries at last.0 last.0 last.1 in
      let none_here : IsBeforeNone (entries ++ repeated) entry = All-permutation (λ (first : FolderEntry). ¬ (IsBefore entry.name first.name)) all (entries ++ repeated) front.same none in
      let in_all : get_or (entries ++ repeated) at last.0 ≡ last.0 = get_or-append entries repeated last.0 at within ∙ is_last in
      let not_after : ¬ (IsBefore entry.name last.0.name) =
      subst (λ (e : FolderEntry). ¬ (IsBefore entry.name e.name)) in_all (All-get_or (λ (first : FolderEntry). ¬ (IsBefore entry.name first.name)) (entries ++ repeated) at last.0 (omega (arith, within, length-append entries repeated)) none_here) in
      let named : last.0.name ≡ entry.name = same_name last.0.name entry.name last.2 not_after in
      let there : get_or (names entries) at entry.name ≡ entry.name = get_or-map (λ (first : FolderEntry). first.name) entries at last.0 entry.name within ∙ (ap (λ (e : FolderEntry). e.name) is_last ∙ named) in
      record {
        same = same_more;
        in_order = front.in_order;
        are_repeated = All-push (HasNameOf entries) repeated entry front.are_repeated (at, names_within entries at within, there);
      }
    where
      names_within : (es : List FolderEntry) (k : ℕ) → k < length es → k < length (names es)
      names_within es k within = omega (arith, within, length-map es (λ (first : FolderEntry). first.name))

-- ---- sorted entries

pub none_split : Splits [] [] []
none_split = record { same = IsPermutation-refl []; in_order = λ k first second one two. absurd cc; are_repeated = All-nil (HasNameOf []) }

-- the next of sorted entries comes before none of those before it
pub before_none : (sorted : List FolderEntry) (at : ℕ) (entry : FolderEntry) → AreSorted sorted → at < length sorted → entry ≡ get_or sorted at entry → IsBeforeNone (take at sorted) entry
before_none sorted at entry up within there k d below is =
    let shorter : k < at = omega (arith, below, length-take at sorted) in
    let not_less : is_lt (slice_cmp nat_cmp (get_or sorted at d).name (get_or sorted k d).name) ≡ false = sorted_far _ (ranks_by nat_list_cmp_total (λ (e : FolderEntry). e.name)) sorted up k at d (omega (arith, shorter)) within in
    let here : get_or sorted at d ≡ entry = get_or_default sorted at d entry within ∙ sym there in
    let front : get_or (take at sorted) k d ≡ get_or sorted k d = get_or-take at sorted k d shorter in
    let less : is_lt (slice_cmp nat_cmp entry.name (get_or sorted k d).name) ≡ true = ap (λ (e : FolderEntry). is_lt (slice_cmp nat_cmp entry.name e.name)) (sym front) ∙ ap is_lt is in
    absurd (true_false (sym less ∙ (ap (λ (e : FolderEntry). is_lt (slice_cmp nat_cmp e.name (get_or sorted k d).name)) (sym here) ∙ not_less)))
  where
    true_false : true ≡ false → ⊥
    true_false e = absurd cc

pub sorted_split : (listed sorted entries repeated : List FolderEntry) → IsPermutation listed sorted → Splits sorted entries repeated → Splits listed entries repeated
sorted_split listed sorted entries repeated moved splits = record { same = IsPermutation-trans listed sorted (entries ++ repeated) moved splits.same; in_order = splits.in_order; are_repeated = splits.are_repeated }
