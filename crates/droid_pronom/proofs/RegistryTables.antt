-- What one more record does to the look-ups of a registry.
use Rattle.std.proofs.Common.{◌≡◌, ◌⊎◌, ◌↔◌, ℕ, zero, suc, ◌+◌, ◌-◌, ◌<◌, Bool, true, false, cond, List, [], ◌∷◌, ◌++◌, length, length-append, Option, Some, None, refl, ap, sym, ◌∙◌, inl, inr, arith, add-one, set, get_or, option_map, IsTrue, IfSome}
use Rattle.std.specs.Option.{option_or}
use Rattle.std.specs.List.{slice_get, AllByRecursion}
use Rattle.std.specs.Map.{update}
use Rattle.std.specs.Str.{bytes_eq}
use Rattle.std.proofs.lemmas.Slice.Eq.{bytes_eq-Decides}
use Rattle.std.proofs.lemmas.Bool.{false_from_ne_true, cases_Bool}
use Rattle.std.proofs.lemmas.Option.{same_Some}
use Rattle.droid_pronom.specs.RegistryFields.{is_puid}
use Rattle.droid_pronom.specs.Registry.{Contents, Signed, AnyOf, IsSigned, IsRegistry, place_of}
use Rattle.std.specs.BTreeMap.{get_by_text}
use Rattle.std.proofs.Math.ListN.{length-set}
use Rattle.droid_pronom.specs.declared.registry.Registry.TheInside.{Inside}
use Rattle.droid_pronom.specs.RegistryGrowth.{with_format, with_signature, extended}
use Rattle.droid_pronom.specs.RegistryKept.{IsKept, contents}
use Rattle.droid_pronom.specs.declared.format.Format.{Format}
use Rattle.droid_pronom.specs.declared.rows.ByteSequence.{ByteSequence}
use Rattle.droid_pronom.proofs.Flags.{all_push, all_more, any_before, any_last, any_parts, set_here, set_keeps, set_only, unset_push, push_keeps}

-- ---- the place of a PUID

place_step : (b c : Bool) (p : Option ℕ) (n : ℕ)
    → cond b (Some 0) (option_map (λ k. k + 1) (option_or p (cond c (Some n) None))) ≡ option_or (cond b (Some 0) (option_map (λ k. k + 1) p)) (cond c (Some (suc n)) None)
place_step true c p n = refl
place_step false c (Some k) n = refl
place_step false true None n = ap Some (omega arith)
place_step false false None n = refl

-- among one more format, a PUID's place is the one that it had, or else that of the new one
pub place_push : (q : List ℕ) (fs : List Format) (f : Format)
    → place_of q (fs ++ f ∷ []) ≡ option_or (place_of q fs) (cond (bytes_eq q f.puid) (Some (length fs)) None)
place_push q [] f = refl
place_push q (g ∷ fs) f =
    rw (place_push q fs f) (place_step (bytes_eq q g.puid) (bytes_eq q f.puid) (place_of q fs) (length fs))

-- the look-up by PUID, one format added
pub places_push : (q : List ℕ) (fs : List Format) (f : Format) → place_of f.puid fs ≡ None
    → update bytes_eq (λ p. place_of p fs) f.puid (Some (length fs)) q ≡ place_of q (fs ++ f ∷ [])
places_push q fs f fresh =
    rw (place_push q fs f) (
    elim (cases_Bool (bytes_eq q f.puid)) [
      | inl same ↦
          let e : q ≡ f.puid = (bytes_eq-Decides q f.puid).0 same in
          let back : bytes_eq f.puid q ≡ true = (bytes_eq-Decides f.puid q).1 (sym e) in
          let none : place_of q fs ≡ None = rw e fresh in
          rw (back, same, none) refl
      | inr other ↦
          let back : bytes_eq f.puid q ≡ false = false_from_ne_true _ (λ t. let e : f.puid ≡ q = (bytes_eq-Decides f.puid q).0 t in let s : bytes_eq q f.puid ≡ true = (bytes_eq-Decides q f.puid).1 (sym e) in cc) in
          rw (back, other) (or_none (place_of q fs))
    ])
  where
    or_none : (p : Option ℕ) → p ≡ option_or p None
    or_none None = refl
    or_none (Some k) = refl

-- ---- the rules

-- a format among one more
pub get_push : (fs : List Format) (f g : Format) (k : ℕ) → slice_get (fs ++ f ∷ []) k ≡ Some g → (slice_get fs k ≡ Some g) ⊎ ((k ≡ length fs) × (f ≡ g))
get_push [] f g zero h = inr (refl, same_Some f g h)
get_push [] f g (suc k) h = cc
get_push (e ∷ fs) f g zero h = inl h
get_push (e ∷ fs) f g (suc k) h = elim (get_push fs f g k h) [ inl s ↦ inl s | inr s ↦ inr (ap suc s.0, s.1) ]

self_same : (q : List ℕ) → bytes_eq q q ≡ true
self_same q = (bytes_eq-Decides q q).1 refl

pub rules_format : (r : Contents) (f : Format) → IsRegistry r → length r.formats < 4096 → IsTrue (is_puid f.puid) → place_of f.puid r.formats ≡ None → IsRegistry (with_format r f)
rules_format r f h few named fresh =
    let longer : length (r.formats ++ f ∷ []) ≡ length r.formats + 1 = simp length-append in
    record {
      few = omega (arith, longer);
      named = all_push (λ g. IsTrue (is_puid g.puid)) r.formats f h.named named;
      distinct = λ k g at.
          elim (get_push r.formats f g k at) [
            | inl old ↦ rw (place_push g.puid r.formats f, h.distinct k g old) refl
            | inr new ↦
                let e : f.puid ≡ g.puid = ap (λ x. x.puid) new.1 in
                let none : place_of g.puid r.formats ≡ None = rw (← e) fresh in
                let same : bytes_eq g.puid f.puid ≡ true = (bytes_eq-Decides g.puid f.puid).1 (sym e) in
                rw (place_push g.puid r.formats f, none, same, new.0) refl
          ];
      extensions = all_more _ _ (λ row below. omega (arith, longer, below)) r.extensions h.extensions;
      priorities = all_more _ _ (λ row below. (omega (arith, longer, below.0), omega (arith, longer, below.1))) r.priorities h.priorities;
      signatures = all_more _ _ (λ row below. omega (arith, longer, below)) r.signatures h.signatures;
    }

pub rules_signature : (r : Contents) (s : Signed) → IsRegistry r → s.place < length r.formats → IsRegistry (with_signature r s)
rules_signature r s h below = record {
  few = h.few;
  named = h.named;
  distinct = h.distinct;
  extensions = h.extensions;
  priorities = h.priorities;
  signatures = all_push (λ row. row.place < length r.formats) r.signatures s h.signatures below;
}

-- ---- which formats have signatures

pub signed_signature : (flags : List Bool) (r : Contents) (s : Signed) → ((k : ℕ) → (slice_get flags k ≡ Some true) ↔ IsSigned r k) → s.place < length flags
    → (k : ℕ) → (slice_get (set flags s.place true) k ≡ Some true) ↔ IsSigned (with_signature r s) k
signed_signature flags r s h below k = (
  λ stands. elim (set_only flags s.place k stands) [
    | inl e ↦ any_last (λ x. x.place ≡ k) r.signatures s (sym e)
    | inr old ↦ any_before (λ x. x.place ≡ k) r.signatures s ((h k).0 old)
  ],
  λ signed. elim (any_parts (λ x. x.place ≡ k) r.signatures s signed) [
    | inl old ↦ set_keeps flags s.place k ((h k).1 old)
    | inr e ↦ rw (sym e) (set_here flags s.place below)
  ],
)

-- ---- one more byte sequence of the last signature

-- the last item, written over
pub extended_at : (q : ByteSequence) (xs : List Signed) (n : ℕ) (d : Signed) → length xs ≡ suc n
    → extended q xs ≡ set xs n (record (get_or xs n d) { sequences = (get_or xs n d).sequences ++ q ∷ [] })
extended_at q [] n d h = absurd (omega arith)
extended_at q (x ∷ []) zero d h = refl
extended_at q (x ∷ []) (suc n) d h = absurd (omega arith)
extended_at q (x ∷ y ∷ more) zero d h = absurd (omega arith)
extended_at q (x ∷ y ∷ more) (suc n) d h = ap (λ t. x ∷ t) (extended_at q (y ∷ more) n d (omega arith))

-- the same, at the place that the code computes
pub extended_is : (q : ByteSequence) (xs : List Signed) (n : ℕ) (old new : Signed) → 0 < length xs → n ≡ length xs → old ≡ get_or xs (n - 1) old
    → new ≡ record old { sequences = old.sequences ++ q ∷ [] } → extended q xs ≡ set xs (n - 1) new
extended_is q xs n old new some len is e =
    let at : extended q xs ≡ set xs (n - 1) (record (get_or xs (n - 1) old) { sequences = (get_or xs (n - 1) old).sequences ++ q ∷ [] }) = extended_at q xs (n - 1) old (omega arith) in
    at ∙ ap (λ (s : Signed). set xs (n - 1) (record s { sequences = s.sequences ++ q ∷ [] })) (sym is) ∙ ap (λ (s : Signed). set xs (n - 1) s) (sym e)

-- the places stay
pub extended_all : (q : ByteSequence) (n : ℕ) (xs : List Signed) → AllByRecursion (λ s. s.place < n) xs → AllByRecursion (λ s. s.place < n) (extended q xs)
extended_all q n [] h = tt
extended_all q n (x ∷ []) h = (h.0, tt)
extended_all q n (x ∷ y ∷ more) h = (h.0, extended_all q n (y ∷ more) h.1)

pub extended_any : (q : ByteSequence) (k : ℕ) (xs : List Signed) → AnyOf (λ s. s.place ≡ k) xs ↔ AnyOf (λ s. s.place ≡ k) (extended q xs)
extended_any q k [] = (λ h. h, λ h. h)
extended_any q k (x ∷ []) = (λ h. elim h [ inl e ↦ inl e | inr a ↦ absurd a ], λ h. elim h [ inl e ↦ inl e | inr a ↦ absurd a ])
extended_any q k (x ∷ y ∷ more) = (
  λ h. elim h [ inl e ↦ inl e | inr a ↦ inr ((extended_any q k (y ∷ more)).0 a) ],
  λ h. elim h [ inl e ↦ inl e | inr a ↦ inr ((extended_any q k (y ∷ more)).1 a) ],
)

-- ---- what is kept, after one more record

pub kept_format : (a b : Inside) (f : Format) → IsKept a → length a.formats.items < 4096 → IsTrue (is_puid f.puid) → place_of f.puid a.formats.items ≡ None
    → b.formats.items ≡ a.formats.items ++ f ∷ [] → b.signed.items ≡ a.signed.items ++ false ∷ []
    → b.extensions.items ≡ a.extensions.items → b.priorities.items ≡ a.priorities.items → b.signatures.items ≡ a.signatures.items
    → ((q : List ℕ) → get_by_text b.places q ≡ update bytes_eq (get_by_text a.places) f.puid (Some (length a.formats.items)) q)
    → IsKept b
kept_format a b f kept few named fresh formats signed extensions priorities signatures places = record {
  rules = rw (formats, extensions, priorities, signatures) (rules_format (contents a) f kept.rules few named fresh);
  places = λ q. places q ∙ ap (λ (o : Option ℕ). cond (bytes_eq f.puid q) (Some (length a.formats.items)) o) (kept.places q) ∙ places_push q a.formats.items f fresh ∙ ap (place_of q) (sym formats);
  flags = rw (formats, signed) (simp length-append (omega (arith, kept.flags)));
  signed = λ k. rw (signed, signatures) (
    λ stands. (kept.signed k).0 (unset_push a.signed.items k stands),
    λ says. push_keeps a.signed.items false k ((kept.signed k).1 says),
  );
}

pub kept_signature : (a b : Inside) (s : Signed) → IsKept a → s.place < length a.formats.items
    → b.formats.items ≡ a.formats.items → b.signed.items ≡ set a.signed.items s.place true
    → b.extensions.items ≡ a.extensions.items → b.priorities.items ≡ a.priorities.items → b.signatures.items ≡ a.signatures.items ++ s ∷ []
    → ((q : List ℕ) → get_by_text b.places q ≡ get_by_text a.places q)
    → IsKept b
kept_signature a b s kept below formats signed extensions priorities signatures places = record {
  rules = rw (formats, extensions, priorities, signatures) (rules_signature (contents a) s kept.rules below);
  places = λ q. places q ∙ kept.places q ∙ ap (place_of q) (sym formats);
  flags = rw (formats, signed) (simp length-set kept.flags);
  signed = λ k. rw (signed, signatures) (signed_signature a.signed.items (contents a) s kept.signed (omega (arith, kept.flags)) k);
}

pub kept_sequence : (a b : Inside) (q : ByteSequence) → IsKept a
    → b.formats.items ≡ a.formats.items → b.signed.items ≡ a.signed.items
    → b.extensions.items ≡ a.extensions.items → b.priorities.items ≡ a.priorities.items → b.signatures.items ≡ extended q a.signatures.items
    → ((p : List ℕ) → get_by_text b.places p ≡ get_by_text a.places p)
    → IsKept b
kept_sequence a b q kept formats signed extensions priorities signatures places = record {
  rules = rw (formats, extensions, priorities, signatures) (record {
    few = kept.rules.few;
    named = kept.rules.named;
    distinct = kept.rules.distinct;
    extensions = kept.rules.extensions;
    priorities = kept.rules.priorities;
    signatures = extended_all q (length a.formats.items) a.signatures.items kept.rules.signatures;
  });
  places = λ p. places p ∙ kept.places p ∙ ap (place_of p) (sym formats);
  flags = rw (formats, signed) kept.flags;
  signed = λ k. rw (signed, signatures) (
    λ stands. (extended_any q k a.signatures.items).0 ((kept.signed k).0 stands),
    λ says. (kept.signed k).1 ((extended_any q k a.signatures.items).1 says),
  );
}

-- ---- what stands at the place of a PUID

within_step : (b : Bool) (o : Option ℕ) (n : ℕ) → IfSome o (λ k. k < n) → IfSome (cond b (Some 0) (option_map (λ k. k + 1) o)) (λ k. k < suc n)
within_step true o n h = omega arith
within_step false None n h = tt
within_step false (Some k) n h = omega arith

pub place_within : (q : List ℕ) (fs : List Format) → IfSome (place_of q fs) (λ k. k < length fs)
place_within q [] = tt
place_within q (f ∷ fs) = within_step (bytes_eq q f.puid) (place_of q fs) (length fs) (place_within q fs)

there_step : (q : List ℕ) (f : Format) (fs : List Format) (b : Bool) (o : Option ℕ) → (b ≡ true → q ≡ f.puid)
    → IfSome o (λ k. option_map (λ (g : Format). g.puid) (slice_get fs k) ≡ Some q)
    → IfSome (cond b (Some 0) (option_map (λ k. k + 1) o)) (λ k. option_map (λ (g : Format). g.puid) (slice_get (f ∷ fs) k) ≡ Some q)
there_step q f fs true o same h = ap Some (sym (same refl))
there_step q f fs false None same h = tt
there_step q f fs false (Some k) same h = rw add-one h

pub place_there : (q : List ℕ) (fs : List Format) → IfSome (place_of q fs) (λ k. option_map (λ (g : Format). g.puid) (slice_get fs k) ≡ Some q)
place_there q [] = tt
place_there q (f ∷ fs) = there_step q f fs (bytes_eq q f.puid) (place_of q fs) (bytes_eq-Decides q f.puid).0 (place_there q fs)
