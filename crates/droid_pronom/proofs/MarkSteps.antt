-- One row more, for each table of flags.
use Rattle.std.proofs.Common.{◌≡◌, ◌≢◌, ◌⊎◌, ◌↔◌, ℕ, ◌+◌, ◌<◌, Bool, true, false, List, [], ◌∷◌, ◌++◌, length, refl, ◌∙◌, inl, inr, arith, set, get_or, drop, add-one, append_assoc, ◌≤◌, ◌&&◌, not}
use Rattle.std.proofs.lemmas.List.{drop_all}
use Rattle.droid_pronom.specs.Found.{Chosen, end, chosen, passed}
use Rattle.droid_pronom.specs.declared.format.Format.{Format}
use Rattle.std.proofs.Math.ListN.{length-set}
use Rattle.std.specs.List.{AllByRecursion}
use Rattle.droid_pronom.specs.Registry.{AnyOf, Signed}
use Rattle.droid_pronom.specs.FoundWindows.{Stands, without}
use Rattle.droid_pronom.specs.declared.rows.Priority.{Priority}
use Rattle.droid_pronom.specs.declared.rows.ListedExtension.{ListedExtension}
use Rattle.droid_pronom.specs.declared.rows.ByteSequence.{ByteSequence}
use Rattle.droid_pronom.proofs.Flags.{stands_at, stands_not}
use Rattle.droid_pronom.proofs.Marks.{Marks, marks_set, marks_skip}

-- ---- which formats hit

abbrev pub SaysHit : (ByteSequence → Type 0) → ℕ → Signed → Type 0
SaysHit H k signature = (signature.place ≡ k) × AllByRecursion H signature.sequences

abbrev pub HitsSoFar : (ByteSequence → Type 0) → ℕ → List Bool → List Signed → (ℕ → Type 0) → Type 0
HitsSoFar H count hit left T = (length hit ≡ count) × AllByRecursion (λ signature. signature.place < count) left × Marks (SaysHit H) hit left T

pub hit_before : (H : ByteSequence → Type 0) (count : ℕ) (hit : List Bool) (x : Signed) (xs : List Signed) (T : ℕ → Type 0) (d : Bool)
    → HitsSoFar H count hit (x ∷ xs) T → get_or hit x.place d ≡ true → HitsSoFar H count hit xs T
hit_before H count hit x xs T d inv e =
    let below : x.place < length hit = omega (arith, inv.0, inv.1.0) in
    (inv.0, inv.1.1, marks_skip (SaysHit H) hit x xs T inv.2 (λ k q. let s : Stands hit x.place = stands_at hit x.place d below e in rw q.0 at s))

pub hit_now : (H : ByteSequence → Type 0) (count : ℕ) (hit : List Bool) (x : Signed) (xs : List Signed) (T : ℕ → Type 0)
    → HitsSoFar H count hit (x ∷ xs) T → AllByRecursion H x.sequences → HitsSoFar H count (set hit x.place true) xs T
hit_now H count hit x xs T inv all =
    let below : x.place < length hit = omega (arith, inv.0, inv.1.0) in
    (length-set hit x.place true ∙ inv.0, inv.1.1, marks_set (SaysHit H) hit x xs T x.place inv.2 below (refl, all) (λ k q. q.0))

pub hit_not : (H : ByteSequence → Type 0) (count : ℕ) (hit : List Bool) (x : Signed) (xs : List Signed) (T : ℕ → Type 0)
    → HitsSoFar H count hit (x ∷ xs) T → (AllByRecursion H x.sequences → ⊥) → HitsSoFar H count hit xs T
hit_not H count hit x xs T inv none = (inv.0, inv.1.1, marks_skip (SaysHit H) hit x xs T inv.2 (λ k q. absurd (none q.1)))

-- ---- which formats are beaten

abbrev pub SaysBeaten : List Bool → ℕ → Priority → Type 0
SaysBeaten hit k row = Stands hit row.place × (row.over ≡ k)

abbrev pub BeatenSoFar : List Bool → List Bool → List Priority → (ℕ → Type 0) → Type 0
BeatenSoFar hit beaten left T =
    (length beaten ≡ length hit) × AllByRecursion (λ row. (row.place < length hit) × (row.over < length hit)) left × Marks (SaysBeaten hit) beaten left T

pub beaten_now : (hit beaten : List Bool) (x : Priority) (xs : List Priority) (T : ℕ → Type 0) (d : Bool)
    → BeatenSoFar hit beaten (x ∷ xs) T → get_or hit x.place d ≡ true → BeatenSoFar hit (set beaten x.over true) xs T
beaten_now hit beaten x xs T d inv e =
    let below : x.over < length beaten = omega (arith, inv.0, inv.1.0.1) in
    (length-set beaten x.over true ∙ inv.0, inv.1.1, marks_set (SaysBeaten hit) beaten x xs T x.over inv.2 below (stands_at hit x.place d inv.1.0.0 e, refl) (λ k q. q.1))

pub beaten_not : (hit beaten : List Bool) (x : Priority) (xs : List Priority) (T : ℕ → Type 0) (d : Bool)
    → BeatenSoFar hit beaten (x ∷ xs) T → get_or hit x.place d ≡ false → BeatenSoFar hit beaten xs T
beaten_not hit beaten x xs T d inv e =
    (inv.0, inv.1.1, marks_skip (SaysBeaten hit) beaten x xs T inv.2 (λ k q. absurd (stands_not hit x.place d inv.1.0.0 e q.0)))

-- ---- which formats are named

abbrev pub MayName : List ℕ → List Bool → Bool → ListedExtension → Type 0
MayName wanted signed match_all row = (wanted ≢ []) × (row.extension ≡ wanted) × ((match_all ≡ true) ⊎ (Stands signed row.place → ⊥))

abbrev pub SaysNamed : List ℕ → List Bool → Bool → ℕ → ListedExtension → Type 0
SaysNamed wanted signed match_all k row = (row.place ≡ k) × (wanted ≢ []) × (row.extension ≡ wanted) × ((match_all ≡ true) ⊎ (Stands signed row.place → ⊥))

abbrev pub NamedSoFar : List ℕ → List Bool → Bool → List Bool → List ListedExtension → (ℕ → Type 0) → Type 0
NamedSoFar wanted signed match_all named left T =
    (length named ≡ length signed) × AllByRecursion (λ row. row.place < length signed) left × Marks (SaysNamed wanted signed match_all) named left T

pub named_now : (wanted : List ℕ) (signed : List Bool) (match_all : Bool) (named : List Bool) (x : ListedExtension) (xs : List ListedExtension) (T : ℕ → Type 0)
    → NamedSoFar wanted signed match_all named (x ∷ xs) T → MayName wanted signed match_all x → NamedSoFar wanted signed match_all (set named x.place true) xs T
named_now wanted signed match_all named x xs T inv may =
    let below : x.place < length named = omega (arith, inv.0, inv.1.0) in
    (length-set named x.place true ∙ inv.0, inv.1.1, marks_set (SaysNamed wanted signed match_all) named x xs T x.place inv.2 below (refl, may.0, may.1, may.2) (λ k q. q.0))

pub named_not : (wanted : List ℕ) (signed : List Bool) (match_all : Bool) (named : List Bool) (x : ListedExtension) (xs : List ListedExtension) (T : ℕ → Type 0)
    → NamedSoFar wanted signed match_all named (x ∷ xs) T → (MayName wanted signed match_all x → ⊥) → NamedSoFar wanted signed match_all named xs T
named_not wanted signed match_all named x xs T inv none =
    (inv.0, inv.1.1, marks_skip (SaysNamed wanted signed match_all) named x xs T inv.2 (λ k q. absurd (none (q.1, q.2, q.3))))

-- ---- the mismatch

abbrev pub MismatchSoFar : List Bool → List ℕ → Bool → List ListedExtension → Type 0 → Type 0 → Type 0
MismatchSoFar flags wanted one left T U =
    AllByRecursion (λ row. row.place < length flags) left
    × (T ↔ ((one ≡ true) ⊎ AnyOf (λ row. Stands flags row.place) left))
    × (U ↔ AnyOf (λ row. Stands flags row.place × (row.extension ≡ wanted)) left)

pub mismatch_one : (flags : List Bool) (wanted : List ℕ) (one : Bool) (x : ListedExtension) (xs : List ListedExtension) (T U : Type 0) (d : Bool)
    → MismatchSoFar flags wanted one (x ∷ xs) T U → get_or flags x.place d ≡ true → x.extension ≢ wanted → MismatchSoFar flags wanted true xs T U
mismatch_one flags wanted one x xs T U d inv e other = (
  inv.0.1,
  (λ t. inl refl, λ _. inv.1.1 (inr (inl (stands_at flags x.place d inv.0.0 e)))),
  (
    λ u. elim (inv.2.0 u) [ inl q ↦ absurd (other q.1) | inr a ↦ a ],
    λ a. inv.2.1 (inr a),
  ),
)

pub mismatch_skip : (flags : List Bool) (wanted : List ℕ) (one : Bool) (x : ListedExtension) (xs : List ListedExtension) (T U : Type 0) (d : Bool)
    → MismatchSoFar flags wanted one (x ∷ xs) T U → get_or flags x.place d ≡ false → MismatchSoFar flags wanted one xs T U
mismatch_skip flags wanted one x xs T U d inv e = (
  inv.0.1,
  (
    λ t. elim (inv.1.0 t) [ inl o ↦ inl o | inr a ↦ elim a [ inl s ↦ absurd (stands_not flags x.place d inv.0.0 e s) | inr rest ↦ inr rest ] ],
    λ t. elim t [ inl o ↦ inv.1.1 (inl o) | inr rest ↦ inv.1.1 (inr (inr rest)) ],
  ),
  (
    λ u. elim (inv.2.0 u) [ inl q ↦ absurd (stands_not flags x.place d inv.0.0 e q.0) | inr a ↦ a ],
    λ a. inv.2.1 (inr a),
  ),
)

pub mismatch_stop : (flags : List Bool) (wanted : List ℕ) (one : Bool) (x : ListedExtension) (xs : List ListedExtension) (T U : Type 0) (d : Bool)
    → MismatchSoFar flags wanted one (x ∷ xs) T U → get_or flags x.place d ≡ true → x.extension ≡ wanted → U
mismatch_stop flags wanted one x xs T U d inv e same = inv.2.1 (inl (stands_at flags x.place d inv.0.0 e, same))

-- ---- the PUIDs

pub chosen_step : (P : ℕ → Type 0) (i : ℕ) (f : Format) (more whole : List Format) → whole ≡ f ∷ more → P i → (rest : List (List ℕ)) → Chosen P (i + 1) more rest → Chosen P i whole (f.puid ∷ rest)
chosen_step P i f more whole e p rest h = rw e (chosen p (rw add-one at h))

pub passed_step : (P : ℕ → Type 0) (i : ℕ) (f : Format) (more whole : List Format) → whole ≡ f ∷ more → (P i → ⊥) → (rest : List (List ℕ)) → Chosen P (i + 1) more rest → Chosen P i whole rest
passed_step P i f more whole e p rest h = rw e (passed p (rw add-one at h))

pub chosen_end : (P : ℕ → Type 0) (i : ℕ) (fs : List Format) → length fs ≤ i → Chosen P i (drop i fs) []
chosen_end P i fs past = rw (drop_all i fs past) end

-- ---- what is left

pub without_step : (left new hits others hits' others' whole : List Bool) (h o v : Bool) → left ++ without hits others ≡ whole → hits ≡ h ∷ hits' → others ≡ o ∷ others'
    → v ≡ (h && not o) → new ≡ left ++ v ∷ [] → new ++ without hits' others' ≡ whole
without_step left new hits others hits' others' whole h o v inv eh eo ev en =
    rw (en, append_assoc, ev) (rw (eh, eo) at inv)
