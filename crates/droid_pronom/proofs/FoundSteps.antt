-- What the flags of the steps say, put together.
use Rattle.std.proofs.Common.{◌≡◌, ◌≢◌, ◌⊎◌, ◌↔◌, ℕ, zero, suc, ◌≤◌, Bool, true, false, IsTrue, List, [], ◌∷◌, length, refl, ap, sym, ◌∙◌, inl, inr, arith}
use Rattle.std.specs.List.{AllByRecursion, list_any}
use Rattle.std.specs.Str.{str_to_ascii_lowercase}
use Rattle.droid_pronom.specs.RegistryFields.{is_puid}
use Rattle.droid_pronom.specs.Registry.{Contents, AnyOf, IsSigned, IsRegistry}
use Rattle.droid_frame.specs.declared.method.Method.TheVariants as methods
use Rattle.droid_pronom.specs.declared.identification.Found.{Found}
use Rattle.droid_pronom.specs.Found.{extension_of, IsHit, IsLeft, IsNamed, IsMismatch, IsFoundBy, Chosen, end, chosen, passed}
use Rattle.droid_pronom.specs.FoundWindows.{Stands, AreFlagsOf, without}
use Rattle.droid_pronom.specs.declared.format.Format.{Format}
use Rattle.droid_pronom.specs.declared.rows.ByteSequence.{ByteSequence}
use Rattle.droid_pronom.specs.declared.rows.Priority.{Priority}
use Rattle.droid_pronom.specs.declared.rows.ListedExtension.{ListedExtension}
use Rattle.droid_pronom.proofs.Flags.{any_more}
use Rattle.droid_pronom.proofs.MarkSteps.{SaysNamed}

-- ---- the formats that are left

without_to : (hit beaten : List Bool) (k : ℕ) → Stands (without hit beaten) k → Stands hit k × (Stands beaten k → ⊥)
without_to [] beaten k s = absurd (cc)
without_to (h ∷ hs) [] k s = absurd (cc)
without_to (true ∷ hs) (true ∷ bs) zero s = absurd (cc)
without_to (true ∷ hs) (false ∷ bs) zero s = (refl, λ b. cc)
without_to (false ∷ hs) (b ∷ bs) zero s = absurd (cc)
without_to (h ∷ hs) (b ∷ bs) (suc k) s = without_to hs bs k s

without_from : (hit beaten : List Bool) (k : ℕ) → length hit ≡ length beaten → Stands hit k → (Stands beaten k → ⊥) → Stands (without hit beaten) k
without_from [] beaten k e s n = cc
without_from (h ∷ hs) [] k e s n = absurd (omega arith)
without_from (true ∷ hs) (true ∷ bs) zero e s n = absurd (n refl)
without_from (true ∷ hs) (false ∷ bs) zero e s n = refl
without_from (false ∷ hs) (b ∷ bs) zero e s n = cc
without_from (h ∷ hs) (b ∷ bs) (suc k) e s n = without_from hs bs k (omega arith) s n

pub without_length : (hit beaten : List Bool) → length hit ≡ length beaten → length (without hit beaten) ≡ length hit
without_length [] beaten e = refl
without_length (h ∷ hs) [] e = absurd (omega arith)
without_length (h ∷ hs) (b ∷ bs) e = ap suc (without_length hs bs (omega arith))

pub report_left : (H : ByteSequence → Type 0) (registry : Contents) (hit beaten : List Bool) → length hit ≡ length beaten
    → AreFlagsOf hit (IsHit H registry) → AreFlagsOf beaten (λ k. AnyOf (λ row. Stands hit row.place × (row.over ≡ k)) registry.priorities)
    → AreFlagsOf (without hit beaten) (IsLeft H registry)
report_left H registry hit beaten e hits beats k = (
  λ s.
      let parts = without_to hit beaten k s in
      ((hits k).0 parts.0, λ b. parts.1 ((beats k).1 (any_more (λ (row : Priority). IsHit H registry row.place × (row.over ≡ k)) (λ (row : Priority). Stands hit row.place × (row.over ≡ k)) (λ row p. ((hits row.place).1 p.0, p.1)) registry.priorities b))),
  λ l.
      without_from hit beaten k e ((hits k).1 l.0)
      (λ s. l.1 (any_more (λ (row : Priority). Stands hit row.place × (row.over ≡ k)) (λ (row : Priority). IsHit H registry row.place × (row.over ≡ k)) (λ row p. ((hits row.place).0 p.0, p.1)) registry.priorities ((beats k).0 s))),
)

-- no flag is set
unset : (flags : List Bool) (k : ℕ) → list_any (λ (flag : Bool). flag) flags ≡ false → Stands flags k → ⊥
unset [] k none stands = cc
unset (true ∷ flags) k none stands = cc
unset (false ∷ flags) zero none stands = cc
unset (false ∷ flags) (suc k) none stands = unset flags k none stands

-- if no format hits, none is left
pub none_left : (H : ByteSequence → Type 0) (registry : Contents) (hit : List Bool) → list_any (λ (flag : Bool). flag) hit ≡ false
    → AreFlagsOf hit (IsHit H registry) → AreFlagsOf hit (IsLeft H registry)
none_left H registry hit none hits k = (λ s. absurd (unset hit k none s), λ l. (hits k).1 l.0)

-- ---- the formats that the extension names

lower_some : (xs : List ℕ) → str_to_ascii_lowercase xs ≢ [] → xs ≢ []
lower_some [] n e = n refl
lower_some (x ∷ xs) n e = cc

some_lower : (xs : List ℕ) → xs ≢ [] → str_to_ascii_lowercase xs ≢ []
some_lower [] n e = n refl
some_lower (x ∷ xs) n e = cc

-- the row of a format that the extension names says so
named_parts : (extension : List ℕ) (signed : List Bool) (match_all : Bool) (k : ℕ) (rows : List ListedExtension)
    → AnyOf (SaysNamed (str_to_ascii_lowercase extension) signed match_all k) rows
    → (extension ≢ []) × AnyOf (λ row. (row.place ≡ k) × (row.extension ≡ str_to_ascii_lowercase extension)) rows × ((match_all ≡ true) ⊎ (Stands signed k → ⊥))
named_parts extension signed match_all k [] a = absurd a
named_parts extension signed match_all k (row ∷ rows) a = elim a [
  | inl q ↦ (lower_some extension q.1, inl (q.0, q.2), elim q.3 [ inl m ↦ inl m | inr n ↦ inr (λ s. n (rw q.0 s)) ])
  | inr rest ↦ let parts = named_parts extension signed match_all k rows rest in (parts.0, inr parts.1, parts.2)
]

pub report_named : (registry : Contents) (extension wanted : List ℕ) (signed named : List Bool) (match_all : Bool) → wanted ≡ str_to_ascii_lowercase extension
    → AreFlagsOf signed (IsSigned registry) → AreFlagsOf named (λ k. AnyOf (SaysNamed wanted signed match_all k) registry.extensions) → AreFlagsOf named (IsNamed registry extension match_all)
report_named registry extension wanted signed named match_all e signs names k = (
  λ s.
      let parts = named_parts extension signed match_all k registry.extensions (rw e at ((names k).0 s)) in
      record { some = parts.0; lists = parts.1; unsigned = elim parts.2 [ inl m ↦ inl m | inr n ↦ inr (λ i. n ((signs k).1 i)) ] },
  λ n. (names k).1 (rw e (any_more (λ (row : ListedExtension). (row.place ≡ k) × (row.extension ≡ str_to_ascii_lowercase extension)) (SaysNamed (str_to_ascii_lowercase extension) signed match_all k)
      (λ row p. (p.0, some_lower extension n.some, p.1, elim n.unsigned [ inl m ↦ inl m | inr u ↦ inr (λ s. u ((signs k).0 (rw p.0 at s))) ])) registry.extensions n.lists)),
)

-- ---- the mismatch

pub report_mismatch : (H : ByteSequence → Type 0) (registry : Contents) (extension wanted : List ℕ) (left : List Bool) (mismatch : Bool) → wanted ≡ str_to_ascii_lowercase extension
    → AreFlagsOf left (IsLeft H registry)
    → (IsTrue mismatch ↔ ((wanted ≢ []) × AnyOf (λ row. Stands left row.place) registry.extensions × (AnyOf (λ row. Stands left row.place × (row.extension ≡ wanted)) registry.extensions → ⊥)))
    → (IsTrue mismatch ↔ IsMismatch H registry extension)
report_mismatch H registry extension wanted left mismatch e reports says = (
  λ t.
      let parts = rw e at (says.0 t) in
      record {
        some = lower_some extension parts.0;
        lists_one = any_more (λ (row : ListedExtension). Stands left row.place) (λ (row : ListedExtension). IsLeft H registry row.place) (λ row s. (reports row.place).0 s) registry.extensions parts.1;
        lists_other = λ a. parts.2 (any_more (λ (row : ListedExtension). IsLeft H registry row.place × (row.extension ≡ str_to_ascii_lowercase extension)) (λ (row : ListedExtension). Stands left row.place × (row.extension ≡ str_to_ascii_lowercase extension)) (λ row p. ((reports row.place).1 p.0, p.1)) registry.extensions a);
      },
  λ m. says.1 (rw e (
    some_lower extension m.some,
    any_more (λ (row : ListedExtension). IsLeft H registry row.place) (λ (row : ListedExtension). Stands left row.place) (λ row l. (reports row.place).1 l) registry.extensions m.lists_one,
    λ a. m.lists_other (any_more (λ (row : ListedExtension). Stands left row.place × (row.extension ≡ str_to_ascii_lowercase extension)) (λ (row : ListedExtension). IsLeft H registry row.place × (row.extension ≡ str_to_ascii_lowercase extension)) (λ row p. ((reports row.place).0 p.0, p.1)) registry.extensions a),
  )),
)

-- ---- the PUIDs

pub chosen_same : (P Q : ℕ → Type 0) (k : ℕ) (formats : List Format) (puids : List (List ℕ)) → ((k : ℕ) → P k ↔ Q k) → Chosen P k formats puids → Chosen Q k formats puids
chosen_same P Q k formats puids same end = end
chosen_same P Q k formats puids same (chosen p more) = chosen ((same _).0 p) (chosen_same P Q _ _ _ same more)
chosen_same P Q k formats puids same (passed n more) = passed (λ q. n ((same _).1 q)) (chosen_same P Q _ _ _ same more)

-- there are none
chosen_none : (P : ℕ → Type 0) (k : ℕ) (formats : List Format) → ((j : ℕ) → P j → ⊥) → Chosen P k formats []
chosen_none P k [] none = end
chosen_none P k (format ∷ formats) none = passed (none k) (chosen_none P (suc k) formats none)

-- an empty extension names no format
pub unnamed : (registry : Contents) (extension wanted : List ℕ) (match_all : Bool) → wanted ≡ str_to_ascii_lowercase extension → wanted ≡ []
    → Chosen (IsNamed registry extension match_all) 0 registry.formats []
unnamed registry extension wanted match_all same empty =
    chosen_none (IsNamed registry extension match_all) 0 registry.formats (λ j n. some_lower extension n.some (sym same ∙ empty))

-- there are at most as many as formats
pub chosen_few : (P : ℕ → Type 0) (k : ℕ) (formats : List Format) (puids : List (List ℕ)) → Chosen P k formats puids → length puids ≤ length formats
chosen_few P k formats puids end = omega arith
chosen_few P k formats puids (chosen p more) = omega (arith, chosen_few P _ _ _ more)
chosen_few P k formats puids (passed n more) = omega (arith, chosen_few P _ _ _ more)

-- and each is one of theirs
pub chosen_puids : (P : ℕ → Type 0) (k : ℕ) (formats : List Format) (puids : List (List ℕ)) → Chosen P k formats puids
    → AllByRecursion (λ format. IsTrue (is_puid format.puid)) formats → AllByRecursion (λ puid. IsTrue (is_puid puid)) puids
chosen_puids P k formats puids end all = tt
chosen_puids P k formats puids (chosen p more) all = (all.0, chosen_puids P _ _ _ more all.1)
chosen_puids P k formats puids (passed n more) all = chosen_puids P _ _ _ more all.1

-- ---- what is found

module _ (H : ByteSequence → Type 0) (registry : Contents) (name : List ℕ) (match_all : Bool) where
  pub found_signature : (left : List Bool) (puids : List (List ℕ)) (mismatch : Bool) (wanted : List ℕ) → AreFlagsOf left (IsLeft H registry) → Chosen (Stands left) 0 registry.formats puids → puids ≢ []
      → wanted ≡ str_to_ascii_lowercase (extension_of name)
      → (IsTrue mismatch ↔ ((wanted ≢ []) × AnyOf (λ row. Stands left row.place) registry.extensions × (AnyOf (λ row. Stands left row.place × (row.extension ≡ wanted)) registry.extensions → ⊥)))
      → IsFoundBy H registry name match_all (record { method = methods.Signature; mismatch = mismatch; puids = puids })
  found_signature left puids mismatch wanted reports are some e says = inl (record {
    left = chosen_same (Stands left) (IsLeft H registry) 0 registry.formats puids reports are;
    some = some;
    method = refl;
    mismatch = report_mismatch H registry (extension_of name) wanted left mismatch e reports says;
  })

  pub found_extension : (left : List Bool) (puids : List (List ℕ)) → AreFlagsOf left (IsLeft H registry) → Chosen (Stands left) 0 registry.formats []
      → Chosen (IsNamed registry (extension_of name) match_all) 0 registry.formats puids → puids ≢ []
      → IsFoundBy H registry name match_all (record { method = methods.Extension; mismatch = false; puids = puids })
  found_extension left puids reports none named some = inr (inl (record {
    left = chosen_same (Stands left) (IsLeft H registry) 0 registry.formats [] reports none;
    named = named;
    some = some;
    method = refl;
    mismatch = refl;
  }))

  pub found_nothing : (left : List Bool) (puids : List (List ℕ)) → AreFlagsOf left (IsLeft H registry) → Chosen (Stands left) 0 registry.formats []
      → Chosen (IsNamed registry (extension_of name) match_all) 0 registry.formats puids → puids ≡ []
      → IsFoundBy H registry name match_all (record { method = methods.Unidentified; mismatch = false; puids = puids })
  found_nothing left puids reports none named e = inr (inr (record {
    left = chosen_same (Stands left) (IsLeft H registry) 0 registry.formats [] reports none;
    named = rw e at named;
    none = e;
    method = refl;
    mismatch = refl;
  }))

-- how many and which PUIDs are found
pub found_few : (H : ByteSequence → Type 0) (registry : Contents) (name : List ℕ) (match_all : Bool) (found : Found) → IsRegistry registry → IsFoundBy H registry name match_all found → length found.puids ≤ 4096
found_few H registry name match_all found rules is = elim is [
  | inl a ↦ omega (arith, chosen_few (IsLeft H registry) 0 registry.formats found.puids a.left, rules.few)
  | inr b ↦ elim b [
    | inl e ↦ omega (arith, chosen_few (IsNamed registry (extension_of name) match_all) 0 registry.formats found.puids e.named, rules.few)
    | inr n ↦ rw n.none (omega arith)
  ]
]

pub found_puids : (H : ByteSequence → Type 0) (registry : Contents) (name : List ℕ) (match_all : Bool) (found : Found) → IsRegistry registry → IsFoundBy H registry name match_all found → AllByRecursion (λ puid. IsTrue (is_puid puid)) found.puids
found_puids H registry name match_all found rules is = elim is [
  | inl a ↦ chosen_puids (IsLeft H registry) 0 registry.formats found.puids a.left rules.named
  | inr b ↦ elim b [
    | inl e ↦ chosen_puids (IsNamed registry (extension_of name) match_all) 0 registry.formats found.puids e.named rules.named
    | inr n ↦ rw n.none tt
  ]
]
