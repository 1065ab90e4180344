-- The function that computes what is found: each of its tests decides its condition, so that its answer meets the rules.
use Rattle.std.proofs.Common.{◌≡◌, ◌≢◌, ◌↔◌, ℕ, suc, ◌+◌, ◌<◌, ◌≤◌, min, Bool, not, ◌&&◌, ◌||◌, ◌==◌, IsTrue, List, [], ◌∷◌, length, refl, inl, inr, arith}
use Rattle.std.specs.Prelude.{Decides, nat_le, bytes_eq}
use Rattle.std.specs.List.{list_any, list_all, AllByRecursion}
use Rattle.std.specs.Str.{str_to_ascii_lowercase}
use Rattle.std.proofs.lemmas.Bool.{cond_both}
use Rattle.std.proofs.lemmas.Bool.Decides.{Decides-and, Decides-or, Decides-not, Decides-like, Decides-eqb, not_from_Decides}
use Rattle.std.proofs.lemmas.Slice.Eq.{bytes_eq-Decides}
use Rattle.droid_pattern.specs.Patterns.{Lang}
use Rattle.droid_pattern.specs.LangTest.{some_below, in_lang}
use Rattle.droid_pattern.proofs.LangTests.{decides_le, decides_some, decides_lang}
use Rattle.droid_pronom.specs.Registry.{Contents, Signed, AnyOf, IsSigned}
use Rattle.droid_pronom.specs.Found.{extension_of, Hits, HitsFrom, IsHit, IsBeaten, IsLeft, IsNamed, IsMismatch, IsFoundBy, IsFound, Chosen, end, chosen, passed}
use Rattle.droid_pronom.specs.Finding.{part, hits_at, hits, is_hit, is_beaten, is_left, is_signed, is_named, is_mismatch, chosen_from, answer, found_in}
use Rattle.droid_pronom.specs.declared.format.Format.{Format}
use Rattle.droid_pronom.specs.declared.rows.Anchor.{Anchor}
use Rattle.droid_pronom.specs.declared.rows.Anchor.TheVariants.{Bof, Eof}
use Rattle.droid_pronom.specs.declared.rows.ByteSequence.{ByteSequence}
use Rattle.droid_pronom.specs.declared.rows.ListedExtension.{ListedExtension}
use Rattle.droid_pronom.specs.declared.rows.Priority.{Priority}

-- ---- lists

decides_any : {X : Type 0} (test : X → Bool) (P : X → Type 0) → ((x : X) → Decides (test x) (P x)) → (xs : List X) → Decides (list_any test xs) (AnyOf P xs)
decides_any test P each [] = (λ t. cc, λ a. absurd a)
decides_any test P each (x ∷ xs) = Decides-or (test x) (list_any test xs) (each x) (decides_any test P each xs)

decides_all : {X : Type 0} (test : X → Bool) (P : X → Type 0) → ((x : X) → Decides (test x) (P x)) → (xs : List X) → Decides (list_all test xs) (AllByRecursion P xs)
decides_all test P each [] = (λ t. tt, λ a. refl)
decides_all test P each (x ∷ xs) = Decides-and (test x) (list_all test xs) (each x) (decides_all test P each xs)

decides_filled : (bytes : List ℕ) → Decides (not (bytes_eq bytes [])) (bytes ≢ [])
decides_filled bytes = Decides-not (bytes_eq bytes []) (bytes_eq-Decides bytes [])

-- ---- byte sequences

-- a byte sequence hits `count` bytes at an offset from this anchor
abbrev HitsAt : Anchor → List ℕ → ℕ → ByteSequence → (offset count : ℕ) → Type 0
HitsAt anchor file scan_limit sequence offset count = ((sequence.offsets.min ≤ offset) × (offset + count ≤ min scan_limit (length file))) × Lang sequence.pattern (part anchor file offset count)

-- it hits at one up to `max`
abbrev HitsSomewhere : Anchor → List ℕ → ℕ → ByteSequence → Type 0
HitsSomewhere anchor file scan_limit sequence = (offset : ℕ) × (offset < suc sequence.offsets.max) × ((count : ℕ) × (count < suc (length file)) × HitsAt anchor file scan_limit sequence offset count)

decides_hits_at : (file : List ℕ) (scan_limit : ℕ) (sequence : ByteSequence) (offset count : ℕ) → Decides (hits_at file scan_limit sequence offset count) (HitsAt sequence.offsets.anchor file scan_limit sequence offset count)
decides_hits_at file scan_limit sequence offset count =
    let from_min : Bool = nat_le sequence.offsets.min offset in
    let inside : Bool = nat_le (offset + count) (min scan_limit (length file)) in
    Decides-and (from_min && inside) (in_lang sequence.pattern (part sequence.offsets.anchor file offset count))
    (Decides-and from_min inside (decides_le sequence.offsets.min offset) (decides_le (offset + count) (min scan_limit (length file))))
    (decides_lang sequence.pattern (part sequence.offsets.anchor file offset count))

decides_somewhere : (file : List ℕ) (scan_limit : ℕ) (sequence : ByteSequence) → Decides (hits file scan_limit sequence) (HitsSomewhere sequence.offsets.anchor file scan_limit sequence)
decides_somewhere file scan_limit sequence =
    decides_some (λ offset. some_below (hits_at file scan_limit sequence offset) (suc (length file))) (λ offset. (count : ℕ) × (count < suc (length file)) × HitsAt sequence.offsets.anchor file scan_limit sequence offset count)
    (λ offset. decides_some (hits_at file scan_limit sequence offset) (HitsAt sequence.offsets.anchor file scan_limit sequence offset) (decides_hits_at file scan_limit sequence offset) (suc (length file))) (suc sequence.offsets.max)

hits_from_place : (anchor : Anchor) (file : List ℕ) (scan_limit : ℕ) (sequence : ByteSequence) → HitsSomewhere anchor file scan_limit sequence → HitsFrom anchor sequence file scan_limit
hits_from_place Bof file scan_limit sequence p = record { offset = p.0; count = p.2.0; from_min = p.2.2.0.0; to_max = omega (arith, p.1); inside = p.2.2.0.1; matched = p.2.2.1 }
hits_from_place Eof file scan_limit sequence p = record { offset = p.0; count = p.2.0; from_min = p.2.2.0.0; to_max = omega (arith, p.1); inside = p.2.2.0.1; matched = p.2.2.1 }

place_from_hits : (anchor : Anchor) (file : List ℕ) (scan_limit : ℕ) (sequence : ByteSequence) → HitsFrom anchor sequence file scan_limit → HitsSomewhere anchor file scan_limit sequence
place_from_hits Bof file scan_limit sequence h = (h.offset, omega (arith, h.to_max), (h.count, omega (arith, h.inside), ((h.from_min, h.inside), h.matched)))
place_from_hits Eof file scan_limit sequence h = (h.offset, omega (arith, h.to_max), (h.count, omega (arith, h.inside), ((h.from_min, h.inside), h.matched)))

decides_hits : (file : List ℕ) (scan_limit : ℕ) (sequence : ByteSequence) → Decides (hits file scan_limit sequence) (Hits file scan_limit sequence)
decides_hits file scan_limit sequence =
    Decides-like (hits file scan_limit sequence) (hits_from_place sequence.offsets.anchor file scan_limit sequence) (place_from_hits sequence.offsets.anchor file scan_limit sequence) (decides_somewhere file scan_limit sequence)

-- ---- formats

decides_signed : (registry : Contents) (k : ℕ) → Decides (is_signed registry k) (IsSigned registry k)
decides_signed registry k = decides_any (λ (s : Signed). s.place == k) (λ (s : Signed). s.place ≡ k) (λ s. Decides-eqb s.place k) registry.signatures

decides_named : (registry : Contents) (extension : List ℕ) (match_all : Bool) (k : ℕ) → Decides (is_named registry extension match_all k) (IsNamed registry extension match_all k)
decides_named registry extension match_all k =
    let wanted : List ℕ = str_to_ascii_lowercase extension in
    let listed : ListedExtension → Bool = λ row. row.place == k && bytes_eq row.extension wanted in
    let some : Bool = not (bytes_eq extension []) in
    let lists : Bool = list_any listed registry.extensions in
    let free : Bool = match_all || not (is_signed registry k) in
    Decides-like (is_named registry extension match_all k)
    (λ p. record { some = p.0.0; lists = p.0.1; unsigned = p.1 })
    (λ n. ((n.some, n.lists), n.unsigned))
    (Decides-and (some && lists) free
    (Decides-and some lists (decides_filled extension)
    (decides_any listed (λ (row : ListedExtension). (row.place ≡ k) × (row.extension ≡ wanted)) (λ row. Decides-and (row.place == k) (bytes_eq row.extension wanted) (Decides-eqb row.place k) (bytes_eq-Decides row.extension wanted)) registry.extensions))
    (Decides-or match_all (not (is_signed registry k)) (λ t. t, λ t. t) (Decides-not (is_signed registry k) (decides_signed registry k))))

module _ (hit : ByteSequence → Bool) (H : ByteSequence → Type 0) (each : (q : ByteSequence) → Decides (hit q) (H q)) (registry : Contents) where
  decides_hit : (k : ℕ) → Decides (is_hit hit registry k) (IsHit H registry k)
  decides_hit k =
      decides_any (λ (s : Signed). s.place == k && list_all hit s.sequences) (λ (s : Signed). (s.place ≡ k) × AllByRecursion H s.sequences)
      (λ s. Decides-and (s.place == k) (list_all hit s.sequences) (Decides-eqb s.place k) (decides_all hit H each s.sequences)) registry.signatures

  decides_beaten : (k : ℕ) → Decides (is_beaten hit registry k) (IsBeaten H registry k)
  decides_beaten k =
      decides_any (λ (row : Priority). is_hit hit registry row.place && row.over == k) (λ (row : Priority). IsHit H registry row.place × (row.over ≡ k))
      (λ row. Decides-and (is_hit hit registry row.place) (row.over == k) (decides_hit row.place) (Decides-eqb row.over k)) registry.priorities

  decides_left : (k : ℕ) → Decides (is_left hit registry k) (IsLeft H registry k)
  decides_left k = Decides-and (is_hit hit registry k) (not (is_beaten hit registry k)) (decides_hit k) (Decides-not (is_beaten hit registry k) (decides_beaten k))

  decides_mismatch : (extension : List ℕ) → Decides (is_mismatch hit registry extension) (IsMismatch H registry extension)
  decides_mismatch extension =
      let wanted : List ℕ = str_to_ascii_lowercase extension in
      let listed : ListedExtension → Bool = λ row. is_left hit registry row.place && bytes_eq row.extension wanted in
      let some : Bool = not (bytes_eq extension []) in
      let lists_one : Bool = list_any (λ (row : ListedExtension). is_left hit registry row.place) registry.extensions in
      let lists_this : Bool = list_any listed registry.extensions in
      Decides-like (is_mismatch hit registry extension)
      (λ p. record { some = p.0.0; lists_one = p.0.1; lists_other = p.1 })
      (λ m. ((m.some, m.lists_one), m.lists_other))
      (Decides-and (some && lists_one) (not lists_this)
      (Decides-and some lists_one (decides_filled extension)
      (decides_any (λ (row : ListedExtension). is_left hit registry row.place) (λ (row : ListedExtension). IsLeft H registry row.place) (λ row. decides_left row.place) registry.extensions))
      (Decides-not lists_this
      (decides_any listed (λ (row : ListedExtension). IsLeft H registry row.place × (row.extension ≡ wanted))
      (λ row. Decides-and (is_left hit registry row.place) (bytes_eq row.extension wanted) (decides_left row.place) (bytes_eq-Decides row.extension wanted)) registry.extensions)))

-- ---- answers

chosen_is : (test : ℕ → Bool) (P : ℕ → Type 0) → ((k : ℕ) → Decides (test k) (P k)) → (k : ℕ) (formats : List Format) → Chosen P k formats (chosen_from test k formats)
chosen_is test P each k [] = end
chosen_is test P each k (format ∷ formats) =
    cond_both (test k) (format.puid ∷ chosen_from test (suc k) formats) (chosen_from test (suc k) formats) (Chosen P k (format ∷ formats))
    (λ t. chosen ((each k).0 t) (chosen_is test P each (suc k) formats))
    (λ f. passed (not_from_Decides (test k) (each k) f) (chosen_is test P each (suc k) formats))

filled : (puid : List ℕ) (more : List (List ℕ)) → puid ∷ more ≢ []
filled puid more e = cc

answer_is : (H : ByteSequence → Type 0) (registry : Contents) (name : List ℕ) (match_all mismatch : Bool) (left named : List (List ℕ))
    → (IsTrue mismatch ↔ IsMismatch H registry (extension_of name)) → Chosen (IsLeft H registry) 0 registry.formats left → Chosen (IsNamed registry (extension_of name) match_all) 0 registry.formats named
    → IsFoundBy H registry name match_all (answer mismatch left named)
answer_is H registry name match_all mismatch (puid ∷ more) named m l n = inl (record { left = l; some = filled puid more; method = refl; mismatch = m })
answer_is H registry name match_all mismatch [] (puid ∷ more) m l n = inr (inl (record { left = l; named = n; some = filled puid more; method = refl; mismatch = refl }))
answer_is H registry name match_all mismatch [] [] m l n = inr (inr (record { left = l; named = n; none = refl; method = refl; mismatch = refl }))

pub found_is : (registry : Contents) (name file : List ℕ) (scan_limit : ℕ) (match_all : Bool) → IsFound registry name file scan_limit match_all (found_in registry name file scan_limit match_all)
found_is registry name file scan_limit match_all =
    let hit : ByteSequence → Bool = hits file scan_limit in
    let H : ByteSequence → Type 0 = Hits file scan_limit in
    answer_is H registry name match_all (is_mismatch hit registry (extension_of name)) (chosen_from (is_left hit registry) 0 registry.formats) (chosen_from (is_named registry (extension_of name) match_all) 0 registry.formats)
    (decides_mismatch hit H (decides_hits file scan_limit) registry (extension_of name))
    (chosen_is (is_left hit registry) (IsLeft H registry) (decides_left hit H (decides_hits file scan_limit) registry) 0 registry.formats)
    (chosen_is (is_named registry (extension_of name) match_all) (IsNamed registry (extension_of name) match_all) (decides_named registry (extension_of name) match_all) 0 registry.formats)
