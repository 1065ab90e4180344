-- Windows are enough: what hits in the first and last bytes is what hits in the file.
use Rattle.std.proofs.Common.{◌≡◌, ◌↔◌, ℕ, ◌+◌, ◌-◌, ◌≤◌, min, Bool, List, [], length, ap, sym, ◌∙◌, inl, inr, arith, take, drop}
use Rattle.std.proofs.lemmas.List.{drop-drop, take-take, drop-take}
use Rattle.std.specs.List.{AllByRecursion}
use Rattle.droid_pronom.specs.Registry.{Contents, Signed}
use Rattle.droid_pronom.specs.Found.{extension_of, Hits, HitsFrom, IsHit, IsBeaten, IsLeft, IsMismatch, IsFoundBy, IsFound}
use Rattle.droid_pronom.specs.FoundWindows.{HitsWindows, HitsWindowsFrom}
use Rattle.droid_pronom.specs.declared.identification.Found.{Found}
use Rattle.droid_pronom.specs.declared.rows.Anchor.{Anchor}
use Rattle.droid_pronom.specs.declared.rows.Anchor.TheVariants.{Bof, Eof}
use Rattle.droid_pronom.specs.declared.rows.ByteSequence.{ByteSequence}
use Rattle.droid_pronom.specs.declared.rows.Priority.{Priority}
use Rattle.droid_pronom.specs.declared.rows.ListedExtension.{ListedExtension}
use Rattle.droid_pronom.proofs.Flags.{any_more, all_more}
use Rattle.droid_pronom.proofs.FoundSteps.{chosen_same}

-- ---- the same byte sequences, the same finds

module _ (H G : ByteSequence → Type 0) (same : (q : ByteSequence) → H q ↔ G q) (registry : Contents) where
  pub hit_same : (k : ℕ) → IsHit H registry k ↔ IsHit G registry k
  hit_same k = (
    any_more (λ (s : Signed). (s.place ≡ k) × AllByRecursion H s.sequences) (λ (s : Signed). (s.place ≡ k) × AllByRecursion G s.sequences) (λ s p. (p.0, all_more H G (λ q. (same q).0) s.sequences p.1)) registry.signatures,
    any_more (λ (s : Signed). (s.place ≡ k) × AllByRecursion G s.sequences) (λ (s : Signed). (s.place ≡ k) × AllByRecursion H s.sequences) (λ s p. (p.0, all_more G H (λ q. (same q).1) s.sequences p.1)) registry.signatures,
  )

  beaten_same : (k : ℕ) → IsBeaten H registry k ↔ IsBeaten G registry k
  beaten_same k = (
    any_more (λ (row : Priority). IsHit H registry row.place × (row.over ≡ k)) (λ (row : Priority). IsHit G registry row.place × (row.over ≡ k)) (λ row p. ((hit_same row.place).0 p.0, p.1)) registry.priorities,
    any_more (λ (row : Priority). IsHit G registry row.place × (row.over ≡ k)) (λ (row : Priority). IsHit H registry row.place × (row.over ≡ k)) (λ row p. ((hit_same row.place).1 p.0, p.1)) registry.priorities,
  )

  left_same : (k : ℕ) → IsLeft H registry k ↔ IsLeft G registry k
  left_same k = (
    λ l. ((hit_same k).0 l.0, λ b. l.1 ((beaten_same k).1 b)),
    λ l. ((hit_same k).1 l.0, λ b. l.1 ((beaten_same k).0 b)),
  )

  mismatch_same : (extension : List ℕ) → IsMismatch H registry extension ↔ IsMismatch G registry extension
  mismatch_same extension = (
    λ m. record {
      some = m.some;
      lists_one = any_more (λ (row : ListedExtension). IsLeft H registry row.place) (λ (row : ListedExtension). IsLeft G registry row.place) (λ row l. (left_same row.place).0 l) registry.extensions m.lists_one;
      lists_other = λ a. m.lists_other (any_more _ _ (λ row l. ((left_same row.place).1 l.0, l.1)) registry.extensions a);
    },
    λ m. record {
      some = m.some;
      lists_one = any_more (λ (row : ListedExtension). IsLeft G registry row.place) (λ (row : ListedExtension). IsLeft H registry row.place) (λ row l. (left_same row.place).1 l) registry.extensions m.lists_one;
      lists_other = λ a. m.lists_other (any_more _ _ (λ row l. ((left_same row.place).0 l.0, l.1)) registry.extensions a);
    },
  )

  pub found_same : (name : List ℕ) (match_all : Bool) (found : Found) → IsFoundBy H registry name match_all found → IsFoundBy G registry name match_all found
  found_same name match_all found is = elim is [
    | inl a ↦ inl (record {
      left = chosen_same (IsLeft H registry) (IsLeft G registry) 0 registry.formats found.puids left_same a.left;
      some = a.some;
      method = a.method;
      mismatch = (λ t. (mismatch_same (extension_of name)).0 (a.mismatch.0 t), λ m. a.mismatch.1 ((mismatch_same (extension_of name)).1 m));
    })
    | inr b ↦ elim b [
      | inl e ↦ inr (inl (record {
        left = chosen_same (IsLeft H registry) (IsLeft G registry) 0 registry.formats [] left_same e.left;
        named = e.named;
        some = e.some;
        method = e.method;
        mismatch = e.mismatch;
      }))
      | inr n ↦ inr (inr (record {
        left = chosen_same (IsLeft H registry) (IsLeft G registry) 0 registry.formats [] left_same n.left;
        named = n.named;
        none = n.none;
        method = n.method;
        mismatch = n.mismatch;
      }))
    ]
  ]

-- ---- parts of the first and last bytes are parts of the file

part_of_first : (file : List ℕ) (w o k : ℕ) → o + k ≤ w → take k (drop o (take w file)) ≡ take k (drop o file)
part_of_first file w o k inside =
    let e : w ≡ o + (w - o) = omega arith in
    ap (λ (n : ℕ). take k (drop o (take n file))) e ∙ ap (λ (xs : List ℕ). take k xs) (drop-take o (w - o) file) ∙ take-take k (w - o) (drop o file) (omega arith)

part_of_last : (file : List ℕ) (w o k : ℕ) → o + k ≤ w → w ≤ length file → take k (drop (w - (o + k)) (drop (length file - w) file)) ≡ take k (drop (length file - (o + k)) file)
part_of_last file w o k inside fits =
    let e : (length file - w) + (w - (o + k)) ≡ length file - (o + k) = omega arith in
    ap (λ (xs : List ℕ). take k xs) (drop-drop (w - (o + k)) (length file - w) file ∙ ap (λ (n : ℕ). drop n file) e)

-- a file that begins and ends with these bytes, which are as many as the scan limit leaves of it
pub record Ends (file first last : List ℕ) (scan_limit : ℕ) : Type 0 where
  pub same : length first ≡ length last
  pub reached : min scan_limit (length file) ≡ length first
  pub begins : take (length first) file ≡ first
  pub ends : drop (length file - length first) file ≡ last

module _ (file first last : List ℕ) (scan_limit : ℕ) (fits : Ends file first last scan_limit) where
  inside_file : length first ≤ length file
  inside_file = omega (arith, fits.reached)

  pub hits_from : (anchor : Anchor) (q : ByteSequence) → HitsWindowsFrom anchor first last q ↔ HitsFrom anchor q file scan_limit
  hits_from Bof q = (
    λ h.
        let e : take h.count (drop h.offset first) ≡ take h.count (drop h.offset file) = ap (λ (xs : List ℕ). take h.count (drop h.offset xs)) (sym fits.begins) ∙ part_of_first file (length first) h.offset h.count h.inside in
        record { offset = h.offset; count = h.count; from_min = h.from_low; to_max = h.to_high; inside = omega (arith, h.inside, fits.reached); matched = rw e at h.matched },
    λ h.
        let inside : h.offset + h.count ≤ length first = omega (arith, h.inside, fits.reached) in
        let e : take h.count (drop h.offset first) ≡ take h.count (drop h.offset file) = ap (λ (xs : List ℕ). take h.count (drop h.offset xs)) (sym fits.begins) ∙ part_of_first file (length first) h.offset h.count inside in
        record { offset = h.offset; count = h.count; from_low = h.from_min; to_high = h.to_max; inside = inside; matched = rw (sym e) at h.matched },
  )
  hits_from Eof q = (
    λ h.
        let inside : h.offset + h.count ≤ length first = omega (arith, h.inside, fits.same) in
        let e : take h.count (drop (length last - (h.offset + h.count)) last) ≡ take h.count (drop (length file - (h.offset + h.count)) file) =
        ap (λ (n : ℕ). take h.count (drop (n - (h.offset + h.count)) last)) (sym fits.same)
        ∙ ap (λ (xs : List ℕ). take h.count (drop (length first - (h.offset + h.count)) xs)) (sym fits.ends) ∙ part_of_last file (length first) h.offset h.count inside inside_file in
        record { offset = h.offset; count = h.count; from_min = h.from_low; to_max = h.to_high; inside = omega (arith, inside, fits.reached); matched = rw e at h.matched },
    λ h.
        let inside : h.offset + h.count ≤ length first = omega (arith, h.inside, fits.reached) in
        let e : take h.count (drop (length last - (h.offset + h.count)) last) ≡ take h.count (drop (length file - (h.offset + h.count)) file) =
        ap (λ (n : ℕ). take h.count (drop (n - (h.offset + h.count)) last)) (sym fits.same)
        ∙ ap (λ (xs : List ℕ). take h.count (drop (length first - (h.offset + h.count)) xs)) (sym fits.ends) ∙ part_of_last file (length first) h.offset h.count inside inside_file in
        record { offset = h.offset; count = h.count; from_low = h.from_min; to_high = h.to_max; inside = omega (arith, inside, fits.same); matched = rw (sym e) at h.matched },
  )

  pub found_in_file : (registry : Contents) (name : List ℕ) (match_all : Bool) (found : Found) → IsFoundBy (HitsWindows first last) registry name match_all found → IsFound registry name file scan_limit match_all found
  found_in_file registry name match_all found is = found_same (HitsWindows first last) (Hits file scan_limit) (λ q. hits_from q.offsets.anchor q) registry name match_all found is
