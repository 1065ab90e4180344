-- A format of the registry hits as in the signature file.
use Rattle.std.proofs.Common.{◌≡◌, ◌∙◌, ◌==◌, ℕ, zero, suc, ◌+◌, ◌<◌, Bool, true, false, cond, List, [], ◌∷◌, ◌++◌, map, Some, inl, inr, refl, sym, ap, subst, arith}
use Rattle.std.specs.List.{AllByRecursion, slice_get}
use Rattle.std.proofs.lemmas.Bool.{eqb-false, eqb-true}
use Rattle.std.proofs.lemmas.Option.{same_Some}
use Rattle.droid_pronom.specs.Found.{Hits, IsHit}
use Rattle.droid_pronom.specs.Registry.{AnyOf, Signed}
use Rattle.droid_pronom.proofs.Flags.{any_before, any_last, any_parts}
use Rattle.droid_signature.specs.SignatureRows.{combination, flat, rows_below, ways_of}
use Rattle.droid_signature.specs.Signatures.{IsOnlySignature, LeavesSignature, Named, TakesSignature, all_signatures, ids_of, signatures_of}
use Rattle.droid_signature.proofs.Hitting.{complete_at, sound_at}
use Rattle.droid_signature.specs.RegistryTables.{SequenceRow, SignatureRow, registry_of, sequence_of, signed}
use Rattle.droid_signature_file.specs.Meaning.{FormatHits, SignatureHits}
use Rattle.droid_signature_file.specs.Records.{FileRecord, SignatureRecord}
use Rattle.droid_signature.specs.Formats.{Placed, puid_in}
use Rattle.droid_signature.specs.Holders.{holder_of, holding}
use Rattle.droid_signature.specs.declared.ids.Holder.TheVariants.{Only}
use Rattle.droid_signature.specs.declared.left_out.LeftOut.{LeftOut}
use Rattle.droid_signature.specs.Conversion.{HasAllSignatures, HitsAs, IsSignatureOf, Parts, left_of, tables_of}
use Rattle.droid_signature.proofs.Members.{Among, among_all, among_any, any_left, any_map, any_right, any_split, any_value, as_row, by_place_among, by_place_parts, map_any, sifted_any, sifted_each, singles_among, singles_parts, there_any, without}
use Rattle.droid_signature.proofs.Validity.{signature_at}

-- ---- the only signature with an ID

none_with : (id n : ℕ) (signatures : List SignatureRecord) (P : SignatureRecord → Type 0) → holding id n (ids_of signatures) ≡ [] → AnyOf (λ it. (it.id ≡ id) × P it) signatures → ⊥
none_with id n [] P empty any = any
none_with id n (x ∷ signatures) P empty any = by (x.id == id) refl empty (λ later. none_with id (suc n) signatures P later) any
  where
    by : (t : Bool) → (x.id == id) ≡ t → cond (x.id == id) (n ∷ holding id (suc n) (ids_of signatures)) (holding id (suc n) (ids_of signatures)) ≡ []
        → (holding id (suc n) (ids_of signatures) ≡ [] → AnyOf (λ it. (it.id ≡ id) × P it) signatures → ⊥) → AnyOf (λ it. (it.id ≡ id) × P it) (x ∷ signatures) → ⊥
    by true same none_here later found = let bad : n ∷ holding id (suc n) (ids_of signatures) ≡ [] = rw same at none_here in cc
    by false same none_here later (inl here) = eqb-false x.id id same here.0
    by false same none_here later (inr more) = later (rw same at none_here) more

-- the signature at the place of an only one
record IsOnly (P : SignatureRecord → Type 0) (id : ℕ) (signatures : List SignatureRecord) (signature : SignatureRecord) : Type 0 where
  pub same : signature.id ≡ id
  pub only : AnyOf (λ it. (it.id ≡ id) × P it) signatures → P signature

record OnlyAt (P : SignatureRecord → Type 0) (id n place : ℕ) (signatures : List SignatureRecord) : Type 0 where
  pub i : ℕ
  pub at : place ≡ n + i
  pub is : (signature : SignatureRecord) → slice_get signatures i ≡ Some signature → IsOnly P id signatures signature

only_at : (P : SignatureRecord → Type 0) (id n : ℕ) (signatures : List SignatureRecord) (place : ℕ) → holding id n (ids_of signatures) ≡ place ∷ [] → OnlyAt P id n place signatures
only_at P id n [] place held = absurd cc
only_at P id n (x ∷ signatures) place held = by (x.id == id) refl held (λ later. only_at P id (suc n) signatures place later)
  where
    by : (t : Bool) → (x.id == id) ≡ t → cond (x.id == id) (n ∷ holding id (suc n) (ids_of signatures)) (holding id (suc n) (ids_of signatures)) ≡ place ∷ []
        → (holding id (suc n) (ids_of signatures) ≡ place ∷ [] → OnlyAt P id (suc n) place signatures) → OnlyAt P id n place (x ∷ signatures)
    by true same here later =
        let whole : n ∷ holding id (suc n) (ids_of signatures) ≡ place ∷ [] = rw same at here in
        let first : n ≡ place = cc in
        let empty : holding id (suc n) (ids_of signatures) ≡ [] = cc in
        record {
          i = 0;
          at = omega arith;
          is = λ signature there.
              let this : x ≡ signature = same_Some x signature there in
              record {
                same = ap (λ (s : SignatureRecord). s.id) (sym this) ∙ eqb-true x.id id same;
                only = λ any. elim any [ inl found ↦ subst P this found.1 | inr more ↦ absurd (none_with id (suc n) signatures P empty more) ];
              };
        }
    by false same here later =
        let rest = later (rw same at here) in
        record {
          i = suc rest.i;
          at = let place_is = rest.at in omega arith;
          is = λ signature there.
              let this = rest.is signature there in
              record { same = this.same; only = λ any. elim any [ inl found ↦ absurd (eqb-false x.id id same found.0) | inr more ↦ this.only more ] };
        }

only_list : (places : List ℕ) (place : ℕ) → holder_of places ≡ Only place → places ≡ place ∷ []
only_list [] place is = absurd cc
only_list (a ∷ []) place is = cc
only_list (a ∷ b ∷ places) place is = absurd cc

the_only : (P : SignatureRecord → Type 0) (signatures : List SignatureRecord) (id at : ℕ) (signature : SignatureRecord) → IsOnlySignature signatures id at signature → IsOnly P id signatures signature
the_only P signatures id at signature is =
    let found = only_at P id 0 signatures at (only_list (holding id 0 (ids_of signatures)) at is.held) in
    let place = found.at in
    let same : at ≡ found.i = omega arith in
    found.is signature (subst (λ k. slice_get signatures k ≡ Some signature) same is.there)

-- ---- the rows of a signature

rows_any : (P : SignatureRow → Type 0) (place : ℕ) (puid : List ℕ) (lists : List (List SequenceRow)) (count : ℕ) → AnyOf P (rows_below place puid lists count)
    → (number : ℕ) × (number < count) × P (record { place = place; puid = puid; sequences = combination lists number })
rows_any P place puid lists zero any = absurd any
rows_any P place puid lists (suc count) any = elim (any_parts P (rows_below place puid lists count) (record { place = place; puid = puid; sequences = combination lists count }) any) [
  | inl old ↦ let (number, below, holds) = rows_any P place puid lists count old in (number, omega arith, holds)
  | inr new ↦ (count, omega arith, new)
]

any_rows : (P : SignatureRow → Type 0) (place : ℕ) (puid : List ℕ) (lists : List (List SequenceRow)) (count number : ℕ) → number < count → P (record { place = place; puid = puid; sequences = combination lists number })
    → AnyOf P (rows_below place puid lists count)
any_rows P place puid lists zero number below holds = absurd (omega arith)
any_rows P place puid lists (suc count) number below holds = by (number == count) refl (λ less. any_rows P place puid lists count number less holds)
  where
    row : ℕ → SignatureRow
    row k = record { place = place; puid = puid; sequences = combination lists k }

    by : (t : Bool) → (number == count) ≡ t → (number < count → AnyOf P (rows_below place puid lists count)) → AnyOf P (rows_below place puid lists count ++ record { place = place; puid = puid; sequences = combination lists count } ∷ [])
    by true same earlier =
        let last : number ≡ count = eqb-true number count same in
        any_last P (rows_below place puid lists count) (record { place = place; puid = puid; sequences = combination lists count }) (subst (λ k. P (record { place = place; puid = puid; sequences = combination lists k })) last holds)
    by false same earlier =
        let differ = eqb-false number count same in
        any_before P (rows_below place puid lists count) (record { place = place; puid = puid; sequences = combination lists count }) (earlier (omega (arith, differ)))

flat_any : (P : SignatureRow → Type 0) (lists : List (List SignatureRow)) → AnyOf P (flat lists) → AnyOf (AnyOf P) lists
flat_any P [] any = absurd any
flat_any P (rows ∷ lists) any = elim (any_split P rows (flat lists) any) [ inl here ↦ inl here | inr later ↦ inr (flat_any P lists later) ]

any_flat : (P : SignatureRow → Type 0) (lists : List (List SignatureRow)) → AnyOf (AnyOf P) lists → AnyOf P (flat lists)
any_flat P [] any = absurd any
any_flat P (rows ∷ lists) (inl here) = any_left P rows (flat lists) here
any_flat P (rows ∷ lists) (inr later) = any_right P rows (flat lists) (any_flat P lists later)

-- ---- formats

-- the ID is one of the format's
id_among : (kept : List Placed) (x : Named) → Among x (all_signatures kept) → Among x.id x.of.format.signatures
id_among kept x among =
    let (i, place, it, at, there, is) = by_place_parts (λ place it. signatures_of place it it.format.signatures) 0 kept x among in
    let (k, id, listed, same) = singles_parts (λ k id. record { place = place; of = it; id = id }) 0 it.format.signatures x is in
    subst (λ (y : Named). Among y.id y.of.format.signatures) same listed

module _ (file : FileRecord) (parts : Parts file) (left : List LeftOut) (reported : left ≡ left_of parts) (place : ℕ) (it : Placed) (there : slice_get parts.kept place ≡ Some it) (bytes : List ℕ) (limit : ℕ) where
  -- a row of the format hits
  abbrev RowHits : SignatureRow → Type 0
  RowHits row = (row.place ≡ place) × AllByRecursion (Hits bytes limit) (map sequence_of row.sequences)

  only_hits : IsHit (Hits bytes limit) (registry_of (tables_of parts)) place → FormatHits file bytes limit it.format
  only_hits hit =
      let rows = any_map (λ (s : Signed). (s.place ≡ place) × AllByRecursion (Hits bytes limit) s.sequences) signed (flat parts.signatures) hit in
      let (x, before, taken_rows, among, takes, any) = sifted_any (TakesSignature file.signatures) (LeavesSignature file.signatures) (AnyOf RowHits) (all_signatures parts.kept) parts.signatures parts.left_signatures parts.signatures_sifted (flat_any RowHits parts.signatures rows) in
      let (number, below, holds) = rows_any RowHits x.place (puid_in x.of.format) takes.lists (ways_of takes.lists) (subst (λ (l : List SignatureRow). AnyOf RowHits l) takes.same any) in
      let hits : SignatureHits bytes limit takes.signature = sound_at bytes limit takes.signature.sequences takes.lists number takes.stand below holds.1 in
      let same : x.of ≡ it = same_Some x.of it (sym (signature_at parts.kept x among) ∙ ap (λ k. slice_get parts.kept k) holds.0 ∙ there) in
      let only = the_only (SignatureHits bytes limit) file.signatures x.id takes.at takes.signature takes.only in
      subst (λ (y : Placed). FormatHits file bytes limit y.format) same
      (among_any (λ id. AnyOf (λ s. (s.id ≡ id) × SignatureHits bytes limit s) file.signatures) x.id x.of.format.signatures (id_among parts.kept x among)
      (there_any (λ (s : SignatureRecord). (s.id ≡ x.id) × SignatureHits bytes limit s) file.signatures takes.at takes.signature takes.only.there (only.same, hits)))

  all_hit : HasAllSignatures it.place left → FormatHits file bytes limit it.format → IsHit (Hits bytes limit) (registry_of (tables_of parts)) place
  all_hit complete hits =
      let (id, listed, found) = any_value (λ id. AnyOf (λ s. (s.id ≡ id) × SignatureHits bytes limit s) file.signatures) it.format.signatures hits in
      let x : Named = record { place = place; of = it; id = id } in
      let among : Among x (all_signatures parts.kept) =
      by_place_among (λ p k. signatures_of p k k.format.signatures) 0 parts.kept x place place it (omega arith) there (singles_among (λ i. record { place = place; of = it; id = i }) 0 it.format.signatures id listed) in
      elim (sifted_each (TakesSignature file.signatures) (LeavesSignature file.signatures) (all_signatures parts.kept) parts.signatures parts.left_signatures parts.signatures_sifted x among) [
        | as_row before rows takes in_rows ↦
            let only = the_only (SignatureHits bytes limit) file.signatures id takes.at takes.signature takes.only in
            let way = complete_at bytes limit takes.signature.sequences takes.lists takes.stand (only.only found) in
            let any : AnyOf RowHits rows = subst (λ (l : List SignatureRow). AnyOf RowHits l) (sym takes.same) (any_rows RowHits place (puid_in it.format) takes.lists (ways_of takes.lists) way.number way.below (refl, way.hits)) in
            map_any (λ (s : Signed). (s.place ≡ place) × AllByRecursion (Hits bytes limit) s.sequences) signed (flat parts.signatures) (any_flat RowHits parts.signatures (among_any (AnyOf RowHits) rows parts.signatures in_rows any))
        | without before l leaves in_left ↦
            let inside : Among l (left_of parts) = any_right (λ w. w ≡ l) (parts.left_formats ++ parts.left_extensions ++ parts.left_priorities) parts.left_signatures in_left in
            let never = among_all (λ (w : LeftOut). IsSignatureOf it.place w → ⊥) l (left_of parts) inside (subst (λ (all : List LeftOut). HasAllSignatures it.place all) reported complete) in
            absurd (never (record { id = id; why = leaves.why; listed = leaves.listed }))
      ]

pub hits_as : (file : FileRecord) (parts : Parts file) (left : List LeftOut) → left ≡ left_of parts → (place : ℕ) (it : Placed) → slice_get parts.kept place ≡ Some it → HitsAs file (registry_of (tables_of parts)) left place it
hits_as file parts left reported place it there = record {
  only = λ bytes limit hit. only_hits file parts left reported place it there bytes limit hit;
  all = λ complete bytes limit hits. all_hit file parts left reported place it there bytes limit complete hits;
}
