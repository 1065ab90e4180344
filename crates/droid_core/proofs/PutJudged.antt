-- What is answered to a piece that was put: the first refusal whose condition holds.
use Rattle.std.proofs.Common.{◌≡◌, ◌⊎◌, inl, inr, ℕ, ◌+◌, ◌<◌, ◌≤◌, ◌==◌, List, length, true, false, Option, Some, None, IsSome, is_some, Result, Ok, Err, IsOk, IsErrOf, ◌↔◌, refl, ◌∙◌, arith}
use Rattle.std.proofs.lemmas.Bool.{cases_Bool, ltb-true, ltb-false, leb-true, leb-false, eqb-true, eqb-false}
use Rattle.std.specs.Prelude.{nat_lt, nat_le}
use Rattle.droid_assembly.specs.Pieces.{piece_count, due_length, IsDue, bytes_at, HasIndex, LacksIndex}
use Rattle.droid_assembly.specs.declared.fault.PutFault.{PutFault}
use Rattle.droid_assembly.specs.declared.fault.PutFault.TheVariants as faults
use Rattle.droid_frame.specs.declared.refusal.Refusal.{Refusal}
use Rattle.droid_core_spec.specs.Files.{is_due, missing_of}
use Rattle.droid_core_spec.specs.Judging.{refusal_of, piece_checks}
use Rattle.droid_core_spec.specs.World.{Content}
use Rattle.droid_assembly.specs.Faults.{reported_as}

-- the refusal that comes of the fault
abbrev pub fault_refusal : {T : Type 0} → Result T PutFault → Option Refusal
fault_refusal (Ok value) = None
fault_refusal (Err fault) = Some (reported_as fault)

due_or_not : (content : Content) (index : ℕ) (bytes : List ℕ) → ((is_due content index bytes ≡ true) × IsDue content.size content.piece_size (index, bytes))
    ⊎ ((is_due content index bytes ≡ false) × (IsDue content.size content.piece_size (index, bytes) → ⊥))
due_or_not content index bytes =
    let count = piece_count content.size content.piece_size in
    let due = due_length content.size content.piece_size index in
    elim (cases_Bool (nat_lt index count)) [
      | inl there ↦ elim (cases_Bool (length bytes == due)) [
        | inl long ↦ inl (rw (there, long) refl, (ltb-true index count there, eqb-true (length bytes) due long))
        | inr other ↦ inr (rw (there, other) refl, λ is. eqb-false (length bytes) due other is.1)
      ]
      | inr past ↦ inr (rw past refl, λ is. (let over = ltb-false index count past in omega (arith, over, is.0)))
    ]

has_or_not : {X : Type 0} (found : Option X) → ((is_some found ≡ true) × IsSome found) ⊎ ((is_some found ≡ false) × (found ≡ None))
has_or_not None = inr (refl, refl)
has_or_not (Some x) = inl (refl, refl)

of_ok : {T : Type 0} (result : Result T PutFault) → IsOk result → fault_refusal result ≡ None
of_ok (Ok value) is = refl
of_ok (Err fault) is = absurd cc

module _ {T : Type 0} (content : Content) (index : ℕ) (bytes : List ℕ) (result : Result T PutFault) (unfinished : content.finished ≡ false)
    (bad : IsErrOf result (faults.BadPiece bytes) ↔ (IsDue content.size content.piece_size (index, bytes) → ⊥))
    (held : IsErrOf result (faults.PieceHeld bytes) ↔ (IsDue content.size content.piece_size (index, bytes) × HasIndex content.pieces index))
    (far : IsErrOf result (faults.TooFarAhead (missing_of content) bytes) ↔ (IsDue content.size content.piece_size (index, bytes) × LacksIndex content.pieces index × (missing_of content + 16 ≤ index)))
    (ok : IsOk result ↔ (IsDue content.size content.piece_size (index, bytes) × LacksIndex content.pieces index × (index < missing_of content + 16))) where
  pub put_judged : fault_refusal result ≡ refusal_of (piece_checks content index bytes)
  put_judged = elim (due_or_not content index bytes) [
    | inr not_due ↦ rw (bad.1 not_due.1, unfinished, not_due.0) refl
    | inl due ↦ elim (has_or_not (bytes_at content.pieces index)) [
      | inl there ↦ rw (held.1 (due.1, there.1), unfinished, due.0, there.0) refl
      | inr lacks ↦ elim (cases_Bool (nat_le (missing_of content + 16) index)) [
        | inl past ↦ rw (far.1 (due.1, lacks.1, leb-true (missing_of content + 16) index past), unfinished, due.0, lacks.0, past) refl
        | inr near ↦ of_ok result (ok.1 (due.1, lacks.1, leb-false (missing_of content + 16) index near)) ∙ rw (unfinished, due.0, lacks.0, near) refl
      ]
    ]
  ]
