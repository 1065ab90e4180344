-- A write that is tried again after each interruption.
use Rattle.std.proofs.Common.{◌≡◌, ℕ, ◌+◌, ◌<◌, sym, subst, arith, inl, inr, refl}
use Rattle.std.specs.IoError.{error_kind}
use Rattle.std.specs.declared.io.Error.{Error}
use Rattle.std.specs.declared.io.ErrorKind.TheVariants.{Interrupted}
use Rattle.droid_frame.specs.Seen.{AddsError, Counts, GivesUp, IsSound}
use Rattle.droid_frame.specs.declared.io.stream_record.Seen.{Seen}

-- `count` interruptions so far, and no failure
pub record Tried (start : ℕ) (seen : Seen) (count : ℕ) : Type 0 where
  pub sound : IsSound seen
  pub counted : seen.interruptions ≡ start + count

pub tried_none : (start : ℕ) (seen : Seen) (count : ℕ) → count ≡ 0 → Counts start seen 0 → Tried start seen count
tried_none start seen count none counts = record { sound = counts.sound; counted = omega (arith, none, counts.counted) }

pub counts_tried : (start : ℕ) (seen : Seen) (count : ℕ) → count < 65 → Tried start seen count → Counts start seen count
counts_tried start seen count within tried = record { sound = tried.sound; counted = tried.counted; within = omega (arith, within) }

pub tried_again : (start : ℕ) (old new : Seen) (count next : ℕ) (error : Error) → next ≡ count + 1 → AddsError old new error → error_kind error ≡ Interrupted → Tried start old count → Tried start new next
tried_again start old new count next error is adds interrupted tried =
    subst (λ (s : Seen). Tried start s next) (sym (adds.interruption interrupted)) (record { sound = refl; counted = omega (arith, is, tried.counted) })

pub failed_by : (start : ℕ) (old new : Seen) (count : ℕ) (error : Error) → count < 65 → AddsError old new error → (error_kind error ≡ Interrupted → ⊥) → Tried start old count → GivesUp start new
failed_by start old new count error within adds other tried =
    subst (λ (s : Seen). GivesUp start s) (sym (adds.failure other)) (inl (record { failed = refl; counted = omega (arith, tried.counted); within = omega (arith, within, tried.counted) }))

pub tried_too_often : (start : ℕ) (seen : Seen) (count : ℕ) → count ≡ 65 → Tried start seen count → GivesUp start seen
tried_too_often start seen count all tried = inr (record { sound = tried.sound; once_too_often = omega (arith, all, tried.counted) })
