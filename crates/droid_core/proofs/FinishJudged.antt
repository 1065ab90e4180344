-- What is answered to who finishes a file: that no reply of this version can carry its hash, which piece is missing first, or
-- nothing refuses it.
use Rattle.std.proofs.Common.{◌≡◌, ℕ, ◌<◌, true, false, Some, None, MatchBool, refl, sym, ap, arith}
use Rattle.std.specs.Prelude.{⊤}
use Rattle.std.proofs.lemmas.Bool.{lt-ltb, le-ltb}
use Rattle.droid_frame.specs.declared.hash_kind.HashKind.{HashKind}
use Rattle.droid_frame.specs.declared.refusal.Refusal.{Refusal}
use Rattle.droid_frame.specs.declared.refusal.Refusal.TheVariants.{BadOption, Incomplete}
use Rattle.droid_core.specs.Faults.{reported_as}
use Rattle.droid_core.specs.declared.unfinished.fault.IdentifyFault.{IdentifyFault}
use Rattle.droid_core.specs.declared.unfinished.fault.IdentifyFault.TheVariants as faults
use Rattle.droid_core_spec.specs.Conditions.{is_carried}
use Rattle.droid_core_spec.specs.Files.{count_of, missing_of}
use Rattle.droid_core_spec.specs.Judging.{refusal_of, finish_checks}
use Rattle.droid_core_spec.specs.MemoryFaults.{is_out_of_memory_of}
use Rattle.droid_core_spec.specs.World.{Content}

pub hash_unreported : (version : ℕ) (hash : HashKind) (content : Content) → content.finished ≡ false → is_carried version hash ≡ false → refusal_of (finish_checks version hash content) ≡ Some BadOption
hash_unreported version hash content unfinished unreported = rw (unfinished, unreported) refl

pub some_missing : (version : ℕ) (hash : HashKind) (content : Content) (missing : ℕ) → content.finished ≡ false → is_carried version hash ≡ true → (missing ≡ missing_of content) × (missing < count_of content) → refusal_of (finish_checks version hash content) ≡ Some (Incomplete missing)
some_missing version hash content missing unfinished reported is =
    let below : missing_of content < count_of content = omega (arith, is.0, is.1) in
    rw (unfinished, reported, lt-ltb (missing_of content) (count_of content) below) (ap (λ n. Some (Incomplete n)) (sym is.0))

pub none_missing : (version : ℕ) (hash : HashKind) (content : Content) → content.finished ≡ false → is_carried version hash ≡ true → missing_of content ≡ count_of content → refusal_of (finish_checks version hash content) ≡ None
none_missing version hash content unfinished reported is = rw (unfinished, reported, le-ltb (missing_of content) (count_of content) (omega (arith, is))) refl

-- a fault of identification is reported as the file's refusal, or as out of memory
pub reported_of_fault : (version : ℕ) (hash : HashKind) (content : Content) (fault : IdentifyFault) (refusal : Refusal) → content.finished ≡ false → is_carried version hash ≡ true
    → ((first : ℕ) → fault ≡ faults.Incomplete first → (first ≡ missing_of content) × (first < count_of content))
    → refusal ≡ reported_as fault → MatchBool (is_out_of_memory_of refusal) ⊤ (refusal_of (finish_checks version hash content) ≡ Some refusal)
reported_of_fault version hash content (faults.Incomplete first) refusal unfinished reported missing is = rw is (some_missing version hash content first unfinished reported (missing first refl))
reported_of_fault version hash content faults.Memory refusal unfinished reported missing is = rw is tt
