-- What was written of a text, and what a `?` passes on.
use Rattle.std.proofs.Common.{◌≡◌, ℕ, ◌-◌, ◌≤◌, List, length, take, drop, Option, Some, None, Result, Ok, Err, sym, subst, OnErr, IfErr, IfSome}
use Rattle.std.specs.Prelude.{IsErrAnd, IsErrOf}
use Rattle.std.proofs.lemmas.List.{take-append-drop}
use Rattle.droid_frame.specs.StreamWrites.{Stops}
use Rattle.droid_frame.specs.Writes.{StopsWithin}
use Rattle.droid_frame.specs.declared.io.stream_fault.InputFault.{InputFault}
use Rattle.droid_frame.specs.declared.io.stream_fault.InputFault.TheVariants as inputs
use Rattle.droid_lines.specs.Lines.{lines_of}
use Rattle.droid_script.specs.declared.script_fault.ScriptFault.{ScriptFault}
use Rattle.droid_script.specs.declared.script_fault.ScriptFault.TheVariants.{Memory, Write}
use Rattle.droid_frame.specs.InTurn.{AtMost}
use Rattle.droid_script.specs.Scripts.{WritesFront, reading_fault}

-- a write that stopped wrote the first bytes
pub front_written : (old new : Option (List ℕ)) (text : List ℕ) (before count : ℕ) → StopsWithin old new text before count → WritesFront old new text
front_written old new text before count stops =
    record { written = take (count - before) text; unwritten = drop (count - before) text; cut = sym (take-append-drop (count - before) text); writes = stops.front }

-- they aren't all of it
pub part_written : (old new : Option (List ℕ)) (text line : List ℕ) (before count : ℕ) → text ≡ line → StopsWithin old new text before count → Stops old new line (count - before)
part_written old new text line before count is stops =
    subst (λ (l : List ℕ). Stops old new l (count - before)) is (record { some_left = stops.some_left; front = stops.front })

-- ---- a fact for one variant

pub on_err : {T E : Type 0} (r : Result T E) (P : Type 0) → P → OnErr r P
on_err (Ok x) P p = tt
on_err (Err e) P p = p

pub if_err : {T E : Type 0} (r : Result T E) (P : E → Type 0) → ((e : E) → P e) → IfErr r P
if_err (Ok x) P p = tt
if_err (Err e) P p = p e

pub if_some : {A : Type 0} (o : Option A) (P : A → Type 0) → ((x : A) → P x) → IfSome o P
if_some None P p = tt
if_some (Some x) P p = p x

-- ---- a script that is known

pub lines_known : (known : Option (List ℕ)) (input : List ℕ) (count : ℕ) → IfSome known (λ bytes. input ≡ bytes) → count ≤ length (lines_of input) → AtMost known (λ text. length (lines_of text)) count
lines_known None input count same few = tt
lines_known (Some bytes) input count same few = subst (λ (text : List ℕ). count ≤ length (lines_of text)) same few

-- an input that didn't come is no fault of writing
pub no_write : {T : Type 0} (r : Result T ScriptFault) (input : InputFault) → IsErrAnd r (λ fault. fault ≡ reading_fault input) → IsErrOf r Write → ⊥
no_write {T} (Ok value) input is e = absurd is
no_write {T} (Err fault) inputs.TooLong is e = absurd cc
no_write {T} (Err fault) inputs.Memory is e = absurd cc
no_write {T} (Err fault) inputs.Read is e = absurd cc

-- refused memory is no fault of writing
pub of_memory : {T : Type 0} (r : Result T ScriptFault) → IsErrAnd r (λ fault. fault ≡ Memory) → IsErrOf r Write → ⊥
of_memory {T} (Ok value) is e = absurd is
of_memory {T} (Err fault) is e = absurd cc
