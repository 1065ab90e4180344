-- The header that is made for a file is the one that its journal has.
use Rattle.std.proofs.Common.{◌≡◌, ℕ, ◌+◌, Bool, true, false, List, [], ◌∷◌, ◌++◌, length, take, drop, refl, sym, ap, subst, ◌∙◌, append_assoc, arith}
use Rattle.std.specs.Int.{w32, to_be_bytes}
use Rattle.std.specs.Prelude.{codes, replicate}
use Rattle.std.specs.Str.{bytes_eq}
use Rattle.std.proofs.lemmas.List.{append-nil, drop_all, drop_at, length-append, length-drop, length-take, take_at}
use Rattle.md5.specs.Md5.{md5}
use Rattle.md5.proofs.StandardFacts.{length-md5}
use Rattle.droid_cmd_serve.specs.Journals.{IsHeaderOf, Present, Before, completed, header_text, header_text_before}
use Rattle.droid_wire.specs.Standing.{IsLeft}
use Rattle.droid_journal.specs.Headers.{IsMemoryOrRead}
use Rattle.droid_journal.specs.Chains.{chain_bytes, checked, first_line_before, first_place, key_of}
use Rattle.droid_journal.specs.Fronts.{IsFront}
use Rattle.droid_journal.specs.Opening.{HasHeader}
use Rattle.droid_journal.specs.declared.journal_fault.Fault.{Fault}
use Rattle.droid_journal.specs.declared.journal_fault.Fault.TheVariants as faults
use Rattle.droid_core_spec.specs.Histories.{History}
use Rattle.droid_core_spec.specs.Setting.{Setting}

-- ---- a text that is completed by the bytes of a file

module _ (text random s : List ℕ) (full : length random ≡ 16) where
  abbrev found : List ℕ
  found = take 16 (drop (length text) s)

  abbrev pub end : List ℕ
  end = found ++ drop (length found) random

  pub end_size : length end ≡ 16
  end_size = omega (arith, full, length-append found (drop (length found) random), length-drop (length found) random, length-take 16 (drop (length text) s))

  -- it is what the file has, if the file has the text and 16 bytes
  pub same_end : (r : List ℕ) → length r ≡ 16 → IsFront (text ++ r) s → end ≡ r
  same_end r size has =
      let whole : s ≡ text ++ (r ++ has.0) = has.1 ∙ append_assoc text r has.0 in
      let behind : drop (length text) s ≡ r ++ has.0 = ap (λ (t : List ℕ). drop (length text) t) whole ∙ drop_at text (r ++ has.0) (length text) refl in
      let all : found ≡ r = ap (λ (t : List ℕ). take 16 t) behind ∙ take_at r has.0 16 size in
      let none : drop (length found) random ≡ [] = drop_all (length found) random (omega (arith, full, ap length all, size)) in
      ap (λ (t : List ℕ). found ++ t) none ∙ append-nil found ∙ all

front_of_front : (xs ys s : List ℕ) → IsFront (xs ++ ys) s → IsFront xs s
front_of_front xs ys s has = (ys ++ has.0, has.1 ∙ append_assoc xs ys has.0)

-- ---- the text of a header

-- what is appended piece by piece
pub appended : (line a b c d e t0 t1 t2 t3 t4 t5 : List ℕ) → t0 ≡ line → t1 ≡ t0 ++ a → t2 ≡ t1 ++ b → t3 ≡ t2 ++ c → t4 ≡ t3 ++ d → t5 ≡ t4 ++ e → t5 ≡ (line ++ (a ++ (b ++ (c ++ d)))) ++ e
appended line a b c d e t0 t1 t2 t3 t4 t5 e0 e1 e2 e3 e4 e5 =
    let to_c : t3 ≡ ((line ++ a) ++ b) ++ c = e3 ∙ ap (λ (t : List ℕ). t ++ c) (e2 ∙ ap (λ (t : List ℕ). t ++ b) (e1 ∙ ap (λ (t : List ℕ). t ++ a) e0)) in
    let to_d : t4 ≡ line ++ (a ++ (b ++ (c ++ d))) =
    e4 ∙ ap (λ (t : List ℕ). t ++ d) to_c ∙ append_assoc ((line ++ a) ++ b) c d ∙ append_assoc (line ++ a) b (c ++ d) ∙ append_assoc line a (b ++ (c ++ d)) in
    e5 ∙ ap (λ (t : List ℕ). t ++ e) to_d

abbrev front_text : List ℕ
front_text = codes "droid_desk journal 4" ++ 10 ∷ (to_be_bytes w32 64 ++ (to_be_bytes w32 100000 ++ (to_be_bytes w32 64 ++ replicate 31 0)))

pub text_size : (registry : List ℕ) → length (header_text registry) ≡ 80
text_size registry =
    let front : length front_text ≡ 64 = refl in
    omega (arith, front, length-append front_text (md5 registry), length-md5 registry)

pub checked_size : (front header : List ℕ) → header ≡ checked front → length header ≡ length front + 16
checked_size front header is = omega (arith, ap length is, length-append front (md5 front), length-md5 front)

-- ---- the forms

contrary : (b : Bool) {P : Type 0} → b ≡ true → b ≡ false → P
contrary b is isnt = absurd cc

module _ (registry random s : List ℕ) (full : length random ≡ 16) where
  pub is_present : (header : List ℕ) → header ≡ checked (completed (header_text registry) s random) → IsHeaderOf registry header
  is_present header is = Present (end (header_text registry) random s full) (end_size (header_text registry) random s full) is

  pub is_before : (header : List ℕ) → header ≡ completed (header_text_before registry) s random → IsHeaderOf registry header
  is_before header is = Before (end (header_text_before registry) random s full) (end_size (header_text_before registry) random s full) is

  -- the first line says which
  line_present : (header its : List ℕ) → header ≡ checked (header_text registry ++ its) → IsFront header s → bytes_eq (take 21 s) first_line_before ≡ false
  line_present header its parts has = ap (λ (t : List ℕ). bytes_eq (take 21 t) first_line_before) (has.1 ∙ ap (λ (t : List ℕ). t ++ has.0) parts)

  line_before : (header its : List ℕ) → header ≡ header_text_before registry ++ its → IsFront header s → bytes_eq (take 21 s) first_line_before ≡ true
  line_before header its parts has = ap (λ (t : List ℕ). bytes_eq (take 21 t) first_line_before) (has.1 ∙ ap (λ (t : List ℕ). t ++ has.0) parts)

  pub same_present : (made header : List ℕ) → made ≡ checked (completed (header_text registry) s random) → bytes_eq (take 21 s) first_line_before ≡ false → IsHeaderOf registry header → IsFront header s → made ≡ header
  same_present made header is line (Present its size parts) has =
      let text : List ℕ = header_text registry in
      let begins : IsFront (checked (text ++ its)) s = subst (λ (h : List ℕ). IsFront h s) parts has in
      is ∙ ap (λ (t : List ℕ). checked (text ++ t)) (same_end text random s full its size (front_of_front (text ++ its) (md5 (text ++ its)) s begins)) ∙ sym parts
  same_present made header is line (Before its size parts) has = contrary (bytes_eq (take 21 s) first_line_before) (line_before header its parts has) line

  pub same_before : (made header : List ℕ) → made ≡ completed (header_text_before registry) s random → bytes_eq (take 21 s) first_line_before ≡ true → IsHeaderOf registry header → IsFront header s → made ≡ header
  same_before made header is line (Present its size parts) has = contrary (bytes_eq (take 21 s) first_line_before) line (line_present header its parts has)
  same_before made header is line (Before its size parts) has =
      let text : List ℕ = header_text_before registry in
      is ∙ ap (λ (t : List ℕ). text ++ t) (same_end text random s full its size (subst (λ (h : List ℕ). IsFront h s) parts has)) ∙ sym parts

-- what a crash leaves has the header
pub left_header : (setting : Setting) (header s : List ℕ) (synced all : History) → IsLeft setting header s synced all → HasHeader header s
left_header setting header s synced all left =
    let chain : List ℕ = chain_bytes (key_of header) (first_place header) left.first in
    (chain ++ left.front.0, left.front.1 ∙ append_assoc header chain left.front.0)

pub no_damage : (fault : Fault) (n : ℕ) → IsMemoryOrRead fault → fault ≡ faults.Damage n → ⊥
no_damage fault n of is = subst IsMemoryOrRead is of

pub no_record : (fault : Fault) (n : ℕ) → IsMemoryOrRead fault → fault ≡ faults.Record n → ⊥
no_record fault n of is = subst IsMemoryOrRead is of

pub no_header : (fault : Fault) → IsMemoryOrRead fault → fault ≡ faults.Header → ⊥
no_header fault of is = subst IsMemoryOrRead is of

pub no_write : (fault : Fault) (n : ℕ) → fault ≡ faults.Record n → fault ≡ faults.Write → ⊥
no_write fault n is write = absurd (let same : faults.Record n ≡ faults.Write = sym is ∙ write in cc)
