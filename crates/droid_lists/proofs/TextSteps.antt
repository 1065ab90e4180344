-- A text is read record by record.
use Rattle.std.proofs.Common.{Bor, ◌≡◌, ◌∙◌, ◌<◌, ◌≤◌, ◌+◌, ◌^◌, ◌==◌, ℕ, Bool, true, false, List, [], ◌∷◌, ◌++◌, append_assoc, append-nil, length, Result, Ok, Err, IfErr, refl, sym, ap, arith}
use Rattle.droid_frame.specs.declared.hash_kind.HashKind.{HashKind}
use Rattle.droid_export.specs.Csv.{line}
use Rattle.droid_lists.specs.EntryReading.{StandsForAll, TakesEntry}
use Rattle.droid_lists.specs.ProfileRows.{AreEntries, Entry, all_rows, entries_text, rows_of}
use Rattle.droid_lists.specs.ProfileTexts.{InEntry, names_of}
use Rattle.droid_lists.specs.TextReading.{IsFaultBehind, IsFaultOf, IsWrongBehind, ReadsAll, ReadsText}
use Rattle.droid_lists.specs.declared.entries.Entries.{Entries}
use Rattle.droid_lists.specs.declared.spelling.reading.Reading.{Reading}
use Rattle.droid_lists.specs.declared.spelling.reading.WrongRow.{WrongRow}
use Rattle.droid_lists.specs.declared.spelling.text_fault.TextFault.{TextFault}
use Rattle.droid_lists.specs.declared.spelling.text_fault.TextFault.TheVariants as faults
use Rattle.droid_lists.proofs.RowsRead.{entries_push, entries_within, rows_within, whole_push, wrong_within}

-- records were read, and this is left; each took a byte at least
pub record HasRead (hash : HashKind) (text : List ℕ) (reading : Reading) (rest : List ℕ) (count : ℕ) : Type 0 where
  pub all : List Entry
  pub are : AreEntries hash all
  pub whole : text ≡ entries_text all ++ rest
  pub stands : StandsForAll reading all
  pub within : length rest + count ≤ length text

pub starts : (hash : HashKind) (text : List ℕ) (reading : Reading) → StandsForAll reading [] → HasRead hash text reading text 0
starts hash text reading stands = record { all = []; are = tt; whole = refl; stands = stands; within = omega arith }

rows_fit : (hash : HashKind) (text : List ℕ) (reading : Reading) (rest : List ℕ) (count : ℕ) (had : HasRead hash text reading rest count) → length text < 2 ^ 63
    → length (all_rows had.all) + 1 + length rest < 2 ^ 64
rows_fit hash text reading rest count had below = omega (arith, entries_within text had.all rest had.whole)

pub one_more : (hash : HashKind) (text : List ℕ) (old new : Reading) (rest : List ℕ) (count : ℕ) (behind : Bor (List ℕ)) → HasRead hash text old rest count → length text < 2 ^ 63
    → TakesEntry (Ok behind) old new hash rest → HasRead hash text new behind.now (count + 1)
one_more hash text old new rest count behind had below takes =
    let read = takes had.all had.stands (rows_fit hash text old rest count had below) in
    let long = rows_within rest (rows_of read.entry) behind.now read.whole in
    record {
      all = had.all ++ read.entry ∷ [];
      are = entries_push hash had.all read.entry had.are read.is;
      whole = whole_push text rest behind.now had.all read.entry had.whole read.whole;
      stands = read.stands;
      within = omega (arith, had.within, long);
    }

pub all_read : (hash : HashKind) (text : List ℕ) (reading : Reading) (rest : List ℕ) (count : ℕ) → HasRead hash text reading rest count → rest ≡ [] → ReadsAll hash text reading.entries
all_read hash text reading rest count had none = record {
  all = had.all;
  are = had.are;
  whole = had.whole ∙ (ap (λ (t : List ℕ). entries_text had.all ++ t) none ∙ append-nil (entries_text had.all));
  stands = had.stands.entries;
}

no_length : (rest : List ℕ) → length rest ≡ 0 → rest ≡ []
no_length [] is = refl
no_length (byte ∷ rest) is = absurd (omega (arith, is))

pub is_over : (hash : HashKind) (text : List ℕ) (reading : Reading) (rest : List ℕ) (count : ℕ) → HasRead hash text reading rest count → length text ≤ count → ReadsAll hash text reading.entries
is_over hash text reading rest count had past = all_read hash text reading rest count had (no_length rest (omega (arith, had.within, past)))

-- the number of a wrong row
pub number_fits : (hash : HashKind) (text : List ℕ) (old new : Reading) (rest : List ℕ) (count : ℕ) (wrong : WrongRow) → HasRead hash text old rest count → length text < 2 ^ 63
    → TakesEntry (Err wrong) old new hash rest → old.entries.rows + 1 + wrong.rows < 2 ^ 64
number_fits hash text old new rest count wrong had below takes =
    let read = takes had.all had.stands (rows_fit hash text old rest count had below) in
    omega (arith, entries_within text had.all rest had.whole, had.stands.entries.rows, wrong_within hash had.all rest wrong.column wrong.rows read)

pub is_wrong : (hash : HashKind) (text : List ℕ) (old new : Reading) (rest : List ℕ) (count number : ℕ) (wrong : WrongRow) → HasRead hash text old rest count → length text < 2 ^ 63
    → TakesEntry (Err wrong) old new hash rest → (rest ≡ [] → ⊥) → number ≡ old.entries.rows + 1 + wrong.rows → IsWrongBehind hash text number wrong.column
is_wrong hash text old new rest count number wrong had below takes some is = record {
  all = had.all;
  rest = rest;
  rows = wrong.rows;
  are = had.are;
  whole = had.whole;
  some = some;
  wrong = takes had.all had.stands (rows_fit hash text old rest count had below);
  number = omega (arith, is, had.stands.entries.rows);
}

-- ---- behind the names

pub text_read : (hash : HashKind) (text rest : List ℕ) (entries : Entries) → text ≡ line (names_of hash) ++ rest → ReadsAll hash rest entries → ReadsText hash text entries
text_read hash text rest entries is read = record {
  all = read.all;
  is = record { whole = is ∙ ap (λ (t : List ℕ). line (names_of hash) ++ t) read.whole; are = read.are };
  stands = read.stands;
}

pub text_wrong : (hash : HashKind) (text rest : List ℕ) (fault : TextFault) → text ≡ line (names_of hash) ++ rest → IsFaultBehind hash rest fault → IsFaultOf hash text fault
text_wrong hash text rest faults.Memory is wrong = tt
text_wrong hash text rest (faults.Wrong number column) is wrong =
    InEntry wrong.all wrong.rest wrong.rows wrong.number wrong.are
    (is ∙ (ap (λ (t : List ℕ). line (names_of hash) ++ t) wrong.whole ∙ sym (append_assoc (line (names_of hash)) (entries_text wrong.all) wrong.rest)))
    wrong.some wrong.wrong

pub all_wrong : (hash : HashKind) (text rest : List ℕ) (read : Result Entries TextFault) → text ≡ line (names_of hash) ++ rest
    → IfErr read (λ fault. IsFaultBehind hash rest fault) → IfErr read (λ fault. IsFaultOf hash text fault)
all_wrong hash text rest (Ok entries) is wrong = tt
all_wrong hash text rest (Err fault) is wrong = text_wrong hash text rest fault is wrong

-- ---- what is left

pub some_left : (rest : List ℕ) (empty : Bool) → empty ≡ (length rest == 0) → empty ≡ false → rest ≡ [] → ⊥
some_left rest true is some none = absurd (cc)
some_left rest false is some none =
    let both : false ≡ true = is ∙ ap (λ (t : List ℕ). length t == 0) none in
    absurd (cc)
