-- A file that is opened (this project's own).
use Rattle.std.specs.Prelude.{◌≡◌, ℕ, ◌+◌, ◌<◌, ◌≤◌, Bool, true, List, [], ◌∷◌, ◌++◌, ◌⊎◌, length, drop}
use Rattle.droid_frame.specs.declared.frame.Frame.{Frame}
use Rattle.droid_frame.specs.declared.reply.Reply.{Reply}
use Rattle.droid_journal.specs.Chains.{BeginsNoRecord, Chain, ShowsDamage, chain_bytes, form_of, journal_bytes, key_of}
use Rattle.droid_journal.specs.Chains.{last_place, place_behind}
use Rattle.droid_journal.specs.Fronts.{IsFront}
use Rattle.droid_journal.specs.Records.{AllFit, Fits, Record}
use Rattle.droid_journal.specs.Replaying.{Gave, Refutes}
use Rattle.droid_journal.specs.declared.start.Beginning.{Beginning}
use Rattle.droid_journal.specs.declared.start.Beginning.TheVariants as beginnings
use Rattle.droid_journal.specs.declared.start.Opened.{Opened}
use Rattle.droid_journal.specs.declared.records.key.Form.TheVariants as forms
use Rattle.droid_journal.specs.declared.records.key.Key.{Key}
use Rattle.droid_journal.specs.declared.records.place.Place.{Place}
use Rattle.droid_journal.specs.Standing.{AreOnDisk, ahead_bytes}

-- the file has these bytes behind its header
abbrev pub HasHeader : List ℕ → List ℕ → Type 0
HasHeader header file = IsFront header file

-- less than the header, and nothing else: the file was not made whole
pub record IsBegun (header file : List ℕ) (count : ℕ) : Type 0 where
  pub front : IsFront file header
  pub size : length file ≡ count
  pub short : count < length header

-- what reading the beginning of a file reported
abbrev pub Knows : List ℕ → List ℕ → Beginning → Type 0
Knows header file beginnings.Whole = HasHeader header file
Knows header file (beginnings.Part count) = IsBegun header file count

-- no more than the header
abbrev pub PartWithin : List ℕ → Beginning → Type 0
PartWithin header beginnings.Whole = Unit {0}
PartWithin header (beginnings.Part count) = count ≤ length header

-- Records were handed to a machine, from one place of a file to another. A machine that stood for those before them
-- stands for these too, and gave each its reply.
pub record Hands {S M : Type 0} (stands : S → M → List Record → Type 0)
    (gives : S → List Record → Frame → Reply → Bool → Type 0) (key : Key) (old : M) (from : Place) (new : M)
    (to : Place) (its : List Record) : Type 0 where
  pub fit : AllFit its
  pub to_is : to ≡ place_behind key from its
  pub stood : (setting : S) (before : List Record) → stands setting old before → stands setting new (before ++ its)
  pub gave : (setting : S) (before : List Record) → stands setting old before → Gave (gives setting) before its

-- these records stand in the file, from the one place to the other
abbrev pub StandIn : Key → List ℕ → Place → Place → List Record → Type 0
StandIn key file from to its = drop from.at file ≡ chain_bytes key from its ++ drop to.at file

-- these records stand in the file, from the one place to the other, and behind that none follows
pub record HandedOn (key : Key) (file : List ℕ) (from to : Place) (its : List Record) : Type 0 where
  pub joined : StandIn key file from to its
  pub ends : BeginsNoRecord key to (drop to.at file)

-- What is kept of a file that a journal wrote: nothing yet, or a whole journal, perhaps with the beginning of the
-- next turn.
abbrev pub IsKept : List ℕ → List ℕ → Type 0
IsKept header kept = (kept ≡ []) ⊎ ((its : List Record) × AllFit its × AreOnDisk header its kept)

-- The file has these records behind its header and nothing else but perhaps the beginning of the next turn, all on the
-- disk, and the machine stands for them.
pub record IsReady {F M : Type 0} (has : F → List ℕ → Type 0) (kept : F → List ℕ) (stands : M → List Record → Type 0)
    (header : List ℕ) (file : F) (opened : Opened M) (its : List Record) : Type 0 where
  pub machine : stands opened.machine its
  pub file_is : has file (journal_bytes header its ++ ahead_bytes header its opened.ahead)
  pub on_disk : AreOnDisk header its (kept file)
  pub key : opened.key ≡ key_of header
  pub place : opened.place ≡ last_place header its
  pub begins : opened.ahead ≡ true → form_of header ≡ forms.Present
  pub fit : AllFit its

-- What was found: these records, none of which was damaged later, and a rest; or less than the header, and so none.
pub data WasFound (header file : List ℕ) (its : List Record) : Type 0 where
  Records : (rest : List ℕ) (chain : Chain header file its rest) (whole : ShowsDamage header its rest → ⊥)
      → WasFound header file its
  Begun : (count : ℕ) (begun : IsBegun header file count) (none : its ≡ []) → WasFound header file its

-- Behind this many records of the file a later turn shows that it was damaged.
pub record WasDamaged (header file : List ℕ) (count : ℕ) : Type 0 where
  pub its : List Record
  pub rest : List ℕ
  pub chain : Chain header file its rest
  pub later : ShowsDamage header its rest
  pub count_is : count ≡ length its

-- The record with this number of the file is none that a journal of this machine wrote behind those before it.
pub record WasRefuted (gives : List Record → Frame → Reply → Bool → Type 0) (header file : List ℕ) (number : ℕ)
    : Type 0 where
  pub its : List Record
  pub it : Record
  pub rest : List ℕ
  pub fit : AllFit its
  pub fits : Fits it
  pub joined : file ≡ journal_bytes header (its ++ it ∷ []) ++ rest
  pub count : number ≡ length its + 1
  pub why : Refutes gives its it.request it.reply

-- All records of a file were read: the machine stands for them and gave their replies, none is behind them, and nothing
-- behind them was damaged later.
pub record ReadsAll {S M : Type 0} (stands : S → M → List Record → Type 0)
    (gives : S → List Record → Frame → Reply → Bool → Type 0) (header file : List ℕ) (old : M) (new : M) (to : Place)
    (its : List Record) : Type 0 where
  pub chain : Chain header file its (drop to.at file)
  pub to_is : to ≡ last_place header its
  pub whole : ShowsDamage header its (drop to.at file) → ⊥
  pub stood : (setting : S) → stands setting old [] → stands setting new its
  pub gave : (setting : S) → stands setting old [] → Gave (gives setting) [] its
