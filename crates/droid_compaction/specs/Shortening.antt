-- The records of a journal that was made smaller (this project's own).
use Rattle.std.specs.Prelude.{◌≡◌, ◌≢◌, ℕ, ◌==◌, ◌&&◌, if◌then◌else◌, Bool, true, false, List, [], ◌∷◌, ◌++◌, length}
use Rattle.std.specs.Prelude.{map}
use Rattle.std.specs.List.{list_any}
use Rattle.droid_compaction.specs.BareFrames.{bare_finish_bytes, bare_piece_bytes}
use Rattle.droid_journal.specs.Chains.{Chain, journal_bytes, marked_bytes}
use Rattle.droid_journal.specs.Records.{AllFit, Record, made}
use Rattle.droid_journal.specs.Standing.{ahead_bytes}
use Rattle.droid_compaction.specs.Fields.{file_in, is_about, is_end, stamp_in}

-- the record is the Finish or the Abandon of this file
abbrev pub ends : ℕ → Record → Bool
ends file it = is_end it.request it.reply && (file_in it.request == file)

-- whether one of the records ends this file
abbrev pub has_ended : List Record → ℕ → Bool
has_ended its file = list_any (ends file) its

-- A request as a smaller journal has it: a piece (kind 4) or the Finish (kind 5) of an ended file is bare.
abbrev pub smaller_request : (ℕ → Bool) → List ℕ → List ℕ → List ℕ
smaller_request ended request reply =
    if is_about 4 request reply then (if ended (file_in request) then bare_piece_bytes request reply else request)
    else if is_about 5 request reply then (if ended (file_in request) then bare_finish_bytes request reply else request)
    else request

-- No record of a smaller journal begins a turn: the mark at the end of the file says of all of them that they are on
-- the disk.
abbrev pub smaller : (ℕ → Bool) → Record → Record
smaller ended it = made false (smaller_request ended it.request it.reply) it.reply

-- whether one of the records has a request with this client and number
abbrev pub has_stamp : List Record → ℕ → Bool
has_stamp its stamp = list_any (λ it. stamp_in it.request == stamp) its

-- of these records, each whose client and number no earlier one has; some stand before them
abbrev pub once : List Record → List Record → List Record
once before [] = []
once before (it ∷ its) =
    if has_stamp before (stamp_in it.request) then once (before ++ it ∷ []) its else it ∷ once (before ++ it ∷ []) its

-- the records of the journal that is made smaller when these files have ended
abbrev pub smaller_by : (ℕ → Bool) → List Record → List Record
smaller_by ended its = map (smaller ended) (once [] its)

-- The records of the smaller journal: a request that came again is left out, and those of a file that one of the others
-- ends are bare.
abbrev pub shortened : List Record → List Record
shortened its = smaller_by (has_ended (once [] its)) its

-- the file is a journal of these records, and nothing else but perhaps the beginning of the next turn
pub record IsWhole (header file : List ℕ) (its : List Record) : Type 0 where
  pub fit : AllFit its
  pub file_is : (ahead : Bool) × (file ≡ journal_bytes header its ++ ahead_bytes header its ahead)

-- the bytes are those of the smaller journal of the file, under a new header and with its mark
abbrev pub IsShortened : List ℕ → List ℕ → List ℕ → List ℕ → Type 0
IsShortened header new file bytes =
    (its : List Record) × IsWhole header file its × AllFit (shortened its) × (bytes ≡ marked_bytes new (shortened its))

-- Bytes stand behind this many whole records of the file, and neither begin with a further one nor are the beginning of
-- the next turn.
pub record HasBehind (header file : List ℕ) (count : ℕ) : Type 0 where
  pub its : List Record
  pub rest : List ℕ
  pub chain : Chain header file its rest
  pub more : (ahead : Bool) → rest ≢ ahead_bytes header its ahead
  pub count_is : count ≡ length its
