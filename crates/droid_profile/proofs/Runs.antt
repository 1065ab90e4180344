-- One step of the taking after another, and how it ends early.
use Rattle.std.proofs.Common.{◌≡◌, ◌⊎◌, inl, inr, ℕ, ◌≤◌, List, [], ◌∷◌, ◌++◌, map, reverse, append-nil, append_assoc, Result, Ok, Err, IfErr, refl, sym, ap, subst, ◌∙◌, arith}
use Rattle.std.specs.List.{AllByRecursion}
use Rattle.std.specs.Result.{IsErrAnd}
use Rattle.std.proofs.lemmas.List.{map-append}
use Rattle.droid_frame.specs.declared.record.Record.{Record}
use Rattle.droid_pronom.specs.Registry.{Contents}
use Rattle.droid_tree.specs.Heard.{Heard}
use Rattle.droid_tree.specs.Observation.{Observation, GoesOver}
use Rattle.droid_tree.specs.Paths.{top}
use Rattle.droid_tree.specs.declared.folder_entry.FolderEntry.{FolderEntry}
use Rattle.droid_tree.specs.declared.pending_folder.PendingFolder.{PendingFolder}
use Rattle.droid_profile.specs.Calls.{Call, OfFolder}
use Rattle.droid_profile.specs.EarlyEnds.{TreeStands}
use Rattle.droid_profile.specs.Visits.{Visit, InTurn, IsBegun}
use Rattle.droid_profile.specs.declared.fault.ProfileFault.{ProfileFault}
use Rattle.droid_profile.specs.declared.options.Options.{Options}
use Rattle.droid_profile.specs.declared.lanes.file_row.FileRow.{FileRow}
use Rattle.droid_profile.proofs.BatchEnds.{over_more}
use Rattle.droid_profile.specs.ScanFits.{AddsFew, EndsTaking, IsExplained, IsOpen, NoneOpen, ScanFits, Takes, TakesMore}
use Rattle.droid_profile.specs.declared.walk.row.Row.{Row}
use Rattle.droid_profile.specs.declared.walk.scan.Scan.{Scan}
use Rattle.droid_profile.proofs.StepsMade.{few_none, few_then}

-- a fault that is handed on
pub handed_on : {A : Type 0} (P : ProfileFault → Type 0) (result : Result A ProfileFault) (fault : ProfileFault) → IsErrAnd result (λ its. its ≡ fault) → P fault → IfErr result P
handed_on P (Ok a) fault same it = tt
handed_on P (Err its) fault same it = subst P (sym same) it

-- ---- two scans with the same folders and entries

pub record IsSame (scan now : Scan) : Type 0 where
  pub entries : now.entries.items ≡ scan.entries.items
  pub waiting : now.waiting.items ≡ scan.waiting.items
  pub folder : now.folder ≡ scan.folder
  pub number : now.number ≡ scan.number

begun_as : (visits : List Visit) (scan now : Scan) → IsSame scan now → IsOpen visits scan ⊎ NoneOpen visits scan → IsOpen visits now ⊎ NoneOpen visits now
begun_as visits scan now same (inl folders) = inl (record {
  before = folders.before;
  last = folders.last;
  are = folders.are;
  whole = folders.whole;
  begun = subst (λ (l : List FolderEntry). IsBegun (reverse l) folders.last) (sym same.entries) folders.begun;
  folder = folders.folder ∙ sym same.folder;
})
begun_as visits scan now same (inr none) = inr (record { none = none.none; empty = same.entries ∙ none.empty })

fits_as : (registry : Contents) (options : Options) (calls : List Call) (heard : List Heard) (given : List Record) (scan now : Scan) (rows : List Row) (files : List FileRow) → IsSame scan now → ScanFits registry options calls heard given scan rows files → ScanFits registry options calls heard given now rows files
fits_as registry options calls heard given scan now rows files same fits = record {
  visited = λ readings may.
      let visited = fits.visited readings may in
      record {
        visits = visited.visits;
        in_turn = subst (λ (l : List PendingFolder). InTurn (top ∷ []) visited.visits l) (sym same.waiting) visited.in_turn;
        begun = begun_as visited.visits scan now same visited.begun;
        numbered = visited.numbered;
        counted = visited.counted ∙ sym same.number;
        complete = visited.complete;
        folders = visited.folders;
        reads = visited.reads;
        entries = visited.entries;
        records = visited.records;
      };
  fresh = fits.fresh;
  numbers = subst (λ (n : ℕ). AllByRecursion (λ (file : FileRow). file.record.id ≤ n) files) (sym same.number) fits.numbers;
  moments = fits.moments;
  ready = fits.ready;
}

-- ---- one step after another

-- some calls more, and then others
calls_twice : (calls : List Call) (some more : List Observation) → (calls ++ map OfFolder some) ++ map OfFolder more ≡ calls ++ map OfFolder (some ++ more)
calls_twice calls some more = append_assoc calls (map OfFolder some) (map OfFolder more) ∙ ap (λ (l : List Call). calls ++ l) (sym (map-append OfFolder some more))

module _ {T : Type 0} (observes : T → Observation → T → Type 0) where
  pub takes_none : (scan : Scan) (rows : List Row) (files : List FileRow) (tree : T) → Takes observes scan scan rows rows files files tree tree
  takes_none scan rows files tree = λ registry options calls heard given fits.
      record { more = []; fits = subst (λ (l : List Call). ScanFits registry options l heard given scan rows files) (sym (append-nil calls)) fits; observed = refl }

  pub takes_same : (scan now : Scan) (rows : List Row) (files : List FileRow) (tree : T) → IsSame scan now → Takes observes scan now rows rows files files tree tree
  takes_same scan now rows files tree same = λ registry options calls heard given fits.
      takes_none now rows files tree registry options calls heard given (fits_as registry options calls heard given scan now rows files same fits)

  -- what was taken after some calls, was taken after those before them too
  more_before : (registry : Contents) (options : Options) (calls : List Call) (heard : List Heard) (given : List Record) (some : List Observation) (scan : Scan) (rows : List Row) (files : List FileRow) (tree middle last : T) → GoesOver observes tree some middle
      → TakesMore observes registry options (calls ++ map OfFolder some) heard given scan rows files middle last → TakesMore observes registry options calls heard given scan rows files tree last
  more_before registry options calls heard given some scan rows files tree middle last first then = record {
    more = some ++ then.more;
    fits = subst (λ (l : List Call). ScanFits registry options l heard given scan rows files) (calls_twice calls some then.more) then.fits;
    observed = over_more observes tree middle last some then.more first then.observed;
  }

  module _ (scan now : Scan) (rows rows_now : List Row) (files files_now : List FileRow) (tree middle last : T) (first : Takes observes scan now rows rows_now files files_now tree middle) where
    pub takes_then : (after : Scan) (rows_after : List Row) (files_after : List FileRow) → Takes observes now after rows_now rows_after files_now files_after middle last → Takes observes scan after rows rows_after files files_after tree last
    takes_then after rows_after files_after then = λ registry options calls heard given fits.
        let begun = first registry options calls heard given fits in
        more_before registry options calls heard given begun.more after rows_after files_after tree middle last begun.observed (then registry options (calls ++ map OfFolder begun.more) heard given begun.fits)

    pub ends_then : (fault : ProfileFault) (some most : ℕ) → some ≤ most → AddsFew some scan now rows rows_now → EndsTaking observes fault 0 now rows_now files_now middle last → EndsTaking observes fault most scan rows files tree last
    ends_then fault some most within few then = λ registry options calls heard given fits.
        let begun = first registry options calls heard given fits in
        let front = then registry options (calls ++ map OfFolder begun.more) heard given begun.fits in
        record {
          scan = front.scan;
          rows = front.rows;
          files = front.files;
          reached = front.reached;
          takes = more_before registry options calls heard given begun.more front.scan front.rows front.files tree middle front.reached begun.observed front.takes;
          stands = front.stands;
          explained = front.explained;
          few = few_then some 0 most scan now front.scan rows rows_now front.rows (omega (arith, within)) few front.few;
        }

  -- nothing more was taken
  pub ends_now : (fault : ProfileFault) (scan : Scan) (rows : List Row) (files : List FileRow) (tree tree_after : T) → IsExplained fault scan.number → TreeStands fault tree tree_after → EndsTaking observes fault 0 scan rows files tree tree_after
  ends_now fault scan rows files tree tree_after explained stands = λ registry options calls heard given fits.
      record {
        scan = scan;
        rows = rows;
        files = files;
        reached = tree;
        takes = takes_none scan rows files tree registry options calls heard given fits;
        stands = stands;
        explained = explained;
        few = few_none scan rows;
      }
