-- A walk whose records go to the writers is a walk whose records are listed.
use Rattle.std.proofs.Common.{◌≡◌, ℕ, Bool, List, [], ◌∷◌, ◌++◌, Option, refl, sym, ap, ◌∙◌, subst, append_assoc, append-nil}
use Rattle.std.specs.List.{flat_map}
use Rattle.std.proofs.lemmas.Grind.{flat_map-append}
use Rattle.droid_frame.specs.declared.io.stream_record.Seen.{Seen}
use Rattle.droid_frame.specs.declared.record.Record.{Record}
use Rattle.droid_export.specs.Text.{record_text}
use Rattle.droid_pronom.specs.Registry.{Contents}
use Rattle.droid_tree.specs.Heard.{Heard}
use Rattle.droid_tree.specs.Observation.{Observation, GoesOver}
use Rattle.droid_profile.specs.EarlyEnds.{EndsEarly, TakesFirst, Took, Failed}
use Rattle.droid_profile.specs.ProfileRecords.{records_of}
use Rattle.droid_profile.specs.Profiles.{ProfilesTree}
use Rattle.droid_profile.specs.declared.fault.ProfileFault.{ProfileFault}
use Rattle.droid_profile.specs.declared.fault.ProfileFault.TheVariants as walk_faults
use Rattle.droid_profile.specs.declared.options.Options.{Options}
use Rattle.droid_profile.specs.declared.recipient.RecipientFault.{RecipientFault}
use Rattle.droid_profile.specs.declared.recipient.RecipientFault.TheVariants as recipient_faults
use Rattle.droid_profile.specs.Taking.{BreaksOne, Fails, GoesOn, TakesSoon}
use Rattle.droid_profile.specs.Texts.{line_of}
use Rattle.droid_profile.specs.WrittenTrees.{Adds, AddsPart}
use Rattle.droid_profile.specs.declared.csv_recipient.CsvRecipient.{CsvRecipient}
use Rattle.droid_profile.proofs.Takings.{on-breaks_one, on-stays, takes_all}

pub goes_adds : (first records : List Record) → GoesOver Adds first records (first ++ records)
goes_adds first [] = append-nil first
goes_adds first (next ∷ records) =
    (first ++ next ∷ [], refl, subst (λ (all : List Record). GoesOver Adds (first ++ next ∷ []) records all) (append_assoc first (next ∷ []) records) (goes_adds (first ++ next ∷ []) records))

-- ---- a walk that came to its end

abbrev pub profiled_list : {T W R : Type 0} {observes : T → Observation → T → Type 0} {hears : W → Heard → W → Type 0} {takes : R → Record → R → Type 0} {registry : Contents} {options : Options} {whole : Bool}
    {tree tree_after : T} {watcher watcher_after : W} {recipient recipient_after : R}
    → (walk : ProfilesTree observes hears takes registry options whole tree tree_after watcher watcher_after recipient recipient_after)
    → ProfilesTree observes hears Adds registry options whole tree tree_after watcher watcher_after [] (records_of registry options walk.visits)
profiled_list {registry = registry} {options = options} walk = record {
  visits = walk.visits;
  in_turn = walk.in_turn;
  visited = walk.visited;
  complete = walk.complete;
  numbered = walk.numbered;
  whole_is = walk.whole_is;
  calls = walk.calls;
  are_calls = walk.are_calls;
  observed = walk.observed;
  heard = walk.heard;
  are_heard = walk.are_heard;
  informed = walk.informed;
  taken = goes_adds [] (records_of registry options walk.visits);
}

-- ---- a walk that ended early

listed : {T W R : Type 0} {observes : T → Observation → T → Type 0} {hears : W → Heard → W → Type 0} {takes : R → Record → R → Type 0} {fails : R → Record → RecipientFault → R → Type 0} {registry : Contents} {options : Options} {fault : ProfileFault}
    {tree tree_after : T} {watcher watcher_after : W} {recipient recipient_after : R}
    → (shown : List Record) → (walk : EndsEarly observes hears takes fails registry options fault tree tree_after watcher watcher_after recipient recipient_after)
    → TakesFirst Adds AddsPart fault (records_of registry options walk.visits) walk.given [] shown
    → EndsEarly observes hears Adds AddsPart registry options fault tree tree_after watcher watcher_after [] shown
listed shown walk taken = record {
  visits = walk.visits;
  waiting = walk.waiting;
  in_turn = walk.in_turn;
  begun = walk.begun;
  numbered = walk.numbered;
  calls = walk.calls;
  are_calls = walk.are_calls;
  reached = walk.reached;
  observed = walk.observed;
  stands = walk.stands;
  heard = walk.heard;
  entries = walk.entries;
  few_wait = walk.few_wait;
  few_unreported = walk.few_unreported;
  bytes = walk.bytes;
  informed = walk.informed;
  given = walk.given;
  taken = taken;
  reported = walk.reported;
  all_numbers = walk.all_numbers;
}

flat_push : (f : Record → List ℕ) (taken : List Record) (next : Record) → flat_map f taken ++ f next ≡ flat_map f (taken ++ next ∷ [])
flat_push f taken next = sym (flat_map-append f taken (next ∷ []) ∙ ap (λ (l : List ℕ). flat_map f taken ++ l) (append-nil (f next)))

module _ {O M : Type 0} (contents : O → Option (List ℕ)) (seen : O → Seen) (room : O → Option ℕ) (list_contents : M → Option (List ℕ)) (list_seen : M → Seen) (list_room : M → Option ℕ) where
  -- what went to the writers of these records
  abbrev pub Leaves : CsvRecipient O M → List Record → ProfileFault → CsvRecipient O M → Type 0
  Leaves old shown walk_faults.Memory new = GoesOn contents seen list_contents list_seen old (flat_map (record_text old.registry.now) shown) (flat_map line_of shown) new
  Leaves old shown walk_faults.Numbers new = GoesOn contents seen list_contents list_seen old (flat_map (record_text old.registry.now) shown) (flat_map line_of shown) new
  Leaves old shown (walk_faults.Recipient recipient_faults.Memory) new = GoesOn contents seen list_contents list_seen old (flat_map (record_text old.registry.now) shown) (flat_map line_of shown) new
  Leaves old shown (walk_faults.Recipient (recipient_faults.Write fault)) new =
      BreaksOne contents seen room list_contents list_seen list_room old (flat_map (record_text old.registry.now) shown) (flat_map line_of shown) new

  leaves_took : (old new : CsvRecipient O M) (shown : List Record) (fault : ProfileFault) → ((why : RecipientFault) → ¬ (fault ≡ walk_faults.Recipient why))
      → GoesOn contents seen list_contents list_seen old (flat_map (record_text old.registry.now) shown) (flat_map line_of shown) new → Leaves old shown fault new
  leaves_took old new shown walk_faults.Memory none goes = goes
  leaves_took old new shown walk_faults.Numbers none goes = goes
  leaves_took old new shown (walk_faults.Recipient recipient_faults.Memory) none goes = goes
  leaves_took old new shown (walk_faults.Recipient (recipient_faults.Write fault)) none goes = absurd (none (recipient_faults.Write fault) refl)

  -- the records that are shown where the next one could not be taken
  pub record ShownPart (old new : CsvRecipient O M) (taken : List Record) (next : Record) (why : RecipientFault) : Type 0 where
    pub shown : List Record
    pub adds : AddsPart taken next why shown
    pub leaves : Leaves old shown (walk_faults.Recipient why) new

  leaves_failed : (old reached new : CsvRecipient O M) (taken : List Record) (next : Record) (why : RecipientFault)
      → GoesOn contents seen list_contents list_seen old (flat_map (record_text old.registry.now) taken) (flat_map line_of taken) reached
      → Fails contents seen room list_contents list_seen list_room reached next why new → ShownPart old new taken next why
  leaves_failed old reached new taken next recipient_faults.Memory goes fails = record {
    shown = taken;
    adds = refl;
    leaves = on-stays contents seen list_contents list_seen old reached new (flat_map (record_text old.registry.now) taken) (flat_map line_of taken) goes fails;
  }
  leaves_failed old reached new taken next (recipient_faults.Write fault) goes fails = record {
    shown = taken ++ next ∷ [];
    adds = refl;
    leaves =
        subst (λ (lines : List ℕ). BreaksOne contents seen room list_contents list_seen list_room old (flat_map (record_text old.registry.now) (taken ++ next ∷ [])) lines new) (flat_push line_of taken next)
        (subst (λ (rows : List ℕ). BreaksOne contents seen room list_contents list_seen list_room old rows (flat_map line_of taken ++ line_of next) new) (flat_push (record_text old.registry.now) taken next)
        (on-breaks_one contents seen list_contents list_seen room list_room old reached new (flat_map (record_text old.registry.now) taken) (flat_map line_of taken) (record_text old.registry.now next) (line_of next) goes
        (subst (λ (registry : Contents). BreaksOne contents seen room list_contents list_seen list_room reached (record_text registry next) (line_of next) new) goes.registry fails)));
  }

  -- ---- the whole of it

  -- a walk that ended early, and the records that are shown
  pub record EndsListed {T W : Type 0} (observes : T → Observation → T → Type 0) (hears : W → Heard → W → Type 0) (registry : Contents) (options : Options) (fault : ProfileFault) (tree tree_after : T) (watcher watcher_after : W) (old new : CsvRecipient O M) : Type 0 where
    pub shown : List Record
    pub ended : EndsEarly observes hears Adds AddsPart registry options fault tree tree_after watcher watcher_after [] shown
    pub leaves : Leaves old shown fault new

  pub ends_listed : {T W : Type 0} (observes : T → Observation → T → Type 0) (hears : W → Heard → W → Type 0) (registry : Contents) (options : Options) (fault : ProfileFault) (tree tree_after : T) (watcher watcher_after : W) (old new : CsvRecipient O M)
      → EndsEarly observes hears (TakesSoon contents seen list_contents list_seen) (Fails contents seen room list_contents list_seen list_room) registry options fault tree tree_after watcher watcher_after old new
      → EndsListed observes hears registry options fault tree tree_after watcher watcher_after old new
  ends_listed {T} {W} observes hears registry options fault tree tree_after watcher watcher_after old new walk = by_taken walk.taken
    where
      by_taken : TakesFirst (TakesSoon contents seen list_contents list_seen) (Fails contents seen room list_contents list_seen list_room) fault (records_of registry options walk.visits) walk.given old new
          → EndsListed observes hears registry options fault tree tree_after watcher watcher_after old new
      by_taken (Took first goes none) = record {
        shown = walk.given;
        ended = listed walk.given walk (Took first (goes_adds [] walk.given) none);
        leaves = leaves_took old new walk.given fault none (takes_all contents seen list_contents list_seen old walk.given new goes);
      }
      by_taken (Failed next reached why first goes fails is) =
          let part = leaves_failed old reached new walk.given next why (takes_all contents seen list_contents list_seen old walk.given reached goes) fails in
          record {
            shown = part.shown;
            ended = listed part.shown walk (Failed next walk.given why first (goes_adds [] walk.given) part.adds is);
            leaves = subst (λ (it : ProfileFault). Leaves old part.shown it new) (sym is) part.leaves;
          }
