-- A service with a journal through the steps of a loop.
use Rattle.std.proofs.Common.{◌≡◌, ◌⊎◌, ℕ, Bool, true, false, Option, Some, None, IsSome, List, [], ◌∷◌, ◌++◌, refl, sym, ap, subst, ◌∙◌, append_assoc, inl, inr}
use Rattle.std.proofs.lemmas.Bool.{false≢true}
use Rattle.std.proofs.lemmas.List.{append-nil}
use Rattle.droid_frame.specs.declared.frame.Frame.{Frame}
use Rattle.droid_frame.specs.declared.reply.Reply.{Reply}
use Rattle.droid_core_spec.specs.Histories.{History}
use Rattle.droid_core_spec.specs.Setting.{Setting}
use Rattle.droid_journal.specs.declared.journal_fault.Fault.{Fault}
use Rattle.droid_journal.specs.declared.journal.Journal.{Journal}
use Rattle.droid_journal.specs.Records.{Record}
use Rattle.droid_wire.specs.Standing.{AnswersIn, KeepsHistory, StandsForHistory}
use Rattle.droid_wire.specs.declared.service_machine.ServiceMachine.{ServiceMachine}
use Rattle.droid_wire.proofs.Journals.{keeps_history}
use Rattle.droid_turns.specs.Chains.{GoesOver}
use Rattle.droid_turns.specs.Events.{Event, Unwritten, Wrote}
use Rattle.droid_turns.specs.Steps.{AllSettled, AtEach, Does, EachSettled, Goes, Handles, Happens, NeverFailed, Settles, Step, all_handled}
use Rattle.droid_turns.specs.Turns.{ServesAll, SettlesFirst}
use Rattle.droid_turns.specs.declared.rules.Rules.{Rules}
use Rattle.droid_turns.specs.declared.service_end.Served.{Served}
use Rattle.droid_wire.specs.Handling.{HandlesIn, HandlesSo, SettlesIn, SettlesSo}
use Rattle.droid_wire.specs.JournalServing.{Answered, AnswersJournal, AtMoments, CameOf, IsNextOf, IsWrite, Moment, ServesJournal, Shows}
use Rattle.droid_frame.specs.declared.io.stream_record.Seen.{Seen}
use Rattle.droid_turns.specs.Pipes.{AnswersOne, PipeDoes, rules_of_one}
use Rattle.droid_turns.specs.declared.pipe.Pipe.{Pipe}
use Rattle.droid_wire.specs.declared.journal_handler.JournalHandler.{JournalHandler}
use Rattle.droid_wire.proofs.Answering.{answered_more, answers_then}
use Rattle.droid_wire.proofs.Splits.{each_as, each_before, each_front, each_one, each_open, failed_before, failed_here, halves, handled_none, handled_one}

none_or_some : {A : Type 0} (o : Option A) → (o ≡ None) ⊎ IsSome o
none_or_some None = inl refl
none_or_some (Some x) = inr refl

-- at a write all is settled
write_settled : (before : List Step) (step : Step) → SettlesFirst before step → IsWrite step → AllSettled before
write_settled before (Happens (Wrote id bytes)) law is = law
write_settled before (Happens (Unwritten id)) law is = law
write_settled before (Happens event) law is = absurd is
write_settled before (Handles id frame reply) law is = absurd is
write_settled before (Settles done) law is = absurd is

next_more : (setting : Setting) (middle all : History) (others : List (Frame × Reply)) (one : Frame × Reply) → IsNextOf setting middle others all → IsNextOf setting middle (others ++ one ∷ []) all
next_more setting middle all [] one is = absurd is
next_more setting middle all (other ∷ others) one is = is

came_more : (setting : Setting) (history all : History) (frames : List (Frame × Reply)) (one : Frame × Reply) → CameOf setting history frames all → CameOf setting history (frames ++ one ∷ []) all
came_more setting history all frames one came = record {
  first = came.first;
  others = came.others ++ one ∷ [];
  parts = ap (λ (l : List (Frame × Reply)). l ++ one ∷ []) came.parts ∙ append_assoc came.first came.others (one ∷ []);
  middle = came.middle;
  answered = came.answered;
  last = elim came.last [ inl same ↦ inl same | inr is ↦ inr (next_more setting came.middle all came.others one is) ];
}

-- one frame more was handled
in_more : (setting : Setting) (history target after : History) (frame : Frame) (reply : Reply) → AnswersIn setting target frame reply (λ middle. after ≡ middle) → (early : List Step) (step : Step) → Shows setting history target early step → Shows setting history after early step
in_more setting history target after frame reply answers early step shows =
    λ is. let it = shows is in
    record { it = it.it; answered = it.answered; further = it.further ++ (frame, reply) ∷ []; since = answered_more setting it.it target after it.further frame reply it.since answers }

-- What is kept through the steps: it stands for a history, and all that was shown is on the disk; or it has a fault, and
-- nothing more is written.
data Going {F : Type 0} (has : F → List ℕ → Type 0) (kept : F → List ℕ) (setting : Setting) (header : List ℕ) (history : History) (steps : List Step) (journal : Journal F ServiceMachine) : Type 0 where
  Fine : (synced all : History) (stood : StandsForHistory has kept setting header journal synced all) (answered : Answered setting history (all_handled steps) all) (flushed : EachSettled steps → synced ≡ all)
      (shown : AtEach (Shows setting history synced) [] steps) (coming : AtEach (Shows setting history all) [] steps) → Going has kept setting header history steps journal
  Broken : (is : IsSome journal.fault) (moment : Moment kept setting header history journal.file steps) (never : EachSettled steps → NeverFailed steps → ⊥) → Going has kept setting header history steps journal

module _ {F : Type 0} (has : F → List ℕ → Type 0) (kept : F → List ℕ) (setting : Setting) (header : List ℕ) (history : History) where
  all_came : (frames : List (Frame × Reply)) (all : History) → Answered setting history frames all → CameOf setting history frames all
  all_came frames all answered = record { first = frames; others = []; parts = sym (append-nil frames); middle = all; answered = answered; last = inl refl }

  moment_of : (steps : List Step) (journal : Journal F ServiceMachine) → Going has kept setting header history steps journal → Moment kept setting header history journal.file steps
  moment_of steps journal (Fine synced all stood answered flushed shown coming) = record {
    written = stood.records;
    synced = synced;
    all = all;
    keeps = keeps_history has kept setting header journal synced all stood;
    shown = shown;
    accepted = all_came (all_handled steps) all answered;
  }
  moment_of steps journal (Broken is moment never) = moment

  kept_same : (old new : F) (written : List Record) (synced all : History) → kept new ≡ kept old → KeepsHistory kept setting header old written synced all → KeepsHistory kept setting header new written synced all
  kept_same old new written synced all same it = record {
    base = it.base;
    first = it.first;
    keeps = record { on_disk = (it.keeps.on_disk.0, same ∙ it.keeps.on_disk.1); turn = it.keeps.turn; fit = it.keeps.fit };
    on_disk = it.on_disk;
    accepted = it.accepted;
  }

  -- an event
  event_step : (steps : List Step) (event : Event) (journal : Journal F ServiceMachine) → Going has kept setting header history steps journal → SettlesFirst steps (Happens event) → Going has kept setting header history (steps ++ Happens event ∷ []) journal
  event_step steps event journal (Fine synced all stood answered flushed shown coming) law =
      let none : all_handled (steps ++ Happens event ∷ []) ≡ all_handled steps = handled_none steps (Happens event) refl in
      Fine synced all stood (subst (λ (l : List (Frame × Reply)). Answered setting history l all) (sym none) answered) (λ each. flushed (each_before steps event each))
      (each_one (Shows setting history synced) [] steps (Happens event) shown (λ is. record { it = all; answered = answered; further = []; since = flushed (write_settled steps (Happens event) law is).each }))
      (each_one (Shows setting history all) [] steps (Happens event) coming (λ is. record { it = all; answered = answered; further = []; since = refl }))
  event_step steps event journal (Broken is moment never) law =
      let none : all_handled (steps ++ Happens event ∷ []) ≡ all_handled steps = handled_none steps (Happens event) refl in
      Broken is
      (record {
        written = moment.written;
        synced = moment.synced;
        all = moment.all;
        keeps = moment.keeps;
        shown = each_one (Shows setting history moment.synced) [] steps (Happens event) moment.shown (λ written. let so = write_settled steps (Happens event) law written in absurd (never so.each so.never_failed));
        accepted = subst (λ (l : List (Frame × Reply)). CameOf setting history l moment.all) (sym none) moment.accepted;
      })
      (λ each never_failed. never (each_before steps event each) (λ there. never_failed (failed_before steps (Happens event) there)))

  -- a frame
  handle_step : (steps : List Step) (id : ℕ) (frame : Frame) (reply : Reply) (old new : Journal F ServiceMachine) (was noted : Option Fault) → Going has kept setting header history steps old → HandlesIn has kept old frame reply new was noted
      → Going has kept setting header history (steps ++ Handles id frame reply ∷ []) new
  handle_step steps id frame reply old new was noted (Fine synced all stood answered flushed shown coming) did =
      let step : Step = Handles id frame reply in
      let one : all_handled (steps ++ step ∷ []) ≡ all_handled steps ++ (frame, reply) ∷ [] = handled_one steps step in
      elim (none_or_some new.fault) [
        | inl none ↦ (
            let it = answers_then setting all frame reply (StandsForHistory has kept setting header new synced) (did.handled setting header synced all stood none) in
            Fine synced it.after it.claim
            (subst (λ (l : List (Frame × Reply)). Answered setting history l it.after) (sym one) (answered_more setting history all it.after (all_handled steps) frame reply answered it.answers))
            (λ each. absurd (each_open steps id frame reply each))
            (each_one (Shows setting history synced) [] steps step shown (λ written. absurd written))
            (each_one (Shows setting history it.after) [] steps step (each_as (Shows setting history all) (Shows setting history it.after) [] steps (in_more setting history all it.after frame reply it.answers) coming) (λ written. absurd written))
            )
        | inr is ↦ (
            let it = did.keeps setting header synced all stood in
            Broken is
            (record {
              written = it.0;
              synced = synced;
              all = it.1;
              keeps = it.3;
              shown = each_one (Shows setting history synced) [] steps step shown (λ written. absurd written);
              accepted = subst (λ (l : List (Frame × Reply)). CameOf setting history l it.1) (sym one)
                  (record { first = all_handled steps; others = (frame, reply) ∷ []; parts = refl; middle = all; answered = answered; last = it.2 });
            })
            (λ each never_failed. each_open steps id frame reply each)
            )
      ]
  handle_step steps id frame reply old new was noted (Broken is moment never) did =
      let step : Step = Handles id frame reply in
      let one : all_handled (steps ++ step ∷ []) ≡ all_handled steps ++ (frame, reply) ∷ [] = handled_one steps step in
      let closed = did.closed is in
      Broken (subst (λ f. IsSome f) (sym closed.1) is)
      (record {
        written = moment.written;
        synced = moment.synced;
        all = moment.all;
        keeps = subst (λ (f : F). KeepsHistory kept setting header f moment.written moment.synced moment.all) (sym closed.0) moment.keeps;
        shown = each_one (Shows setting history moment.synced) [] steps step moment.shown (λ written. absurd written);
        accepted = subst (λ (l : List (Frame × Reply)). CameOf setting history l moment.all) (sym one) (came_more setting history moment.all (all_handled steps) (frame, reply) moment.accepted);
      })
      (λ each never_failed. each_open steps id frame reply each)

  -- a settling
  settle_step : (steps : List Step) (done : Bool) (old new : Journal F ServiceMachine) (was noted : Option Fault) → Going has kept setting header history steps old → SettlesIn has kept old done new was noted → Going has kept setting header history (steps ++ Settles done ∷ []) new
  settle_step steps true old new was noted (Fine synced all stood answered flushed shown coming) did =
      let none : all_handled (steps ++ Settles true ∷ []) ≡ all_handled steps = handled_none steps (Settles true) refl in
      let all_shown = each_one (Shows setting history all) [] steps (Settles true) coming (λ written. absurd written) in
      Fine all all (did.settled setting header synced all stood refl) (subst (λ (l : List (Frame × Reply)). Answered setting history l all) (sym none) answered) (λ each. refl) all_shown all_shown
  settle_step steps false old new was noted (Fine synced all stood answered flushed shown coming) did =
      let none : all_handled (steps ++ Settles false ∷ []) ≡ all_handled steps = handled_none steps (Settles false) refl in
      Broken (did.closes refl)
      (record {
        written = stood.records;
        synced = synced;
        all = all;
        keeps = kept_same old.file new.file stood.records synced all (did.kept_is refl) (keeps_history has kept setting header old synced all stood);
        shown = each_one (Shows setting history synced) [] steps (Settles false) shown (λ written. absurd written);
        accepted = subst (λ (l : List (Frame × Reply)). CameOf setting history l all) (sym none) (all_came (all_handled steps) all answered);
      })
      (λ each never_failed. never_failed (failed_here steps))
  settle_step steps true old new was noted (Broken is moment never) did = absurd (false≢true (sym (did.closed is)))
  settle_step steps false old new was noted (Broken is moment never) did =
      let none : all_handled (steps ++ Settles false ∷ []) ≡ all_handled steps = handled_none steps (Settles false) refl in
      Broken (did.closes refl)
      (record {
        written = moment.written;
        synced = moment.synced;
        all = moment.all;
        keeps = kept_same old.file new.file moment.written moment.synced moment.all (did.kept_is refl) moment.keeps;
        shown = each_one (Shows setting history moment.synced) [] steps (Settles false) moment.shown (λ written. absurd written);
        accepted = subst (λ (l : List (Frame × Reply)). CameOf setting history l moment.all) (sym none) moment.accepted;
      })
      (λ each never_failed. never_failed (failed_here steps))

  module _ {C : Type 0} (does : C → Event → C → Type 0) where
    go_on : (before steps : List Step) (c later : C) (h after : JournalHandler F) → Going has kept setting header history before h.journal.journal → AtEach SettlesFirst before steps
        → GoesOver (Does does (HandlesSo has kept) (SettlesSo has kept)) (c, h) steps (later, after) → Going has kept setting header history (before ++ steps) after.journal.journal
    go_on before [] c later h after going law over =
        subst (λ (l : List Step). Going has kept setting header history l after.journal.journal) (sym (append-nil before))
        (subst (λ (pair : C × JournalHandler F). Going has kept setting header history before pair.1.journal.journal) (sym over) going)
    go_on before (Happens event ∷ steps) c later h after going law over =
        let one : Going has kept setting header history (before ++ Happens event ∷ []) over.0.1.journal.journal =
        subst (λ (x : JournalHandler F). Going has kept setting header history (before ++ Happens event ∷ []) x.journal.journal) (sym over.1.1) (event_step before event h.journal.journal going law.0) in
        subst (λ (l : List Step). Going has kept setting header history l after.journal.journal) (append_assoc before (Happens event ∷ []) steps)
        (go_on (before ++ Happens event ∷ []) steps over.0.0 later over.0.1 after one law.1 over.2)
    go_on before (Handles id frame reply ∷ steps) c later h after going law over =
        let one = handle_step before id frame reply h.journal.journal over.0.1.journal.journal h.fault over.0.1.fault going over.1.1 in
        subst (λ (l : List Step). Going has kept setting header history l after.journal.journal) (append_assoc before (Handles id frame reply ∷ []) steps)
        (go_on (before ++ Handles id frame reply ∷ []) steps over.0.0 later over.0.1 after one law.1 over.2)
    go_on before (Settles done ∷ steps) c later h after going law over =
        let one = settle_step before done h.journal.journal over.0.1.journal.journal h.fault over.0.1.fault going over.1.1 in
        subst (λ (l : List Step). Going has kept setting header history l after.journal.journal) (append_assoc before (Settles done ∷ []) steps)
        (go_on (before ++ Settles done ∷ []) steps over.0.0 later over.0.1 after one law.1 over.2)

    at_moments : (rules : Rules) (c later : C) (h after : JournalHandler F) (result : Served) (steps : List Step) → StandsForHistory has kept setting header h.journal.journal history history
        → GoesOver (Does does (HandlesSo has kept) (SettlesSo has kept)) (c, h) steps (later, after) → ServesAll rules result steps → AtMoments does has kept setting header history (c, h) (later, after) steps
    at_moments rules c later h after result steps stood done serves early late is =
        let over : GoesOver (Does does (HandlesSo has kept) (SettlesSo has kept)) (c, h) (early ++ late) (later, after) =
        subst (λ (l : List Step). GoesOver (Does does (HandlesSo has kept) (SettlesSo has kept)) (c, h) l (later, after)) is done in
        let law : AtEach SettlesFirst [] early = each_front SettlesFirst [] early late (subst (AtEach SettlesFirst []) is serves.settled) in
        let parts = halves (Does does (HandlesSo has kept) (SettlesSo has kept)) (c, h) (later, after) early late over in
        record {
          at = parts.at;
          so_far = parts.so_far;
          further = parts.further;
          moment = moment_of early parts.at.1.journal.journal (go_on [] early c parts.at.0 h parts.at.1 (Fine history history stood refl (λ each. refl) tt tt) law parts.so_far);
        }

    pub serves_journal : (rules : Rules) (c later : C) (h after : JournalHandler F) (result : Served) → StandsForHistory has kept setting header h.journal.journal history history
        → Goes does (HandlesSo has kept) (SettlesSo has kept) c h later after (ServesAll rules result) → ServesJournal does has kept rules setting header history c h later after result
    serves_journal rules c later h after result stood goes = record {
      steps = goes.steps;
      serves = goes.holds;
      moments = at_moments rules c later h after result goes.steps stood goes.done goes.holds;
    }

  pub answers_journal : {R W : Type 0} (remaining : R → Option (List ℕ)) (contents : W → Option (List ℕ)) (was_read : R → Seen) (was_written : W → Seen) (room : W → Option ℕ) (pipe later : Pipe R W) (h after : JournalHandler F) (result : Served) → StandsForHistory has kept setting header h.journal.journal history history
      → Goes (PipeDoes remaining contents was_read was_written room) (HandlesSo has kept) (SettlesSo has kept) pipe h later after (AnswersOne (remaining pipe.reader) (remaining later.reader) (contents pipe.writer) (contents later.writer) pipe.departure later.departure result)
      → AnswersJournal remaining contents was_read was_written room has kept setting header history pipe h later after result
  answers_journal remaining contents was_read was_written room pipe later h after result stood goes = record {
    steps = goes.steps;
    one = goes.holds;
    moments = at_moments (PipeDoes remaining contents was_read was_written room) rules_of_one pipe later h after result goes.steps stood goes.done goes.holds.serves;
  }
