-- A service and its journal, call by call.
use Rattle.std.proofs.Common.{◌≡◌, ◌⊎◌, ℕ, Bool, true, false, Option, Some, None, IsSome, List, [], ◌∷◌, ◌++◌, refl, sym, subst, ◌∙◌, inl, inr}
use Rattle.std.specs.Prelude.{MatchBool}
use Rattle.droid_frame.specs.declared.frame.Frame.{Frame}
use Rattle.droid_frame.specs.declared.reply.Reply.{Reply}
use Rattle.droid_core_spec.specs.Histories.{Handles, History, answer, command, next}
use Rattle.droid_core_spec.specs.MemoryFaults.{is_out_of_memory}
use Rattle.droid_core_spec.specs.Setting.{Setting}
use Rattle.droid_journal.specs.Machines.{Answers, extended, record_of}
use Rattle.droid_journal.specs.Standing.{Keeps, Stands, WroteOne}
use Rattle.droid_journal.specs.declared.journal.Journal.{Journal}
use Rattle.droid_journal.specs.Records.{Record}
use Rattle.droid_journal.proofs.Chains.{front_fit}
use Rattle.droid_wire.specs.Histories.{Base, GivesNew, GivesReply, IsHistoryBehind, StandsForRecords, history_then}
use Rattle.droid_wire.specs.Standing.{AnswersIn, IsNextOr, KeepsHistory, StandsForHistory}
use Rattle.droid_wire.specs.declared.service_machine.ServiceMachine.{ServiceMachine}
use Rattle.droid_wire.proofs.HistoryLaws.{one_history, records_then}

by_memory : (A B : Type 0) (P Q : History → Type 0) (b : Bool) (here there : History) → ((after : History) → P after → Q after) → MatchBool b (A × P here) (B × P there) → MatchBool b (A × Q here) (B × Q there)
by_memory A B P Q true here there more handled = (handled.0, more here handled.1)
by_memory A B P Q false here there more handled = (handled.0, more there handled.1)

none_or_some : {A : Type 0} (o : Option A) → (o ≡ None) ⊎ IsSome o
none_or_some None = inl refl
none_or_some (Some x) = inr refl

next_or : (setting : Setting) (history : History) (frame : Frame) (accepted : Bool) → IsNextOr setting history frame (history_then setting history frame accepted)
next_or setting history frame true = inr refl
next_or setting history frame false = inl refl

module _ {F : Type 0} (has : F → List ℕ → Type 0) (kept : F → List ℕ) (setting : Setting) (header : List ℕ) where
  abbrev OfRecords : Base setting → ServiceMachine → List Record → Type 0
  OfRecords base machine its = StandsForRecords setting base machine.service its

  -- what a reply says of the records says of the history
  gives_in : (base : Base setting) (records : List Record) (all : History) (frame : Frame) (reply : Reply) (accepted : Bool) → IsHistoryBehind setting base records all → GivesReply setting base records frame reply accepted
      → Handles setting all frame reply (λ after. after ≡ history_then setting all frame accepted) × (accepted ≡ true → reply ≡ answer setting all frame)
  gives_in base records all frame reply accepted its gives =
      let same : gives.history ≡ all = one_history setting base records gives.history all gives.its its in (
        subst (λ (h : History). Handles setting h frame reply (λ after. after ≡ history_then setting h frame accepted)) same gives.handled,
        subst (λ (h : History). accepted ≡ true → reply ≡ answer setting h frame) same gives.answered,
      )

  pub answers_in : (old new : Journal F ServiceMachine) (synced all : History) (frame : Frame) (reply : Reply) (first accepted : Bool) → (stood : StandsForHistory has kept setting header old synced all)
      → Answers (GivesNew setting stood.base) stood.records frame reply accepted → Stands has kept (OfRecords stood.base) header new stood.first (extended stood.records first frame reply accepted)
      → AnswersIn setting all frame reply (StandsForHistory has kept setting header new synced)
  answers_in old new synced all frame reply first accepted stood (inl gives) stands =
      let said = gives_in stood.base stood.records all frame reply accepted stood.accepted gives.gives in
      inl (by_memory (IsSome (command frame)) (reply ≡ answer setting all frame) (λ after. after ≡ history_then setting all frame accepted) (StandsForHistory has kept setting header new synced) (is_out_of_memory reply) all (next setting all frame) (λ after is. record {
        base = stood.base;
        first = stood.first;
        records = extended stood.records first frame reply accepted;
        stands = stands;
        on_disk = stood.on_disk;
        accepted = subst (IsHistoryBehind setting stood.base (extended stood.records first frame reply accepted)) (sym is) (records_then setting stood.base stood.records first all frame reply accepted gives.gives.readable gives.gives.spelled stood.accepted said.1 gives.gives.command gives.gives.unrefused);
      }) said.0)
  answers_in old new synced all frame reply first accepted stood (inr other) stands =
      inr (
        other.1,
        record {
          base = stood.base;
          first = stood.first;
          records = stood.records;
          stands = subst (λ (b : Bool). Stands has kept (OfRecords stood.base) header new stood.first (extended stood.records first frame reply b)) other.0 stands;
          on_disk = stood.on_disk;
          accepted = stood.accepted;
        },
      )

  keeps_these : (base : Base setting) (journal : Journal F ServiceMachine) (first records : List Record) → Stands has kept (OfRecords base) header journal first records → Keeps kept header journal.file first records
  keeps_these base journal first records stands = record {
    on_disk = stands.on_disk;
    turn = stands.turn;
    fit = front_fit first records (stands.turn.turn, stands.turn.parts) stands.fit;
  }

  pub keeps_history : (journal : Journal F ServiceMachine) (synced all : History) → (stood : StandsForHistory has kept setting header journal synced all) → KeepsHistory kept setting header journal.file stood.records synced all
  keeps_history journal synced all stood = record {
    base = stood.base;
    first = stood.first;
    keeps = keeps_these stood.base journal stood.first stood.records stood.stands;
    on_disk = stood.on_disk;
    accepted = stood.accepted;
  }

  pub settled_in : (old new : Journal F ServiceMachine) (synced all : History) → (stood : StandsForHistory has kept setting header old synced all) → Stands has kept (OfRecords stood.base) header new stood.records stood.records
      → StandsForHistory has kept setting header new all all
  settled_in old new synced all stood stands = record { base = stood.base; first = stood.records; records = stood.records; stands = stands; on_disk = stood.accepted; accepted = stood.accepted }

  module _ (old new : Journal F ServiceMachine) (synced all : History) (frame : Frame) (reply : Reply) (stood : StandsForHistory has kept setting header old synced all) where
    abbrev pub Kept : Type 0
    Kept = (written : List Record) × (after : History) × IsNextOr setting all frame after × KeepsHistory kept setting header new.file written synced after

    by_answer : (first accepted : Bool) → Answers (GivesNew setting stood.base) stood.records frame reply accepted → Stands has kept (OfRecords stood.base) header new stood.first (extended stood.records first frame reply accepted) → Kept
    by_answer first accepted (inl gives) stands =
        let said = gives_in stood.base stood.records all frame reply accepted stood.accepted gives.gives in (
          extended stood.records first frame reply accepted,
          history_then setting all frame accepted,
          next_or setting all frame accepted,
          record {
            base = stood.base;
            first = stood.first;
            keeps = keeps_these stood.base new stood.first (extended stood.records first frame reply accepted) stands;
            on_disk = stood.on_disk;
            accepted = records_then setting stood.base stood.records first all frame reply accepted gives.gives.readable gives.gives.spelled stood.accepted said.1 gives.gives.command gives.gives.unrefused;
          },
        )
    by_answer first accepted (inr other) stands = (
      stood.records,
      all,
      inl refl,
      record {
        base = stood.base;
        first = stood.first;
        keeps = keeps_these stood.base new stood.first stood.records (subst (λ (b : Bool). Stands has kept (OfRecords stood.base) header new stood.first (extended stood.records first frame reply b)) other.0 stands);
        on_disk = stood.on_disk;
        accepted = stood.accepted;
      },
    )

    by_part : kept new.file ≡ kept old.file → (wrote : WroteOne has (GivesNew setting stood.base) header new.file stood.first stood.records frame) → Kept
    by_part same wrote =
        let one = wrote.which in
        let gives = one.2.gives in
        let said = gives_in stood.base stood.records all frame one.1 true stood.accepted gives in
        let more : IsHistoryBehind setting stood.base (stood.records ++ record_of one.0 frame one.1 ∷ []) (next setting all frame) = records_then setting stood.base stood.records one.0 all frame one.1 true gives.readable gives.spelled stood.accepted said.1 gives.command gives.unrefused in (
          wrote.written,
          next setting all frame,
          inr refl,
          record {
            base = stood.base;
            first = stood.first;
            keeps = record {
              on_disk = (stood.stands.on_disk.0, same ∙ stood.stands.on_disk.1);
              turn = wrote.turn;
              fit = front_fit stood.first stood.records (stood.stands.turn.turn, stood.stands.turn.parts) stood.stands.fit;
            };
            on_disk = stood.on_disk;
            accepted = subst (λ (its : List Record). IsHistoryBehind setting stood.base its (next setting all frame)) (sym one.3) more;
          },
        )

    pub kept_after : kept new.file ≡ kept old.file → (IsSome old.fault → new.file ≡ old.file)
        → (new.fault ≡ None → (first : Bool) × (accepted : Bool) × Answers (GivesNew setting stood.base) stood.records frame reply accepted × Stands has kept (OfRecords stood.base) header new stood.first (extended stood.records first frame reply accepted))
        → (old.fault ≡ None → IsSome new.fault → WroteOne has (GivesNew setting stood.base) header new.file stood.first stood.records frame) → Kept
    kept_after same closed handled part =
        elim (none_or_some old.fault) [
          | inr some ↦ (
            stood.records,
            all,
            inl refl,
            subst (λ (file : F). KeepsHistory kept setting header file stood.records synced all) (sym (closed some)) (keeps_history old synced all stood),
          )
          | inl none_before ↦
              elim (none_or_some new.fault) [
                | inl none ↦ let h = handled none in by_answer h.0 h.1 h.2 h.3
                | inr some ↦ by_part same (part none_before some)
              ]
        ]
