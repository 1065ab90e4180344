-- The fault that is noted through the steps of a loop: one of writing, if any.
use Rattle.std.proofs.Common.{ℕ, Bool, true, false, Option, List, [], ◌∷◌, refl, sym, subst}
use Rattle.droid_journal.specs.Faults.{MayBeOfWriting}
use Rattle.droid_journal.specs.declared.journal_fault.Fault.{Fault}
use Rattle.droid_journal.specs.declared.journal.Journal.{Journal}
use Rattle.droid_wire.specs.declared.service_machine.ServiceMachine.{ServiceMachine}
use Rattle.droid_turns.specs.Chains.{GoesOver}
use Rattle.droid_turns.specs.Events.{Event}
use Rattle.droid_turns.specs.Steps.{Does, Handles, Happens, Settles, Step}
use Rattle.droid_wire.specs.Handling.{HandlesSo, SettlesIn, SettlesSo}
use Rattle.droid_wire.specs.declared.journal_handler.JournalHandler.{JournalHandler}

module _ {F : Type 0} (has : F → List ℕ → Type 0) (kept : F → List ℕ) where
  settled_so : (done : Bool) (old new : Journal F ServiceMachine) (was noted : Option Fault) → SettlesIn has kept old done new was noted → MayBeOfWriting old.fault → MayBeOfWriting was → MayBeOfWriting noted
  settled_so true old new was noted did its before = subst MayBeOfWriting (sym (did.still refl)) before
  settled_so false old new was noted did its before = subst MayBeOfWriting (did.reported refl) (did.writing its)

  pub writing_stays : {C : Type 0} (does : C → Event → C → Type 0) (steps : List Step) (c later : C) (h after : JournalHandler F) → GoesOver (Does does (HandlesSo has kept) (SettlesSo has kept)) (c, h) steps (later, after)
      → MayBeOfWriting h.journal.journal.fault → MayBeOfWriting h.fault → MayBeOfWriting after.fault
  writing_stays {C} does [] c later h after over its noted = subst (λ (pair : C × JournalHandler F). MayBeOfWriting pair.1.fault) (sym over) noted
  writing_stays {C} does (Happens event ∷ steps) c later h after over its noted =
      writing_stays does steps over.0.0 later over.0.1 after over.2 (subst (λ (x : JournalHandler F). MayBeOfWriting x.journal.journal.fault) (sym over.1.1) its) (subst (λ (x : JournalHandler F). MayBeOfWriting x.fault) (sym over.1.1) noted)
  writing_stays {C} does (Handles id frame reply ∷ steps) c later h after over its noted =
      writing_stays does steps over.0.0 later over.0.1 after over.2 (over.1.1.writing its) (subst MayBeOfWriting (sym over.1.1.unnoted) noted)
  writing_stays {C} does (Settles done ∷ steps) c later h after over its noted =
      writing_stays does steps over.0.0 later over.0.1 after over.2 (over.1.1.writing its)
      (settled_so done h.journal.journal over.0.1.journal.journal h.fault over.0.1.fault over.1.1 its noted)
