-- An opened journal whose machine was exchanged.
use Rattle.std.proofs.Common.{◌≡◌, ℕ, Bool, List, ◌++◌, sym, subst, ◌∙◌}
use Rattle.droid_journal.specs.Chains.{journal_bytes}
use Rattle.droid_journal.specs.Records.{Record}
use Rattle.droid_journal.specs.Opening.{IsReady}
use Rattle.droid_journal.specs.Standing.{ahead_bytes}
use Rattle.droid_journal.specs.declared.start.Opened.{Opened}

pub ready_with : {F M N : Type 0} (has : F → List ℕ → Type 0) (kept : F → List ℕ) (before : M → List Record → Type 0) (stands : N → List Record → Type 0) (header : List ℕ) (file : F) (old : Opened M) (new : Opened N) (its : List Record)
    → new.key ≡ old.key → new.place ≡ old.place → new.ahead ≡ old.ahead → stands new.machine its → IsReady has kept before header file old its → IsReady has kept stands header file new its
ready_with has kept before stands header file old new its key place ahead machine ready = record {
  machine = machine;
  file_is = subst (λ (b : Bool). has file (journal_bytes header its ++ ahead_bytes header its b)) (sym ahead) ready.file_is;
  on_disk = ready.on_disk;
  key = key ∙ ready.key;
  place = place ∙ ready.place;
  begins = λ is. ready.begins (sym ahead ∙ is);
  fit = ready.fit;
}
