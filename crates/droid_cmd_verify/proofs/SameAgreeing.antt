-- A comparison by hashes that reports nothing found the list and the tree to agree.
use Rattle.std.proofs.Common.{◌≡◌, ◌∙◌, ◌==◌, ℕ, Bool, true, false, not, List, [], length, Option, refl, sym, ap, subst}
use Rattle.std.specs.Option.{is_some}
use Rattle.std.proofs.lemmas.Bool.{eqb-true}
use Rattle.std.proofs.lemmas.List.{nil_from_length}
use Rattle.droid_cmd_verify.specs.CheckedTrees.{ChecksTree, options_for}
use Rattle.droid_cmd_verify.specs.Findings.{AreFindings}
use Rattle.droid_tree.specs.Heard.{Heard}
use Rattle.droid_lists.specs.ListForms.{names_files_alone}
use Rattle.droid_tree.specs.Observation.{Observation}
use Rattle.droid_pronom.specs.Registry.{Contents}
use Rattle.droid_cmd_verify.specs.declared.finding.Finding.{Finding}
use Rattle.droid_cmd_verify.specs.declared.item_keeper.ItemKeeper.{ItemKeeper}
use Rattle.droid_cmd_verify.specs.declared.measure.Measure.{Measure}
use Rattle.droid_cmd_verify.specs.declared.measure.Measure.TheVariants.{Hashes}
use Rattle.droid_cmd_verify.specs.declared.tree_check.CheckFault.{CheckFault}
use Rattle.droid_cmd_verify.specs.declared.tree_check.CheckFault.TheVariants as faults
use Rattle.droid_cmd_verify.specs.declared.tree_check.Checked.{Checked}
use Rattle.droid_terminal.specs.declared.skipped.recorder.Recorder.{Recorder}
use Rattle.droid_profile.specs.declared.profiler.Profiler.{Profiler}
use Rattle.droid_profile.specs.declared.options.Options.{Options}
use Rattle.droid_cmd_verify.proofs.Agreeing.{agree, all_readable}
use Rattle.droid_cmd_verify.specs.Outcomes.{IsOutcome, WritesOutcome, changes_by}
use Rattle.droid_cmd_verify.specs.Verifications.{FindsAgreement, Finishes, Read, Reported, Unread, Unreported, VerifiesTree, without_report}
use Rattle.droid_cmd_verify.specs.VerifyEndings.{unchecked}
use Rattle.droid_cmd_verify.specs.declared.lists.ComparedList.{ComparedList}
use Rattle.droid_cmd_verify.specs.declared.outcome.Outcome.{Outcome}
use Rattle.droid_cmd_verify.specs.declared.verification.Verified.{Verified}
use Rattle.droid_cmd_verify.specs.declared.verify_ending.VerifyEnding.{VerifyEnding}
use Rattle.droid_cmd_verify.specs.declared.verify_ending.VerifyEnding.TheVariants.{Same, NoMemory}

not_false : (t : Bool) → not t ≡ false → t ≡ true
not_false true is = refl
not_false false is = absurd cc

-- what differs has a finding
no_finding : (findings : List Finding) → not (length findings == 0) ≡ false → findings ≡ []
no_finding findings none = nil_from_length findings (eqb-true (length findings) 0 (not_false (length findings == 0) none))

never_same : (ending other : VerifyEnding) → ending ≡ Same → ending ≡ other → other ≡ Same
never_same ending other same is = sym is ∙ same

memory_differs : NoMemory ≡ Same → ⊥
memory_differs is = cc

fault_differs : (fault : CheckFault) → unchecked fault ≡ Same → ⊥
fault_differs faults.Memory is = cc
fault_differs faults.Numbers is = cc
fault_differs (faults.Twice same) is = cc

module _ {T W O : Type 0} (observes : T → Observation → T → Type 0) (hears : W → Heard → W → Type 0) (contents : O → Option (List ℕ)) (registry : Contents) (options : Options) (lists : ComparedList)
    (old new : Profiler T (Recorder W) ItemKeeper) (before after : O) (verified : Verified) (same : verified.ending ≡ Same) (how : lists.how ≡ Hashes) where
  abbrev Checks : Checked → Type 0
  Checks checked = ChecksTree observes hears registry (options_for options lists.listed.hash) (names_files_alone lists.listed.form) (is_some lists.rows) lists.listed.items checked old new

  outcome_agrees : (checked : Checked) → Checks checked → (outcome : Outcome) → IsOutcome lists.how lists.rows new.recipient.formats.items checked new.watcher.skipped.items outcome
      → WritesOutcome (contents before) (contents after) outcome Same → FindsAgreement observes hears contents registry options lists old new
  outcome_agrees checked checks outcome is writes =
      let changes = changes_by lists.rows new.recipient.formats.items in
      let none : is.findings ≡ [] = no_finding is.findings (sym is.has.differs ∙ writes.1) in
      let by_hashes : AreFindings Hashes checked.listed checked.found checked.differences.items checked.files.items new.watcher.skipped.items changes is.findings =
      subst (λ (m : Measure). AreFindings m checked.listed checked.found checked.differences.items checked.files.items new.watcher.skipped.items changes is.findings) how is.are in
      let are : AreFindings Hashes checked.listed checked.found checked.differences.items checked.files.items new.watcher.skipped.items changes [] =
      subst (λ (fs : List Finding). AreFindings Hashes checked.listed checked.found checked.differences.items checked.files.items new.watcher.skipped.items changes fs) none by_hashes in
      record {
        checked = checked;
        checks = checks;
        all_readable = all_readable checked changes new.watcher are;
        agree = agree lists.listed.items _ checked changes checks.walked new.watcher checks.compares are;
      }

  finished_agrees : (checked : Checked) → Checks checked → Finishes contents lists.how lists.rows new.recipient.formats.items checked new.watcher.skipped.items before after verified
      → FindsAgreement observes hears contents registry options lists old new
  finished_agrees checked checks (Reported outcome is writes summary) =
      outcome_agrees checked checks outcome is (subst (λ (ending : VerifyEnding). WritesOutcome (contents before) (contents after) outcome ending) same writes)
  finished_agrees checked checks (Unreported none kept) = absurd (memory_differs (never_same verified.ending NoMemory same (ap (λ (v : Verified). v.ending) none)))

  pub verified_agrees : VerifiesTree observes hears contents registry options lists old new before after verified → FindsAgreement observes hears contents registry options lists old new
  verified_agrees (Read checked checks finishes) = finished_agrees checked checks finishes
  verified_agrees (Unread fault ends none kept) = absurd (fault_differs fault (never_same verified.ending (unchecked fault) same (ap (λ (v : Verified). v.ending) none)))
