-- How a walk is counted (this project's own).
use Rattle.std.specs.Prelude.{◌≡◌, ℕ, ◌+◌, ◌≤◌, max, Bool, true, false, List, [], String, count_by, unwrap_or, bytes_eq}
use Rattle.std.specs.Prelude.{◌==◌, if◌then◌else◌}
use Rattle.std.specs.BTreeMap.{BTreeMap, btree_map_len, get_by_text}
use Rattle.droid_frame.specs.declared.method.Method.{Method}
use Rattle.droid_frame.specs.declared.method.Method.TheVariants.{Unidentified, Signature, Extension}
use Rattle.droid_frame.specs.declared.reply.Reply.{Reply}
use Rattle.droid_frame.specs.declared.reply.Reply.TheVariants as replies
use Rattle.droid_tree.specs.Heard.{Heard, Left, Held, TookBytes, TookFolder, TookFile}
use Rattle.droid_tree.specs.declared.skip_reason.Skipped.{Skipped}
use Rattle.droid_tree.specs.declared.skip_reason.Skipped.TheVariants as reasons
use Rattle.droid_terminal.specs.Units.{saturated}
use Rattle.droid_terminal.specs.declared.estimate.Amount.{Amount}
use Rattle.droid_terminal.specs.declared.counts.Counts.{Counts}
use Rattle.droid_terminal.specs.declared.totals.Totals.{Totals}

-- one more
abbrev pub next : ℕ → ℕ
next n = saturated (n + 1)

-- whether it was skipped as a symbolic link
abbrev pub is_link : Skipped → Bool
is_link reasons.Link = true
is_link _ = false

-- one more folder or file in the profile
abbrev pub after_taken : Counts → Counts
after_taken counts = record counts { taken = next counts.taken }

-- one more skipped entry, which may be a symbolic link
abbrev pub after_skipped : Skipped → Counts → Counts
after_skipped why counts =
    record counts { skipped = next counts.skipped; links = (if is_link why then next counts.links else counts.links) }

-- more bytes were read
abbrev pub after_bytes : ℕ → Counts → Counts
after_bytes n counts = record counts { bytes = saturated (counts.bytes + n) }

-- more bytes that the service already held
abbrev pub after_held : ℕ → Counts → Counts
after_held n counts = record counts { held = saturated (counts.held + n) }

-- one more file identified by this method
abbrev pub after_method : Method → Counts → Counts
after_method Signature counts = record counts { by_signature = next counts.by_signature }
after_method Extension counts = record counts { by_extension = next counts.by_extension }
after_method Unidentified counts = record counts { unidentified = next counts.unidentified }

-- one more file with an extension that does not belong to its format, if so
abbrev pub after_mismatch : Bool → Counts → Counts
after_mismatch mismatch counts =
    record counts { mismatches = (if mismatch then next counts.mismatches else counts.mismatches) }

-- a file was finished with this reply
abbrev pub after_found : Reply → Counts → Counts
after_found (replies.Finished method mismatch hash puids) counts = after_mismatch mismatch (after_method method counts)
after_found other counts = counts

-- the watcher was informed of this
abbrev pub after_heard : Heard → Counts → Counts
after_heard (Left path why) counts = after_skipped why counts
after_heard (Held path count) counts = after_held count counts
after_heard (TookBytes path count) counts = after_bytes count counts
after_heard (TookFolder path) counts = after_taken counts
after_heard (TookFile path found) counts = after_found found (after_taken counts)

-- how much is done; bytes that the service already held count as done
abbrev pub done_in : Counts → Amount
done_in counts =
    record { entries = saturated (counts.taken + counts.skipped); bytes = saturated (counts.bytes + counts.held) }

-- how many files have this format
abbrev pub count_in : {Y : Type 0} → BTreeMap (String Y) ℕ → List ℕ → ℕ
count_in formats puid = unwrap_or (get_by_text formats puid) 0

-- a count after `more` more
abbrev pub with_more : ℕ → ℕ → ℕ
with_more n more = if more == 0 then n else saturated (n + more)

-- the formats in the reply
abbrev pub puids_of : Reply → List (List ℕ)
puids_of (replies.Finished method mismatch hash puids) = puids
puids_of other = []

-- the formats of a file that the watcher learned
abbrev pub puids_in : Heard → List (List ℕ)
puids_in (TookFile path found) = puids_of found
puids_in other = []

-- each of these formats is counted as often as it is in the list
abbrev pub CountsFormats : {Y : Type 0} → List (List ℕ) → BTreeMap (String Y) ℕ → BTreeMap (String Y) ℕ → Type 0
CountsFormats puids before after =
    (format : List ℕ)
    → count_in after format ≡ with_more (count_in before format) (count_by (λ puid. bytes_eq puid format) puids)

-- If all formats are counted now, they were before, and those heard since are.
abbrev pub KeepsFormats : List (List ℕ) → Totals → Totals → Type 0
KeepsFormats puids before after =
    after.has_all_formats ≡ true → (before.has_all_formats ≡ true) × CountsFormats puids before.formats after.formats

-- there are no more formats than a registry has, whatever was heard
abbrev pub HasFew : {Y : Type 0} → BTreeMap (String Y) ℕ → BTreeMap (String Y) ℕ → Type 0
HasFew before after = btree_map_len after ≤ max 4096 (btree_map_len before)

-- what was heard is counted
pub record Hears (before : Totals) (heard : Heard) (after : Totals) : Type 0 where
  pub counts : after.counts ≡ after_heard heard before.counts
  pub formats : KeepsFormats (puids_in heard) before after
  pub few : HasFew before.formats after.formats
