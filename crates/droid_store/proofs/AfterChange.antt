-- After a change no two rows have one key, and all rows can be read.
use Rattle.std.proofs.Common.{◌≡◌, ℕ, None, IsUtf8, subst}
use Rattle.droid_store.specs.declared.change.Change.{Change}
use Rattle.droid_store.specs.declared.change.Change.TheVariants as changes
use Rattle.droid_store.specs.declared.rows.Entry.{Entry}
use Rattle.droid_store.specs.Changes.{with_reply}
use Rattle.droid_store.specs.CommandChanges.{changed, IsInTurn, IsWritable}
use Rattle.droid_store.specs.Encoded.{words_of}
use Rattle.droid_store.specs.Kept.{AreApart}
use Rattle.droid_store.specs.Nodes.{node_of}
use Rattle.droid_store.specs.Ranges.{AreReadable}
use Rattle.droid_store.specs.Rows.{Rows, reply_for}
use Rattle.droid_store.proofs.ApartAfter.{apart_with_reply, apart_with_profile, apart_with_node, apart_with_finished, apart_without_node}
use Rattle.droid_store.proofs.ReadableAfter.{readable_with_profile, readable_with_node, readable_with_finished, readable_without_node}

pub apart_changed : (change : Change) (rows : Rows) → IsInTurn change rows → AreApart rows → AreApart (changed change rows)
apart_changed changes.Reply rows turn apart = apart
apart_changed (changes.Profile profile scan_limit match_all hash) rows turn apart = apart_with_profile scan_limit match_all hash rows apart
apart_changed (changes.Node node modified) rows turn apart = apart_with_node (node_of node modified) rows turn.0 turn.1 apart
apart_changed (changes.Finish profile file f) rows turn apart = apart_with_finished profile file f.method f.mismatch f.hash (words_of f.formats.now) rows apart
apart_changed (changes.Abandon profile file) rows turn apart = apart_without_node profile file rows apart

pub readable_changed : (change : Change) (rows : Rows) → IsWritable change → AreReadable rows → AreReadable (changed change rows)
readable_changed changes.Reply rows writable all = all
readable_changed (changes.Profile profile scan_limit match_all hash) rows writable all = readable_with_profile scan_limit match_all hash rows writable all
readable_changed (changes.Node node modified) rows writable all = readable_with_node (node_of node modified) rows writable.1 all
readable_changed (changes.Finish profile file f) rows writable all =
    readable_with_finished profile file f.method f.mismatch f.hash (words_of f.formats.now) writable.3 (subst IsUtf8 writable.1 writable.2) rows all
readable_changed (changes.Abandon profile file) rows writable all = readable_without_node profile file rows all

-- a change keeps the replies, so a number that is new stays new
new_still : (change : Change) (client number : ℕ) (rows : Rows) → reply_for client number rows ≡ None → reply_for client number (changed change rows) ≡ None
new_still changes.Reply client number rows new = new
new_still (changes.Profile profile scan_limit match_all hash) client number rows new = new
new_still (changes.Node node modified) client number rows new = new
new_still (changes.Finish profile file f) client number rows new = new
new_still (changes.Abandon profile file) client number rows new = new

pub apart_with_both : (change : Change) (e : Entry) (rows : Rows) → IsInTurn change rows → reply_for e.client e.number rows ≡ None → AreApart rows → AreApart (with_reply e (changed change rows))
apart_with_both change e rows turn new apart = apart_with_reply e (changed change rows) (new_still change e.client e.number rows new) (apart_changed change rows turn apart)
