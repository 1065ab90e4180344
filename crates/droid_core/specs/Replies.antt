-- The kept replies as rows.
use Rattle.std.specs.Prelude.{◌≡◌, map}
use Rattle.std.specs.List.{AllByRecursion}
use Rattle.droid_frame.specs.Replies.{HasReplySpelling, reply_kind, reply_bytes}
use Rattle.droid_frame.specs.Versions.{IsVersion}
use Rattle.droid_core_spec.specs.Histories.{Entry, History}
use Rattle.droid_store.specs.declared.rows.Entry as rows
use Rattle.droid_store.specs.Rows.{Rows}

-- the row of an entry: its client and number, its version and mark, and its reply as spelled in that version
abbrev pub entry_row : Entry → rows.Entry
entry_row entry = record {
  client = entry.frame.client;
  number = entry.frame.number;
  version = entry.frame.version;
  mark = entry.mark;
  kind = reply_kind entry.reply;
  body = reply_bytes entry.frame.version entry.reply;
}

-- the entry has a version that there is, and its reply has a spelling in it
pub record IsSpelled (entry : Entry) : Type 0 where
  pub version : IsVersion entry.frame.version
  pub reply : HasReplySpelling entry.frame.version entry.reply

-- the reply rows are those of the entries, in order, and each reply has a spelling
pub record KeepsReplies (history : History) (rows : Rows) : Type 0 where
  pub replies : rows.replies ≡ map entry_row history
  pub spelled : AllByRecursion IsSpelled history
