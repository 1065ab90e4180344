-- One reply more among the kept ones.
use Rattle.std.proofs.Common.{◌≡◌, List, [], ◌∷◌, ◌++◌, sym, ap, ◌∙◌}
use Rattle.std.proofs.lemmas.List.{map_push}
use Rattle.droid_core_spec.specs.Histories.{Entry, History}
use Rattle.droid_store.specs.declared.rows.Entry as stores
use Rattle.droid_store.specs.Rows.{Rows}
use Rattle.droid_core.specs.Replies.{entry_row, IsSpelled, KeepsReplies}
use Rattle.droid_core_spec.proofs.Each.{each_with_one_more}

pub kept_one_more : (history : History) (entry : Entry) (old new : Rows) → KeepsReplies history old → new.replies ≡ old.replies ++ entry_row entry ∷ [] → IsSpelled entry
    → KeepsReplies (history ++ entry ∷ []) new
kept_one_more history entry old new keeps one spelled = record {
  replies = one ∙ ap (λ (rows : List stores.Entry). rows ++ entry_row entry ∷ []) keeps.replies ∙ sym (map_push entry_row history entry);
  spelled = each_with_one_more IsSpelled history entry keeps.spelled spelled;
}
