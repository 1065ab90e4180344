-- A request that came again gets the reply that is kept.
use Rattle.std.proofs.Common.{◌≡◌, Bool, true, false, Option, Some, None, option_map, refl, sym, ap, ◌∙◌}
use Rattle.std.specs.Prelude.{MatchBool, ⊤}
use Rattle.droid_frame.specs.Replies.{SpellsReply}
use Rattle.droid_frame.specs.declared.reply.Reply.{Reply}
use Rattle.droid_recovery.specs.BareWorlds.{Bare}
use Rattle.droid_recovery.specs.Recovering.{Recovers}
use Rattle.droid_core_spec.proofs.Each.{each_found}
use Rattle.droid_core_spec.specs.Histories.{Entry, History, is_same_request, is_under, kept}
use Rattle.droid_core_spec.specs.MemoryFaults.{is_out_of_memory}
use Rattle.droid_core_spec.specs.Setting.{Setting}
use Rattle.droid_core.proofs.LookUps.{reply_found}
use Rattle.droid_core.specs.Changes.{again}
use Rattle.droid_core.specs.Replies.{IsSpelled, entry_row}
use Rattle.droid_core.specs.declared.holdings.Holdings.{Holdings}
use Rattle.droid_core.specs.declared.stamps.Stamp.{Stamp}
use Rattle.droid_store.specs.declared.rows.Entry as rows
use Rattle.droid_store.specs.Rows.{reply_for}

some_is : {A : Type 0} {one other : A} → Some one ≡ Some other → one ≡ other
some_is e = cc

pub some_isnt : {A : Type 0} (x : A) (o : Option A) → Some x ≡ o → o ≡ None → ⊥
some_isnt x o found none = absurd (let it = found ∙ none in cc)

not_memory : (b : Bool) {P : Type 0} → MatchBool b ⊤ P → b ≡ false → P
not_memory true came isnt = absurd cc
not_memory false came isnt = came

module _ (setting : Setting) (bare : Bare) (holdings : Holdings) (history : History) (entry : Entry) (stamp : Stamp) (was : Recovers setting bare holdings history) (there : kept history stamp.client stamp.number ≡ Some entry) where
  pub row_there : reply_for stamp.client stamp.number holdings.store ≡ Some (entry_row entry)
  row_there = reply_found history holdings.store stamp.client stamp.number was.replies ∙ ap (option_map entry_row) there

  spelled_there : IsSpelled entry
  spelled_there = each_found IsSpelled (is_under stamp.client stamp.number) history entry was.replies.spelled there

  spells_there : SpellsReply (entry_row entry).version (entry_row entry).kind (entry_row entry).body entry.reply
  spells_there = record { version_is = spelled_there.version; kind_is = refl; body_is = refl; has_spelling = spelled_there.reply }

  pub none_there : (row : Option rows.Entry) → row ≡ reply_for stamp.client stamp.number holdings.store → row ≡ None → ⊥
  none_there row found none = absurd (let it = sym found ∙ none in let that = row_there in cc)

  pub answered_again : (row : rows.Entry) (reply : Reply) → Some row ≡ reply_for stamp.client stamp.number holdings.store → is_same_request entry.frame.version entry.mark stamp.version stamp.mark ≡ true
      → ((its : Reply) → SpellsReply row.version row.kind row.body its → MatchBool (is_out_of_memory reply) ⊤ (reply ≡ again row stamp its)) → is_out_of_memory reply ≡ false → reply ≡ entry.reply
  answered_again row reply found same kept_reply isnt =
      let row_is : row ≡ entry_row entry = some_is (found ∙ row_there) in
      not_memory (is_out_of_memory reply) (kept_reply entry.reply (rw row_is spells_there)) isnt ∙ (rw (row_is, same) refl)
