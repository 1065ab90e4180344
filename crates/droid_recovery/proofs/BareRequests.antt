-- What comes of a piece and of the Finish of a bare file.
use Rattle.std.proofs.Common.{◌≡◌, ℕ, [], ◌∷◌, ◌++◌, Some, None, option_map, refl, sym, ap, subst, ◌∙◌, slice_get}
use Rattle.droid_recovery.proofs.BareEnds.{finishes_bare, piece_only_counted}
use Rattle.droid_recovery.specs.BareFiles.{FinishesBare}
use Rattle.droid_recovery.specs.BareWorlds.{Bare, bare_world}
use Rattle.droid_core.specs.Files.{OpenFiles, open_at}
use Rattle.droid_recovery.proofs.NextEntries.{goes_on, row_is}
use Rattle.droid_recovery.proofs.OneMore.{counted, finished}
use Rattle.droid_recovery.specs.Recovering.{IsBareFinish, IsBarePiece, Recovers}
use Rattle.droid_recovery.specs.Taking.{MayTake}
use Rattle.droid_core.proofs.Assembled.{IsWithout, assembly_of}
use Rattle.droid_core.proofs.Hashes.{kind_of_hash}
use Rattle.droid_core_spec.specs.Files.{Finding, bytes_of, finding_of, finished_reply}
use Rattle.droid_core_spec.specs.Histories.{Entry, History, world_of}
use Rattle.droid_core_spec.specs.Judging.{Accepted, judge}
use Rattle.droid_core_spec.specs.Setting.{Setting}
use Rattle.droid_core_spec.specs.World.{World, numbered}
use Rattle.droid_core.proofs.InPlace.{at_file}
use Rattle.droid_core.proofs.LookUps.{node_found, profile_found}
use Rattle.droid_core.specs.Changes.{stamped}
use Rattle.droid_core.specs.Replies.{entry_row}
use Rattle.droid_core.specs.Rows.{profile_row, stored, stored_in, with_finding}
use Rattle.droid_core.specs.HoldingsStanding.{IsIn}
use Rattle.droid_core.specs.declared.holdings.Holdings.{Holdings}
use Rattle.droid_core.specs.declared.stamps.Stamp.{Stamp}
use Rattle.droid_frame.specs.Replies.{HasReplySpelling}
use Rattle.droid_frame.specs.declared.reply.Reply.{Reply}
use Rattle.droid_frame.specs.declared.request.Request.{Request}
use Rattle.droid_store.specs.Changes.{with_reply}
use Rattle.droid_store.specs.declared.rows.Entry as rows
use Rattle.droid_store.specs.declared.rows.ProfileRow.{ProfileRow}
use Rattle.droid_store.specs.Rows as stores
use Rattle.droid_store.specs.Rows.{Rows}

module _ (setting : Setting) (bare : Bare) (old : Holdings) (history : History) (entry : Entry) (stamp : Stamp) (reply : Reply) (was : Recovers setting bare old history) (same_reply : reply ≡ entry.reply) where
  abbrev there : World
  there = bare_world bare (world_of setting history)

  module _ (is : IsBarePiece setting bare history entry stamp) where
    pub piece_recovered : (store : Rows) → HasReplySpelling stamp.version reply → store ≡ with_reply (stamped stamp reply) old.store → Recovers setting bare (record old { store = store }) (history ++ entry ∷ [])
    piece_recovered store spelled stored =
        let accepted = subst (λ (r : Request). judge setting (world_of setting history) entry.frame.version r ≡ Accepted entry.reply is.may.after) is.asks is.may.accepted in
        let after = piece_only_counted setting bare (world_of setting history) is.may.after entry.frame.version is.profile is.file is.index is.bytes entry.reply is.is_bare accepted in
        let row : stamped stamp reply ≡ entry_row entry = ap (stamped stamp) same_reply ∙ row_is setting history entry is.may stamp is.stamped in
        goes_on setting bare old (record old { store = store }) history entry is.may was
        (ap (λ (rows : Rows). rows.replies) stored ∙ ap (λ (row : rows.Entry). old.store.replies ++ row ∷ []) row)
        (subst (λ (s : Stamp). HasReplySpelling s.version entry.reply) is.stamped (subst (HasReplySpelling stamp.version) same_reply spelled))
        (subst (λ (w : World). IsIn setting w (record old { store = store })) (sym after) (counted setting there old store (stamped stamp reply) was.world stored))

  module _ (number id : ℕ) (is : IsBareFinish setting bare history entry stamp number id) where
    finishes : FinishesBare setting bare (world_of setting history) number id entry.reply is.may.after
    finishes =
        let accepted = subst (λ (r : Request). judge setting (world_of setting history) entry.frame.version r ≡ Accepted entry.reply is.may.after) is.asks is.may.accepted in
        finishes_bare setting bare (world_of setting history) is.may.after entry.frame.version number id entry.reply is.is_bare accepted

    -- what was found
    pub found_there : Finding
    found_there = finding_of setting finishes.its finishes.name finishes.content

    pub found_reply : reply ≡ finished_reply found_there
    unfolding found_there
    found_reply = same_reply ∙ finishes.replied

    pub has_assembly : (open_at number id old.files.files ≡ None) → ⊥
    has_assembly none =
        let its = assembly_of there old.files was.world.files number finishes.its id finishes.parent finishes.modified finishes.name (record finishes.content { pieces = [] }) finishes.there finishes.at finishes.unfinished in
        absurd (let it = sym none ∙ its.there in cc)

    pub may_take : MayTake number id found_there old.store
    unfolding found_there
    may_take = record {
      unfinished =
          ap (option_map (λ (n : stores.Node). n.state))
          (node_found setting there old.store number id was.world.rows.nodes
          ∙ ap (stored setting number id) finishes.there
          ∙ ap (stored_in setting number finishes.its id) (at_file (numbered finishes.its.nodes id) finishes.parent finishes.modified finishes.name (record finishes.content { pieces = [] }) finishes.at))
          ∙ (rw finishes.unfinished refl);
      kind =
          ap (option_map (λ (p : ProfileRow). p.hash)) (profile_found there old.store number was.world.rows.profiles ∙ ap (option_map profile_row) finishes.there)
          ∙ ap Some (sym (kind_of_hash finishes.its.hash (bytes_of finishes.content)));
      words = is.words found_there finishes.replied;
      short = was.world.rows.short;
    }

    pub finish_recovered : (store : Rows) (files : OpenFiles) (place : ℕ) → HasReplySpelling stamp.version reply
        → store ≡ with_reply (stamped stamp reply) (with_finding number id found_there old.store)
        → slice_get old.files.files place ≡ open_at number id old.files.files → IsWithout place old.files files
        → Recovers setting bare (record old { store = store; files = files }) (history ++ entry ∷ [])
    unfolding found_there
    finish_recovered store files place spelled stored_is at_place removed =
        let row : stamped stamp reply ≡ entry_row entry = ap (stamped stamp) same_reply ∙ row_is setting history entry is.may stamp is.stamped in
        goes_on setting bare old (record old { store = store; files = files }) history entry is.may was
        (ap (λ (rows : Rows). rows.replies) stored_is ∙ ap (λ (row : rows.Entry). old.store.replies ++ row ∷ []) row)
        (subst (λ (s : Stamp). HasReplySpelling s.version entry.reply) is.stamped (subst (HasReplySpelling stamp.version) same_reply spelled))
        (subst (λ (w : World). IsIn setting w (record old { store = store; files = files })) (sym finishes.left)
        (finished setting there old store files (stamped stamp reply) number finishes.its id finishes.parent finishes.modified finishes.name finishes.content place
        was.world finishes.there finishes.at finishes.unfinished stored_is at_place removed))
