-- What handling a record's frame comes to.
use Rattle.std.proofs.Common.{◌≡◌, ℕ, ◌+◌, ◌<◌, ◌^◌, Bool, true, false, [], ◌∷◌, ◌++◌, Option, Some, None, refl, sym, ap, subst, ◌∙◌, arith}
use Rattle.std.specs.Prelude.{MatchBool}
use Rattle.droid_frame.specs.Bodies.{SpellsRequest}
use Rattle.droid_frame.specs.Replies.{HasReplySpelling, is_refused, reply_kind}
use Rattle.droid_frame.specs.Streams.{IsReadable}
use Rattle.droid_frame.specs.declared.frame.Frame.{Frame}
use Rattle.droid_frame.specs.declared.reply.Reply.{Reply}
use Rattle.droid_frame.specs.declared.reply.Reply.TheVariants.{Refused}
use Rattle.droid_frame.specs.declared.request.Request.{Request}
use Rattle.droid_core_spec.specs.Histories.{Entry, History, command, is_same_request, kept}
use Rattle.droid_core_spec.specs.MemoryFaults.{is_out_of_memory}
use Rattle.droid_core_spec.specs.Setting.{Setting}
use Rattle.droid_core_spec.proofs.Asked.{asked, asks}
use Rattle.droid_recovery.specs.BareWorlds.{Bare}
use Rattle.droid_core.specs.Changes.{stamp_of}
use Rattle.droid_recovery.specs.FoundWords.{FindsWords}
use Rattle.droid_recovery.specs.Recovering.{IsWhole, Recovers}
use Rattle.droid_core.specs.declared.holdings.Holdings.{Holdings}
use Rattle.droid_core.specs.declared.stamps.Stamp.{Stamp}
use Rattle.droid_recovery.proofs.KeptFrames.{small_kind, whole_here}
use Rattle.droid_recovery.specs.BareRecords.{CameAgain, MayBeKept, kept_frame}
use Rattle.droid_recovery.specs.RecordTaking.{Takes}

pub contrary : (b : Bool) → b ≡ true → b ≡ false → ⊥
contrary b is isnt = cc

pub refused_memory : (reply : Reply) → is_out_of_memory reply ≡ true → is_refused reply ≡ true
refused_memory (Refused refusal) is = refl
refused_memory _ is = absurd cc

pub taken_unrefused : (reply : Reply) → reply_kind reply ≡ 131 → is_refused reply ≡ true → ⊥
taken_unrefused (Refused refusal) kind is = absurd (omega (arith, kind))
taken_unrefused _ kind is = absurd cc

pub finished_unrefused : (reply : Reply) → reply_kind reply ≡ 132 → is_refused reply ≡ true → ⊥
finished_unrefused (Refused refusal) kind is = absurd (omega (arith, kind))
finished_unrefused _ kind is = absurd cc

-- the answer of a case split over memory, where it did not run out
not_memory : (b : Bool) (P Q : Type 0) → MatchBool b P Q → b ≡ false → Q
not_memory true P Q came isnt = absurd cc
not_memory false P Q came isnt = came

some_is : {A : Type 0} {one other : A} → Some one ≡ Some other → one ≡ other
some_is e = cc

none_some : {A : Type 0} (o : Option A) (x : A) → o ≡ None → o ≡ Some x → ⊥
none_some o x none some = absurd (let it = sym none ∙ some in cc)

-- ---- nothing changed

-- the frame is of an entry that may come next
abbrev pub IsNextFrame : Frame → Setting → Bare → History → Entry → Type 0
IsNextFrame frame setting bare history entry = (kept : MayBeKept setting history entry) × (frame ≡ kept_frame bare kept.may.request entry.frame entry.reply)

pub unchanged_takes : (frame : Frame) (holdings : Holdings) (reply : Reply) → HasReplySpelling frame.version reply
    → ((setting : Setting) (bare : Bare) (history : History) (entry : Entry) → FindsWords setting → Recovers setting bare holdings history → IsNextFrame frame setting bare history entry → is_out_of_memory reply ≡ true)
    → ((history : History) (entry : Entry) → CameAgain history frame entry → is_out_of_memory reply ≡ true) → Takes frame holdings holdings reply
unchanged_takes frame holdings reply spelled first repeat = record {
  gives = λ setting bare history entry words was kept same isnt. absurd (contrary (is_out_of_memory reply) (first setting bare history entry words was (kept, same)) isnt);
  again = λ setting bare history entry was came. (λ isnt. absurd (contrary (is_out_of_memory reply) (repeat history entry came) isnt), was);
  still = λ setting bare history was refused. was;
  spelled = spelled;
}

-- ---- a whole request

module _ (frame : Frame) (no_piece : frame.kind ≡ 68 → ⊥) (no_finish : frame.kind ≡ 69 → ⊥) where
  -- one that asks nothing is none of a record
  asked_first : (setting : Setting) (bare : Bare) (history : History) (entry : Entry) → command frame ≡ None → IsNextFrame frame setting bare history entry → ⊥
  asked_first setting bare history entry none is =
      let here = whole_here setting bare history entry is.0 frame is.1 no_piece no_finish in
      none_some (command frame) is.0.may.request none (ap command here.1 ∙ is.0.may.asked)

  pub malformed_takes : (holdings : Holdings) (reply : Reply) → HasReplySpelling frame.version reply → command frame ≡ None → Takes frame holdings holdings reply
  malformed_takes holdings reply spelled none =
      unchanged_takes frame holdings reply spelled
      (λ setting bare history entry words was is. absurd (asked_first setting bare history entry none is))
      (λ history entry came. absurd (none_some (command frame) came.request none came.asked))

  module _ (request : Request) (stamp : Stamp) (small : frame.number < 2 ^ 63) (spells : SpellsRequest frame.version frame.kind frame.body request) (stamped : stamp ≡ stamp_of frame) (old new : Holdings) (reply : Reply) where
    pub whole_takes :
        ((setting : Setting) (bare : Bare) (history : History) (entry : Entry) → Recovers setting bare old history → (is : IsWhole setting bare history entry stamp) → is.may.request ≡ request
        → MatchBool (is_out_of_memory reply) (Recovers setting bare new history) ((reply ≡ entry.reply) × Recovers setting bare new (history ++ entry ∷ [])))
        → ((setting : Setting) (bare : Bare) (history : History) (entry : Entry) → Recovers setting bare old history → stamp.number < 2 ^ 63 → kept history stamp.client stamp.number ≡ Some entry
        → is_same_request entry.frame.version entry.mark stamp.version stamp.mark ≡ true → (is_out_of_memory reply ≡ false → reply ≡ entry.reply) × Recovers setting bare new history)
        → ((setting : Setting) (bare : Bare) (history : History) → Recovers setting bare old history → is_refused reply ≡ true → Recovers setting bare new history)
        → HasReplySpelling stamp.version reply → Takes frame old new reply
    whole_takes first repeat still spelled = record {
      gives = λ setting bare history entry words was may same isnt.
          let here = whole_here setting bare history entry may frame same no_piece no_finish in
          let is : IsWhole setting bare history entry stamp = record { may = may.may; needs_none = here.0; stamped = stamped ∙ ap stamp_of here.1 } in
          let its : may.may.request ≡ request = some_is (sym may.may.asked ∙ ap command (sym here.1) ∙ asked frame request small spells) in
          not_memory (is_out_of_memory reply) (Recovers setting bare new history) ((reply ≡ entry.reply) × Recovers setting bare new (history ++ entry ∷ [])) (first setting bare history entry was is its) isnt;
      again = λ setting bare history entry was came.
          repeat setting bare history entry was (rw stamped small) (rw stamped came.there) (rw stamped came.same);
      still = still;
      spelled = subst (λ (s : Stamp). HasReplySpelling s.version reply) stamped spelled;
    }

-- ---- a bare one

-- a frame that asks a request has the kind of one
pub bare_came : (frame : Frame) (kind : ℕ) → IsReadable frame → frame.kind ≡ 64 + kind → (history : History) (entry : Entry) → CameAgain history frame entry → ⊥
bare_came frame kind readable is history entry came =
    let spelled = (asks frame came.request readable.is_frame.body_is_bytes came.asked).spelled in
    absurd (omega (arith, is, spelled.kind_is, small_kind came.request))

-- what was kept of a bare one
pub kept_takes : (frame : Frame) (old new : Holdings) (reply : Reply) → HasReplySpelling frame.version reply
    → ((setting : Setting) (bare : Bare) (history : History) (entry : Entry) → FindsWords setting → Recovers setting bare old history → IsNextFrame frame setting bare history entry → (reply ≡ entry.reply) × Recovers setting bare new (history ++ entry ∷ []))
    → ((history : History) (entry : Entry) → CameAgain history frame entry → ⊥) → (is_refused reply ≡ true → ⊥) → Takes frame old new reply
kept_takes frame old new reply spelled first repeat unrefused = record {
  gives = λ setting bare history entry words was kept same isnt. first setting bare history entry words was (kept, same);
  again = λ setting bare history entry was came. absurd (repeat history entry came);
  still = λ setting bare history was refused. absurd (unrefused refused);
  spelled = spelled;
}
