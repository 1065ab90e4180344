-- Records and the histories that they have.
use Rattle.std.proofs.Common.{◌≡◌, ◌⊎◌, ℕ, nat_lt, Bool, true, false, List, [], ◌∷◌, ◌++◌, find, Option, refl, sym, ap, subst, ◌∙◌, append_assoc, inl, inr}
use Rattle.std.specs.Option.{option_or}
use Rattle.std.proofs.lemmas.Bool.{false≢true}
use Rattle.std.proofs.lemmas.List.{append-nil, append_cancel_left}
use Rattle.std.proofs.lemmas.List.Folds.{find-append}
use Rattle.droid_frame.specs.Replies.{HasReplySpelling, is_refused}
use Rattle.droid_frame.specs.ReplyFrames.{reply_frame}
use Rattle.droid_frame.specs.Streams.{IsReadable}
use Rattle.droid_frame.specs.declared.frame.Frame.{Frame}
use Rattle.droid_frame.specs.declared.reply.Reply.{Reply}
use Rattle.droid_frame.proofs.FrameLaws.{reported_frame}
use Rattle.droid_core_spec.proofs.Meetings.{next_by, whatever_meets}
use Rattle.droid_core_spec.specs.Histories.{Entry, HasReply, History, Meeting, New, answer, entry_of, history_from, history_with, is_under, kept, meeting, next}
use Rattle.droid_core_spec.specs.Judging.{Accepted, Answered, Refuses, Verdict}
use Rattle.droid_core_spec.specs.Setting.{Setting}
use Rattle.droid_journal.specs.Machines.{extended, record_of}
use Rattle.droid_journal.specs.Fronts.{IsFront}
use Rattle.droid_journal.specs.Records.{Record}
use Rattle.droid_journal.proofs.Fronts.{front_refl, front_trans}
use Rattle.droid_wire.specs.Histories.{AreOf, Base, HasBare, IsBare, IsBetween, IsHistoryBehind, IsHistoryFrom, IsHistoryOf, IsOf, history_then, no_base}

-- a record is of one request
one_frame : (setting : Setting) (history : History) (it : Record) (frame other : Frame) → IsOf setting history it frame → IsOf setting history it other → frame ≡ other
one_frame setting history it frame other a b =
    (reported_frame frame other [] [] a.readable.is_frame b.readable.is_frame (ap (λ (t : List ℕ). t ++ []) (sym a.request ∙ b.request))).0

-- records and more of them are of requests and more of them
are_front : (setting : Setting) (history : History) (xs ys : List Record) (frames others : List Frame) → AreOf setting history xs frames → AreOf setting history (xs ++ ys) others → IsFront frames others
are_front setting history [] ys [] others a b = (others, refl)
are_front setting history [] ys (frame ∷ frames) others a b = absurd a
are_front setting history (x ∷ xs) ys [] others a b = absurd a
are_front setting history (x ∷ xs) ys (frame ∷ frames) [] a b = absurd b
are_front setting history (x ∷ xs) ys (frame ∷ frames) (other ∷ others) a b =
    let same : frame ≡ other = one_frame setting history x frame other a.0 b.0 in
    let more = are_front setting (next setting history other) xs ys frames others (subst (λ (f : Frame). AreOf setting (next setting history f) xs frames) same a.1) b.1 in
    (more.0, ap (λ (t : List Frame). other ∷ t) more.1 ∙ ap (λ (f : Frame). f ∷ (frames ++ more.0)) (sym same))

-- the same records are of the same requests
are_same : (setting : Setting) (history : History) (xs : List Record) (frames others : List Frame) → AreOf setting history xs frames → AreOf setting history xs others → frames ≡ others
are_same setting history [] [] [] a b = refl
are_same setting history [] [] (other ∷ others) a b = absurd b
are_same setting history [] (frame ∷ frames) others a b = absurd a
are_same setting history (x ∷ xs) [] others a b = absurd a
are_same setting history (x ∷ xs) (frame ∷ frames) [] a b = absurd b
are_same setting history (x ∷ xs) (frame ∷ frames) (other ∷ others) a b =
    let same : frame ≡ other = one_frame setting history x frame other a.0 b.0 in
    let more = are_same setting (next setting history other) xs frames others (subst (λ (f : Frame). AreOf setting (next setting history f) xs frames) same a.1) b.1 in
    ap (λ (t : List Frame). frame ∷ t) more ∙ ap (λ (f : Frame). f ∷ others) same

from_append : (setting : Setting) (history : History) (frames more : List Frame) → history_from setting history (frames ++ more) ≡ history_from setting (history_from setting history frames) more
from_append setting history [] more = refl
from_append setting history (frame ∷ frames) more = from_append setting (next setting history frame) frames more

are_more : (setting : Setting) (history : History) (its : List Record) (frames : List Frame) (it : Record) (frame : Frame) → AreOf setting history its frames → IsOf setting (history_from setting history frames) it frame
    → AreOf setting history (its ++ it ∷ []) (frames ++ frame ∷ [])
are_more setting history [] [] it frame a one = (one, tt)
are_more setting history [] (other ∷ frames) it frame a one = absurd a
are_more setting history (x ∷ its) [] it frame a one = absurd a
are_more setting history (x ∷ its) (other ∷ frames) it frame a one = (a.0, are_more setting (next setting history other) its frames it frame a.1 one)

-- ---- a history goes on

by_verdict : (history : History) (frame : Frame) (verdict : Verdict) → IsFront history (history_with history frame (New verdict))
by_verdict history frame (Accepted reply after) = (entry_of frame reply ∷ [], refl)
by_verdict history frame (Answered reply) = front_refl history
by_verdict history frame (Refuses refusal) = front_refl history

next_front : (setting : Setting) (history : History) (frame : Frame) → IsFront history (next setting history frame)
next_front setting history frame =
    subst (IsFront history) (sym (next_by setting history frame (meeting setting history frame) refl))
    (whatever_meets setting history frame (λ (met : Meeting). IsFront history (history_with history frame met)) (front_refl history) (λ (entry : Entry) there. front_refl history) (front_refl history)
    (λ request asked is_new. by_verdict history frame _))

from_front : (setting : Setting) (history : History) (frames : List Frame) → IsFront history (history_from setting history frames)
from_front setting history [] = front_refl history
from_front setting history (frame ∷ frames) =
    front_trans history (next setting history frame) (history_from setting (next setting history frame) frames) (next_front setting history frame) (from_front setting (next setting history frame) frames)

front_replies : (history longer : History) (frame : Frame) (reply : Reply) → IsFront history longer → HasReply history frame reply → HasReply longer frame reply
front_replies history longer frame reply front had = record {
  entry = had.entry;
  there =
      ap (λ (h : History). kept h frame.client frame.number) front.1 ∙ find-append (is_under frame.client frame.number) history front.0
      ∙ ap (λ (o : Option Entry). option_or o (find (is_under frame.client frame.number) front.0)) had.there;
  same = had.same;
  its = had.its;
}

-- ---- records whose requests are whole

pub bare_kind : (kind : ℕ) → (kind ≡ 68) ⊎ (kind ≡ 69) → nat_lt kind 7 ≡ true → ⊥
bare_kind kind (inl is) less = false≢true (ap (λ (k : ℕ). nat_lt k 7) (sym is) ∙ less)
bare_kind kind (inr is) less = false≢true (ap (λ (k : ℕ). nat_lt k 7) (sym is) ∙ less)

not_bare : (setting : Setting) (history : History) (it : Record) (frame : Frame) → IsOf setting history it frame → IsBare it → ⊥
not_bare setting history it frame is bare =
    let same : bare.frame ≡ frame = (reported_frame bare.frame frame [] [] bare.readable.is_frame is.readable.is_frame (ap (λ (t : List ℕ). t ++ []) (sym bare.request ∙ is.request))).0 in
    bare_kind bare.frame.kind bare.kind (ap (λ (f : Frame). nat_lt f.kind 7) same ∙ is.command)

none_bare : (setting : Setting) (history : History) (its : List Record) (frames : List Frame) → AreOf setting history its frames → HasBare its → ⊥
none_bare setting history [] frames are has = has
none_bare setting history (it ∷ its) [] are has = are
none_bare setting history (it ∷ its) (frame ∷ frames) are (inl bare) = not_bare setting history it frame are.0 bare
none_bare setting history (it ∷ its) (frame ∷ frames) are (inr has) = none_bare setting (next setting history frame) its frames are.1 has

bare_append : (xs ys : List Record) → HasBare xs → HasBare (xs ++ ys)
bare_append [] ys has = absurd has
bare_append (x ∷ xs) ys (inl bare) = inl bare
bare_append (x ∷ xs) ys (inr has) = inr (bare_append xs ys has)

pub bare_front : (xs ys : List Record) → IsFront xs ys → HasBare xs → HasBare ys
bare_front xs ys front has = subst HasBare (sym front.1) (bare_append xs front.0 has)

bare_last : (its : List Record) (it : Record) → IsBare it → HasBare (its ++ it ∷ [])
bare_last [] it bare = inl bare
bare_last (x ∷ its) it bare = inr (bare_last its it bare)

pub bare_more : (its : List Record) (it : Record) → HasBare its ⊎ IsBare it → HasBare (its ++ it ∷ [])
bare_more its it (inl has) = bare_append its (it ∷ []) has
bare_more its it (inr bare) = bare_last its it bare

-- after a request with or without its bytes
pub noted_then : (records : List Record) (first : Bool) (frame : Frame) (reply : Reply) (accepted before bare : Bool) → IsReadable frame → (bare ≡ true → (frame.kind ≡ 68) ⊎ (frame.kind ≡ 69)) → (before ≡ true → HasBare records)
    → (before ≡ true) ⊎ ((bare ≡ true) × (accepted ≡ true)) → HasBare (extended records first frame reply accepted)
noted_then records first frame reply true before bare readable kind noted (inl was) = bare_more records (record_of first frame reply) (inl (noted was))
noted_then records first frame reply true before bare readable kind noted (inr is) = bare_more records (record_of first frame reply) (inr (record { frame = frame; readable = readable; request = refl; kind = kind is.0 }))
noted_then records first frame reply false before bare readable kind noted (inl was) = noted was
noted_then records first frame reply false before bare readable kind noted (inr is) = absurd (false≢true is.1)

bare_parts : (its : List Record) (it : Record) → HasBare (its ++ it ∷ []) → HasBare its ⊎ IsBare it
bare_parts [] it (inl bare) = inr bare
bare_parts [] it (inr none) = absurd none
bare_parts (x ∷ its) it (inl bare) = inl (inl bare)
bare_parts (x ∷ its) it (inr has) =
    elim (bare_parts its it has) [
      | inl there ↦ inl (inr there)
      | inr bare ↦ inr bare
    ]

kind_of : (first : Bool) (frame : Frame) (reply : Reply) → IsReadable frame → IsBare (record_of first frame reply) → (frame.kind ≡ 68) ⊎ (frame.kind ≡ 69)
kind_of first frame reply readable bare =
    let same : bare.frame ≡ frame = (reported_frame bare.frame frame [] [] bare.readable.is_frame readable.is_frame (ap (λ (t : List ℕ). t ++ []) (sym bare.request))).0 in
    subst (λ (f : Frame). (f.kind ≡ 68) ⊎ (f.kind ≡ 69)) same bare.kind

unset : (before after : Bool) → (before ≡ true → after ≡ true) → after ≡ false → before ≡ false
unset true after stays isnt = absurd (false≢true (sym isnt ∙ stays refl))
unset false after stays isnt = refl

-- none of the records so far and not this request
pub none_then : (records : List Record) (first : Bool) (frame : Frame) (reply : Reply) (accepted before bare after : Bool) → IsReadable frame → ((frame.kind ≡ 68) ⊎ (frame.kind ≡ 69) → bare ≡ true)
    → (before ≡ false → HasBare records → ⊥) → (before ≡ true → after ≡ true) → (bare ≡ true → accepted ≡ true → after ≡ true) → after ≡ false → HasBare (extended records first frame reply accepted) → ⊥
none_then records first frame reply true before bare after readable kind none stays comes isnt has =
    elim (bare_parts records (record_of first frame reply) has) [
      | inl there ↦ none (unset before after stays isnt) there
      | inr one ↦ false≢true (sym isnt ∙ comes (kind (kind_of first frame reply readable one)) refl)
    ]
none_then records first frame reply false before bare after readable kind none stays comes isnt has = none (unset before after stays isnt) has

-- ---- histories of records, behind another

module _ (setting : Setting) (before : History) where
  nothing_from : IsHistoryFrom setting before [] before
  nothing_from = record { frames = []; are = tt; history_is = refl }

  one_from : (records : List Record) (history other : History) → IsHistoryFrom setting before records history → IsHistoryFrom setting before records other → history ≡ other
  one_from records history other a b =
      a.history_is ∙ ap (λ (frames : List Frame). history_from setting before frames) (are_same setting before records a.frames b.frames a.are b.are) ∙ sym b.history_is

  more_from : (records : List Record) (history : History) (it : Record) (frame : Frame) → IsHistoryFrom setting before records history → IsOf setting history it frame
      → IsHistoryFrom setting before (records ++ it ∷ []) (next setting history frame)
  more_from records history it frame its one = record {
    frames = its.frames ++ frame ∷ [];
    are = are_more setting before records its.frames it frame its.are (subst (λ (h : History). IsOf setting h it frame) its.history_is one);
    history_is = ap (λ (h : History). next setting h frame) its.history_is ∙ sym (from_append setting before its.frames (frame ∷ []));
  }

  -- the history of more records goes on from that of fewer
  goes_on_from : (xs ys : List Record) (history other : History) → IsFront xs ys → IsHistoryFrom setting before xs history → IsHistoryFrom setting before ys other → (frames : List Frame) × (other ≡ history_from setting history frames)
  goes_on_from xs ys history other front a b =
      let more = are_front setting before xs front.0 a.frames b.frames a.are (subst (λ (t : List Record). AreOf setting before t b.frames) front.1 b.are) in (
        more.0,
        b.history_is ∙ ap (λ (frames : List Frame). history_from setting before frames) more.1 ∙ from_append setting before a.frames more.0
            ∙ ap (λ (h : History). history_from setting h more.0) (sym a.history_is),
      )

-- the first of the records have a history
first_are : (setting : Setting) (history : History) (xs ys : List Record) (frames : List Frame) → AreOf setting history (xs ++ ys) frames → (first : List Frame) × AreOf setting history xs first
first_are setting history [] ys frames are = ([], tt)
first_are setting history (x ∷ xs) ys [] are = absurd are
first_are setting history (x ∷ xs) ys (frame ∷ frames) are =
    let more = first_are setting (next setting history frame) xs ys frames are.1 in
    (frame ∷ more.0, (are.0, more.1))

-- ---- histories of records behind a base

module _ (setting : Setting) (base : Base setting) where
  pub no_more : IsHistoryBehind setting base base.first base.history
  no_more = record { rest = []; parts = sym (append-nil base.first); behind = nothing_from setting base.history }

  same_rest : (records : List Record) (history other : History) → (a : IsHistoryBehind setting base records history) → (b : IsHistoryBehind setting base records other) → b.rest ≡ a.rest
  same_rest records history other a b = append_cancel_left base.first b.rest a.rest (sym b.parts ∙ a.parts)

  pub one_history : (records : List Record) (history other : History) → IsHistoryBehind setting base records history → IsHistoryBehind setting base records other → history ≡ other
  one_history records history other a b =
      one_from setting base.history a.rest history other a.behind (subst (λ (rest : List Record). IsHistoryFrom setting base.history rest other) (same_rest records history other a b) b.behind)

  pub history_more : (records : List Record) (history : History) (it : Record) (frame : Frame) → IsHistoryBehind setting base records history → IsOf setting history it frame
      → IsHistoryBehind setting base (records ++ it ∷ []) (next setting history frame)
  history_more records history it frame its one = record {
    rest = its.rest ++ it ∷ [];
    parts = ap (λ (l : List Record). l ++ it ∷ []) its.parts ∙ append_assoc base.first its.rest (it ∷ []);
    behind = more_from setting base.history its.rest history it frame its.behind one;
  }

  -- with a request that goes into the journal or not
  pub records_then : (records : List Record) (first : Bool) (history : History) (frame : Frame) (reply : Reply) (accepted : Bool) → IsReadable frame → HasReplySpelling frame.version reply → IsHistoryBehind setting base records history
      → (accepted ≡ true → reply ≡ answer setting history frame) → (accepted ≡ true → nat_lt frame.kind 7 ≡ true) → (accepted ≡ true → is_refused reply ≡ false)
      → IsHistoryBehind setting base (extended records first frame reply accepted) (history_then setting history frame accepted)
  records_then records first history frame reply false readable spelled its answered command unrefused = its
  records_then records first history frame reply true readable spelled its answered command unrefused =
      let reported : reply ≡ answer setting history frame = answered refl in
      history_more records history (record_of first frame reply) frame its
      (record {
        readable = readable;
        request = refl;
        reply = ap (λ (r : Reply). reply_frame frame.version frame.client frame.number r) reported;
        command = command refl;
        unrefused = subst (λ (r : Reply). is_refused r ≡ false) reported (unrefused refl);
        spelled = subst (λ (r : Reply). HasReplySpelling frame.version r) reported spelled;
      })

  rest_front : (xs ys : List Record) (history other : History) → IsFront xs ys → (a : IsHistoryBehind setting base xs history) → (b : IsHistoryBehind setting base ys other) → IsFront a.rest b.rest
  rest_front xs ys history other front a b = (
    front.0,
    append_cancel_left base.first b.rest (a.rest ++ front.0) (sym b.parts ∙ front.1 ∙ ap (λ (l : List Record). l ++ front.0) a.parts ∙ append_assoc base.first a.rest front.0),
  )

  -- the history of more records goes on from that of fewer
  pub goes_on : (xs ys : List Record) (history other : History) → IsFront xs ys → IsHistoryBehind setting base xs history → IsHistoryBehind setting base ys other → (frames : List Frame) × (other ≡ history_from setting history frames)
  goes_on xs ys history other front a b = goes_on_from setting base.history a.rest b.rest history other (rest_front xs ys history other front a b) a.behind b.behind

  pub between : (xs ys zs : List Record) (before history all : History) → IsFront xs ys → IsFront ys zs → IsHistoryBehind setting base xs before → IsHistoryBehind setting base ys history → IsHistoryBehind setting base zs all → IsBetween before history all
  between xs ys zs before history all one other a b c =
      let p = goes_on xs ys before history one a b in
      let q = goes_on ys zs history all other b c in
      record {
        since = subst (IsFront before) (sym p.1) (from_front setting before p.0);
        within = subst (IsFront history) (sym q.1) (from_front setting history q.0);
        replies = λ frame reply had. front_replies before history frame reply (subst (IsFront before) (sym p.1) (from_front setting before p.0)) had;
      }

  -- Records that go on from some of these, and are the first of others of these, have a history too.
  pub some_history : (xs ys zs : List Record) (before all : History) → IsFront xs ys → IsFront ys zs → IsHistoryBehind setting base xs before → IsHistoryBehind setting base zs all → (history : History) × IsHistoryBehind setting base ys history
  some_history xs ys zs before all one other a c =
      let rest : List Record = a.rest ++ one.0 in
      let parts : ys ≡ base.first ++ rest = one.1 ∙ ap (λ (l : List Record). l ++ one.0) a.parts ∙ append_assoc base.first a.rest one.0 in
      let whole : c.rest ≡ rest ++ other.0 =
      append_cancel_left base.first c.rest (rest ++ other.0) (sym c.parts ∙ other.1 ∙ ap (λ (l : List Record). l ++ other.0) parts ∙ append_assoc base.first rest other.0) in
      let first = first_are setting base.history rest other.0 c.behind.frames (subst (λ (l : List Record). AreOf setting base.history l c.behind.frames) whole c.behind.are) in
      (history_from setting base.history first.0, record { rest = rest; parts = parts; behind = record { frames = first.0; are = first.1; history_is = refl } })

-- ---- a journal that was never made small

module _ (setting : Setting) where
  pub no_history : IsHistoryBehind setting (no_base setting) [] []
  no_history = no_more setting (no_base setting)

  pub as_history : (records : List Record) (history : History) → IsHistoryBehind setting (no_base setting) records history → IsHistoryOf setting records history
  as_history records history its = subst (λ (l : List Record). IsHistoryFrom setting [] l history) (sym its.parts) its.behind

  pub none_small : (records : List Record) (history : History) → IsHistoryOf setting records history → HasBare records → ⊥
  none_small records history its has = none_bare setting [] records its.frames its.are has

  -- behind a base with nothing in it
  pub as_behind_nothing : (base : Base setting) (records : List Record) (history : History) → base.first ≡ [] → base.history ≡ [] → IsHistoryBehind setting base records history → IsHistoryBehind setting (no_base setting) records history
  as_behind_nothing base records history none nothing its = record {
    rest = its.rest;
    parts = its.parts ∙ ap (λ (l : List Record). l ++ its.rest) none;
    behind = subst (λ (h : History). IsHistoryFrom setting h its.rest history) nothing its.behind;
  }

  -- such a journal goes on after a crash, if its records are whole
  pub whole_between : (base : Base setting) (first its written : List Record) (synced history all : History) → IsFront first its → IsFront its written → IsHistoryBehind setting base first synced
      → IsHistoryBehind setting (no_base setting) its history → IsHistoryBehind setting base written all → IsBetween synced history all
  whole_between base first its written synced history all one other on_disk found accepted =
      elim base.came [
        | inl none ↦
            between setting (no_base setting) first its written synced history all one other (as_behind_nothing base first synced none.0 none.1 on_disk) found (as_behind_nothing base written all none.0 none.1 accepted)
        | inr small ↦
            absurd (none_small its history (as_history its history found) (bare_front first its one (bare_front base.first first (on_disk.rest, on_disk.parts) small.2)))
      ]
