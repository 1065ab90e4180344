-- The records of a smaller journal are those of the same history.
use Rattle.std.proofs.Common.{◌≡◌, inl, inr, ℕ, ◌+◌, ◌<◌, ◌≤◌, ◌^◌, ◌==◌, ◌||◌, if◌then◌else◌, Bool, true, false, nat_lt, map, List, [], ◌∷◌, ◌++◌, length, refl, sym, ap, subst, ◌∙◌, arith}
use Rattle.std.proofs.lemmas.Bool.{lt-ltb}
use Rattle.std.proofs.lemmas.List.{length-append}
use Rattle.droid_frame.specs.Bodies.{SpellsRequest, request_body, request_kind}
use Rattle.droid_frame.specs.Fields.{IsU32, u32_bytes}
use Rattle.droid_frame.specs.Frames.{frame_bytes}
use Rattle.droid_frame.specs.Limits.{body_limit}
use Rattle.droid_frame.specs.Replies.{reply_bytes}
use Rattle.droid_frame.specs.ReplyFrames.{reply_frame}
use Rattle.droid_frame.specs.declared.frame.Frame.{Frame}
use Rattle.droid_frame.specs.declared.request.Request.{Request}
use Rattle.droid_frame.specs.declared.request.Request.TheVariants as requests
use Rattle.droid_frame.proofs.BodyLimits.{limit_at_most}
use Rattle.droid_frame.proofs.ReplyFrames.{reply_is_short}
use Rattle.droid_core_spec.specs.Histories.{Entry, History}
use Rattle.droid_core_spec.specs.Setting.{Setting}
use Rattle.droid_core_spec.proofs.Asked.{asks}
use Rattle.droid_recovery.specs.BareWorlds.{Bare}
use Rattle.droid_compaction.specs.BareFrames.{bare_finish, bare_finish_bytes, bare_piece, bare_piece_bytes}
use Rattle.droid_journal.specs.Records.{Record}
use Rattle.droid_recovery.proofs.KeptFrames.{kept_readable, shown_as}
use Rattle.droid_recovery.specs.BareRecords.{HaveHistory, IsRecordOf, IsRepeat, MayBeKept, kept_frame}
use Rattle.droid_compaction.specs.Fields.{file_in, is_about, stamp_in}
use Rattle.droid_compaction.specs.Shortening.{has_stamp, once, smaller, smaller_request}
use Rattle.droid_recovery.proofs.FrameBytes.{about_is, about_not, file_is, stamp_is}
use Rattle.droid_recovery.proofs.Stamps.{HaveStamps, no_stamps, stamp, stamp_seen, stamp_unseen, stamps_again, stamps_more}
use Rattle.droid_recovery.specs.SmallerFiles.{file_number, or_ended}

stamps_same : (client number other_client other : ℕ) → client ≡ other_client → number ≡ other → stamp other_client other ≡ stamp client number
stamps_same client number other_client other one two = sym (ap (λ (n : ℕ). stamp n number) one ∙ ap (stamp other_client) two)

module _ (setting : Setting) (bare : Bare) (ended : ℕ → Bool) where
  in_range : (profile file : ℕ) → IsU32 profile → IsU32 file → or_ended bare ended profile file ≡ (bare profile file || ended (file_number profile file))
  in_range profile file one other = rw (lt-ltb profile 4294967296 one, lt-ltb file 4294967296 other) refl

  -- ---- a request

  smaller_whole : (frame : Frame) (reply : List ℕ) → (frame.kind == 4) ≡ false → (frame.kind == 5) ≡ false → smaller_request ended (frame_bytes frame) reply ≡ frame_bytes frame
  smaller_whole frame reply no_piece no_finish = rw (about_not 4 (frame_bytes frame) reply no_piece, about_not 5 (frame_bytes frame) reply no_finish) refl

  smaller_piece : (request reply : List ℕ) (b : Bool) → is_about 4 request reply ≡ true → ended (file_in request) ≡ b → smaller_request ended request reply ≡ (if b then bare_piece_bytes request reply else request)
  smaller_piece request reply b about is = rw (about, is) refl

  smaller_finish : (request reply : List ℕ) (b : Bool) → is_about 4 request reply ≡ false → is_about 5 request reply ≡ true → ended (file_in request) ≡ b → smaller_request ended request reply ≡ (if b then bare_finish_bytes request reply else request)
  smaller_finish request reply b no_piece about is = rw (no_piece, about, is) refl

  module _ (history : History) (entry : Entry) (kept : MayBeKept setting history entry) where
    abbrev its_reply : List ℕ
    its_reply = reply_frame entry.frame.version entry.frame.client entry.frame.number entry.reply

    pub spells : (request : Request) → kept.may.request ≡ request → SpellsRequest entry.frame.version entry.frame.kind entry.frame.body request
    spells request is = subst (λ (r : Request). SpellsRequest entry.frame.version entry.frame.kind entry.frame.body r) is (asks entry.frame kept.may.request kept.readable.is_frame.body_is_bytes kept.may.asked).spelled

    about : (kind : ℕ) → 8 ≤ length entry.frame.body → entry.frame.kind ≡ kind → is_about kind (frame_bytes entry.frame) its_reply ≡ true
    about kind long is =
        about_is kind (frame_bytes entry.frame) its_reply (omega (arith, long)) (omega (arith, kept.readable.is_frame.body_fits, limit_at_most entry.frame.version)) (omega (arith, (reply_is_short entry.frame.version entry.reply kept.spelled).1)) is

    other_kind : (kind : ℕ) (request : Request) → kept.may.request ≡ request → (request_kind request == kind) ≡ false → (entry.frame.kind == kind) ≡ false
    other_kind kind request is isnt = ap (λ (k : ℕ). k == kind) (spells request is).kind_is ∙ isnt

    stays : (request : Request) → kept.may.request ≡ request → (request_kind request == 4) ≡ false → (request_kind request == 5) ≡ false → smaller_request ended (frame_bytes entry.frame) its_reply ≡ frame_bytes entry.frame
    stays request is no_piece no_finish = smaller_whole entry.frame its_reply (other_kind 4 request is no_piece) (other_kind 5 request is no_finish)

    module _ (profile file index : ℕ) (bytes : List ℕ) (is : kept.may.request ≡ requests.Piece profile file index bytes) where
      its_spelling : SpellsRequest entry.frame.version entry.frame.kind entry.frame.body (requests.Piece profile file index bytes)
      its_spelling = spells (requests.Piece profile file index bytes) is

      its_piece_file : file_in (frame_bytes entry.frame) ≡ file_number profile file
      its_piece_file = file_is entry.frame profile file (u32_bytes index ++ bytes) its_spelling.body_is its_spelling.has_spelling.0 its_spelling.has_spelling.1

      piece_by : (b e : Bool) → ended (file_number profile file) ≡ e
          → smaller_request ended (frame_bytes (if b then bare_piece entry.frame entry.reply else entry.frame)) its_reply ≡ frame_bytes (if b || e then bare_piece entry.frame entry.reply else entry.frame)
      piece_by true e is_ended = smaller_whole (bare_piece entry.frame entry.reply) its_reply refl refl
      piece_by false true is_ended =
          smaller_piece (frame_bytes entry.frame) its_reply true (about 4 (omega (arith, ap length its_spelling.body_is, length-append (u32_bytes index) bytes)) its_spelling.kind_is) (ap ended its_piece_file ∙ is_ended)
      piece_by false false is_ended =
          smaller_piece (frame_bytes entry.frame) its_reply false (about 4 (omega (arith, ap length its_spelling.body_is, length-append (u32_bytes index) bytes)) its_spelling.kind_is) (ap ended its_piece_file ∙ is_ended)

      piece_shown : smaller_request ended (frame_bytes (kept_frame bare (requests.Piece profile file index bytes) entry.frame entry.reply)) its_reply
          ≡ frame_bytes (kept_frame (or_ended bare ended) (requests.Piece profile file index bytes) entry.frame entry.reply)
      piece_shown =
          piece_by (bare profile file) (ended (file_number profile file)) refl
          ∙ ap (λ (b : Bool). frame_bytes (if b then bare_piece entry.frame entry.reply else entry.frame)) (sym (in_range profile file its_spelling.has_spelling.0 its_spelling.has_spelling.1))

    module _ (profile file : ℕ) (is : kept.may.request ≡ requests.Finish profile file) where
      its_finish : SpellsRequest entry.frame.version entry.frame.kind entry.frame.body (requests.Finish profile file)
      its_finish = spells (requests.Finish profile file) is

      its_finish_file : file_in (frame_bytes entry.frame) ≡ file_number profile file
      its_finish_file = file_is entry.frame profile file [] its_finish.body_is its_finish.has_spelling.0 its_finish.has_spelling.1

      finish_by : (b e : Bool) → ended (file_number profile file) ≡ e
          → smaller_request ended (frame_bytes (if b then bare_finish entry.frame entry.reply else entry.frame)) its_reply ≡ frame_bytes (if b || e then bare_finish entry.frame entry.reply else entry.frame)
      finish_by true e is_ended = smaller_whole (bare_finish entry.frame entry.reply) its_reply refl refl
      finish_by false true is_ended =
          smaller_finish (frame_bytes entry.frame) its_reply true (about_not 4 (frame_bytes entry.frame) its_reply (other_kind 4 (requests.Finish profile file) is refl)) (about 5 (omega (arith, ap length its_finish.body_is)) its_finish.kind_is) (ap ended its_finish_file ∙ is_ended)
      finish_by false false is_ended =
          smaller_finish (frame_bytes entry.frame) its_reply false (about_not 4 (frame_bytes entry.frame) its_reply (other_kind 4 (requests.Finish profile file) is refl)) (about 5 (omega (arith, ap length its_finish.body_is)) its_finish.kind_is) (ap ended its_finish_file ∙ is_ended)

      finish_shown : smaller_request ended (frame_bytes (kept_frame bare (requests.Finish profile file) entry.frame entry.reply)) its_reply
          ≡ frame_bytes (kept_frame (or_ended bare ended) (requests.Finish profile file) entry.frame entry.reply)
      finish_shown =
          finish_by (bare profile file) (ended (file_number profile file)) refl
          ∙ ap (λ (b : Bool). frame_bytes (if b then bare_finish entry.frame entry.reply else entry.frame)) (sym (in_range profile file its_finish.has_spelling.0 its_finish.has_spelling.1))

    shown : (request : Request) → kept.may.request ≡ request → smaller_request ended (frame_bytes (kept_frame bare request entry.frame entry.reply)) its_reply ≡ frame_bytes (kept_frame (or_ended bare ended) request entry.frame entry.reply)
    shown (requests.CreateProfile scan_limit match_all hash) is = stays (requests.CreateProfile scan_limit match_all hash) is refl refl
    shown (requests.AddFolder profile parent modified name) is = stays (requests.AddFolder profile parent modified name) is refl refl
    shown (requests.AddFile profile parent modified size piece_size name) is = stays (requests.AddFile profile parent modified size piece_size name) is refl refl
    shown (requests.Piece profile file index bytes) is = piece_shown profile file index bytes is
    shown (requests.Finish profile file) is = finish_shown profile file is
    shown (requests.Abandon profile file) is = stays (requests.Abandon profile file) is refl refl
    shown (requests.Status profile file) is = stays (requests.Status profile file) is refl refl
    shown (requests.Export profile from max filter) is = stays (requests.Export profile from max filter) is refl refl

  -- ---- a record

  is_smaller : (history : History) (it : Record) (entry : Entry) → IsRecordOf setting bare history it entry → IsRecordOf setting (or_ended bare ended) history (smaller ended it) entry
  is_smaller history it entry is = record {
    kept = is.kept;
    request =
        ap (λ (r : List ℕ). smaller_request ended r it.reply) is.request
        ∙ ap (λ (r : List ℕ). smaller_request ended (frame_bytes (kept_frame bare is.kept.may.request entry.frame entry.reply)) r) is.reply
        ∙ shown history entry is.kept is.kept.may.request refl;
    reply = is.reply;
  }

  pub its_stamp : (history : History) (it : Record) (entry : Entry) → IsRecordOf setting bare history it entry → stamp_in it.request ≡ stamp entry.frame.client entry.frame.number
  its_stamp history it entry is =
      let frame = kept_frame bare is.kept.may.request entry.frame entry.reply in
      let header = shown_as setting bare history entry is.kept frame refl in
      ap stamp_in is.request ∙ stamp_is frame (kept_readable setting bare history entry is.kept).is_frame ∙ stamps_same entry.frame.client entry.frame.number frame.client frame.number header.1 header.2

  pub repeat_stamp : (history : History) (it : Record) (entry : Entry) → (is : IsRepeat history it entry) → stamp_in it.request ≡ stamp is.frame.client is.frame.number
  repeat_stamp history it entry is = ap stamp_in is.request ∙ stamp_is is.frame is.readable.is_frame

  -- ---- all records

  abbrev Goes : List Record → List Record → History → History → Type 0
  Goes before its history all = HaveHistory setting (or_ended bare ended) history (map (smaller ended) (once before its)) all

  new_first : (before : List Record) (it : Record) (its : List Record) (history after all : History) (entry : Entry) → HaveStamps before history → IsRecordOf setting bare history it entry → after ≡ history ++ entry ∷ []
      → Goes (before ++ it ∷ []) its after all → Goes before (it ∷ its) history all
  new_first before it its history after all entry have is same later =
      let unseen = ap (has_stamp before) (its_stamp history it entry is) ∙ stamp_unseen before history entry.frame.client entry.frame.number is.kept.readable.is_frame.number_fits is.kept.may.is_new have in
      rw unseen (after, inl (entry, is_smaller history it entry is, same), later)

  again_first : (before : List Record) (it : Record) (its : List Record) (history all : History) (entry : Entry) → HaveStamps before history → IsRepeat history it entry → Goes (before ++ it ∷ []) its history all → Goes before (it ∷ its) history all
  again_first before it its history all entry have is later =
      let seen = ap (has_stamp before) (repeat_stamp history it entry is) ∙ stamp_seen before history is.frame.client is.frame.number entry is.readable.is_frame.number_fits is.again.there have in
      rw seen later

  pub goes : (its before : List Record) (history all : History) → HaveStamps before history → HaveHistory setting bare history its all → Goes before its history all
  goes [] before history all have is = is
  goes (it ∷ its) before history all have is = elim is.1 [
    | inl new ↦
        let stamps = subst (HaveStamps (before ++ it ∷ [])) (sym new.2) (stamps_more before history it new.0 new.1.kept.readable.is_frame.number_fits (its_stamp history it new.0 new.1) have) in
        new_first before it its history is.0 all new.0 have new.1 new.2 (goes its (before ++ it ∷ []) is.0 all stamps is.2)
    | inr again ↦
        let stamps = stamps_again before history it again.1.frame.client again.1.frame.number again.0 again.1.readable.is_frame.number_fits (repeat_stamp history it again.0 again.1) again.1.again.there have in
        again_first before it its history all again.0 have again.1 (goes its (before ++ it ∷ []) history all stamps (subst (λ (h : History). HaveHistory setting bare h its all) again.2 is.2))
  ]
