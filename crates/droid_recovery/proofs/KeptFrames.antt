-- The frames that a journal has of its entries, which differ in their kinds.
use Rattle.std.proofs.Common.{◌≡◌, ℕ, ◌<◌, ◌+◌, if◌then◌else◌, Bool, true, false, List, [], ◌++◌, length, refl, sym, ap, subst, ◌∙◌, arith}
use Rattle.droid_frame.specs.Bodies.{SpellsRequest, request_kind}
use Rattle.droid_frame.specs.Fields.{IsU32, u32_bytes}
use Rattle.droid_frame.specs.Frames.{frame_bytes}
use Rattle.droid_frame.specs.Replies.{SpellsReply, reply_bytes, reply_kind}
use Rattle.droid_frame.specs.Streams.{IsReadable}
use Rattle.droid_frame.specs.declared.frame.Frame.{Frame}
use Rattle.droid_frame.specs.declared.request.Request.{Request}
use Rattle.droid_frame.specs.declared.request.Request.TheVariants as requests
use Rattle.droid_frame.proofs.FrameLaws.{reported_frame}
use Rattle.droid_core_spec.specs.Histories.{Entry, History, world_of}
use Rattle.droid_core_spec.specs.Judging.{Accepted, judge}
use Rattle.droid_core_spec.specs.Setting.{Setting}
use Rattle.droid_core_spec.proofs.Asked.{asks}
use Rattle.droid_recovery.proofs.EndReplies.{finish_finds_words, finish_is_finished, piece_is_taken}
use Rattle.droid_recovery.specs.BareWorlds.{Bare, needs_bytes}
use Rattle.droid_core.specs.Changes.{stamp_of}
use Rattle.droid_recovery.specs.FoundWords.{FindsWords}
use Rattle.droid_recovery.specs.Recovering.{IsBareFinish, IsBarePiece}
use Rattle.droid_core.specs.declared.stamps.Stamp.{Stamp}
use Rattle.droid_compaction.proofs.Readable.{finish_is_readable, piece_is_readable}
use Rattle.droid_compaction.specs.BareFrames.{bare_finish, bare_piece}
use Rattle.droid_recovery.specs.BareRecords.{MayBeKept, kept_frame}

-- which of the three frames one is
pub data FrameForm (bare : Bare) (entry : Entry) (request : Request) (frame : Frame) : Type 0 where
  Whole : (none : needs_bytes bare request ≡ false) (same : frame ≡ entry.frame) → FrameForm bare entry request frame
  Piece : (profile file index : ℕ) (bytes : List ℕ) (asked : request ≡ requests.Piece profile file index bytes) (is_bare : bare profile file ≡ true) (same : frame ≡ bare_piece entry.frame entry.reply) → FrameForm bare entry request frame
  Finish : (profile file : ℕ) (asked : request ≡ requests.Finish profile file) (is_bare : bare profile file ≡ true) (same : frame ≡ bare_finish entry.frame entry.reply) → FrameForm bare entry request frame

module _ (bare : Bare) (entry : Entry) (frame : Frame) where
  piece_form : (profile file index : ℕ) (bytes : List ℕ) (b : Bool) → bare profile file ≡ b → frame ≡ (if b then bare_piece entry.frame entry.reply else entry.frame) → FrameForm bare entry (requests.Piece profile file index bytes) frame
  piece_form profile file index bytes true is same = Piece profile file index bytes refl is same
  piece_form profile file index bytes false is same = Whole is same

  finish_form : (profile file : ℕ) (b : Bool) → bare profile file ≡ b → frame ≡ (if b then bare_finish entry.frame entry.reply else entry.frame) → FrameForm bare entry (requests.Finish profile file) frame
  finish_form profile file true is same = Finish profile file refl is same
  finish_form profile file false is same = Whole is same

  pub form_of : (request : Request) → frame ≡ kept_frame bare request entry.frame entry.reply → FrameForm bare entry request frame
  form_of (requests.Piece profile file index bytes) same = piece_form profile file index bytes (bare profile file) refl same
  form_of (requests.Finish profile file) same = finish_form profile file (bare profile file) refl same
  form_of _ same = Whole refl same

pub small_kind : (request : Request) → request_kind request < 9
small_kind (requests.CreateProfile scan_limit match_all hash) = omega arith
small_kind (requests.AddFolder profile parent modified name) = omega arith
small_kind (requests.AddFile profile parent modified size piece_size name) = omega arith
small_kind (requests.Piece profile file index bytes) = omega arith
small_kind (requests.Finish profile file) = omega arith
small_kind (requests.Abandon profile file) = omega arith
small_kind (requests.Status profile file) = omega arith
small_kind (requests.Export profile from max filter) = omega arith

module _ (setting : Setting) (bare : Bare) (history : History) (entry : Entry) (kept : MayBeKept setting history entry) where
  spells : SpellsRequest entry.frame.version entry.frame.kind entry.frame.body kept.may.request
  spells = (asks entry.frame kept.may.request kept.readable.is_frame.body_is_bytes kept.may.asked).spelled

  kind_below : entry.frame.kind < 9
  kind_below = omega (arith, spells.kind_is, small_kind kept.may.request)

  accepted_as : (request : Request) → kept.may.request ≡ request → judge setting (world_of setting history) entry.frame.version request ≡ Accepted entry.reply kept.may.after
  accepted_as request is = subst (λ (r : Request). judge setting (world_of setting history) entry.frame.version r ≡ Accepted entry.reply kept.may.after) is kept.may.accepted

  reply_spelled : (kind : ℕ) → reply_kind entry.reply ≡ kind → SpellsReply entry.frame.version kind (reply_bytes entry.frame.version entry.reply) entry.reply
  reply_spelled kind is = record { version_is = kept.readable.version_is; kind_is = sym is; body_is = refl; has_spelling = kept.spelled }

  -- ---- a bare piece

  module _ (profile file index : ℕ) (bytes : List ℕ) (asked : kept.may.request ≡ requests.Piece profile file index bytes) (is_bare : bare profile file ≡ true) where
    pub taken : reply_kind entry.reply ≡ 131
    taken = piece_is_taken setting (world_of setting history) kept.may.after entry.frame.version profile file index bytes entry.reply (accepted_as (requests.Piece profile file index bytes) asked)

    pub piece_readable : IsReadable (bare_piece entry.frame entry.reply)
    piece_readable = piece_is_readable entry.frame entry.reply kept.readable kept.spelled taken

    pub piece_here : (stamp : Stamp) → stamp ≡ stamp_of entry.frame → IsBarePiece setting bare history entry stamp
    piece_here stamp stamped = record { may = kept.may; profile = profile; file = file; index = index; bytes = bytes; asks = asked; is_bare = is_bare; stamped = stamped }

  -- ---- a bare Finish

  module _ (profile file : ℕ) (asked : kept.may.request ≡ requests.Finish profile file) (is_bare : bare profile file ≡ true) where
    spells_finish : SpellsRequest entry.frame.version entry.frame.kind entry.frame.body (requests.Finish profile file)
    spells_finish = subst (λ (r : Request). SpellsRequest entry.frame.version entry.frame.kind entry.frame.body r) asked spells

    pub finish_body : entry.frame.body ≡ u32_bytes profile ++ u32_bytes file
    finish_body = spells_finish.body_is

    pub finish_kind : entry.frame.kind ≡ 5
    finish_kind = spells_finish.kind_is

    pub finish_numbers : IsU32 profile × IsU32 file
    finish_numbers = spells_finish.has_spelling

    pub finished : reply_kind entry.reply ≡ 132
    finished = finish_is_finished setting bare (world_of setting history) kept.may.after entry.frame.version profile file entry.reply is_bare (accepted_as (requests.Finish profile file) asked)

    eight : length entry.frame.body ≡ 8
    eight = ap length finish_body

    pub finish_readable : IsReadable (bare_finish entry.frame entry.reply)
    finish_readable = finish_is_readable entry.frame entry.reply kept.readable eight kept.spelled finished

    pub finish_here : FindsWords setting → (stamp : Stamp) → stamp ≡ stamp_of entry.frame → IsBareFinish setting bare history entry stamp profile file
    finish_here words stamp stamped = record {
      may = kept.may;
      asks = asked;
      is_bare = is_bare;
      words = finish_finds_words setting bare (world_of setting history) kept.may.after entry.frame.version profile file entry.reply words is_bare (accepted_as (requests.Finish profile file) asked);
      stamped = stamped;
    }

  -- ---- by the frame

  readable_as : (frame : Frame) → FrameForm bare entry kept.may.request frame → IsReadable frame
  readable_as frame (Whole none same) = subst IsReadable (sym same) kept.readable
  readable_as frame (Piece profile file index bytes asked is_bare same) = subst IsReadable (sym same) (piece_readable profile file index bytes asked is_bare)
  readable_as frame (Finish profile file asked is_bare same) = subst IsReadable (sym same) (finish_readable profile file asked is_bare)

  pub kept_readable : IsReadable (kept_frame bare kept.may.request entry.frame entry.reply)
  kept_readable = readable_as _ (form_of bare entry (kept_frame bare kept.may.request entry.frame entry.reply) kept.may.request refl)

  -- a frame with these bytes is the one
  pub frame_is : (frame : Frame) (bytes : List ℕ) → IsReadable frame → bytes ≡ frame_bytes (kept_frame bare kept.may.request entry.frame entry.reply) → bytes ≡ frame_bytes frame → frame ≡ kept_frame bare kept.may.request entry.frame entry.reply
  frame_is frame bytes readable its other =
      (reported_frame frame (kept_frame bare kept.may.request entry.frame entry.reply) [] [] readable.is_frame kept_readable.is_frame (ap (λ (t : List ℕ). t ++ []) (sym other ∙ its))).0

  -- it has the entry's version, client and number
  header_by : (frame : Frame) → FrameForm bare entry kept.may.request frame → (entry.frame.version ≡ frame.version) × (entry.frame.client ≡ frame.client) × (entry.frame.number ≡ frame.number)
  header_by frame (Whole none same) = rw same (refl, refl, refl)
  header_by frame (Piece profile file index bytes asked is_bare same) = rw same (refl, refl, refl)
  header_by frame (Finish profile file asked is_bare same) = rw same (refl, refl, refl)

  pub shown_as : (frame : Frame) → frame ≡ kept_frame bare kept.may.request entry.frame entry.reply → (entry.frame.version ≡ frame.version) × (entry.frame.client ≡ frame.client) × (entry.frame.number ≡ frame.number)
  shown_as frame same = header_by frame (form_of bare entry frame kept.may.request same)

  module _ (frame : Frame) (same : frame ≡ kept_frame bare kept.may.request entry.frame entry.reply) where
    its : FrameForm bare entry kept.may.request frame
    its = form_of bare entry frame kept.may.request same

    -- of another kind than the bare frames
    whole_by : FrameForm bare entry kept.may.request frame → (frame.kind ≡ 68 → ⊥) → (frame.kind ≡ 69 → ⊥) → (needs_bytes bare kept.may.request ≡ false) × (frame ≡ entry.frame)
    whole_by (Whole none is) no_piece no_finish = (none, is)
    whole_by (Piece profile file index bytes asked is_bare is) no_piece no_finish = absurd (no_piece (ap (λ (f : Frame). f.kind) is))
    whole_by (Finish profile file asked is_bare is) no_piece no_finish = absurd (no_finish (ap (λ (f : Frame). f.kind) is))

    pub whole_here : (frame.kind ≡ 68 → ⊥) → (frame.kind ≡ 69 → ⊥) → (needs_bytes bare kept.may.request ≡ false) × (frame ≡ entry.frame)
    whole_here no_piece no_finish = whole_by its no_piece no_finish

    not_whole : (kind : ℕ) → frame.kind ≡ 64 + kind → frame ≡ entry.frame → ⊥
    not_whole kind is whole =
        let that : frame.kind ≡ entry.frame.kind = ap (λ (f : Frame). f.kind) whole in
        absurd (omega (arith, kind_below, is, that))

    other_kind : (one other : ℕ) → frame.kind ≡ one → frame.kind ≡ other → one ≡ other
    other_kind one other a b = sym a ∙ b

    -- of the kind of a bare piece
    pub record PieceHere : Type 0 where
      pub here : (stamp : Stamp) → stamp ≡ stamp_of entry.frame → IsBarePiece setting bare history entry stamp
      pub bare_is : frame ≡ bare_piece entry.frame entry.reply
      pub spelled : SpellsReply entry.frame.version 131 (reply_bytes entry.frame.version entry.reply) entry.reply

    piece_by : FrameForm bare entry kept.may.request frame → frame.kind ≡ 68 → PieceHere
    piece_by (Whole none is) kind = absurd (not_whole 4 kind is)
    piece_by (Piece profile file index bytes asked is_bare is) kind =
        record { here = piece_here profile file index bytes asked is_bare; bare_is = is; spelled = reply_spelled 131 (taken profile file index bytes asked is_bare) }
    piece_by (Finish profile file asked is_bare is) kind = absurd (omega (arith, other_kind 68 69 kind (ap (λ (f : Frame). f.kind) is)))

    pub piece_is : frame.kind ≡ 68 → PieceHere
    piece_is kind = piece_by its kind

    -- of the kind of a bare Finish
    pub record FinishHere : Type 0 where
      pub profile : ℕ
      pub file : ℕ
      pub here : FindsWords setting → (stamp : Stamp) → stamp ≡ stamp_of entry.frame → IsBareFinish setting bare history entry stamp profile file
      pub bare_is : frame ≡ bare_finish entry.frame entry.reply
      pub kind_is : entry.frame.kind ≡ 5
      pub body_is : entry.frame.body ≡ u32_bytes profile ++ u32_bytes file
      pub numbers : IsU32 profile × IsU32 file
      pub spelled : SpellsReply entry.frame.version 132 (reply_bytes entry.frame.version entry.reply) entry.reply

    finish_by : FrameForm bare entry kept.may.request frame → frame.kind ≡ 69 → FinishHere
    finish_by (Whole none is) kind = absurd (not_whole 5 kind is)
    finish_by (Piece profile file index bytes asked is_bare is) kind = absurd (omega (arith, other_kind 69 68 kind (ap (λ (f : Frame). f.kind) is)))
    finish_by (Finish profile file asked is_bare is) kind = record {
      profile = profile;
      file = file;
      here = finish_here profile file asked is_bare;
      bare_is = is;
      kind_is = finish_kind profile file asked is_bare;
      body_is = finish_body profile file asked is_bare;
      numbers = finish_numbers profile file asked is_bare;
      spelled = reply_spelled 132 (finished profile file asked is_bare);
    }

    pub finish_is : frame.kind ≡ 69 → FinishHere
    finish_is kind = finish_by its kind
