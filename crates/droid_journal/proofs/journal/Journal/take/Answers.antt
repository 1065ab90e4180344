use Rattle.std.proofs.Common.{rules, ◌≡◌, ◌∙◌, Bool, true, false, not, List, ℕ, [], ◌∷◌, ◌++◌, refl, sym, ap, subst, inl, inr, arith}
use Rattle.droid_frame.specs.Frames.{frame_bytes, mark_of}
use Rattle.droid_frame.specs.ReplyFrames.{reply_frame}
use Rattle.droid_journal.specs.Chains.{journal_bytes}
use Rattle.droid_journal.specs.Fronts.{IsFront}
use Rattle.droid_journal.specs.Records.{made}
use Rattle.droid_journal.specs.Machines.{extended, record_of}
use Rattle.droid_journal.specs.Standing.{Stands, ahead_bytes}
use Rattle.droid_journal.proofs.Standing.{noted, part_front, turn_more}
use Rattle.droid_journal.proofs.journal.Journal.take.Goals as goal

pub returns-then-not-is_carried-clause-taken : goal.returns-then-not-is_carried-clause-taken
returns-then-not-is_carried-clause-taken g c = λ setting header synced all st. (
  true,
  false,
  inr (refl, inr (λ readable. let is : c.is_carried.result ≡ true = c.is_carried.ensures.readable readable in let isnt : c.is_carried.result ≡ false = search rules in absurd cc, refl)),
  st,
)

-- the rooms are no part of what the journal stands for
pub returns-in-Err-clause-taken : goal.returns-in-Err-clause-taken
returns-in-Err-clause-taken g c = λ setting header synced all st. (
  true,
  false,
  inr (refl, inl refl),
  record {
    machine = st.machine;
    file = st.file;
    on_disk = st.on_disk;
    turn = st.turn;
    key = st.key;
    place = st.place;
    fit = st.fit;
    clean = st.clean;
    begins = st.begins;
  },
)

pub handle-handled-requires : goal.handle-handled-requires
handle-handled-requires g c =
    let shown : c.is_carried.result ≡ true = search rules in
    record {
      readable = record {
        is_frame = record {
          version_fits = omega arith;
          kind_fits = omega arith;
          client_fits = omega arith;
          number_fits = omega arith;
          body_fits = c.is_carried.ensures.body shown;
          body_is_bytes = c.is_carried.ensures.bytes;
        };
        version_is = c.is_carried.ensures.version shown;
      };
      mark = c.mark-mark.ensures ∙ ap (mark_of c.args.frame.kind) c.as_slice.ensures.value;
    }

pub returns-then-not-handled-clause-taken : goal.returns-then-not-handled-clause-taken
returns-then-not-handled-clause-taken g c = λ setting header synced all st.
    let handled = c.handle-handled.result in
    let frame = c.args.frame in
    let off : handled.accepted ≡ false = search rules in (
      true,
      false,
      inl (subst (λ (b : Bool). g.M.Machine.gives setting all frame handled.reply b) off (c.handle-handled.ensures.gives setting all st.machine)),
      record {
        machine = subst (λ (b : Bool). g.M.Machine.stands setting c.handle-handled.new.self (extended all true frame handled.reply b)) off (c.handle-handled.ensures.stands setting all true st.machine);
        file = st.file;
        on_disk = st.on_disk;
        turn = st.turn;
        key = st.key;
        place = st.place;
        fit = st.fit;
        clean = st.clean;
        begins = st.begins;
      },
    )

pub returns-in-Ok-note-clause-taken : goal.returns-in-Ok-note-clause-taken
returns-in-Ok-note-clause-taken g c = λ setting header synced all st.
    let handled = c.handle-handled.result in
    let frame = c.args.frame in
    let old = c.args.self.now in
    let first : Bool = not old.unsynced in
    let reply : List ℕ = reply_frame frame.version frame.client frame.number handled.reply in
    let was : handled.accepted ≡ true = search rules in
    let request_is : c.deref.result.now ≡ frame_bytes frame = c.deref.ensures.value ∙ c.in-Ok.ensures in
    let stood = subst (λ (b : Bool). g.M.Machine.stands setting c.handle-handled.new.self (extended all first frame handled.reply b)) was (c.handle-handled.ensures.stands setting all first st.machine) in
    let stood_here = subst (λ (q : List ℕ). g.M.Machine.stands setting c.handle-handled.new.self (all ++ made first q reply ∷ [])) (sym request_is) stood in
    let stood_there = subst (λ (m : g.row.M.Denot). g.M.Machine.stands setting m (all ++ made first c.deref.result.now reply ∷ [])) (sym c.note.ensures.machine) stood_here in
    let after = noted g.F.LogFile.has g.F.LogFile.kept (g.M.Machine.stands setting) header old c.note.new.self synced all (made first c.deref.result.now reply) st c.in-Ok-note.ensures.fits refl
    (c.in-Ok-note.ensures.appended (journal_bytes header all ++ ahead_bytes header all old.ahead) st.file) c.note.ensures.kept stood_there c.note.ensures.key c.in-Ok-note.ensures.place c.in-Ok-note.ensures.ahead c.in-Ok-note.ensures.unsynced in (
      first,
      true,
      inl (subst (λ (b : Bool). g.M.Machine.gives setting all frame handled.reply b) was (c.handle-handled.ensures.gives setting all st.machine)),
      subst (λ (q : List ℕ). Stands g.F.LogFile.has g.F.LogFile.kept (g.M.Machine.stands setting) header c.note.new.self synced (all ++ made first q reply ∷ [])) request_is after,
    )

pub returns-clause-part : goal.returns-clause-part
returns-clause-part g c = λ setting header synced all st.
    let handled = c.handle-handled.result in
    let frame = c.args.frame in
    let old = c.args.self.now in
    let first : Bool = not old.unsynced in
    let reply : List ℕ = reply_frame frame.version frame.client frame.number handled.reply in
    let was : handled.accepted ≡ true = search rules in
    let request_is : c.deref.result.now ≡ frame_bytes frame = c.deref.ensures.value ∙ c.in-Ok.ensures in
    let start : List ℕ = journal_bytes header all ++ ahead_bytes header all old.ahead in
    let left = c.in-Err-note.ensures.part start st.file in
    let front = part_front g.F.LogFile.has g.F.LogFile.kept (g.M.Machine.stands setting) header old synced all (made first c.deref.result.now reply) left.0 st refl left.2 in
    record {
      written = all ++ record_of first frame handled.reply ∷ [];
      turn = turn_more synced all (record_of first frame handled.reply) old.unsynced st.clean refl st.turn;
      bytes = start ++ left.0;
      in_file = left.1;
      front = subst (λ (q : List ℕ). IsFront (start ++ left.0) (journal_bytes header (all ++ made first q reply ∷ []))) request_is front;
      which = (first, handled.reply, subst (λ (b : Bool). g.M.Machine.gives setting all frame handled.reply b) was (c.handle-handled.ensures.gives setting all st.machine), refl);
    }

pub returns-in-Ok-note-clause-unwritten : goal.returns-in-Ok-note-clause-unwritten
returns-in-Ok-note-clause-unwritten g c = λ setting records st none.
    let handled = c.handle-handled.result in
    let was : handled.accepted ≡ true = search rules in
    absurd (none handled.reply (subst (λ (b : Bool). g.M.Machine.gives setting records c.args.frame handled.reply b) was (c.handle-handled.ensures.gives setting records st)))

pub returns-clause-unwritten : goal.returns-clause-unwritten
returns-clause-unwritten g c = λ setting records st none.
    let handled = c.handle-handled.result in
    let was : handled.accepted ≡ true = search rules in
    absurd (none handled.reply (subst (λ (b : Bool). g.M.Machine.gives setting records c.args.frame handled.reply b) was (c.handle-handled.ensures.gives setting records st)))
