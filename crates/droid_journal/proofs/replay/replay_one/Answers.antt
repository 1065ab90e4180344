use Rattle.std.proofs.Common.{rules, ◌≡◌, ◌∙◌, Bool, true, false, List, ℕ, [], ◌∷◌, ◌++◌, sym, ap, ap₂, subst, inl, inr}
use Rattle.std.specs.Prelude.{IsTrue}
use Rattle.droid_frame.specs.ReplyFrames.{reply_frame}
use Rattle.droid_journal.specs.Records.{Record, checksum, made}
use Rattle.droid_journal.specs.Machines.{extended, record_of}
use Rattle.droid_journal.proofs.Marks.{sum_is}
use Rattle.droid_journal.proofs.replay.replay_one.Goals as goal

pub handle-handled-requires : goal.handle-handled-requires
handle-handled-requires g c =
    let found = (rw c.in-Ok-Some.field-0-is at c.in-Ok-Some.ensures.found) in
    record { readable = found.0; mark = c.requires ∙ ap checksum found.1 ∙ sum_is c.in-Ok-Some.frame }

pub returns-in-Ok-None-clause-number : goal.returns-in-Ok-None-clause-number
returns-in-Ok-None-clause-number g c = λ other shown. cc

pub returns-in-Ok-None-clause-refuted : goal.returns-in-Ok-None-clause-refuted
returns-in-Ok-None-clause-refuted g c = λ other shown setting before st. inl (rw c.in-Ok-None.field-0-is at c.in-Ok-None.ensures.none)

pub returns-then-not-handled-clause-number : goal.returns-then-not-handled-clause-number
returns-then-not-handled-clause-number g c = λ other shown. cc

pub returns-then-not-handled-clause-refuted : goal.returns-then-not-handled-clause-refuted
returns-then-not-handled-clause-refuted g c = λ other shown setting before st.
    let off : c.handle-handled.result.accepted ≡ false = search rules in
    let found = (rw c.in-Ok-Some.field-0-is at c.in-Ok-Some.ensures.found) in
    inr (record {
      frame = c.in-Ok-Some.frame;
      answer = c.handle-handled.result.reply;
      accepted = c.handle-handled.result.accepted;
      spelled = found.1;
      gave = c.handle-handled.ensures.gives setting before st;
      no_memory_fault = λ is. let out : c.is_out_of_memory.result ≡ true = c.is_out_of_memory.ensures is in absurd cc;
      other = λ was. absurd cc;
    })

pub returns-then-not-is_same-clause-number : goal.returns-then-not-is_same-clause-number
returns-then-not-is_same-clause-number g c = λ other shown. cc

pub returns-then-not-is_same-clause-refuted : goal.returns-then-not-is_same-clause-refuted
returns-then-not-is_same-clause-refuted g c = λ other shown setting before st.
    let isnt : c.is_same.result ≡ false = search rules in
    let found = (rw c.in-Ok-Some.field-0-is at c.in-Ok-Some.ensures.found) in
    inr (record {
      frame = c.in-Ok-Some.frame;
      answer = c.handle-handled.result.reply;
      accepted = c.handle-handled.result.accepted;
      spelled = found.1;
      gave = c.handle-handled.ensures.gives setting before st;
      no_memory_fault = λ is. let out : c.is_out_of_memory.result ≡ true = c.is_out_of_memory.ensures is in absurd cc;
      other = λ was same. let is : IsTrue c.is_same.result = c.is_same.ensures.1 (c.deref.ensures.value ∙ c.in_ok-spelled.ensures.bytes ∙ same) in absurd cc;
    })

pub returns-clause-stands : goal.returns-clause-stands
returns-clause-stands g c = λ setting before first st.
    let handled = c.handle-handled.result in
    let frame = c.in-Ok-Some.frame in
    let found = (rw c.in-Ok-Some.field-0-is at c.in-Ok-Some.ensures.found) in
    let was : handled.accepted ≡ true = search rules in
    let shown : IsTrue c.is_same.result = search rules in
    let reply_is : reply_frame frame.version frame.client frame.number handled.reply ≡ c.args.reply.now = sym (c.deref.ensures.value ∙ c.in_ok-spelled.ensures.bytes) ∙ c.is_same.ensures.0 shown in
    let same : record_of first frame handled.reply ≡ made first c.args.request.now c.args.reply.now = ap₂ (λ (q r : List ℕ). made first q r) (sym found.1) reply_is in
    subst (λ (it : Record). g.M.Machine.stands setting c.handle-handled.new.self (before ++ it ∷ [])) same
    (subst (λ (b : Bool). g.M.Machine.stands setting c.handle-handled.new.self (extended before first frame handled.reply b)) was (c.handle-handled.ensures.stands setting before first st))

pub returns-clause-gave : goal.returns-clause-gave
returns-clause-gave g c = λ setting before first st.
    let handled = c.handle-handled.result in
    let frame = c.in-Ok-Some.frame in
    let found = (rw c.in-Ok-Some.field-0-is at c.in-Ok-Some.ensures.found) in
    let was : handled.accepted ≡ true = search rules in
    let shown : IsTrue c.is_same.result = search rules in
    let reply_is : reply_frame frame.version frame.client frame.number handled.reply ≡ c.args.reply.now = sym (c.deref.ensures.value ∙ c.in_ok-spelled.ensures.bytes) ∙ c.is_same.ensures.0 shown in
    let same : record_of first frame handled.reply ≡ made first c.args.request.now c.args.reply.now = ap₂ (λ (q r : List ℕ). made first q r) (sym found.1) reply_is in
    record {
      frame = frame;
      reply = handled.reply;
      spelled = sym same;
      gave = subst (λ (b : Bool). g.M.Machine.gives setting before frame handled.reply b) was (c.handle-handled.ensures.gives setting before st);
    }
