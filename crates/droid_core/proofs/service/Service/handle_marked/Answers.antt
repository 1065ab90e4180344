use Rattle.std.proofs.Common.{◌≡◌, ℕ, List, Some, refl, sym, ap, ◌∙◌}
use Rattle.droid_frame.specs.declared.refusal.Refusal.TheVariants.{Malformed}
use Rattle.droid_frame.specs.declared.reply.Reply.TheVariants.{Refused}
use Rattle.droid_core.specs.declared.stamps.Stamp.{Stamp}
use Rattle.droid_core_spec.proofs.Asked.{asked, is_asked, nothing_asked}
use Rattle.droid_core.specs.Standing.{StandsFor}
use Rattle.droid_core.proofs.AddedEntries.{malformed_adds}
use Rattle.droid_core.proofs.Handling.{handles_malformed, never_store}
use Rattle.droid_core.proofs.service.Service.handle_marked.Goals as goal

some_same : {A : Type 0} {one other : A} → Some one ≡ Some other → one ≡ other
some_same e = cc

pub returns-in-Ok-clause-handles : goal.returns-in-Ok-clause-handles
returns-in-Ok-clause-handles c = λ setting history stands.
    let frame = c.args.frame in
    let stamp : List ℕ → Stamp = λ mark. record { client = frame.client; number = frame.number; version = frame.version; mark = mark } in
    let spelled = c.in-Ok.ensures.found in
    c.answer.ensures.answers.handles setting history frame (ap stamp c.requires.mark) (asked frame c.in-Ok.request spelled.0 spelled.1) stands

pub returns-in-Ok-clause-text : goal.returns-in-Ok-clause-text
returns-in-Ok-clause-text c = λ setting history profile from max filter stands asks is_new followed.
    let spelled = c.in-Ok.ensures.found in
    let same = sym (asked c.args.frame c.in-Ok.request spelled.0 spelled.1) ∙ asks in
    c.answer.ensures.answers.text setting history profile from max filter stands (some_same same) is_new followed

pub returns-in-Err-Malformed-clause-handles : goal.returns-in-Err-Malformed-clause-handles
returns-in-Err-Malformed-clause-handles c = λ setting history stands.
    handles_malformed setting history c.args.frame (StandsFor setting c.args.self.now) (nothing_asked c.args.frame c.requires.bytes ((rw c.in-Err-Malformed.field-0-is at c.in-Err-Malformed.ensures.malformed).0 refl)) stands

pub returns-in-Err-Memory-clause-handles : goal.returns-in-Err-Memory-clause-handles
returns-in-Err-Memory-clause-handles c = λ setting history stands.
    let spelled = (rw c.in-Err-Memory.field-0-is at c.in-Err-Memory.ensures.memory) refl in
    (is_asked c.args.frame spelled.2 spelled.1 spelled.3, stands)

pub returns-in-Ok-clause-no_store : goal.returns-in-Ok-clause-no_store
returns-in-Ok-clause-no_store c = λ setting history stands.
    never_store setting history c.args.frame _ (StandsFor setting c.answer.new.service) stands.holdings.legal (returns-in-Ok-clause-handles c setting history stands)

pub returns-in-Err-Malformed-clause-no_store : goal.returns-in-Err-Malformed-clause-no_store
returns-in-Err-Malformed-clause-no_store c = λ setting history stands.
    never_store setting history c.args.frame _ (StandsFor setting c.args.self.now) stands.holdings.legal (returns-in-Err-Malformed-clause-handles c setting history stands)

pub returns-in-Err-Memory-clause-no_store : goal.returns-in-Err-Memory-clause-no_store
returns-in-Err-Memory-clause-no_store c = λ setting history stands.
    never_store setting history c.args.frame _ (StandsFor setting c.args.self.now) stands.holdings.legal (returns-in-Err-Memory-clause-handles c setting history stands)

pub answer-requires-clause-version : goal.answer-requires-clause-version
answer-requires-clause-version c = c.in-Ok.ensures.found.1.version_is

pub returns-in-Ok-clause-other_version : goal.returns-in-Ok-clause-other_version
returns-in-Ok-clause-other_version c = λ isnt.
    let is = c.in-Ok.ensures.found.1.version_is in
    absurd cc

pub returns-in-Err-Memory-clause-other_version : goal.returns-in-Err-Memory-clause-other_version
returns-in-Err-Memory-clause-other_version c = λ isnt.
    let spelled = (rw c.in-Err-Memory.field-0-is at c.in-Err-Memory.ensures.memory) refl in
    let is = spelled.3.version_is in
    absurd cc

pub returns-in-Ok-clause-is_new : goal.returns-in-Ok-clause-is_new
returns-in-Ok-clause-is_new c = λ setting history stands.
    let frame = c.args.frame in
    let stamp : List ℕ → Stamp = λ mark. record { client = frame.client; number = frame.number; version = frame.version; mark = mark } in
    let spelled = c.in-Ok.ensures.found in
    c.answer.ensures.answers.newness setting history frame (ap stamp c.requires.mark) (asked frame c.in-Ok.request spelled.0 spelled.1) stands

pub returns-in-Err-Malformed-clause-is_new : goal.returns-in-Err-Malformed-clause-is_new
returns-in-Err-Malformed-clause-is_new c = λ setting history stands.
    malformed_adds setting history c.args.frame (Refused Malformed) (nothing_asked c.args.frame c.requires.bytes ((rw c.in-Err-Malformed.field-0-is at c.in-Err-Malformed.ensures.malformed).0 refl))
