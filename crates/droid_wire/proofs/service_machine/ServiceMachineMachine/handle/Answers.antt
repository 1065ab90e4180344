use Rattle.droid_wire.proofs.Accepting.{came, new_added, new_failed, new_goes}
use Rattle.droid_wire.proofs.HistoryLaws.{records_then}
use Rattle.droid_wire.proofs.service_machine.ServiceMachineMachine.handle.Goals as goal

pub handle_marked-answered-requires : goal.handle_marked-answered-requires
handle_marked-answered-requires c = record { mark = c.requires.mark; bytes = c.requires.readable.is_frame.body_is_bytes }

pub returns-clause-gives : goal.returns-clause-gives
returns-clause-gives c = λ start records stood.
    let reply = c.handle_marked-answered.result.reply in
    let accepted = c.handle_marked-answered.result.is_new in
    let added = c.handle_marked-answered.ensures.is_new start.setting stood.history stood.stands in
    let all = came start.setting stood.history c.args.frame reply c.handle_marked-answered.new.self accepted
    (new_failed start.setting stood.history c.args.frame reply accepted added) (new_goes start.setting stood.history c.args.frame reply accepted added)
    (c.handle_marked-answered.ensures.handles start.setting stood.history stood.stands) in
    let its = new_added start.setting stood.history c.args.frame reply accepted added c.requires.readable all.2 in
    record {
      gives = record {
        history = stood.history;
        its = stood.its;
        readable = c.requires.readable;
        spelled = c.handle_marked-answered.ensures.spelled;
        handled = all.0;
        answered = all.2;
        command = λ is. (its is).1;
        unrefused = λ is. (its is).2;
      };
      is_new = λ is. (its is).0;
    }

pub returns-clause-stands : goal.returns-clause-stands
returns-clause-stands c = λ start records first stood.
    let reply = c.handle_marked-answered.result.reply in
    let accepted = c.handle_marked-answered.result.is_new in
    let added = c.handle_marked-answered.ensures.is_new start.setting stood.history stood.stands in
    let all = came start.setting stood.history c.args.frame reply c.handle_marked-answered.new.self accepted
    (new_failed start.setting stood.history c.args.frame reply accepted added) (new_goes start.setting stood.history c.args.frame reply accepted added)
    (c.handle_marked-answered.ensures.handles start.setting stood.history stood.stands) in
    let its = new_added start.setting stood.history c.args.frame reply accepted added c.requires.readable all.2 in
    record {
      history = _;
      its = records_then start.setting start.base records first stood.history c.args.frame reply accepted c.requires.readable c.handle_marked-answered.ensures.spelled stood.its all.2 (λ is. (its is).1) (λ is. (its is).2);
      stands = all.1;
    }
