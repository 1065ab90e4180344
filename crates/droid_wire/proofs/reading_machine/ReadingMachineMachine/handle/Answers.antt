use Rattle.std.proofs.Common.{nat_lt}
use Rattle.droid_frame.specs.Replies.{is_refused}
use Rattle.droid_wire.proofs.Accepting.{came, held, held_not, read_failed, read_goes}
use Rattle.droid_wire.proofs.HistoryLaws.{records_then}
use Rattle.droid_wire.proofs.reading_machine.ReadingMachineMachine.handle.Goals as goal

pub handle_marked-answered-requires : goal.handle_marked-answered-requires
handle_marked-answered-requires c = record { mark = c.requires.mark; bytes = c.requires.readable.is_frame.body_is_bytes }

pub returns-clause-gives : goal.returns-clause-gives
returns-clause-gives c = λ start records stood.
    let reply = c.handle_marked-answered.result.reply in
    let accepted = c.belongs-accepted.result in
    let all = came start.setting stood.history c.args.frame reply c.handle_marked-answered.new.self accepted
    (read_failed start.setting stood.history c.args.frame reply accepted c.requires.readable c.belongs-accepted.ensures.refused c.belongs-accepted.ensures.accepted)
    (read_goes start.setting stood.history c.args.frame reply accepted c.requires.readable c.belongs-accepted.ensures.refused c.belongs-accepted.ensures.accepted)
    (c.handle_marked-answered.ensures.handles start.setting stood.history stood.stands) in
    record {
      history = stood.history;
      its = stood.its;
      readable = c.requires.readable;
      spelled = c.handle_marked-answered.ensures.spelled;
      handled = all.0;
      answered = all.2;
      command = held (nat_lt c.args.frame.kind 7) accepted c.belongs-accepted.ensures.query;
      unrefused = held_not (is_refused reply) accepted c.belongs-accepted.ensures.refused;
    }

pub returns-clause-stands : goal.returns-clause-stands
returns-clause-stands c = λ start records first stood.
    let reply = c.handle_marked-answered.result.reply in
    let accepted = c.belongs-accepted.result in
    let all = came start.setting stood.history c.args.frame reply c.handle_marked-answered.new.self accepted
    (read_failed start.setting stood.history c.args.frame reply accepted c.requires.readable c.belongs-accepted.ensures.refused c.belongs-accepted.ensures.accepted)
    (read_goes start.setting stood.history c.args.frame reply accepted c.requires.readable c.belongs-accepted.ensures.refused c.belongs-accepted.ensures.accepted)
    (c.handle_marked-answered.ensures.handles start.setting stood.history stood.stands) in
    record {
      history = _;
      its = records_then start.setting start.base records first stood.history c.args.frame reply accepted c.requires.readable c.handle_marked-answered.ensures.spelled stood.its all.2
          (held (nat_lt c.args.frame.kind 7) accepted c.belongs-accepted.ensures.query) (held_not (is_refused reply) accepted c.belongs-accepted.ensures.refused);
      stands = all.1;
    }
