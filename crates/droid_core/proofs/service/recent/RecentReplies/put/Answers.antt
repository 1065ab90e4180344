use Rattle.droid_core.proofs.RecentRows.{put_kept, put_room}
use Rattle.droid_core.proofs.service.recent.RecentReplies.put.Goals as goal

pub returns : goal.returns
returns c = record {
  kept = λ history all its. put_kept history c.put.result c.args.self.now.rows c.put.new.self (c.args.client, c.args.number) c.args.row c.put.ensures.entries c.put.ensures.err all its;
  room = put_room c.put.result c.args.self.now.rows c.put.new.self (c.args.client, c.args.number) c.args.row c.put.ensures.entries c.put.ensures.err;
}
