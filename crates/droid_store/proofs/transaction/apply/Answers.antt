use Rattle.std.proofs.Common.{FitsSigned, rules}
use Rattle.std.proofs.lemmas.Int.{to_z-of_z}
use Rattle.std.specs.Int.{w64}
use Rattle.droid_store.specs.Encoded.{words_of}
use Rattle.droid_store.proofs.transaction.apply.Goals as goal

pub returns-in-Reply-clause-applies : goal.returns-in-Reply-clause-applies
returns-in-Reply-clause-applies c = rw c.in-Reply.is (record {
  steps = λ rows apart turn saved has. has;
  saves = λ rows saved has. tt;
  memory = λ rows keys turn later small saved has none. tt;
})

pub returns-in-Profile-clause-applies : goal.returns-in-Profile-clause-applies
returns-in-Profile-clause-applies c = rw c.in-Profile.is (record {
  steps = λ rows apart turn. c.insert_profile.ensures.ok rows turn;
  saves = c.insert_profile.ensures.err;
  memory = λ rows keys turn later small. c.insert_profile.ensures.failure rows turn keys;
})

pub add_node-requires : goal.add_node-requires
add_node-requires c = let writable = rw c.in-Node.is at c.requires.writable in record { small = writable.0 }

pub returns-in-Node-clause-applies : goal.returns-in-Node-clause-applies
returns-in-Node-clause-applies c =
    let fits : FitsSigned w64 c.in-Node.modified = search rules in
    let ok = rw (to_z-of_z w64 c.in-Node.modified fits) at c.add_node.ensures.ok in
    let failure = rw (to_z-of_z w64 c.in-Node.modified fits) at c.add_node.ensures.failure in
    rw c.in-Node.is (record {
      steps = λ rows apart turn. ok rows;
      saves = c.add_node.ensures.err;
      memory = λ rows keys turn later small. failure rows (record { replies = keys.replies; children = later.children; numbers = later.numbers }) small;
    })

pub returns-in-Finish-clause-applies : goal.returns-in-Finish-clause-applies
returns-in-Finish-clause-applies c =
    let writable = rw c.in-Finish.is at c.requires.writable in
    let puids = words_of c.in-Finish.findings.formats.now in
    rw c.in-Finish.is (record {
      steps = λ rows apart turn. c.finish_node.ensures.ok rows apart puids writable.0 writable.1;
      saves = c.finish_node.ensures.err;
      memory = λ rows keys turn later small. c.finish_node.ensures.failure rows keys puids writable.1 later small;
    })

pub returns-in-Abandon-clause-applies : goal.returns-in-Abandon-clause-applies
returns-in-Abandon-clause-applies c = rw c.in-Abandon.is (record {
  steps = λ rows apart turn. c.delete_node.ensures.ok rows apart;
  saves = c.delete_node.ensures.err;
  memory = λ rows keys turn later small. c.delete_node.ensures.failure rows keys later;
})
