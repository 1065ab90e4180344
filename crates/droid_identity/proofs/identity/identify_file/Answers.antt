use Rattle.droid_identity.proofs.identity.identify_file.Goals as goal

pub returns : goal.returns
returns c = λ file limit size ends.
    let found = c.in_ok-found.ensures.found file limit size (rw size at ends.reached) ends.begins (rw size at ends.ends) in
    record {
      found = found;
      bases = c.in_ok-bases.ensures c.args.name.now file limit c.args.match_all ends found;
      text = rw (ends.reached, ends.begins, ends.ends, size) c.text_of-text.ensures;
    }
