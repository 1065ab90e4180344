use Rattle.droid_journal.proofs.room.Room.as_slice.Goals as goal

pub returns : goal.returns
returns c = rw (← c.self.view_is) c.as_slice.ensures.value
