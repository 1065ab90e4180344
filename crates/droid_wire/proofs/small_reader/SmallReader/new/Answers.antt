use Rattle.droid_wire.proofs.small_reader.SmallReader.new.Goals as goal

pub returns-in-Ok-clause-empty : goal.returns-in-Ok-clause-empty
returns-in-Ok-clause-empty c = λ recovery limits registry. record { recovers = c.in-Ok.ensures.empty recovery limits registry; noted = λ is. absurd cc; none = λ isnt none. none }
