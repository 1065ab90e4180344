-- The first byte sequences become choices, of which there are as many ways as counted.
use Rattle.std.proofs.Common.{◌≡◌, ◌≤◌, take, vec_len}
use Rattle.droid_signature_pattern.specs.Choices.{AreAllTaken, ways}
use Rattle.droid_signature_pattern.proofs.choices.choices_of_sequences.Given as goal

abbrev pub invariant-loop-sequence : goal.invariant-loop-sequence
invariant-loop-sequence l = AreAllTaken (take l.sequence-index l.sequences) l.all.items × (l.count ≡ ways l.all.items) × (l.count ≤ 64) × (vec_len l.all ≡ l.sequence-index)
