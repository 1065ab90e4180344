-- The ways to take one choice for each byte sequence.
use Rattle.std.proofs.Common.{◌≡◌, ℕ, ◌+◌, ◌*◌, ◌<◌, List, [], ◌∷◌, ◌++◌, length, take, get_or, sym, ap, ◌∙◌, subst, arith}
use Rattle.std.proofs.lemmas.List.{take_more}
use Rattle.droid_signature_file.specs.Records.{ByteSequenceRecord}
use Rattle.droid_signature_pattern.specs.Choices.{AreAllTaken, IsTaken, ways}
use Rattle.droid_signature_pattern.specs.declared.choices.Choices.{Choices}

pub ways_push : (all : List Choices) (taken : Choices) → ways (all ++ taken ∷ []) ≡ ways all * length taken.texts
ways_push [] taken = omega arith
ways_push (x ∷ all) taken =
    let regrouped : length x.texts * (ways all * length taken.texts) ≡ (length x.texts * ways all) * length taken.texts = omega arith in
    ap (λ n. length x.texts * n) (ways_push all taken) ∙ regrouped

taken_push : (sequences : List ByteSequenceRecord) (all : List Choices) (sequence : ByteSequenceRecord) (taken : Choices) → AreAllTaken sequences all → IsTaken sequence taken
    → AreAllTaken (sequences ++ sequence ∷ []) (all ++ taken ∷ [])
taken_push [] [] sequence taken are is = (is, tt)
taken_push [] (x ∷ all) sequence taken are is = absurd are
taken_push (s ∷ sequences) [] sequence taken are is = absurd are
taken_push (s ∷ sequences) (x ∷ all) sequence taken (here, are) is = (here, taken_push sequences all sequence taken are is)

pub taken_more : (sequences : List ByteSequenceRecord) (i : ℕ) (sequence : ByteSequenceRecord) (all new : List Choices) (taken : Choices) → i < length sequences → sequence ≡ get_or sequences i sequence
    → AreAllTaken (take i sequences) all → IsTaken sequence taken → new ≡ all ++ taken ∷ [] → AreAllTaken (take (i + 1) sequences) new
taken_more sequences i sequence all new taken below is are one grown =
    let P : List Choices → Type 0 = λ l. AreAllTaken (take (i + 1) sequences) l in
    let Q : List ByteSequenceRecord → Type 0 = λ l. AreAllTaken l (all ++ taken ∷ []) in
    subst P (sym grown) (subst Q (ap (λ y. take i sequences ++ y ∷ []) is ∙ sym (take_more sequences i sequence below)) (taken_push (take i sequences) all sequence taken are one))

pub ways_more : (all new : List Choices) (taken : Choices) (before after : ℕ) → new ≡ all ++ taken ∷ [] → before ≡ ways all → after ≡ before * length taken.texts → after ≡ ways new
ways_more all new taken before after grown so_far made = made ∙ ap (λ n. n * length taken.texts) so_far ∙ sym (ways_push all taken) ∙ ap ways (sym grown)
