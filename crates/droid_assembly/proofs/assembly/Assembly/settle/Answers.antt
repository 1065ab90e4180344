use Rattle.std.proofs.Common.{◌≡◌, ◌∙◌, ℕ, ◌+◌, ◌++◌, ◌∷◌, [], List, length, take, drop, Option, Some, sym, arith, refl}
use Rattle.std.specs.List.{sum_by, count_by}
use Rattle.std.specs.Option.{is_some}
use Rattle.std.proofs.lemmas.List.{take_at}
use Rattle.droid_assembly.specs.Fields.{state_of}
use Rattle.droid_assembly.specs.State.{StandsFor, count_of}
use Rattle.droid_assembly.specs.Pieces.{Piece, file_bytes}
use Rattle.droid_assembly.specs.Kept.{weight, pieces_from}
use Rattle.droid_assembly.proofs.Whole.{settled_is, waiting_le}
use Rattle.droid_assembly.proofs.Settling.{Went, settled-sound, settled-stands, begun, spent_is, free_of}
use Rattle.droid_assembly.proofs.assembly.Assembly.settle.Goals as goal
use Rattle.droid_assembly.proofs.assembly.Assembly.settle.Goals.{After-self-3-1}

pub overflow_add-self-2 : goal.overflow_add-self-2
overflow_add-self-2 c =
    let fields = c.self.inside in
    let a = state_of fields in
    let sound = c.self.invariant in
    let pending : fields.pending ≡ Some c.unwrap-index.result = sym c.take.ensures.value ∙ c.unwrap-index.ensures in
    let free = free_of a fields.front c.unwrap-index.result sound pending in
    omega (arith, settled_is a fields.front sound, waiting_le a fields.front sound, free.is_due.1, sound.sizes.piece_size_fits, sound.sizes.size_fits, c.len.ensures)

-- the places as they are lent
abbrev lent : (c : After-self-3-1) → List (Option (List ℕ))
lent c = c.self.inside.waiting.items

-- the piece that was pending
pending_is : (c : After-self-3-1) → c.self.inside.pending ≡ Some c.unwrap-index.result
pending_is c = sym c.take.ensures.value ∙ c.unwrap-index.ensures

-- the places as they come back
places_are : (c : After-self-3-1) → length c.arrive.new.waiting ≡ 16
places_are c = omega (arith, c.arrive.auto.waiting, c.self.invariant.places)

went : (c : After-self-3-1) → Went (state_of c.self.inside) c.self.inside.front c.arrive.new.front c.arrive.new.waiting (length c.arrive.result) c.unwrap-index.result
went c =
    let fields = c.self.inside in
    let a = state_of fields in
    record {
      sound = c.self.invariant;
      same = record { first = refl; last = refl; hash = refl; width = c.self.invariant.width };
      free = free_of a fields.front c.unwrap-index.result c.self.invariant (pending_is c);
      still = c.arrive.ensures.sound;
      width = c.arrive.ensures.width;
      places = places_are c;
      along = λ pieces total count h. rw (← c.arrive.ensures.counted) (c.arrive.ensures.along pieces total count (rw c.deref_mut.ensures.value h));
      stopped = rw (← c.arrive.ensures.counted) c.arrive.ensures.stopped;
    }

-- the places are those that came back
waiting_is : (c : After-self-3-1) → take c.self.inside.waiting.len (c.arrive.new.waiting ++ drop (length c.arrive.new.waiting) (lent c)) ≡ c.arrive.new.waiting
waiting_is c =
    take_at c.arrive.new.waiting (drop (length c.arrive.new.waiting) (lent c)) c.self.inside.waiting.len
    (omega (arith, places_are c, c.self.invariant.places, c.self.inside.waiting.ok.0))

pub invariant_of-self : goal.invariant_of-self
invariant_of-self c =
    let fields = c.self.inside in
    rw (c.take.ensures.after, c.len.ensures, waiting_is c, c.arrive.ensures.counted)
    (settled-sound (state_of fields) fields.front c.arrive.new.front c.arrive.new.waiting (length c.arrive.result) c.unwrap-index.result _ (went c))

-- the pending piece is the one that the clauses name
named : (c : After-self-3-1) (piece : Piece) → c.args.self.now.pending ≡ Some piece → c.unwrap-index.result ≡ piece
named c piece pending =
    let was = rw (← c.self.view_is) at pending in
    let both : Some c.unwrap-index.result ≡ Some piece = sym (pending_is c) ∙ was in
    cc

pub returns-clause-stands : goal.returns-clause-stands
returns-clause-stands c pieces piece stands pending =
    let fields = c.self.inside in
    let a = state_of fields in
    let before : StandsFor a pieces = rw c.self.view_is stands in
    rw (c.take.ensures.after, c.len.ensures, waiting_is c, c.arrive.ensures.counted, ← named c piece pending)
    (settled-stands a fields.front c.arrive.new.front c.arrive.new.waiting (length c.arrive.result) c.unwrap-index.result _ pieces (went c) before)

pub returns-clause-spent : goal.returns-clause-spent
returns-clause-spent c pieces piece stands pending =
    let fields = c.self.inside in
    let a = state_of fields in
    let last = c.unwrap-index.result in
    let after = pieces ++ last ∷ [] in
    let before : StandsFor a pieces = rw c.self.view_is stands in
    let total = length (file_bytes a.first_missing pieces) + sum_by weight a.waiting + length last.1 in
    let count = a.first_missing + count_by is_some a.waiting + 1 in
    let along = begun a fields.front c.arrive.new.front c.arrive.new.waiting (length c.arrive.result) last pieces total count (went c) before refl refl in
    let then = settled-stands a fields.front c.arrive.new.front c.arrive.new.waiting (length c.arrive.result) last a.reserved pieces (went c) before in
    let passed : c.arrive.result ≡ pieces_from a.first_missing (length c.arrive.result) after =
    c.arrive.ensures.passed after total count (rw c.deref_mut.ensures.value along) in
    rw (← c.self.view_is, ← named c piece pending)
    (spent_is (count_of a) a.first_missing (length c.arrive.result) pieces after c.arrive.result before.least then.least passed)
