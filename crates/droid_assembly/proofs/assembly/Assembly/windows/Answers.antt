use Rattle.std.proofs.Common.{◌≡◌, ◌∙◌, ap, length, refl}
use Rattle.droid_frame.specs.RunningHashes.{running_kind}
use Rattle.droid_assembly.specs.Fields.{state_of}
use Rattle.droid_assembly.specs.State.{StandsFor, IsUnchanged}
use Rattle.droid_assembly.specs.declared.assembly.Assembly.TheInside.{Inside}
use Rattle.droid_assembly.specs.declared.front.Front.{Front}
use Rattle.droid_assembly.proofs.Whole.{first-whole, last-whole, length-first, length-last}
use Rattle.droid_assembly.proofs.assembly.Assembly.windows.Goals as goal

-- with the front that it had, nothing has changed
unchanged_by : (fields : Inside) (front : Front) → front ≡ fields.front → IsUnchanged (state_of fields) (state_of (record fields { front = front }))
unchanged_by fields front same =
    rw same (record {
      same_file = record { size = refl; piece_size = refl; scan_limit = refl; hash_kind = refl {a = running_kind fields.front.hash}; reserved = refl };
      missing = refl;
      pending = refl;
      stands = λ pieces h. h;
    })

pub returns : goal.returns
returns c =
    let a = state_of c.self.inside in
    let sound = c.self.invariant in
    let complete = rw (← c.self.view_is) at c.requires.complete in
    let first = c.windows.ensures.first in
    let last = c.windows.ensures.last in (
      (
        refl,
        (λ _. tt),
        rw (← c.self.view_is) (unchanged_by c.self.inside c.windows.follows.lender-at-none c.windows.follows.holds-at-none),
      ),
      record {
        unchanged = tt;
        first = λ pieces stands.
            let before : StandsFor a pieces = rw c.self.view_is stands in
            rw (← c.self.view_is) (first ∙ first-whole a c.self.inside.front pieces sound complete before);
        last = λ pieces stands.
            let before : StandsFor a pieces = rw c.self.view_is stands in
            rw (← c.self.view_is) (last ∙ last-whole a c.self.inside.front pieces sound complete before);
        first_len = rw (← c.self.view_is) (ap length first ∙ length-first a c.self.inside.front sound complete);
        last_len = rw (← c.self.view_is) (ap length last ∙ length-last a c.self.inside.front sound complete);
      },
    )
