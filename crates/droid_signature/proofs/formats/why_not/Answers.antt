-- A format has the PUID already.
use Rattle.std.proofs.Common.{◌≡◌, ℕ, Bool, true, Option, Some, None, refl}
use Rattle.std.specs.Prelude.{is_some}
use Rattle.droid_pronom.specs.Registry.{place_of}
use Rattle.droid_signature.specs.Formats.{puid_in}
use Rattle.droid_signature.proofs.formats.why_not.Goals as goal

there : (o : Option ℕ) (t : Bool) → t ≡ is_some o → t ≡ true → (x : ℕ) × (o ≡ Some x)
there None t is holds = absurd cc
there (Some x) t is holds = (x, refl)

pub returns-then-has-clause-some : goal.returns-then-has-clause-some
returns-then-has-clause-some c = λ formats are count.
    let has : c.has.result ≡ is_some (place_of (puid_in c.args.format.now) formats) = rw c.puid_of-puid.ensures at (c.has.ensures formats are) in
    there (place_of (puid_in c.args.format.now) formats) c.has.result has c.if-has.true
