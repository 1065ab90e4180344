-- What the call for a request comes to, said once for all eight kinds.
use Rattle.std.specs.Prelude.{◌≡◌}
use Rattle.droid_frame.specs.Replies.{HasReplySpelling}
use Rattle.droid_frame.specs.declared.reply.Reply.{Reply}
use Rattle.droid_core_spec.specs.Judging.{Verdict}
use Rattle.droid_core_spec.specs.Setting.{Setting}
use Rattle.droid_core_spec.specs.World.{World}
use Rattle.droid_core.specs.Changes.{Comes}
use Rattle.droid_core.specs.HoldingsStanding.{IsIn}
use Rattle.droid_core.specs.declared.holdings.Holdings.{Holdings}
use Rattle.droid_core.specs.declared.stamps.Stamp.{Stamp}

-- In each world in which the service may be, the reply is that of the request's verdict there, and the service is then
-- in the world that the verdict leaves; or memory ran out, and nothing changed. The reply has a spelling in the
-- request's version, and the limits and the registry stay.
pub record AnswersIn (MayBe : Setting → World → Type 0) (judged : Setting → World → Verdict) (stamp : Stamp)
    (old new : Holdings) (reply : Reply) : Type 0 where
  pub comes : (setting : Setting) (world : World) → MayBe setting world
      → Comes setting world old new stamp (judged setting world) reply
  pub spelled : HasReplySpelling stamp.version reply
  pub limits : new.limits ≡ old.limits
  pub registry : new.registry ≡ old.registry

-- the same, where the service may be in each world whose rows and assemblies it has
abbrev pub Answers : (Setting → World → Verdict) → Stamp → Holdings → Holdings → Reply → Type 0
Answers judged stamp old new reply = AnswersIn (λ setting world. IsIn setting world old) judged stamp old new reply
