-- Which history a service stands for.
use Rattle.droid_core_spec.specs.Histories.{History, IsLegal, world_of}
use Rattle.droid_core_spec.specs.Limits.{Limits}
use Rattle.droid_core_spec.specs.Setting.{Setting}
use Rattle.droid_pronom.specs.Registry.{Contents}
use Rattle.droid_core.specs.Replies.{KeepsReplies}
use Rattle.droid_core.specs.declared.holdings.Holdings.{Holdings}
use Rattle.droid_core.specs.HoldingsStanding.{IsIn}
use Rattle.droid_core.specs.HoldingsStanding as holdings
use Rattle.droid_core.specs.KeptTexts.{IsLastText}
use Rattle.droid_core.specs.Recent.{AreKept}
use Rattle.droid_core.specs.declared.service.Service.{Service}

-- the limits that the service was made with
abbrev pub limits_of : Service → Limits
limits_of service = holdings.limits_given service.holdings.limits

-- the registry that the service was made with
abbrev pub registry_of : Service → Contents
registry_of service = service.holdings.registry

-- the holdings stand for the history: each entry was accepted at its place, the kept replies are those of the entries,
-- and all else is the history's world
pub record Stand (setting : Setting) (holdings : Holdings) (history : History) : Type 0 where
  pub legal : IsLegal setting history
  pub replies : KeepsReplies history holdings.store
  pub world : IsIn setting (world_of setting history) holdings

-- the service stands for the history: its holdings do, each cached reply is one of the history, and a kept text is that
-- of an export in the history's world
pub record StandsFor (setting : Setting) (service : Service) (history : History) : Type 0 where
  pub holdings : Stand setting service.holdings history
  pub recent : AreKept history service.recent.rows.entries
  pub last : IsLastText setting (world_of setting history) service.last
