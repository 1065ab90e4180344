-- What is answered after the look-ups in the cache and in the store is answered: they leave the service standing for the
-- same history.
use Rattle.std.proofs.Common.{◌≡◌, Bool, ◌∙◌}
use Rattle.droid_frame.specs.declared.reply.Reply.{Reply}
use Rattle.droid_frame.specs.declared.request.Request.{Request}
use Rattle.droid_core_spec.specs.Histories.{History}
use Rattle.droid_core_spec.specs.Setting.{Setting}
use Rattle.droid_core.specs.declared.stamps.Stamp.{Stamp}
use Rattle.droid_store.specs.Rows.{Rows}
use Rattle.droid_core.specs.Handled.{IsHandled}
use Rattle.droid_core.specs.Recent.{AreKept}
use Rattle.droid_core.specs.Standing.{StandsFor}
use Rattle.droid_core.specs.declared.service.Service.{Service}
use Rattle.droid_core.specs.declared.service.recent.RecentReplies.{RecentReplies}
use Rattle.droid_core.proofs.Handling.{stands_still}

abbrev looked_up : Service → Rows → RecentReplies → Service
looked_up before store recent = record { holdings = record before.holdings { store = store }; recent = recent; last = before.last }

abbrev Keeps : RecentReplies → RecentReplies → Type 0
Keeps old new = (history : History) → AreKept history old.rows.entries → AreKept history new.rows.entries

still : (before : Service) (store : Rows) (recent : RecentReplies) → store ≡ before.holdings.store → Keeps before.recent recent
    → (setting : Setting) (history : History) → StandsFor setting before history → StandsFor setting (looked_up before store recent) history
still before store recent same keeps setting history stands = record {
  holdings = stands_still setting before.holdings store history same stands.holdings;
  recent = keeps history stands.recent;
  last = stands.last;
}

pub after_look_ups : (stamp : Stamp) (request : Request) (before after : Service) (store : Rows) (recent : RecentReplies) (reply : Reply) (is_new : Bool) → store ≡ before.holdings.store → recent.rows.cap ≡ before.recent.rows.cap
    → Keeps before.recent recent → IsHandled stamp request (looked_up before store recent) after reply is_new → IsHandled stamp request before after reply is_new
after_look_ups stamp request before after store recent reply is_new same room keeps its = record {
  handles = λ setting history frame is asks stands. its.handles setting history frame is asks (still before store recent same keeps setting history stands);
  spelled = its.spelled;
  limits = its.limits;
  registry = its.registry;
  cache = its.cache ∙ room;
  text = λ setting history profile from max filter stands is is_new followed. its.text setting history profile from max filter (still before store recent same keeps setting history stands) is is_new followed;
  newness = λ setting history frame is asks stands. its.newness setting history frame is asks (still before store recent same keeps setting history stands);
}
