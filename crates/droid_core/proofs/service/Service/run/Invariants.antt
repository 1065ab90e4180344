-- The replies so far are those of a run over the requests so far, and there is room for the others.
use Rattle.std.proofs.Common.{◌≡◌, ◌≢◌, ◌≤◌, length}
use Rattle.std.specs.List.{AllByRecursion}
use Rattle.droid_frame.specs.declared.refusal.Refusal.TheVariants.{Store}
use Rattle.droid_frame.specs.declared.reply.Reply.{Reply}
use Rattle.droid_frame.specs.declared.reply.Reply.TheVariants.{Refused}
use Rattle.std.specs.Prelude.{vec_len, vec_capacity}
use Rattle.droid_core_spec.specs.Histories.{History}
use Rattle.droid_core_spec.specs.Setting.{Setting}
use Rattle.droid_core.specs.Running.{Runs}
use Rattle.droid_core.specs.Cached.{cache_size_of}
use Rattle.droid_core.specs.Standing.{StandsFor, limits_of, registry_of}
use Rattle.droid_core.proofs.service.Service.run.Given as goal

abbrev pub invariant-loop-frame : goal.invariant-loop-frame
invariant-loop-frame l = record {
  runs : (setting : Setting) (history : History) → StandsFor setting l.fn.self history → Runs setting history l.yielded l.replies.items l.self;
  no_store : (setting : Setting) (history : History) → StandsFor setting l.fn.self history → AllByRecursion (λ (reply : Reply). reply ≢ Refused Store) l.replies.items;
  limits : limits_of l.self ≡ limits_of l.fn.self;
  registry : registry_of l.self ≡ registry_of l.fn.self;
  cache : cache_size_of l.self ≡ cache_size_of l.fn.self;
  count : vec_len l.replies ≡ length l.yielded;
  room : vec_len l.fn.frames ≤ vec_capacity l.replies;
}
