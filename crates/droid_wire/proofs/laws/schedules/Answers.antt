use Rattle.droid_wire.specs.Desks.{desk_of}
use Rattle.droid_wire.specs.Schedules.{start}
use Rattle.droid_wire.proofs.Alone.{alone}
use Rattle.droid_wire.proofs.Held.{all_held, all_once, none_reused}
use Rattle.droid_wire.proofs.Stays.{answers_stay}
use Rattle.droid_wire.proofs.laws.schedules.Goals as goal

pub returns-clause-held : goal.returns-clause-held
returns-clause-held c setting clients events ones = all_held (desk_of setting) clients events (c.answers_once.ensures setting) ones

pub returns-clause-once : goal.returns-clause-once
returns-clause-once c setting clients events ones = all_once (desk_of setting) clients events (c.answers_once.ensures setting) ones

pub returns-clause-none_reused : goal.returns-clause-none_reused
returns-clause-none_reused c setting clients events ones = none_reused (desk_of setting) clients events (c.answers_once.ensures setting) ones

pub returns-clause-answers_stay : goal.returns-clause-answers_stay
returns-clause-answers_stay c setting clients early late which number reply is = answers_stay (desk_of setting) (start clients) early late which number reply is

pub returns-clause-alone : goal.returns-clause-alone
returns-clause-alone c setting clients events apart = alone (desk_of setting) clients events apart
