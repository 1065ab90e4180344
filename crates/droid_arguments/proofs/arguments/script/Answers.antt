use Rattle.droid_arguments.proofs.arguments.script.Goals as goal

pub returns : goal.returns
returns c =
    let made_1 = c.option.ensures _ _ c.new.ensures c.flag.ensures.rule c.flag.ensures.local in
    c.option-2.ensures _ _ made_1 c.registry.ensures.rule c.registry.ensures.local
