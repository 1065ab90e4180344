use Rattle.droid_arguments.proofs.arguments.run.Goals as goal

pub returns : goal.returns
returns c =
    let made_1 = c.option.ensures _ _ c.new.ensures c.flag.ensures.rule c.flag.ensures.local in
    let made_2 = c.option-2.ensures _ _ made_1 c.registry.ensures.rule c.registry.ensures.local in
    c.option-3.ensures _ _ made_2 c.named.ensures.rule c.named.ensures.local
