use Rattle.droid_arguments.proofs.registry_options.conversion.Goals as goal

pub returns : goal.returns
returns c =
    let made_1 = c.option.ensures _ _ c.new.ensures c.word.ensures.rule c.word.ensures.local in
    let made_2 = c.option-2.ensures _ _ made_1 c.named.ensures.rule c.named.ensures.local in
    c.option-3.ensures _ _ made_2 c.flag.ensures.rule c.flag.ensures.local
