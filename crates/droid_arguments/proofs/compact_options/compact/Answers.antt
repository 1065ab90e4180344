use Rattle.droid_arguments.proofs.compact_options.compact.Goals as goal

pub returns : goal.returns
returns c =
    let made_1 = c.option.ensures _ _ c.new.ensures c.word.ensures.rule c.word.ensures.local in
    let made_2 = c.option-2.ensures _ _ made_1 c.flag.ensures.rule c.flag.ensures.local in
    let made_3 = c.option-3.ensures _ _ made_2 c.registry.ensures.rule c.registry.ensures.local in
    c.option-4.ensures _ _ made_3 c.flag-2.ensures.rule c.flag-2.ensures.local
