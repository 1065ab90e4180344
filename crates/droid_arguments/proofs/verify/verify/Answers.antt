use Rattle.droid_arguments.proofs.verify.verify.Goals as goal

pub returns : goal.returns
returns c =
    let made_1 = c.option.ensures _ _ c.new.ensures c.folder.ensures.rule c.folder.ensures.local in
    let made_2 = c.option-2.ensures _ _ made_1 c.against.ensures.rule c.against.ensures.local in
    let made_3 = c.option-3.ensures _ _ made_2 c.flag.ensures.rule c.flag.ensures.local in
    let made_4 = c.option-4.ensures _ _ made_3 c.flag-2.ensures.rule c.flag-2.ensures.local in
    let made_5 = c.option-5.ensures _ _ made_4 c.flag-3.ensures.rule c.flag-3.ensures.local in
    let made_6 = c.option-6.ensures _ _ made_5 c.registry.ensures.rule c.registry.ensures.local in
    let made_7 = c.option-7.ensures _ _ made_6 c.flag-4.ensures.rule c.flag-4.ensures.local in
    let made_8 = c.option-8.ensures _ _ made_7 c.limit.ensures.rule c.limit.ensures.local in
    let made_9 = c.option-9.ensures _ _ made_8 c.flag-5.ensures.rule c.flag-5.ensures.local in
    c.option-10.ensures _ _ made_9 c.flag-6.ensures.rule c.flag-6.ensures.local
