use Rattle.droid_arguments.proofs.identify.identify.Goals as goal

pub returns : goal.returns
returns c =
    let made_1 = c.option.ensures _ _ c.new.ensures c.files.ensures.rule c.files.ensures.local in
    let made_2 = c.option-2.ensures _ _ made_1 c.short_flag.ensures.rule c.short_flag.ensures.local in
    let made_3 = c.option-3.ensures _ _ made_2 c.named.ensures.rule c.named.ensures.local in
    let made_4 = c.option-4.ensures _ _ made_3 c.short_flag-2.ensures.rule c.short_flag-2.ensures.local in
    let made_5 = c.option-5.ensures _ _ made_4 c.named-2.ensures.rule c.named-2.ensures.local in
    let made_6 = c.option-6.ensures _ _ made_5 c.flag.ensures.rule c.flag.ensures.local in
    let made_7 = c.option-7.ensures _ _ made_6 c.flag-2.ensures.rule c.flag-2.ensures.local in
    let made_8 = c.option-8.ensures _ _ made_7 c.flag-3.ensures.rule c.flag-3.ensures.local in
    let made_9 = c.option-9.ensures _ _ made_8 c.flag-4.ensures.rule c.flag-4.ensures.local in
    let made_10 = c.option-10.ensures _ _ made_9 c.named-3.ensures.rule c.named-3.ensures.local in
    let made_11 = c.option-11.ensures _ _ made_10 c.named-4.ensures.rule c.named-4.ensures.local in
    let made_12 = c.option-12.ensures _ _ made_11 c.registry.ensures.rule c.registry.ensures.local in
    let made_13 = c.option-13.ensures _ _ made_12 c.flag-5.ensures.rule c.flag-5.ensures.local in
    let made_14 = c.option-14.ensures _ _ made_13 c.limit.ensures.rule c.limit.ensures.local in
    c.option-15.ensures _ _ made_14 c.flag-6.ensures.rule c.flag-6.ensures.local
