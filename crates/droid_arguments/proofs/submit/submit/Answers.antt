use Rattle.droid_arguments.proofs.submit.submit.Goals as goal

pub returns : goal.returns
returns c =
    let made_1 = c.option.ensures _ _ c.new.ensures c.folder.ensures.rule c.folder.ensures.local in
    let made_2 = c.option-2.ensures _ _ made_1 c.port.ensures.rule c.port.ensures.local in
    let made_3 = c.option-3.ensures _ _ made_2 c.client.ensures.rule c.client.ensures.local in
    let made_4 = c.option-4.ensures _ _ made_3 c.name.ensures.rule c.name.ensures.local in
    let made_5 = c.option-5.ensures _ _ made_4 c.number.ensures.rule c.number.ensures.local in
    let made_6 = c.option-6.ensures _ _ made_5 c.number-2.ensures.rule c.number-2.ensures.local in
    let made_7 = c.option-7.ensures _ _ made_6 c.number-3.ensures.rule c.number-3.ensures.local in
    let made_8 = c.option-8.ensures _ _ made_7 c.limit.ensures.rule c.limit.ensures.local in
    let made_9 = c.option-9.ensures _ _ made_8 c.flag.ensures.rule c.flag.ensures.local in
    let made_10 = c.option-10.ensures _ _ made_9 c.named.ensures.rule c.named.ensures.local in
    let made_11 = c.option-11.ensures _ _ made_10 c.flag-2.ensures.rule c.flag-2.ensures.local in
    let made_12 = c.option-12.ensures _ _ made_11 c.named-2.ensures.rule c.named-2.ensures.local in
    let made_13 = c.option-13.ensures _ _ made_12 c.named-3.ensures.rule c.named-3.ensures.local in
    let made_14 = c.option-14.ensures _ _ made_13 c.named-4.ensures.rule c.named-4.ensures.local in
    c.option-15.ensures _ _ made_14 c.flag-3.ensures.rule c.flag-3.ensures.local
