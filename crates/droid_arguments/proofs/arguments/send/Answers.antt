use Rattle.droid_arguments.proofs.arguments.send.Goals as goal

pub returns : goal.returns
returns c =
    let made_1 = c.option.ensures _ _ c.new.ensures c.port.ensures.rule c.port.ensures.local in
    let made_2 = c.option-2.ensures _ _ made_1 c.client.ensures.rule c.client.ensures.local in
    c.option-3.ensures _ _ made_2 c.number.ensures.rule c.number.ensures.local
