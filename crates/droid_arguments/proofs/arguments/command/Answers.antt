use Rattle.droid_arguments.proofs.arguments.command.Goals as goal

pub returns : goal.returns
returns c =
    let made_1 = c.command.ensures _ _ c.top.ensures c.profile.ensures in
    let made_2 = c.command-2.ensures _ _ made_1 c.submit.ensures in
    let made_3 = c.command-3.ensures _ _ made_2 c.verify.ensures in
    let made_4 = c.command-4.ensures _ _ made_3 c.report.ensures in
    let made_5 = c.command-5.ensures _ _ made_4 c.identify.ensures in
    let made_6 = c.command-6.ensures _ _ made_5 c.conversion.ensures in
    let made_7 = c.command-7.ensures _ _ made_6 c.script.ensures in
    let made_8 = c.command-8.ensures _ _ made_7 c.run.ensures in
    let made_9 = c.command-9.ensures _ _ made_8 c.serve.ensures in
    let made_10 = c.command-10.ensures _ _ made_9 c.send.ensures in
    c.command-11.ensures _ _ made_10 c.compact.ensures
