use Rattle.std.proofs.Common.{rules, ◌≡◌, true, length, ap, arith}
use Rattle.std.proofs.lemmas.List.{length-drop}
use Rattle.droid_compaction.proofs.BareSizes.{bare_finish_long, bare_piece_long}
use Rattle.droid_compaction.proofs.rewriter.bare_of.Goals as goal

pub returns-then-is_about-clause-most : goal.returns-then-is_about-clause-most
returns-then-is_about-clause-most c =
    let shown : c.is_about.result ≡ true = search rules in
    let request = c.args.request.now in
    let reply = c.args.reply.now in
    omega (arith, ap length c.in_ok-bare.ensures.bytes, bare_piece_long request reply c.requires.header, length-drop 18 reply, c.is_about.ensures.reply shown)

pub returns-clause-most : goal.returns-clause-most
returns-clause-most c =
    let shown : c.is_about-2.result ≡ true = search rules in
    let request = c.args.request.now in
    let reply = c.args.reply.now in
    omega (arith, ap length c.in_ok-bare-2.ensures.bytes, bare_finish_long request reply c.requires.header, length-drop 18 reply, c.is_about-2.ensures.request shown, c.is_about-2.ensures.reply shown)
