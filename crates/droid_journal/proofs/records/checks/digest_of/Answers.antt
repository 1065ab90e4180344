use Rattle.std.proofs.Common.{rules, ◌≡◌, List, ℕ, [], ◌∷◌, ◌++◌, take, ap, ◌∙◌, append_assoc}
use Rattle.std.specs.Int.{w64, to_be_bytes}
use Rattle.md5.specs.Md5.{md5}
use Rattle.droid_journal.specs.Records.{by_form, checksum, digest, first_byte, place_bytes}
use Rattle.droid_journal.proofs.records.checks.digest_of.Goals as goal

joined : (start check stands head front mark reply : List ℕ) → ((((((start ++ check) ++ stands) ++ head) ++ front) ++ mark) ++ reply) ≡ start ++ (check ++ (stands ++ (head ++ (front ++ (mark ++ reply)))))
joined start check stands head front mark reply = simp append_assoc

pub returns : goal.returns
unfolding digest
returns c =
    let start = c.args.key.start in
    let check = c.args.place.check in
    let stands = c.of_form.result.now in
    let head : List ℕ = c.from.result ∷ [] in
    let front : List ℕ = take 18 c.args.request.now in
    let mark = c.args.sum.now in
    let reply = c.args.reply.now in
    let held = c.update-7.ensures _ (c.update-6.ensures _ (c.update-5.ensures _ (c.update-4.ensures _ (c.update-3.ensures _ (c.update-2.ensures _ (c.update.ensures [] c.new-hasher.ensures)))))) in
    let sum = c.finalize.ensures _ held in
    let there : stands ≡ place_bytes c.args.key.form c.args.place = c.of_form.ensures ∙ ap (λ (t : List ℕ). by_form c.args.key.form [] t) c.bytes_of-stands.ensures in
    let same : mark ≡ checksum c.args.request.now = c.requires.sum in
    let byte : c.from.result ≡ first_byte c.args.first = search rules in
    sum ∙ ap md5 (joined start check stands head front mark reply)
    ∙ ap (λ (t : List ℕ). md5 (start ++ (check ++ (t ++ (head ++ (front ++ (mark ++ reply))))))) there
    ∙ ap (λ (t : List ℕ). md5 (start ++ (check ++ (place_bytes c.args.key.form c.args.place ++ (head ++ (front ++ (t ++ reply))))))) same
    ∙ ap (λ (b : ℕ). md5 (start ++ (check ++ (place_bytes c.args.key.form c.args.place ++ (b ∷ (front ++ (checksum c.args.request.now ++ reply))))))) byte
