use Rattle.std.proofs.Common.{ℕ, List, [], ◌++◌, ◌∙◌, ap, ap₂, lit<}
use Rattle.md5.specs.Md5.{md5}
use Rattle.droid_hash.proofs.Eight.{below_eight}
use Rattle.droid_compaction.specs.Sums.{body_in, kind_in}
use Rattle.droid_compaction.proofs.sums.digests_of.Goals as goal

pub returns : goal.returns
returns c = below_eight _
    (c.digests.ensures 0 (lit< tt) _ (c.update-2.ensures 0 (lit< tt) _ (c.update.ensures 0 (lit< tt) [] (c.new-lanes.ensures 0 (lit< tt))))
    ∙ ap₂ (λ (k b : List ℕ). md5 (k ++ b)) (c.kind_at.ensures ∙ ap (kind_in c.args.form) c.last_of.ensures) (c.body_at.ensures ∙ ap (body_in c.args.form) c.last_of-9.ensures))
    (c.digests.ensures 1 (lit< tt) _ (c.update-2.ensures 1 (lit< tt) _ (c.update.ensures 1 (lit< tt) [] (c.new-lanes.ensures 1 (lit< tt))))
    ∙ ap₂ (λ (k b : List ℕ). md5 (k ++ b)) (c.kind_at-2.ensures ∙ ap (kind_in c.args.form) c.last_of-2.ensures) (c.body_at-2.ensures ∙ ap (body_in c.args.form) c.last_of-10.ensures))
    (c.digests.ensures 2 (lit< tt) _ (c.update-2.ensures 2 (lit< tt) _ (c.update.ensures 2 (lit< tt) [] (c.new-lanes.ensures 2 (lit< tt))))
    ∙ ap₂ (λ (k b : List ℕ). md5 (k ++ b)) (c.kind_at-3.ensures ∙ ap (kind_in c.args.form) c.last_of-3.ensures) (c.body_at-3.ensures ∙ ap (body_in c.args.form) c.last_of-11.ensures))
    (c.digests.ensures 3 (lit< tt) _ (c.update-2.ensures 3 (lit< tt) _ (c.update.ensures 3 (lit< tt) [] (c.new-lanes.ensures 3 (lit< tt))))
    ∙ ap₂ (λ (k b : List ℕ). md5 (k ++ b)) (c.kind_at-4.ensures ∙ ap (kind_in c.args.form) c.last_of-4.ensures) (c.body_at-4.ensures ∙ ap (body_in c.args.form) c.last_of-12.ensures))
    (c.digests.ensures 4 (lit< tt) _ (c.update-2.ensures 4 (lit< tt) _ (c.update.ensures 4 (lit< tt) [] (c.new-lanes.ensures 4 (lit< tt))))
    ∙ ap₂ (λ (k b : List ℕ). md5 (k ++ b)) (c.kind_at-5.ensures ∙ ap (kind_in c.args.form) c.last_of-5.ensures) (c.body_at-5.ensures ∙ ap (body_in c.args.form) c.last_of-13.ensures))
    (c.digests.ensures 5 (lit< tt) _ (c.update-2.ensures 5 (lit< tt) _ (c.update.ensures 5 (lit< tt) [] (c.new-lanes.ensures 5 (lit< tt))))
    ∙ ap₂ (λ (k b : List ℕ). md5 (k ++ b)) (c.kind_at-6.ensures ∙ ap (kind_in c.args.form) c.last_of-6.ensures) (c.body_at-6.ensures ∙ ap (body_in c.args.form) c.last_of-14.ensures))
    (c.digests.ensures 6 (lit< tt) _ (c.update-2.ensures 6 (lit< tt) _ (c.update.ensures 6 (lit< tt) [] (c.new-lanes.ensures 6 (lit< tt))))
    ∙ ap₂ (λ (k b : List ℕ). md5 (k ++ b)) (c.kind_at-7.ensures ∙ ap (kind_in c.args.form) c.last_of-7.ensures) (c.body_at-7.ensures ∙ ap (body_in c.args.form) c.last_of-15.ensures))
    (c.digests.ensures 7 (lit< tt) _ (c.update-2.ensures 7 (lit< tt) _ (c.update.ensures 7 (lit< tt) [] (c.new-lanes.ensures 7 (lit< tt))))
    ∙ ap₂ (λ (k b : List ℕ). md5 (k ++ b)) (c.kind_at-8.ensures ∙ ap (kind_in c.args.form) c.last_of-8.ensures) (c.body_at-8.ensures ∙ ap (body_in c.args.form) c.last_of-16.ensures))
