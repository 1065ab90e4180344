use Rattle.std.proofs.Common.{◌≡◌, List, ℕ, ◌++◌, take, drop, sym, ap, ◌∙◌, arith}
use Rattle.std.proofs.lemmas.List.{drop_at, length-take, take-append-drop}
use Rattle.md5.specs.Md5.{md5}
use Rattle.droid_journal.proofs.records.checks.is_sealed.Goals as goal

pub returns : goal.returns
returns c =
    let check = c.args.check.now in
    let start = c.args.start.now in
    let seal : List ℕ = take 4 (md5 (start ++ take 12 check)) in
    let seal_is : take 4 c.seal_of-seal.result ≡ seal = ap (λ (s : List ℕ). take 4 s) c.seal_of-seal.ensures ∙ ap (λ (b : List ℕ). take 4 (md5 (start ++ b))) c.split_at.ensures.front in (
      λ is. sym (take-append-drop 12 check) ∙ ap (λ (t : List ℕ). take 12 check ++ t) (sym c.split_at.ensures.back ∙ c.is_same.ensures.0 is ∙ seal_is),
      λ same. c.is_same.ensures.1 (c.split_at.ensures.back ∙ ap (λ (t : List ℕ). drop 12 t) same ∙ drop_at (take 12 check) seal 12 (omega (arith, length-take 12 check, c.requires)) ∙ sym seal_is),
    )
