use Rattle.std.proofs.Common.{List, ℕ, [], ◌∷◌, ◌++◌, length, ap, ◌∙◌}
use Rattle.std.specs.Int.{w32, to_be_bytes}
use Rattle.std.specs.Prelude.{codes, replicate}
use Rattle.md5.specs.Md5.{md5}
use Rattle.droid_cmd_serve.proofs.Headers.{appended, text_size}
use Rattle.droid_cmd_serve.proofs.header.header_text.Goals as goal

pub returns-clause-text : goal.returns-clause-text
returns-clause-text c =
    appended (codes "droid_desk journal 4" ++ 10 ∷ []) (to_be_bytes w32 64) (to_be_bytes w32 100000) (to_be_bytes w32 64) (replicate 31 0) (md5 c.args.registry.now) _ _ _ _ _ _
    (c.in_ok-text.ensures.items ∙ c.as_bytes.ensures.value)
    (c.in_ok-extend_from_slice.ensures.items ∙ ap (λ (d : List ℕ). c.in_ok-text.text.items ++ d) c.to_be_bytes.ensures)
    (c.in_ok-extend_from_slice-2.ensures.items ∙ ap (λ (d : List ℕ). c.extend_from_slice.new.self.items ++ d) c.to_be_bytes-2.ensures)
    (c.in_ok-extend_from_slice-3.ensures.items ∙ ap (λ (d : List ℕ). c.extend_from_slice-2.new.self.items ++ d) c.to_be_bytes-3.ensures)
    c.in_ok-extend_from_slice-4.ensures.items
    (c.in_ok-extend_from_slice-5.ensures.items ∙ ap (λ (d : List ℕ). c.extend_from_slice-4.new.self.items ++ d) c.digest_of-digest.ensures)

pub returns-clause-size : goal.returns-clause-size
returns-clause-size c = ap length (returns-clause-text c) ∙ text_size c.args.registry.now
