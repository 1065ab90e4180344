use Rattle.std.proofs.Common.{◌≡◌, ℕ, ◌+◌, ◌-◌, ◌≤◌, List, ◌∷◌, ◌++◌, take, drop, sym, ap, subst, ◌∙◌, arith}
use Rattle.std.proofs.lemmas.List.{length-take}
use Rattle.droid_cmd_identify.specs.NameLists.{HasNoEnd, NamesLeft}
use Rattle.droid_cmd_identify.proofs.NameLemmas.{cut_at, moved_view, none_plain, view_empty}
use Rattle.droid_cmd_identify.proofs.name_reader.NameReader.move_name.Goals as goal

pub returns-in_ok-keep-in-Some-clause-moved : goal.returns-in_ok-keep-in-Some-clause-moved
returns-in_ok-keep-in-Some-clause-moved c =
    let inside = c.self.inside in
    let place = c.in-Some.place in
    let held = take (inside.to - inside.from) (drop inside.from inside.chunk) in
    let rest = take (inside.to - (inside.from + (place + 1))) (drop (inside.from + (place + 1)) inside.chunk) in
    let same : held ≡ c.args.self.now.bytes = ap (λ (n : NamesLeft). n.bytes) c.self.view_is in
    let end : inside.end ≡ c.args.self.now.end = ap (λ (n : NamesLeft). n.end) c.self.view_is in
    let cut = cut_at inside.end held place (sym c.end_place.ensures.first ∙ c.in-Some.is) in
    let room : place + 1 ≤ inside.to - inside.from = omega (arith, c.in-Some.ensures.within, length-take (inside.to - inside.from) (drop inside.from inside.chunk)) in
    record {
      more = take place held;
      plain = subst (λ (e : ℕ). HasNoEnd e (take place held)) end cut.plain;
      cut = sym same
          ∙ (cut.cut
          ∙ (ap (λ (r : List ℕ). take place held ++ (inside.end ∷ r)) (moved_view inside.chunk inside.from inside.to place room)
          ∙ ap (λ (e : ℕ). take place held ++ (e ∷ rest)) end));
      kept = c.in_ok-keep-in-Some.ensures;
    }

pub returns-in_ok-keep-in-None-clause-moved : goal.returns-in_ok-keep-in-None-clause-moved
returns-in_ok-keep-in-None-clause-moved c =
    let inside = c.self.inside in
    let held = take (inside.to - inside.from) (drop inside.from inside.chunk) in
    let same : held ≡ c.args.self.now.bytes = ap (λ (n : NamesLeft). n.bytes) c.self.view_is in
    let end : inside.end ≡ c.args.self.now.end = ap (λ (n : NamesLeft). n.end) c.self.view_is in
    record {
      plain = subst (λ (e : ℕ). HasNoEnd e c.args.self.now.bytes) end (subst (HasNoEnd inside.end) same (none_plain inside.end held 0 (sym c.end_place.ensures.first ∙ c.in-None.is)));
      none_left = view_empty inside.chunk inside.to;
      kept = rw same at c.in_ok-keep-in-None.ensures;
    }
