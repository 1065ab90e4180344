use Rattle.std.proofs.Common.{ℕ, ◌+◌, ◌-◌, ◌≤◌, List, ◌∷◌, ◌++◌, take, drop, sym, ap, subst, ◌∙◌, arith}
use Rattle.std.proofs.lemmas.List.{length-take}
use Rattle.droid_lines.specs.Reading.{HasNoFeed}
use Rattle.droid_lines.proofs.Feeds.{cut_at, moved_view, none_plain, view_empty}
use Rattle.droid_lines.proofs.line_reader.LineReader.move_line.Goals as goal

pub returns-in_ok-extend_from_slice-in-Some : goal.returns-in_ok-extend_from_slice-in-Some
returns-in_ok-extend_from_slice-in-Some c =
    let inside = c.self.inside in
    let place = c.in-Some.place in
    let held = take (inside.to - inside.from) (drop inside.from inside.chunk) in
    let cut = cut_at held place (sym c.line_end.ensures.first ∙ c.in-Some.is) in
    let room : place + 1 ≤ inside.to - inside.from = omega (arith, c.in-Some.ensures.within, length-take (inside.to - inside.from) (drop inside.from inside.chunk)) in
    record {
      front = take place held;
      plain = cut.plain;
      cut = sym c.self.view_is ∙ (cut.cut ∙ ap (λ (r : List ℕ). take place held ++ 10 ∷ r) (moved_view inside.chunk inside.from inside.to place room));
      moved = c.in_ok-extend_from_slice-in-Some.ensures.items;
    }

pub returns-in_ok-extend_from_slice-in-None : goal.returns-in_ok-extend_from_slice-in-None
returns-in_ok-extend_from_slice-in-None c =
    let inside = c.self.inside in
    let held = take (inside.to - inside.from) (drop inside.from inside.chunk) in
    record {
      plain = subst HasNoFeed c.self.view_is (none_plain held 0 (sym c.line_end.ensures.first ∙ c.in-None.is));
      none_left = view_empty inside.chunk inside.to;
      moved = c.in_ok-extend_from_slice-in-None.ensures.items ∙ ap (λ (l : List ℕ). c.args.line.now.items ++ l) c.self.view_is;
    }
