use Rattle.std.proofs.Common.{◌≡◌, ◌++◌, ◌∷◌, [], Contains, None, inl, refl, sym, ◌∙◌}
use Rattle.std.proofs.lemmas.Bool.{false≢true}
use Rattle.droid_remote.specs.Events.{Cut, Sent, Came, Lost, Written}
use Rattle.droid_remote.proofs.Going.{goes_none, goes_on, goes_one}
use Rattle.droid_remote.proofs.Repeating.{explains_lost, kept_both, repeated_now}
use Rattle.droid_remote.proofs.transfer.new_connection.repeat.Goals as goal

pub returns-in_default-clause-repeated : goal.returns-in_default-clause-repeated
returns-in_default-clause-repeated g c = λ all waiting facts are. record {
  goes = goes_none g.C.Connection.does all (Contains waiting) facts _;
  kept = λ stands fact there. there;
  repeated = λ stands known is. let none : c.args.known.now ≡ None = c.in_default.is in let wrong : ⊥ = cc in absurd wrong;
}

pub returns-then-not-write-clause-repeated : goal.returns-then-not-write-clause-repeated
returns-then-not-write-clause-repeated g c = λ all waiting facts are.
    let known = c.in-Some.known in
    record {
      goes = goes_one g.C.Connection.does all (Contains waiting) facts _ _ (Cut known.request) c.if-not-write.ensures (inl (known, are known c.in-Some.is, refl));
      kept = λ stands. absurd (false≢true stands);
      repeated = λ stands. absurd (false≢true stands);
    }

pub returns-in_default-read-clause-repeated : goal.returns-in_default-read-clause-repeated
returns-in_default-read-clause-repeated g c = λ all waiting facts are.
    let known = c.in-Some.known in
    record {
      goes = goes_on g.C.Connection.does all (Contains waiting) facts _ _ _
          (goes_one g.C.Connection.does all (Contains waiting) facts _ _ (Sent known.request) c.if-not-write.ensures (inl (known, are known c.in-Some.is, refl)))
          (goes_one g.C.Connection.does all (Contains waiting) (facts ++ Written known.request ∷ []) _ _ Lost c.in_default-read.ensures.lost tt);
      kept = λ stands. absurd (false≢true stands);
      repeated = λ stands. absurd (false≢true stands);
    }

pub returns-then-is_same-clause-repeated : goal.returns-then-is_same-clause-repeated
returns-then-is_same-clause-repeated g c = λ all waiting facts are.
    let known = c.in-Some.known in
    let same = c.is_same.ensures.0 c.if-is_same.true in
    record {
      goes = goes_on g.C.Connection.does all (Contains waiting) facts _ _ _
          (goes_one g.C.Connection.does all (Contains waiting) facts _ _ (Sent known.request) c.if-not-write.ensures (inl (known, are known c.in-Some.is, refl)))
          (goes_one g.C.Connection.does all (Contains waiting) (facts ++ Written known.request ∷ []) _ _ (Came c.in-Ok.came) c.in-Ok.ensures.came tt);
      kept = λ stands fact there. kept_both facts known.request c.in-Ok.came fact there;
      repeated = λ stands one is. repeated_now facts known one c.in-Ok.came same (sym c.in-Some.is ∙ is);
    }

pub returns-clause-stopped : goal.returns-clause-stopped
returns-clause-stopped g c = λ all waiting facts are.
    let known = c.in-Some.known in
    record {
      goes = goes_on g.C.Connection.does all (Contains waiting) facts _ _ _
          (goes_one g.C.Connection.does all (Contains waiting) facts _ _ (Sent known.request) c.if-not-write.ensures (inl (known, are known c.in-Some.is, refl)))
          (goes_one g.C.Connection.does all (Contains waiting) (facts ++ Written known.request ∷ []) _ _ (Came c.in-Ok.came) c.in-Ok.ensures.came tt);
      explained = explains_lost all (Contains waiting) facts (Sent known.request ∷ Came c.in-Ok.came ∷ []) c.why_other.result c.why_other.ensures
          (record { known = known; came = c.in-Ok.came; is = are known c.in-Some.is; last = ([], refl); other = λ same. false≢true (sym c.if-is_same.false ∙ c.is_same.ensures.1 same) });
    }
