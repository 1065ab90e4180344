-- An edit of a list that is put together of two and a row between them.
use Rattle.std.proofs.Common.{◌≡◌, ℕ, suc, ◌-◌, ◌<◌, ◌≤◌, List, ◌∷◌, ◌++◌, length, set, ap, ◌∙◌, refl, arith}
use Rattle.std.specs.List.{insert, remove}
use Rattle.std.proofs.lemmas.List.{set-append_left, set-append_right}
use Rattle.std.proofs.lemmas.List.Edits.{insert-append_left, insert-append_right, remove-append_left, remove-append_right}
use Rattle.sqlite_value.specs.Order.{Row}

module _ (left : List Row) (row : Row) (right : List Row) where
  pub set_left : (at : ℕ) (new : Row) → at < length left → set (left ++ row ∷ right) at new ≡ set left at new ++ row ∷ right
  set_left at new low = set-append_left left (row ∷ right) at new low

  pub set_here : (at : ℕ) (new : Row) → length left ≡ at → set (left ++ row ∷ right) at new ≡ left ++ new ∷ right
  set_here at new here =
      let none : at - at ≡ 0 = omega arith in
      set-append_right left (row ∷ right) at at new here (omega arith) ∙ ap (λ n. left ++ set (row ∷ right) n new) none

  pub set_right : (at : ℕ) (new : Row) → length left < at → set (left ++ row ∷ right) at new ≡ left ++ row ∷ set right (at - length left - 1) new
  set_right at new high =
      let next : at - length left ≡ suc (at - length left - 1) = omega arith in
      set-append_right left (row ∷ right) (length left) at new refl (omega arith) ∙ ap (λ n. left ++ set (row ∷ right) n new) next

  pub insert_left : (at : ℕ) (new : Row) → at ≤ length left → insert (left ++ row ∷ right) at new ≡ insert left at new ++ row ∷ right
  insert_left at new low = insert-append_left left (row ∷ right) at new low

  pub insert_right : (at : ℕ) (new : Row) → length left < at → insert (left ++ row ∷ right) at new ≡ left ++ row ∷ insert right (at - length left - 1) new
  insert_right at new high =
      let next : at - length left ≡ suc (at - length left - 1) = omega arith in
      insert-append_right left (row ∷ right) (length left) at new refl (omega arith) ∙ ap (λ n. left ++ insert (row ∷ right) n new) next

  pub remove_left : (at : ℕ) → at < length left → remove (left ++ row ∷ right) at ≡ remove left at ++ row ∷ right
  remove_left at low = remove-append_left left (row ∷ right) at low

  pub remove_right : (at : ℕ) → length left < at → remove (left ++ row ∷ right) at ≡ left ++ row ∷ remove right (at - length left - 1)
  remove_right at high =
      let next : at - length left ≡ suc (at - length left - 1) = omega arith in
      remove-append_right left (row ∷ right) (length left) at refl (omega arith) ∙ ap (λ n. left ++ remove (row ∷ right) n) next

  pub remove_here : (at : ℕ) → length left ≡ at → remove (left ++ row ∷ right) at ≡ left ++ right
  remove_here at here =
      let none : at - at ≡ 0 = omega arith in
      remove-append_right left (row ∷ right) at at here (omega arith) ∙ ap (λ n. left ++ remove (row ∷ right) n) none
