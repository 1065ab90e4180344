-- What was told of a file or of standard input is said.
use Rattle.std.proofs.Common.{◌≡◌, ◌<◌, ◌≤◌, Bool, true, false, ℕ, ◌+◌, ℤ, List, [], ◌∷◌, ◌++◌, length, take, get_or, inl, inr, sym, ap, subst, ◌∙◌}
use Rattle.std.proofs.lemmas.List.{take_all, take_more}
use Rattle.droid_arguments.specs.declared.identify.IdentifyForm.{IdentifyForm}
use Rattle.droid_frame.specs.declared.hash_value.HashValue.{HashValue}
use Rattle.droid_identity.specs.declared.identity.Identity.{Identity}
use Rattle.droid_pronom.specs.Registry.{Contents}
use Rattle.droid_tree.specs.Observation.{GoesOver, Observation}
use Rattle.droid_tree.specs.declared.skip_reason.Skipped.{Skipped}
use Rattle.droid_tree.proofs.Runs.{over_more, over_one}
use Rattle.droid_cmd_identify.specs.Telling.{Says, TellsFile, TellsIdentity, TellsUnread, TellsUnreadFile, nothing, printed, reported}
use Rattle.droid_cmd_identify.specs.declared.file.TreeFile.{TreeFile}
use Rattle.droid_cmd_identify.specs.declared.telling.Outcome.{Outcome}
use Rattle.droid_cmd_identify.specs.declared.telling.Outcome.TheVariants as outcomes
use Rattle.droid_cmd_identify.specs.declared.telling.Telling.{Telling}

module _ {P : Type 0} (prints : P → List ℕ → P → Type 0) (reports : P → List ℕ → List ℕ → P → Type 0) (writes : P → P → Type 0) where
  pub unread_says : (form : IdentifyForm) (first : Bool) (path why : List ℕ) (said : Bool) (printer printer_after : P)
      → TellsUnread prints reports form first path why said printer printer_after → Says prints reports writes printer true printer_after
  unread_says form first path why true printer printer_after is = printed (reported nothing is.reported) is.behind
  unread_says form first path why false printer printer_after is =
      subst (λ (p : P). Says prints reports writes printer true p) (sym is.behind.0) (reported nothing is.reported)

  pub file_unread_says : (telling : Telling) (path : List ℕ) (why : Skipped) (outcome : Outcome) (printer printer_after : P)
      → TellsUnreadFile prints reports telling path why outcome printer printer_after → Says prints reports writes printer true printer_after
  file_unread_says telling path why outcomes.Known printer printer_after is = absurd is
  file_unread_says telling path why outcomes.Unknown printer printer_after is = absurd is
  file_unread_says telling path why (outcomes.Unread said) printer printer_after is = unread_says telling.form telling.first path _ said printer printer_after is

  pub identity_says : (registry : Contents) (telling : Telling) (path name : List ℕ) (size : ℕ) (modified : ℤ) (hash : HashValue) (identity : Identity) (outcome : Outcome) (printer printer_after : P)
      → TellsIdentity prints registry telling path name size modified hash identity outcome printer printer_after → Says prints reports writes printer true printer_after
  identity_says registry telling path name size modified hash identity outcome printer printer_after is = printed nothing is.printed

  pub file_says : {T : Type 0} (observes : T → Observation → T → Type 0) (registry : Contents) (telling : Telling) (file : TreeFile) (outcome : Outcome) (tree tree_after : T) (printer printer_after : P)
      → TellsFile observes prints reports registry telling file outcome tree tree_after printer printer_after → Says prints reports writes printer true printer_after
  file_says observes registry telling file outcome tree tree_after printer printer_after is =
      elim is [
        | inl read ↦ elim read.told [
          | inl told ↦ identity_says registry telling _ _ _ _ _ _ outcome printer printer_after told.told
          | inr stops ↦ file_unread_says telling _ stops.why outcome printer printer_after stops.told
        ]
        | inr unread ↦ file_unread_says telling _ unread.why outcome printer printer_after unread.told
      ]

-- ---- one after the other

module _ {S A : Type 0} (step : S → A → S → Type 0) (items : List A) (at : ℕ) (old now : S) (front : GoesOver step old (take at items) now) where
  -- one item more
  pub goes_more : (item : A) (new : S) → step now item new → at < length items → item ≡ get_or items at item → GoesOver step old (take (at + 1) items) new
  goes_more item new next within there =
      let is : take (at + 1) items ≡ take at items ++ item ∷ [] = take_more items at item within ∙ ap (λ (e : A). take at items ++ e ∷ []) (sym there) in
      subst (λ (l : List A). GoesOver step old l new) (sym is) (over_more step old now new (take at items) (item ∷ []) front (over_one step now new item next))

  -- one item more, of a list that is read by places
  pub goes_next : (default : A) (new : S) → step now (get_or items at default) new → at < length items → GoesOver step old (take (at + 1) items) new
  goes_next default new next within =
      subst (λ (l : List A). GoesOver step old l new) (sym (take_more items at default within)) (over_more step old now new (take at items) (get_or items at default ∷ []) front (over_one step now new (get_or items at default) next))

  -- all of them
  pub goes_all : length items ≤ at → GoesOver step old items now
  goes_all over = subst (λ (l : List A). GoesOver step old l now) (take_all at items over) front
