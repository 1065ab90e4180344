-- Flags that are set one after another, for the rows of a table.
use Rattle.std.proofs.Common.{◌≡◌, ◌⊎◌, ℕ, ◌<◌, Bool, true, false, List, [], ◌∷◌, length, inl, inr, set, replicate}
use Rattle.droid_pronom.specs.Registry.{AnyOf}
use Rattle.droid_pronom.specs.FoundWindows.{Stands, AreFlagsOf}
use Rattle.droid_pronom.proofs.Flags.{set_here, set_keeps, set_only, unset}

-- T holds of the places whose flags are set, or of which a row that is left says Q
pub record Marks {X : Type 0} (Q : ℕ → X → Type 0) (flags : List Bool) (left : List X) (T : ℕ → Type 0) : Type 0 where
  pub to : (k : ℕ) → T k → Stands flags k ⊎ AnyOf (Q k) left
  pub from_flag : (k : ℕ) → Stands flags k → T k
  pub from_row : (k : ℕ) → AnyOf (Q k) left → T k

pub marks_start : {X : Type 0} (Q : ℕ → X → Type 0) (n : ℕ) (xs : List X) → Marks Q (replicate n false) xs (λ k. AnyOf (Q k) xs)
marks_start Q n xs = record { to = λ k t. inr t; from_flag = λ k s. absurd (unset n k s); from_row = λ k a. a }

pub marks_end : {X : Type 0} (Q : ℕ → X → Type 0) (flags : List Bool) (T : ℕ → Type 0) → Marks Q flags [] T → AreFlagsOf flags T
marks_end Q flags T m k = (λ s. m.from_flag k s, λ t. elim (m.to k t) [ inl s ↦ s | inr a ↦ absurd a ])

-- the row says Q of this place and no other, and its flag is set
pub marks_set : {X : Type 0} (Q : ℕ → X → Type 0) (flags : List Bool) (x : X) (xs : List X) (T : ℕ → Type 0) (p : ℕ)
    → Marks Q flags (x ∷ xs) T → p < length flags → Q p x → ((k : ℕ) → Q k x → p ≡ k) → Marks Q (set flags p true) xs T
marks_set Q flags x xs T p m below says only = record {
  to = λ k t. elim (m.to k t) [
    | inl s ↦ inl (set_keeps flags p k s)
    | inr a ↦ elim a [ inl q ↦ inl (rw (← only k q) (set_here flags p below)) | inr rest ↦ inr rest ]
  ];
  from_flag = λ k s. elim (set_only flags p k s) [ inl e ↦ m.from_row k (inl (rw e says)) | inr old ↦ m.from_flag k old ];
  from_row = λ k a. m.from_row k (inr a);
}

-- the row says nothing that the flags don't
pub marks_skip : {X : Type 0} (Q : ℕ → X → Type 0) (flags : List Bool) (x : X) (xs : List X) (T : ℕ → Type 0)
    → Marks Q flags (x ∷ xs) T → ((k : ℕ) → Q k x → Stands flags k) → Marks Q flags xs T
marks_skip Q flags x xs T m known = record {
  to = λ k t. elim (m.to k t) [ inl s ↦ inl s | inr a ↦ elim a [ inl q ↦ inl (known k q) | inr rest ↦ inr rest ] ];
  from_flag = m.from_flag;
  from_row = λ k a. m.from_row k (inr a);
}
