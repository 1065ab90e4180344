use Rattle.std.proofs.Common.{Result, Ok, Err, IsOk, refl}
use Rattle.std.specs.Prelude.{MatchResult}
use Rattle.std.proofs.lemmas.Str.{IsUtf8-from_ascii}
use Rattle.droid_export.proofs.moment.moment_text.Goals as goal

is_text : {T E : Type 0} (P : T → Type 0) (Q : E → Type 0) (U : Type 0) (r : Result T E) → MatchResult r P (λ e. (¬ U) × Q e) → U → IsOk r
is_text P Q U (Ok x) h u = refl
is_text P Q U (Err e) h u = absurd (h.0 u)

pub unwrap-text-requires : goal.unwrap-text-requires
unwrap-text-requires c = is_text _ _ _ _ c.from_utf8.ensures.cases (IsUtf8-from_ascii _ c.moment_bytes-bytes.ensures.ascii)
