-- What a line says, by the bytes that were read.
use Rattle.std.proofs.Common.{◌≡◌, ◌∙◌, ℕ, List, [], ◌∷◌, ◌++◌, Option, Some, None, unwrap_or, ap, sym}
use Rattle.std.specs.Option.{option_map}
use Rattle.droid_frame.specs.declared.hash_value.HashValue.{HashValue}
use Rattle.droid_fixity.specs.Lines.{meaning_by_bytes, meaning_by_path}

pub path_says : (hash : HashValue) (bytes : Option (List ℕ)) (path : List ℕ) → Some path ≡ option_map (λ (b : List ℕ). (47 ∷ []) ++ b) bytes → meaning_by_path hash path ≡ meaning_by_bytes hash bytes
path_says hash None path is = absurd cc
path_says hash (Some bytes) path is = ap (λ (o : Option (List ℕ)). meaning_by_path hash (unwrap_or o [])) is
