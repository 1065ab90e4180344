-- Why a file does not have a format, in lines (this project's own).
use Rattle.std.specs.Prelude.{ℕ, List, [], ◌∷◌, ◌++◌, Option, Some, None, codes, flat_map}
use Rattle.std.specs.Fmt.{decimal}
use Rattle.droid_identity.specs.declared.found_match.Match.{Match}
use Rattle.droid_terminal.specs.Paths.{shown_text}
use Rattle.droid_cmd_identify.specs.Lines.{match_text}

-- where a byte sequence matches, or that it does not
abbrev pub tried_text : Option Match → List ℕ
tried_text None = codes "no match"
tried_text (Some its) = match_text its

-- a byte sequence behind the first
abbrev pub more_tried : Option Match → List ℕ
more_tried its = codes "; " ++ tried_text its

-- byte sequences, separated by semicolons
abbrev pub tried_texts : List (Option Match) → List ℕ
tried_texts [] = []
tried_texts (its ∷ more) = tried_text its ++ flat_map more_tried more

-- `PATH: PUID: signature NUMBER: ..`
abbrev pub tried_line : (path puid : List ℕ) → ℕ → List (Option Match) → List ℕ
tried_line path puid number matches =
    shown_text path ++ (codes ": " ++ (puid ++ (codes ": signature " ++ (decimal number ++ (codes ": "
    ++ (tried_texts matches ++ 10 ∷ []))))))

-- `PATH: PUID: OTHER has priority over it`
abbrev pub beaten_line : (path puid by : List ℕ) → List ℕ
beaten_line path puid by =
    shown_text path ++ (codes ": " ++ (puid ++ (codes ": " ++ (by ++ (codes " has priority over it" ++ 10 ∷ [])))))

-- `PATH: PUID: it has no signature`
abbrev pub no_signature_line : (path puid : List ℕ) → List ℕ
no_signature_line path puid = shown_text path ++ (codes ": " ++ (puid ++ (codes ": it has no signature" ++ 10 ∷ [])))
