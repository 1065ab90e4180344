-- Line ends (XML 1.0, section 2.11): a carriage return with a line feed behind it, or alone, is a line feed.
use Rattle.std.specs.Prelude.{ℕ, ◌==◌, ◌&&◌, ◌++◌, Bool, false, if◌then◌else◌, List, [], ◌∷◌}

-- what a byte becomes; is_behind says whether a carriage return stands right before it
abbrev pub line_feed : Bool → ℕ → List ℕ
line_feed is_behind b = if b == 13 then 10 ∷ [] else if is_behind && (b == 10) then [] else b ∷ []

-- what the bytes become; is_behind is for the first of them
abbrev pub line_feeds : Bool → List ℕ → List ℕ
line_feeds is_behind [] = []
line_feeds is_behind (b ∷ bytes) = line_feed is_behind b ++ line_feeds (b == 13) bytes

-- the text with a line feed for each line end
unfoldable pub with_line_feeds : List ℕ → List ℕ
with_line_feeds bytes = line_feeds false bytes
