-- The pieces of a document: tags, text, references and what is between them (XML 1.0, sections 2.4 to 2.7 and 3.1).
use Rattle.std.specs.Prelude.{ℕ, ◌==◌, ◌||◌, Bool, not, List, [], take, drop, codes, Option, Some}
use Rattle.std.specs.List.{position_or_len}
use Rattle.std.specs.Option.{option_map, is_some}
use Rattle.std.specs.Str.{bytes_eq, str_to_ascii_lowercase}
use Rattle.droid_xml.specs.Bytes.{◌>>=◌, only_if, choose, after, cut_at, past_spaces, past_some_space}
use Rattle.droid_xml.specs.Characters.{text_in}
use Rattle.droid_xml.specs.Names.{name_at}
use Rattle.droid_xml.specs.References.{reference_at}
use Rattle.droid_xml.specs.Tags.{Tag}

-- what a document is made of, in order
pub data Part : Type 0 where
  Start : Tag → Part
  End : List ℕ → Part
  Text : List ℕ → Part
  Data : List ℕ → Part
  Reference : ℕ → Part
  Comment : List ℕ → Part
  Instruction : List ℕ → List ℕ → Part

-- [15] Comment behind `<!--`: no `--` in it
unfoldable pub comment_at : List ℕ → Option (Part × List ℕ)
comment_at bytes = do
  cut ← cut_at (codes "--") bytes
  rest ← after (codes ">") cut.1
  text ← text_in cut.0
  Some (Comment text, rest)

-- [18] CDSect behind `<![CDATA[`
unfoldable pub data_at : List ℕ → Option (Part × List ℕ)
data_at bytes = do
  cut ← cut_at (codes "]]>") bytes
  text ← text_in cut.0
  Some (Data text, cut.1)

-- [17] PITarget: a name, but not xml in any case
abbrev pub is_target : List ℕ → Bool
is_target name = not (bytes_eq (str_to_ascii_lowercase name) (codes "xml"))

-- what stands between the target of a processing instruction and its end
unfoldable pub instruction_text : List ℕ → Option (List ℕ × List ℕ)
instruction_text bytes =
    choose (after (codes "?>") bytes) (λ rest. Some ([], rest))
    (past_some_space bytes >>= (λ rest. cut_at (codes "?>") rest))

-- [16] PI behind `<?`
unfoldable pub instruction_at : List ℕ → Option (Part × List ℕ)
instruction_at bytes = do
  name ← name_at bytes
  target ← only_if (is_target name.0) name.0
  cut ← instruction_text name.1
  text ← text_in cut.0
  Some (Instruction target text, cut.1)

-- [42] ETag behind `</`
unfoldable pub end_tag_at : List ℕ → Option (Part × List ℕ)
end_tag_at bytes = do
  name ← name_at bytes
  rest ← after (codes ">") (past_spaces name.1)
  Some (End name.0, rest)

-- a byte that text may not have: < or &
abbrev pub ends_text : ℕ → Bool
ends_text byte = byte == 60 || byte == 38

-- the number of bytes before the first < or &
abbrev pub text_len : List ℕ → ℕ
text_len bytes = position_or_len ends_text bytes

-- [14] CharData: all up to the next < or &, with no `]]>` in it
unfoldable pub text_at : List ℕ → Option (Part × List ℕ)
text_at bytes = do
  text ← text_in (take (text_len bytes) bytes)
  whole ← only_if (not (is_some (cut_at (codes "]]>") text))) text
  Some (Text whole, drop (text_len bytes) bytes)

-- a reference behind its &, as a piece
abbrev pub a_reference : List ℕ → Option (Part × List ℕ)
a_reference bytes = option_map (λ found. (Reference found.0, found.1)) (reference_at bytes)
