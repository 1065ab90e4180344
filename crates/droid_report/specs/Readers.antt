-- What a browser reads, byte by byte (HTML, the living standard, section 13.2.5, its states in this order: data,
-- character reference, tag open, end tag open, tag name, before attribute name, attribute name, before attribute value,
-- attribute value in double quotes, after attribute value). What no page has, such as comments, scripts, white space
-- elsewhere in a tag and other references, counts as a fault here.
use Rattle.std.specs.Prelude.{ℕ, ◌==◌, ◌||◌, ◌&&◌, nat_le, Bool, List, [], ◌∷◌, ◌++◌, map, codes, decimal}
use Rattle.std.specs.Prelude.{if◌then◌else◌}
use Rattle.std.specs.Str.{bytes_eq}
use Rattle.droid_report.specs.Escapes.{shown}
use Rattle.droid_report.specs.Trees.{Tree, Nothing, Text, Number, Element, Meta, Attribute, Value, Words, Count}
use Rattle.droid_report.specs.Trees.{key_name, tag_name}

-- an attribute as it is read
pub record Setting : Type 0 where
  pub name : List ℕ
  pub value : List ℕ

-- what a reader finds: a start tag, an end tag, a byte of text, or a fault
pub data Token : Type 0 where
  Start : List ℕ → List Setting → Token
  End : List ℕ → Token
  Character : ℕ → Token
  Fault : Token

-- where the reader is: in text, in a reference there, in a tag with what was read of it, or behind a fault
pub data State : Type 0 where
  Data : State
  Reference : List ℕ → State
  TagOpen : State
  EndTagOpen : State
  StartTag : List ℕ → State
  EndTag : List ℕ → State
  BeforeName : List ℕ → List Setting → State
  AttributeName : List ℕ → List Setting → List ℕ → State
  BeforeValue : List ℕ → List Setting → List ℕ → State
  InValue : List ℕ → List Setting → List ℕ → List ℕ → State
  ValueReference : List ℕ → List Setting → List ℕ → List ℕ → List ℕ → State
  AfterValue : List ℕ → List Setting → State
  Lost : State

-- the next state, and the tokens that are read with this byte
abbrev pub Step : Type 0
Step = State × List Token

-- a byte with which nothing is finished
abbrev pub goes : State → Step
goes state = (state, [])

-- a byte with which this is finished; text follows
abbrev pub says : Token → Step
says token = (Data, token ∷ [])

-- a byte that may not stand there
abbrev pub loses : Step
loses = (Lost, Fault ∷ [])

-- whether a byte is a lower-case letter
abbrev pub is_letter : ℕ → Bool
is_letter b = nat_le 97 b && nat_le b 122

-- a lower-case letter, a digit or a hyphen
abbrev pub is_name_byte : ℕ → Bool
is_name_byte b = is_letter b || (nat_le 48 b && nat_le b 57) || b == 45

-- the character of a reference
abbrev pub referred : List ℕ → (ℕ → Step) → Step
referred name found =
    if bytes_eq name (codes "amp") then found 38
    else if bytes_eq name (codes "lt") then found 60
    else if bytes_eq name (codes "gt") then found 62
    else if bytes_eq name (codes "quot") then found 34 else loses

-- what a byte does in a state
unfoldable pub step : State → ℕ → Step
step Data b = if b == 38 then goes (Reference []) else if b == 60 then goes TagOpen else says (Character b)
step (Reference name) b =
    if b == 59 then referred name (λ c. says (Character c))
    else if is_letter b then goes (Reference (name ++ b ∷ [])) else loses
step TagOpen b = if b == 47 then goes EndTagOpen else if is_letter b then goes (StartTag (b ∷ [])) else loses
step EndTagOpen b = if is_letter b then goes (EndTag (b ∷ [])) else loses
step (StartTag tag) b =
    if b == 62 then says (Start tag [])
    else if b == 32 then goes (BeforeName tag [])
    else if is_name_byte b then goes (StartTag (tag ++ b ∷ [])) else loses
step (EndTag tag) b =
    if b == 62 then says (End tag) else if is_name_byte b then goes (EndTag (tag ++ b ∷ [])) else loses
step (BeforeName tag settings) b = if is_letter b then goes (AttributeName tag settings (b ∷ [])) else loses
step (AttributeName tag settings name) b =
    if b == 61 then goes (BeforeValue tag settings name)
    else if is_name_byte b then goes (AttributeName tag settings (name ++ b ∷ [])) else loses
step (BeforeValue tag settings name) b = if b == 34 then goes (InValue tag settings name []) else loses
step (InValue tag settings name value) b =
    if b == 34 then goes (AfterValue tag (settings ++ record { name = name; value = value } ∷ []))
    else if b == 38 then goes (ValueReference tag settings name value [])
    else goes (InValue tag settings name (value ++ b ∷ []))
step (ValueReference tag settings name value reference) b =
    if b == 59 then referred reference (λ c. goes (InValue tag settings name (value ++ c ∷ [])))
    else if is_letter b then goes (ValueReference tag settings name value (reference ++ b ∷ [])) else loses
step (AfterValue tag settings) b =
    if b == 62 then says (Start tag settings)
    else if b == 32 then goes (BeforeName tag settings) else loses
step Lost b = goes Lost

-- a text may end where text stands, and nowhere else
abbrev pub ended : State → List Token
ended Data = []
ended Lost = []
ended _ = Fault ∷ []

-- the tokens of a text
unfoldable pub read : State → List ℕ → List Token
read state [] = ended state
read state (b ∷ text) = (step state b).1 ++ read (step state b).0 text

-- ---- the tokens of a tree

-- the bytes of a text, one by one
abbrev pub characters : List ℕ → List Token
characters text = map Character text

-- an attribute's value as a browser has it, with its references read
abbrev pub value_of : Value → List ℕ
value_of (Words text) = shown text
value_of (Count n) = decimal n

-- an attribute as a browser has it
abbrev pub setting_of : Attribute → Setting
setting_of attribute = record { name = key_name attribute.key; value = value_of attribute.value }

-- what a browser is to read of a tree
abbrev pub tokens_of : Tree → List Token
tokens_of Nothing = []
tokens_of (Text text more) = characters (shown text) ++ tokens_of more
tokens_of (Number n more) = characters (decimal n) ++ tokens_of more
tokens_of (Element tag attributes inside more) =
    Start (tag_name tag) (map setting_of attributes) ∷ (tokens_of inside ++ End (tag_name tag) ∷ tokens_of more)
tokens_of (Meta attributes more) = Start (codes "meta") (map setting_of attributes) ∷ tokens_of more
