-- What a browser reads from the text of a tree.
use Rattle.std.proofs.Common.{◌≡◌, ◌∙◌, ◌==◌, decimal, ℕ, false, cond, List, [], ◌∷◌, ◌++◌, append_assoc, append-nil, codes, map, refl, sym, ap}
use Rattle.droid_report.specs.Escapes.{shown}
use Rattle.droid_report.specs.Readers.{Token, Start, End, Character, Data, Reference, TagOpen, StartTag, BeforeName, BeforeValue, InValue, ValueReference, AfterValue, Setting, Step, goes, says, step, read, characters, setting_of, tokens_of, value_of}
use Rattle.droid_report.specs.Trees.{Tree, Nothing, Text, Number, Element, Meta, Tag, Key, Attribute, Value, Words, Count, attributes_text, key_name, tag_name, text_of, value_text, Html, Head, Title, Style, Body, Main, Section, H1, H2, P, Table, Caption, Thead, Tbody, Tr, Th, Td, A, Bdi, Svg, Rect, Lang, Charset, Name, Content, HttpEquiv, Class, Href, Rel, Scope, AriaHidden, Viewbox, PreserveAspectRatio, Width, Height}
use Rattle.droid_report.proofs.Escaping.{TakesText, number_taken, text_taken}

-- ---- texts

characters_more : (seen : List ℕ) (c : ℕ) (tokens : List Token) → characters seen ++ Character c ∷ tokens ≡ characters (seen ++ c ∷ []) ++ tokens
characters_more [] c tokens = refl
characters_more (d ∷ seen) c tokens = ap (λ (ts : List Token). Character d ∷ ts) (characters_more seen c tokens)

one_character : (c : ℕ) (rest : List ℕ) → (c == 38) ≡ false → (c == 60) ≡ false → read Data (c ∷ rest) ≡ Character c ∷ read Data rest
unfolding read step
one_character c rest amp less =
    ap (λ b. (cond b (goes (Reference [])) (cond (c == 60) (goes TagOpen) (says (Character c)))).1 ++ read (cond b (goes (Reference [])) (cond (c == 60) (goes TagOpen) (says (Character c)))).0 rest) amp
    ∙ ap (λ b. (cond b (goes TagOpen) (says (Character c))).1 ++ read (cond b (goes TagOpen) (says (Character c))).0 rest) less

abbrev in_text : List ℕ → List ℕ → List Token
in_text seen rest = characters seen ++ read Data rest

text_takes : TakesText in_text
unfolding read step
text_takes = record {
  plain = λ seen rest c a l q. ap (λ (ts : List Token). characters seen ++ ts) (one_character c rest a l) ∙ characters_more seen c (read Data rest);
  amp = λ seen rest. characters_more seen 38 (read Data rest);
  less = λ seen rest. characters_more seen 60 (read Data rest);
  greater = λ seen rest. characters_more seen 62 (read Data rest);
  quote = λ seen rest. characters_more seen 34 (read Data rest);
}

-- ---- attributes

one_of_value : (tag : List ℕ) (settings : List Setting) (name value : List ℕ) (c : ℕ) (rest : List ℕ) → (c == 38) ≡ false → (c == 34) ≡ false
    → read (InValue tag settings name value) (c ∷ rest) ≡ read (InValue tag settings name (value ++ c ∷ [])) rest
unfolding read step
one_of_value tag settings name value c rest amp quote =
    let after : Step = goes (AfterValue tag (settings ++ record { name = name; value = value } ∷ [])) in
    let reference : Step = goes (ValueReference tag settings name value []) in
    let more : Step = goes (InValue tag settings name (value ++ c ∷ [])) in
    ap (λ b. (cond b after (cond (c == 38) reference more)).1 ++ read (cond b after (cond (c == 38) reference more)).0 rest) quote
    ∙ ap (λ b. (cond b reference more).1 ++ read (cond b reference more).0 rest) amp

value_takes : (tag : List ℕ) (settings : List Setting) (name : List ℕ) → TakesText (λ seen rest. read (InValue tag settings name seen) rest)
unfolding read step
value_takes tag settings name = record {
  plain = λ seen rest c a l q. one_of_value tag settings name seen c rest a q;
  amp = λ seen rest. refl;
  less = λ seen rest. refl;
  greater = λ seen rest. refl;
  quote = λ seen rest. refl;
}

value_read : (tag : List ℕ) (settings : List Setting) (name : List ℕ) (value : Value) (rest : List ℕ)
    → read (BeforeValue tag settings name) (34 ∷ (value_text value ++ (34 ∷ rest))) ≡ read (AfterValue tag (settings ++ record { name = name; value = value_of value } ∷ [])) rest
unfolding read step
value_read tag settings name (Words text) rest = text_taken (λ seen rest. read (InValue tag settings name seen) rest) (value_takes tag settings name) text [] (34 ∷ rest)
value_read tag settings name (Count n) rest = number_taken (λ seen rest. read (InValue tag settings name seen) rest) (value_takes tag settings name) n [] (34 ∷ rest)

key_read : (key : Key) (tag : List ℕ) (settings : List Setting) (rest : List ℕ) → read (BeforeName tag settings) (key_name key ++ (61 ∷ rest)) ≡ read (BeforeValue tag settings (key_name key)) rest
unfolding read step
key_read Lang tag settings rest = refl
key_read Charset tag settings rest = refl
key_read Name tag settings rest = refl
key_read Content tag settings rest = refl
key_read HttpEquiv tag settings rest = refl
key_read Class tag settings rest = refl
key_read Href tag settings rest = refl
key_read Rel tag settings rest = refl
key_read Scope tag settings rest = refl
key_read AriaHidden tag settings rest = refl
key_read Viewbox tag settings rest = refl
key_read PreserveAspectRatio tag settings rest = refl
key_read Width tag settings rest = refl
key_read Height tag settings rest = refl

one_attribute : (attribute : Attribute) (tag : List ℕ) (settings : List Setting) (rest : List ℕ)
    → read (BeforeName tag settings) (key_name attribute.key ++ (61 ∷ 34 ∷ (value_text attribute.value ++ (34 ∷ rest)))) ≡ read (AfterValue tag (settings ++ setting_of attribute ∷ [])) rest
one_attribute attribute tag settings rest =
    key_read attribute.key tag settings (34 ∷ (value_text attribute.value ++ (34 ∷ rest))) ∙ value_read tag settings (key_name attribute.key) attribute.value rest

more_attributes : (attributes : List Attribute) (tag : List ℕ) (settings : List Setting) (rest : List ℕ)
    → read (AfterValue tag settings) (attributes_text attributes rest) ≡ Start tag (settings ++ map setting_of attributes) ∷ read Data rest
unfolding read step
more_attributes [] tag settings rest = ap (λ (s : List Setting). Start tag s ∷ read Data rest) (sym (append-nil settings))
more_attributes (attribute ∷ attributes) tag settings rest =
    one_attribute attribute tag settings (attributes_text attributes rest)
    ∙ (more_attributes attributes tag (settings ++ setting_of attribute ∷ []) rest
    ∙ ap (λ (s : List Setting). Start tag s ∷ read Data rest) (append_assoc settings (setting_of attribute ∷ []) (map setting_of attributes)))

attributes_read : (attributes : List Attribute) (tag : List ℕ) (rest : List ℕ) → read (StartTag tag) (attributes_text attributes rest) ≡ Start tag (map setting_of attributes) ∷ read Data rest
unfolding read step
attributes_read [] tag rest = refl
attributes_read (attribute ∷ attributes) tag rest =
    one_attribute attribute tag [] (attributes_text attributes rest) ∙ more_attributes attributes tag (setting_of attribute ∷ []) rest

-- ---- tags

start_read : (tag : Tag) (rest : List ℕ) → read Data (60 ∷ (tag_name tag ++ rest)) ≡ read (StartTag (tag_name tag)) rest
unfolding read step
start_read Html rest = refl
start_read Head rest = refl
start_read Title rest = refl
start_read Style rest = refl
start_read Body rest = refl
start_read Main rest = refl
start_read Section rest = refl
start_read H1 rest = refl
start_read H2 rest = refl
start_read P rest = refl
start_read Table rest = refl
start_read Caption rest = refl
start_read Thead rest = refl
start_read Tbody rest = refl
start_read Tr rest = refl
start_read Th rest = refl
start_read Td rest = refl
start_read A rest = refl
start_read Bdi rest = refl
start_read Svg rest = refl
start_read Rect rest = refl

end_read : (tag : Tag) (rest : List ℕ) → read Data (60 ∷ 47 ∷ (tag_name tag ++ (62 ∷ rest))) ≡ End (tag_name tag) ∷ read Data rest
unfolding read step
end_read Html rest = refl
end_read Head rest = refl
end_read Title rest = refl
end_read Style rest = refl
end_read Body rest = refl
end_read Main rest = refl
end_read Section rest = refl
end_read H1 rest = refl
end_read H2 rest = refl
end_read P rest = refl
end_read Table rest = refl
end_read Caption rest = refl
end_read Thead rest = refl
end_read Tbody rest = refl
end_read Tr rest = refl
end_read Th rest = refl
end_read Td rest = refl
end_read A rest = refl
end_read Bdi rest = refl
end_read Svg rest = refl
end_read Rect rest = refl

meta_read : (rest : List ℕ) → read Data (60 ∷ (codes "meta" ++ rest)) ≡ read (StartTag (codes "meta")) rest
unfolding read step
meta_read rest = refl

-- ---- trees

tree_read : (tree : Tree) (rest : List ℕ) → read Data (text_of tree rest) ≡ tokens_of tree ++ read Data rest
tree_read Nothing rest = refl
tree_read (Text text more) rest =
    text_taken in_text text_takes text [] (text_of more rest)
    ∙ (ap (λ (ts : List Token). characters (shown text) ++ ts) (tree_read more rest) ∙ sym (append_assoc (characters (shown text)) (tokens_of more) (read Data rest)))
tree_read (Number n more) rest =
    number_taken in_text text_takes n [] (text_of more rest)
    ∙ (ap (λ (ts : List Token). characters (decimal n) ++ ts) (tree_read more rest) ∙ sym (append_assoc (characters (decimal n)) (tokens_of more) (read Data rest)))
tree_read (Element tag attributes inside more) rest =
    let ending : List ℕ = 60 ∷ 47 ∷ (tag_name tag ++ (62 ∷ text_of more rest)) in
    let last : read Data ending ≡ End (tag_name tag) ∷ (tokens_of more ++ read Data rest) =
    end_read tag (text_of more rest) ∙ ap (λ (ts : List Token). End (tag_name tag) ∷ ts) (tree_read more rest) in
    start_read tag (attributes_text attributes (text_of inside ending))
    ∙ (attributes_read attributes (tag_name tag) (text_of inside ending)
    ∙ ap (λ (ts : List Token). Start (tag_name tag) (map setting_of attributes) ∷ ts)
    (tree_read inside ending
    ∙ (ap (λ (ts : List Token). tokens_of inside ++ ts) last
    ∙ sym (append_assoc (tokens_of inside) (End (tag_name tag) ∷ tokens_of more) (read Data rest)))))
tree_read (Meta attributes more) rest =
    meta_read (attributes_text attributes (text_of more rest))
    ∙ (attributes_read attributes (codes "meta") (text_of more rest)
    ∙ ap (λ (ts : List Token). Start (codes "meta") (map setting_of attributes) ∷ ts) (tree_read more rest))

pub page_read : (tree : Tree) → read Data (text_of tree []) ≡ tokens_of tree
unfolding read
page_read tree = tree_read tree [] ∙ append-nil (tokens_of tree)
