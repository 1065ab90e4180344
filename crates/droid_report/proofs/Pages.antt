-- The text of a tree goes on with what stands behind it.
use Rattle.std.proofs.Common.{◌≡◌, ◌∙◌, ℕ, List, [], ◌∷◌, ◌++◌, append_assoc, codes, decimal, refl, sym, ap}
use Rattle.droid_report.specs.Escapes.{escape}
use Rattle.droid_report.specs.Pages.{framed, page_around, page_text, style}
use Rattle.droid_report.specs.Trees.{Attribute, Tree, Nothing, Text, Number, Element, Meta, attributes_text, key_name, tag_name, text_of, value_text}

attributes_more : (attributes : List Attribute) (x rest : List ℕ) → attributes_text attributes (x ++ rest) ≡ attributes_text attributes x ++ rest
attributes_more [] x rest = refl
attributes_more (attribute ∷ attributes) x rest =
    let more : List ℕ = attributes_text attributes x in
    ap (λ (t : List ℕ). 32 ∷ (key_name attribute.key ++ (61 ∷ 34 ∷ (value_text attribute.value ++ (34 ∷ t))))) (attributes_more attributes x rest)
    ∙ (ap (λ (t : List ℕ). 32 ∷ (key_name attribute.key ++ (61 ∷ 34 ∷ t))) (sym (append_assoc (value_text attribute.value) (34 ∷ more) rest))
    ∙ ap (λ (t : List ℕ). 32 ∷ t) (sym (append_assoc (key_name attribute.key) (61 ∷ 34 ∷ (value_text attribute.value ++ (34 ∷ more))) rest)))

pub tree_more : (tree : Tree) (x rest : List ℕ) → text_of tree (x ++ rest) ≡ text_of tree x ++ rest
tree_more Nothing x rest = refl
tree_more (Text text more) x rest = ap (λ (t : List ℕ). escape text ++ t) (tree_more more x rest) ∙ sym (append_assoc (escape text) (text_of more x) rest)
tree_more (Number n more) x rest = ap (λ (t : List ℕ). decimal n ++ t) (tree_more more x rest) ∙ sym (append_assoc (decimal n) (text_of more x) rest)
tree_more (Element tag attributes inside more) x rest =
    let name : List ℕ = tag_name tag in
    let end : List ℕ = 60 ∷ 47 ∷ (name ++ (62 ∷ text_of more x)) in
    let ends : 60 ∷ 47 ∷ (name ++ (62 ∷ text_of more (x ++ rest))) ≡ end ++ rest =
    ap (λ (t : List ℕ). 60 ∷ 47 ∷ (name ++ (62 ∷ t))) (tree_more more x rest) ∙ ap (λ (t : List ℕ). 60 ∷ 47 ∷ t) (sym (append_assoc name (62 ∷ text_of more x) rest)) in
    ap (λ (t : List ℕ). 60 ∷ (name ++ attributes_text attributes (text_of inside t))) ends
    ∙ (ap (λ (t : List ℕ). 60 ∷ (name ++ attributes_text attributes t)) (tree_more inside end rest)
    ∙ (ap (λ (t : List ℕ). 60 ∷ (name ++ t)) (attributes_more attributes (text_of inside end) rest)
    ∙ ap (λ (t : List ℕ). 60 ∷ t) (sym (append_assoc name (attributes_text attributes (text_of inside end)) rest))))
tree_more (Meta attributes more) x rest =
    ap (λ (t : List ℕ). 60 ∷ (codes "meta" ++ attributes_text attributes t)) (tree_more more x rest)
    ∙ ap (λ (t : List ℕ). 60 ∷ (codes "meta" ++ t)) (attributes_more attributes (text_of more x) rest)

style_plain : escape style ≡ style
unfolding style
style_plain = refl

pub page_framed : (title : List ℕ) (body : Tree) → page_around title (text_of body []) ≡ page_text title body
unfolding page_around page_text
page_framed title body =
    ap (framed title style) (sym (tree_more body [] (codes "</body></html>")))
    ∙ ap (λ (s : List ℕ). framed title s (text_of body (codes "</body></html>"))) (sym style_plain)
