-- A page (HTML, the living standard): its head is the same for all pages but for the title. A browser loads nothing for
-- it and runs no script (Content Security Policy, level 3).
use Rattle.std.specs.Prelude.{ℕ, List, [], ◌∷◌, ◌++◌, codes}
use Rattle.droid_report.specs.Escapes.{escape}
use Rattle.droid_report.specs.Trees as trees
use Rattle.droid_report.specs.Trees.{Attribute, Element, Key, Meta, Nothing, Text, Tree, Words, text_of}
use Rattle.droid_report.specs.declared.html.page.TheConstants.{STYLE}

-- an attribute with a text
abbrev pub is : Key → List ℕ → Attribute
is key text = record { key = key; value = Words text }

-- the rules of style that all pages have
unfoldable pub style : List ℕ
style = STYLE.now

-- what stands before the body: how its bytes are read, that nothing is loaded, the title and the style
abbrev pub head : List ℕ → Tree
head title =
    Meta (is trees.Charset (codes "utf-8") ∷ [])
    (Meta
    (is trees.HttpEquiv (codes "Content-Security-Policy")
    ∷ is trees.Content (codes "default-src 'none'; style-src 'unsafe-inline'") ∷ [])
    (Meta (is trees.Name (codes "viewport") ∷ is trees.Content (codes "width=device-width, initial-scale=1") ∷ [])
    (Element trees.Title [] (Text title Nothing)
    (Element trees.Style [] (Text style Nothing) Nothing))))

-- the tree of a page with this title and this in its body
abbrev pub page : List ℕ → Tree → Tree
page title body =
    Element trees.Html (is trees.Lang (codes "en") ∷ [])
    (Element trees.Head [] (head title) (Element trees.Body [] body Nothing)) Nothing

-- its text
unfoldable pub page_text : List ℕ → Tree → List ℕ
page_text title body = codes "<!DOCTYPE html>" ++ text_of (page title body) []

-- ---- the same by the text of the body

-- the text of the head, and then the rest
abbrev pub framed : List ℕ → List ℕ → List ℕ → List ℕ
framed title style rest =
    codes "<!DOCTYPE html><html lang=\"en\"><head><meta charset=\"utf-8\"><meta http-equiv=\"Content-Security-Policy\" content=\"default-src 'none'; style-src 'unsafe-inline'\"><meta name=\"viewport\" content=\"width=device-width, initial-scale=1\"><title>"
    ++ (escape title ++ (codes "</title><style>" ++ (style ++ (codes "</style></head><body>" ++ rest))))

-- the text of a page with this text as its body
unfoldable pub page_around : List ℕ → List ℕ → List ℕ
page_around title body = framed title style (body ++ codes "</body></html>")
