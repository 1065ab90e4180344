-- A page of tables: a title, what the page is about, and tables with a title and a note each.
use Rattle.std.specs.Prelude.{ℕ, List, [], ◌∷◌, ◌++◌, codes, String, Vec, string_bytes}
use Rattle.std.specs.List.{flat_map}
use Rattle.std.specs.declared.alloc.Global.{Global}
use Rattle.droid_report.specs.Escapes.{escape}
use Rattle.droid_report.specs.Pages.{is}
use Rattle.droid_report.specs.Trees as trees
use Rattle.droid_report.specs.Trees.{Attribute, Count, Element, Key, Meta, Nothing, Number, Text, Tree, text_of}
use Rattle.droid_report.specs.declared.html.tables.Cell.{Cell}
use Rattle.droid_report.specs.declared.html.tables.Cell.TheVariants as cells
use Rattle.droid_report.specs.declared.html.tables.Table.{Table}

-- one tree and then another
abbrev pub then : Tree → Tree → Tree
then Nothing other = other
then (Text text more) other = Text text (then more other)
then (Number n more) other = Number n (then more other)
then (Element tag attributes inside more) other = Element tag attributes inside (then more other)
then (Meta attributes more) other = Meta attributes (then more other)

-- a tree for each of these, side by side
abbrev pub each : {X : Type 0} → (X → Tree) → List X → Tree
each tree [] = Nothing
each tree (x ∷ xs) = then (tree x) (each tree xs)

-- an attribute that is a number
abbrev pub number_at : Key → ℕ → Attribute
number_at key n = record { key = key; value = Count n }

-- a bar as a picture that is 1,000 wide; its number stands beside it, so a reader of the screen skips it
abbrev pub bar : ℕ → Tree
bar share =
    Element trees.Svg
    (is trees.Viewbox (codes "0 0 1000 20") ∷ is trees.PreserveAspectRatio (codes "none")
    ∷ is trees.AriaHidden (codes "true") ∷ [])
    (Element trees.Rect (number_at trees.Width share ∷ is trees.Height (codes "20") ∷ []) Nothing Nothing) Nothing

-- a cell with a text that leads elsewhere
abbrev pub link_tree : List ℕ → List ℕ → Tree
link_tree target text =
    Element trees.Td []
    (Element trees.A (is trees.Href target ∷ is trees.Rel (codes "noreferrer") ∷ []) (Text text Nothing) Nothing)
    Nothing

-- a cell; a text may run in either direction, whatever stands around it
abbrev pub cell_tree : Cell → Tree
cell_tree (cells.Text text) =
    Element trees.Td [] (Element trees.Bdi [] (Text (string_bytes text) Nothing) Nothing) Nothing
cell_tree (cells.Link target text) = link_tree (string_bytes target) (string_bytes text)
cell_tree (cells.Number n) = Element trees.Td (is trees.Class (codes "n") ∷ []) (Number n Nothing) Nothing
cell_tree (cells.Bar share) = Element trees.Td (is trees.Class (codes "b") ∷ []) (bar share) Nothing

-- a row
abbrev pub row_tree : Vec Cell Global → Tree
row_tree row = Element trees.Tr [] (each cell_tree row.items) Nothing

-- the name of a column
abbrev pub head_tree : String Global → Tree
head_tree head = Element trees.Th (is trees.Scope (codes "col") ∷ []) (Text (string_bytes head) Nothing) Nothing

-- a table, its title and what stands below that
abbrev pub table_tree : Table → Tree
table_tree table =
    Element trees.Section []
    (Element trees.H2 [] (Text (string_bytes table.title) Nothing)
    (Element trees.P [] (Text (string_bytes table.note) Nothing)
    (Element trees.Table []
    (Element trees.Thead [] (Element trees.Tr [] (each head_tree table.heads.items) Nothing)
    (Element trees.Tbody [] (each row_tree table.rows.items) Nothing)) Nothing))) Nothing

-- what stands in the body of a page
abbrev pub body_tree : List ℕ → List ℕ → List Table → Tree
body_tree title about tables =
    Element trees.Main []
    (Element trees.H1 [] (Text title Nothing)
    (Element trees.P [] (Text about Nothing) (each table_tree tables))) Nothing

-- ---- their texts

-- the text of a cell that leads elsewhere
unfoldable pub link_text : List ℕ → List ℕ → List ℕ
link_text target text = text_of (link_tree target text) []

-- the text of a cell
unfoldable pub cell_text : Cell → List ℕ
cell_text cell = text_of (cell_tree cell) []

-- the text of a row
unfoldable pub row_text : Vec Cell Global → List ℕ
row_text row = codes "<tr>" ++ (flat_map cell_text row.items ++ codes "</tr>")

-- the text of a column's name
unfoldable pub head_text : String Global → List ℕ
head_text head = text_of (head_tree head) []

-- the rows, and the ends of what stands around them
unfoldable pub rows_text : List (Vec Cell Global) → List ℕ
rows_text rows = codes "</tr></thead><tbody>" ++ (flat_map row_text rows ++ codes "</tbody></table></section>")

-- the text of a table
unfoldable pub table_text : Table → List ℕ
table_text table =
    codes "<section><h2>" ++ (escape (string_bytes table.title)
    ++ (codes "</h2><p>" ++ (escape (string_bytes table.note)
    ++ (codes "</p><table><thead><tr>" ++ (flat_map head_text table.heads.items ++ rows_text table.rows.items)))))

-- the text of what stands in the body of a page
unfoldable pub body_text : List ℕ → List ℕ → List Table → List ℕ
body_text title about tables =
    codes "<main><h1>" ++ (escape title
    ++ (codes "</h1><p>" ++ (escape about
    ++ (codes "</p>" ++ (flat_map table_text tables ++ codes "</main>")))))
