-- The text of tables is that of their trees.
use Rattle.std.proofs.Common.{◌≡◌, ◌∙◌, ℕ, List, [], ◌∷◌, ◌++◌, String, Vec, append_assoc, codes, flat_map, refl, string_bytes, sym, ap}
use Rattle.std.specs.declared.alloc.Global.{Global}
use Rattle.droid_report.specs.Escapes.{escape}
use Rattle.droid_report.specs.TableTrees.{body_text, body_tree, cell_text, cell_tree, each, head_text, head_tree, row_text, row_tree, rows_text, table_text, table_tree, then}
use Rattle.droid_report.specs.Trees.{Tree, Nothing, Text, Number, Element, Meta, text_of}
use Rattle.droid_report.specs.declared.html.tables.Cell.{Cell}
use Rattle.droid_report.specs.declared.html.tables.Table.{Table}
use Rattle.droid_report.proofs.Pages.{tree_more}

then_text : (one other : Tree) (rest : List ℕ) → text_of (then one other) rest ≡ text_of one (text_of other rest)
then_text Nothing other rest = refl
then_text (Text text more) other rest = ap (λ (t : List ℕ). escape text ++ t) (then_text more other rest)
then_text (Number n more) other rest = cc (then_text more other rest)
then_text (Element tag attributes inside more) other rest = cc (then_text more other rest)
then_text (Meta attributes more) other rest = cc (then_text more other rest)

-- the text of trees side by side, where each has its own
each_text : {X : Type 0} (tree : X → Tree) (text : X → List ℕ) → ((x : X) → text x ≡ text_of (tree x) []) → (xs : List X) (rest : List ℕ)
    → text_of (each tree xs) rest ≡ flat_map text xs ++ rest
each_text tree text own [] rest = refl
each_text tree text own (x ∷ xs) rest =
    then_text (tree x) (each tree xs) rest
    ∙ (tree_more (tree x) [] (text_of (each tree xs) rest)
    ∙ (ap (λ (t : List ℕ). t ++ text_of (each tree xs) rest) (sym (own x))
    ∙ (ap (λ (t : List ℕ). text x ++ t) (each_text tree text own xs rest) ∙ sym (append_assoc (text x) (flat_map text xs) rest))))

cell_own : (cell : Cell) → cell_text cell ≡ text_of (cell_tree cell) []
unfolding cell_text
cell_own cell = refl

head_own : (head : String Global) → head_text head ≡ text_of (head_tree head) []
unfolding head_text
head_own head = refl

row_own : (row : Vec Cell Global) → row_text row ≡ text_of (row_tree row) []
unfolding row_text
row_own row = sym (ap (λ (t : List ℕ). codes "<tr>" ++ t) (each_text cell_tree cell_text cell_own row.items (codes "</tr>")))

table_own : (table : Table) → table_text table ≡ text_of (table_tree table) []
unfolding table_text rows_text
table_own table =
    let before : List ℕ → List ℕ = λ t. codes "<section><h2>" ++ (escape (string_bytes table.title) ++ (codes "</h2><p>" ++ (escape (string_bytes table.note) ++ (codes "</p><table><thead><tr>" ++ t)))) in
    let rows : List ℕ = text_of (each row_tree table.rows.items) (codes "</tbody></table></section>") in
    sym (ap before (each_text head_tree head_text head_own table.heads.items (codes "</tr></thead><tbody>" ++ rows)
    ∙ ap (λ (t : List ℕ). flat_map head_text table.heads.items ++ (codes "</tr></thead><tbody>" ++ t)) (each_text row_tree row_text row_own table.rows.items (codes "</tbody></table></section>"))))

pub body_own : (title about : List ℕ) (tables : List Table) → body_text title about tables ≡ text_of (body_tree title about tables) []
unfolding body_text
body_own title about tables =
    sym (ap (λ (t : List ℕ). codes "<main><h1>" ++ (escape title ++ (codes "</h1><p>" ++ (escape about ++ (codes "</p>" ++ t)))))
    (each_text table_tree table_text table_own tables (codes "</main>")))
