-- The entry that a look-up found is the one under the client and number that were asked for.
use Rattle.std.proofs.Common.{◌≡◌, ◌==◌, ℕ, List, [], ◌∷◌, Bool, true, find, Option, Some, None, option_map, inl, inr, refl, subst, ap}
use Rattle.std.proofs.lemmas.Bool.{cases_Bool, and_parts, eqb-true}
use Rattle.sqlite.specs.Order.{Row}
use Rattle.std.specs.List.{AllByRecursion}
use Rattle.droid_store.specs.declared.rows.Entry.{Entry}
use Rattle.droid_store.specs.declared.rows.NodeRow.{NodeRow}
use Rattle.droid_store.specs.Changes.{IsWord}
use Rattle.droid_store.specs.Rows.{Node, Rows, is_for, is_node, node_at, reply_for, row_of}
use Rattle.droid_store.specs.Shown.{shown_node, shown_reply}

passes : {X : Type 0} (p : X → Bool) (es : List X) (e : X) → find p es ≡ Some e → p e ≡ true
passes p [] e is = absurd cc
passes p (x ∷ es) e is = elim (cases_Bool (p x)) [
  | inl passed ↦ let same : x ≡ e = (let it = rw passed at is in cc) in subst (λ y. p y ≡ true) same passed
  | inr failed ↦ passes p es e (rw failed at is)
]

pub entry_found : (client number : ℕ) (rows : Rows) (row : Row) (read : Entry) → Some row ≡ option_map shown_reply (reply_for client number rows)
    → ((e : Entry) → e.client ≡ client → e.number ≡ number → row ≡ shown_reply e → read ≡ e) → Some read ≡ reply_for client number rows
entry_found client number rows row read is reads = found (reply_for client number rows) refl is
  where
    found : (o : Option Entry) → reply_for client number rows ≡ o → Some row ≡ option_map shown_reply o → Some read ≡ o
    found None same shows = absurd cc
    found (Some e) same shows =
        let both = and_parts (e.client == client) (e.number == number) (passes (is_for client number) rows.replies e same) in
        let row_is : row ≡ shown_reply e = cc in
        ap (λ (x : Entry). Some x) (reads e (eqb-true e.client client both.0) (eqb-true e.number number both.1) row_is)

all_found : {X : Type 0} (P : X → Type 0) (p : X → Bool) (xs : List X) (x : X) → AllByRecursion P xs → find p xs ≡ Some x → P x
all_found P p [] x all is = absurd cc
all_found P p (y ∷ ys) x all is = elim (cases_Bool (p y)) [
  | inl passed ↦ let same : y ≡ x = (let it = rw passed at is in cc) in subst P same all.0
  | inr failed ↦ all_found P p ys x all.1 (rw failed at is)
]

-- The node that a look-up found.
pub node_found : (profile id : ℕ) (rows : Rows) (row : Row) (read : NodeRow) → AllByRecursion (λ (n : Node). AllByRecursion IsWord n.puids) rows.nodes → Some row ≡ option_map shown_node (node_at profile id rows)
    → ((n : Node) → AllByRecursion IsWord n.puids → row ≡ shown_node n → read ≡ row_of n) → Some read ≡ option_map row_of (node_at profile id rows)
node_found profile id rows row read words is reads = found (node_at profile id rows) refl is
  where
    found : (o : Option Node) → node_at profile id rows ≡ o → Some row ≡ option_map shown_node o → Some read ≡ option_map row_of o
    found None same shows = absurd cc
    found (Some n) same shows =
        let row_is : row ≡ shown_node n = cc in
        ap (λ (x : NodeRow). Some x) (reads n (all_found (λ (n : Node). AllByRecursion IsWord n.puids) (is_node profile id) rows.nodes n words same) row_is)
