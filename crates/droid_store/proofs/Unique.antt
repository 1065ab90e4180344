-- Tables whose typed rows have their keys keep the rules of uniqueness, and those of foreign keys, which there are none of.
use Rattle.std.proofs.Common.{◌≡◌, ◌==◌, bytes_eq, ℕ, suc, List, [], ◌∷◌, map, true, refl, sym, ap, subst, arith}
use Rattle.std.proofs.lemmas.Bool.Decides.{nat_tests}
use Rattle.std.proofs.lemmas.Slice.Eq.{bytes_eq-Decides}
use Rattle.std.specs.List.{AllByRecursion}
use Rattle.sqlite_rules.specs.Lists.{Has}
use Rattle.sqlite_schema.specs.declared.schema.Among.TheVariants.{All}
use Rattle.sqlite_schema.specs.declared.schema.Constraint.TheVariants.{Unique}
use Rattle.sqlite_schema.specs.Rules.{agree, passes, Keeps, Refers}
use Rattle.sqlite_value.specs.Keys.{plain, first_key}
use Rattle.sqlite.specs.Order.{Row}
use Rattle.sqlite.specs.Table.{Table}
use Rattle.sqlite.specs.Tree.{Trees}
use Rattle.droid_store.specs.KeyedRows.{numbered_from}
use Rattle.droid_store.proofs.Clashes.{each, unclashed}
use Rattle.droid_store.proofs.Comparisons.{equal_numbers, equal_texts, all_of_two, all_of_three}
use Rattle.droid_store.proofs.SeenRows.{few_seen}
use Rattle.droid_store.specs.declared.rows.Entry.{Entry}
use Rattle.droid_store.specs.Encoded.{node_row, reply_row}
use Rattle.droid_store.specs.Kept.{AreApart, HasKeys}
use Rattle.droid_store.specs.Rows.{Node, Rows, is_node, is_child, is_for}
use Rattle.droid_store.specs.Tables.{profiles, nodes, replies, store_schema}
use Rattle.droid_store.proofs.Effects.{reply_tail}
use Rattle.droid_store.proofs.NodeEffects.{node_tail}
use Rattle.droid_store.proofs.NodeOrder.{few_numbered}

pub keys_of : (rows : Rows) → AreApart rows → HasKeys rows
keys_of rows apart = record { replies = apart.replies; children = apart.children; numbers = apart.numbers }

same_is : (n : ℕ) → (n == n) ≡ true
same_is n = grind (arith, nat_tests)

same_text : (t : List ℕ) → bytes_eq t t ≡ true
same_text t = (bytes_eq-Decides t t).1 refl

itself : (n : Node) → is_node n.profile n.id n ≡ true
itself n = rw (same_is n.profile, same_is n.id) refl

own_child : (n : Node) → is_child n.profile n.parent n.name n ≡ true
own_child n = rw (same_is n.profile, same_is n.parent, same_text n.name) refl

own_sender : (e : Entry) → is_for e.client e.number e ≡ true
own_sender e = rw (same_is e.client, same_is e.number) refl

sees_number : (x y : ℕ × Node) → agree plain (1 ∷ 2 ∷ []) (node_row y) (1 ∷ 2 ∷ []) (node_row x) ≡ is_node x.1.profile x.1.id y.1
unfolding first_key
sees_number x y = rw (equal_numbers y.1.profile x.1.profile, equal_numbers y.1.id x.1.id) (all_of_two (y.1.profile == x.1.profile) (y.1.id == x.1.id))

sees_name : (x y : ℕ × Node) → agree plain (1 ∷ 3 ∷ 10 ∷ []) (node_row y) (1 ∷ 3 ∷ 10 ∷ []) (node_row x) ≡ is_child x.1.profile x.1.parent x.1.name y.1
unfolding first_key
sees_name x y = rw (equal_numbers y.1.profile x.1.profile, equal_numbers y.1.parent x.1.parent, equal_texts y.1.name x.1.name) (all_of_three (y.1.profile == x.1.profile) (y.1.parent == x.1.parent) (bytes_eq y.1.name x.1.name))

sees_sender : (x y : ℕ × Entry) → agree plain (2 ∷ 3 ∷ []) (reply_row y) (2 ∷ 3 ∷ []) (reply_row x) ≡ is_for x.1.client x.1.number y.1
unfolding first_key
sees_sender x y = rw (equal_numbers y.1.client x.1.client, equal_numbers y.1.number x.1.number) (all_of_two (y.1.client == x.1.client) (y.1.number == x.1.number))

seen_numbered : {R : Type 0} (n : ℕ) (rs : List R) → map (λ (x : ℕ × R). x.1) (numbered_from n rs) ≡ rs
seen_numbered n [] = refl
seen_numbered n (r ∷ rs) = ap (λ xs. r ∷ xs) (seen_numbered (suc n) rs)

abbrev pub node_table : Table
node_table = record nodes { tree = 1 }

abbrev pub reply_table : Table
reply_table = record replies { tree = 4 }

module _ (rows : Rows) (ns : List (ℕ × Node)) (db : Trees) (are : map (λ (n : ℕ × Node). n.1) ns ≡ rows.nodes) (keys : HasKeys rows) where
  profiles_pass : (all : List Row) → AllByRecursion (λ row. passes Unique store_schema db profiles row ≡ true) all
  profiles_pass [] = tt
  profiles_pass (r ∷ all) = (refl, profiles_pass all)

  node_passes : db 1 ≡ map node_row ns → (x : ℕ × Node) → Has ns x → passes Unique store_schema db node_table (node_row x) ≡ true
  node_passes has x there =
      let few = few_seen (is_node x.1.profile x.1.id) ns rows.nodes are (few_numbered x.1.profile x.1.id rows.nodes keys.numbers) in
      let lone = few_seen (is_child x.1.profile x.1.parent x.1.name) ns rows.nodes are (keys.children x.1.profile x.1.parent x.1.name) in
      let number = unclashed (λ n. n.0) node_tail plain (1 ∷ 2 ∷ []) (λ x y. is_node x.1.profile x.1.id y.1) sees_number ns x there (itself x.1) few in
      let name = unclashed (λ n. n.0) node_tail plain (1 ∷ 3 ∷ 10 ∷ []) (λ x y. is_child x.1.profile x.1.parent x.1.name y.1) sees_name ns x there (own_child x.1) lone in
      rw (has, number, name) refl

  reply_passes : db 4 ≡ map reply_row (numbered_from 1 rows.replies) → (x : ℕ × Entry) → Has (numbered_from 1 rows.replies) x → passes Unique store_schema db reply_table (reply_row x) ≡ true
  reply_passes has x there =
      let few = few_seen (is_for x.1.client x.1.number) (numbered_from 1 rows.replies) rows.replies (seen_numbered 1 rows.replies) (keys.replies x.1.client x.1.number) in
      let sender = unclashed (λ e. e.0) reply_tail plain (2 ∷ 3 ∷ []) (λ x y. is_for x.1.client x.1.number y.1) sees_sender (numbered_from 1 rows.replies) x there (own_sender x.1) few in
      rw (has, sender) refl

  pub keeps_unique : db 1 ≡ map node_row ns → db 4 ≡ map reply_row (numbered_from 1 rows.replies) → Keeps Unique store_schema db
  keeps_unique node_rows reply_rows = (
    profiles_pass (db 0),
    (
      subst (λ all. AllByRecursion (λ row. passes Unique store_schema db node_table row ≡ true) all) (sym node_rows) (each node_row (λ row. passes Unique store_schema db node_table row ≡ true) ns (node_passes node_rows)),
      (
        subst (λ all. AllByRecursion (λ row. passes Unique store_schema db reply_table row ≡ true) all) (sym reply_rows) (each reply_row (λ row. passes Unique store_schema db reply_table row ≡ true) (numbered_from 1 rows.replies) (reply_passes reply_rows)),
        tt,
      ),
    ),
  )

all_same : (all : List Row) → AllByRecursion (λ _. true ≡ true) all
all_same [] = tt
all_same (r ∷ all) = (refl, all_same all)

pub store_refers : (db : Trees) → Refers All store_schema db
store_refers db = (all_same (db 0), (all_same (db 1), (all_same (db 4), tt)))
