-- The typed rows are what the tables show.
use Rattle.std.proofs.Common.{◌≡◌, ◌==◌, ℕ, suc, Bool, true, false, List, [], ◌∷◌, map, All, refl, sym, ap, subst, ◌∙◌, arith}
use Rattle.std.specs.List.{AllByRecursion, slice_split}
use Rattle.std.proofs.lemmas.List.Splits.{slice_split_at, slice_split_none}
use Rattle.std.proofs.lemmas.Bool.Decides.{nat_tests}
use Rattle.sqlite.specs.Effect.{Database}
use Rattle.droid_store.specs.KeyedRows.{numbered_from}
use Rattle.droid_frame.specs.Hashes.{hash_kind_number}
use Rattle.droid_frame.specs.declared.hash_kind.HashKind.{HashKind}
use Rattle.droid_frame.specs.declared.hash_kind.HashKind.TheVariants as kinds
use Rattle.droid_frame.specs.declared.method.Method.{Method}
use Rattle.droid_frame.specs.declared.method.Method.TheVariants.{Unidentified, Signature, Extension}
use Rattle.droid_store.specs.declared.rows.Entry.{Entry}
use Rattle.droid_store.specs.declared.rows.NodeState.{NodeState}
use Rattle.droid_store.specs.declared.rows.NodeState.TheVariants.{Folder, Unfinished, Finished}
use Rattle.droid_store.specs.declared.rows.ProfileRow.{ProfileRow}
use Rattle.droid_store.specs.Changes.{IsWord}
use Rattle.droid_frame.specs.Fields.{method_number}
use Rattle.droid_store.specs.Encoded.{number, flag, flag_in, hash_kind_in, state_number, state_in, method_in, joined, words_of, profile_row, profile_in, node_row, node_in, reply_row, entry_in, rows_in}
use Rattle.droid_store.specs.Kept.{Holds}
use Rattle.droid_store.specs.Rows.{Node, Rows}

pub flag_again : (b : Bool) → flag_in (flag b) ≡ b
flag_again true = refl
flag_again false = refl

pub state_again : (s : NodeState) → state_in (number (state_number s)) ≡ s
state_again Folder = refl
state_again Unfinished = refl
state_again Finished = refl

pub method_again : (m : Method) → method_in (number (method_number m)) ≡ m
method_again Unidentified = refl
method_again Signature = refl
method_again Extension = refl

hash_kind_again : (k : HashKind) → hash_kind_in (number (hash_kind_number k)) ≡ k
hash_kind_again kinds.Nothing = refl
hash_kind_again kinds.Md5 = refl
hash_kind_again kinds.Sha256 = refl

-- ---- words joined by a space, and cut again

abbrev is_space : ℕ → Bool
is_space b = b == 32

no_space : (word : List ℕ) → IsWord word → All (λ b. is_space b ≡ false) word
no_space word is i b at = let differs = is.no_space i b at in grind (arith, nat_tests)

cut_again : (word : List ℕ) (words : List (List ℕ)) → IsWord word → AllByRecursion IsWord words → slice_split is_space (joined (word ∷ words)) ≡ word ∷ words
cut_again word [] is all = slice_split_none is_space word (no_space word is)
cut_again word (next ∷ words) is all = slice_split_at is_space word 32 (joined (next ∷ words)) (no_space word is) refl ∙ ap (λ ws. word ∷ ws) (cut_again next words all.0 all.1)

pub words_again : (words : List (List ℕ)) → AllByRecursion IsWord words → words_of (joined words) ≡ words
words_again [] all = refl
words_again ([] ∷ words) all = absurd (all.0.some refl)
words_again ((b ∷ bs) ∷ []) all = cut_again (b ∷ bs) [] all.0 all.1
words_again ((b ∷ bs) ∷ w ∷ ws) all = cut_again (b ∷ bs) (w ∷ ws) all.0 all.1

-- the words of which a text is joined
pub words_in : (text : List ℕ) (words : List (List ℕ)) → text ≡ joined words → AllByRecursion IsWord words → words_of text ≡ words
words_in text words is all = ap words_of is ∙ words_again words all

-- ---- rows

profiles_again : (n : ℕ) (ps : List ProfileRow) → map profile_in (map profile_row (numbered_from n ps)) ≡ ps
profiles_again n [] = refl
profiles_again n (p ∷ ps) =
    ap (λ b. record p { match_all = b; hash = hash_kind_in (number (hash_kind_number p.hash)) } ∷ map profile_in (map profile_row (numbered_from (suc n) ps))) (flag_again p.match_all)
    ∙ ap (λ k. record p { hash = k } ∷ map profile_in (map profile_row (numbered_from (suc n) ps))) (hash_kind_again p.hash) ∙ ap (λ qs. p ∷ qs) (profiles_again (suc n) ps)

pub node_again : (key : ℕ) (n : Node) → AllByRecursion IsWord n.puids → node_in (node_row (key, n)) ≡ n
node_again key n all =
    ap (λ s. record n { state = s; method = method_in (number (method_number n.method)); mismatch = flag_in (flag n.mismatch); puids = words_of (joined n.puids) }) (state_again n.state)
    ∙ ap (λ m. record n { method = m; mismatch = flag_in (flag n.mismatch); puids = words_of (joined n.puids) }) (method_again n.method)
    ∙ ap (λ b. record n { mismatch = b; puids = words_of (joined n.puids) }) (flag_again n.mismatch)
    ∙ ap (λ ws. record n { puids = ws }) (words_again n.puids all)

nodes_again : (ns : List (ℕ × Node)) → AllByRecursion (λ (n : Node). AllByRecursion IsWord n.puids) (map (λ n. n.1) ns) → map node_in (map node_row ns) ≡ map (λ n. n.1) ns
nodes_again [] all = refl
nodes_again (n ∷ ns) all = ap (λ m. m ∷ map node_in (map node_row ns)) (node_again n.0 n.1 all.0) ∙ ap (λ ms. n.1 ∷ ms) (nodes_again ns all.1)

replies_again : (n : ℕ) (es : List Entry) → map entry_in (map reply_row (numbered_from n es)) ≡ es
replies_again n [] = refl
replies_again n (e ∷ es) = ap (λ fs. e ∷ fs) (replies_again (suc n) es)

pub rows_again : (db : Database) (rows : Rows) → Holds rows db → rows_in db ≡ rows
rows_again db rows has =
    let ps : map profile_in (db.trees 0) ≡ rows.profiles = ap (map profile_in) has.profiles ∙ profiles_again 1 rows.profiles in
    let ns : map node_in (db.trees 1) ≡ rows.nodes = ap (map node_in) has.node_rows ∙ nodes_again has.nodes (subst (AllByRecursion (λ (n : Node). AllByRecursion IsWord n.puids)) (sym has.nodes_are) has.words) ∙ has.nodes_are in
    let es : map entry_in (db.trees 4) ≡ rows.replies = ap (map entry_in) has.replies ∙ replies_again 1 rows.replies in
    ap (λ qs. all qs (map node_in (db.trees 1)) (map entry_in (db.trees 4))) ps ∙ ap (λ qs. all rows.profiles qs (map entry_in (db.trees 4))) ns ∙ ap (all rows.profiles rows.nodes) es
  where
    all : List ProfileRow → List Node → List Entry → Rows
    all ps ns es = record { profiles = ps; nodes = ns; replies = es }
