-- What terms and items are written as: a list of texts for each, one behind the other.
use Rattle.std.proofs.Common.{◌≡◌, ◌⊎◌, ℕ, ◌+◌, ◌<◌, Bool, true, false, List, [], ◌∷◌, ◌++◌, length, map, take, get_or, Option, Some, None, refl, sym, ap, ◌∙◌, arith, inl, inr, subst, append_assoc}
use Rattle.std.specs.Prelude.{◌&&◌, option_map}
use Rattle.std.specs.List.{flat_map, list_all}
use Rattle.std.specs.declared.vec.Vec.{Vec}
use Rattle.std.specs.declared.alloc.Global.{Global}
use Rattle.std.proofs.lemmas.List.{append-nil, get_or-map, map-append, take-map, take_more, length-map}
use Rattle.std.proofs.lemmas.List.Concat.{flat_map-append}
use Rattle.std.proofs.lemmas.Bool.{false≢true}
use Rattle.droid_pattern.specs.Patterns.{Byte, AnyByte, Gap, OpenGap, Range, Except, Choice}
use Rattle.droid_signature_pattern.specs.TermValues.{atom_of, gap_of}
use Rattle.droid_signature_pattern.specs.declared.term.TextItem.{TextItem}
use Rattle.droid_signature_pattern.specs.declared.term.TextItem.TheVariants as text_items
use Rattle.droid_signature_pattern.specs.Items.{items_of}
use Rattle.droid_signature_file.specs.Terms.{Atom, Plain, Outside, Between, Quoted, Term, OneOf}
use Rattle.droid_signature_file.specs.Expansions.{patterns_of, patterns_of_atom, patterns_of_atoms, patterns_of_term, patterns_of_each, patterns_of_choice, run_of, runs_of, with_run}
use Rattle.droid_signature_pattern.specs.Texts.{joined, joined_all}
use Rattle.droid_signature_pattern.specs.Written.{pair, written, written_all, written_each, one_text, is_run, marked}
use Rattle.droid_signature_pattern.specs.Outcomes.{AreTooMuch, IsTooMuch, IsReasonOfAtoms, IsReasonOfTerms}
use Rattle.droid_signature_pattern.specs.declared.reason.Reason.{Reason}
use Rattle.droid_signature_pattern.proofs.Joined.{joined_all_more, joined_one, written_joined}

abbrev pub term_level : Term → List (List ℕ)
term_level t = written_each (patterns_of_term t)

abbrev pub atom_level : Atom → List (List ℕ)
atom_level a = written_each (patterns_of_atom a)

pub terms_levels : (ts : List Term) → joined_all (map term_level ts) ≡ written_each (patterns_of ts)
terms_levels [] = refl
terms_levels (t ∷ ts) = ap (joined (term_level t)) (terms_levels ts) ∙ sym (written_joined (patterns_of_term t) (patterns_of ts))

pub atoms_levels : (atoms : List Atom) → joined_all (map atom_level atoms) ≡ written_each (patterns_of_atoms atoms)
atoms_levels [] = refl
atoms_levels (a ∷ atoms) = ap (joined (atom_level a)) (atoms_levels atoms) ∙ sym (written_joined (patterns_of_atom a) (patterns_of_atoms atoms))

-- one item alone
pub one_level : (items : List TextItem) (item : TextItem) → length items ≡ 1 → item ≡ get_or items 0 item → atom_level (atom_of item) ≡ written_each (patterns_of_atoms (map atom_of items))
one_level [] item one is = absurd (omega arith)
one_level (x ∷ []) item one is = ap (λ y. atom_level (atom_of y)) is ∙ sym (joined_one (atom_level (atom_of x))) ∙ atoms_levels (atom_of x ∷ [])
one_level (x ∷ y ∷ items) item one is = absurd (omega arith)

-- one more of the lists that terms or items are written as
pub levels_more : {X Y : Type 0} (g : Y → List (List ℕ)) (f : X → Y) (xs : List X) (i : ℕ) (x : X) (done new level : List (List ℕ)) → i < length xs → x ≡ get_or xs i x
    → done ≡ joined_all (take i (map g (map f xs))) → level ≡ g (f x) → new ≡ joined done level → new ≡ joined_all (take (i + 1) (map g (map f xs)))
levels_more g f xs i x done new level below is so_far made grown =
    let long : i < length (map f xs) = omega (arith, length-map xs f) in
    let longer : i < length (map g (map f xs)) = omega (arith, length-map xs f, length-map (map f xs) g) in
    let there : get_or (map f xs) i (f x) ≡ f x = get_or-map f xs i x (f x) below ∙ ap f (sym is) in
    let here : get_or (map g (map f xs)) i (g (f x)) ≡ g (f x) = get_or-map g (map f xs) i (f x) (g (f x)) long ∙ ap g there in
    grown
    ∙ ap (λ l. joined l level) so_far
    ∙ ap (joined (joined_all (take i (map g (map f xs))))) (made ∙ sym here)
    ∙ sym (joined_all_more (map g (map f xs)) i (g (f x)) longer)

-- what the first of the lists give is too much, or what these and one more do
pub exceed : (levels : List (List (List ℕ))) (i : ℕ) (done more : List (List ℕ)) (reason : Reason) → done ≡ joined_all (take i levels) → more ≡ joined_all (take (i + 1) levels)
    → IsTooMuch done reason ⊎ IsTooMuch more reason → AreTooMuch levels reason
exceed levels i done more reason so_far grown (inl h) = let P : List (List ℕ) → Type 0 = λ texts. IsTooMuch texts reason in record { count = i; exceeds = subst P so_far h }
exceed levels i done more reason so_far grown (inr h) = let P : List (List ℕ) → Type 0 = λ texts. IsTooMuch texts reason in record { count = i + 1; exceeds = subst P grown h }

-- what the first of them are written as is too much
pub terms_exceed : (ts : List Term) (reason : Reason) → AreTooMuch (map term_level ts) reason → IsReasonOfTerms ts reason
terms_exceed ts reason h =
    let P : List (List ℕ) → Type 0 = λ texts. IsTooMuch texts reason in
    inr (h.count, subst P (ap joined_all (take-map term_level h.count ts) ∙ terms_levels (take h.count ts)) h.exceeds)

pub atoms_exceed : (atoms : List Atom) (reason : Reason) → AreTooMuch (map atom_level atoms) reason → IsReasonOfAtoms reason atoms
atoms_exceed atoms reason h =
    let P : List (List ℕ) → Type 0 = λ texts. IsTooMuch texts reason in
    inr (h.count, subst P (ap joined_all (take-map atom_level h.count atoms) ∙ atoms_levels (take h.count atoms)) h.exceeds)

-- bytes as elements
bytes_text : (bs : List ℕ) → written_all (map Byte bs) ≡ flat_map pair bs
bytes_text [] = refl
bytes_text (b ∷ bs) = ap (λ l. pair b ++ l) (bytes_text bs)

-- an item that one pattern stands for
pub one_atom : (a : Atom) → ((low high : List ℕ) → a ≡ Between low high → ⊥) → atom_level a ≡ one_text a ∷ []
one_atom (Plain e) other = ap (λ l. l ∷ []) (append-nil (written e))
one_atom (Outside low high) other = ap (λ l. l ∷ []) (append-nil (one_text (Outside low high)))
one_atom (Between low high) other = absurd (other low high refl)
one_atom (Quoted bytes) other = ap (λ l. l ∷ []) (bytes_text bytes)

-- alternatives that are runs of bytes
and_both : (a b : Bool) → (a && b) ≡ true → (a ≡ true) × (b ≡ true)
and_both true b e = (refl, e)
and_both false b e = absurd (false≢true e)

run_text : (atoms : List Atom) → list_all is_run atoms ≡ true → (run : List ℕ) × (run_of atoms ≡ Some run) × (flat_map pair run ≡ flat_map one_text atoms)
run_text [] e = ([], refl, refl)
run_text (Plain (Byte b) ∷ atoms) e = let (run, is, text) = run_text atoms e in (b ∷ run, ap (option_map (λ bytes. b ∷ bytes)) is, ap (λ l. pair b ++ l) text)
run_text (Quoted bytes ∷ atoms) e =
    let (run, is, text) = run_text atoms e in
    (bytes ++ run, ap (option_map (λ more. bytes ++ more)) is, flat_map-append pair bytes run ∙ ap (λ l. flat_map pair bytes ++ l) text)
run_text (Plain AnyByte ∷ atoms) e = absurd (false≢true e)
run_text (Plain (Gap least most) ∷ atoms) e = absurd (false≢true e)
run_text (Plain (OpenGap least) ∷ atoms) e = absurd (false≢true e)
run_text (Plain (Range low high) ∷ atoms) e = absurd (false≢true e)
run_text (Plain (Except b) ∷ atoms) e = absurd (false≢true e)
run_text (Plain (Choice alternatives) ∷ atoms) e = absurd (false≢true e)
run_text (Outside low high ∷ atoms) e = absurd (false≢true e)
run_text (Between low high ∷ atoms) e = absurd (false≢true e)

all_run_texts : (mark : ℕ) (alts : List (List Atom)) → list_all (list_all is_run) alts ≡ true → (runs : List (List ℕ)) × (runs_of alts ≡ Some runs) × (marked (flat_map pair) mark runs ≡ marked (flat_map one_text) mark alts)
all_run_texts mark [] e = ([], refl, refl)
all_run_texts mark (atoms ∷ alts) e =
    let (here, later) = and_both (list_all is_run atoms) (list_all (list_all is_run) alts) e in
    let (run, is, text) = run_text atoms here in
    let (runs, are, texts) = all_run_texts 124 alts later in
    (run ∷ runs, ap (λ o. with_run o (runs_of alts)) is ∙ ap (λ o. with_run (Some run) o) are, ap (λ l. mark ∷ (l ++ marked (flat_map pair) 124 runs)) text ∙ ap (λ l. mark ∷ (flat_map one_text atoms ++ l)) texts)

pub choice_of_runs : (alts : List (List Atom)) → list_all (list_all is_run) alts ≡ true → term_level (OneOf alts) ≡ (marked (flat_map one_text) 40 alts ++ 41 ∷ []) ∷ []
choice_of_runs alts e =
    let (runs, are, texts) = all_run_texts 40 alts e in
    ap (λ o. written_each (patterns_of_choice o alts)) are ∙ ap (λ l. l ∷ []) (append-nil (marked (flat_map pair) 40 runs ++ 41 ∷ [])) ∙ ap (λ l. (l ++ 41 ∷ []) ∷ []) texts

no_run : (atoms : List Atom) → list_all is_run atoms ≡ false → run_of atoms ≡ None
no_run [] e = absurd (false≢true (sym e))
no_run (Plain (Byte b) ∷ atoms) e = ap (option_map (λ bytes. b ∷ bytes)) (no_run atoms e)
no_run (Quoted bytes ∷ atoms) e = ap (option_map (λ more. bytes ++ more)) (no_run atoms e)
no_run (Plain AnyByte ∷ atoms) e = refl
no_run (Plain (Gap least most) ∷ atoms) e = refl
no_run (Plain (OpenGap least) ∷ atoms) e = refl
no_run (Plain (Range low high) ∷ atoms) e = refl
no_run (Plain (Except b) ∷ atoms) e = refl
no_run (Plain (Choice alternatives) ∷ atoms) e = refl
no_run (Outside low high ∷ atoms) e = refl
no_run (Between low high ∷ atoms) e = refl

no_rest : (o : Option (List ℕ)) → with_run o None ≡ None
no_rest None = refl
no_rest (Some run) = refl

no_runs_where : (atoms : List Atom) (alts : List (List Atom)) (t : Bool) → list_all is_run atoms ≡ t → (t && list_all (list_all is_run) alts) ≡ false
    → (list_all (list_all is_run) alts ≡ false → runs_of alts ≡ None) → with_run (run_of atoms) (runs_of alts) ≡ None
no_runs_where atoms alts false here bad later = ap (λ o. with_run o (runs_of alts)) (no_run atoms here)
no_runs_where atoms alts true here bad later = ap (with_run (run_of atoms)) (later bad) ∙ no_rest (run_of atoms)

no_runs : (alts : List (List Atom)) → list_all (list_all is_run) alts ≡ false → runs_of alts ≡ None
no_runs [] e = absurd (false≢true (sym e))
no_runs (atoms ∷ alts) e = no_runs_where atoms alts (list_all is_run atoms) refl e (λ later. no_runs alts later)

pub choice_of_each : (alts : List (List Atom)) → list_all (list_all is_run) alts ≡ false → term_level (OneOf alts) ≡ written_each (patterns_of_each alts)
choice_of_each alts e = ap (λ o. written_each (patterns_of_choice o alts)) (no_runs alts e)

-- the patterns of one more alternative
each_push : (alts : List (List Atom)) (atoms : List Atom) → patterns_of_each (alts ++ atoms ∷ []) ≡ patterns_of_each alts ++ patterns_of_atoms atoms
each_push [] atoms = append-nil (patterns_of_atoms atoms)
each_push (x ∷ alts) atoms = ap (λ l. patterns_of_atoms x ++ l) (each_push alts atoms) ∙ sym (append_assoc (patterns_of_atoms x) (patterns_of_each alts) (patterns_of_atoms atoms))

pub each_more : {X : Type 0} (f : X → List Atom) (xs : List X) (i : ℕ) (x : X) (done more : List (List ℕ)) → i < length xs → x ≡ get_or xs i x → done ≡ written_each (patterns_of_each (take i (map f xs)))
    → more ≡ written_each (patterns_of_atoms (f x)) → done ++ more ≡ written_each (patterns_of_each (take (i + 1) (map f xs)))
each_more f xs i x done more below is so_far made =
    let long : i < length (map f xs) = omega (arith, length-map xs f) in
    let there : get_or (map f xs) i (f x) ≡ f x = get_or-map f xs i x (f x) below ∙ ap f (sym is) in
    ap (λ l. l ++ more) so_far
    ∙ ap (λ l. written_each (patterns_of_each (take i (map f xs))) ++ l) (made ∙ ap (λ atoms. written_each (patterns_of_atoms atoms)) (sym there))
    ∙ sym (map-append written_all (patterns_of_each (take i (map f xs))) (patterns_of_atoms (get_or (map f xs) i (f x))))
    ∙ ap written_each (sym (each_push (take i (map f xs)) (get_or (map f xs) i (f x))))
    ∙ ap (λ l. written_each (patterns_of_each l)) (sym (take_more (map f xs) i (f x) long))

-- alternatives of items
runs_map : (items : List TextItem) → list_all (λ item. is_run (atom_of item)) items ≡ list_all is_run (map atom_of items)
runs_map [] = refl
runs_map (item ∷ items) = ap (λ b. is_run (atom_of item) && b) (runs_map items)

pub all_runs_map : (alts : List (Vec TextItem Global)) → list_all (λ items. list_all (λ item. is_run (atom_of item)) items.items) alts ≡ list_all (list_all is_run) (map items_of alts)
all_runs_map [] = refl
all_runs_map (items ∷ alts) =
    ap (λ b. b && list_all (λ more. list_all (λ item. is_run (atom_of item)) more.items) alts) (runs_map items.items) ∙ ap (λ b. list_all is_run (map atom_of items.items) && b) (all_runs_map alts)

-- an item that is no range of several bytes
pub other_item : (item : TextItem)
    → ((x : ℕ) × (item ≡ text_items.Byte x)) ⊎ (item ≡ text_items.AnyByte) ⊎ ((x : ℕ) × (y : Option ℕ) × (item ≡ text_items.Gap x y)) ⊎ ((x : ℕ) × (y : ℕ) × (item ≡ text_items.Range x y)) ⊎ ((x : ℕ) × (item ≡ text_items.Except x))
    ⊎ ((x : ℕ) × (y : ℕ) × (item ≡ text_items.Outside x y)) ⊎ ((x : Vec ℕ Global) × (item ≡ text_items.Quoted x))
    → (low high : List ℕ) → atom_of item ≡ Between low high → ⊥
other_item item (inl (x, is)) low high bad = let e : atom_of item ≡ Plain (Byte x) = ap atom_of is in cc
other_item item (inr (inl is)) low high bad = let e : atom_of item ≡ Plain AnyByte = ap atom_of is in cc
other_item item (inr (inr (inl (x, y, is)))) low high bad = let e : atom_of item ≡ Plain (gap_of x y) = ap atom_of is in cc
other_item item (inr (inr (inr (inl (x, y, is))))) low high bad = let e : atom_of item ≡ Plain (Range x y) = ap atom_of is in cc
other_item item (inr (inr (inr (inr (inl (x, is)))))) low high bad = let e : atom_of item ≡ Plain (Except x) = ap atom_of is in cc
other_item item (inr (inr (inr (inr (inr (inl (x, y, is))))))) low high bad = let e : atom_of item ≡ Outside x y = ap atom_of is in cc
other_item item (inr (inr (inr (inr (inr (inr (x, is))))))) low high bad = let e : atom_of item ≡ Quoted x.items = ap atom_of is in cc
