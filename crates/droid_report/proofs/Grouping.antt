-- Rows that are alike, one row more.
use Rattle.std.proofs.Common.{◌≡◌, ◌∙◌, ℕ, ◌+◌, ◌-◌, ◌^◌, ◌==◌, ◌&&◌, not, Bool, true, false, cond, List, [], ◌∷◌, ◌++◌, BTreeMap, Global, Option, Some, None, String, add-zero, zero-add, bytes_eq, count_by, length, option_map, unwrap_or, refl, sym, ap}
use Rattle.std.specs.List.{sum_by}
use Rattle.std.proofs.lemmas.List.Sums.{sum_by-cons, sum_by_push}
use Rattle.std.proofs.lemmas.Slice.Eq.{bytes_eq-Decides}
use Rattle.droid_report.specs.Groups.{AreGroups, Summed, first_with, fresh, group_of, grown, has_key, key_of, label_of, size_if, sum_after, sum_at, sum_of}
use Rattle.droid_report.specs.Rows.{Line}
use Rattle.droid_report.specs.Totals.{held}
use Rattle.droid_report.specs.declared.groups.GroupSum.{GroupSum}
use Rattle.droid_report.specs.declared.keys.Alike.{Alike}
use Rattle.droid_report.proofs.Totalling.{cap_more}

-- ---- the first row that passes

abbrev first_or : Option Line → Bool → Line → Option Line
first_or None test line = cond test (Some line) None
first_or (Some first) test line = Some first

first_by : (here : Bool) (test : Line → Bool) (one : Line) (lines : List Line) (line : Line) → first_with test (lines ++ line ∷ []) ≡ first_or (first_with test lines) (test line) line
    → cond here (Some one) (first_with test (lines ++ line ∷ [])) ≡ first_or (cond here (Some one) (first_with test lines)) (test line) line
first_by true test one lines line more = refl
first_by false test one lines line more = more

first_more : (test : Line → Bool) (lines : List Line) (line : Line) → first_with test (lines ++ line ∷ []) ≡ first_or (first_with test lines) (test line) line
first_more test [] line = refl
first_more test (one ∷ lines) line = first_by (test one) test one lines line (first_more test lines line)

-- a sum in which nothing counts
none_by : (here : Bool) (f : Line → ℕ) (g : Bool → ℕ) (one : Line) (lines : List Line) (rest : Option Line) → f one ≡ g here → g false ≡ 0 → cond here (Some one) rest ≡ None
    → (rest ≡ None → sum_by f lines ≡ 0) → sum_by f (one ∷ lines) ≡ 0
none_by true f g one lines rest is zero none more = absurd cc
none_by false f g one lines rest is zero none more =
    sum_by-cons f one lines ∙ (ap (λ (n : ℕ). n + sum_by f lines) (is ∙ zero) ∙ (zero-add (sum_by f lines) ∙ more none))

none_counted : (test : Line → Bool) (lines : List Line) → first_with test lines ≡ None → count_by test lines ≡ 0
none_counted test [] none = refl
none_counted test (one ∷ lines) none =
    none_by (test one) (λ (line : Line). cond (test line) 1 0) (λ b. cond b 1 0) one lines (first_with test lines) refl refl none (none_counted test lines)

none_summed : (test : Line → Bool) (lines : List Line) → first_with test lines ≡ None → sum_by (size_if test) lines ≡ 0
none_summed test [] none = refl
none_summed test (one ∷ lines) none =
    none_by (test one) (size_if test) (λ b. cond b one.facts.size 0) one lines (first_with test lines) refl refl none (none_summed test lines)

-- ---- what a group comes to

abbrev made : ℕ → ℕ → ℕ → List ℕ → Summed
made count bytes first_size label = record { count = count; bytes = bytes; first_size = first_size; label = label }

same : (c d b e s : ℕ) (label : List ℕ) → c ≡ d → b ≡ e → made c b s label ≡ made d e s label
same c d b e s label p q = ap (λ (n : ℕ). made n b s label) p ∙ ap (λ (n : ℕ). made d n s label) q

count_with : (test : Line → Bool) (lines : List Line) (line : Line) (here : Bool) → test line ≡ here → count_by test (lines ++ line ∷ []) ≡ count_by test lines + cond here 1 0
count_with test lines line here is =
    sum_by_push (λ (one : Line). cond (test one) 1 0) lines line ∙ ap (λ (b : Bool). count_by test lines + cond b 1 0) is

sum_with : (test : Line → Bool) (lines : List Line) (line : Line) (here : Bool) → test line ≡ here → sum_by (size_if test) (lines ++ line ∷ []) ≡ sum_by (size_if test) lines + cond here line.facts.size 0
sum_with test lines line here is =
    sum_by_push (size_if test) lines line ∙ ap (λ (b : Bool). sum_by (size_if test) lines + cond b line.facts.size 0) is

grown_more : (alike : Alike) (test : Line → Bool) (lines : List Line) (line first : Line) → test line ≡ true → grown (sum_of alike test lines first) line.facts.size ≡ sum_of alike test (lines ++ line ∷ []) first
grown_more alike test lines line first is =
    same _ _ _ _ first.facts.size (label_of alike first)
    (cap_more (count_by test lines) (held (count_by test lines)) 1 (2 ^ 64 - 1) refl ∙ ap held (sym (count_with test lines line true is)))
    (cap_more (sum_by (size_if test) lines) (held (sum_by (size_if test) lines)) line.facts.size (2 ^ 64 - 1) refl ∙ ap held (sym (sum_with test lines line true is)))

unchanged : (alike : Alike) (test : Line → Bool) (lines : List Line) (line first : Line) → test line ≡ false → sum_of alike test lines first ≡ sum_of alike test (lines ++ line ∷ []) first
unchanged alike test lines line first is =
    same _ _ _ _ first.facts.size (label_of alike first)
    (ap held (sym (count_with test lines line false is ∙ add-zero (count_by test lines))))
    (ap held (sym (sum_with test lines line false is ∙ add-zero (sum_by (size_if test) lines))))

begun : (alike : Alike) (test : Line → Bool) (lines : List Line) (line : Line) → first_with test lines ≡ None → test line ≡ true → grown (fresh alike line) line.facts.size ≡ sum_of alike test (lines ++ line ∷ []) line
begun alike test lines line none is =
    same _ _ _ _ line.facts.size (label_of alike line)
    (ap held (sym (count_with test lines line true is ∙ ap (λ (n : ℕ). n + 1) (none_counted test lines none))))
    (ap held (sym (sum_with test lines line true is ∙ ap (λ (n : ℕ). n + line.facts.size) (none_summed test lines none))))

group_by : (alike : Alike) (test : Line → Bool) (lines : List Line) (line : Line) (first : Option Line) (here : Bool) → first_with test lines ≡ first → test line ≡ here
    → cond here (Some (grown (unwrap_or (option_map (sum_of alike test lines) first) (fresh alike line)) line.facts.size)) (option_map (sum_of alike test lines) first)
    ≡ option_map (sum_of alike test (lines ++ line ∷ [])) (first_or first here line)
group_by alike test lines line None true none is = ap Some (begun alike test lines line none is)
group_by alike test lines line None false none is = refl
group_by alike test lines line (Some first) true some is = ap Some (grown_more alike test lines line first is)
group_by alike test lines line (Some first) false some is = ap Some (unchanged alike test lines line first is)

group_more : (alike : Alike) (key : List ℕ) (lines : List Line) (line : Line) → sum_after alike key (group_of alike key lines) line ≡ group_of alike key (lines ++ line ∷ [])
group_more alike key lines line =
    group_by alike (has_key alike key) lines line (first_with (has_key alike key) lines) (has_key alike key line) refl refl
    ∙ ap (option_map (sum_of alike (has_key alike key) (lines ++ line ∷ []))) (sym (first_more (has_key alike key) lines line))

pub groups_more : (alike : Alike) (lines : List Line) (line : Line) (old new : BTreeMap (String Global) GroupSum) → ((key : List ℕ) → sum_at new key ≡ sum_after alike key (sum_at old key) line)
    → AreGroups alike lines old → AreGroups alike (lines ++ line ∷ []) new
groups_more alike lines line old new step are = λ key.
    step key ∙ (ap (λ (o : Option Summed). sum_after alike key o line) (are key) ∙ group_more alike key lines line)

-- ---- a table with one group set

set_by : (here : Bool) (alike : Alike) (line : Line) (key other : List ℕ) (before middle new : List ℕ → Option Summed) (sum : Summed) → bytes_eq key other ≡ here → (length key == 0) ≡ false
    → (bytes_eq key other ≡ false → middle other ≡ before other) → new other ≡ cond (bytes_eq key other) (Some sum) (middle other)
    → sum ≡ grown (unwrap_or (before key) (fresh alike line)) line.facts.size
    → new other ≡ cond (not (length key == 0) && bytes_eq key other) (Some (grown (unwrap_or (before other) (fresh alike line)) line.facts.size)) (before other)
set_by true alike line key other before middle new sum is some kept put grows =
    let test : (not (length key == 0) && bytes_eq key other) ≡ true = ap (λ (b : Bool). not b && bytes_eq key other) some ∙ is in
    let there : key ≡ other = (bytes_eq-Decides key other).0 is in
    put ∙ (ap (λ (b : Bool). cond b (Some sum) (middle other)) is
    ∙ (ap Some (grows ∙ ap (λ (k : List ℕ). grown (unwrap_or (before k) (fresh alike line)) line.facts.size) there)
    ∙ sym (ap (λ (b : Bool). cond b (Some (grown (unwrap_or (before other) (fresh alike line)) line.facts.size)) (before other)) test)))
set_by false alike line key other before middle new sum is some kept put grows =
    let test : (not (length key == 0) && bytes_eq key other) ≡ false = ap (λ (b : Bool). not b && bytes_eq key other) some ∙ is in
    put ∙ (ap (λ (b : Bool). cond b (Some sum) (middle other)) is
    ∙ (kept is ∙ sym (ap (λ (b : Bool). cond b (Some (grown (unwrap_or (before other) (fresh alike line)) line.facts.size)) (before other)) test)))

pub group_set : (alike : Alike) (line : Line) (key other : List ℕ) (before middle new : List ℕ → Option Summed) (sum : Summed) → key ≡ key_of alike line → (length key == 0) ≡ false
    → (bytes_eq key other ≡ false → middle other ≡ before other) → new other ≡ cond (bytes_eq key other) (Some sum) (middle other)
    → sum ≡ grown (unwrap_or (before key) (fresh alike line)) line.facts.size → new other ≡ sum_after alike other (before other) line
group_set alike line key other before middle new sum is some kept put grows =
    set_by (bytes_eq key other) alike line key other before middle new sum refl some kept put grows
    ∙ ap (λ (k : List ℕ). cond (not (length k == 0) && bytes_eq k other) (Some (grown (unwrap_or (before other) (fresh alike line)) line.facts.size)) (before other)) is

pub none_set : (alike : Alike) (line : Line) (key other : List ℕ) (old : Option Summed) → key ≡ key_of alike line → (length key == 0) ≡ true → old ≡ sum_after alike other old line
none_set alike line key other old is empty =
    sym (ap (λ (b : Bool). cond (not b && bytes_eq (key_of alike line) other) (Some (grown (unwrap_or old (fresh alike line)) line.facts.size)) old)
    (ap (λ (k : List ℕ). length k == 0) (sym is) ∙ empty))

pub map_chosen : {X Y : Type 0} (f : X → Y) (test : Bool) (x : X) (other : Option X) → option_map f (cond test (Some x) other) ≡ cond test (Some (f x)) (option_map f other)
map_chosen f true x other = refl
map_chosen f false x other = refl

pub map_others : {X Y : Type 0} (f : X → Y) (test : Bool) (other : Option X) → test ≡ false → option_map f (cond test None other) ≡ option_map f other
map_others f true other is = cc
map_others f false other is = refl

pub groups_none : (alike : Alike) (groups : BTreeMap (String Global) GroupSum) → groups.entries ≡ [] → AreGroups alike [] groups
groups_none alike groups none = λ key. rw none refl
