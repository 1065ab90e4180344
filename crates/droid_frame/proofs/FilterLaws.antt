-- Filters: what is read is what is spelled, and what is spelled is read again.
use Rattle.std.proofs.Common.{◌≡◌, ℕ, zero, suc, ◌<◌, List, [], ◌∷◌, ◌++◌, length, Option, Some, None, refl, sym, ap, subst, ◌∙◌, append_assoc}
use Rattle.std.specs.Int.{w64}
use Rattle.std.specs.List.{flat_map, AllByRecursion}
use Rattle.std.proofs.lemmas.List.{append-nil}
use Rattle.droid_frame.specs.declared.criterion.Criterion.{Criterion}
use Rattle.droid_frame.specs.declared.criterion.Criterion.TheVariants.{MethodIs, PuidIn, ExtIn, MismatchIs, SizeAtLeast, SizeAtMost, KindIs}
use Rattle.droid_frame.specs.declared.filter.Filter.{Filter}
use Rattle.droid_frame.specs.declared.node_kind.NodeKind.{NodeKind}
use Rattle.droid_frame.specs.declared.node_kind.NodeKind.TheVariants.{File, Folder}
use Rattle.droid_frame.specs.Fields.{IsBytes, IsU64, u64_bytes, truth_bytes, method_bytes}
use Rattle.droid_frame.specs.FilterValues.{node_kind_at, list_at, method_is_at, puid_in_at, ext_in_at, mismatch_is_at, size_at_least_at, size_at_most_at, kind_is_at, plain_at, tagged_at, criterion_at, filter_at, filter_value}
use Rattle.droid_frame.specs.Filters.{node_kind_bytes, list_bytes, criterion_bytes, filter_bytes, IsList, IsCriterion, IsFilter}
use Rattle.droid_frame.specs.Reading.{◌>>=◌, byte_at, number_at, truth_at, method_at, whole}
use Rattle.droid_frame.specs.SequenceFields.{sequence_at, counted_at}
use Rattle.droid_frame.specs.Sequences.{counted_bytes}
use Rattle.droid_frame.specs.TextListFields.{sized_text_at}
use Rattle.droid_frame.specs.TextLists.{IsSizedText, sized_bytes}
use Rattle.droid_frame.proofs.FieldLaws.{IsField, IsFront, IsBytes-rest, bind_some, some_is, by_number, byte_field, byte_reads, u64_field, truth_field, method_field, Always, AlwaysMethod, whole_reads, whole_again}
use Rattle.droid_frame.proofs.SequenceLaws.{front_then, sequence_field}
use Rattle.droid_frame.proofs.TextListLaws.{sized_text_field}

-- ---- a field after another, and a value made of a field

-- a value made of one field, after a tag
abbrev Leaves : {A : Type 0} → (A → List ℕ) → (A → Type 0) → List ℕ → A × List ℕ → Type 0
Leaves spelled HasOne bytes x = IsFront bytes (spelled x.0) x.1 × HasOne x.0

-- ---- values behind their count

counted_reads : {A : Type 0} (at : List ℕ → Option (A × List ℕ)) (spelled : A → List ℕ) (HasOne : A → Type 0) → IsField at spelled HasOne
    → (bytes : List ℕ) (x : List A × List ℕ) → IsBytes bytes → counted_at at bytes ≡ Some x → IsFront bytes (counted_bytes spelled x.0) x.1 × ((length x.0 < 256) × AllByRecursion HasOne x.0)
unfolding counted_at
counted_reads at spelled HasOne field bytes x are e =
    let count = bind_some (byte_at bytes) (λ n. sequence_at at n.0 n.1) x e in
    let front = byte_reads bytes count.0 are count.1 in
    let many = (sequence_field at spelled HasOne field count.0.0).reads count.0.1 x front.0.bytes_follow count.2 in
    let both = front_then bytes (count.0.0 ∷ []) count.0.1 (flat_map spelled x.0) x.1 front.0 many.0 in
    let size : length x.0 ≡ count.0.0 = many.1.0 in
    (rw size both, (rw size front.1, many.1.1))

counted_again : {A : Type 0} (at : List ℕ → Option (A × List ℕ)) (spelled : A → List ℕ) (HasOne : A → Type 0) → IsField at spelled HasOne
    → (values : List A) (rest : List ℕ) → (length values < 256) × AllByRecursion HasOne values → counted_at at (counted_bytes spelled values ++ rest) ≡ Some (values, rest)
unfolding counted_at
counted_again at spelled HasOne field values rest are =
    rw (byte_field.again (length values) (flat_map spelled values ++ rest) are.0) ((sequence_field at spelled HasOne field (length values)).again values rest (refl, are.1))

pub counted_field : {A : Type 0} (at : List ℕ → Option (A × List ℕ)) (spelled : A → List ℕ) (HasOne : A → Type 0) → IsField at spelled HasOne
    → IsField (counted_at at) (counted_bytes spelled) (λ values. (length values < 256) × AllByRecursion HasOne values)
counted_field at spelled HasOne field = record { reads = counted_reads at spelled HasOne field; again = counted_again at spelled HasOne field }

list_reads : (bytes : List ℕ) (x : List (List ℕ) × List ℕ) → IsBytes bytes → list_at bytes ≡ Some x → Leaves list_bytes IsList bytes x
unfolding list_at
list_reads bytes x are e =
    let read = counted_reads (sized_text_at 0 255) sized_bytes (IsSizedText 0 255) (sized_text_field 0 255) bytes x are e in
    (read.0, record { few = read.1.0; each = read.1.1 })

list_again : (texts : List (List ℕ)) (rest : List ℕ) → IsList texts → list_at (list_bytes texts ++ rest) ≡ Some (texts, rest)
unfolding list_at
list_again texts rest is = counted_again (sized_text_at 0 255) sized_bytes (IsSizedText 0 255) (sized_text_field 0 255) texts rest (is.few, is.each)

pub list_field : IsField list_at list_bytes IsList
list_field = record { reads = list_reads; again = list_again }

-- ---- the kind of a node

abbrev AlwaysKind : NodeKind → Type 0
AlwaysKind kind = Unit {0}

node_kind_reads : (bytes : List ℕ) (x : NodeKind × List ℕ) → IsBytes bytes → node_kind_at bytes ≡ Some x → Leaves node_kind_bytes AlwaysKind bytes x
unfolding node_kind_at
node_kind_reads [] x are e = absurd cc
node_kind_reads (zero ∷ bytes) x are e =
    subst (Leaves node_kind_bytes AlwaysKind (0 ∷ bytes)) (some_is (File, bytes) x e) (record { parts = refl; bytes_follow = IsBytes-rest 0 bytes are }, tt)
node_kind_reads (suc zero ∷ bytes) x are e =
    subst (Leaves node_kind_bytes AlwaysKind (1 ∷ bytes)) (some_is (Folder, bytes) x e) (record { parts = refl; bytes_follow = IsBytes-rest 1 bytes are }, tt)
node_kind_reads (suc (suc b) ∷ bytes) x are e = absurd cc

node_kind_again : (kind : NodeKind) (rest : List ℕ) → AlwaysKind kind → node_kind_at (node_kind_bytes kind ++ rest) ≡ Some (kind, rest)
unfolding node_kind_at
node_kind_again File rest always = refl
node_kind_again Folder rest always = refl

node_kind_field : IsField node_kind_at node_kind_bytes AlwaysKind
node_kind_field = record { reads = node_kind_reads; again = node_kind_again }

-- ---- criteria

-- after its tag, the bytes spell the criterion
record IsTagged (tag : ℕ) (bytes : List ℕ) (x : Criterion × List ℕ) : Type 0 where
  pub spelled : tag ∷ bytes ≡ criterion_bytes x.0 ++ x.1
  pub bytes_follow : IsBytes x.1
  pub has_one : IsCriterion x.0

-- a criterion made of one field
made_reads : {A : Type 0} (tag : ℕ) (at : List ℕ → Option (A × List ℕ)) (spelled : A → List ℕ) (HasOne : A → Type 0) (make : A → Criterion) → IsField at spelled HasOne
    → ((a : A) → criterion_bytes (make a) ≡ tag ∷ spelled a) → ((a : A) → HasOne a → IsCriterion (make a))
    → (bytes : List ℕ) (x : Criterion × List ℕ) → IsBytes bytes → (at bytes >>= λ a. Some (make a.0, a.1)) ≡ Some x → IsTagged tag bytes x
made_reads tag at spelled HasOne make field spells has bytes x are e =
    let value = bind_some (at bytes) (λ a. Some (make a.0, a.1)) x e in
    let front = field.reads bytes value.0 are value.1 in
    let made : Criterion × List ℕ = (make value.0.0, value.0.1) in
    subst (IsTagged tag bytes) (some_is made x value.2) (record {
      spelled = rw (spells value.0.0) (ap (λ (r : List ℕ). tag ∷ r) front.0.parts);
      bytes_follow = front.0.bytes_follow;
      has_one = has value.0.0 front.1;
    })

method_is_reads : (bytes : List ℕ) (x : Criterion × List ℕ) → IsBytes bytes → method_is_at bytes ≡ Some x → IsTagged 1 bytes x
unfolding method_is_at
method_is_reads bytes x are e = made_reads 1 method_at method_bytes AlwaysMethod MethodIs method_field (λ a. refl) (λ a h. tt) bytes x are e

puid_in_reads : (bytes : List ℕ) (x : Criterion × List ℕ) → IsBytes bytes → puid_in_at bytes ≡ Some x → IsTagged 2 bytes x
unfolding puid_in_at
puid_in_reads bytes x are e = made_reads 2 list_at list_bytes IsList PuidIn list_field (λ a. refl) (λ a h. h) bytes x are e

ext_in_reads : (bytes : List ℕ) (x : Criterion × List ℕ) → IsBytes bytes → ext_in_at bytes ≡ Some x → IsTagged 3 bytes x
unfolding ext_in_at
ext_in_reads bytes x are e = made_reads 3 list_at list_bytes IsList ExtIn list_field (λ a. refl) (λ a h. h) bytes x are e

mismatch_is_reads : (bytes : List ℕ) (x : Criterion × List ℕ) → IsBytes bytes → mismatch_is_at bytes ≡ Some x → IsTagged 4 bytes x
unfolding mismatch_is_at
mismatch_is_reads bytes x are e = made_reads 4 truth_at truth_bytes Always MismatchIs truth_field (λ a. refl) (λ a h. tt) bytes x are e

size_at_least_reads : (bytes : List ℕ) (x : Criterion × List ℕ) → IsBytes bytes → size_at_least_at bytes ≡ Some x → IsTagged 5 bytes x
unfolding size_at_least_at
size_at_least_reads bytes x are e = made_reads 5 (number_at w64) u64_bytes IsU64 SizeAtLeast u64_field (λ a. refl) (λ a h. h) bytes x are e

size_at_most_reads : (bytes : List ℕ) (x : Criterion × List ℕ) → IsBytes bytes → size_at_most_at bytes ≡ Some x → IsTagged 6 bytes x
unfolding size_at_most_at
size_at_most_reads bytes x are e = made_reads 6 (number_at w64) u64_bytes IsU64 SizeAtMost u64_field (λ a. refl) (λ a h. h) bytes x are e

kind_is_reads : (bytes : List ℕ) (x : Criterion × List ℕ) → IsBytes bytes → kind_is_at bytes ≡ Some x → IsTagged 7 bytes x
unfolding kind_is_at
kind_is_reads bytes x are e = made_reads 7 node_kind_at node_kind_bytes AlwaysKind KindIs node_kind_field (λ a. refl) (λ a h. tt) bytes x are e

plain_reads : (tag : ℕ) (bytes : List ℕ) (x : Criterion × List ℕ) → IsBytes bytes → plain_at tag bytes ≡ Some x → IsTagged tag bytes x
unfolding plain_at
plain_reads tag bytes x are e =
    let P : ℕ → Type 0 = λ t. IsTagged t bytes x in
    by_number 1 P tag _ _ x (method_is_reads bytes x are)
    (by_number 4 P tag _ _ x (mismatch_is_reads bytes x are)
    (by_number 5 P tag _ _ x (size_at_least_reads bytes x are)
    (by_number 6 P tag _ _ x (size_at_most_reads bytes x are)
    (by_number 7 P tag _ None x (kind_is_reads bytes x are) (λ none. absurd cc))))) e

tagged_reads : (tag : ℕ) (bytes : List ℕ) (x : Criterion × List ℕ) → IsBytes bytes → tagged_at tag bytes ≡ Some x → IsTagged tag bytes x
unfolding tagged_at
tagged_reads tag bytes x are e =
    let P : ℕ → Type 0 = λ t. IsTagged t bytes x in
    by_number 2 P tag _ _ x (puid_in_reads bytes x are) (by_number 3 P tag _ _ x (ext_in_reads bytes x are) (plain_reads tag bytes x are)) e

criterion_reads : (bytes : List ℕ) (x : Criterion × List ℕ) → IsBytes bytes → criterion_at bytes ≡ Some x → Leaves criterion_bytes IsCriterion bytes x
unfolding criterion_at
criterion_reads bytes x are e =
    let tag = bind_some (byte_at bytes) (λ t. tagged_at t.0 t.1) x e in
    let front = byte_reads bytes tag.0 are tag.1 in
    let is = tagged_reads tag.0.0 tag.0.1 x front.0.bytes_follow tag.2 in
    (record { parts = front.0.parts ∙ is.spelled; bytes_follow = is.bytes_follow }, is.has_one)

criterion_again : (criterion : Criterion) (rest : List ℕ) → IsCriterion criterion → criterion_at (criterion_bytes criterion ++ rest) ≡ Some (criterion, rest)
unfolding criterion_at byte_at tagged_at plain_at method_is_at puid_in_at ext_in_at mismatch_is_at size_at_least_at size_at_most_at kind_is_at
criterion_again (MethodIs method) rest is = rw (method_field.again method rest tt) refl
criterion_again (PuidIn texts) rest is = rw (list_again texts rest is) refl
criterion_again (ExtIn texts) rest is = rw (list_again texts rest is) refl
criterion_again (MismatchIs mismatch) rest is = rw (truth_field.again mismatch rest tt) refl
criterion_again (SizeAtLeast size) rest is = rw (u64_field.again size rest is) refl
criterion_again (SizeAtMost size) rest is = rw (u64_field.again size rest is) refl
criterion_again (KindIs kind) rest is = rw (node_kind_again kind rest tt) refl

pub criterion_field : IsField criterion_at criterion_bytes IsCriterion
criterion_field = record { reads = criterion_reads; again = criterion_again }

-- ---- filters

filter_reads : (bytes : List ℕ) (x : Filter × List ℕ) → IsBytes bytes → filter_at bytes ≡ Some x → Leaves filter_bytes IsFilter bytes x
unfolding filter_at
filter_reads bytes x are e =
    let all = bind_some (truth_at bytes) (λ a. counted_at criterion_at a.1 >>= λ c. Some (record { all = a.0; criteria = c.0 }, c.1)) x e in
    let criteria = bind_some (counted_at criterion_at all.0.1) (λ c. Some (record { all = all.0.0; criteria = c.0 }, c.1)) x all.2 in
    let all_front = truth_field.reads bytes all.0 are all.1 in
    let read = counted_reads criterion_at criterion_bytes IsCriterion criterion_field all.0.1 criteria.0 all_front.0.bytes_follow criteria.1 in
    let front = front_then bytes (truth_bytes all.0.0) all.0.1 (counted_bytes criterion_bytes criteria.0.0) criteria.0.1 all_front.0 read.0 in
    let value : Filter × List ℕ = (record { all = all.0.0; criteria = criteria.0.0 }, criteria.0.1) in
    subst (Leaves filter_bytes IsFilter bytes) (some_is value x criteria.2) (front, record { few = read.1.0; each = read.1.1 })

filter_again : (filter : Filter) (rest : List ℕ) → IsFilter filter → filter_at (filter_bytes filter ++ rest) ≡ Some (filter, rest)
unfolding filter_at
filter_again filter rest is =
    let criteria = counted_bytes criterion_bytes filter.criteria in
    let regrouped : filter_bytes filter ++ rest ≡ truth_bytes filter.all ++ (criteria ++ rest) = append_assoc (truth_bytes filter.all) criteria rest in
    ap filter_at regrouped ∙ rw (truth_field.again filter.all (criteria ++ rest) tt, counted_again criterion_at criterion_bytes IsCriterion criterion_field filter.criteria rest (is.few, is.each)) refl

-- all the bytes
pub filter_value_reads : (bytes : List ℕ) (filter : Filter) → IsBytes bytes → filter_value bytes ≡ Some filter → (bytes ≡ filter_bytes filter) × IsFilter filter
unfolding filter_value
filter_value_reads bytes filter are e =
    let read = bind_some (filter_at bytes) (λ f. whole f.1 f.0) filter e in
    let front = filter_reads bytes read.0 are read.1 in
    let end = whole_reads read.0.1 read.0.0 filter read.2 in
    let spelled : bytes ≡ filter_bytes read.0.0 = front.0.parts ∙ (ap (λ (r : List ℕ). filter_bytes read.0.0 ++ r) end.0 ∙ append-nil (filter_bytes read.0.0)) in
    subst (λ (f : Filter). (bytes ≡ filter_bytes f) × IsFilter f) end.1 (spelled, front.1)

pub filter_value_again : (filter : Filter) → IsFilter filter → filter_value (filter_bytes filter) ≡ Some filter
unfolding filter_value
filter_value_again filter is =
    let read : filter_at (filter_bytes filter) ≡ Some (filter, []) = ap filter_at (sym (append-nil (filter_bytes filter))) ∙ filter_again filter [] is in
    rw (read, whole_again filter) refl
