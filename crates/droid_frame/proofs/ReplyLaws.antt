-- The grammar of replies and the value that is read are one: each reply that is spelled is read, and
-- what is read is spelled.
use Rattle.std.proofs.Common.{◌≡◌, ℕ, ◌≤◌, arith, Bool, false, cond, eqb, ltb, List, [], ◌++◌, length, Option, Some, None, refl, sym, ap, subst, ◌∙◌, inl, inr}
use Rattle.std.specs.Int.{w32, w64}
use Rattle.std.proofs.lemmas.Bool.{eqb-true, ltb-false, le-ltb}
use Rattle.std.proofs.lemmas.List.{append-nil}
use Rattle.droid_frame.specs.declared.reading.replies.finished.FinishedHead.{FinishedHead}
use Rattle.droid_frame.specs.declared.method.Method.{Method}
use Rattle.droid_frame.specs.Limits.{part_limit, puid_limit, puids_limit}
use Rattle.droid_frame.specs.declared.hash_value.HashValue.{HashValue}
use Rattle.droid_frame.specs.declared.reply.Reply.{Reply}
use Rattle.droid_frame.specs.declared.reply.Reply.TheVariants.{Made, Node, Taken, Finished, Abandoned, Progress, Part, Refused}
use Rattle.droid_frame.specs.Fields.{IsBytes, IsU32, u32_bytes, u64_bytes}
use Rattle.droid_frame.specs.Reading.{◌>>=◌, number_at, whole}
use Rattle.droid_frame.specs.Replies.{SpellsReply, HasReplySpelling, HasRefusalSpelling, refusal_bytes, reply_kind, reply_bytes}
use Rattle.droid_frame.specs.ReplyRefusals.{refusal_at}
use Rattle.droid_frame.specs.ReplyResults.{SpellsOneReply}
use Rattle.droid_frame.specs.ReplyValues.{finished_head_at, made_value, node_value, taken_value, finished_value, abandoned_value, progress_value, part_value, refused_value, plain_value, any_value, reply_value}
use Rattle.droid_frame.proofs.FieldLaws.{bind_some, some_is, IsField, u32_field, u64_field, unless_some, where_true, whole_reads, whole_again}
use Rattle.droid_frame.specs.TextListFields.{texts_at}
use Rattle.droid_frame.specs.TextLists.{texts_bytes}
use Rattle.droid_frame.specs.Versions.{IsVersion, is_version}
use Rattle.droid_frame.proofs.FinishedLaws.{head_bytes, head_field, head_regroups}
use Rattle.droid_frame.proofs.TextListLaws.{AreTexts, texts_field}
use Rattle.droid_frame.proofs.ReplyFieldLaws.{either_way, refusal_field}

-- a field that takes all the bytes
record IsLast {A B : Type 0} (spelled : A → List ℕ) (HasOne : A → Type 0) (make : A → B) (bytes : List ℕ) (made : B) : Type 0 where
  pub value : A
  pub bytes_are : bytes ≡ spelled value
  pub has_one : HasOne value
  pub makes : make value ≡ made

last_reads : {A B : Type 0} (at : List ℕ → Option (A × List ℕ)) (spelled : A → List ℕ) (HasOne : A → Type 0) (make : A → B) (bytes : List ℕ) (made : B) → IsField at spelled HasOne → IsBytes bytes → (at bytes >>= λ x. whole x.1 (make x.0)) ≡ Some made → IsLast spelled HasOne make bytes made
last_reads at spelled HasOne make bytes made field are e =
    let x = bind_some (at bytes) (λ x. whole x.1 (make x.0)) made e in
    let end = whole_reads x.0.1 (make x.0.0) made x.2 in
    let front = field.reads bytes x.0 are x.1 in
    record {
      value = x.0.0;
      bytes_are = front.0.parts ∙ (ap (λ (r : List ℕ). spelled x.0.0 ++ r) end.0 ∙ append-nil (spelled x.0.0));
      has_one = front.1;
      makes = end.1;
    }

last_again : {A B : Type 0} (at : List ℕ → Option (A × List ℕ)) (spelled : A → List ℕ) (HasOne : A → Type 0) (make : A → B) (value : A) → IsField at spelled HasOne → HasOne value → (at (spelled value) >>= λ x. whole x.1 (make x.0)) ≡ Some (make value)
last_again at spelled HasOne make value field has_one =
    let again : at (spelled value) ≡ Some (value, []) = ap at (sym (append-nil (spelled value))) ∙ field.again value [] has_one in
    rw again (whole_again (make value))

-- a field before others
front_again : {A B : Type 0} (at : List ℕ → Option (A × List ℕ)) (spelled : A → List ℕ) (HasOne : A → Type 0) (value : A) (rest : List ℕ) (next : A × List ℕ → Option B) → IsField at spelled HasOne → HasOne value → (at (spelled value ++ rest) >>= next) ≡ next (value, rest)
front_again {A} {B} at spelled HasOne value rest next field has_one = ap (λ (o : Option (A × List ℕ)). o >>= next) (field.again value rest has_one)

-- ---- what is read is spelled

made_reads : (version : ℕ) (body : List ℕ) (reply : Reply) → IsVersion version → IsBytes body → made_value body ≡ Some reply → SpellsReply version 129 body reply
unfolding made_value
made_reads version body reply is are e =
    let last = last_reads (number_at w32) u32_bytes IsU32 Made body reply u32_field are e in
    subst (SpellsReply version 129 body) last.makes (record { version_is = is; kind_is = refl; body_is = last.bytes_are; has_spelling = last.has_one })

node_reads : (version : ℕ) (body : List ℕ) (reply : Reply) → IsVersion version → IsBytes body → node_value body ≡ Some reply → SpellsReply version 130 body reply
unfolding node_value
node_reads version body reply is are e =
    let last = last_reads (number_at w32) u32_bytes IsU32 Node body reply u32_field are e in
    subst (SpellsReply version 130 body) last.makes (record { version_is = is; kind_is = refl; body_is = last.bytes_are; has_spelling = last.has_one })

taken_reads : (version : ℕ) (body : List ℕ) (reply : Reply) → IsVersion version → IsBytes body → taken_value body ≡ Some reply → SpellsReply version 131 body reply
unfolding taken_value
taken_reads version body reply is are e =
    let last = last_reads (number_at w32) u32_bytes IsU32 Taken body reply u32_field are e in
    subst (SpellsReply version 131 body) last.makes (record { version_is = is; kind_is = refl; body_is = last.bytes_are; has_spelling = last.has_one })

abandoned_reads : (version : ℕ) (body : List ℕ) (reply : Reply) → IsVersion version → IsBytes body → abandoned_value body ≡ Some reply → SpellsReply version 133 body reply
unfolding abandoned_value
abandoned_reads version body reply is are e =
    let end = whole_reads body Abandoned reply e in
    subst (SpellsReply version 133 body) end.1 (record { version_is = is; kind_is = refl; body_is = end.0; has_spelling = tt })

progress_reads : (version : ℕ) (body : List ℕ) (reply : Reply) → IsVersion version → IsBytes body → progress_value body ≡ Some reply → SpellsReply version 134 body reply
unfolding progress_value
progress_reads version body reply is are e =
    let held = bind_some (number_at w32 body) (λ h. number_at w32 h.1 >>= λ m. whole m.1 (Progress h.0 m.0)) reply e in
    let h = held.0 in
    let front = u32_field.reads body h are held.1 in
    let last = last_reads (number_at w32) u32_bytes IsU32 (Progress h.0) h.1 reply u32_field front.0.bytes_follow held.2 in
    subst (SpellsReply version 134 body) last.makes (record {
      version_is = is;
      kind_is = refl;
      body_is = front.0.parts ∙ ap (λ (r : List ℕ). u32_bytes h.0 ++ r) last.bytes_are;
      has_spelling = (front.1, last.has_one);
    })

-- a test that keeps the bytes within a limit
within_some : {A : Type 0} (limit size : ℕ) (x y : A) → cond (ltb limit size) None (Some x) ≡ Some y → (size ≤ limit) × (x ≡ y)
within_some limit size x y e = let kept = unless_some (ltb limit size) x y e in (ltb-false _ _ kept.0, kept.1)

part_reads : (version : ℕ) (body : List ℕ) (reply : Reply) → IsVersion version → IsBytes body → part_value body ≡ Some reply → SpellsReply version 135 body reply
unfolding part_value
part_reads version body reply is are e =
    let as_of = bind_some (number_at w64 body) (λ a. number_at w64 a.1 >>= λ t. cond (ltb part_limit (length t.1)) None (Some (Part a.0 t.0 t.1))) reply e in
    let a = as_of.0 in
    let total = bind_some (number_at w64 a.1) (λ t. cond (ltb part_limit (length t.1)) None (Some (Part a.0 t.0 t.1))) reply as_of.2 in
    let t = total.0 in
    let within = within_some part_limit (length t.1) (Part a.0 t.0 t.1) reply total.2 in
    let a_front = u64_field.reads body a are as_of.1 in
    let t_front = u64_field.reads a.1 t a_front.0.bytes_follow total.1 in
    subst (SpellsReply version 135 body) within.1 (record {
      version_is = is;
      kind_is = refl;
      body_is = a_front.0.parts ∙ ap (λ (r : List ℕ). u64_bytes a.0 ++ r) t_front.0.parts;
      has_spelling = (a_front.1, t_front.1, within.0, t_front.0.bytes_follow);
    })

refused_reads : (version : ℕ) (body : List ℕ) (reply : Reply) → IsVersion version → IsBytes body → refused_value body ≡ Some reply → SpellsReply version 136 body reply
unfolding refused_value
refused_reads version body reply is are e =
    let last = last_reads refusal_at refusal_bytes HasRefusalSpelling Refused body reply refusal_field are e in
    subst (SpellsReply version 136 body) last.makes (record { version_is = is; kind_is = refl; body_is = last.bytes_are; has_spelling = last.has_one })

finished_reads : (version : ℕ) (body : List ℕ) (reply : Reply) → IsVersion version → IsBytes body → finished_value version body ≡ Some reply → SpellsReply version 132 body reply
unfolding finished_value
finished_reads version body reply is are e =
    let head = bind_some (finished_head_at version body) (λ h. texts_at h.0.count 1 puid_limit h.1 >>= λ p. whole p.1 (Finished h.0.method h.0.mismatch h.0.hash p.0)) reply e in
    let h = head.0 in
    let front = (head_field version).reads body h are head.1 in
    let last = last_reads (texts_at h.0.count 1 puid_limit) texts_bytes (AreTexts h.0.count 1 puid_limit) (Finished h.0.method h.0.mismatch h.0.hash) h.1 reply (texts_field h.0.count 1 puid_limit) front.0.bytes_follow head.2 in
    let puids = last.value in
    let few : length puids ≤ puids_limit = omega (arith, last.has_one.0, front.1.1) in
    let parts : body ≡ head_bytes version h.0 ++ texts_bytes puids = front.0.parts ∙ ap (λ (r : List ℕ). head_bytes version h.0 ++ r) last.bytes_are in
    let same : head_bytes version h.0 ++ texts_bytes puids ≡ reply_bytes version (Finished h.0.method h.0.mismatch h.0.hash puids) = rw last.has_one.0 (head_regroups version h.0 (texts_bytes puids)) in
    subst (SpellsReply version 132 body) last.makes (record { version_is = is; kind_is = refl; body_is = parts ∙ same; has_spelling = (front.1.0, few, last.has_one.1) })

-- ---- what is spelled is read

abbrev head_of : Method → Bool → HashValue → List (List ℕ) → FinishedHead
head_of method mismatch hash puids = record { method = method; mismatch = mismatch; hash = hash; count = length puids }

finished_again : (version : ℕ) (method : Method) (mismatch : Bool) (hash : HashValue) (puids : List (List ℕ)) → HasReplySpelling version (Finished method mismatch hash puids) → finished_value version (reply_bytes version (Finished method mismatch hash puids)) ≡ Some (Finished method mismatch hash puids)
unfolding finished_value
finished_again version method mismatch hash puids fits =
    let head = head_of method mismatch hash puids in
    ap (finished_value version) (sym (head_regroups version head (texts_bytes puids)))
    ∙ rw ((head_field version).again head (texts_bytes puids) (fits.0, fits.1)) (last_again (texts_at (length puids) 1 puid_limit) texts_bytes (AreTexts (length puids) 1 puid_limit) (Finished method mismatch hash) puids (texts_field (length puids) 1 puid_limit) (refl, fits.2))

progress_again : (version held missing : ℕ) → HasReplySpelling version (Progress held missing) → progress_value (reply_bytes version (Progress held missing)) ≡ Some (Progress held missing)
unfolding progress_value
progress_again version held missing fits =
    front_again (number_at w32) u32_bytes IsU32 held (u32_bytes missing) (λ h. number_at w32 h.1 >>= λ m. whole m.1 (Progress h.0 m.0)) u32_field fits.0
    ∙ last_again (number_at w32) u32_bytes IsU32 (Progress held) missing u32_field fits.1

part_again : (version as_of total : ℕ) (bytes : List ℕ) → HasReplySpelling version (Part as_of total bytes) → part_value (reply_bytes version (Part as_of total bytes)) ≡ Some (Part as_of total bytes)
unfolding part_value
part_again version as_of total bytes fits =
    let kept : ltb part_limit (length bytes) ≡ false = le-ltb _ _ fits.2 in
    rw (u64_field.again as_of (u64_bytes total ++ bytes) fits.0, u64_field.again total bytes fits.1, kept) refl

again : (version : ℕ) (reply : Reply) → HasReplySpelling version reply → any_value version (reply_kind reply) (reply_bytes version reply) ≡ Some reply
unfolding any_value plain_value made_value node_value taken_value abandoned_value progress_value refused_value
again version (Made profile) fits = last_again (number_at w32) u32_bytes IsU32 Made profile u32_field fits
again version (Node id) fits = last_again (number_at w32) u32_bytes IsU32 Node id u32_field fits
again version (Taken held) fits = last_again (number_at w32) u32_bytes IsU32 Taken held u32_field fits
again version (Finished method mismatch hash puids) fits = finished_again version method mismatch hash puids fits
again version Abandoned fits = whole_again Abandoned
again version (Progress held missing) fits = progress_again version held missing fits
again version (Part as_of total bytes) fits = part_again version as_of total bytes fits
again version (Refused refusal) fits = last_again refusal_at refusal_bytes HasRefusalSpelling Refused refusal refusal_field fits

pub spelled_is_value : (version kind : ℕ) (body : List ℕ) (reply : Reply) → SpellsReply version kind body reply → reply_value version kind body ≡ Some reply
unfolding reply_value
spelled_is_value version kind body reply spelled = rw (spelled.version_is, spelled.kind_is, spelled.body_is) (again version reply spelled.has_spelling)

pub spells_one_reply : SpellsOneReply
spells_one_reply version kind body one other first second =
    some_is one other (sym (spelled_is_value version kind body one first) ∙ spelled_is_value version kind body other second)

-- ---- the value is spelled

abbrev no_reply : Option Reply
no_reply = None

abbrev ReadsSpelled : ℕ → List ℕ → Reply → ℕ → (List ℕ → Option Reply) → Type 0
ReadsSpelled version body reply kind value_of = value_of body ≡ Some reply → SpellsReply version kind body reply

-- at this kind, or at another
by_kind : (version : ℕ) (body : List ℕ) (reply : Reply) (kind known : ℕ) (value : List ℕ → Option Reply) (other : Option Reply) → ReadsSpelled version body reply known value → (other ≡ Some reply → SpellsReply version kind body reply) → cond (eqb kind known) (value body) other ≡ Some reply → SpellsReply version kind body reply
by_kind version body reply kind known value other here there e =
    elim (either_way (eqb kind known) (value body) other (Some reply) e) [
      | inl is ↦ subst (λ (k : ℕ). SpellsReply version k body reply) (sym (eqb-true _ _ is.0)) (here is.1)
      | inr f ↦ there f
    ]

any_reads : (version kind : ℕ) (body : List ℕ) (reply : Reply) → IsVersion version → IsBytes body → any_value version kind body ≡ Some reply → SpellsReply version kind body reply
unfolding any_value plain_value
any_reads version kind body reply is are =
    by_kind version body reply kind 132 (finished_value version) _ (finished_reads version body reply is are)
    (by_kind version body reply kind 129 made_value _ (made_reads version body reply is are)
    (by_kind version body reply kind 130 node_value _ (node_reads version body reply is are)
    (by_kind version body reply kind 131 taken_value _ (taken_reads version body reply is are)
    (by_kind version body reply kind 133 abandoned_value _ (abandoned_reads version body reply is are)
    (by_kind version body reply kind 134 progress_value _ (progress_reads version body reply is are)
    (by_kind version body reply kind 135 part_value _ (part_reads version body reply is are)
    (by_kind version body reply kind 136 refused_value _ (refused_reads version body reply is are)
    (λ (none : no_reply ≡ Some reply). absurd cc))))))))

pub value_is_spelled : (version kind : ℕ) (body : List ℕ) (reply : Reply) → IsBytes body → reply_value version kind body ≡ Some reply → SpellsReply version kind body reply
unfolding reply_value
value_is_spelled version kind body reply are e =
    let known = where_true (is_version version) (any_value version kind body) reply e in
    any_reads version kind body reply known.0 are known.1
