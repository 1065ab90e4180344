-- The grammar of requests and the value that is read are one: each request that is spelled is read,
-- and what is read is spelled.
use Rattle.std.proofs.Common.{◌≡◌, ℕ, pos, List, [], ◌++◌, Option, Some, None, refl, sym, ap, subst, ◌∙◌}
use Rattle.std.specs.Int.{w32, w64}
use Rattle.std.proofs.lemmas.List.{append-nil}
use Rattle.droid_frame.specs.declared.reading.requests.node_head.NodeHead.{NodeHead}
use Rattle.droid_frame.specs.declared.request.Request.{Request}
use Rattle.droid_frame.specs.declared.request.Request.TheVariants.{CreateProfile, AddFolder, AddFile, Piece, Finish, Abandon, Status, Export}
use Rattle.droid_frame.specs.Fields.{IsBytes, IsU32, u32_bytes, u64_bytes, truth_bytes}
use Rattle.droid_frame.specs.Filters.{filter_bytes}
use Rattle.droid_frame.specs.Hashes.{hash_field}
use Rattle.droid_frame.specs.Versions.{IsVersion, is_version}
use Rattle.droid_frame.specs.HashFields.{carried_kind_at}
use Rattle.droid_frame.specs.FilterValues.{filter_value}
use Rattle.droid_frame.specs.Bodies.{SpellsRequest, HasSpelling, request_kind, request_body}
use Rattle.droid_frame.specs.NodeHeads.{node_head_at}
use Rattle.droid_frame.specs.Reading.{◌>>=◌, number_at, truth_at, text_at, whole}
use Rattle.droid_frame.specs.RequestValues.{create_profile_value, add_folder_value, add_file_value, piece_value, file_value, finish_value, abandon_value, status_value, export_value, plain_value, any_value, request_value}
use Rattle.droid_frame.proofs.FieldLaws.{bind_some, some_is, by_number, where_true, u32_field, u64_field, truth_field, text_reads, whole_reads, whole_again}
use Rattle.droid_frame.proofs.FilterLaws.{filter_value_reads, filter_value_again}
use Rattle.droid_frame.proofs.HashLaws.{reported_kind_field}
use Rattle.droid_frame.proofs.NodeHeadLaws.{node_head_bytes, node_head_field}
use Rattle.droid_frame.proofs.Utf8.{text_at-utf8}

-- ---- what is read is spelled

create_profile_reads : (version : ℕ) (body : List ℕ) (request : Request) → IsVersion version → IsBytes body → create_profile_value version body ≡ Some request → SpellsRequest version 1 body request
unfolding create_profile_value
create_profile_reads version body request is are e =
    let limit = bind_some (number_at w32 body) (λ n. truth_at n.1 >>= λ all. carried_kind_at version all.1 >>= λ h. whole h.1 (CreateProfile n.0 all.0 h.0)) request e in
    let all = bind_some (truth_at limit.0.1) (λ all. carried_kind_at version all.1 >>= λ h. whole h.1 (CreateProfile limit.0.0 all.0 h.0)) request limit.2 in
    let hash = bind_some (carried_kind_at version all.0.1) (λ h. whole h.1 (CreateProfile limit.0.0 all.0.0 h.0)) request all.2 in
    let end = whole_reads hash.0.1 (CreateProfile limit.0.0 all.0.0 hash.0.0) request hash.2 in
    let limit_front = u32_field.reads body limit.0 are limit.1 in
    let all_front = truth_field.reads limit.0.1 all.0 limit_front.0.bytes_follow all.1 in
    let hash_front = (reported_kind_field version).reads all.0.1 hash.0 all_front.0.bytes_follow hash.1 in
    let last : all.0.1 ≡ hash_field version hash.0.0 = hash_front.0.parts ∙ (ap (λ (r : List ℕ). hash_field version hash.0.0 ++ r) end.0 ∙ append-nil (hash_field version hash.0.0)) in
    subst (SpellsRequest version 1 body) end.1 (record {
      version_is = is;
      kind_is = refl;
      body_is = limit_front.0.parts ∙ ap (λ (r : List ℕ). u32_bytes limit.0.0 ++ r) (all_front.0.parts ∙ ap (λ (r : List ℕ). truth_bytes all.0.0 ++ r) last);
      has_spelling = (limit_front.1, hash_front.1);
    })

add_folder_reads : (version : ℕ) (body : List ℕ) (request : Request) → IsVersion version → IsBytes body → add_folder_value body ≡ Some request → SpellsRequest version 2 body request
unfolding add_folder_value
add_folder_reads version body request is are e =
    let read = bind_some (node_head_at body) (λ p. text_at p.1 >>= λ name. Some (AddFolder p.0.profile p.0.parent p.0.modified name)) request e in
    let head = read.0.0 in
    let name = bind_some (text_at read.0.1) (λ name. Some (AddFolder head.profile head.parent head.modified name)) request read.2 in
    let front = node_head_field.reads body read.0 are read.1 in
    let text = text_reads read.0.1 name.0 name.1 in
    subst (SpellsRequest version 2 body) (some_is (AddFolder head.profile head.parent head.modified name.0) request name.2) (record {
      version_is = is;
      kind_is = refl;
      body_is = front.0.parts ∙ ap (λ (r : List ℕ). node_head_bytes head ++ r) text.0;
      has_spelling = (front.1.0, front.1.1, front.1.2, text.1);
    })

add_file_reads : (version : ℕ) (body : List ℕ) (request : Request) → IsVersion version → IsBytes body → add_file_value body ≡ Some request → SpellsRequest version 3 body request
unfolding add_file_value
add_file_reads version body request is are e =
    let read = bind_some (node_head_at body) (λ p. number_at w64 p.1 >>= λ s. number_at w32 s.1 >>= λ z. text_at z.1 >>= λ name. Some (AddFile p.0.profile p.0.parent p.0.modified s.0 z.0 name)) request e in
    let head = read.0.0 in
    let size = bind_some (number_at w64 read.0.1) (λ s. number_at w32 s.1 >>= λ z. text_at z.1 >>= λ name. Some (AddFile head.profile head.parent head.modified s.0 z.0 name)) request read.2 in
    let s = size.0 in
    let piece_size = bind_some (number_at w32 s.1) (λ z. text_at z.1 >>= λ name. Some (AddFile head.profile head.parent head.modified s.0 z.0 name)) request size.2 in
    let z = piece_size.0 in
    let name = bind_some (text_at z.1) (λ name. Some (AddFile head.profile head.parent head.modified s.0 z.0 name)) request piece_size.2 in
    let front = node_head_field.reads body read.0 are read.1 in
    let s_front = u64_field.reads read.0.1 s front.0.bytes_follow size.1 in
    let z_front = u32_field.reads s.1 z s_front.0.bytes_follow piece_size.1 in
    let text = text_reads z.1 name.0 name.1 in
    subst (SpellsRequest version 3 body) (some_is (AddFile head.profile head.parent head.modified s.0 z.0 name.0) request name.2) (record {
      version_is = is;
      kind_is = refl;
      body_is = front.0.parts ∙ ap (λ (r : List ℕ). node_head_bytes head ++ r) (s_front.0.parts ∙ ap (λ (r : List ℕ). u64_bytes s.0 ++ r) (z_front.0.parts ∙ ap (λ (r : List ℕ). u32_bytes z.0 ++ r) text.0));
      has_spelling = (front.1.0, front.1.1, front.1.2, s_front.1, z_front.1, text.1);
    })

piece_reads : (version : ℕ) (body : List ℕ) (request : Request) → IsVersion version → IsBytes body → piece_value body ≡ Some request → SpellsRequest version 4 body request
unfolding piece_value
piece_reads version body request is are e =
    let profile = bind_some (number_at w32 body) (λ p. number_at w32 p.1 >>= λ f. number_at w32 f.1 >>= λ i. Some (Piece p.0 f.0 i.0 i.1)) request e in
    let p = profile.0 in
    let file = bind_some (number_at w32 p.1) (λ f. number_at w32 f.1 >>= λ i. Some (Piece p.0 f.0 i.0 i.1)) request profile.2 in
    let f = file.0 in
    let index = bind_some (number_at w32 f.1) (λ i. Some (Piece p.0 f.0 i.0 i.1)) request file.2 in
    let i = index.0 in
    let p_front = u32_field.reads body p are profile.1 in
    let f_front = u32_field.reads p.1 f p_front.0.bytes_follow file.1 in
    let i_front = u32_field.reads f.1 i f_front.0.bytes_follow index.1 in
    subst (SpellsRequest version 4 body) (some_is (Piece p.0 f.0 i.0 i.1) request index.2) (record {
      version_is = is;
      kind_is = refl;
      body_is = p_front.0.parts ∙ ap (λ (r : List ℕ). u32_bytes p.0 ++ r) (f_front.0.parts ∙ ap (λ (r : List ℕ). u32_bytes f.0 ++ r) i_front.0.parts);
      has_spelling = (p_front.1, f_front.1, i_front.1, i_front.0.bytes_follow);
    })

-- a profile and a file, and nothing after them
record SpellsFile (body : List ℕ) (file : ℕ × ℕ) : Type 0 where
  pub spelled : body ≡ u32_bytes file.0 ++ u32_bytes file.1
  pub are_u32 : IsU32 file.0 × IsU32 file.1

file_reads : (body : List ℕ) (file : ℕ × ℕ) → IsBytes body → file_value body ≡ Some file → SpellsFile body file
unfolding file_value
file_reads body file are e =
    let profile = bind_some (number_at w32 body) (λ p. number_at w32 p.1 >>= λ f. whole f.1 (p.0, f.0)) file e in
    let p = profile.0 in
    let number = bind_some (number_at w32 p.1) (λ f. whole f.1 (p.0, f.0)) file profile.2 in
    let f = number.0 in
    let value : ℕ × ℕ = (p.0, f.0) in
    let end = whole_reads f.1 value file number.2 in
    let p_front = u32_field.reads body p are profile.1 in
    let f_front = u32_field.reads p.1 f p_front.0.bytes_follow number.1 in
    let rest : p.1 ≡ u32_bytes f.0 = f_front.0.parts ∙ (ap (λ (r : List ℕ). u32_bytes f.0 ++ r) end.0 ∙ append-nil (u32_bytes f.0)) in
    subst (SpellsFile body) end.1 (record {
      spelled = p_front.0.parts ∙ ap (λ (r : List ℕ). u32_bytes p.0 ++ r) rest;
      are_u32 = (p_front.1, f_front.1);
    })

finish_reads : (version : ℕ) (body : List ℕ) (request : Request) → IsVersion version → IsBytes body → finish_value body ≡ Some request → SpellsRequest version 5 body request
unfolding finish_value
finish_reads version body request is are e =
    let file = bind_some (file_value body) (λ f. Some (Finish f.0 f.1)) request e in
    let read = file_reads body file.0 are file.1 in
    subst (SpellsRequest version 5 body) (some_is (Finish file.0.0 file.0.1) request file.2) (record { version_is = is; kind_is = refl; body_is = read.spelled; has_spelling = read.are_u32 })

abandon_reads : (version : ℕ) (body : List ℕ) (request : Request) → IsVersion version → IsBytes body → abandon_value body ≡ Some request → SpellsRequest version 6 body request
unfolding abandon_value
abandon_reads version body request is are e =
    let file = bind_some (file_value body) (λ f. Some (Abandon f.0 f.1)) request e in
    let read = file_reads body file.0 are file.1 in
    subst (SpellsRequest version 6 body) (some_is (Abandon file.0.0 file.0.1) request file.2) (record { version_is = is; kind_is = refl; body_is = read.spelled; has_spelling = read.are_u32 })

status_reads : (version : ℕ) (body : List ℕ) (request : Request) → IsVersion version → IsBytes body → status_value body ≡ Some request → SpellsRequest version 7 body request
unfolding status_value
status_reads version body request is are e =
    let file = bind_some (file_value body) (λ f. Some (Status f.0 f.1)) request e in
    let read = file_reads body file.0 are file.1 in
    subst (SpellsRequest version 7 body) (some_is (Status file.0.0 file.0.1) request file.2) (record { version_is = is; kind_is = refl; body_is = read.spelled; has_spelling = read.are_u32 })

export_reads : (version : ℕ) (body : List ℕ) (request : Request) → IsVersion version → IsBytes body → export_value body ≡ Some request → SpellsRequest version 8 body request
unfolding export_value
export_reads version body request is are e =
    let profile = bind_some (number_at w32 body) (λ p. number_at w64 p.1 >>= λ f. number_at w32 f.1 >>= λ m. filter_value m.1 >>= λ filter. Some (Export p.0 f.0 m.0 filter)) request e in
    let p = profile.0 in
    let from = bind_some (number_at w64 p.1) (λ f. number_at w32 f.1 >>= λ m. filter_value m.1 >>= λ filter. Some (Export p.0 f.0 m.0 filter)) request profile.2 in
    let f = from.0 in
    let max = bind_some (number_at w32 f.1) (λ m. filter_value m.1 >>= λ filter. Some (Export p.0 f.0 m.0 filter)) request from.2 in
    let m = max.0 in
    let filter = bind_some (filter_value m.1) (λ filter. Some (Export p.0 f.0 m.0 filter)) request max.2 in
    let p_front = u32_field.reads body p are profile.1 in
    let f_front = u64_field.reads p.1 f p_front.0.bytes_follow from.1 in
    let m_front = u32_field.reads f.1 m f_front.0.bytes_follow max.1 in
    let read = filter_value_reads m.1 filter.0 m_front.0.bytes_follow filter.1 in
    subst (SpellsRequest version 8 body) (some_is (Export p.0 f.0 m.0 filter.0) request filter.2) (record {
      version_is = is;
      kind_is = refl;
      body_is = p_front.0.parts ∙ ap (λ (r : List ℕ). u32_bytes p.0 ++ r) (f_front.0.parts ∙ ap (λ (r : List ℕ). u64_bytes f.0 ++ r) (m_front.0.parts ∙ ap (λ (r : List ℕ). u32_bytes m.0 ++ r) read.0));
      has_spelling = (p_front.1, f_front.1, m_front.1, read.1);
    })

plain_reads : (version kind : ℕ) (body : List ℕ) (request : Request) → IsVersion version → IsBytes body → plain_value version kind body ≡ Some request → SpellsRequest version kind body request
unfolding plain_value
plain_reads version kind body request is are e =
    let P : ℕ → Type 0 = λ n. SpellsRequest version n body request in
    by_number 1 P kind _ _ request (create_profile_reads version body request is are)
    (by_number 2 P kind _ _ request (add_folder_reads version body request is are)
    (by_number 3 P kind _ _ request (add_file_reads version body request is are)
    (by_number 4 P kind _ _ request (piece_reads version body request is are)
    (by_number 5 P kind _ _ request (finish_reads version body request is are)
    (by_number 6 P kind _ _ request (abandon_reads version body request is are)
    (by_number 7 P kind _ None request (status_reads version body request is are) (λ none. absurd cc))))))) e

any_reads : (version kind : ℕ) (body : List ℕ) (request : Request) → IsVersion version → IsBytes body → any_value version kind body ≡ Some request → SpellsRequest version kind body request
unfolding any_value
any_reads version kind body request is are e =
    let P : ℕ → Type 0 = λ n. SpellsRequest version n body request in
    by_number 8 P kind _ _ request (export_reads version body request is are) (plain_reads version kind body request is are) e

pub value_is_spelled : (version kind : ℕ) (body : List ℕ) (request : Request) → IsBytes body → request_value version kind body ≡ Some request → SpellsRequest version kind body request
unfolding request_value
value_is_spelled version kind body request are e =
    let known = where_true (is_version version) (any_value version kind body) request e in
    any_reads version kind body request known.0 are known.1

-- ---- what is spelled is read

-- what a step finds is what the next begins with
goes_on : {A B : Type 0} (o : Option A) (x : A) (next : A → Option B) → o ≡ Some x → (o >>= next) ≡ next x
goes_on o x next e = ap (λ (read : Option _). read >>= next) e

file_again : (profile file : ℕ) → IsU32 profile → IsU32 file → file_value (u32_bytes profile ++ u32_bytes file) ≡ Some (profile, file)
unfolding file_value
file_again profile file is_profile is_file =
    let last : number_at w32 (u32_bytes file) ≡ Some (file, []) = ap (number_at w32) (sym (append-nil (u32_bytes file))) ∙ u32_field.again file [] is_file in
    goes_on (number_at w32 (u32_bytes profile ++ u32_bytes file)) (profile, u32_bytes file) (λ p. number_at w32 p.1 >>= λ f. whole f.1 (p.0, f.0)) (u32_field.again profile (u32_bytes file) is_profile)
    ∙ (goes_on (number_at w32 (u32_bytes file)) (file, []) (λ f. whole f.1 (profile, f.0)) last ∙ whole_again (profile, file))

abbrev head_of : Request → NodeHead
head_of (AddFolder profile parent modified name) = record { profile = profile; parent = parent; modified = modified }
head_of (AddFile profile parent modified size piece_size name) = record { profile = profile; parent = parent; modified = modified }
head_of _ = record { profile = 0; parent = 0; modified = pos 0 }

again : (version : ℕ) (request : Request) → HasSpelling version request → any_value version (request_kind request) (request_body version request) ≡ Some request
unfolding any_value plain_value create_profile_value add_folder_value add_file_value piece_value finish_value abandon_value status_value export_value
again version (CreateProfile limit all hash) fits =
    let field = hash_field version hash in
    rw (u32_field.again limit (truth_bytes all ++ field) fits.0, truth_field.again all field tt, ap (carried_kind_at version) (sym (append-nil field)) ∙ (reported_kind_field version).again hash [] fits.1, whole_again (CreateProfile limit all hash)) refl
again version (AddFolder profile parent modified name) fits =
    rw (node_head_field.again (head_of (AddFolder profile parent modified name)) name (fits.0, fits.1, fits.2), text_at-utf8 name fits.3) refl
again version (AddFile profile parent modified size piece_size name) fits =
    rw (node_head_field.again (head_of (AddFile profile parent modified size piece_size name)) (u64_bytes size ++ (u32_bytes piece_size ++ name)) (fits.0, fits.1, fits.2), u64_field.again size (u32_bytes piece_size ++ name) fits.3, u32_field.again piece_size name fits.4, text_at-utf8 name fits.5) refl
again version (Piece profile file index bytes) fits =
    rw (u32_field.again profile (u32_bytes file ++ (u32_bytes index ++ bytes)) fits.0, u32_field.again file (u32_bytes index ++ bytes) fits.1, u32_field.again index bytes fits.2) refl
again version (Finish profile file) fits = rw (file_again profile file fits.0 fits.1) refl
again version (Abandon profile file) fits = rw (file_again profile file fits.0 fits.1) refl
again version (Status profile file) fits = rw (file_again profile file fits.0 fits.1) refl
again version (Export profile from max filter) fits =
    rw (u32_field.again profile (u64_bytes from ++ (u32_bytes max ++ filter_bytes filter)) fits.0, u64_field.again from (u32_bytes max ++ filter_bytes filter) fits.1, u32_field.again max (filter_bytes filter) fits.2, filter_value_again filter fits.3) refl

pub spelled_is_value : (version kind : ℕ) (body : List ℕ) (request : Request) → SpellsRequest version kind body request → request_value version kind body ≡ Some request
unfolding request_value
spelled_is_value version kind body request spelled =
    rw (spelled.version_is, spelled.kind_is, spelled.body_is) (again version request spelled.has_spelling)

-- so a version, a kind and a body spell at most one
pub spelled_once : (version kind : ℕ) (body : List ℕ) (one other : Request) → SpellsRequest version kind body one → SpellsRequest version kind body other → one ≡ other
spelled_once version kind body one other first second =
    some_is one other (sym (spelled_is_value version kind body one first) ∙ spelled_is_value version kind body other second)
