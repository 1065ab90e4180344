-- A header, and a frame, is determined by its spelling, whatever follows it.
use Rattle.std.proofs.Common.{◌≡◌, ℕ, List, ◌++◌, length, take, drop, Option, Some, refl, sym, ap, ◌∙◌, arith}
use Rattle.std.proofs.lemmas.List.{take_at, drop_at}
use Rattle.droid_frame.specs.declared.frame.Frame.{Frame}
use Rattle.droid_frame.specs.declared.streams.header.Header.{Header}
use Rattle.droid_frame.specs.Fields.{u32_bytes, u64_bytes}
use Rattle.droid_frame.specs.Frames.{frame_bytes}
use Rattle.droid_frame.specs.Headers.{header_bytes}
use Rattle.droid_frame.specs.Streams.{IsFrame}
use Rattle.droid_frame.specs.StreamReads.{IsHeader}
use Rattle.droid_frame.proofs.FieldLaws.{IsField, u32_field, u64_field}
use Rattle.droid_frame.proofs.BodyLimits.{limit_at_most}

some_is : {A : Type 0} (x y : A) → Some x ≡ Some y → x ≡ y
some_is x y e = cc

-- the value of a field, and what follows it, are determined by the bytes
reported_field : {A : Type 0} {at : List ℕ → Option (A × List ℕ)} {spelled : A → List ℕ} {HasOne : A → Type 0} → IsField at spelled HasOne
    → (a b : A) (r s : List ℕ) → HasOne a → HasOne b → spelled a ++ r ≡ spelled b ++ s → (a ≡ b) × (r ≡ s)
reported_field {A} {at} field a b r s has_a has_b e =
    let same : (a, r) ≡ (b, s) = some_is (a, r) (b, s) (sym (field.again a r has_a) ∙ (ap at e ∙ field.again b s has_b)) in
    (ap (λ (x : A × List ℕ). x.0) same, ap (λ (x : A × List ℕ). x.1) same)

header_is : (v k c n l v' k' c' n' l' : ℕ) → v ≡ v' → k ≡ k' → c ≡ c' → n ≡ n' → l ≡ l'
    → ◌≡◌ {A = Header} (record { version = v; kind = k; client = c; number = n; length = l }) (record { version = v'; kind = k'; client = c'; number = n'; length = l' })
header_is v k c n l v' k' c' n' l' e1 e2 e3 e4 e5 = cc

frame_is : (v k c n : ℕ) (b : List ℕ) (v' k' c' n' : ℕ) (b' : List ℕ) → v ≡ v' → k ≡ k' → c ≡ c' → n ≡ n' → b ≡ b'
    → ◌≡◌ {A = Frame} (record { version = v; kind = k; client = c; number = n; body = b }) (record { version = v'; kind = k'; client = c'; number = n'; body = b' })
frame_is v k c n b v' k' c' n' b' e1 e2 e3 e4 e5 = cc

pub reported_header : (h k : Header) (r s : List ℕ) → IsHeader h → IsHeader k → header_bytes h ++ r ≡ header_bytes k ++ s → (h ≡ k) × (r ≡ s)
reported_header h k r s is_h is_k e =
    let version : h.version ≡ k.version = cc in
    let kind : h.kind ≡ k.kind = cc in
    let fields : u32_bytes h.client ++ (u64_bytes h.number ++ (u32_bytes h.length ++ r)) ≡ u32_bytes k.client ++ (u64_bytes k.number ++ (u32_bytes k.length ++ s)) = ap (drop 2) e in
    let client = reported_field u32_field h.client k.client _ _ is_h.client_fits is_k.client_fits fields in
    let number = reported_field u64_field h.number k.number _ _ is_h.number_fits is_k.number_fits client.1 in
    let size = reported_field u32_field h.length k.length r s is_h.length_fits is_k.length_fits number.1 in
    (header_is h.version h.kind h.client h.number h.length k.version k.kind k.client k.number k.length version kind client.0 number.0 size.0, size.1)

-- the header of a frame
abbrev pub header_of : Frame → Header
header_of frame = record { version = frame.version; kind = frame.kind; client = frame.client; number = frame.number; length = length frame.body }

pub header_of-is : (frame : Frame) → IsFrame frame → IsHeader (header_of frame)
header_of-is frame is = record {
  version_fits = is.version_fits;
  kind_fits = is.kind_fits;
  client_fits = is.client_fits;
  number_fits = is.number_fits;
  length_fits = omega (arith, is.body_fits, limit_at_most frame.version);
}

same_length : (a b r s : List ℕ) → length a ≡ length b → a ++ r ≡ b ++ s → (a ≡ b) × (r ≡ s)
same_length a b r s size e = (
  sym (take_at a r (length a) refl) ∙ (ap (take (length a)) e ∙ take_at b s (length a) (sym size)),
  sym (drop_at a r (length a) refl) ∙ (ap (drop (length a)) e ∙ drop_at b s (length a) (sym size)),
)

pub reported_frame : (a b : Frame) (r s : List ℕ) → IsFrame a → IsFrame b → frame_bytes a ++ r ≡ frame_bytes b ++ s → (a ≡ b) × (r ≡ s)
reported_frame a b r s is_a is_b e =
    let header = reported_header (header_of a) (header_of b) (a.body ++ r) (b.body ++ s) (header_of-is a is_a) (header_of-is b is_b) e in
    let same = header.0 in
    let body = same_length a.body b.body r s (ap (λ (h : Header). h.length) same) header.1 in (
      frame_is a.version a.kind a.client a.number a.body b.version b.kind b.client b.number b.body
          (ap (λ (h : Header). h.version) same) (ap (λ (h : Header). h.kind) same) (ap (λ (h : Header). h.client) same) (ap (λ (h : Header). h.number) same) body.0,
      body.1,
    )
