-- A line with a client and a number in front asks for what it asks for without.
use Rattle.std.proofs.Common.{◌≡◌, ℕ, ◌^◌, Bool, true, false, cond, codes, List, ◌∷◌, ◌++◌, Option, Some, None, refl, sym, ap, ◌∙◌, inl, inr}
use Rattle.std.specs.Prelude.{is_none}
use Rattle.std.specs.Option.{option_map}
use Rattle.std.specs.Str.{is_utf8}
use Rattle.droid_frame.specs.Reading.{◌>>=◌, text_at}
use Rattle.droid_frame.specs.declared.request.Request.{Request}
use Rattle.droid_lines.specs.InFront.{SameInFront, line_of, with_front, with_words}
use Rattle.droid_lines.specs.Lines.{head_at, line_value, numbered_line, request_fits, request_value, request_where_fitting, text_line, text_request, unnumbered_line, version_at, where_fitting}
use Rattle.droid_lines.specs.Requests.{request_words}
use Rattle.droid_lines.specs.Words.{number_below, number_word, word_at}
use Rattle.droid_lines.specs.declared.parser.Line.{Line}
use Rattle.droid_lines.specs.declared.parser.VersionedRequest.{VersionedRequest}
use Rattle.droid_lines.proofs.FrontWords.{IsVersion1, IsVersion2, digits_are_a_word, marked_the_same, number_has_digits, text_the_same, version_1_here, version_2_here, version_cases, word_here}

-- ---- what the text asks for

fits_the_same : (client number : ℕ) (asked : VersionedRequest) (fits : Bool)
    → cond fits (Some (line_of client number asked)) None ≡ option_map (line_of client number) (cond fits (Some asked) None)
fits_the_same client number asked true = refl
fits_the_same client number asked false = refl

abbrev asked_in : ℕ → Request → VersionedRequest
asked_in version request = record { version = version; request = request }

request_the_same : (version client number : ℕ) (found : Option Request)
    → (found >>= (λ request. where_fitting (line_of client number (asked_in version request)))) ≡ option_map (line_of client number) (found >>= (λ request. request_where_fitting (asked_in version request)))
unfolding where_fitting request_where_fitting
request_the_same version client number None = refl
request_the_same version client number (Some request) = fits_the_same client number (asked_in version request) (request_fits version request)

abbrev head_then : ℕ → ℕ → ℕ → Option (List ℕ × List ℕ) → Option Line
head_then version client number kind =
    ◌>>=◌ {A = ℕ × ℕ × List ℕ × List ℕ} {B = Line} (◌>>=◌ {A = List ℕ × List ℕ} {B = ℕ × ℕ × List ℕ × List ℕ} kind (λ k. Some (client, number, k.0, k.1)))
    (λ head. request_words version head.2 head.3 >>= (λ request. where_fitting (line_of head.0 head.1 (asked_in version request))))

kind_the_same : (version client number : ℕ) (kind : Option (List ℕ × List ℕ))
    → head_then version client number kind ≡ option_map (line_of client number) (kind >>= (λ k. request_words version k.0 k.1 >>= (λ request. request_where_fitting (asked_in version request))))
kind_the_same version client number None = refl
kind_the_same version client number (Some k) = request_the_same version client number (request_words version k.0 k.1)

number_here : (bound : ℕ) (word rest : List ℕ) (n : ℕ) → number_below bound word ≡ Some n → number_word bound (word ++ 32 ∷ rest) ≡ Some (n, rest)
unfolding number_word
number_here bound word rest n is = rw (word_here word rest (digits_are_a_word word (number_has_digits bound word n is)), is) refl

-- two words that are a client and a number
pub record IsFront (client_text number_text : List ℕ) (client number : ℕ) : Type 0 where
  pub client_is : number_below (2 ^ 32) client_text ≡ Some client
  pub number_is : number_below (2 ^ 64) number_text ≡ Some number

numbered_the_same : (version : ℕ) (client_text number_text rest : List ℕ) (client number : ℕ) → IsFront client_text number_text client number
    → numbered_line version (with_words client_text number_text rest) ≡ option_map (line_of client number) (unnumbered_line version rest)
unfolding numbered_line head_at unnumbered_line
numbered_the_same version client_text number_text rest client number front =
    rw (number_here (2 ^ 32) client_text (number_text ++ (32 ∷ rest)) client front.client_is, number_here (2 ^ 64) number_text rest number front.number_is)
    (kind_the_same version client number (word_at rest))

-- what a text and the same with the words in front give, where both are cut so
cut_the_same : (version : ℕ) (client_text number_text whole line rest : List ℕ) (client number : ℕ) → IsFront client_text number_text client number
    → version_at whole ≡ (version, with_words client_text number_text rest) → version_at line ≡ (version, rest)
    → text_line whole ≡ option_map (line_of client number) (text_request line)
unfolding text_line text_request
cut_the_same version client_text number_text whole line rest client number front whole_cut line_cut =
    rw (whole_cut, line_cut) (numbered_the_same version client_text number_text rest client number front)

read_the_same : (utf8 : Bool) (whole line : List ℕ) (of : VersionedRequest → Line) → text_line whole ≡ option_map of (text_request line)
    → (cond utf8 (Some whole) None >>= text_line) ≡ option_map of (cond utf8 (Some line) None >>= text_request)
read_the_same true whole line of same = same
read_the_same false whole line of same = refl

values_the_same : (whole line : List ℕ) (of : VersionedRequest → Line) → is_utf8 whole ≡ is_utf8 line → text_line whole ≡ option_map of (text_request line)
    → line_value whole ≡ option_map of (request_value line)
unfolding line_value request_value text_at
values_the_same whole line of text same = rw text (read_the_same (is_utf8 line) whole line of same)

-- a line of version 1
first_the_same : (client_text number_text line : List ℕ) (client number : ℕ) → IsFront client_text number_text client number → IsVersion1 line
    → line_value (with_front client_text number_text line) ≡ option_map (line_of client number) (request_value line)
first_the_same client_text number_text line client number front cut =
    let c = number_has_digits (2 ^ 32) client_text client front.client_is in
    let n = number_has_digits (2 ^ 64) number_text number front.number_is in
    let whole = with_words client_text number_text line in
    let same = cut_the_same 1 client_text number_text whole line line client number front (version_1_here client_text (number_text ++ (32 ∷ line)) c) cut in
    rw cut (values_the_same whole line (line_of client number) (text_the_same client_text number_text line c n) same)

-- a line of version 2
second_the_same : (client_text number_text line : List ℕ) (client number : ℕ) → IsFront client_text number_text client number → (is : IsVersion2 line)
    → line_value (with_front client_text number_text line) ≡ option_map (line_of client number) (request_value line)
second_the_same client_text number_text line client number front is =
    let c = number_has_digits (2 ^ 32) client_text client front.client_is in
    let n = number_has_digits (2 ^ 64) number_text number front.number_is in
    let words = with_words client_text number_text is.rest in
    let same = cut_the_same 2 client_text number_text (codes "v2 " ++ words) line is.rest client number front (version_2_here words) is.cut in
    let text : is_utf8 (codes "v2 " ++ words) ≡ is_utf8 line =
    marked_the_same words ∙ (text_the_same client_text number_text is.rest c n ∙ (sym (marked_the_same is.rest) ∙ sym (ap is_utf8 is.whole))) in
    rw is.cut (values_the_same (codes "v2 " ++ words) line (line_of client number) text same)

asks_the_same : (client_text number_text line : List ℕ) (client number : ℕ) → IsFront client_text number_text client number
    → line_value (with_front client_text number_text line) ≡ option_map (line_of client number) (request_value line)
asks_the_same client_text number_text line client number front =
    elim (version_cases line) [
      | inl cut ↦ first_the_same client_text number_text line client number front cut
      | inr is ↦ second_the_same client_text number_text line client number front is
    ]

none_of_map : {A B : Type 0} (f : A → B) (o : Option A) → is_none (option_map f o) ≡ is_none o
none_of_map f None = refl
none_of_map f (Some x) = refl

pub same_in_front : (client_text number_text line : List ℕ) (client number : ℕ) → number_below (2 ^ 32) client_text ≡ Some client → number_below (2 ^ 64) number_text ≡ Some number
    → SameInFront client_text number_text line client number
same_in_front client_text number_text line client number is_client is_number =
    let asks = asks_the_same client_text number_text line client number (record { client_is = is_client; number_is = is_number }) in
    record { asks = asks; bad = ap (λ (o : Option Line). is_none o) asks ∙ none_of_map (line_of client number) (request_value line) }
