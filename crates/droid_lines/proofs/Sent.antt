-- Lines that were sent, and one line more.
use Rattle.std.proofs.Common.{◌≡◌, ℕ, ◌+◌, Bool, List, [], ◌∷◌, ◌++◌, length, Option, Some, None, IfSome, refl, sym, ap, subst, ◌∙◌, append_assoc, append-nil, arith, inl, inr, length-append}
use Rattle.std.specs.List.{flat_map}
use Rattle.std.specs.Option.{option_map}
use Rattle.std.specs.Io.KnownBytes.{Appends, Consumes}
use Rattle.std.proofs.KnownBytes.{Appends-nil, Appends-trans, Consumes-nil, Consumes-trans, Keeps-refl}
use Rattle.std.proofs.lemmas.Grind.{flat_map-append}
use Rattle.droid_client.specs.Cores.{Core}
use Rattle.droid_frame.specs.InTurn.{AtMost}
use Rattle.droid_lines.specs.Lines.{lines_of}
use Rattle.droid_lines.specs.Tallies.{Counts, with_one_more}
use Rattle.droid_lines.specs.declared.tally.Tally.{Tally}
use Rattle.droid_lines.proofs.Tallies.{counts_one_more}
use Rattle.droid_lines.specs.declared.send_fault.SendFault.{SendFault}
use Rattle.droid_lines.specs.Exchanges.{Exchange, LineSent, LinesSent, came_bytes, is_bad, printed, sent_bytes}
use Rattle.droid_lines.specs.Reading.{GivesLine}
use Rattle.droid_lines.specs.Sending.{IsOfReading, Sends, SendsAll, SendsFront}
use Rattle.droid_lines.specs.Steps.{LineDone}
use Rattle.droid_lines.specs.Stopping.{LineStops, Unsent}

-- ---- one more

push_sent : (core : Core) (lines : List (List ℕ)) (exchanges : List (Option Exchange)) (middle : Core) (line : List ℕ) (exchange : Option Exchange) (after : Core)
    → LinesSent core lines exchanges middle → LineSent middle line exchange after → LinesSent core (lines ++ line ∷ []) (exchanges ++ exchange ∷ []) after
push_sent core [] [] middle line exchange after sent one = (after, subst (λ (c : Core). LineSent c line exchange after) sent one, refl)
push_sent core [] (e ∷ exchanges) middle line exchange after sent one = absurd sent
push_sent core (l ∷ lines) [] middle line exchange after sent one = absurd sent
push_sent core (l ∷ lines) (e ∷ exchanges) middle line exchange after sent one = (sent.0, sent.1, push_sent sent.0 lines exchanges middle line exchange after sent.2 one)

flat_push : {A : Type 0} (f : A → List ℕ) (xs : List A) (x : A) → flat_map f xs ++ f x ≡ flat_map f (xs ++ x ∷ [])
flat_push f xs x = sym (flat_map-append f xs (x ∷ []) ∙ ap (λ (l : List ℕ). flat_map f xs ++ l) (append-nil (f x)))

pub sends_none : (core : Core) (input frames text : Option (List ℕ)) → Sends core [] input input frames frames text text core
sends_none core input frames text = record { exchanges = []; sent = refl; read = Consumes-nil input; frames = Appends-nil frames; text = Appends-nil text }

pub sends_more : (core middle after : Core) (lines : List (List ℕ)) (line : List ℕ) (bad : Bool) (input left rest old_frames frames new_frames old_text text new_text : Option (List ℕ))
    → Sends core lines input left old_frames frames old_text text middle → LineDone middle line left rest frames new_frames text new_text after bad
    → Sends core (lines ++ line ∷ []) input rest old_frames new_frames old_text new_text after
sends_more core middle after lines line bad input left rest old_frames frames new_frames old_text text new_text so_far done = record {
  exchanges = so_far.exchanges ++ done.exchange ∷ [];
  sent = push_sent core lines so_far.exchanges middle line done.exchange after so_far.sent done.sent;
  read = subst (Consumes input rest) (flat_push came_bytes so_far.exchanges done.exchange) (Consumes-trans input left rest _ _ so_far.read done.read);
  frames = subst (Appends old_frames new_frames) (flat_push sent_bytes so_far.exchanges done.exchange) (Appends-trans old_frames frames new_frames _ _ so_far.frames done.frames);
  text = subst (Appends old_text new_text) (flat_push printed so_far.exchanges done.exchange) (Appends-trans old_text text new_text _ _ so_far.text done.text);
}

-- ---- along the lines

-- the first lines of the script were sent, and `rest` is left of it
pub record SoFar (core : Core) (script rest input left old_frames frames old_text text : Option (List ℕ)) (after : Core) (tally : Tally) : Type 0 where
  pub lines : List (List ℕ)
  pub are : IfSome script (λ known. (unread : List ℕ) × (rest ≡ Some unread) × (lines_of known ≡ lines ++ lines_of unread))
  pub counts : Counts is_bad tally lines
  pub sends : Sends core lines input left old_frames frames old_text text after

start_here : (script : Option (List ℕ)) → IfSome script (λ known. (unread : List ℕ) × (script ≡ Some unread) × (lines_of known ≡ [] ++ lines_of unread))
start_here None = tt
start_here (Some known) = (known, refl, refl)

pub start : (core : Core) (script rest input frames text : Option (List ℕ)) (tally : Tally) → rest ≡ script → tally.lines ≡ 0 → tally.bad ≡ 0 → SoFar core script rest input input frames frames text text core tally
start core script rest input frames text tally same none good = record {
  lines = [];
  are = rw same (start_here script);
  counts = record { lines_are = none; bad_are = good };
  sends = sends_none core input frames text;
}

next_here : (script rest more : Option (List ℕ)) (lines : List (List ℕ)) (line : List ℕ)
    → IfSome script (λ known. (unread : List ℕ) × (rest ≡ Some unread) × (lines_of known ≡ lines ++ lines_of unread))
    → IfSome rest (λ unread. GivesLine unread more (Some line))
    → IfSome script (λ known. (unread : List ℕ) × (more ≡ Some unread) × (lines_of known ≡ (lines ++ line ∷ []) ++ lines_of unread))
next_here None rest more lines line are gives = tt
next_here (Some known) rest more lines line are gives =
    let here : GivesLine are.0 more (Some line) = subst (λ (o : Option (List ℕ)). IfSome o (λ unread. GivesLine unread more (Some line))) are.1 gives in
    (here.0, here.1, are.2 ∙ (ap (λ (ls : List (List ℕ)). lines ++ ls) here.2 ∙ sym (append_assoc lines (line ∷ []) (lines_of here.0))))

pub step : (core middle after : Core) (script rest more input left now old_frames frames new_frames old_text text new_text : Option (List ℕ)) (line : List ℕ) (bad : Bool) (tally : Tally)
    → SoFar core script rest input left old_frames frames old_text text middle tally → IfSome rest (λ unread. GivesLine unread more (Some line))
    → LineDone middle line left now frames new_frames text new_text after bad
    → SoFar core script more input now old_frames new_frames old_text new_text after (with_one_more bad tally)
step core middle after script rest more input left now old_frames frames new_frames old_text text new_text line bad tally so_far gives done = record {
  lines = so_far.lines ++ line ∷ [];
  are = next_here script rest more so_far.lines line so_far.are gives;
  counts = rw done.bad_is (counts_one_more is_bad tally so_far.lines line so_far.counts);
  sends = sends_more core middle after so_far.lines line bad input left now old_frames frames new_frames old_text text new_text so_far.sends done;
}

end_here : (script rest more : Option (List ℕ)) (lines : List (List ℕ))
    → IfSome script (λ known. (unread : List ℕ) × (rest ≡ Some unread) × (lines_of known ≡ lines ++ lines_of unread))
    → IfSome rest (λ unread. GivesLine unread more None) → IfSome script (λ known. lines_of known ≡ lines)
end_here None rest more lines are gives = tt
end_here (Some known) rest more lines are gives =
    let here : GivesLine are.0 more None = subst (λ (o : Option (List ℕ)). IfSome o (λ unread. GivesLine unread more None)) are.1 gives in
    are.2 ∙ (ap (λ (ls : List (List ℕ)). lines ++ ls) here.0 ∙ append-nil lines)

pub finish : (core after : Core) (script rest more input left old_frames frames old_text text : Option (List ℕ)) (tally : Tally)
    → SoFar core script rest input left old_frames frames old_text text after tally → IfSome rest (λ unread. GivesLine unread more None)
    → SendsAll core script input left old_frames frames old_text text after tally
finish core after script rest more input left old_frames frames old_text text tally so_far gives =
    record { lines = so_far.lines; are_all = end_here script rest more so_far.lines so_far.are gives; counts = so_far.counts; sends = so_far.sends }

cut_here : (script rest : Option (List ℕ)) (lines : List (List ℕ)) → IfSome script (λ known. (unread : List ℕ) × (rest ≡ Some unread) × (lines_of known ≡ lines ++ lines_of unread))
    → (others : List (List ℕ)) × IfSome script (λ known. lines_of known ≡ lines ++ others)
cut_here None rest lines are = ([], tt)
cut_here (Some known) rest lines are = (lines_of are.0, are.2)

-- no further line could be read
pub unread_more : (fault : SendFault) (core after : Core) (script rest input left old_frames frames old_text text : Option (List ℕ)) (tally : Tally)
    → IsOfReading fault → SoFar core script rest input left old_frames frames old_text text after tally → SendsFront fault core script input left old_frames frames old_text text after
unread_more fault core after script rest input left old_frames frames old_text text tally reading so_far =
    let cut = cut_here script rest so_far.lines so_far.are in
    let unsent : Unsent after left left frames frames after = record { same = refl; read = Consumes-nil left; written = Keeps-refl frames } in
    record {
      front = so_far.lines;
      others = cut.0;
      cut = cut.1;
      core_then = after;
      left_then = left;
      frames_then = frames;
      text_then = text;
      sends = so_far.sends;
      stops = inr (reading, (unsent, Keeps-refl text));
    }

others_here : (script rest more : Option (List ℕ)) (lines : List (List ℕ)) (line : List ℕ)
    → IfSome script (λ known. (unread : List ℕ) × (rest ≡ Some unread) × (lines_of known ≡ lines ++ lines_of unread))
    → IfSome rest (λ unread. GivesLine unread more (Some line)) → (others : List (List ℕ)) × IfSome script (λ known. lines_of known ≡ lines ++ line ∷ others)
others_here None rest more lines line are gives = ([], tt)
others_here (Some known) rest more lines line are gives =
    let here : GivesLine are.0 more (Some line) = subst (λ (o : Option (List ℕ)). IfSome o (λ unread. GivesLine unread more (Some line))) are.1 gives in
    (lines_of here.0, are.2 ∙ ap (λ (ls : List (List ℕ)). lines ++ ls) here.2)

-- the next line ended early
pub stopped : (fault : SendFault) (core middle after : Core) (script rest more input left now old_frames frames new_frames old_text text new_text : Option (List ℕ)) (line : List ℕ) (tally : Tally)
    → SoFar core script rest input left old_frames frames old_text text middle tally → IfSome rest (λ unread. GivesLine unread more (Some line))
    → LineStops fault middle line left now frames new_frames text new_text after → SendsFront fault core script input now old_frames new_frames old_text new_text after
stopped fault core middle after script rest more input left now old_frames frames new_frames old_text text new_text line tally so_far gives stops =
    let others = others_here script rest more so_far.lines line so_far.are gives in
    record {
      front = so_far.lines;
      others = line ∷ others.0;
      cut = others.1;
      core_then = middle;
      left_then = left;
      frames_then = frames;
      text_then = text;
      sends = so_far.sends;
      stops = inl (record { line = line; more = others.0; first = refl; stops = stops });
    }

-- there are at least as many lines as were sent
pub lines_within : (core after : Core) (script rest input left old_frames frames old_text text : Option (List ℕ)) (tally : Tally)
    → SoFar core script rest input left old_frames frames old_text text after tally → AtMost script (λ known. length (lines_of known)) tally.lines
lines_within core after None rest input left old_frames frames old_text text tally so_far = tt
lines_within core after (Some known) rest input left old_frames frames old_text text tally so_far =
    omega (arith, so_far.counts.lines_are, ap (λ (ls : List (List ℕ)). length ls) so_far.are.2, length-append so_far.lines (lines_of so_far.are.0))

-- and one more, where one was found
pub line_found : (core after : Core) (script rest more input left old_frames frames old_text text : Option (List ℕ)) (line : List ℕ) (tally : Tally)
    → SoFar core script rest input left old_frames frames old_text text after tally → IfSome rest (λ unread. GivesLine unread more (Some line))
    → AtMost script (λ known. length (lines_of known)) (tally.lines + 1)
line_found core after None rest more input left old_frames frames old_text text line tally so_far gives = tt
line_found core after (Some known) rest more input left old_frames frames old_text text line tally so_far gives =
    let others = others_here (Some known) rest more so_far.lines line so_far.are gives in
    omega (arith, so_far.counts.lines_are, ap (λ (ls : List (List ℕ)). length ls) others.1, length-append so_far.lines (line ∷ others.0))

-- ---- what a turn of the loop gives

-- a line that was found is the next one
pub gives_found : {A : Type 0} (view : A → List ℕ) (rest more : Option (List ℕ)) (found : Option A) (item : A) (line : List ℕ) → found ≡ Some item → line ≡ view item
    → IfSome rest (λ unread. GivesLine unread more (option_map view found)) → IfSome rest (λ unread. GivesLine unread more (Some line))
gives_found {A} view rest more found item line is same gives =
    subst (λ (l : List ℕ). IfSome rest (λ unread. GivesLine unread more (Some l))) (sym same)
    (subst (λ (o : Option A). IfSome rest (λ unread. GivesLine unread more (option_map view o))) is gives)
