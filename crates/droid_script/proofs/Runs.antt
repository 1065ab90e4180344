-- Runs of lines, one after the other.
use Rattle.std.proofs.Common.{◌≡◌, ℕ, ◌+◌, ◌<◌, ◌≤◌, Bool, true, false, List, [], ◌∷◌, ◌++◌, length, Option, Some, None, Result, Ok, Err, OnOk, OnErr, refl, sym, ap, subst, ◌∙◌, append_assoc, append-nil, arith, length-append}
use Rattle.std.specs.Prelude.{MatchBool, IsSome}
use Rattle.std.specs.Io.KnownBytes.{Appends}
use Rattle.std.proofs.KnownBytes.{Appends-nil, Appends-trans}
use Rattle.std.proofs.lemmas.Grind.{flat_map-append}
use Rattle.droid_frame.specs.declared.frame.Frame.{Frame}
use Rattle.droid_frame.specs.Bodies.{SpellsRequest, request_kind, request_body}
use Rattle.droid_frame.specs.Frames.{frame_bytes, spelling}
use Rattle.droid_frame.specs.declared.reply.Reply.{Reply}
use Rattle.droid_lines.specs.declared.parser.Line.{Line}
use Rattle.droid_core.specs.declared.service.Service.{Service}
use Rattle.droid_core_spec.specs.Setting.{Setting}
use Rattle.droid_core_spec.specs.Histories.{History, command, answer, next, Handles}
use Rattle.droid_lines.specs.Lines.{line_value, lines_of}
use Rattle.droid_lines.specs.Printed.{answer_line}
use Rattle.droid_lines.specs.Tallies.{Counts, with_one_more}
use Rattle.droid_lines.specs.declared.tally.Tally.{Tally}
use Rattle.droid_lines.proofs.Tallies.{bad_within, counts_one_more}
use Rattle.droid_script.specs.Scripts.{frame_of, ScriptRun, script_text, LineAnswered, WritesFront, RunsAll, RunsFront, is_bad, GoesOnFrom}
use Rattle.droid_core.specs.Standing.{StandsFor, limits_of, registry_of}
use Rattle.droid_core_spec.specs.MemoryFaults.{is_out_of_memory}

-- ---- one line

answered_by : (failure : Bool) (setting : Setting) (history : History) (frame : Frame) (reply : Reply) (after : Service)
    → MatchBool failure (IsSome (command frame) × StandsFor setting after history) ((reply ≡ answer setting history frame) × StandsFor setting after (next setting history frame))
    → (left : History) × MatchBool failure (IsSome (command frame) × (left ≡ history)) ((reply ≡ answer setting history frame) × (left ≡ next setting history frame)) × StandsFor setting after left
answered_by true setting history frame reply after p = (history, (p.0, refl), p.1)
answered_by false setting history frame reply after p = (next setting history frame, (p.0, refl), p.1)

-- a request that was handled was answered
pub line_handled : (setting : Setting) (history : History) (line : Line) (frame : Frame) (reply : Reply) (after : Service)
    → frame ≡ frame_of line → Handles setting history frame reply (StandsFor setting after) → LineAnswered setting history (Some line) (Some reply) after
line_handled setting history line frame reply after e handled =
    let by = answered_by (is_out_of_memory reply) setting history frame reply after handled in
    record { after = by.0; run = subst (λ (sent : Frame). Handles setting history sent reply (λ left. by.0 ≡ left)) e by.1; stands = by.2 }

-- a bad line changes nothing
pub bad_line_run : (setting : Setting) (history : History) (service : Service) → StandsFor setting service history → LineAnswered setting history None None service
bad_line_run setting history service stands = record { after = history; run = refl; stands = stands }

-- ---- what one line prints

single_text : (reply : Option Reply) → script_text (reply ∷ []) ≡ answer_line reply
single_text reply = append-nil (answer_line reply)

pub line_runs : (setting : Setting) (history : History) (line : List ℕ) (reply : Option Reply) (service : Service) (old new : Option (List ℕ))
    → LineAnswered setting history (line_value line) reply service → Appends old new (answer_line reply) → RunsAll setting history (line ∷ []) service old new
line_runs setting history line reply service old new answered writes = record {
  replies = reply ∷ [];
  after = answered.after;
  run = (answered.after, answered.run, refl);
  stands = answered.stands;
  writes = subst (Appends old new) (sym (single_text reply)) writes;
}

-- the line was handled, and a front of what it prints was written
pub line_runs_front : (setting : Setting) (history : History) (line : List ℕ) (reply : Option Reply) (service : Service) (old new : Option (List ℕ))
    → LineAnswered setting history (line_value line) reply service → WritesFront old new (answer_line reply) → RunsFront setting history (line ∷ []) service old new
line_runs_front setting history line reply service old new answered wrote = record {
  front = line ∷ [];
  rest = [];
  cut = refl;
  replies = reply ∷ [];
  after = answered.after;
  run = (answered.after, answered.run, refl);
  stands = answered.stands;
  written = wrote.written;
  unwritten = wrote.unwritten;
  text = single_text reply ∙ wrote.cut;
  writes = wrote.writes;
}

pub writes_nothing : (bytes : Option (List ℕ)) (text : List ℕ) → WritesFront bytes bytes text
writes_nothing bytes text = record { written = []; unwritten = text; cut = refl; writes = Appends-nil bytes }

-- nothing was handled
pub runs_nothing : (setting : Setting) (history : History) (lines : List (List ℕ)) (service : Service) (bytes : Option (List ℕ))
    → StandsFor setting service history → RunsFront setting history lines service bytes bytes
runs_nothing setting history lines service bytes stands = record {
  front = [];
  rest = lines;
  cut = refl;
  replies = [];
  after = history;
  run = refl;
  stands = stands;
  written = [];
  unwritten = [];
  text = refl;
  writes = Appends-nil bytes;
}

-- ---- lines after lines

pub ScriptRun-append : (setting : Setting) (history middle after : History) (xs ys : List (List ℕ)) (first second : List (Option Reply))
    → ScriptRun setting history xs first middle → ScriptRun setting middle ys second after → ScriptRun setting history (xs ++ ys) (first ++ second) after
ScriptRun-append setting history middle after [] ys [] second p q = subst (λ (h : History). ScriptRun setting h ys second after) p q
ScriptRun-append setting history middle after [] ys (a ∷ first) second p q = absurd p
ScriptRun-append setting history middle after (x ∷ xs) ys [] second p q = absurd p
ScriptRun-append setting history middle after (x ∷ xs) ys (a ∷ first) second p q = (p.0, p.1, ScriptRun-append setting p.0 middle after xs ys first second p.2 q)

script_text-append : (first second : List (Option Reply)) → script_text (first ++ second) ≡ script_text first ++ script_text second
script_text-append first second = flat_map-append answer_line first second

pub runs_then : (setting : Setting) (history : History) (xs ys : List (List ℕ)) (now later : Service) (old new newer : Option (List ℕ))
    → RunsAll setting history xs now old new → ((middle : History) → StandsFor setting now middle → RunsAll setting middle ys later new newer)
    → RunsAll setting history (xs ++ ys) later old newer
runs_then setting history xs ys now later old new newer first next =
    let second = next first.after first.stands in
    record {
      replies = first.replies ++ second.replies;
      after = second.after;
      run = ScriptRun-append setting history first.after second.after xs ys first.replies second.replies first.run second.run;
      stands = second.stands;
      writes = subst (Appends old newer) (sym (script_text-append first.replies second.replies)) (Appends-trans old new newer (script_text first.replies) (script_text second.replies) first.writes second.writes);
    }

pub runs_then_front : (setting : Setting) (history : History) (xs ys : List (List ℕ)) (now later : Service) (old new newer : Option (List ℕ))
    → RunsAll setting history xs now old new → ((middle : History) → StandsFor setting now middle → RunsFront setting middle ys later new newer)
    → RunsFront setting history (xs ++ ys) later old newer
runs_then_front setting history xs ys now later old new newer first next =
    let second = next first.after first.stands in
    record {
      front = xs ++ second.front;
      rest = second.rest;
      cut = ap (λ (l : List (List ℕ)). xs ++ l) second.cut ∙ sym (append_assoc xs second.front second.rest);
      replies = first.replies ++ second.replies;
      after = second.after;
      run = ScriptRun-append setting history first.after second.after xs second.front first.replies second.replies first.run second.run;
      stands = second.stands;
      written = script_text first.replies ++ second.written;
      unwritten = second.unwritten;
      text = script_text-append first.replies second.replies ∙ (ap (λ (l : List ℕ). script_text first.replies ++ l) second.text ∙ sym (append_assoc (script_text first.replies) second.written second.unwritten));
      writes = Appends-trans old new newer (script_text first.replies) second.written first.writes second.writes;
    }

-- a front of the lines is enough where more follow
pub front_of_more : (setting : Setting) (history : History) (xs ys : List (List ℕ)) (service : Service) (old new : Option (List ℕ))
    → RunsFront setting history xs service old new → RunsFront setting history (xs ++ ys) service old new
front_of_more setting history xs ys service old new ran = record {
  front = ran.front;
  rest = ran.rest ++ ys;
  cut = ap (λ (l : List (List ℕ)). l ++ ys) ran.cut ∙ append_assoc ran.front ran.rest ys;
  replies = ran.replies;
  after = ran.after;
  run = ran.run;
  stands = ran.stands;
  written = ran.written;
  unwritten = ran.unwritten;
  text = ran.text;
  writes = ran.writes;
}

-- ---- a loop over the lines

-- the first lines ran, and those of the rest are left
pub record Progress (before now : Service) (input rest : List ℕ) (tally : Tally) (old new : Option (List ℕ)) : Type 0 where
  pub front : List (List ℕ)
  pub cut : lines_of input ≡ front ++ lines_of rest
  pub counted : Counts is_bad tally front
  pub ran : (setting : Setting) (history : History) → StandsFor setting before history → RunsAll setting history front now old new
  pub limits : limits_of now ≡ limits_of before
  pub registry : registry_of now ≡ registry_of before
  pub room : tally.lines + length rest ≤ length input
  pub bad : tally.bad ≤ tally.lines

pub start : (service : Service) (input : List ℕ) (tally : Tally) (bytes : Option (List ℕ)) → tally.lines ≡ 0 → tally.bad ≡ 0 → Progress service service input input tally bytes bytes
start service input tally bytes no_line no_bad = record {
  front = [];
  cut = refl;
  counted = record { lines_are = no_line; bad_are = no_bad };
  ran = λ setting history stands. record { replies = []; after = history; run = refl; stands = stands; writes = Appends-nil bytes };
  limits = refl;
  registry = refl;
  room = omega (arith, no_line);
  bad = omega (arith, no_line, no_bad);
}

pub step : (before now later : Service) (input rest line after : List ℕ) (tally : Tally) (old new newer : Option (List ℕ))
    → Progress before now input rest tally old new
    → lines_of rest ≡ line ∷ lines_of after → length after < length rest
    → ((setting : Setting) (history : History) → StandsFor setting now history → RunsAll setting history (line ∷ []) later new newer)
    → limits_of later ≡ limits_of now → registry_of later ≡ registry_of now
    → Progress before later input after (with_one_more (is_bad line) tally) old newer
step before now later input rest line after tally old new newer so_far cut shorter ran limits registry = record {
  front = so_far.front ++ line ∷ [];
  cut = so_far.cut ∙ (ap (λ (l : List (List ℕ)). so_far.front ++ l) cut ∙ sym (append_assoc so_far.front (line ∷ []) (lines_of after)));
  counted = counts_one_more is_bad tally so_far.front line so_far.counted;
  ran = λ setting history stands. runs_then setting history so_far.front (line ∷ []) now later old new newer (so_far.ran setting history stands) (ran setting);
  limits = limits ∙ so_far.limits;
  registry = registry ∙ so_far.registry;
  room = omega (arith, so_far.room, shorter);
  bad = bad_within (is_bad line) tally so_far.bad;
}

pub stop : (before now later : Service) (input rest line after : List ℕ) (tally : Tally) (old new newer : Option (List ℕ))
    → Progress before now input rest tally old new
    → lines_of rest ≡ line ∷ lines_of after
    → ((setting : Setting) (history : History) → StandsFor setting now history → RunsFront setting history (line ∷ []) later new newer)
    → (setting : Setting) (history : History) → StandsFor setting before history → RunsFront setting history (lines_of input) later old newer
stop before now later input rest line after tally old new newer so_far cut ran setting history stands =
    let part = runs_then_front setting history so_far.front (line ∷ []) now later old new newer (so_far.ran setting history stands) (ran setting) in
    let whole : lines_of input ≡ (so_far.front ++ line ∷ []) ++ lines_of after =
    so_far.cut ∙ (ap (λ (l : List (List ℕ)). so_far.front ++ l) cut ∙ sym (append_assoc so_far.front (line ∷ []) (lines_of after))) in
    subst (λ (l : List (List ℕ)). RunsFront setting history l later old newer) (sym whole)
    (front_of_more setting history (so_far.front ++ line ∷ []) (lines_of after) later old newer part)

pub all_lines : (before now : Service) (input rest : List ℕ) (tally : Tally) (old new : Option (List ℕ))
    → (so_far : Progress before now input rest tally old new) → lines_of rest ≡ [] → lines_of input ≡ so_far.front
all_lines before now input rest tally old new so_far none = so_far.cut ∙ (ap (λ (l : List (List ℕ)). so_far.front ++ l) none ∙ append-nil so_far.front)

-- some lines ran, and one at least is left
pub line_is_left : (before now : Service) (input rest line after : List ℕ) (tally : Tally) (old new : Option (List ℕ))
    → Progress before now input rest tally old new → lines_of rest ≡ line ∷ lines_of after → tally.lines + 1 ≤ length (lines_of input)
line_is_left before now input rest line after tally old new so_far cut =
    omega (arith, so_far.counted.lines_are, ap length so_far.cut, ap length cut, length-append so_far.front (lines_of rest))

pub lines_are_within : (before now : Service) (input rest : List ℕ) (tally : Tally) (old new : Option (List ℕ))
    → Progress before now input rest tally old new → tally.lines ≤ length (lines_of input)
lines_are_within before now input rest tally old new so_far =
    omega (arith, so_far.counted.lines_are, ap length so_far.cut, length-append so_far.front (lines_of rest))

-- ---- the frame that a line sends

frame_same : (v k c n : ℕ) (b : List ℕ) (v' k' c' n' : ℕ) (b' : List ℕ) → v ≡ v' → k ≡ k' → c ≡ c' → n ≡ n' → b ≡ b'
    → ◌≡◌ {A = Frame} (record { version = v; kind = k; client = c; number = n; body = b }) (record { version = v'; kind = k'; client = c'; number = n'; body = b' })
frame_same v k c n b v' k' c' n' b' ev ek ec en eb = rw (ev, ek, ec, en, eb) refl

first_same : (x y : ℕ) (xs ys : List ℕ) → x ∷ xs ≡ y ∷ ys → x ≡ y
first_same x y xs ys e = cc

pub frame_is : (line : Line) (frame : Frame) → frame_bytes frame ≡ spelling line.version (request_kind line.request) line.client line.number (request_body line.version line.request)
    → SpellsRequest line.version frame.kind frame.body line.request → (frame.client ≡ line.client) × (frame.number ≡ line.number) → frame ≡ frame_of line
frame_is line frame bytes spells sender =
    frame_same frame.version frame.kind frame.client frame.number frame.body line.version (request_kind line.request) line.client line.number (request_body line.version line.request)
    (first_same frame.version line.version _ _ bytes) spells.kind_is sender.0 sender.1 spells.body_is

-- ---- after the script

-- all lines are a front of them
runs_all : (setting : Setting) (history : History) (lines : List (List ℕ)) (service : Service) (old new : Option (List ℕ)) → RunsAll setting history lines service old new → RunsFront setting history lines service old new
runs_all setting history lines service old new all = record {
  front = lines;
  rest = [];
  cut = sym (append-nil lines);
  replies = all.replies;
  after = all.after;
  run = all.run;
  stands = all.stands;
  written = script_text all.replies;
  unwritten = [];
  text = sym (append-nil (script_text all.replies));
  writes = all.writes;
}

pub goes_on : {T E : Type 0} (r : Result T E) (setting : Setting) (history : History) (lines : List (List ℕ)) (service : Service) (old new : Option (List ℕ))
    → OnOk r (RunsAll setting history lines service old new) → OnErr r (RunsFront setting history lines service old new) → GoesOnFrom setting history service old new
goes_on (Ok x) setting history lines service old new all front = record { lines = lines; ran = runs_all setting history lines service old new all }
goes_on (Err e) setting history lines service old new all front = record { lines = lines; ran = front }

-- before any line
pub goes_nowhere : (setting : Setting) (history : History) (service : Service) (bytes : Option (List ℕ)) → StandsFor setting service history → GoesOnFrom setting history service bytes bytes
goes_nowhere setting history service bytes stands = record { lines = []; ran = runs_nothing setting history [] service bytes stands }
