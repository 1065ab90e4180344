-- What the file for what is skipped has after many calls.
use Rattle.std.proofs.Common.{◌≡◌, ◌∙◌, ◌-◌, ℕ, List, [], ◌∷◌, ◌++◌, Option, Some, None, take, drop, refl, sym, ap, subst, append_assoc, arith}
use Rattle.std.specs.List.{flat_map}
use Rattle.std.specs.Io.KnownBytes.{Appends}
use Rattle.std.proofs.KnownBytes.{Appends-nil, Appends-trans}
use Rattle.std.proofs.lemmas.List.{length-append, length-drop, take-append-drop}
use Rattle.droid_frame.specs.declared.io.stream_record.Seen.{Seen}
use Rattle.droid_tree.specs.Heard.{Heard, Left, Held, TookBytes, TookFolder, TookFile}
use Rattle.droid_tree.specs.Observation.{GoesOver}
use Rattle.droid_terminal.specs.SkippedTexts.{entry_text, header, skipped_csv, skipped_in}
use Rattle.droid_profile.specs.Writers.{AppendsSome}
use Rattle.droid_cmd_profile.specs.SkippedFiles.{GoesOn, GoesOnBy, HasLines, HasText, HasTextBy, LineEnds, Notes, NotesIn, NotesInSome, TextEnds, lines_of}
use Rattle.droid_cmd_profile.specs.declared.skipped_file.SkippedFault.{SkippedFault}
use Rattle.droid_cmd_profile.specs.declared.skipped_file.SkippedFault.TheVariants as faults
use Rattle.droid_cmd_profile.specs.declared.skipped_file.SkippedFile.{SkippedFile}
use Rattle.droid_cmd_profile.specs.declared.skipped_writer.SkippedWriter.{SkippedWriter}

module _ {S : Type 0} (contents : S → Option (List ℕ)) (seen : S → Seen) (room : S → Option ℕ) where
  -- ---- one text after another, at the writer

  line_ends : (old new : S) (line : List ℕ) (fault : Option SkippedFault) → LineEnds contents seen room old new line fault → TextEnds contents seen room old new line fault
  line_ends old new line None ends = ends
  line_ends old new line (Some faults.Memory) same = record {
    written = [];
    rest = line;
    are = refl;
    appended = subst (λ (s : S). Appends (contents old) (contents s) []) (sym same) (Appends-nil (contents old));
  }
  line_ends old new line (Some (faults.Write why)) ends =
      let count : ℕ = why.written - 0 in (
        record {
          some = record { written = take count line; rest = drop count line; are = sym (take-append-drop count line); appended = ends.0.front };
          left = omega (arith, ends.0.some_left, length-drop count line);
        },
        ends.1,
      )

  abbrev some_after : (old middle new : S) (first second : List ℕ) → Appends (contents old) (contents middle) first → AppendsSome (contents middle) (contents new) second → AppendsSome (contents old) (contents new) (first ++ second)
  some_after old middle new first second one two = record {
    written = first ++ two.written;
    rest = two.rest;
    are = ap (λ (t : List ℕ). first ++ t) two.are ∙ sym (append_assoc first two.written two.rest);
    appended = Appends-trans (contents old) (contents middle) (contents new) first two.written one two.appended;
  }

  -- after a text that was written
  ends_after : (old middle new : S) (first second : List ℕ) (fault : Option SkippedFault) → TextEnds contents seen room old middle first None → TextEnds contents seen room middle new second fault
      → TextEnds contents seen room old new (first ++ second) fault
  ends_after old middle new first second None one two = (
    Appends-trans (contents old) (contents middle) (contents new) first second one.0 two.0,
    λ sound. let before = one.1 sound in let after = two.1 before.sound in record { sound = after.sound; counted = omega (arith, before.counted, after.counted) },
  )
  ends_after old middle new first second (Some faults.Memory) one two = some_after old middle new first second one.0 two
  ends_after old middle new first second (Some (faults.Write why)) one two = (
    record { some = some_after old middle new first second one.0 two.0.some; left = two.0.left },
    λ sound. let before = one.1 sound in let after = two.1 before.sound in record { start = after.start; counted = omega (arith, before.counted, after.counted); stopped = after.stopped },
  )

  -- after a fault nothing more is written
  abbrev some_longer : (old new : S) (first second : List ℕ) → AppendsSome (contents old) (contents new) first → AppendsSome (contents old) (contents new) (first ++ second)
  some_longer old new first second one = record {
    written = one.written;
    rest = one.rest ++ second;
    are = ap (λ (t : List ℕ). t ++ second) one.are ∙ append_assoc one.written one.rest second;
    appended = one.appended;
  }

  ends_longer : (old new : S) (first second : List ℕ) (fault : SkippedFault) → TextEnds contents seen room old new first (Some fault) → TextEnds contents seen room old new (first ++ second) (Some fault)
  ends_longer old new first second faults.Memory one = some_longer old new first second one
  ends_longer old new first second (faults.Write why) one = (
    record { some = some_longer old new first second one.0.some; left = omega (arith, one.0.left, length-append one.0.some.rest second) },
    one.1,
  )

  -- ---- one text after another, at the file

  has_nothing : (old new : SkippedFile S) (was : Option SkippedFault) → old.fault ≡ was → new ≡ old → HasTextBy contents seen room was old new []
  has_nothing old new None is same =
      let none : TextEnds contents seen room old.output old.output [] None = (Appends-nil (contents old.output), λ sound. record { sound = sound; counted = omega arith }) in
      subst (λ (f : SkippedFile S). TextEnds contents seen room old.output f.output [] f.fault) (sym same)
      (subst (λ (o : Option SkippedFault). TextEnds contents seen room old.output old.output [] o) (sym is) none)
  has_nothing old new (Some fault) is same = same

  has_line : (old new : SkippedFile S) (line : List ℕ) (was : Option SkippedFault) → GoesOnBy contents seen room was old new line → HasTextBy contents seen room was old new line
  has_line old new line None goes = line_ends old.output new.output line new.fault goes
  has_line old new line (Some fault) same = same

  stays : (old middle new : SkippedFile S) (second : List ℕ) (fault : SkippedFault) (is : Option SkippedFault) → old.fault ≡ Some fault → middle.fault ≡ is → middle ≡ old → HasTextBy contents seen room is middle new second → new ≡ old
  stays old middle new second fault None was none same two =
      let bad : None ≡ Some fault = sym none ∙ (ap (λ (f : SkippedFile S). f.fault) same ∙ was) in
      cc
  stays old middle new second fault (Some other) was some same two = two ∙ same

  has_both : (old middle new : SkippedFile S) (first second : List ℕ) (was is : Option SkippedFault) → old.fault ≡ was → middle.fault ≡ is → HasTextBy contents seen room was old middle first
      → HasTextBy contents seen room is middle new second → HasTextBy contents seen room was old new (first ++ second)
  has_both old middle new first second (Some fault) is before between one two = stays old middle new second fault is before between one two
  has_both old middle new first second None None before between one two =
      ends_after old.output middle.output new.output first second new.fault (subst (λ (o : Option SkippedFault). TextEnds contents seen room old.output middle.output first o) between one) two
  has_both old middle new first second None (Some fault) before between one two =
      let longer : TextEnds contents seen room old.output middle.output (first ++ second) (Some fault)
      = ends_longer old.output middle.output first second fault (subst (λ (o : Option SkippedFault). TextEnds contents seen room old.output middle.output first o) between one) in
      subst (λ (f : SkippedFile S). TextEnds contents seen room old.output f.output (first ++ second) f.fault) (sym two)
      (subst (λ (o : Option SkippedFault). TextEnds contents seen room old.output middle.output (first ++ second) o) (sym between) longer)

  -- a line that is written where there was no fault
  pub goes_from_none : (old new : SkippedFile S) (line : List ℕ) → old.fault ≡ None → LineEnds contents seen room old.output new.output line new.fault → GoesOn contents seen room old new line
  goes_from_none old new line none ends = subst (λ (o : Option SkippedFault). GoesOnBy contents seen room o old new line) (sym none) ends

  -- where there was one, nothing is done
  pub goes_from_some : (old new : SkippedFile S) (line : List ℕ) (fault : SkippedFault) → old.fault ≡ Some fault → new ≡ old → GoesOn contents seen room old new line
  goes_from_some old new line fault some same = subst (λ (o : Option SkippedFault). GoesOnBy contents seen room o old new line) (sym some) same

  pub line_has : (old new : SkippedFile S) (line : List ℕ) → GoesOn contents seen room old new line → HasText contents seen room old new line
  line_has old new line goes = has_line old new line old.fault goes

  pub has_then : (old middle new : SkippedFile S) (first second : List ℕ) → HasText contents seen room old middle first → HasText contents seen room middle new second → HasText contents seen room old new (first ++ second)
  has_then old middle new first second one two = has_both old middle new first second old.fault middle.fault refl refl one two

  -- ---- what was reported, one after the other

  has_all : (heard : List Heard) (old new : SkippedFile S) → GoesOver (NotesIn contents seen room) old heard new → HasText contents seen room old new (lines_of heard)
  has_all [] old new same = has_nothing old new old.fault refl same
  has_all (Left path why ∷ heard) old new goes =
      has_then old goes.0 new (entry_text path why) (lines_of heard) (line_has old goes.0 (entry_text path why) goes.1) (has_all heard goes.0 new goes.2)
  has_all (Held path count ∷ heard) old new goes = subst (λ (f : SkippedFile S). HasText contents seen room f new (lines_of heard)) goes.1 (has_all heard goes.0 new goes.2)
  has_all (TookBytes path count ∷ heard) old new goes = subst (λ (f : SkippedFile S). HasText contents seen room f new (lines_of heard)) goes.1 (has_all heard goes.0 new goes.2)
  has_all (TookFolder path ∷ heard) old new goes = subst (λ (f : SkippedFile S). HasText contents seen room f new (lines_of heard)) goes.1 (has_all heard goes.0 new goes.2)
  has_all (TookFile path found ∷ heard) old new goes = subst (λ (f : SkippedFile S). HasText contents seen room f new (lines_of heard)) goes.1 (has_all heard goes.0 new goes.2)

  -- there is a file all the time, or none
  no_file_next : (item : Heard) (middle : Option (SkippedFile S)) → NotesInSome contents seen room None item middle → middle ≡ None
  no_file_next item None step = refl
  no_file_next item (Some middle) step = absurd step

  no_file : (heard : List Heard) (new : Option (SkippedFile S)) → GoesOver (NotesInSome contents seen room) None heard new → new ≡ None
  no_file [] new same = same
  no_file (item ∷ heard) new goes =
      no_file heard new (subst (λ (o : Option (SkippedFile S)). GoesOver (NotesInSome contents seen room) o heard new) (no_file_next item goes.0 goes.1) goes.2)

  abbrev IsNext : Heard → SkippedFile S → Option (SkippedFile S) → Type 0
  IsNext item old middle = (after : SkippedFile S) × (middle ≡ Some after) × NotesIn contents seen room old item after

  a_file_next : (item : Heard) (old : SkippedFile S) (middle : Option (SkippedFile S)) → NotesInSome contents seen room (Some old) item middle → IsNext item old middle
  a_file_next item old None step = absurd step
  a_file_next item old (Some middle) step = (middle, refl, step)

  abbrev IsAfter : List Heard → SkippedFile S → Option (SkippedFile S) → Type 0
  IsAfter heard old new = (after : SkippedFile S) × (new ≡ Some after) × GoesOver (NotesIn contents seen room) old heard after

  a_file : (heard : List Heard) (old : SkippedFile S) (new : Option (SkippedFile S)) → GoesOver (NotesInSome contents seen room) (Some old) heard new → IsAfter heard old new
  a_file [] old new same = (old, same, refl)
  a_file (item ∷ heard) old new goes =
      let first = a_file_next item old goes.0 goes.1 in
      let rest = a_file heard first.0 new (subst (λ (o : Option (SkippedFile S)). GoesOver (NotesInSome contents seen room) o heard new) first.1 goes.2) in
      (rest.0, rest.1, (first.0, first.2, rest.2))

  has_lines : (heard : List Heard) (old new : Option (SkippedFile S)) → GoesOver (NotesInSome contents seen room) old heard new → HasLines contents seen room old new heard
  has_lines heard None new goes = subst (λ (o : Option (SkippedFile S)). HasLines contents seen room None o heard) (sym (no_file heard new goes)) tt
  has_lines heard (Some old) new goes =
      let found = a_file heard old new goes in
      subst (λ (o : Option (SkippedFile S)). HasLines contents seen room (Some old) o heard) (sym found.1) (has_all heard old found.0 found.2)

  module _ {W : Type 0} (hears : W → Heard → W → Type 0) where
    at_file : (heard : List Heard) (old new : SkippedWriter W S) → GoesOver (Notes contents seen room hears) old heard new → GoesOver (NotesInSome contents seen room) old.file heard new.file
    at_file [] old new same = ap (λ (w : SkippedWriter W S). w.file) same
    at_file (item ∷ heard) old new goes = (goes.0.file, goes.1.noted, at_file heard goes.0 new goes.2)

    -- the lines of all skipped entries that were reported
    pub lines_noted : (heard : List Heard) (old new : SkippedWriter W S) → GoesOver (Notes contents seen room hears) old heard new → HasLines contents seen room old.file new.file heard
    lines_noted heard old new goes = has_lines heard old.file new.file (at_file heard old new goes)

  -- the header and these lines are the CSV
  pub header_and_lines : (heard : List Heard) (old begun new : SkippedFile S) → GoesOn contents seen room old begun header → HasText contents seen room begun new (lines_of heard)
      → HasText contents seen room old new (skipped_csv (flat_map skipped_in heard))
  header_and_lines heard old begun new begins has = has_then old begun new header (lines_of heard) (line_has old begun header begins) has
