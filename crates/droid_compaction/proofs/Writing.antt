-- Writing records anew, one after another.
use Rattle.std.proofs.Common.{◌≡◌, ℕ, Bool, true, false, ◌+◌, ◌||◌, eqb, List, [], ◌∷◌, ◌++◌, length, sym, ap, subst, ◌∙◌, append_assoc, arith}
use Rattle.std.proofs.lemmas.List.{append-nil, length-append}
use Rattle.droid_journal.specs.Chains.{first_place, journal_bytes, key_of, last_place, marked_bytes}
use Rattle.droid_journal.specs.Records.{AllFit, Fits, Record, made, place_after, record_bytes, turn_mark}
use Rattle.droid_journal.specs.declared.records.key.Key.{Key}
use Rattle.droid_journal.specs.declared.records.place.Place.{Place}
use Rattle.droid_journal.proofs.Chains.{fit_append, journal_one, last_one}
use Rattle.droid_compaction.specs.Aims.{Aim}
use Rattle.droid_compaction.specs.Fields.{file_in, stamp_in}
use Rattle.droid_compaction.specs.Numbers.{has_number}
use Rattle.droid_compaction.specs.Shortening.{has_stamp, smaller, smaller_by, smaller_request}
use Rattle.droid_compaction.specs.Writing.{IsWriting}
use Rattle.droid_compaction.specs.declared.rewriter.Rewriter.{Rewriter}
use Rattle.droid_compaction.proofs.Shortening.{smaller_as_before, smaller_one_more, smaller_same, stamps_as_before, stamps_one_more}

module _ {N : Type 0} (has : N → List ℕ → Type 0) (aim : Aim) where
  abbrev so_far : List Record → List Record
  so_far its = smaller_by aim.ended its

  -- only the header is collected
  pub begun : (rewriter : Rewriter N) → has rewriter.file [] → rewriter.out.items ≡ aim.header → rewriter.key ≡ key_of aim.header → rewriter.place ≡ first_place aim.header
      → ((file : ℕ) → has_number rewriter.ended file ≡ aim.ended file) → ((stamp : ℕ) → has_number rewriter.stamps stamp ≡ false)
      → rewriter.bytes ≡ 0 → IsWriting has aim rewriter []
  begun rewriter there out key place ended none no_byte = record {
    written = [];
    there = there;
    joined = out ∙ sym (append-nil aim.header);
    key_is = key;
    place_is = place;
    bytes_are = no_byte;
    fit = tt;
    ended_are = ended;
    stamps_are = none;
  }

  -- a request that comes again
  pub again : (rewriter : Rewriter N) (before : List Record) (it : Record) → IsWriting has aim rewriter before → has_number rewriter.stamps (stamp_in it.request) ≡ true → IsWriting has aim rewriter (before ++ it ∷ [])
  again rewriter before it writing noted =
      let known : has_stamp before (stamp_in it.request) ≡ true = sym (writing.stamps_are (stamp_in it.request)) ∙ noted in
      let same : so_far before ≡ so_far (before ++ it ∷ []) = sym (smaller_as_before aim.ended before it known) in
      record {
        written = writing.written;
        there = writing.there;
        joined = writing.joined ∙ ap (journal_bytes aim.header) same;
        key_is = writing.key_is;
        place_is = writing.place_is ∙ ap (last_place aim.header) same;
        bytes_are = writing.bytes_are;
        fit = subst AllFit same writing.fit;
        ended_are = writing.ended_are;
        stamps_are = λ stamp. writing.stamps_are stamp ∙ sym (stamps_as_before before it stamp known);
      }

  -- a new one
  module _ (old new : Rewriter N) (before : List Record) (first : Bool) (request reply : List ℕ) (writing : IsWriting has aim old before) (unknown : has_number old.stamps (stamp_in request) ≡ false) (stamps : (stamp : ℕ) → has_number new.stamps stamp ≡ (eqb (stamp_in request) stamp || has_number old.stamps stamp)) (ended : new.ended ≡ old.ended) (key : new.key ≡ old.key) (place : new.place ≡ place_after old.key old.place (made false (smaller_request (has_number old.ended) request reply) reply)) (fits : Fits (made false (smaller_request (has_number old.ended) request reply) reply)) where
    abbrev it : Record
    it = made first request reply

    abbrev one : Record
    one = smaller aim.ended it

    one_is : made false (smaller_request (has_number old.ended) request reply) reply ≡ one
    one_is = ap (λ (r : List ℕ). made false r reply) (smaller_same (has_number old.ended) aim.ended request reply (writing.ended_are (file_in request)))

    more : so_far before ++ one ∷ [] ≡ so_far (before ++ it ∷ [])
    more = sym (smaller_one_more aim.ended before it (sym (writing.stamps_are (stamp_in request)) ∙ unknown))

    spelled : record_bytes old.key old.place (made false (smaller_request (has_number old.ended) request reply) reply) ≡ record_bytes (key_of aim.header) (last_place aim.header (so_far before)) one
    spelled =
        ap (record_bytes old.key old.place) one_is ∙ ap (λ (k : Key). record_bytes k old.place one) writing.key_is ∙ ap (λ (p : Place). record_bytes (key_of aim.header) p one) writing.place_is

    -- what is written and what is collected are all records
    pub joins : (written collected : List ℕ) → written ++ collected ≡ (writing.written ++ old.out.items) ++ record_bytes old.key old.place (made false (smaller_request (has_number old.ended) request reply) reply)
        → written ++ collected ≡ journal_bytes aim.header (so_far (before ++ it ∷ []))
    joins written collected is =
        is ∙ ap (λ (t : List ℕ). t ++ record_bytes old.key old.place (made false (smaller_request (has_number old.ended) request reply) reply)) writing.joined ∙ ap (λ (t : List ℕ). journal_bytes aim.header (so_far before) ++ t) spelled
        ∙ sym (journal_one aim.header (so_far before) one) ∙ ap (journal_bytes aim.header) more

    pub wrote : (written : List ℕ) → has new.file written → new.bytes ≡ length written → written ++ new.out.items ≡ (writing.written ++ old.out.items) ++ record_bytes old.key old.place (made false (smaller_request (has_number old.ended) request reply) reply)
        → IsWriting has aim new (before ++ it ∷ [])
    wrote written there bytes is = record {
      written = written;
      there = there;
      joined = joins written new.out.items is;
      key_is = key ∙ writing.key_is;
      place_is =
          place ∙ ap (place_after old.key old.place) one_is ∙ ap (λ (k : Key). place_after k old.place one) writing.key_is ∙ ap (λ (p : Place). place_after (key_of aim.header) p one) writing.place_is
          ∙ sym (last_one aim.header (so_far before) one) ∙ ap (last_place aim.header) more;
      bytes_are = bytes;
      fit = subst AllFit more (fit_append (so_far before) (one ∷ []) writing.fit (subst Fits one_is fits, tt));
      ended_are = λ file. ap (λ (e : _). has_number e file) ended ∙ writing.ended_are file;
      stamps_are = λ stamp. stamps stamp ∙ ap (λ (b : Bool). eqb (stamp_in request) stamp || b) (writing.stamps_are stamp) ∙ sym (stamps_one_more before it stamp);
    }

  -- with the mark behind them
  pub ended_by : (rewriter : Rewriter N) (its : List Record) (writing : IsWriting has aim rewriter its) (mark : List ℕ) → mark ≡ turn_mark rewriter.key rewriter.place.at
      → writing.written ++ (rewriter.out.items ++ mark) ≡ marked_bytes aim.header (so_far its)
  ended_by rewriter its writing mark is =
      let same : mark ≡ turn_mark (key_of aim.header) (last_place aim.header (so_far its)).at =
      is ∙ ap (λ (k : Key). turn_mark k rewriter.place.at) writing.key_is ∙ ap (λ (p : Place). turn_mark (key_of aim.header) p.at) writing.place_is in
      sym (append_assoc writing.written rewriter.out.items mark) ∙ ap (λ (t : List ℕ). t ++ mark) writing.joined ∙ ap (λ (t : List ℕ). journal_bytes aim.header (so_far its) ++ t) same
