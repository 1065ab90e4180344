-- The files that are ended by the first record of a number have ended in the world of the history.
use Rattle.std.proofs.Common.{◌≡◌, ◌⊎◌, inl, inr, ℕ, ◌==◌, ◌&&◌, ◌||◌, Bool, true, false, cond, nat_lt, List, [], ◌∷◌, ◌++◌, length, Some, refl, sym, ap, subst, ◌∙◌, append_assoc, append-nil, arith}
use Rattle.std.proofs.lemmas.Bool.{and_parts, cases_Bool, eqb-true, or_cases, ltb-true}
use Rattle.std.specs.Prelude.{slice_index}
use Rattle.droid_frame.specs.Bodies.{request_kind}
use Rattle.droid_frame.specs.Fields.{IsU32}
use Rattle.droid_frame.specs.Frames.{frame_bytes}
use Rattle.droid_frame.specs.declared.frame.Frame.{Frame}
use Rattle.droid_frame.specs.declared.request.Request.{Request}
use Rattle.droid_frame.specs.declared.request.Request.TheVariants as requests
use Rattle.droid_core_spec.specs.Histories.{Entry, History, IsLegal, world_of}
use Rattle.droid_core_spec.specs.Setting.{Setting}
use Rattle.droid_recovery.proofs.EndedFiles.{ended_in}
use Rattle.droid_core_spec.proofs.Legal.{GoesOn-push}
use Rattle.droid_recovery.specs.BareWorlds.{Bare}
use Rattle.droid_recovery.specs.Ending.{Ends, IsEnded}
use Rattle.droid_journal.specs.Records.{Record}
use Rattle.droid_recovery.proofs.KeptFrames.{FrameForm, Whole, Piece, Finish, form_of}
use Rattle.droid_recovery.specs.BareRecords.{HaveHistory, IsRecordOf, MayBeKept, kept_frame}
use Rattle.droid_compaction.specs.Fields.{file_in, is_about, is_end, stamp_in}
use Rattle.droid_compaction.specs.Shortening.{ends, has_ended, has_stamp, once}
use Rattle.droid_recovery.proofs.FrameBytes.{about_kind, file_is}
use Rattle.droid_recovery.proofs.SmallerRecords.{its_stamp, repeat_stamp, spells}
use Rattle.droid_recovery.proofs.Stamps.{HaveStamps, no_stamps, stamp_seen, stamp_unseen, stamps_again, stamps_more}
use Rattle.droid_recovery.specs.SmallerFiles.{file_number, or_ended}

module _ (setting : Setting) (bare : Bare) where
  -- ---- the history goes on, and stays legal

  pub later_than : (its : List Record) (history all : History) → HaveHistory setting bare history its all → (more : History) × (all ≡ history ++ more)
  later_than [] history all is = ([], is ∙ sym (append-nil history))
  later_than (it ∷ its) history all is =
      let rest = later_than its is.0 all is.2 in
      elim is.1 [
        | inl new ↦ (new.0 ∷ rest.0, rest.1 ∙ ap (λ (h : History). h ++ rest.0) new.2 ∙ append_assoc history (new.0 ∷ []) rest.0)
        | inr again ↦ (rest.0, rest.1 ∙ ap (λ (h : History). h ++ rest.0) again.2)
      ]

  pub stays_legal : (its : List Record) (history all : History) → IsLegal setting history → HaveHistory setting bare history its all → IsLegal setting all
  stays_legal [] history all legal is = subst (IsLegal setting) (sym is) legal
  stays_legal (it ∷ its) history all legal is = elim is.1 [
    | inl new ↦ stays_legal its is.0 all (subst (IsLegal setting) (sym new.2) (GoesOn-push setting [] history new.0 legal new.1.kept.may)) is.2
    | inr again ↦ stays_legal its is.0 all (subst (IsLegal setting) (sym again.2) legal) is.2
  ]

  -- ---- what ends a file

  -- the history has the end of the file with this number
  pub record HasEnd (all : History) (number : ℕ) : Type 0 where
    pub before : History
    pub entry : Entry
    pub later : History
    pub joined : all ≡ before ++ entry ∷ later
    pub profile : ℕ
    pub file : ℕ
    pub ends_it : Ends entry profile file
    pub number_is : number ≡ file_number profile file
    pub numbers : IsU32 profile × IsU32 file

  module _ (history : History) (entry : Entry) (kept : MayBeKept setting history entry) where
    end_by : (all later : History) (number : ℕ) → all ≡ history ++ entry ∷ later → (request : Request) → kept.may.request ≡ request → (request_kind request ≡ 5) ⊎ (request_kind request ≡ 6) → file_in (frame_bytes entry.frame) ≡ number → HasEnd all number
    end_by all later number joined (requests.Finish profile file) is kind number_is =
        let its = spells setting bare (λ n. false) history entry kept (requests.Finish profile file) is in
        record {
          before = history;
          entry = entry;
          later = later;
          joined = joined;
          profile = profile;
          file = file;
          ends_it = inl (kept.may.asked ∙ ap Some is);
          number_is = sym number_is ∙ file_is entry.frame profile file [] its.body_is its.has_spelling.0 its.has_spelling.1;
          numbers = its.has_spelling;
        }
    end_by all later number joined (requests.Abandon profile file) is kind number_is =
        let its = spells setting bare (λ n. false) history entry kept (requests.Abandon profile file) is in
        record {
          before = history;
          entry = entry;
          later = later;
          joined = joined;
          profile = profile;
          file = file;
          ends_it = inr (kept.may.asked ∙ ap Some is);
          number_is = sym number_is ∙ file_is entry.frame profile file [] its.body_is its.has_spelling.0 its.has_spelling.1;
          numbers = its.has_spelling;
        }
    end_by all later number joined (requests.CreateProfile scan_limit match_all hash) is kind number_is = elim kind [ inl a ↦ absurd (omega (arith, a)) | inr b ↦ absurd (omega (arith, b)) ]
    end_by all later number joined (requests.AddFolder profile parent modified name) is kind number_is = elim kind [ inl a ↦ absurd (omega (arith, a)) | inr b ↦ absurd (omega (arith, b)) ]
    end_by all later number joined (requests.AddFile profile parent modified size piece_size name) is kind number_is = elim kind [ inl a ↦ absurd (omega (arith, a)) | inr b ↦ absurd (omega (arith, b)) ]
    end_by all later number joined (requests.Piece profile file index bytes) is kind number_is = elim kind [ inl a ↦ absurd (omega (arith, a)) | inr b ↦ absurd (omega (arith, b)) ]
    end_by all later number joined (requests.Status profile file) is kind number_is = elim kind [ inl a ↦ absurd (omega (arith, a)) | inr b ↦ absurd (omega (arith, b)) ]
    end_by all later number joined (requests.Export profile from max filter) is kind number_is = elim kind [ inl a ↦ absurd (omega (arith, a)) | inr b ↦ absurd (omega (arith, b)) ]

    kind_form : (kind : ℕ) (frame : Frame) → frame.kind ≡ kind → (kind ≡ 5) ⊎ (kind ≡ 6) → FrameForm bare entry kept.may.request frame → frame ≡ entry.frame
    kind_form kind frame is one (Whole none same) = same
    kind_form kind frame is one (Piece profile file index bytes asked is_bare same) = absurd (elim one [ inl a ↦ let it = sym is ∙ ap (λ (f : Frame). f.kind) same in omega (arith, it, a) | inr b ↦ let it = sym is ∙ ap (λ (f : Frame). f.kind) same in omega (arith, it, b) ])
    kind_form kind frame is one (Finish profile file asked is_bare same) = absurd (elim one [ inl a ↦ let it = sym is ∙ ap (λ (f : Frame). f.kind) same in omega (arith, it, a) | inr b ↦ let it = sym is ∙ ap (λ (f : Frame). f.kind) same in omega (arith, it, b) ])

  -- the kind of a record that ends a file
  end_kind : (request reply : List ℕ) → is_end request reply ≡ true → (slice_index request 1 ≡ 5) ⊎ (slice_index request 1 ≡ 6)
  end_kind request reply is = elim (or_cases (is_about 5 request reply) (is_about 6 request reply) is) [
    | inl a ↦ inl (about_kind 5 request reply a)
    | inr b ↦ inr (about_kind 6 request reply b)
  ]

  ends_here : (history all later : History) (it : Record) (entry : Entry) (number : ℕ) → (is : IsRecordOf setting bare history it entry) → all ≡ history ++ entry ∷ later → ends number it ≡ true → HasEnd all number
  ends_here history all later it entry number is joined ends_it =
      let frame = kept_frame bare is.kept.may.request entry.frame entry.reply in
      let parts = and_parts (is_end it.request it.reply) (file_in it.request == number) ends_it in
      let kind = subst (λ (r : List ℕ). (slice_index r 1 ≡ 5) ⊎ (slice_index r 1 ≡ 6)) is.request (end_kind it.request it.reply parts.0) in
      let whole : frame ≡ entry.frame = kind_form history entry is.kept frame.kind frame refl kind (form_of bare entry frame is.kept.may.request refl) in
      let kind_is = (spells setting bare (λ n. false) history entry is.kept is.kept.may.request refl).kind_is in
      let of_request = subst (λ (k : ℕ). (k ≡ 5) ⊎ (k ≡ 6)) (ap (λ (f : Frame). f.kind) whole ∙ kind_is) kind in
      end_by history entry is.kept all later number joined is.kept.may.request refl of_request
      (ap (λ (f : Frame). file_in (frame_bytes f)) (sym whole) ∙ ap file_in (sym is.request) ∙ eqb-true (file_in it.request) number parts.1)

  pub has_end : (its before : List Record) (history all : History) (number : ℕ) → HaveStamps before history → HaveHistory setting bare history its all → has_ended (once before its) number ≡ true → HasEnd all number
  has_end [] before history all number have is some = absurd cc
  has_end (it ∷ its) before history all number have is some = elim is.1 [
    | inl new ↦
        let seen = ap (has_stamp before) (its_stamp setting bare (λ n. false) history it new.0 new.1) ∙ stamp_unseen before history new.0.frame.client new.0.frame.number new.1.kept.readable.is_frame.number_fits new.1.kept.may.is_new have in
        let stamps = subst (HaveStamps (before ++ it ∷ [])) (sym new.2) (stamps_more before history it new.0 new.1.kept.readable.is_frame.number_fits (its_stamp setting bare (λ n. false) history it new.0 new.1) have) in
        let rest = later_than its is.0 all is.2 in
        let joined : all ≡ history ++ new.0 ∷ rest.0 = rest.1 ∙ ap (λ (h : History). h ++ rest.0) new.2 ∙ append_assoc history (new.0 ∷ []) rest.0 in
        elim (or_cases (ends number it) (has_ended (once (before ++ it ∷ []) its) number) (rw seen at some)) [
          | inl here ↦ ends_here history all rest.0 it new.0 number new.1 joined here
          | inr later ↦ has_end its (before ++ it ∷ []) is.0 all number stamps is.2 later
        ]
    | inr again ↦
        let seen = ap (has_stamp before) (repeat_stamp setting bare (λ n. false) history it again.0 again.1) ∙ stamp_seen before history again.1.frame.client again.1.frame.number again.0 again.1.readable.is_frame.number_fits again.1.again.there have in
        let stamps = stamps_again before history it again.1.frame.client again.1.frame.number again.0 again.1.readable.is_frame.number_fits (repeat_stamp setting bare (λ n. false) history it again.0 again.1) again.1.again.there have in
        has_end its (before ++ it ∷ []) history all number stamps (subst (λ (h : History). HaveHistory setting bare h its all) again.2 is.2) (rw seen at some)
  ]

  -- ---- the world

  end_ended : (all : History) (number profile file : ℕ) → IsLegal setting all → IsU32 profile → IsU32 file → number ≡ file_number profile file → HasEnd all number → IsEnded (world_of setting all) profile file
  end_ended all number profile file legal one other is it =
      let profiles : it.profile ≡ profile = omega (arith, is, it.number_is, it.numbers.0, it.numbers.1, one, other) in
      let files : it.file ≡ file = omega (arith, is, it.number_is, it.numbers.0, it.numbers.1, one, other) in
      let here = ended_in setting it.before it.later it.entry it.profile it.file (subst (IsLegal setting) it.joined legal) it.ends_it in
      subst (λ (p : ℕ). IsEnded (world_of setting all) p file) profiles
      (subst (λ (f : ℕ). IsEnded (world_of setting all) it.profile f) files (subst (λ (h : History). IsEnded (world_of setting h) it.profile it.file) (sym it.joined) here))

  pub are_ended : (its : List Record) (all : History) → HaveHistory setting bare [] its all → ((profile file : ℕ) → bare profile file ≡ true → IsEnded (world_of setting all) profile file)
      → (ended : ℕ → Bool) → ((number : ℕ) → ended number ≡ true → has_ended (once [] its) number ≡ true)
      → (profile file : ℕ) → or_ended bare ended profile file ≡ true → IsEnded (world_of setting all) profile file
  are_ended its all is were ended first_ends profile file some = elim (or_cases (bare profile file) _ some) [
    | inl was ↦ were profile file was
    | inr now ↦
        let first = and_parts (nat_lt profile 4294967296) _ now in
        let second = and_parts (nat_lt file 4294967296) _ first.1 in
        end_ended all (file_number profile file) profile file (stays_legal its [] all tt is) (ltb-true profile 4294967296 first.0) (ltb-true file 4294967296 second.0) refl
        (has_end its [] [] all (file_number profile file) no_stamps is (first_ends (file_number profile file) second.1))
  ]
