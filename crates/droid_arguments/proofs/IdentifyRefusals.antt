-- Why the words of `identify` ask for nothing.
use Rattle.std.proofs.Common.{◌≡◌, ◌∙◌, ◌+◌, ap, sym, ℕ, Bool, true, false, List, length, map, cond, Option, Some, None, codes, option_map, count_by}
use Rattle.std.proofs.lemmas.List.Folds.{fold-map}
use Rattle.std.proofs.lemmas.List.{length-map}
use Rattle.std.specs.Borrow.{Bor}
use Rattle.clap.specs.Words.{Row, Text, first_of, one_of, subcommand_rows_of}
use Rattle.clap.specs.declared.parser.matches.ArgMatches.{ArgMatches}
use Rattle.droid_arguments.specs.Identifying.{IsForm, IsIdentify, dashes, files_in, form_of, is_dash, misfits}
use Rattle.droid_arguments.specs.Registries.{names_two}
use Rattle.droid_arguments.specs.Values.{IsFlag}
use Rattle.droid_arguments.specs.declared.identify.IdentifyForm.{IdentifyForm}
use Rattle.droid_arguments.specs.declared.identify.IdentifyOptions.{IdentifyOptions}
use Rattle.droid_arguments.proofs.Options.{same_flag}

-- two registries
pub two_registries : (rows : List Row) (everyday : Bool) (registry : Option Text) → IsFlag (one_of (codes "everyday") rows) everyday → registry ≡ first_of (codes "registry") rows
    → true ≡ names_two everyday registry → (options : IdentifyOptions) → IsIdentify rows options → ⊥
two_registries rows everyday registry flag there two options is =
    let one : everyday ≡ is.everyday = same_flag (one_of (codes "everyday") rows) everyday is.everyday flag is.is_flag in
    let file : registry ≡ option_map (λ path. path.now) options.registry = there ∙ sym is.registry in
    let bad : true ≡ false = two ∙ (ap (λ (b : Bool). names_two b registry) one ∙ (ap (λ (r : Option Text). names_two is.everyday r) file ∙ is.names_one)) in
    cc

module _ (rows : List Row) (csv json siegfried puid : Bool) (is_csv : IsFlag (one_of (codes "csv") rows) csv) (is_json : IsFlag (one_of (codes "json") rows) json)
    (is_siegfried : IsFlag (one_of (codes "json-sf") rows) siegfried) (is_puid : IsFlag (one_of (codes "puid") rows) puid) where
  -- the flags name the form of the options
  pub form_named : (form : IdentifyForm) → IsForm rows form → form_of csv json siegfried puid ≡ Some form
  form_named form is =
      let a = same_flag (one_of (codes "csv") rows) csv is.csv is_csv is.is_csv in
      let b = same_flag (one_of (codes "json") rows) json is.json is_json is.is_json in
      let c = same_flag (one_of (codes "json-sf") rows) siegfried is.siegfried is_siegfried is.is_siegfried in
      let d = same_flag (one_of (codes "puid") rows) puid is.puid is_puid is.is_puid in
      ap (λ (x : Bool). form_of x json siegfried puid) a
      ∙ (ap (λ (x : Bool). form_of is.csv x siegfried puid) b ∙ (ap (λ (x : Bool). form_of is.csv is.json x puid) c ∙ (ap (λ (x : Bool). form_of is.csv is.json is.siegfried x) d ∙ is.one)))

  -- two forms
  pub two_forms : None ≡ form_of csv json siegfried puid → (options : IdentifyOptions) → IsIdentify rows options → ⊥
  two_forms none options is = let bad : None ≡ Some options.form = none ∙ form_named options.form is.form in cc

-- words and options that can't be used together
pub unfit : (rows : List Row) (list name why : Option Text) (zero : Bool) (form : IdentifyForm) → list ≡ first_of (codes "files-from") rows → name ≡ first_of (codes "name") rows → why ≡ first_of (codes "why") rows
    → IsFlag (one_of (codes "null") rows) zero → IsForm rows form
    → true ≡ misfits (length (files_in rows)) (dashes (files_in rows)) list zero name why form → (options : IdentifyOptions) → IsIdentify rows options → ⊥
unfit rows list name why zero form is_list is_name is_why is_zero is_form misfit options is =
    let n = length (files_in rows) in
    let m = dashes (files_in rows) in
    let l : list ≡ option_map (λ path. path.now) options.list = is_list ∙ sym is.list in
    let z : zero ≡ options.zero = same_flag (one_of (codes "null") rows) zero options.zero is_zero is.zero in
    let t : name ≡ option_map (λ text. text.now) options.name = is_name ∙ sym is.name in
    let w : why ≡ option_map (λ text. text.now) options.why = is_why ∙ sym is.why in
    let both : Some form ≡ Some options.form = sym is_form.one ∙ form_named rows is_form.csv is_form.json is_form.siegfried is_form.puid is_form.is_csv is_form.is_json is_form.is_siegfried is_form.is_puid options.form is.form in
    let f : form ≡ options.form = cc in
    let bad : true ≡ false = misfit
    ∙ (ap (λ (x : Option Text). misfits n m x zero name why form) l
    ∙ (ap (λ (x : Bool). misfits n m (option_map (λ path. path.now) options.list) x name why form) z
    ∙ (ap (λ (x : Option Text). misfits n m (option_map (λ path. path.now) options.list) options.zero x why form) t
    ∙ (ap (λ (x : Option Text). misfits n m (option_map (λ path. path.now) options.list) options.zero (option_map (λ text. text.now) options.name) x form) w
    ∙ (ap (λ (x : IdentifyForm). misfits n m (option_map (λ path. path.now) options.list) options.zero (option_map (λ text. text.now) options.name) (option_map (λ text. text.now) options.why) x) f
    ∙ is.fit))))) in
    cc

-- the files behind references fit as those that the words name
pub same_fit : (rows : List Row) (files : List (Bor Text)) (inputs : ℕ) (list : Option Text) (zero : Bool) (name why : Option Text) (form : IdentifyForm) (fit : Bool)
    → map (λ file. file.now) files ≡ files_in rows → inputs ≡ dashes (map (λ file. file.now) files) → fit ≡ misfits (length files) inputs list zero name why form
    → fit ≡ misfits (length (files_in rows)) (dashes (files_in rows)) list zero name why form
same_fit rows files inputs list zero name why form fit named counted is =
    let n : length files ≡ length (files_in rows) = sym (length-map files (λ file. file.now)) ∙ ap length named in
    let m : inputs ≡ dashes (files_in rows) = counted ∙ ap dashes named in
    is ∙ (ap (λ (n : ℕ). misfits n inputs list zero name why form) n ∙ ap (λ (m : ℕ). misfits (length (files_in rows)) m list zero name why form) m)

-- names behind references count as the names do
pub dashes_behind : (files : List (Bor Text)) → count_by (λ file. is_dash file.now) files ≡ dashes (map (λ file. file.now) files)
dashes_behind files = sym (fold-map (λ (n : ℕ) name. n + cond (is_dash name) 1 0) (λ file. file.now) 0 files)

-- the command that the parse entered is `identify`, with these rows
pub entered_by : (m : ArgMatches) (rows its : List Row) → subcommand_rows_of m ≡ Some (codes "identify", rows) → option_map (λ p. p.1) (subcommand_rows_of m) ≡ Some its → rows ≡ its
entered_by m rows its entered there = let both : Some rows ≡ Some its = sym (ap (option_map (λ p. p.1)) entered) ∙ there in cc
