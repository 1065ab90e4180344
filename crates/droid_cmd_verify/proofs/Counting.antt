-- Files and bytes are counted place by place.
use Rattle.std.proofs.Common.{◌≡◌, ◌∙◌, ℕ, ◌+◌, ◌-◌, ◌^◌, ◌<◌, List, [], ◌∷◌, ◌++◌, length, take, get_or, Option, Some, None, refl, sym, ap}
use Rattle.std.specs.List.{cons_option, filter_map, fold}
use Rattle.std.specs.Option.{option_to_list}
use Rattle.std.specs.Prelude.{min}
use Rattle.std.proofs.lemmas.List.{take_more}
use Rattle.std.proofs.lemmas.List.Elements.{filter_map-append}
use Rattle.std.proofs.lemmas.List.Sums.{fold-append}
use Rattle.droid_frame.specs.declared.item.Item.{Item}
use Rattle.droid_cmd_verify.specs.Summaries.{bytes_from, files_from, length_at, one_more}

last_given : {Y : Type 0} (y : Option Y) → cons_option y [] ≡ option_to_list y
last_given None = refl
last_given (Some y) = refl

filter_map_more : {X Y : Type 0} (f : X → Option Y) (xs : List X) (k : ℕ) (d : X) → k < length xs
    → filter_map f (take (k + 1) xs) ≡ filter_map f (take k xs) ++ option_to_list (f (get_or xs k d))
filter_map_more f xs k d below =
    ap (filter_map f) (take_more xs k d below) ∙ (filter_map-append f (take k xs) (get_or xs k d ∷ []) ∙ ap (λ (ys : List _). filter_map f (take k xs) ++ ys) (last_given (f (get_or xs k d))))

pub files_given : {X : Type 0} (f : X → Option ℕ) (xs : List X) (k : ℕ) (d : X) (n : ℕ) → k < length xs
    → files_from n (filter_map f (take (k + 1) xs)) ≡ files_from (files_from n (filter_map f (take k xs))) (option_to_list (f (get_or xs k d)))
files_given f xs k d n below =
    ap (files_from n) (filter_map_more f xs k d below) ∙ fold-append (λ (n place : ℕ). one_more n) n (filter_map f (take k xs)) (option_to_list (f (get_or xs k d)))

pub bytes_given : {X : Type 0} (found : List Item) (f : X → Option ℕ) (xs : List X) (k : ℕ) (d : X) (n : ℕ) → k < length xs
    → bytes_from found n (filter_map f (take (k + 1) xs)) ≡ bytes_from found (bytes_from found n (filter_map f (take k xs))) (option_to_list (f (get_or xs k d)))
bytes_given found f xs k d n below =
    ap (bytes_from found n) (filter_map_more f xs k d below)
    ∙ fold-append (λ (bytes place : ℕ). min (bytes + length_at found place) (2 ^ 64 - 1)) n (filter_map f (take k xs)) (option_to_list (f (get_or xs k d)))

pub files_both : (n : ℕ) (some more : List ℕ) → files_from (files_from n some) more ≡ files_from n (some ++ more)
files_both n some more = sym (fold-append (λ (n place : ℕ). one_more n) n some more)

pub bytes_both : (found : List Item) (n : ℕ) (some more : List ℕ) → bytes_from found (bytes_from found n some) more ≡ bytes_from found n (some ++ more)
bytes_both found n some more = sym (fold-append (λ (bytes place : ℕ). min (bytes + length_at found place) (2 ^ 64 - 1)) n some more)
