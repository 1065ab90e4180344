-- What a registry finds are identifiers of its formats, and these are words.
use Rattle.std.proofs.Common.{inl, inr, ℕ, Bool, List, [], ◌∷◌, IsTrue, sym, subst}
use Rattle.std.specs.List.{AllByRecursion}
use Rattle.droid_core.specs.Identified.{IsOf, found_in}
use Rattle.droid_core_spec.specs.Setting.{Setting}
use Rattle.droid_core.proofs.PuidTexts.{are_words}
use Rattle.droid_recovery.specs.FoundWords.{FindsWords}
use Rattle.droid_pronom.specs.Found.{Chosen, IsFound, chosen, end, passed}
use Rattle.droid_pronom.specs.Registry.{Contents, IsRegistry}
use Rattle.droid_pronom.specs.RegistryFields.{is_puid}
use Rattle.droid_pronom.specs.declared.format.Format.{Format}
use Rattle.droid_pronom.specs.declared.identification.Found.{Found}

abbrev IsPuid : List ℕ → Type 0
IsPuid puid = IsTrue (is_puid puid)

chosen_are : (P : ℕ → Type 0) (k : ℕ) (formats : List Format) (puids : List (List ℕ)) → Chosen P k formats puids → AllByRecursion (λ format. IsPuid format.puid) formats → AllByRecursion IsPuid puids
chosen_are P k [] [] end are = tt
chosen_are P k [] (puid ∷ puids) none are = elim none [ ]
chosen_are P k (format ∷ formats) (puid ∷ puids) (chosen is rest) are = (are.0, chosen_are P _ formats puids rest are.1)
chosen_are P k (format ∷ formats) puids (passed isnt rest) are = chosen_are P _ formats puids rest are.1

found_are : (registry : Contents) (name bytes : List ℕ) (limit : ℕ) (match_all : Bool) (found : Found) → IsRegistry registry → IsFound registry name bytes limit match_all found → AllByRecursion IsPuid found.puids
found_are registry name bytes limit match_all found rules (inl is) = chosen_are _ 0 registry.formats found.puids is.left rules.named
found_are registry name bytes limit match_all found rules (inr (inl is)) = chosen_are _ 0 registry.formats found.puids is.named rules.named
found_are registry name bytes limit match_all found rules (inr (inr is)) = subst (AllByRecursion IsPuid) (sym is.none) tt

pub finds_words : (registry : Contents) (setting : Setting) → IsRegistry registry → IsOf registry setting → FindsWords setting
finds_words registry setting rules is name bytes scan_limit match_all =
    are_words (setting.identify name bytes scan_limit match_all).puids
    (found_are registry name bytes scan_limit match_all (found_in (setting.identify name bytes scan_limit match_all)) rules (is.identifies name bytes scan_limit match_all))
