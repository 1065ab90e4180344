use Rattle.std.proofs.Common.{◌≡◌, ◌∙◌, ◌++◌, ◌∷◌, [], List, length, refl, ap, false, Bool, string_bytes}
use Rattle.std.proofs.lemmas.Map.Text.{btree_map_updates_text}
use Rattle.droid_pronom.specs.declared.format.Format.{Format}
use Rattle.droid_pronom.proofs.RegistryTables.{kept_format}
use Rattle.droid_pronom.proofs.registry.Registry.push_format.Goals as goal

pub invariant_of-self-2 : goal.invariant_of-self-2
invariant_of-self-2 c =
    let puid : string_bytes c.in_ok-puid.puid ≡ c.args.format.puid = c.in_ok-puid.ensures.ok ∙ c.as_str.ensures.value in
    let place : c.len-place.result ≡ length c.self.inside.formats.items = c.len-place.ensures ∙ c.self.inside.formats.ok.0 in
    kept_format c.self.inside _ c.args.format c.self.invariant
    (rw (← c.self.view_is) at c.requires.few) c.requires.named (rw (← c.self.view_is) at c.requires.fresh)
    (rw c.unwrap.ensures at c.push.ensures.items ∙ ap (λ (fs : List Format). fs ++ c.args.format ∷ []) c.reserve.ensures.items)
    (rw c.unwrap-2.ensures at c.push-2.ensures.items ∙ ap (λ (fs : List Bool). fs ++ false ∷ []) c.reserve-2.ensures.items)
    refl refl refl
    (λ q. rw (puid, place) at (btree_map_updates_text (string_bytes c.in_ok-puid.puid) c.self.inside.places c.insert.new.self _ c.in_ok-insert.ensures.updates q))
