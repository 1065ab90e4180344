use Rattle.std.proofs.Common.{ℕ, List, ◌++◌, ◌∙◌, arith, codes, append_assoc, string_bytes}
use Rattle.std.specs.List.{flat_map}
use Rattle.droid_export.specs.Uris as uris
use Rattle.droid_export.proofs.Escapes.{escaped_path}
use Rattle.droid_export.proofs.node_uri.add_uri.Goals as goal

pub returns : goal.returns
unfolding uris.uri
returns c =
    let path = escaped_path c.args.path.now (λ i. omega (arith, c.type_inv.path i)) in
    let before : List ℕ = string_bytes c.args.text.now in
    let escaped : List ℕ = flat_map uris.escaped_byte c.args.path.now in
    let end : List ℕ = uris.uri_end c.args.kind in
    rw (c.in_ok-push_str-2.ensures.bytes, c.uri_end.ensures, c.in_ok-append_to.ensures.ok, c.percent_encode.ensures.text, c.as_bytes.ensures.value, path, c.in_ok-push_str.ensures.bytes)
    (append_assoc (before ++ codes "file:") escaped end ∙ append_assoc before (codes "file:") (escaped ++ end))
