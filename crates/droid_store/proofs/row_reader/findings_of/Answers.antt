use Rattle.std.proofs.Common.{◌≡◌, ◌∙◌, ap, sym, refl, string_bytes, arith}
use Rattle.sqlite.specs.Order.{column}
use Rattle.droid_store.proofs.Values.{same_flag, same_text}
use Rattle.droid_store.specs.declared.row_reader.Findings.{Findings}
use Rattle.droid_store.specs.Encoded.{joined, words_of}
use Rattle.droid_store.specs.Rows.{hash_of}
use Rattle.droid_store.proofs.Decoded.{words_again}
use Rattle.droid_store.proofs.FaultsOfReading.{still_memory}
use Rattle.droid_store.proofs.row_reader.findings_of.Goals as goal

pub returns-clause-read : goal.returns-clause-read
returns-clause-read c n all is =
    let flag = rw is at c.in_ok-mismatch.ensures.ok.1 in
    let mismatch : c.in_ok-mismatch.mismatch ≡ n.mismatch = same_flag n.mismatch c.in_ok-mismatch.mismatch flag.0 flag.1 flag.2 in
    let text : joined n.puids ≡ string_bytes c.in_ok-formats.formats = same_text (joined n.puids) (string_bytes c.in_ok-formats.formats) (rw is at c.in_ok-formats.ensures.ok.1) in
    let method : c.in_ok-method.method ≡ n.method = c.in_ok-method.ensures.read n is in
    let hash : c.in_ok-hash.hash ≡ hash_of n.hash = c.in_ok-hash.ensures.read n.hash (ap (λ r. column r 11) is) in
    let puids : c.in_ok-puids.puids ≡ n.puids = c.in_ok-puids.ensures ∙ ap words_of (c.as_str.ensures.value ∙ sym text) ∙ words_again n.puids all in
    let made : Findings = record { method = n.method; mismatch = n.mismatch; hash = hash_of n.hash; puids = n.puids } in
    ap (λ m. record made { method = m; mismatch = c.in_ok-mismatch.mismatch; hash = c.in_ok-hash.hash; puids = c.in_ok-puids.puids }) method
    ∙ ap (λ b. record made { mismatch = b; hash = c.in_ok-hash.hash; puids = c.in_ok-puids.puids }) mismatch
    ∙ ap (λ d. record made { hash = d; puids = c.in_ok-puids.puids }) hash
    ∙ ap (λ ps. record made { puids = ps }) puids

pub returns-in_err-hash-clause-memory : goal.returns-in_err-hash-clause-memory
returns-in_err-hash-clause-memory c n is fits = still_memory c.from_residual-in_err-hash.result _ c.from_residual-in_err-hash.ensures.1 (c.in_err-hash.ensures.memory n.hash (rw is (omega arith)) (rw is refl) fits.hash)
