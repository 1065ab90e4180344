-- What the code makes.
use Rattle.std.proofs.Common.{◌≡◌, ◌∙◌, ℕ, ◌≤◌, List, ◌++◌, length, Ok, sym, ap, subst, append_assoc}
use Rattle.std.proofs.lemmas.List.{length-map}
use Rattle.droid_pronom.specs.RegistryFile.{File}
use Rattle.droid_signature.specs.SignatureRows.{flat}
use Rattle.droid_signature.specs.RegistryTables.{extension_lines, file_of, format_lines, priority_lines, registry_of, signature_lines}
use Rattle.droid_signature.proofs.StepsOfTables.{tables_read}
use Rattle.droid_signature_file.specs.Records.{FileRecord}
use Rattle.droid_signature.specs.Formats.{formats_of}
use Rattle.droid_signature.specs.declared.left_out.LeftOut.{LeftOut}
use Rattle.droid_signature.specs.Views.{kept_of}
use Rattle.droid_signature.specs.AllTables.{AreTablesOf, all_left, all_text, kept_in, taken_in}
use Rattle.droid_signature.specs.Conversion.{IsConversion, Parts, tables_of}
use Rattle.droid_signature.specs.declared.conversion.Taken.{Taken}
use Rattle.droid_signature.specs.declared.tables.AllTables.{AllTables}
use Rattle.droid_signature.proofs.FormatHitting.{hits_as}
use Rattle.droid_signature.proofs.Validity.{are_tables}

abbrev parts_in : (file : FileRecord) (it : AllTables) → AreTablesOf file it → Parts file
parts_in file it are = record {
  kept = kept_in it;
  extensions = are.extensions.rows;
  priorities = are.priorities.rows;
  signatures = are.signatures.rows;
  left_formats = it.formats.table.left_out.items;
  left_extensions = it.extensions.left_out.items;
  left_priorities = it.priorities.left_out.items;
  left_signatures = it.signatures.left_out.items;
  formats_sifted = are.formats.sifted;
  extensions_sifted = are.extensions.sifted;
  priorities_sifted = are.priorities.sifted;
  signatures_sifted = are.signatures.sifted;
}

grouped : (a b c d : List ℕ) → a ++ b ++ c ++ d ≡ a ++ (b ++ (c ++ d))
grouped a b c d = append_assoc (a ++ b) c d ∙ append_assoc a b (c ++ d)

text_is : (file : FileRecord) (it : AllTables) (are : AreTablesOf file it) → all_text it ≡ file_of (tables_of (parts_in file it are))
text_is file it are =
    ap (λ t. t ++ it.extensions.text.items ++ it.priorities.text.items ++ it.signatures.text.items) are.formats.text
    ∙ ap (λ t. format_lines (formats_of (kept_in it)) ++ t ++ it.priorities.text.items ++ it.signatures.text.items) are.extensions.text
    ∙ ap (λ t. format_lines (formats_of (kept_in it)) ++ extension_lines are.extensions.rows ++ t ++ it.signatures.text.items) are.priorities.text
    ∙ ap (λ t. format_lines (formats_of (kept_in it)) ++ extension_lines are.extensions.rows ++ priority_lines are.priorities.rows ++ t) are.signatures.text
    ∙ grouped (format_lines (formats_of (kept_in it))) (extension_lines are.extensions.rows) (priority_lines are.priorities.rows) (signature_lines (flat are.signatures.rows))

pub made_of : (file : FileRecord) (it : AllTables) (csv : List ℕ) (left : List LeftOut) (taken : Taken) → AreTablesOf file it → csv ≡ all_text it → left ≡ all_left it → taken ≡ taken_in it → IsConversion file csv left taken
made_of file it csv left taken are written listed counted =
    let parts = parts_in file it are in
    let text = written ∙ text_is file it are in
    record {
      made = record {
        parts = parts;
        text = text;
        accepted = λ few. subst (λ (t : List ℕ). File t (Ok (registry_of (tables_of parts)))) (sym text) (tables_read (tables_of parts) (are_tables file parts) (subst (λ (t : List ℕ). length t ≤ 16777216) text few));
        reported = listed;
        hits = λ place format there. hits_as file parts left listed place format there;
      };
      counts = record {
        formats = ap (λ (t : Taken). t.formats) counted ∙ sym (length-map it.formats.kept.items kept_of);
        extensions = ap (λ (t : Taken). t.extensions) counted ∙ are.extensions.count;
        priorities = ap (λ (t : Taken). t.priorities) counted ∙ are.priorities.count;
        signatures = ap (λ (t : Taken). t.signatures) counted ∙ are.signatures.taken;
      };
    }
