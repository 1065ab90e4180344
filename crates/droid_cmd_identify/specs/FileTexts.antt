-- What is printed of files, in each form (this project's own).
use Rattle.std.specs.Prelude.{ℕ, Bool, List, [], codes}
use Rattle.droid_arguments.specs.declared.identify.IdentifyForm.{IdentifyForm}
use Rattle.droid_arguments.specs.declared.identify.IdentifyForm.TheVariants as forms
use Rattle.droid_cmd_identify.specs.CsvRows.{csv_rows, header}
use Rattle.droid_cmd_identify.specs.Json.{json_line}
use Rattle.droid_cmd_identify.specs.Lines.{file_lines, puid_lines}
use Rattle.droid_cmd_identify.specs.Siegfried.{sf_file, sf_head, sf_unread}
use Rattle.droid_cmd_identify.specs.declared.forms.sf_document.SfHead.{SfHead}
use Rattle.droid_cmd_identify.specs.declared.forms.shown_file.ShownFile.{ShownFile}

-- of a file that was identified; whether it is the first one counts in the document that is shaped as Siegfried's
abbrev pub file_text : IdentifyForm → Bool → ShownFile → List ℕ
file_text forms.Lines first file = file_lines file
file_text forms.Puids first file = puid_lines file.formats.now
file_text forms.Csv first file = csv_rows file
file_text forms.Json first file = json_line file
file_text forms.Siegfried first file = sf_file first file

-- before the first file
abbrev pub head_text : IdentifyForm → SfHead → List ℕ
head_text forms.Lines head = []
head_text forms.Puids head = []
head_text forms.Csv head = header
head_text forms.Json head = []
head_text forms.Siegfried head =
    sf_head head.program.now head.scanned.now head.registry.now head.created.now head.details.now

-- after the last file
abbrev pub tail_text : IdentifyForm → List ℕ
tail_text forms.Lines = []
tail_text forms.Puids = []
tail_text forms.Csv = []
tail_text forms.Json = []
tail_text forms.Siegfried = codes "]}\n"

-- of a file that could not be read
abbrev pub unread_text : IdentifyForm → Bool → (path why : List ℕ) → List ℕ
unread_text forms.Lines first path why = []
unread_text forms.Puids first path why = []
unread_text forms.Csv first path why = []
unread_text forms.Json first path why = []
unread_text forms.Siegfried first path why = sf_unread first path why
