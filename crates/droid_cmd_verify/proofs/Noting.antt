-- What is known of a file that is noted.
use Rattle.std.proofs.Common.{◌≡◌, ℕ, true, false, ◌&&◌, List, IsTrue, IsUtf8, sym}
use Rattle.std.specs.Str.{is_utf8}
use Rattle.std.proofs.lemmas.Bool.{and_parts, false_from_ne_true}
use Rattle.std.proofs.lemmas.Str.{IsUtf8-from_is_utf8, is_utf8-from_IsUtf8}
use Rattle.droid_tree.specs.declared.folder_entry.FolderEntry.{FolderEntry}
use Rattle.droid_core_spec.specs.Conditions.{is_moment}
use Rattle.droid_cmd_verify.specs.NotedFiles.{is_noted, is_regular}

pub is_text : (name : List ℕ) → IsUtf8 name → true ≡ is_utf8 name
is_text name utf8 = sym (is_utf8-from_IsUtf8 name utf8)

pub is_no_text : (name : List ℕ) → ¬ (IsUtf8 name) → false ≡ is_utf8 name
is_no_text name other = sym (false_from_ne_true (is_utf8 name) (λ e. other (IsUtf8-from_is_utf8 name e)))

-- its moment can be written
pub written : (entry : FolderEntry) → IsTrue (is_noted entry) → IsTrue (is_moment entry.modified)
written entry noted = (and_parts (is_regular entry.kind && is_utf8 entry.name) (is_moment entry.modified) noted).1
