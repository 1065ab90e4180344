-- The table of faults: by which name, with which status and with which sentence a command ends (this project's own). A
-- definition is the row of the same name in `src/ending/faults.rt`, which says when it comes.
use Rattle.std.specs.Prelude.{ℕ, List, [], codes}
use Rattle.droid_terminal.specs.Endings.{Said}
use Rattle.droid_terminal.specs.declared.ending.status.Status.{Status}
use Rattle.droid_terminal.specs.declared.ending.status.Status.TheVariants.{Unread, Failed, Unmade}

-- a row whose sentence names something within
abbrev pub gapped : Status → List ℕ → List ℕ → List ℕ → Said
gapped status name text rest = record { status = status; name = name; text = text; rest = rest }

-- a row whose sentence has no gap, or ends with what it names
abbrev pub row : Status → List ℕ → List ℕ → Said
row status name text = gapped status name text []

abbrev no_memory : List ℕ
no_memory = codes "out of memory: close other programs, or allow this one more, and try again"

abbrev lost : List ℕ
lost = codes "the service no longer has what was sent: run the same command again"

abbrev lost_pieces : List ℕ
lost_pieces = codes "the service no longer has pieces that it took, so it was restarted: run the same command again"

abbrev must_take : List ℕ
must_take = codes "the service refused a request that it must take: this is a mistake in droid_desk or in the service"

abbrev no_reply : List ℕ
no_reply = codes "the reply could not be read: send the same lines again to resume"

abbrev strange : List ℕ
strange = codes "what came is not the reply: is droid_desk serve listening there?"

-- ---- faults of several commands

abbrev pub memory : Said
memory = row Failed (codes "Memory") no_memory

abbrev pub unwritten : Said
unwritten = row Failed (codes "Write") (codes "could not be written: is the disk full, or its reader gone?")

abbrev pub same_output : Said
same_output = row Failed (codes "Output") (codes "another FILE has this path: choose another place")

abbrev pub folder_unlisted : Said
folder_unlisted = row Failed (codes "Folder") (codes "cannot be listed: ")

abbrev pub folder_unlisted_once : Said
folder_unlisted_once = row Failed (codes "Folder") (codes "could not be listed: try again")

abbrev pub not_a_folder : Said
not_a_folder = row Failed (codes "Folder") (codes "not a folder: name the folder that has the files")

abbrev pub no_folder : Said
no_folder = row Failed (codes "Folder") (codes "no such folder: check the path")

abbrev pub folder_unseen : Said
folder_unseen = row Failed (codes "Folder") []

abbrev pub output_unnamed : Said
output_unnamed = row Failed (codes "Output") (codes "the name of an output file is empty: name a file")

abbrev pub output_is_no_file : Said
output_is_no_file = row Failed (codes "Output") (codes "something else than a file has this name: choose another")

abbrev pub output_without_folder : Said
output_without_folder =
    row Failed (codes "Output") (codes "cannot be created: its folder does not exist: create it first")

abbrev pub output_below_a_file : Said
output_below_a_file =
    row Failed (codes "Output") (codes "cannot be created: a file stands in the place of its folder: choose another")

abbrev pub output_denied : Said
output_denied = row Failed (codes "Output") (codes "cannot be created: permission denied: choose another folder")

abbrev pub output_folder_unusable : Said
output_folder_unusable =
    row Failed (codes "Output") (codes "cannot be created: its folder cannot be used: choose another")

abbrev pub output_refused : Said
output_refused =
    row Failed (codes "Output") (codes "cannot be created: is its folder yours to write, and the disk not full?")

abbrev pub too_many : Said
too_many = row Failed (codes "Numbers") (codes "too large: take its subfolders one by one")

abbrev pub own_csv_refused : Said
own_csv_refused =
    row Failed (codes "Profile") (codes "no page can be made of it: this is a mistake in droid_desk")

abbrev pub list_other : Said
list_other =
    row Unread (codes "List")
    (codes "does not begin with the column names of a profile: name a CSV of `profile` or of an export")

abbrev pub list_lacks : Said
list_lacks = row Unread (codes "List") (codes "there is no column ")

abbrev pub list_fields : Said
list_fields = gapped Unread (codes "List") (codes "record ") (codes " does not have a field for each column")

abbrev pub list_wrong : Said
list_wrong = gapped Unread (codes "List") (codes "record ") (codes " is wrong")

abbrev pub list_contradicts : Said
list_contradicts = gapped Unread (codes "List") (codes "record ") (codes " contradicts another record")

abbrev pub list_twice : Said
list_twice = row Unread (codes "List") (codes "has a path twice: ")

abbrev pub reading_failed : Said
reading_failed = row Unread (codes "Read") (codes "reading failed: try again with a copy of the file")

-- ---- faults of report

abbrev pub profile_missing : Said
profile_missing = row Unread (codes "Profile") (codes "no such file: check the path")

abbrev pub profile_unread : Said
profile_unread = row Unread (codes "Profile") []

abbrev pub csv_itself : Said
csv_itself = row Failed (codes "Output") (codes "this is the CSV itself: choose another place")

-- ---- faults of registry

abbrev pub unopened_missing : Said
unopened_missing = row Unread (codes "Read") (codes "no such file: check the path")

abbrev pub unopened_folder : Said
unopened_folder = row Unread (codes "Read") (codes "a folder: name the signature file in it")

abbrev pub unopened : Said
unopened = row Unread (codes "Read") []

abbrev pub long_signature_file : Said
long_signature_file = row Unread (codes "TooLong") (codes "more than 67,108,864 bytes: is it a signature file?")

abbrev pub not_well_formed : Said
not_well_formed =
    gapped Unread (codes "NotWellFormed") (codes "line ") (codes ": not XML: is it a signature file, and whole?")

abbrev pub doctype : Said
doctype =
    gapped Unread (codes "Doctype") (codes "line ") (codes ": a document type declaration, which no signature file has")

abbrev pub too_deep : Said
too_deep =
    gapped Unread (codes "TooDeep") (codes "line ")
    (codes ": more than 16 elements inside one another: is it a signature file?")

abbrev pub too_many_attributes : Said
too_many_attributes =
    gapped Unread (codes "TooManyAttributes") (codes "line ")
    (codes ": an element with more than 64 attributes: is it a signature file?")

abbrev pub encoding : Said
encoding =
    gapped Unread (codes "Encoding") (codes "line ") (codes ": an encoding other than UTF-8: save the file as UTF-8")

abbrev pub other_root : Said
other_root =
    row Unread (codes "NotASignatureFile")
    (codes "the outermost element is not FFSignatureFile: is it a signature file?")

abbrev pub wrong_number : Said
wrong_number =
    row Unread (codes "NotASignatureFile") (codes "an ID, a Position or an offset is missing or is not a number")

abbrev pub wrong_sequence : Said
wrong_sequence = row Unread (codes "NotASignatureFile") (codes "a SubSequence has no Sequence or several")

abbrev pub long_registry : Said
long_registry = row Unread (codes "LongRegistry") (codes "the registry would have more than 16,777,216 bytes")

abbrev pub signature_file_itself : Said
signature_file_itself = row Failed (codes "Output") (codes "this is the signature file itself: choose another place")

abbrev pub registry_refused : Said
registry_refused =
    row Failed (codes "Output")
    (codes "cannot be created: is its folder there and yours to write, and the disk not full?")

-- ---- faults of identify

abbrev pub no_such_format : Said
no_such_format =
    row Unread (codes "Format") (codes "the registry has no such format: check the PUID, or name another registry")

-- ---- faults of verify

abbrev pub list_missing : Said
list_missing = row Unread (codes "Open") (codes "no such file: check the path after --against")

abbrev pub list_unopened : Said
list_unopened = row Unread (codes "Open") []

abbrev pub list_of_nothing : Said
list_of_nothing =
    row Unread (codes "List") (codes "it names no file: name the CSV of a profile, or a list of checksums")

abbrev pub list_line : Said
list_line =
    gapped Unread (codes "List") (codes "line ")
    (codes " is malformed: name the CSV of a profile, or a list of checksums")

abbrev pub list_outside : Said
list_outside =
    gapped Unread (codes "List") (codes "line ")
    (codes " names no file below the folder: name the CSV of a profile, or a list of checksums")

abbrev pub list_digest : Said
list_digest =
    gapped Unread (codes "List") (codes "line ")
    (codes " has a digest of another kind than the lines before it: name the CSV of a profile, or a list of checksums")

abbrev pub has_hashes : Said
has_hashes = row Unread (codes "Hashes") (codes "has hashes: leave out --sizes-only, and they are compared")

abbrev pub no_formats : Said
no_formats =
    row Unread (codes "Formats")
    (codes "a list of checksums has no formats: name the CSV of a profile, or leave out --identify")

abbrev pub listed_twice : Said
listed_twice = row Failed (codes "Twice") (codes "a name is listed twice: did it change meanwhile? Try again")

-- ---- faults of submit

abbrev pub lies_in_the_folder : Said
lies_in_the_folder =
    row Failed (codes "Output")
    (codes "lies in the folder that is submitted, and would change it: choose another place")

abbrev pub output_unwritten : Said
output_unwritten = row Failed (codes "Write") (codes "could not be written: is the disk full?")

abbrev pub nobody_listens : Said
nobody_listens = row Failed (codes "Socket") (codes ", or wait longer by --wait")

abbrev pub unconnected : Said
unconnected = row Failed (codes "Socket") (codes "cannot be connected to: ")

abbrev pub walk_mistake : Said
walk_mistake = row Failed (codes "Reply") (codes "this is a mistake in droid_desk")

abbrev pub new_folders : Said
new_folders = row Failed (codes "Folders") (codes "new folders appeared while it was read: run the same command again")

abbrev pub entries : Said
entries =
    row Failed (codes "Entries: there are more than 100,000 folders and files")
    (codes "more than 100,000 folders and files: submit its subfolders one by one")

abbrev pub bytes : Said
bytes =
    row Failed (codes "Bytes")
    (codes "the total size of its files is too large a number: submit its subfolders one by one")

abbrev pub long_request : Said
long_request = row Failed (codes "TooLong") (codes "a request is too long: this is a mistake in droid_desk")

abbrev pub strange_reply : Said
strange_reply =
    row Failed (codes "Reply")
    (codes "a reply came that does not fit its request: this is a mistake in droid_desk or in the service")

abbrev pub memory_somewhere : Said
memory_somewhere =
    row Failed (codes "Memory") (codes "out of memory, here or in the service: run the same command again to resume")

abbrev pub broken : Said
broken =
    gapped Failed (codes "Broken") (codes "the connection broke and could not be made again within ")
    (codes " seconds: run the same command again to resume")

abbrev pub stranger : Said
stranger =
    row Failed (codes "Stranger")
    (codes "what came is not a reply to the request: is droid_desk serve listening there?")

abbrev pub restarted : Said
restarted =
    row Failed (codes "Restarted")
    (codes "the service has lost what was sent, so it was restarted: run the same command again, it starts anew")

abbrev pub busy : Said
busy =
    gapped Failed (codes "Busy") (codes "64 files are unfinished there, and no place came free within ")
    (codes " seconds: finish or abandon some, or wait longer by --wait")

abbrev pub other_options : Said
other_options =
    gapped Failed (codes "Options") (codes "this submission was begun ") (codes ": give the same, or another --name")

abbrev pub long_export : Said
long_export =
    gapped Failed (codes "TooLong") (codes "the profile's CSV has ")
    (codes " bytes, more than the 1073741824 that submit reads: submit its subfolders one by one")

abbrev pub disturbed : Said
disturbed =
    row Failed (codes "Disturbed") (codes
    "other clients sent requests between the parts of the CSV, a hundred times: run the same command again later")

abbrev pub wrong_export : Said
wrong_export =
    gapped Failed (codes "Reply") (codes "the CSV that came is not that of a profile: record ")
    (codes ": this is a mistake in droid_desk or in the service")

abbrev pub full_service : Said
full_service =
    row Failed (codes "Profiles")
    (codes "the service has 64 profiles and takes no more: start another service on another port")

abbrev pub number_reused : Said
number_reused =
    row Failed (codes "NumberReused")
    (codes "this client has used the number of a request for another one: give another --client")

abbrev pub no_such_profile : Said
no_such_profile = row Failed (codes "NoSuchProfile") lost

abbrev pub no_such_node : Said
no_such_node = row Failed (codes "NoSuchNode") lost

abbrev pub not_a_folder_there : Said
not_a_folder_there = row Failed (codes "NotAFolder") lost

abbrev pub not_a_file_there : Said
not_a_file_there = row Failed (codes "NotAFile") lost

abbrev pub incomplete : Said
incomplete = row Failed (codes "Incomplete") lost_pieces

abbrev pub too_far_ahead : Said
too_far_ahead = row Failed (codes "TooFarAhead") lost_pieces

abbrev pub store_failed : Said
store_failed =
    row Failed (codes "Store")
    (codes "the service's store failed: run the same command again, or start the service anew")

abbrev pub service_memory : Said
service_memory =
    row Failed (codes "Memory") (codes "the service is out of memory: run the same command again to resume")

abbrev pub malformed : Said
malformed = row Failed (codes "Malformed") must_take

abbrev pub bad_name : Said
bad_name = row Failed (codes "BadName") must_take

abbrev pub path_too_long : Said
path_too_long = row Failed (codes "PathTooLong") must_take

abbrev pub name_taken : Said
name_taken = row Failed (codes "NameTaken") must_take

abbrev pub bad_option : Said
bad_option = row Failed (codes "BadOption") must_take

abbrev pub too_large : Said
too_large = row Failed (codes "TooLarge") must_take

abbrev pub already_finished : Said
already_finished = row Failed (codes "AlreadyFinished") must_take

abbrev pub bad_piece : Said
bad_piece = row Failed (codes "BadPiece") must_take

abbrev pub piece_held : Said
piece_held = row Failed (codes "PieceHeld") must_take

abbrev pub nodes : Said
nodes = row Failed (codes "Nodes") must_take

abbrev pub unfinished : Said
unfinished = row Failed (codes "Busy") must_take

-- ---- faults of script, run, serve, send and compact

abbrev pub registry_long : Said
registry_long = row Unread (codes "TooLong") (codes "more than 16,777,216 bytes: is it a registry file?")

abbrev pub registry_memory : Said
registry_memory = row Unread (codes "Memory") no_memory

abbrev pub registry_missing : Said
registry_missing = row Unread (codes "Read") (codes "no such file: check the path after --registry")

abbrev pub registry_denied : Said
registry_denied = row Unread (codes "Read") (codes "permission denied: make the file readable")

abbrev pub registry_is_a_folder : Said
registry_is_a_folder = row Unread (codes "Read") (codes "a folder: name the registry file in it")

abbrev pub registry_unopened : Said
registry_unopened = row Unread (codes "Read") []

abbrev pub not_utf8 : Said
not_utf8 =
    gapped Unread (codes "NotUtf8") (codes "record ") (codes ": a field is not UTF-8 text: save the file as UTF-8")

abbrev pub bad_record : Said
bad_record =
    gapped Unread (codes "BadRecord") (codes "record ")
    (codes ": expected six fields, the first of them F, E, S, B or P: is it a registry file?")

abbrev pub bad_pattern : Said
bad_pattern =
    gapped Unread (codes "BadPattern") (codes "record ")
    (codes ": the last field is not a pattern: expected one as 25504446")

abbrev pub unknown_puid : Said
unknown_puid =
    gapped Unread (codes "UnknownPuid") (codes "record ")
    (codes ": expected an identifier that an F record above gives")

abbrev pub duplicate_puid : Said
duplicate_puid =
    gapped Unread (codes "DuplicatePuid") (codes "record ")
    (codes ": an F record above has this identifier: each may stand once")

abbrev pub too_many_of_a_kind : Said
too_many_of_a_kind =
    gapped Unread (codes "TooMany") (codes "record ")
    (codes ": one more of its kind than a registry may have: shorten it")

abbrev pub service_without_memory : Said
service_without_memory = row Unmade (codes "Memory") no_memory

abbrev pub service_refused : Said
service_refused = row Unmade (codes "Store") (codes "the database refused its tables: this is a mistake in droid_desk")

abbrev pub input_too_long : Said
input_too_long =
    row Failed (codes "TooLong") (codes "standard input has more than 67,108,864 bytes: use serve and send")

abbrev pub input_unread : Said
input_unread = row Failed (codes "Read") (codes "standard input could not be read")

abbrev pub output_stopped : Said
output_stopped =
    row Failed (codes "Write") (codes "standard output could not be written: is the disk full, or its reader gone?")

abbrev pub frame_truncated : Said
frame_truncated = row Failed (codes "Truncated") (codes "standard input ends inside a frame")

abbrev pub frame_version : Said
frame_version =
    row Failed (codes "BadVersion")
    (codes "a frame begins with another byte than 1 or 2: is standard input a stream of frames?")

abbrev pub frame_too_long : Said
frame_too_long =
    row Failed (codes "TooLong") (codes "the body of a frame is longer than its version allows: send smaller pieces")

abbrev pub sent_numbers : Said
sent_numbers = row Failed (codes "NumbersUsedUp") (codes "no number is left: use another --client")

abbrev pub sent_broken : Said
sent_broken = row Failed (codes "Write") (codes "the connection broke: send the same lines again to resume")

abbrev pub sent_closed : Said
sent_closed =
    row Failed (codes "Closed")
    (codes "the service closed the connection: start it again with more --connections, if it has ended")

abbrev pub reply_truncated : Said
reply_truncated = row Failed (codes "Truncated") no_reply

abbrev pub reply_version : Said
reply_version = row Failed (codes "BadVersion") no_reply

abbrev pub reply_too_long : Said
reply_too_long = row Failed (codes "TooLong") no_reply

abbrev pub reply_memory : Said
reply_memory = row Failed (codes "Memory") no_reply

abbrev pub reply_unread : Said
reply_unread = row Failed (codes "Read") no_reply

abbrev pub sent_malformed : Said
sent_malformed = row Failed (codes "Malformed") strange

abbrev pub sent_stranger : Said
sent_stranger = row Failed (codes "Stranger") strange

abbrev pub sent_repeated : Said
sent_repeated = row Failed (codes "Repeated") strange

abbrev pub port_in_use : Said
port_in_use =
    gapped Failed (codes "Socket") (codes "port ")
    (codes " is in use: choose another, or stop the program that listens on it")

abbrev pub port_unheard : Said
port_unheard = row Failed (codes "Socket") []

abbrev pub port_denied : Said
port_denied = row Failed (codes "Socket") (codes "permission denied: choose a port above 1023")

abbrev pub port_unusable : Said
port_unusable = row Failed (codes "Socket") []

abbrev pub port_stopped : Said
port_stopped = row Failed (codes "Socket") (codes "no connection could be accepted: start the service again")

abbrev pub journal_in_use : Said
journal_in_use = row Failed (codes "Journal in use") (codes "another droid_desk has this journal open: stop it first")

abbrev pub journal_no_file : Said
journal_no_file =
    row Failed (codes "Journal")
    (codes "this is a folder, a link or a device: name a file, or a path where nothing is yet")

abbrev pub journal_unopened : Said
journal_unopened =
    gapped Failed (codes "Journal") (codes "could not be opened (")
    (codes "): check the path, and whether you may write in its folder")

abbrev pub journal_other : Said
journal_other =
    gapped Unread (codes "Journal")
    (codes "not a journal of this registry and this version of droid_desk, or damaged at its beginning: ")
    (codes "name the registry of its first start, restore a copy, or name a new file")

abbrev pub journal_reply : Said
journal_reply =
    gapped Unread (codes "Journal") (codes "the reply in record ")
    (codes " is not the one that its request gets: restore a copy of the file")

abbrev pub journal_damaged : Said
journal_damaged = gapped Unread (codes "Journal") (codes "damaged after record ") (codes ": restore a copy of the file")

abbrev pub journal_memory : Said
journal_memory =
    row Failed (codes "Memory") (codes "out of memory: close other programs, or allow this one more, and start again")

abbrev pub journal_unread : Said
journal_unread = row Failed (codes "Journal") (codes "could not be read: check the disk")

abbrev pub journal_unwritten : Said
journal_unwritten =
    row Failed (codes "Journal")
    (codes "could not be written, so nothing more is answered: is the disk full? Make room, and start again")

abbrev pub journal_not_smaller : Said
journal_not_smaller = gapped Failed (codes "Journal") [] (codes " is as it was")

abbrev pub smaller_unwritten : Said
smaller_unwritten =
    gapped Failed (codes "Journal") (codes "could not be written: is the disk full? ") (codes " is as it was")

abbrev pub not_exchanged : Said
not_exchanged =
    row Failed (codes "Journal")
    (codes "has all its records, but the smaller journal could not be synced or renamed: try again")
