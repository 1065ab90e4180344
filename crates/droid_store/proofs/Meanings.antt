-- What the statements mean.
use Rattle.std.proofs.Common.{◌≡◌, ℕ, List, [], ◌∷◌, codes, pos, false, Ok, refl}
use Rattle.sqlite.specs.declared.types.Value.TheVariants.{Null, Int, Text, Blob}
use Rattle.sqlite.specs.Term.{Term, lit, col}
use Rattle.sqlite.specs.Query.{Query}
use Rattle.sqlite.specs.Source.TheVariants.{Values}
use Rattle.sqlite.specs.Command.TheVariants.{Insert, Select, Update, Delete, CreateTable}
use Rattle.sqlite.specs.Compile.{table_defined_by}
use Rattle.sqlite_tied.specs.Compute.{everything}
use Rattle.sqlite.specs.Listing.{understood, reads_listing}
use Rattle.sqlite.proofs.Callers.{IsPlain, command_of, statement_of}
use Rattle.droid_store.specs.Queries.{select, equals, differs, rising_by}
use Rattle.droid_store.specs.MemoryFaults.{IsWhole}
use Rattle.droid_store.specs.declared.statements.TheConstants.{MAKE_PROFILES, MAKE_NODES, MAKE_REPLIES, ADD_PROFILE, ADD_NODE, ADD_REPLY, COUNT_NODES, FINISH_NODE, REMOVE_NODE, FIND_PROFILE, FIND_NODE, FIND_CHILD, FIND_REPLY, LIST_RECORDS}
use Rattle.droid_store.specs.Tables.{profiles, nodes, replies, no_schema, first_schema, second_schema, store_schema}

-- ---- the tables

pub profiles_is : (command_of (understood no_schema MAKE_PROFILES.now) ≡ CreateTable) × (statement_of MAKE_PROFILES.now (understood no_schema MAKE_PROFILES.now) ≡ MAKE_PROFILES.now) × (table_defined_by MAKE_PROFILES.now ≡ Ok profiles)
unfolding understood everything
profiles_is = (refl, refl, refl)

pub profiles_plain : IsPlain (understood no_schema MAKE_PROFILES.now)
unfolding understood everything
profiles_plain = (refl, refl)

pub nodes_is : (command_of (understood first_schema MAKE_NODES.now) ≡ CreateTable) × (statement_of MAKE_NODES.now (understood first_schema MAKE_NODES.now) ≡ MAKE_NODES.now) × (table_defined_by MAKE_NODES.now ≡ Ok nodes)
unfolding understood everything
nodes_is = (refl, refl, refl)

pub nodes_plain : IsPlain (understood first_schema MAKE_NODES.now)
unfolding understood everything
nodes_plain = (refl, refl)

pub replies_is : (command_of (understood second_schema MAKE_REPLIES.now) ≡ CreateTable) × (statement_of MAKE_REPLIES.now (understood second_schema MAKE_REPLIES.now) ≡ MAKE_REPLIES.now) × (table_defined_by MAKE_REPLIES.now ≡ Ok replies)
unfolding understood everything
replies_is = (refl, refl, refl)

pub replies_plain : IsPlain (understood second_schema MAKE_REPLIES.now)
unfolding understood everything
replies_plain = (refl, refl)

-- ---- inserts

abbrev pub profile_terms : List Term
profile_terms = col 0 0 ∷ lit Null ∷ col 0 1 ∷ col 0 2 ∷ lit (Int (pos 0)) ∷ col 0 3 ∷ []

pub add_profile_is : command_of (understood store_schema ADD_PROFILE.now) ≡ Insert 0 (Values profile_terms 6)
unfolding understood everything
add_profile_is = refl

pub add_profile_plain : IsPlain (understood store_schema ADD_PROFILE.now)
unfolding understood everything
add_profile_plain = (refl, refl)

abbrev pub node_terms : List Term
node_terms =
    lit Null ∷ col 0 0 ∷ col 0 1 ∷ col 0 2 ∷ col 0 3 ∷ col 0 4 ∷ col 0 5 ∷ col 0 6 ∷ lit (Int (pos 0)) ∷ lit (Int (pos 0)) ∷ col 0 7 ∷ col 0 8 ∷ lit (Text [])
    ∷ lit (Blob []) ∷ []

pub add_node_is : command_of (understood store_schema ADD_NODE.now) ≡ Insert 1 (Values node_terms 14)
unfolding understood everything
add_node_is = refl

pub add_node_plain : IsPlain (understood store_schema ADD_NODE.now)
unfolding understood everything
add_node_plain = (refl, refl)

abbrev pub reply_terms : List Term
reply_terms = lit Null ∷ lit Null ∷ col 0 0 ∷ col 0 1 ∷ col 0 2 ∷ col 0 3 ∷ col 0 4 ∷ col 0 5 ∷ []

pub add_reply_is : command_of (understood store_schema ADD_REPLY.now) ≡ Insert 2 (Values reply_terms 8)
unfolding understood everything
add_reply_is = refl

pub add_reply_plain : IsPlain (understood store_schema ADD_REPLY.now)
unfolding understood everything
add_reply_plain = (refl, refl)

-- ---- changes by number

abbrev pub by_id : List Term
by_id = equals (col 1 0) (col 0 0) ∷ []

abbrev pub by_number : List Term
by_number = equals (col 1 1) (col 0 0) ∷ equals (col 1 2) (col 0 1) ∷ []

abbrev pub count_columns : List Term
count_columns = col 1 0 ∷ col 1 0 ∷ lit Null ∷ col 1 2 ∷ col 1 3 ∷ col 0 1 ∷ col 1 5 ∷ []

abbrev pub count_query : Query
count_query = select 0 by_id count_columns []

pub count_is : command_of (understood store_schema COUNT_NODES.now) ≡ Update 0 (record { lets = []; body = count_query })
unfolding understood everything
count_is = refl

pub count_plain : IsPlain (understood store_schema COUNT_NODES.now)
unfolding understood everything
count_plain = (refl, refl)

abbrev pub finished_columns : List Term
finished_columns =
    col 1 0 ∷ col 1 0 ∷ col 1 1 ∷ col 1 2 ∷ col 1 3 ∷ col 1 4 ∷ lit (Int (pos 2)) ∷ col 1 6 ∷ col 1 7 ∷ col 0 2 ∷ col 0 3 ∷ col 1 10 ∷ col 1 11 ∷ col 0 4 ∷ col 0 5 ∷ []

abbrev pub finish_query : Query
finish_query = select 1 by_number finished_columns []

pub finish_is : command_of (understood store_schema FINISH_NODE.now) ≡ Update 1 (record { lets = []; body = finish_query })
unfolding understood everything
finish_is = refl

pub finish_plain : IsPlain (understood store_schema FINISH_NODE.now)
unfolding understood everything
finish_plain = (refl, refl)

abbrev pub remove_query : Query
remove_query = select 1 by_number (col 1 0 ∷ []) []

pub remove_is : command_of (understood store_schema REMOVE_NODE.now) ≡ Delete 1 (record { lets = []; body = remove_query })
unfolding understood everything
remove_is = refl

pub remove_plain : IsPlain (understood store_schema REMOVE_NODE.now)
unfolding understood everything
remove_plain = (refl, refl)

-- ---- look-ups

abbrev pub find_profile_query : Query
find_profile_query = select 0 by_id (col 1 2 ∷ col 1 3 ∷ col 1 4 ∷ col 1 5 ∷ []) []

pub find_profile_is : (command_of (understood store_schema FIND_PROFILE.now) ≡ Select (record { lets = []; body = find_profile_query }) (codes "scan_limit" ∷ codes "match_all" ∷ codes "nodes" ∷ codes "hash" ∷ [])) × (reads_listing store_schema FIND_PROFILE.now ≡ false)
unfolding understood everything
find_profile_is = (refl, refl)

pub find_profile_plain : IsPlain (understood store_schema FIND_PROFILE.now)
unfolding understood everything
find_profile_plain = (refl, refl)

abbrev pub node_columns : List Term
node_columns = col 1 2 ∷ col 1 3 ∷ col 1 4 ∷ col 1 5 ∷ col 1 6 ∷ col 1 7 ∷ col 1 8 ∷ col 1 9 ∷ col 1 10 ∷ col 1 11 ∷ col 1 12 ∷ col 1 13 ∷ []

abbrev pub node_names : List (List ℕ)
node_names =
    codes "id" ∷ codes "parent" ∷ codes "modified" ∷ codes "state" ∷ codes "size" ∷ codes "piece_size" ∷ codes "method" ∷ codes "mismatch" ∷ codes "name" ∷ codes "path" ∷ codes "formats" ∷ codes "hash" ∷ []

abbrev pub find_node_query : Query
find_node_query = select 1 by_number node_columns []

pub find_node_is : (command_of (understood store_schema FIND_NODE.now) ≡ Select (record { lets = []; body = find_node_query }) node_names) × (reads_listing store_schema FIND_NODE.now ≡ false)
unfolding understood everything
find_node_is = (refl, refl)

pub find_node_plain : IsPlain (understood store_schema FIND_NODE.now)
unfolding understood everything
find_node_plain = (refl, refl)

abbrev pub by_name : List Term
by_name = equals (col 1 1) (col 0 0) ∷ equals (col 1 3) (col 0 1) ∷ equals (col 1 10) (col 0 2) ∷ []

abbrev pub find_child_query : Query
find_child_query = select 1 by_name (col 1 2 ∷ []) []

pub find_child_is : (command_of (understood store_schema FIND_CHILD.now) ≡ Select (record { lets = []; body = find_child_query }) (codes "id" ∷ [])) × (reads_listing store_schema FIND_CHILD.now ≡ false)
unfolding understood everything
find_child_is = (refl, refl)

pub find_child_plain : IsPlain (understood store_schema FIND_CHILD.now)
unfolding understood everything
find_child_plain = (refl, refl)

abbrev pub by_sender : List Term
by_sender = equals (col 1 2) (col 0 0) ∷ equals (col 1 3) (col 0 1) ∷ []

abbrev pub find_reply_query : Query
find_reply_query = select 4 by_sender (col 1 4 ∷ col 1 5 ∷ col 1 6 ∷ col 1 7 ∷ []) []

pub find_reply_is : (command_of (understood store_schema FIND_REPLY.now) ≡ Select (record { lets = []; body = find_reply_query }) (codes "version" ∷ codes "kind" ∷ codes "mark" ∷ codes "body" ∷ [])) × (reads_listing store_schema FIND_REPLY.now ≡ false)
unfolding understood everything
find_reply_is = (refl, refl)

pub find_reply_plain : IsPlain (understood store_schema FIND_REPLY.now)
unfolding understood everything
find_reply_plain = (refl, refl)

abbrev pub listed : List Term
listed = equals (col 1 1) (col 0 0) ∷ differs (col 1 5) (lit (Int (pos 1))) ∷ []

abbrev pub records_query : Query
records_query = select 1 listed node_columns (rising_by (col 1 2))

pub records_is : (command_of (understood store_schema LIST_RECORDS.now) ≡ Select (record { lets = []; body = records_query }) node_names) × (reads_listing store_schema LIST_RECORDS.now ≡ false)
unfolding understood everything
records_is = (refl, refl)

pub records_plain : IsPlain (understood store_schema LIST_RECORDS.now)
unfolding understood everything
records_plain = (refl, refl)

-- ---- each text is one statement to its end, and has its number of parameters

pub profiles_whole : IsWhole MAKE_PROFILES.now 0 (understood no_schema MAKE_PROFILES.now)
unfolding understood everything
profiles_whole = (refl, refl)

pub nodes_whole : IsWhole MAKE_NODES.now 0 (understood first_schema MAKE_NODES.now)
unfolding understood everything
nodes_whole = (refl, refl)

pub replies_whole : IsWhole MAKE_REPLIES.now 0 (understood second_schema MAKE_REPLIES.now)
unfolding understood everything
replies_whole = (refl, refl)

pub add_profile_whole : IsWhole ADD_PROFILE.now 4 (understood store_schema ADD_PROFILE.now)
unfolding understood everything
add_profile_whole = (refl, refl)

pub add_node_whole : IsWhole ADD_NODE.now 9 (understood store_schema ADD_NODE.now)
unfolding understood everything
add_node_whole = (refl, refl)

pub add_reply_whole : IsWhole ADD_REPLY.now 6 (understood store_schema ADD_REPLY.now)
unfolding understood everything
add_reply_whole = (refl, refl)

pub count_whole : IsWhole COUNT_NODES.now 2 (understood store_schema COUNT_NODES.now)
unfolding understood everything
count_whole = (refl, refl)

pub finish_whole : IsWhole FINISH_NODE.now 6 (understood store_schema FINISH_NODE.now)
unfolding understood everything
finish_whole = (refl, refl)

pub remove_whole : IsWhole REMOVE_NODE.now 2 (understood store_schema REMOVE_NODE.now)
unfolding understood everything
remove_whole = (refl, refl)

pub find_profile_whole : IsWhole FIND_PROFILE.now 1 (understood store_schema FIND_PROFILE.now)
unfolding understood everything
find_profile_whole = (refl, refl)

pub find_node_whole : IsWhole FIND_NODE.now 2 (understood store_schema FIND_NODE.now)
unfolding understood everything
find_node_whole = (refl, refl)

pub find_child_whole : IsWhole FIND_CHILD.now 3 (understood store_schema FIND_CHILD.now)
unfolding understood everything
find_child_whole = (refl, refl)

pub find_reply_whole : IsWhole FIND_REPLY.now 2 (understood store_schema FIND_REPLY.now)
unfolding understood everything
find_reply_whole = (refl, refl)

pub records_whole : IsWhole LIST_RECORDS.now 1 (understood store_schema LIST_RECORDS.now)
unfolding understood everything
records_whole = (refl, refl)
