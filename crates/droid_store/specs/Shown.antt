-- The columns of a row that look-ups return.
use Rattle.std.specs.Prelude.{[], ◌∷◌}
use Rattle.sqlite.specs.declared.types.Value.TheVariants.{Int, Text, Blob}
use Rattle.sqlite.specs.Order.{Row}
use Rattle.droid_frame.specs.Hashes.{hash_kind_number}
use Rattle.droid_store.specs.declared.rows.Entry.{Entry}
use Rattle.droid_store.specs.declared.rows.ProfileRow.{ProfileRow}
use Rattle.droid_frame.specs.Fields.{method_number}
use Rattle.droid_store.specs.Encoded.{number, flag, state_number, joined}
use Rattle.droid_store.specs.Rows.{Node}

-- the columns of a profile
abbrev pub shown_profile : ProfileRow → Row
shown_profile p = number p.scan_limit ∷ flag p.match_all ∷ number p.nodes ∷ number (hash_kind_number p.hash) ∷ []

-- the columns of a node
abbrev pub shown_node : Node → Row
shown_node n =
    number n.id
    ∷ number n.parent
    ∷ Int n.modified
    ∷ number (state_number n.state)
    ∷ number n.size
    ∷ number n.piece_size
    ∷ number (method_number n.method)
    ∷ flag n.mismatch
    ∷ Text n.name
    ∷ Text n.path
    ∷ Text (joined n.puids)
    ∷ Blob n.hash
    ∷ []

-- the number of a node alone
abbrev pub shown_id : Node → Row
shown_id n = number n.id ∷ []

-- the columns of a reply
abbrev pub shown_reply : Entry → Row
shown_reply e = number e.version ∷ number e.kind ∷ Blob e.mark ∷ Blob e.body ∷ []
