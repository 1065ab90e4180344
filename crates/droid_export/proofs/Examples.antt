-- Rows worked by hand, computed in the definitions.
use Rattle.std.proofs.Common.{◌≡◌, [], ◌∷◌, length, true, refl, codes, pos, negsuc}
use Rattle.droid_frame.specs.declared.hash_kind.HashKind.TheVariants as hashes
use Rattle.droid_frame.specs.declared.node_kind.NodeKind.TheVariants.{File, Folder}
use Rattle.droid_pronom.specs.Registry.{nothing}
use Rattle.droid_export.specs.Civil.{day_after, day_before, days_after, days_before}
use Rattle.droid_export.specs.Csv.{quoted, joined, line}
use Rattle.droid_export.specs.Moments.{moment_text}
use Rattle.droid_export.specs.Text.{text}
use Rattle.droid_export.specs.Uris.{uri}

the_epoch : moment_text (pos 0) ≡ codes "1970-01-01T00:00:00"
unfolding moment_text days_after
the_epoch = refl

the_second_before : moment_text (negsuc 0) ≡ codes "1969-12-31T23:59:59"
unfolding moment_text days_before day_before
the_second_before = refl

-- 31 + 28 days later
the_first_of_march : moment_text (pos 5097600) ≡ codes "1970-03-01T00:00:00"
unfolding moment_text days_after day_after
the_first_of_march = refl

a_folder : uri (codes "/in") Folder ≡ codes "file:/in/"
unfolding uri
a_folder = refl

a_space_and_a_percent_sign : uri (codes "/a c%.txt") File ≡ codes "file:/a%20c%25.txt"
unfolding uri
a_space_and_a_percent_sign = refl

-- an e with an acute accent
outside_ascii : uri (47 ∷ 195 ∷ 169 ∷ []) File ≡ codes "file:/%C3%A9"
unfolding uri
outside_ascii = refl

-- the names of the columns and the line feed
header_without_a_hash : length (text nothing (record { all = true; criteria = [] }) hashes.Nothing []) ≡ 189
unfolding text line joined quoted
header_without_a_hash = refl

header_with_md5 : length (text nothing (record { all = true; criteria = [] }) hashes.Md5 []) ≡ 193
unfolding text line joined quoted
header_with_md5 = refl

header_with_sha256 : length (text nothing (record { all = true; criteria = [] }) hashes.Sha256 []) ≡ 196
unfolding text line joined quoted
header_with_sha256 = refl
