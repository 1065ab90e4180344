-- The records of the nodes of one folder's entries.
use Rattle.std.proofs.Common.{◌≡◌, ℕ, suc, ◌+◌, Bool, true, false, cond, List, [], ◌∷◌, ◌++◌, length, Option, Some, None, length-append, refl, sym, ap, subst, ◌∙◌, append_assoc, arith}
use Rattle.std.specs.List.{AllByRecursion}
use Rattle.droid_core_spec.specs.Records.{option_list, record_of, records_from}
use Rattle.droid_core_spec.specs.Setting.{Setting, Identification}
use Rattle.droid_core_spec.specs.World.{Node, Folder, Abandoned, Profile, path, path_among, paths}
use Rattle.droid_frame.specs.declared.record.Record.{Record}
use Rattle.droid_frame.specs.Hashes.{hash}
use Rattle.droid_frame.specs.declared.node_kind.NodeKind.TheVariants as kinds
use Rattle.droid_pronom.specs.Registry.{Contents}
use Rattle.droid_tree.specs.Paths.{below}
use Rattle.droid_tree.specs.declared.folder_entry.FolderEntry.{FolderEntry}
use Rattle.droid_tree.specs.declared.pending_folder.PendingFolder.{PendingFolder}
use Rattle.droid_profile.specs.Kids.{Kid, Subfolder, AFile, ClosedFolder, AnotherKind, NoText, RefusedEntry, found_of, numbers_in, subfolders_of_kid}
use Rattle.droid_profile.specs.ProfileNodes.{AreNodesOfKid, Identifies, IsFileOf, IsNodeOfFile, profile_with}
use Rattle.droid_profile.specs.ProfileRecords.{file_record, folder_record, records_of_file, records_of_kid}
use Rattle.droid_profile.specs.Readings.{Reading, Ending, AtEnd, TooShort, TooLong, NoneCame, OtherFile, NotYet, bytes_of, is_whole}
use Rattle.droid_profile.specs.Visits.{Follow}
use Rattle.droid_profile.specs.declared.options.Options.{Options}
use Rattle.droid_profile.proofs.NodePaths.{Grows, Known, path_next, path_stays, with_paths}

where_it_holds : (b : Bool) (shown : Option Record) → b ≡ true → cond b shown None ≡ shown
where_it_holds true shown is = refl
where_it_holds false shown is = absurd cc

-- the records of nodes after others
pub records_append : (setting : Setting) (profile : Profile) (id : ℕ) (xs ys : List Node) → records_from setting profile id (xs ++ ys) ≡ records_from setting profile id xs ++ records_from setting profile (id + length xs) ys
records_append setting profile id [] ys =
    let e : id ≡ id + 0 = omega arith in ap (λ (k : ℕ). records_from setting profile k ys) e
records_append setting profile id (x ∷ xs) ys =
    let e : (id + 1) + length xs ≡ id + suc (length xs) = omega arith in
    let own : List Record = option_list (record_of setting profile id x) in
    ap (λ (l : List Record). own ++ l) (records_append setting profile (id + 1) xs ys ∙ ap (λ (k : ℕ). records_from setting profile (id + 1) xs ++ records_from setting profile k ys) e)
    ∙ sym (append_assoc own (records_from setting profile (id + 1) xs) (records_from setting profile (id + suc (length xs)) ys))

abbrev pub whole : Options → List Node → Profile
whole options nodes = profile_with options nodes

-- one more path
one_more : (paths : List (List ℕ)) (path : List ℕ) → length (paths ++ path ∷ []) ≡ length paths + 1
one_more paths path = length-append paths (path ∷ [])

module _ (registry : Contents) (setting : Setting) (options : Options) (identifies : Identifies registry setting) (nodes : List Node) where
  -- ---- one node

  folder_shown : (folder : PendingFolder) (entry : FolderEntry) (id : ℕ) → path nodes id ≡ below folder.path entry.name
      → record_of setting (whole options nodes) id (Folder folder.number entry.modified entry.name) ≡ Some (folder_record folder entry id)
  folder_shown folder entry id its = ap (λ (l : List ℕ). Some (record (folder_record folder entry id) { path = l })) its

  file_shown : (folder : PendingFolder) (entry : FolderEntry) (id : ℕ) (bytes : List ℕ) (node : Node) → path nodes id ≡ below folder.path entry.name → IsFileOf folder.number entry bytes node
      → record_of setting (whole options nodes) id node ≡ Some (file_record options folder entry id bytes (found_of registry options entry bytes))
  file_shown folder entry id bytes node its is =
      let plain : List ℕ → ℕ → List ℕ → Identification → Option Record = λ at size content found.
      Some (record { id = id; parent = folder.number; path = at; name = entry.name; kind = kinds.File; size = size; modified = entry.modified; method = found.method; mismatch = found.mismatch; hash = hash options.hash content; puids = found.puids }) in
      let identified : List ℕ → Identification = λ content. setting.identify entry.name content options.scan_limit options.match_all in
      ap (record_of setting (whole options nodes) id) is.its
      ∙ (where_it_holds is.content.finished _ is.finished
      ∙ (ap (λ (l : List ℕ). plain (path nodes id) is.content.size l (identified l)) is.bytes
      ∙ (ap (λ (n : ℕ). plain (path nodes id) n bytes (identified bytes)) is.size
      ∙ (ap (λ (l : List ℕ). plain l entry.len bytes (identified bytes)) its
      ∙ ap (λ (found : Identification). plain (below folder.path entry.name) entry.len bytes found) (identifies entry.name bytes options.scan_limit options.match_all)))))

  -- ---- one entry

  -- the entry's nodes give its record; then its path is there too
  pub record ShowsKid (folder : PendingFolder) (kid : Kid) (its : List Node) (before after : List (List ℕ)) (more : List ℕ) : Type 0 where
    pub shown : records_from setting (whole options nodes) (length before + 1) its ≡ records_of_kid registry options folder kid
    pub known : AllByRecursion (Known after) (subfolders_of_kid folder.path kid)
    pub counted : length after ≡ length before + length its
    pub follow : Follow (length after) more

  module _ (folder : PendingFolder) (before : List (List ℕ)) (known : Known before folder) (more : List ℕ) where
    abbrev its_path : FolderEntry → List ℕ
    its_path entry = path_among before folder.number ++ 47 ∷ entry.name

    path_is : (entry : FolderEntry) → its_path entry ≡ below folder.path entry.name
    path_is entry = ap (λ (l : List ℕ). l ++ 47 ∷ entry.name) known.its

    -- the path of a node that comes next
    here : (entry : FolderEntry) → Grows (before ++ its_path entry ∷ []) (paths nodes) → path nodes (length before + 1) ≡ below folder.path entry.name
    here entry all =
        path_stays (before ++ its_path entry ∷ []) (paths nodes) (length before + 1) all (omega (arith, one_more before (its_path entry)))
        ∙ (path_next before (its_path entry) [] (length before + 1) refl ∙ path_is entry)

    follow_one : (path : List ℕ) (number : ℕ) → number ≡ length before + 1 → Follow number more → Follow (length (before ++ path ∷ [])) more
    follow_one path number is follow = subst (λ (k : ℕ). Follow k more) (is ∙ sym (one_more before path)) follow

    subfolder_shown : (entry : FolderEntry) (number : ℕ) → Follow (length before) (number ∷ more) → Grows (before ++ its_path entry ∷ []) (paths nodes)
        → ShowsKid folder (Subfolder entry number) (Folder folder.number entry.modified entry.name ∷ []) before (before ++ its_path entry ∷ []) more
    subfolder_shown entry number follow all =
        let at : length before + 1 ≡ number = sym follow.0 in
        record {
          shown = ap (λ (o : Option Record). option_list o ++ []) (folder_shown folder entry (length before + 1) (here entry all) ∙ ap (λ (k : ℕ). Some (folder_record folder entry k)) at);
          known = (
            record {
              there = omega (arith, follow.0, one_more before (its_path entry));
              its = path_next before (its_path entry) [] number follow.0 ∙ path_is entry;
            },
            tt,
          );
          counted = one_more before (its_path entry);
          follow = follow_one (its_path entry) number follow.0 follow.1;
        }

    whole_shown : (entry : FolderEntry) (number : ℕ) (reading : Reading) (wanted : ℕ) (bytes : List ℕ) (node : Node) → reading.ending ≡ AtEnd wanted bytes → IsFileOf folder.number entry (bytes_of reading) node
        → Follow (length before) (number ∷ more) → Grows (with_paths before (node ∷ [])) (paths nodes)
        → ShowsKid folder (AFile entry number reading) (node ∷ []) before (with_paths before (node ∷ [])) more
    whole_shown entry number reading wanted bytes node ends is follow all =
        let same : with_paths before (node ∷ []) ≡ before ++ its_path entry ∷ [] = ap (λ (n : Node). with_paths before (n ∷ [])) is.its in
        let there : Grows (before ++ its_path entry ∷ []) (paths nodes) = subst (λ (l : List (List ℕ)). Grows l (paths nodes)) same all in
        let at : length before + 1 ≡ number = sym follow.0 in
        let as_record : ℕ → Record = λ k. file_record options folder entry k (bytes_of reading) (found_of registry options entry (bytes_of reading)) in
        record {
          shown = ap (λ (o : Option Record). option_list o ++ []) (file_shown folder entry (length before + 1) (bytes_of reading) node (here entry there) is ∙ ap (λ (k : ℕ). Some (as_record k)) at)
              ∙ sym (ap (records_of_file registry options folder entry number reading) ends);
          known = tt;
          counted = ap length same ∙ one_more before (its_path entry);
          follow = subst (λ (l : List (List ℕ)). Follow (length l) more) (sym same) (follow_one (its_path entry) number follow.0 follow.1);
        }

    dropped_shown : (entry : FolderEntry) (number : ℕ) (reading : Reading) (node : Node) → records_of_file registry options folder entry number reading reading.ending ≡ [] → node ≡ Abandoned
        → Follow (length before) (number ∷ more) → ShowsKid folder (AFile entry number reading) (node ∷ []) before (with_paths before (node ∷ [])) more
    dropped_shown entry number reading node none is follow =
        let same : with_paths before (node ∷ []) ≡ before ++ [] ∷ [] = ap (λ (n : Node). with_paths before (n ∷ [])) is in
        record {
          shown = ap (λ (n : Node). records_from setting (whole options nodes) (length before + 1) (n ∷ [])) is ∙ sym none;
          known = tt;
          counted = ap length same ∙ one_more before [];
          follow = subst (λ (l : List (List ℕ)). Follow (length l) more) (sym same) (follow_one [] number follow.0 follow.1);
        }

    file_kid_shown : (entry : FolderEntry) (number : ℕ) (reading : Reading) (ending : Ending) (node : Node) → reading.ending ≡ ending → IsNodeOfFile (is_whole ending) folder.number entry (bytes_of reading) node
        → Follow (length before) (number ∷ more) → Grows (with_paths before (node ∷ [])) (paths nodes)
        → ShowsKid folder (AFile entry number reading) (node ∷ []) before (with_paths before (node ∷ [])) more
    file_kid_shown entry number reading (AtEnd wanted bytes) node ends is follow all = whole_shown entry number reading wanted bytes node ends is follow all
    file_kid_shown entry number reading (TooShort wanted bytes) node ends is follow all = dropped_shown entry number reading node (ap (records_of_file registry options folder entry number reading) ends) is follow
    file_kid_shown entry number reading (TooLong wanted bytes) node ends is follow all = dropped_shown entry number reading node (ap (records_of_file registry options folder entry number reading) ends) is follow
    file_kid_shown entry number reading (NoneCame wanted) node ends is follow all = dropped_shown entry number reading node (ap (records_of_file registry options folder entry number reading) ends) is follow
    file_kid_shown entry number reading (OtherFile wanted) node ends is follow all = dropped_shown entry number reading node (ap (records_of_file registry options folder entry number reading) ends) is follow
    file_kid_shown entry number reading NotYet node ends is follow all = dropped_shown entry number reading node (ap (records_of_file registry options folder entry number reading) ends) is follow

    nothing_shown : (kid : Kid) (its : List Node) → its ≡ [] → records_of_kid registry options folder kid ≡ [] → subfolders_of_kid folder.path kid ≡ [] → Follow (length before) more → ShowsKid folder kid its before (with_paths before its) more
    nothing_shown kid its none no_record no_folder follow =
        let same : with_paths before its ≡ before = ap (with_paths before) none in
        record {
          shown = ap (records_from setting (whole options nodes) (length before + 1)) none ∙ sym no_record;
          known = subst (λ (l : List PendingFolder). AllByRecursion (Known (with_paths before its)) l) (sym no_folder) tt;
          counted = omega (arith, ap length same, ap length none);
          follow = subst (λ (l : List (List ℕ)). Follow (length l) more) (sym same) follow;
        }

    pub kid_shown : (kid : Kid) (its : List Node) → AreNodesOfKid folder.number kid its → Follow (length before) (numbers_in kid ++ more) → Grows (with_paths before its) (paths nodes)
        → ShowsKid folder kid its before (with_paths before its) more
    kid_shown (Subfolder entry number) its are follow all =
        subst (λ (l : List Node). ShowsKid folder (Subfolder entry number) l before (with_paths before l) more) (sym are)
        (subfolder_shown entry number follow (subst (λ (l : List Node). Grows (with_paths before l) (paths nodes)) are all))
    kid_shown (AFile entry number reading) its are follow all =
        subst (λ (l : List Node). ShowsKid folder (AFile entry number reading) l before (with_paths before l) more) (sym are.1)
        (file_kid_shown entry number reading reading.ending are.0 refl are.2 follow (subst (λ (l : List Node). Grows (with_paths before l) (paths nodes)) are.1 all))
    kid_shown (ClosedFolder entry) its are follow all = nothing_shown (ClosedFolder entry) its are refl refl follow
    kid_shown (AnotherKind entry) its are follow all = nothing_shown (AnotherKind entry) its are refl refl follow
    kid_shown (NoText entry) its are follow all = nothing_shown (NoText entry) its are refl refl follow
    kid_shown (RefusedEntry entry refusal) its are follow all = nothing_shown (RefusedEntry entry refusal) its are refl refl follow
