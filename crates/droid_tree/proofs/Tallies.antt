-- Counting, one entry and one folder after the other.
use Rattle.std.proofs.Common.{◌≡◌, ◌⊎◌, ℕ, ◌+◌, ◌<◌, ◌≤◌, cond, List, [], ◌∷◌, ◌++◌, Some, None, length, map, take, sum_by, refl, sym, ap, subst, ◌∙◌, arith, get_or, append_assoc, append-nil}
use Rattle.std.specs.Prelude.{IsPermutation, IsUtf8}
use Rattle.std.specs.List.{flat_map, count_by, AllByRecursion}
use Rattle.std.proofs.lemmas.List.{map-append, take_more, take_all}
use Rattle.std.proofs.lemmas.List.Elements.{All-nil}
use Rattle.std.proofs.lemmas.List.Sums.{sum_by-append}
use Rattle.droid_tree.specs.Counts.{Item, AFolder, AFile, NoNode, Adds, CountedFolder, IsItem, IsCounted, CountsItem, CountsItems, CountsFolder, CountsTooMany, CountsTree, bytes_in, entry_in, folders_in, is_file, is_folder, is_no_node, is_unread, items_in, path_of_item, paths_of, observed_of_counted, repeated_in}
use Rattle.droid_tree.specs.Kinds.{IsNoNode}
use Rattle.droid_tree.specs.Listings.{AreInOrder, AreRepeated, HasNameOf, ListsInOrder}
use Rattle.droid_tree.specs.Observation.{Observation, Unlisted, GoesOver}
use Rattle.droid_tree.specs.Paths.{below}
use Rattle.droid_tree.specs.declared.tree_size.Counted.{Counted}
use Rattle.droid_tree.specs.declared.folder_entry.FolderEntry.{FolderEntry}
use Rattle.droid_tree.specs.declared.folder_entry.EntryKind.TheVariants as kinds
use Rattle.droid_tree.specs.declared.skip_reason.Skipped.{Skipped}
use Rattle.droid_tree.specs.declared.skip_reason.Skipped.TheVariants as reasons
use Rattle.droid_tree.specs.declared.pending_folder.PendingFolder.{PendingFolder}
use Rattle.droid_tree.proofs.Runs.{given_more, over_one, over_more, all_more}

one_sum : {A : Type 0} (f : A → ℕ) (xs : List A) (x : A) → sum_by f (xs ++ x ∷ []) ≡ sum_by f xs + f x
one_sum f xs x = sum_by-append f xs (x ∷ []) ∙ omega arith

-- ---- an entry

module _ (path : List ℕ) (entry : FolderEntry) (before after : Counted) (waiting : List PendingFolder) where
  pub counts_none : (¬ (IsUtf8 entry.name)) ⊎ IsNoNode entry.kind → after ≡ record before { skipped = before.skipped + 1 } → CountsItem path entry before after waiting waiting
  counts_none is added = record {
    item = NoNode entry;
    its = refl;
    is_item = is;
    adds = record {
      folders = ap (λ (c : Counted). c.folders) added ∙ omega arith;
      files = ap (λ (c : Counted). c.files) added ∙ omega arith;
      bytes = ap (λ (c : Counted). c.bytes) added ∙ omega arith;
      skipped = ap (λ (c : Counted). c.skipped) added ∙ omega arith;
    };
    pending = sym (append-nil (paths_of waiting));
  }

  pub counts_file : IsUtf8 entry.name → entry.kind ≡ kinds.File → after ≡ record before { files = before.files + 1; bytes = before.bytes + entry.len } → CountsItem path entry before after waiting waiting
  counts_file text is added = record {
    item = AFile entry;
    its = refl;
    is_item = (text, is);
    adds = record {
      folders = ap (λ (c : Counted). c.folders) added ∙ omega arith;
      files = ap (λ (c : Counted). c.files) added ∙ omega arith;
      bytes = ap (λ (c : Counted). c.bytes) added ∙ omega arith;
      skipped = ap (λ (c : Counted). c.skipped) added ∙ omega arith;
    };
    pending = sym (append-nil (paths_of waiting));
  }

  pub counts_folder : (at : List ℕ) (waiting_after : List PendingFolder) → IsUtf8 entry.name → entry.kind ≡ kinds.Folder → after ≡ record before { folders = before.folders + 1 }
      → at ≡ below path entry.name → waiting_after ≡ waiting ++ record { path = at; number = 0 } ∷ [] → CountsItem path entry before after waiting waiting_after
  counts_folder at waiting_after text is added here pushed = record {
    item = AFolder entry;
    its = refl;
    is_item = (text, is);
    adds = record {
      folders = ap (λ (c : Counted). c.folders) added ∙ omega arith;
      files = ap (λ (c : Counted). c.files) added ∙ omega arith;
      bytes = ap (λ (c : Counted). c.bytes) added ∙ omega arith;
      skipped = ap (λ (c : Counted). c.skipped) added ∙ omega arith;
    };
    pending = ap paths_of pushed ∙ (map-append (λ (p : PendingFolder). p.path) waiting (record { path = at; number = 0 } ∷ []) ∙ ap (λ (p : List ℕ). paths_of waiting ++ p ∷ []) here);
  }

-- ---- entries

adds_more : (items : List Item) (item : Item) (before now after : Counted) → Adds items before now → Adds (item ∷ []) now after → Adds (items ++ item ∷ []) before after
adds_more items item before now after front next = record {
  folders = omega (arith, front.folders, next.folders, sum_by-append (λ (i : Item). cond (is_folder i) 1 0) items (item ∷ []));
  files = omega (arith, front.files, next.files, sum_by-append (λ (i : Item). cond (is_file i) 1 0) items (item ∷ []));
  bytes = omega (arith, front.bytes, next.bytes, sum_by-append bytes_in items (item ∷ []));
  skipped = omega (arith, front.skipped, next.skipped, sum_by-append (λ (i : Item). cond (is_no_node i) 1 0) items (item ∷ []));
}

module _ (path : List ℕ) where
  pub none_counted : (before : Counted) (waiting : List PendingFolder) → CountsItems path [] before before waiting waiting
  none_counted before waiting = record {
    items = [];
    its = refl;
    are_items = tt;
    adds = record { folders = omega arith; files = omega arith; bytes = omega arith; skipped = omega arith };
    pending = sym (append-nil (paths_of waiting));
  }

  pub entries_more : (entries : List FolderEntry) (at : ℕ) (entry : FolderEntry) (before now after : Counted) (waiting waiting_now waiting_after : List PendingFolder)
      → CountsItems path (take at entries) before now waiting waiting_now → CountsItem path entry now after waiting_now waiting_after
      → at < length entries → entry ≡ get_or entries at entry → CountsItems path (take (at + 1) entries) before after waiting waiting_after
  entries_more entries at entry before now after waiting waiting_now waiting_after front next within there =
      let one_more : take (at + 1) entries ≡ take at entries ++ entry ∷ [] = take_more entries at entry within ∙ ap (λ (e : FolderEntry). take at entries ++ e ∷ []) (sym there) in
      record {
        items = front.items ++ next.item ∷ [];
        its = map-append entry_in front.items (next.item ∷ []) ∙ (ap (λ (l : List FolderEntry). l ++ entry_in next.item ∷ []) front.its ∙ (ap (λ (e : FolderEntry). take at entries ++ e ∷ []) next.its ∙ sym one_more));
        are_items = all_more IsItem front.items next.item front.are_items next.is_item;
        adds = adds_more front.items next.item before now after front.adds next.adds;
        pending = next.pending ∙ (ap (λ (l : List (List ℕ)). l ++ path_of_item path next.item) front.pending
            ∙ (append_assoc (paths_of waiting) (flat_map (path_of_item path) front.items) (path_of_item path next.item) ∙ ap (λ (l : List (List ℕ)). paths_of waiting ++ l) (sym (given_more (path_of_item path) front.items next.item))));
      }

  pub entries_all : (entries : List FolderEntry) (at : ℕ) (before now : Counted) (waiting waiting_now : List PendingFolder)
      → CountsItems path (take at entries) before now waiting waiting_now → length entries ≤ at → CountsItems path entries before now waiting waiting_now
  entries_all entries at before now waiting waiting_now front all = subst (λ (l : List FolderEntry). CountsItems path l before now waiting waiting_now) (take_all at entries all) front

-- ---- a folder

module _ {T : Type 0} (observes : T → Observation → T → Type 0) where
  module _ (path : List ℕ) (before after : Counted) (tree tree_after : T) (waiting waiting_after : List PendingFolder) where
    pub counts_listed : (at : List ℕ) (entries found repeated : List FolderEntry) (count : ℕ) (now : Counted) → at ≡ path → ListsInOrder observes at found repeated tree tree_after → entries ≡ found
        → count ≡ length repeated → now ≡ record before { skipped = before.skipped + count } → CountsItems path entries now after waiting waiting_after
        → CountsFolder observes path before after tree tree_after waiting waiting_after
    counts_listed at entries found repeated count now here lists same all left counted =
        let are : found ≡ map entry_in counted.items = sym (counted.its ∙ same) in
        record {
          listing = record { path = at; observed = Some lists.listed; items = counted.items; repeated = repeated };
          its = here;
          is_listing = record {
            same = subst (λ (l : List FolderEntry). IsPermutation lists.listed (l ++ repeated)) are lists.same;
            in_order = subst AreInOrder are lists.in_order;
            are_repeated = subst (λ (l : List FolderEntry). AreRepeated l repeated) are lists.are_repeated;
            items = counted.are_items;
          };
          observed = lists.observed;
          folders = counted.adds.folders ∙ ap (λ (c : Counted). c.folders + count_by is_folder counted.items) left;
          files = counted.adds.files ∙ ap (λ (c : Counted). c.files + count_by is_file counted.items) left;
          bytes = counted.adds.bytes ∙ ap (λ (c : Counted). c.bytes + sum_by bytes_in counted.items) left;
          skipped = omega (arith, counted.adds.skipped, ap (λ (c : Counted). c.skipped) left, all);
          pending = counted.pending ∙ ap (λ (p : List ℕ). paths_of waiting ++ flat_map (path_of_item p) counted.items) (sym here);
        }

    pub counts_unread : (at : List ℕ) (why : Skipped) → at ≡ path → (why ≡ reasons.Unreadable) × observes tree (Unlisted at) tree_after → after ≡ record before { skipped = before.skipped + 1 } → waiting_after ≡ waiting
        → CountsFolder observes path before after tree tree_after waiting waiting_after
    counts_unread at why here unread added still = record {
      listing = record { path = at; observed = None; items = []; repeated = [] };
      its = here;
      is_listing = record { same = (refl, refl); in_order = λ k first second one two. absurd cc; are_repeated = All-nil (HasNameOf []); items = tt };
      observed = unread.1;
      folders = ap (λ (c : Counted). c.folders) added ∙ omega arith;
      files = ap (λ (c : Counted). c.files) added ∙ omega arith;
      bytes = ap (λ (c : Counted). c.bytes) added ∙ omega arith;
      skipped = ap (λ (c : Counted). c.skipped) added ∙ omega arith;
      pending = ap paths_of still ∙ sym (append-nil (paths_of waiting));
    }

  -- the listings so far, and the folders that are still to be listed
  pub record CountingTree (counted : Counted) (waiting : List PendingFolder) (tree tree_now : T) : Type 0 where
    pub listings : List CountedFolder
    pub are : AllByRecursion IsCounted listings
    pub observed : GoesOver observes tree (map observed_of_counted listings) tree_now
    pub places : map (λ listing. listing.path) listings ++ paths_of waiting ≡ [] ∷ flat_map folders_in listings
    pub folders : counted.folders ≡ count_by is_folder (items_in listings)
    pub files : counted.files ≡ count_by is_file (items_in listings)
    pub bytes : counted.bytes ≡ sum_by bytes_in (items_in listings)
    pub skipped : counted.skipped ≡ count_by is_no_node (items_in listings) + (repeated_in listings + count_by is_unread listings)

  items_more : (f : Item → ℕ) (listings : List CountedFolder) (listing : CountedFolder) → sum_by f (items_in (listings ++ listing ∷ [])) ≡ sum_by f (items_in listings) + sum_by f listing.items
  items_more f listings listing = ap (sum_by f) (given_more (λ (l : CountedFolder). l.items) listings listing) ∙ sum_by-append f (items_in listings) listing.items

  pub count_begun : (counted : Counted) (waiting : List PendingFolder) (top : PendingFolder) (tree : T) → waiting ≡ top ∷ [] → top.path ≡ [] → counted.folders ≡ 0 → counted.files ≡ 0 → counted.bytes ≡ 0 → counted.skipped ≡ 0
      → CountingTree counted waiting tree tree
  count_begun counted waiting top tree only here folders files bytes skipped =
      record { listings = []; are = tt; observed = refl; places = ap paths_of only ∙ ap (λ (p : List ℕ). p ∷ []) here; folders = folders; files = files; bytes = bytes; skipped = skipped }

  pub count_more : (folder : PendingFolder) (before after : Counted) (waiting left waiting_after : List PendingFolder) (tree tree_now tree_after : T)
      → CountingTree before waiting tree tree_now → waiting ≡ folder ∷ left → CountsFolder observes folder.path before after tree_now tree_after left waiting_after
      → CountingTree after waiting_after tree tree_after
  count_more folder before after waiting left waiting_after tree tree_now tree_after front popped next =
      let here : List (List ℕ) = map (λ (l : CountedFolder). l.path) front.listings in
      let found : List (List ℕ) = folders_in next.listing in
      let pushed : map (λ (l : CountedFolder). l.path) (front.listings ++ next.listing ∷ []) ≡ here ++ folder.path ∷ [] =
      map-append (λ (l : CountedFolder). l.path) front.listings (next.listing ∷ []) ∙ ap (λ (p : List ℕ). here ++ p ∷ []) next.its in
      let regrouped : (here ++ folder.path ∷ []) ++ (paths_of left ++ found) ≡ (here ++ (folder.path ∷ paths_of left)) ++ found =
      append_assoc here (folder.path ∷ []) (paths_of left ++ found) ∙ sym (append_assoc here (folder.path ∷ paths_of left) found) in
      record {
        listings = front.listings ++ next.listing ∷ [];
        are = all_more IsCounted front.listings next.listing front.are next.is_listing;
        observed = subst (λ (l : List Observation). GoesOver observes tree l tree_after) (sym (map-append observed_of_counted front.listings (next.listing ∷ [])))
            (over_more observes tree tree_now tree_after (map observed_of_counted front.listings) (observed_of_counted next.listing ∷ []) front.observed (over_one observes tree_now tree_after _ next.observed));
        places = ap (λ (l : List (List ℕ)). map (λ (l : CountedFolder). l.path) (front.listings ++ next.listing ∷ []) ++ l) next.pending
            ∙ (ap (λ (l : List (List ℕ)). l ++ (paths_of left ++ found)) pushed
            ∙ (regrouped
            ∙ (ap (λ (l : List PendingFolder). (here ++ paths_of l) ++ found) (sym popped)
            ∙ (ap (λ (l : List (List ℕ)). l ++ found) front.places
            ∙ ap (λ (l : List (List ℕ)). [] ∷ l) (sym (given_more folders_in front.listings next.listing))))));
        folders = omega (arith, front.folders, next.folders, items_more (λ (i : Item). cond (is_folder i) 1 0) front.listings next.listing);
        files = omega (arith, front.files, next.files, items_more (λ (i : Item). cond (is_file i) 1 0) front.listings next.listing);
        bytes = omega (arith, front.bytes, next.bytes, items_more bytes_in front.listings next.listing);
        skipped = omega (arith, front.skipped, next.skipped, items_more (λ (i : Item). cond (is_no_node i) 1 0) front.listings next.listing, one_sum (λ (l : CountedFolder). length l.repeated) front.listings next.listing, sum_by-append (λ (l : CountedFolder). cond (is_unread l) 1 0) front.listings (next.listing ∷ []));
      }

  pub count_too_many : (counted : Counted) (waiting : List PendingFolder) (tree tree_now : T) (limit : ℕ) → CountingTree counted waiting tree tree_now → limit < counted.folders + counted.files → CountsTooMany observes limit tree tree_now
  count_too_many counted waiting tree tree_now limit front more = record {
    listings = front.listings;
    are = front.are;
    observed = front.observed;
    unlisted = paths_of waiting;
    each_folder = front.places;
    too_many = omega (arith, more, front.folders, front.files);
  }

  pub count_done : (counted : Counted) (waiting : List PendingFolder) (tree tree_now : T) → CountingTree counted waiting tree tree_now → waiting ≡ [] → CountsTree observes counted tree tree_now
  count_done counted waiting tree tree_now front none = record {
    listings = front.listings;
    are = front.are;
    observed = front.observed;
    each_folder = sym (append-nil (map (λ (l : CountedFolder). l.path) front.listings)) ∙ (ap (λ (l : List PendingFolder). map (λ (l : CountedFolder). l.path) front.listings ++ paths_of l) (sym none) ∙ front.places);
    folders = front.folders;
    files = front.files;
    bytes = front.bytes;
    skipped = front.skipped;
  }
