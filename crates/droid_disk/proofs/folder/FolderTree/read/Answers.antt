use Rattle.std.proofs.Common.{◌∙◌, ◌++◌, inr, ℕ, List, get_or, ap, refl, subst}
use Rattle.droid_disk.specs.FolderObservation.{EndsOther, ReadFails, ReadsAt}
use Rattle.droid_disk.proofs.FileReads.{ends_other, reached_there, read_fails, reads_at}
use Rattle.droid_disk.proofs.folder.FolderTree.read.Goals as goal

pub returns-in-Ok-clause-came : goal.returns-in-Ok-clause-came
returns-in-Ok-clause-came g c =
    let path = c.as_str-top.result.now ++ c.args.path.now in
    let files = c.args.self.now.open.items in
    let files_now = c.place_for.new.files.items in
    let files_after = c.close_ended.new.files.items in
    let file = c.index-as_slice-place.result in
    let disk_after = c.read_on.new.disk in
    let read = c.in-Ok.ensures.read in
    let is = c.index-as_slice-place.is ∙ ap (λ (l : List g.row.D-File.Denot). get_or l c.in_ok-place.place file) c.as_slice.ensures.value in
    let reached = reached_there g.D.Disk.says g.D.Disk.path_of g.D.Disk.metadata_of path c.args.entry.now c.args.from c.args.wanted files files_now files_after file c.args.self.now.disk c.place_for.new.disk disk_after
    c.in_ok-place.place c.in_ok-place.ensures.within c.in_ok-place.ensures.reached is in
    let reads = reads_at g.D.Disk.says g.D.Disk.path_of g.D.Disk.metadata_of path c.args.entry.now c.args.from c.args.wanted files files_now files_after file c.args.self.now.disk c.place_for.new.disk disk_after
    c.args.bytes.now.items c.read_on.new.bytes.items c.in-Ok.ended reached read c.close_ended.ensures in
    record {
      bytes = read.bytes;
      added = read.added;
      within = read.within;
      observed = (
        subst (λ (top : List ℕ). ReadsAt g.D.Disk.says g.D.Disk.path_of g.D.Disk.metadata_of (top ++ c.args.path.now) c.args.entry.now c.args.from c.args.wanted read.bytes files files_after c.args.self.now.disk disk_after)
            c.as_str-top.ensures.value reads,
        refl,
        c.read_on.ensures.left,
      );
    }

pub returns-in-Err-clause-unread : goal.returns-in-Err-clause-unread
returns-in-Err-clause-unread g c = λ unreadable.
    let path = c.as_str-top.result.now ++ c.args.path.now in
    let files = c.args.self.now.open.items in
    let files_now = c.place_for.new.files.items in
    let files_after = c.close.new.files.items in
    let file = c.index-as_slice-place.result in
    let disk_after = c.read_on.new.disk in
    let is = c.index-as_slice-place.is ∙ ap (λ (l : List g.row.D-File.Denot). get_or l c.in_ok-place.place file) c.as_slice.ensures.value in
    let reached = reached_there g.D.Disk.says g.D.Disk.path_of g.D.Disk.metadata_of path c.args.entry.now c.args.from c.args.wanted files files_now files_after file c.args.self.now.disk c.place_for.new.disk disk_after
    c.in_ok-place.place c.in_ok-place.ensures.within c.in_ok-place.ensures.reached is in
    let fails = read_fails g.D.Disk.says g.D.Disk.path_of g.D.Disk.metadata_of path c.args.entry.now c.args.from c.args.wanted files files_now files_after file c.args.self.now.disk c.place_for.new.disk disk_after
    reached (c.in-Err.ensures.failed unreadable) c.close.ensures in (
      inr (subst (λ (top : List ℕ). ReadFails g.D.Disk.says g.D.Disk.path_of g.D.Disk.metadata_of (top ++ c.args.path.now) c.args.entry.now c.args.from c.args.wanted files files_after c.args.self.now.disk disk_after)
          c.as_str-top.ensures.value fails),
      refl,
      c.read_on.ensures.left,
    )

pub returns-in-Err-clause-exchanged : goal.returns-in-Err-clause-exchanged
returns-in-Err-clause-exchanged g c = λ changed.
    let path = c.as_str-top.result.now ++ c.args.path.now in
    let files = c.args.self.now.open.items in
    let files_now = c.place_for.new.files.items in
    let files_after = c.close.new.files.items in
    let file = c.index-as_slice-place.result in
    let disk_after = c.read_on.new.disk in
    let is = c.index-as_slice-place.is ∙ ap (λ (l : List g.row.D-File.Denot). get_or l c.in_ok-place.place file) c.as_slice.ensures.value in
    let reached = reached_there g.D.Disk.says g.D.Disk.path_of g.D.Disk.metadata_of path c.args.entry.now c.args.from c.args.wanted files files_now files_after file c.args.self.now.disk c.place_for.new.disk disk_after
    c.in_ok-place.place c.in_ok-place.ensures.within c.in_ok-place.ensures.reached is in
    let ends = ends_other g.D.Disk.says g.D.Disk.path_of g.D.Disk.metadata_of path c.args.entry.now c.args.from c.args.wanted files files_now files_after file c.args.self.now.disk c.place_for.new.disk disk_after
    reached (c.in-Err.ensures.other changed) c.close.ensures in (
      inr (subst (λ (top : List ℕ). EndsOther g.D.Disk.says g.D.Disk.path_of g.D.Disk.metadata_of (top ++ c.args.path.now) c.args.entry.now c.args.from c.args.wanted files files_after c.args.self.now.disk disk_after)
          c.as_str-top.ensures.value ends),
      refl,
      c.read_on.ensures.left,
    )
