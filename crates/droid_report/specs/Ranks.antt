-- Groups of rows, the greatest first.
use Rattle.std.specs.Prelude.{ℕ, ◌+◌, ◌-◌, ◌^◌, Bool, nat_le, List, filter, map, String, string_bytes, IsPermutation}
use Rattle.std.specs.Prelude.{IsSortedByKey}
use Rattle.std.specs.List.{sum_by}
use Rattle.std.specs.List.Sorted.{IsStableByKey}
use Rattle.std.specs.Ordering.{nat_cmp}
use Rattle.std.specs.declared.alloc.Global.{Global}
use Rattle.droid_report.specs.declared.groups.GroupSum.{GroupSum}
use Rattle.droid_report.specs.Totals.{held}
use Rattle.droid_report.specs.declared.ranks.Group.{Group}
use Rattle.droid_report.specs.declared.ranks.GroupsTotal.{GroupsTotal}

-- a group without where it lies in memory
pub record Ranked : Type 0 where
  pub key : List ℕ
  pub label : List ℕ
  pub count : ℕ
  pub bytes : ℕ
  pub saved : ℕ

-- a group, seen so
abbrev pub group_seen : Group → Ranked
group_seen group = record {
  key = group.key.now;
  label = group.label.now;
  count = group.count;
  bytes = group.bytes;
  saved = group.saved;
}

-- the group of an entry of a table: what is saved is the sum without the first
abbrev pub group_in : String Global × GroupSum → Ranked
group_in entry =
    record {
      key = string_bytes entry.0;
      label = string_bytes entry.1.label;
      count = entry.1.count;
      bytes = entry.1.bytes;
      saved = entry.1.bytes - entry.1.first_size;
    }

-- whether an entry has at least this many rows
abbrev pub has_at_least : ℕ → String Global × GroupSum → Bool
has_at_least least entry = nat_le least entry.1.count

-- the groups of at least this many rows
abbrev pub groups_in : ℕ → List (String Global × GroupSum) → List Ranked
groups_in least entries = map group_in (filter (has_at_least least) entries)

-- what groups come to together
abbrev pub together : List Group → GroupsTotal
together groups =
    record {
      count = held (sum_by (λ group. group.count) groups);
      bytes = held (sum_by (λ group. group.bytes) groups);
      saved = held (sum_by (λ group. group.saved) groups);
    }

-- smaller for a greater number
abbrev pub behind : ℕ → ℕ
behind n = 2 ^ 64 - 1 - n

-- the key that puts the group with the most rows first
abbrev pub by_count : Group → ℕ
by_count group = behind group.count

-- the key that puts the group with the most bytes first
abbrev pub by_bytes : Group → ℕ
by_bytes group = behind group.bytes

-- the key that puts the group first whose copies take the most bytes
abbrev pub by_saved : Group → ℕ
by_saved group = behind group.saved

-- the same groups, those with the least key first; groups with equal keys stay in their order
pub record AreRanked (key : Group → ℕ) (groups ranked : List Group) : Type 0 where
  pub same : IsPermutation groups ranked
  pub in_order : IsSortedByKey key nat_cmp ranked
  pub ties : IsStableByKey key nat_cmp groups ranked

-- ---- for inner clauses and proofs: one group more

-- what groups come to with one more
abbrev pub with_group : GroupsTotal → Group → GroupsTotal
with_group sum group = record {
  count = held (sum.count + group.count);
  bytes = held (sum.bytes + group.bytes);
  saved = held (sum.saved + group.saved);
}
