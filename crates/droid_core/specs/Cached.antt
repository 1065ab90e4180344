-- How many replies a service caches, which ones, and whether it keeps the text of an export (this project's own).
use Rattle.std.specs.Prelude.{ℕ, Bool, length}
use Rattle.droid_frame.specs.declared.filter.Filter.{Filter}
use Rattle.droid_core.specs.KeptTexts.{IsFor}
use Rattle.droid_core.specs.Recent.{is_cached_in}
use Rattle.droid_core.specs.declared.service.Service.{Service}

-- the most replies that the service caches
abbrev pub cache_size_of : Service → ℕ
cache_size_of service = service.recent.rows.cap

-- how many replies it caches
abbrev pub cached_in : Service → ℕ
cached_in service = length service.recent.rows.entries

-- whether it caches the reply to the request of this client under this number
abbrev pub caches : Service → ℕ → ℕ → Bool
caches service client number = is_cached_in service.recent.rows.entries client number

-- it keeps the text of an export of this profile by this filter
abbrev pub KeepsText : ℕ → Filter → Service → Type 0
KeepsText profile filter service = IsFor profile filter service.last
