-- Worlds in which the bytes of some files are not there (this project's own). A journal that was made small keeps the
-- pieces of such a file without their bytes: the file is bare.
use Rattle.std.specs.Prelude.{◌≡◌, ℕ, suc, ℤ, if◌then◌else◌, Bool, true, false, List, [], ◌∷◌, Some}
use Rattle.droid_frame.specs.declared.request.Request.{Request}
use Rattle.droid_frame.specs.declared.request.Request.TheVariants.{Piece, Finish}
use Rattle.droid_core_spec.specs.Judging.{Verdict, Accepted, Answered, Refuses}
use Rattle.droid_core_spec.specs.World.{Content, Node, Folder, File, Abandoned, Profile, World, numbered}

-- whether a file is bare, by the number of its profile and its own
abbrev pub Bare : Type 0
Bare = ℕ → ℕ → Bool

-- each item changed by its place, counted from 0
abbrev pub by_place : {A : Type 0} → (ℕ → A → A) → List A → List A
by_place change [] = []
by_place change (x ∷ xs) = change 0 x ∷ by_place (λ place. change (suc place)) xs

-- each item changed by its number, counted from 1
abbrev pub by_number : {A : Type 0} → (ℕ → A → A) → List A → List A
by_number change xs = by_place (λ place. change (suc place)) xs

-- a bare file has no piece before it is finished
abbrev pub bare_content : Bool → Content → Content
bare_content true content = if content.finished then content else record content { pieces = [] }
bare_content false content = content

-- the node, without its bytes if it is a bare file
abbrev pub bare_node : Bool → Node → Node
bare_node bare (Folder parent modified name) = Folder parent modified name
bare_node bare (File parent modified name content) = File parent modified name (bare_content bare content)
bare_node bare Abandoned = Abandoned

-- the nodes of a profile, of which those with these numbers are bare
abbrev pub bare_nodes : (ℕ → Bool) → List Node → List Node
bare_nodes bare nodes = by_number (λ id. bare_node (bare id)) nodes

-- the profile with such nodes
abbrev pub bare_profile : (ℕ → Bool) → Profile → Profile
bare_profile bare profile = record profile { nodes = bare_nodes bare profile.nodes }

-- the world with every bare file as it is without its bytes
abbrev pub bare_world : Bare → World → World
bare_world bare world = record world { profiles = by_number (λ number. bare_profile (bare number)) world.profiles }

-- a verdict, with that world after an accepted command
abbrev pub bare_verdict : Bare → Verdict → Verdict
bare_verdict bare (Accepted reply after) = Accepted reply (bare_world bare after)
bare_verdict bare (Answered reply) = Answered reply
bare_verdict bare (Refuses refusal) = Refuses refusal

-- a piece or the end of a bare file: what cannot be judged without the bytes
abbrev pub needs_bytes : Bare → Request → Bool
needs_bytes bare (Piece profile file index bytes) = bare profile file
needs_bytes bare (Finish profile file) = bare profile file
needs_bytes bare _ = false

-- each bare file of the world is finished or abandoned
abbrev pub HaveEnded : Bare → World → Type 0
HaveEnded bare world =
    (profile id parent : ℕ) (modified : ℤ) (name : List ℕ) (content : Content) (its : Profile)
    → numbered world.profiles profile ≡ Some its → numbered its.nodes id ≡ Some (File parent modified name content)
    → bare profile id ≡ true → content.finished ≡ true
