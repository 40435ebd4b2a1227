-- Up to which places objects may only be in states that they may be in before, and what grants for certain still does.
use Rattle.std.specs.Prelude.{◌+◌, ◌<◌, ◌≡◌, ◌≤◌, ◌⊎◌, ℕ, Bool, false, ◌&&◌, nat_le, nat_lt, List, Option, Some, None, Contains, if◌then◌else◌}
use Rattle.base_types.specs.declared.kubernetes.key.ObjectKey.{ObjectKey}
use Rattle.clouds.specs.Clouds.{IsClouded}
use Rattle.rbac_timeline.specs.declared.lasting.Until.{Until}
use Rattle.rbac_timeline.specs.declared.version.RbacEnd.{RbacEnd}
use Rattle.rbac_timeline.specs.declared.version.RbacVersion.{RbacVersion}
use Rattle.rbac_timeline.specs.Known.{Known, writes_of}
use Rattle.rbac_timeline.specs.Searched.{lesser_number}
use Rattle.rbac_timeline.specs.States.{IsEndOf, IsLatestVersion}

-- It holds at each place from one up to another, and may hold behind that. A search that goes on behind it asks for no
-- more.
pub record HoldsUpTo (holds : ℕ → Type 0) (place high reached : ℕ) : Type 0 where
  pub from : place ≤ reached
  pub upto : reached ≤ high
  pub throughout : (n : ℕ) → place ≤ n → n ≤ reached → holds n

-- up to the last place: it is the end of the range, or right behind it it doesn't hold
pub record IsLast (holds : ℕ → Type 0) (place high last : ℕ) : Type 0 where
  pub holds_upto : HoldsUpTo holds place high last
  pub behind : (last ≡ high) ⊎ (holds (last + 1) → ⊥)

-- each version of the key above the first place is above the second
abbrev pub NoneBegins : List RbacVersion → ObjectKey → ℕ → ℕ → Type 0
NoneBegins versions key place n = (version : RbacVersion) → Contains versions version → version.key ≡ key → place < version.revision → n < version.revision

-- an object that is there for certain at the first place hasn't been removed at the second
abbrev pub NoneRemoved : Known → ObjectKey → ℕ → ℕ → Type 0
NoneRemoved known key place n = (version : RbacVersion) (end : RbacEnd) → IsLatestVersion known.versions key place version → IsEndOf known.ends version end → place < end.low → n < end.low

-- it isn't clouded behind the first place, up to the second
abbrev pub NoneClouded : Known → ObjectKey → ℕ → ℕ → Type 0
NoneClouded known key place n = (m : ℕ) → place < m → m ≤ n → IsClouded (writes_of known) key m → ⊥

pub record IsStill (known : Known) (key : ObjectKey) (place n : ℕ) : Type 0 where
  pub none_begins : NoneBegins known.versions key place n
  pub none_removed : NoneRemoved known key place n
  pub none_clouded : NoneClouded known key place n

-- it holds at all pairs of places from two up to those of `until`
pub record HoldsUntil (holds : ℕ → ℕ → Type 0) (first second high : ℕ) (until : Until) : Type 0 where
  pub first_from : first ≤ until.first
  pub first_upto : until.first ≤ high
  pub second_from : second ≤ until.second
  pub second_upto : until.second ≤ high
  pub throughout : (a b : ℕ) → first ≤ a → a ≤ until.first → second ≤ b → b ≤ until.second → holds a b

-- until where it holds, or it doesn't hold at these two places
abbrev pub LastsUntil : (ℕ → ℕ → Type 0) → ℕ → ℕ → ℕ → Option Until → Type 0
LastsUntil holds first second high None = holds first second → ⊥
LastsUntil holds first second high (Some until) = HoldsUntil holds first second high until

-- a lasts farther than b in the second cache, or as far there and farther in the first
abbrev pub is_farther : Until → Until → Bool
is_farther a b = lesser_number b.second a.second (nat_lt b.first a.first)

-- the one of two that lasts farther, where there are any
abbrev pub farther : Option Until → Option Until → Option Until
farther None b = b
farther (Some a) None = Some a
farther (Some a) (Some b) = if is_farther b a then Some b else Some a

-- it lasts up to the end of the range in both
abbrev pub lasts_throughout : ℕ → Option Until → Bool
lasts_throughout high None = false
lasts_throughout high (Some until) = nat_le high until.first && nat_le high until.second
