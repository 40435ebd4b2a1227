-- What a machine holds, and the steps that it made.
use Rattle.std.specs.Prelude.{◌≡◌, ℕ, ◌↔◌, ◌&&◌, ◌==◌, nat_lt, nat_le, Bool, true, false, List, [], ◌∷◌, Option, Some, None, IsSome, Contains, filter, find, map, option_and_then}
use Rattle.std.specs.BTreeMap.{BTreeMap, get}
use Rattle.base_types.specs.declared.kubernetes.key.ObjectKey.{ObjectKey}
use Rattle.clouds.specs.Kept.{key_order}
use Rattle.history_model.specs.Histories.{History, Version, Maker, Snapshot, ByEvent, Unknown}
use Rattle.history_model.specs.Machine.{Step, Put, after_all, snapshot_map, step_place}
use Rattle.history_model.specs.Readable.{IsReadable}
use Rattle.history_model.specs.States.{Map, latest}
use Rattle.serial_machine.specs.declared.machine.Machine.{Machine}
use Rattle.log_context.specs.Uses.{AreUsesOf}

-- the revision under a key, where the key is there and has one
abbrev pub held : Option (Option ℕ) → Option ℕ
held None = None
held (Some revision) = revision

-- the objects by the revisions that are held
abbrev pub objects_in : History → BTreeMap ObjectKey (Option ℕ) → Map
objects_in h objects key = option_and_then (λ revision. find (λ v. v.revision == revision) h.versions) (held (get key_order objects key))

-- each key that ever has an object has its place in the map, and no other
abbrev pub HasRooms : History → BTreeMap ObjectKey (Option ℕ) → Type 0
HasRooms h objects = (key : ObjectKey) → IsSome (get key_order objects key) ↔ ((v : Version) × Contains h.versions v × (v.key ≡ key))

-- the objects that are there: of each key the version of the revision that the machine holds
abbrev pub objects_of : History → Machine → Map
objects_of h machine = objects_in h machine.objects

abbrev pub has_no_maker : Maker → Bool
has_no_maker Snapshot = false
has_no_maker (ByEvent number) = false
has_no_maker Unknown = true

-- nobody of the log made the version, which comes behind the one place and not behind the other
abbrev pub is_unmade : ℕ → ℕ → Version → Bool
is_unmade low high v = has_no_maker v.maker && (nat_lt low v.revision && nat_le v.revision high)

abbrev pub unmade : History → ℕ → ℕ → List Version
unmade h low high = filter (is_unmade low high) h.versions

-- they are put one after the other
abbrev pub unmade_puts : History → ℕ → ℕ → List Step
unmade_puts h low high = map Put (unmade h low high)

abbrev pub or_else : Option Version → Option Version → Option Version
or_else None other = other
or_else (Some v) other = Some v

-- the objects that are there once the versions without a maker are put up to the place
abbrev pub objects_upto : History → Machine → ℕ → Map
objects_upto h machine place key = or_else (latest (unmade h machine.place place) key place) (objects_of h machine key)

-- where the last of the steps is
abbrev pub end_of_steps : ℕ → List Step → ℕ
end_of_steps start [] = start
end_of_steps start (step ∷ steps) = end_of_steps (step_place step) steps

-- the machine began with the snapshot and made these steps, one after the other
pub record HasMade (h : History) (machine : Machine) (done : List Step) : Type 0 where
  pub readable : IsReadable h
  pub objects : (key : ObjectKey) → objects_of h machine key ≡ after_all (snapshot_map h) done key
  pub rooms : HasRooms h machine.objects
  pub uses : AreUsesOf h machine.uses
  pub place : machine.place ≡ end_of_steps h.start done
